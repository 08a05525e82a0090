-- the parts of what is so of every network, put together: each is kept from all of them

use Rattle.std.specs.Prelude.{List}
use Rattle.world_model.specs.Words.{Policy, Topology, Past, past_of, IsInHarmony}
use Rattle.world_model.specs.network_model.declared.event.Event.{Event}
use Rattle.law_run_facts.specs.law_world_views.Between.{HasAllShapes, HasAllPortsUp, HasAllNumbers, HasAllReady, HasAllMade, HasAllLabels, HasAllInputs, HasAllUsers, HasAllCleared, HasAllJoins, HasAllLedOnce, HasAllHops, HasAllPassed}
use Rattle.law_run_facts.specs.law_world_views.Kept.{Comes, Keeps, Begins, behind}
use Rattle.law_packet_worlds.specs.Law.{HasPackets}
use Rattle.law_passed_cells.specs.Passed.{HasRequests}
use Rattle.law_ownership.specs.Places.{HasPlaces}
use Rattle.law_true_runs.specs.Runs.{IsWhole}
use Rattle.law_true_runs.proofs.Walk.{KeepsItself}

-- a part that is kept from the whole before it
abbrev pub KeepsWhole : (Past → Type 0) → Type 0
KeepsWhole Part = (policy : Policy) (topology : Topology) (before : List Event) (event : Event) → Comes policy topology before event
    → IsWhole (past_of policy topology before) → Part (behind policy topology before event)

abbrev pub whole_of : (Part : Past → Type 0) → Keeps Part → KeepsWhole Part
whole_of Part keeps policy topology before event comes w = keeps policy topology before event comes w.world

-- what cells have passed, with where requests wait
abbrev pub HasPassedOn : Past → Type 0
HasPassedOn past = HasAllPassed past × HasRequests past

-- what keeps each part
pub record AreKept : Type 0 where
  pub shapes : KeepsWhole HasAllShapes
  pub ports_up : KeepsWhole HasAllPortsUp
  pub numbers : KeepsWhole HasAllNumbers
  pub ready : KeepsWhole HasAllReady
  pub made : KeepsWhole HasAllMade
  pub labels : KeepsWhole HasAllLabels
  pub inputs : KeepsWhole HasAllInputs
  pub users : KeepsWhole HasAllUsers
  pub cleared : KeepsWhole HasAllCleared
  pub joins : KeepsWhole HasAllJoins
  pub once : KeepsWhole HasAllLedOnce
  pub hops : KeepsWhole HasAllHops
  pub passed : KeepsWhole HasPassedOn
  pub packets : KeepsWhole HasPackets
  pub places : KeepsWhole HasPlaces
  pub harmony : KeepsWhole IsInHarmony

pub whole_kept : AreKept → KeepsItself IsWhole
whole_kept k policy topology before event comes w =
    let packets = k.packets policy topology before event comes w in
    let passed = k.passed policy topology before event comes w in
    record {
      world = record {
        shapes = k.shapes policy topology before event comes w;
        ports_up = k.ports_up policy topology before event comes w;
        numbers = k.numbers policy topology before event comes w;
        ready = k.ready policy topology before event comes w;
        made = k.made policy topology before event comes w;
        labels = k.labels policy topology before event comes w;
        inputs = k.inputs policy topology before event comes w;
        users = k.users policy topology before event comes w;
        cleared = k.cleared policy topology before event comes w;
        joins = k.joins policy topology before event comes w;
        once = k.once policy topology before event comes w;
        hops = k.hops policy topology before event comes w;
        passed = passed.0;
        meanings = packets.meanings;
        packets = packets.packets;
      };
      channels = packets.channels;
      requests = passed.1;
      places = k.places policy topology before event comes w;
      harmony = k.harmony policy topology before event comes w;
    }

-- and each is so at the opening
pub record DoBegin : Type 0 where
  pub shapes : Begins HasAllShapes
  pub ports_up : Begins HasAllPortsUp
  pub numbers : Begins HasAllNumbers
  pub ready : Begins HasAllReady
  pub made : Begins HasAllMade
  pub labels : Begins HasAllLabels
  pub inputs : Begins HasAllInputs
  pub users : Begins HasAllUsers
  pub cleared : Begins HasAllCleared
  pub joins : Begins HasAllJoins
  pub once : Begins HasAllLedOnce
  pub hops : Begins HasAllHops
  pub passed : Begins HasAllPassed
  pub requests : Begins HasRequests
  pub packets : Begins HasPackets
  pub places : Begins HasPlaces
  pub harmony : Begins IsInHarmony

pub whole_begins : DoBegin → Begins IsWhole
whole_begins b policy topology is addresses =
    let packets = b.packets policy topology is addresses in
    record {
      world = record {
        shapes = b.shapes policy topology is addresses;
        ports_up = b.ports_up policy topology is addresses;
        numbers = b.numbers policy topology is addresses;
        ready = b.ready policy topology is addresses;
        made = b.made policy topology is addresses;
        labels = b.labels policy topology is addresses;
        inputs = b.inputs policy topology is addresses;
        users = b.users policy topology is addresses;
        cleared = b.cleared policy topology is addresses;
        joins = b.joins policy topology is addresses;
        once = b.once policy topology is addresses;
        hops = b.hops policy topology is addresses;
        passed = b.passed policy topology is addresses;
        meanings = packets.meanings;
        packets = packets.packets;
      };
      channels = packets.channels;
      requests = b.requests policy topology is addresses;
      places = b.places policy topology is addresses;
      harmony = b.harmony policy topology is addresses;
    }
