-- From one controller to the next in a run: a packet that goes on is heard at the other end of the link

use Rattle.std.specs.Prelude.{◌≡◌, ℕ, true, false, List, [], ◌∷◌, ◌++◌, None, Some}
use Rattle.world_model.specs.Words.{Up, Policy, Mark, has_entry, next_mark, default_home, default_payload, onward, inject_refusal, Topology, is_empty, IsNode, past_of, IsRun, IsTame}
use Rattle.world_model.specs.Topology.{peer_of}
use Rattle.world_model.specs.network_model.declared.link.LinkEnd.{LinkEnd}
use Rattle.world_model.specs.network_model.declared.event.Event.{Event}
use Rattle.world_model.specs.network_model.declared.event.Event.TheVariants.{Carry}
use Rattle.law_live_carried_out.specs.law_run_facts.law_world_views.Fronts.{HasAddresses}
use Rattle.law_live_carried_out.specs.law_live_hearing.Law.{world_at, Hears}
use Rattle.law_live_carried_out.specs.law_live_bound.Law.{HoldsPacket}
use Rattle.law_live_journeys.specs.Law.{GoesOn, IsBrought}

-- *A stretch of a run* before the first frame that was forged or passes by chance, in whose end all links are empty
pub record IsStretch (policy : Policy) (topology : Topology) (past events : List Event) : Type 0 where
  pub run : IsRun policy topology (past ++ events)
  pub addresses : HasAddresses topology
  pub tame : IsTame (past_of policy topology (past ++ events)).records
  pub empties : is_empty (world_at policy topology (past ++ events)) ≡ true

-- *The packet comes to an end of a link* in it: at a carry behind a front of the events the controller is brought its frame, and
-- hears it on the default channel of the port
pub record ComesTo (policy : Policy) (topology : Topology) (past events : List Event) (far : LinkEnd) (mark : Mark) (packet : List ℕ) : Type 0 where
  pub front : List Event
  pub rest : List Event
  pub are : events ≡ front ++ Carry (Up far.node) ∷ rest
  pub brought : IsBrought topology (world_at policy topology (past ++ front)) far mark packet
  pub heard : Hears topology (world_at policy topology (past ++ front)) far.node (default_home far.port).channel mark (default_payload packet)
  pub holds : HoldsPacket (default_payload packet) packet

-- *So does each that goes on* in the first event of a stretch, where in the end the ledger has no entry of its frame
abbrev pub HopsAreHeard : Type 0
HopsAreHeard = (policy : Policy) (topology : Topology) (past events : List Event) (event : Event) (one far : LinkEnd) (came : Mark) (packet : List ℕ)
    → IsStretch policy topology past (event ∷ events) → IsNode topology one.node → peer_of topology one.node one.port ≡ Some far
    → inject_refusal packet ≡ None → GoesOn topology (world_at policy topology past) event one came packet
    → has_entry (world_at policy topology (past ++ event ∷ events)).notes.entries (next_mark came) ≡ false
    → ComesTo policy topology (past ++ event ∷ []) events far (next_mark came) (onward packet)
