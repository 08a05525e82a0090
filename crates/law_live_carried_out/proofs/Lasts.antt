-- a network in mirrored peace through beats one behind another

use Rattle.std.proofs.Common.{List, [], ◌∷◌, ◌++◌, append-nil, sym, subst}
use Rattle.world_model.specs.Words.{NodeId, Policy, Topology, World}
use Rattle.world_model.specs.network_model.declared.event.Event.{Event}
use Rattle.world_model.specs.network_model.declared.event.Event.TheVariants.{Inject, Carry, Lose, Tick, TickSwitch, Restart, RestartSwitch, Forge, Route}
use Rattle.live_model.specs.Beats.{Beat, settling}
use Rattle.law_live_joining_beats.specs.law_true_runs.Runs.{HoldsInRuns, IsWhole}
use Rattle.law_live_joining_beats.specs.law_live_hearing.Law.{world_at}
use Rattle.law_live_joining_beats.specs.law_live_control_links.Law.{CarriesOutNext}
use Rattle.law_live_joining_beats.specs.law_live_calm_nodes.Networks.{ComesInPeace}
use Rattle.law_live_joining_beats.specs.law_live_mirrored_worlds.Way.{IsMirroredIn}
use Rattle.law_live_joining_beats.specs.law_live_lasting.Law.{IsLastingBeat}
use Rattle.law_live_joining_beats.proofs.law_live_lasting.Lasts.{lasting_peace_lasts}
use Rattle.law_live_carried_out.specs.Law.{IsMirroredPeace, BringsForOthers, IsMirroredBeat, MirroredBeatsAreLasting, MirroredPeaceLasts}
use Rattle.law_live_carried_out.proofs.Ticks.{is_now}
use Rattle.law_live_carried_out.proofs.Beats.{calmly_mirrored, carried_out}

-- *Each event* is one of a beat of peace
comes_so : (topology : Topology) (v : World) (event : Event) → BringsForOthers topology v event → ((node : NodeId) → CarriesOutNext v node) → ComesInPeace topology v event
comes_so topology v (Carry place) others carried = record { others = others; carried_out = carried }
comes_so topology v (Inject here octets) others carried = tt
comes_so topology v (Lose place) others carried = tt
comes_so topology v (Tick here) others carried = tt
comes_so topology v (TickSwitch here) others carried = tt
comes_so topology v (Restart here) others carried = tt
comes_so topology v (RestartSwitch here) others carried = tt
comes_so topology v (Forge place channel payload) others carried = tt
comes_so topology v (Route here change) others carried = tt

module _ (whole : HoldsInRuns IsWhole) (policy : Policy) (topology : Topology) (before : List Event) (beat : Beat)
    (m : IsMirroredPeace topology (world_at policy topology before)) (b : IsMirroredBeat policy topology before beat) where
  abbrev w : World
  w = world_at policy topology before

  lasting : IsLastingBeat policy topology before beat
  lasting = record {
    run = b.run;
    addresses = b.addresses;
    tame = b.tame;
    room = b.room;
    unlost = b.unlost;
    carries = λ front rest event e. comes_so topology _ event (b.others front rest event e) (carried_out whole policy topology before beat m b front (event ∷ rest) e);
    unspent = b.unspent;
    settles = b.settles;
  }

  abbrev later : List Event
  later = before ++ settling w beat

  behind : IsMirroredPeace topology (world_at policy topology later)
  behind = record {
    lasting = lasting_peace_lasts whole policy topology before (beat ∷ []) m.lasting (lasting, tt);
    mirrored = λ node inside. subst (λ (v : World). IsMirroredIn v node) (sym (is_now whole policy topology before beat m b (settling w beat)))
        (calmly_mirrored whole policy topology before beat m b node inside (settling w beat) [] (sym (append-nil (settling w beat)))).mirrored;
  }

pub mirrored_beats_are_lasting : HoldsInRuns IsWhole → MirroredBeatsAreLasting
mirrored_beats_are_lasting whole policy topology before beat m b = lasting whole policy topology before beat m b

-- *Beat by beat*
pub mirrored_peace_lasts : HoldsInRuns IsWhole → MirroredPeaceLasts
mirrored_peace_lasts whole policy topology before [] m are = m
mirrored_peace_lasts whole policy topology before (beat ∷ beats) m are =
    mirrored_peace_lasts whole policy topology (before ++ settling (world_at policy topology before) beat) beats (behind whole policy topology before beat m are.0) are.1
