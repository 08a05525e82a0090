-- a network in lasting peace through a beat, and through beats one behind another

use Rattle.std.proofs.Common.{List, [], ◌∷◌, ◌++◌, sym, subst}
use Rattle.world_model.specs.Words.{Policy, Topology, World}
use Rattle.world_model.specs.network_model.declared.event.Event.{Event}
use Rattle.live_model.specs.Beats.{Beat, settling, settled}
use Rattle.law_live_calm_nodes.specs.law_true_runs.Runs.{HoldsInRuns, IsWhole}
use Rattle.law_live_calm_nodes.specs.law_live_hearing.Law.{world_at}
use Rattle.law_live_calm_nodes.proofs.Networks.{rests_in_peace}
use Rattle.law_live_lasting.specs.Law.{IsLastingPeace, IsLastingBeat, DesksAreEmptied, LastingBeatsAreOfPeace, LastingPeaceLasts}
use Rattle.law_live_lasting.proofs.Desks.{is_now, of_peace, none_stands, listens_behind}

pub desks_are_emptied : HoldsInRuns IsWhole → DesksAreEmptied
desks_are_emptied whole policy topology before beat p b node inside = none_stands whole policy topology before beat p b node inside

pub lasting_beats_are_of_peace : HoldsInRuns IsWhole → LastingBeatsAreOfPeace
lasting_beats_are_of_peace whole policy topology before beat p b = of_peace whole policy topology before beat p b

rests : HoldsInRuns IsWhole → (policy : Policy) (topology : Topology) (before : List Event) (beat : Beat) → IsLastingPeace topology (world_at policy topology before)
    → IsLastingBeat policy topology before beat → IsLastingPeace topology (settled topology (world_at policy topology before) beat)
rests whole policy topology before beat p b = record {
  peace = rests_in_peace whole policy topology before beat p.peace (of_peace whole policy topology before beat p b);
  nothing_stands = none_stands whole policy topology before beat p b;
  heard = listens_behind whole policy topology before beat p b;
}

-- *Beat by beat*
pub lasting_peace_lasts : HoldsInRuns IsWhole → LastingPeaceLasts
lasting_peace_lasts whole policy topology before [] p are = p
lasting_peace_lasts whole policy topology before (beat ∷ beats) p are =
    let w : World = world_at policy topology before in
    lasting_peace_lasts whole policy topology (before ++ settling w beat) beats
    (subst (IsLastingPeace topology) (sym (is_now whole policy topology before beat p are.0 (settling w beat))) (rests whole policy topology before beat p are.0)) are.1
