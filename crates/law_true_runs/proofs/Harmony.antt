-- nothing is refused, and nothing disowns a label, from event to event

use Rattle.std.proofs.Common.{◌≡◌, false, List, [], ◌++◌, sym, ap, subst}
use Rattle.std.specs.List.{list_any}
use Rattle.world_model.specs.Words.{Record, past_of, is_bad, IsInHarmony}
use Rattle.law_run_facts.specs.law_world_views.Kept.{Begins, behind}
use Rattle.law_run_facts.specs.Steps.{EventsAreSteps}
use Rattle.law_packet_worlds.proofs.Lists.{none_join}
use Rattle.law_packet_worlds.proofs.Fated.{opened_notes}
use Rattle.law_control_places.specs.Refused.{NothingIsRefused}
use Rattle.law_told_worlds.specs.Disowned.{EventsDisownNothing, OpeningsDisownNothing}
use Rattle.law_true_runs.proofs.Kept.{KeepsWhole}

pub harmony_kept : EventsAreSteps → NothingIsRefused → EventsDisownNothing → KeepsWhole IsInHarmony
harmony_kept steps refused disowns policy topology before event comes w = record {
  none_bad = subst (λ (items : List Record). list_any is_bad items ≡ false) (sym (steps policy topology before event).records)
      (none_join is_bad (past_of policy topology before).records (behind policy topology before event).now.notes.records w.harmony.none_bad
      (refused policy topology before event comes w.world w.places));
  none_disowned = disowns policy topology before event comes w.world w.harmony.none_disowned;
}

pub harmony_begins : OpeningsDisownNothing → Begins IsInHarmony
harmony_begins disowns policy topology is addresses = record {
  none_bad = ap (λ notes. list_any is_bad (notes.records ++ [])) (opened_notes policy topology);
  none_disowned = disowns policy topology is addresses;
}
