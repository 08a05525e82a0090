-- only branches are asked for, since in such a stretch nothing else is

use Rattle.std.proofs.Common.{Bool, true, false, not, List, [], ◌∷◌, filter, if◌then◌else◌}
use Rattle.std.specs.Prelude.{◌==◌}
use Rattle.world_model.specs.Words.{AddBranch, withdraws, Desk, Standing, Linked}
use Rattle.law_live_ease.specs.law_port_facts.ordered_lists.Ordered.{Every}
use Rattle.law_live_ease.proofs.law_port_facts.ordered_lists.Every.{every_join}
use Rattle.law_live_ease.specs.law_true_runs.Runs.{HoldsInRuns, IsWhole}
use Rattle.law_live_ease.specs.Binding.{StretchesBindOn}
use Rattle.law_live_cut_through.specs.Law.{AddsBranch}
use Rattle.law_live_cut_through.specs.Stretches.{StretchesAddBranches}
use Rattle.law_live_cut_through.proofs.RequestsKeeping.{Keeps}
use Rattle.law_live_cut_through.proofs.RequestsStretches.{stretch_keeps}

abbrev Adds : Standing → Type 0
Adds s = AddsBranch s.request

abbrev AddAlone : List Linked → Desk → Type 0
AddAlone ports desk = Every Adds desk.standing

-- *Of some of them* it is so too
some_add : (test : Standing → Bool) (standing : List Standing) → Every Adds standing → Every Adds (filter test standing)
some_add test [] each = tt
some_add test (s ∷ standing) each = by (test s) (some_add test standing each.1)
  where
    by : (b : Bool) → Every Adds (filter test standing) → Every Adds (if b then s ∷ filter test standing else filter test standing)
    by true rest = (each.0, rest)
    by false rest = rest

keeps : Keeps AddAlone
keeps = record {
  labels = λ ports desk linked new there same labels each. each;
  branch = λ ports desk input output each. every_join Adds (filter (λ (s : Standing). not (withdraws (AddBranch input output) s.request)) desk.standing)
      (record { number = desk.next; request = AddBranch input output } ∷ []) (some_add (λ (s : Standing). not (withdraws (AddBranch input output) s.request)) desk.standing each) (tt, tt);
  answer = λ ports desk s each. some_add (λ (other : Standing). not (other.number == s.number)) desk.standing each;
}

pub requests_add_branches : HoldsInRuns IsWhole → StretchesBindOn → StretchesAddBranches
requests_add_branches whole stretches policy topology before events s b alone front rest e node =
    stretch_keeps whole stretches AddAlone keeps node policy topology before events s b (alone node) front rest e
