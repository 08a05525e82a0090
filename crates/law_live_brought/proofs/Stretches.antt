-- each carry of a stretch of a run is one by which both ends bind on

use Rattle.std.proofs.Common.{◌≡◌, List, ◌∷◌, ◌++◌, append_assoc, map, sym, ◌∙◌, ap, subst}
use Rattle.std.proofs.lemmas.List.{map-append}
use Rattle.world_model.specs.Words.{Place, World, world_after, past_of}
use Rattle.world_model.specs.World.{opened}
use Rattle.world_model.specs.network_model.declared.event.Event.{Event}
use Rattle.world_model.specs.network_model.declared.event.Event.TheVariants.{Carry}
use Rattle.law_live_binding_beats.specs.law_run_facts.law_world_views.Between.{IsWorld}
use Rattle.law_live_binding_beats.specs.law_run_facts.law_world_views.Kept.{Comes}
use Rattle.law_live_binding_beats.specs.law_true_runs.Runs.{HoldsInRuns, IsWhole}
use Rattle.law_live_binding_beats.proofs.law_true_runs.Walk.{holds_at, comes_at}
use Rattle.law_live_binding_beats.specs.law_live_hearing.Law.{world_at}
use Rattle.law_live_binding_beats.proofs.law_live_hearing.Going.{after_all}
use Rattle.law_live_binding_beats.specs.Law.{BindByQueues, IsBindingCarry}
use Rattle.law_live_brought.specs.Carries.{IsMomentToBind, StretchesBind}
use Rattle.law_live_brought.proofs.Carries.{carries_bind}

pub stretches_bind : HoldsInRuns IsWhole → StretchesBind
stretches_bind whole policy topology before one far places of_run moments front rest place e ends = bound ends (moments front rest place e ends)
  where
    past : List Event
    past = before ++ map Carry front

    split : before ++ map Carry places ≡ past ++ Carry place ∷ map Carry rest
    split = ap (λ (ps : List Place). before ++ map Carry ps) e
        ∙ (ap (λ (es : List Event). before ++ es) (map-append Carry front (place ∷ rest)) ∙ sym (append_assoc before (map Carry front) (Carry place ∷ map Carry rest)))

    comes : Comes policy topology past (Carry place)
    comes = comes_at policy topology of_run.addresses (before ++ map Carry places) past (map Carry rest) (Carry place) of_run.run of_run.tame split

    world : IsWorld (past_of policy topology past)
    world = (holds_at policy topology of_run.addresses IsWhole whole (before ++ map Carry places) past (Carry place ∷ map Carry rest) of_run.run of_run.tame split).world

    bound : (there : BindByQueues (world_after topology (world_at policy topology before) (map Carry front)) one far) → IsMomentToBind topology there place → IsBindingCarry topology there place
    bound = subst (λ (v : World). (there : BindByQueues v one far) → IsMomentToBind topology there place → IsBindingCarry topology there place)
        (after_all topology (opened policy topology) before (map Carry front)) (carries_bind policy topology past one far place comes world)
