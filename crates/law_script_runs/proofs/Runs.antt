-- events that can come one after the other make a run longer

use Rattle.std.proofs.Common.{◌≡◌, ◌+◌, ◌<◌, List, [], ◌∷◌, ◌++◌, length, refl, sym, ap, subst, arith, append_assoc, append-nil}
use Rattle.law_run_facts.specs.ordered_lists.Ordered.{Every}
use Rattle.world_model.specs.Words.{Policy, Topology, CanCome, World, next, world_after, IsRun}
use Rattle.world_model.specs.network_model.declared.event.Event.{Event}
use Rattle.world_model.specs.World.{opened}
use Rattle.law_script_runs.proofs.Lines.{IsMeant}

-- each of them can come behind those before it
abbrev pub AllCome : Topology → World → List Event → Type 0
AllCome t w [] = Unit {0}
AllCome t w (event ∷ events) = CanCome t w event × AllCome t (next t w event) events

after_one : (t : Topology) (w : World) (before : List Event) (event : Event) → world_after t w (before ++ event ∷ []) ≡ next t (world_after t w before) event
after_one t w [] event = refl
after_one t w (first ∷ before) event = after_one t (next t w first) before event

pub after_more : (t : Topology) (w : World) (before more : List Event) → world_after t w (before ++ more) ≡ world_after t (world_after t w before) more
after_more t w [] more = refl
after_more t w (first ∷ before) more = after_more t (next t w first) before more

-- events that are of the topology, where there are few
pub all_come : (t : Topology) (events : List Event) (w : World) → Every (IsMeant t) events → w.events + length events < 100000000 → AllCome t w events
all_come t [] w meant few = tt
all_come t (event ∷ events) w meant few =
    (record { few = omega (arith, few); meant = meant.0 w }, all_come t events (next t w event) meant.1 (omega (arith, few)))

-- *The last event* of a list, or one before it
snoc_cases : {P : Type 0} (xs before after : List Event) (x event : Event) → xs ++ x ∷ [] ≡ before ++ event ∷ after → ((rest : List Event) → xs ≡ before ++ event ∷ rest → P) → (xs ≡ before → x ≡ event → P) → P
snoc_cases [] [] after x event e in_front last = (let same : x ≡ event = cc in last refl same)
snoc_cases [] (y ∷ []) after x event e in_front last = absurd (cc e)
snoc_cases [] (y ∷ z ∷ before) after x event e in_front last = absurd (cc e)
snoc_cases (y ∷ xs) [] after x event e in_front last = (let same : y ≡ event = cc in in_front xs (ap (λ (z : Event). z ∷ xs) same))
snoc_cases (y ∷ xs) (z ∷ before) after x event e in_front last =
    let same : y ≡ z = cc in
    let rest : xs ++ x ∷ [] ≡ before ++ event ∷ after = cc in
    snoc_cases xs before after x event rest (λ others is. in_front others (λ i. same i ∷ is i)) (λ is own. last (λ i. same i ∷ is i) own)

pub run_one : (policy : Policy) (t : Topology) (before : List Event) (event : Event) → IsRun policy t before → CanCome t (world_after t (opened policy t) before) event → IsRun policy t (before ++ event ∷ [])
run_one policy t before event run can = record {
  topology_is = run.topology_is;
  each = λ front after other e. snoc_cases before front after event other e (λ rest is. run.each front rest other is)
      (λ is own. subst (λ (x : Event). CanCome t (world_after t (opened policy t) front) x) own (subst (λ (es : List Event). CanCome t (world_after t (opened policy t) es) event) is can));
}

pub run_more : (policy : Policy) (t : Topology) (more before : List Event) → IsRun policy t before → AllCome t (world_after t (opened policy t) before) more → IsRun policy t (before ++ more)
run_more policy t [] before run all = subst (IsRun policy t) (sym (append-nil before)) run
run_more policy t (event ∷ more) before run all = subst (IsRun policy t) (append_assoc before (event ∷ []) more)
    (run_more policy t more (before ++ event ∷ []) (run_one policy t before event run all.0)
    (subst (λ (w : World). AllCome t w more) (sym (after_one t (opened policy t) before event)) all.1))
