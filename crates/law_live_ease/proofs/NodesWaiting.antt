-- no change of routes waits behind a carry of a run where none waited before it

use Rattle.std.proofs.Common.{◌≡◌, ℕ, zero, suc, ◌≤◌, List, [], ◌∷◌, ◌++◌, append-nil, length, drop, Option, None, Some, refl, sym, ◌∙◌, ap, subst, arith}
use Rattle.std.specs.Option.{option_map_or}
use Rattle.world_model.specs.Words.{NodeId, Policy, Place, RouteChange, Controller, Topology, Node, node_at, changes_of, World, controller_at, next}
use Rattle.world_model.specs.World.{opened}
use Rattle.world_model.specs.network_model.declared.event.Event.{Event}
use Rattle.world_model.specs.network_model.declared.event.Event.TheVariants.{Carry}
use Rattle.law_live_journeys.proofs.law_running_worlds.law_run_facts.Steps.{after_one}
use Rattle.law_live_journeys.specs.law_told_tables.Tables.{HoldsTold, IsToldNode}
use Rattle.law_live_journeys.proofs.law_told_tables.Lists.{changes_split}
use Rattle.law_live_journeys.proofs.law_told_tables.Runs.{tables_are_told}
use Rattle.law_live_journeys.specs.law_live_hearing.Law.{world_at}

all_dropped : {A : Type 0} (n : ℕ) (xs : List A) → drop n xs ≡ [] → length xs ≤ n
all_dropped zero [] e = omega arith
all_dropped zero (x ∷ xs) e = absurd (cc e)
all_dropped (suc n) [] e = omega arith
all_dropped (suc n) (x ∷ xs) e = omega (arith, all_dropped n xs e)

none_left : {A : Type 0} (n : ℕ) (xs : List A) → length xs ≤ n → drop n xs ≡ []
none_left zero [] most = refl
none_left zero (x ∷ xs) most = absurd (omega (arith, most))
none_left (suc n) [] most = refl
none_left (suc n) (x ∷ xs) most = none_left n xs (omega (arith, most))

module _ (policy : Policy) (topology : Topology) (node : NodeId) where
  -- *A carry brings no change*
  same_changes : (before : List Event) (place : Place) → changes_of node (before ++ Carry place ∷ []) ≡ changes_of node before
  same_changes [] place = refl
  same_changes (event ∷ before) place = changes_split node event (before ++ Carry place ∷ [])
      ∙ (ap (λ (changes : List RouteChange). changes_of node (event ∷ []) ++ changes) (same_changes before place) ∙ sym (changes_split node event before))

  -- *Its controller* holds what it was told
  holds : (before : List Event) (c : Controller) → controller_at (world_at policy topology before) node ≡ Some c → HoldsTold topology before node c
  holds before c e = by (node_at topology node) (subst (IsToldNode topology before node (node_at topology node)) e ((tables_are_told policy topology before).tables before [] (sym (append-nil before)) node))
    where
      by : (own : Option Node) → IsToldNode topology before node own (Some c) → HoldsTold topology before node c
      by None h = absurd h
      by (Some own) h = h

  pub none_waits : (before : List Event) (place : Place) (c d : Controller) → controller_at (world_at policy topology before) node ≡ Some c
      → controller_at (next topology (world_at policy topology before) (Carry place)) node ≡ Some d → c.waiting ≡ [] → d.waiting ≡ []
  none_waits before place c d was now none =
      let more : List Event = before ++ Carry place ∷ [] in
      let old : HoldsTold topology before node c = holds before c was in
      let new : HoldsTold topology more node d = holds more d (ap (λ (u : World). controller_at u node) (after_one topology (opened policy topology) before (Carry place)) ∙ now) in
      let rises : option_map_or (λ (x : Controller). x.changes) (controller_at (world_at policy topology before) node) 0
      ≤ option_map_or (λ (x : Controller). x.changes) (controller_at (next topology (world_at policy topology before) (Carry place)) node) 0 =
      ((tables_are_told policy topology more).records before [] (Carry place) refl node).rises in
      let all : length (changes_of node before) ≤ c.changes = all_dropped c.changes (changes_of node before) (sym old.waiting ∙ none) in
      let had : option_map_or (λ (x : Controller). x.changes) (controller_at (world_at policy topology before) node) 0 ≡ c.changes = ap (λ (o : Option Controller). option_map_or (λ (x : Controller). x.changes) o 0) was in
      let has : option_map_or (λ (x : Controller). x.changes) (controller_at (next topology (world_at policy topology before) (Carry place)) node) 0 ≡ d.changes =
      ap (λ (o : Option Controller). option_map_or (λ (x : Controller). x.changes) o 0) now in
      new.waiting ∙ (ap (drop d.changes) (same_changes before place) ∙ none_left d.changes (changes_of node before) (omega (arith, all, rises, had, has)))
