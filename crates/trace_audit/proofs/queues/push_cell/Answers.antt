use Rattle.std.proofs.Common.{◌≡◌, ◌∙◌, Bool, true, false, cond, List, [], ◌∷◌, ◌++◌, Option, None, Some, Result, Ok, Err, is_some, refl, sym, ap, subst}
use Rattle.std.specs.Prelude.{OnErr}
use Rattle.std.specs.Option.{option_map_or}
use Rattle.indexmap.specs.IndexMap.{get}
use Rattle.trace_model.specs.declared.cell.TraceCell.{TraceCell}
use Rattle.trace_model.specs.declared.end.TraceEnd.{TraceEnd}
use Rattle.trace_model.specs.Ends.{same_end}
use Rattle.trace_model.proofs.Same.{is_end}
use Rattle.trace_audit.specs.Counted.{Cells, cells_in}
use Rattle.trace_audit.proofs.queues.push_cell.Goals as goal

abbrev items : Option (List TraceCell) → List TraceCell
items found = option_map_or (λ (queue : List TraceCell). queue) found []

-- a queue that isn't there yet
fresh : (old new : Cells) (end : TraceEnd) (queue : List TraceCell) (cell : TraceCell) → None ≡ get same_end old end → queue ≡ cell ∷ []
    → ((at : TraceEnd) → get same_end new at ≡ cond (same_end end at) (Some queue) (get same_end old at))
    → (at : TraceEnd) → cells_in new at ≡ cond (same_end end at) (cells_in old at ++ cell ∷ []) (cells_in old at)
fresh old new end queue cell none alone updates at = ap items (updates at) ∙ by (same_end end at) refl where
  by : (b : Bool) → same_end end at ≡ b → items (cond b (Some queue) (get same_end old at)) ≡ cond b (cells_in old at ++ cell ∷ []) (cells_in old at)
  by true s =
      let empty : items None ≡ cells_in old at = ap items (subst (λ (x : TraceEnd). None ≡ get same_end old x) (is_end end at s) none) in
      alone ∙ ap (λ (cells : List TraceCell). cells ++ cell ∷ []) empty
  by false s = refl

-- a queue that stays as it was
unmoved : (old new : Cells) (end : TraceEnd) (queue kept : List TraceCell) → Some queue ≡ get same_end old end → kept ≡ queue
    → ((at : TraceEnd) → get same_end new at ≡ cond (same_end end at) (Some kept) (get same_end old at))
    → (at : TraceEnd) → cells_in new at ≡ cells_in old at
unmoved old new end queue kept there same updates at = ap items (updates at) ∙ by (same_end end at) refl where
  by : (b : Bool) → same_end end at ≡ b → items (cond b (Some kept) (get same_end old at)) ≡ cells_in old at
  by true s = same ∙ ap items (subst (λ (x : TraceEnd). Some queue ≡ get same_end old x) (is_end end at s) there)
  by false s = refl

on_err : {A E : Type 0} {X : Type 0} (answer : Result A E) → X → OnErr answer X
on_err (Ok value) x = tt
on_err (Err fault) x = x

pub returns-in_err-push-in-Some-clause-err : goal.returns-in_err-push-in-Some-clause-err
returns-in_err-push-in-Some-clause-err c =
    let old = c.args.cells.now in
    let there = c.in-Some.ensures.value in
    let held = c.get_mut.follows.holds c.push.new.self in
    on_err c.from_residual.result
    (unmoved old (c.get_mut.follows.lender c.push.new.self) c.args.end c.in-Some.queue.now c.push.new.self there c.in_err-push-in-Some.ensures.err
    (held.3 (sym (ap is_some there))).0)

pub returns-in_ok-insert-in-None-clause-ok : goal.returns-in_ok-insert-in-None-clause-ok
returns-in_ok-insert-in-None-clause-ok c =
    let same = c.get_mut.follows.holds-at-none in
    let end = c.args.end in
    let cell = c.args.cell in
    let queue = c.push-in-None.new.self in
    let new = c.insert.new.self in
    subst (λ (m : Cells). (at : TraceEnd) → cells_in new at ≡ cond (same_end end at) (cells_in m at ++ cell ∷ []) (cells_in m at)) same
    (fresh c.get_mut.follows.lender-at-none new end queue cell
    (subst (λ (m : Cells). None ≡ get same_end m end) (sym same) c.in-None.ensures.value)
    (c.in_ok-push-in-None.ensures.ok ∙ ap (λ (cells : List TraceCell). cells ++ cell ∷ []) c.new-queue.ensures)
    c.in_ok-insert-in-None.ensures.updates.0)
