use Rattle.std.proofs.Common.{◌≡◌, ◌∙◌, arith, None, Some, sym}
use Rattle.fabric.specs.Following.{branch_behind}
use Rattle.tell_show.proofs.Branches.{all_counted, next_counted, none_counted}
use Rattle.tell_show.proofs.switch.count_branches.Goals as goal

pub loop-input-init : goal.loop-input-init
loop-input-init c = omega (arith, all_counted c.args.switch.now.crossbar.branches)

pub overflow_add-count : goal.overflow_add-count
overflow_add-count c =
    let m = c.args.switch.now.crossbar.branches in
    let found : branch_behind m c.loop-input.after ≡ Some (c.in-Some.input, c.in-Some.field-0-1) = sym c.branch_at.ensures ∙ c.in-Some.is in
    omega (arith, next_counted m c.loop-input.after _ found, c.loop-input.invariant, c.branches_are_few.ensures)

pub loop-input-smaller : goal.loop-input-smaller
loop-input-smaller c =
    let m = c.args.switch.now.crossbar.branches in
    let found : branch_behind m c.loop-input.after ≡ Some (c.in-Some.input, c.in-Some.field-0-1) = sym c.branch_at.ensures ∙ c.in-Some.is in
    omega (arith, next_counted m c.loop-input.after _ found)

pub loop-input-preserved : goal.loop-input-preserved
loop-input-preserved c =
    let m = c.args.switch.now.crossbar.branches in
    let found : branch_behind m c.loop-input.after ≡ Some (c.in-Some.input, c.in-Some.field-0-1) = sym c.branch_at.ensures ∙ c.in-Some.is in
    omega (arith, next_counted m c.loop-input.after _ found, c.loop-input.invariant)

pub returns : goal.returns
returns c =
    let m = c.args.switch.now.crossbar.branches in
    let none : branch_behind m c.loop-input.after ≡ None = sym c.branch_at.ensures ∙ c.in_default.is in
    omega (arith, none_counted m c.loop-input.after none, c.loop-input.invariant)
