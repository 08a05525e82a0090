use Rattle.std.proofs.Common.{◌≡◌, ◌++◌, ◌∙◌, append_assoc, append-nil, arith, None, Some, ap, sym}
use Rattle.fabric.specs.Following.{branch_behind}
use Rattle.tell_show.proofs.Branches.{all_lines, lines_behind, next_branch, next_counted, no_branch}
use Rattle.tell_show.proofs.switch.write_branches.Goals as goal

pub loop-input-init : goal.loop-input-init
loop-input-init c = ap (λ xs. c.args.out.now ++ xs) (all_lines c.args.names.now c.args.node c.args.switch.now.crossbar.branches)

pub loop-input-smaller : goal.loop-input-smaller
loop-input-smaller c =
    let found : branch_behind c.args.switch.now.crossbar.branches c.loop-input.after ≡ Some (c.in-Some.input, c.in-Some.output) = sym c.branch_at.ensures ∙ c.in-Some.is in
    omega (arith, next_counted c.args.switch.now.crossbar.branches c.loop-input.after (c.in-Some.input, c.in-Some.output) found)

pub loop-input-preserved : goal.loop-input-preserved
loop-input-preserved c =
    let t = c.args.names.now in
    let m = c.args.switch.now.crossbar.branches in
    let found : branch_behind m c.loop-input.after ≡ Some (c.in-Some.input, c.in-Some.output) = sym c.branch_at.ensures ∙ c.in-Some.is in
    ap (λ xs. xs ++ lines_behind t c.args.node m (Some c.in-Some.input)) c.in_ok-write_branch.ensures.ok
    ∙ append_assoc c.loop-input.out _ _
    ∙ ap (λ xs. c.loop-input.out ++ xs) (sym (next_branch t c.args.node m c.loop-input.after (c.in-Some.input, c.in-Some.output) found))
    ∙ c.loop-input.invariant

pub returns : goal.returns
returns c =
    let m = c.args.switch.now.crossbar.branches in
    let none : branch_behind m c.loop-input.after ≡ None = sym c.branch_at.ensures ∙ c.in_default.is in
    sym (append-nil c.loop-input.out) ∙ ap (λ xs. c.loop-input.out ++ xs) (sym (no_branch c.args.names.now c.args.node m c.loop-input.after none)) ∙ c.loop-input.invariant
