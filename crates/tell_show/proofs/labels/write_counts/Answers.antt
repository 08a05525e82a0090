use Rattle.std.proofs.Common.{◌≡◌, ◌++◌, ◌∙◌, ◌∷◌, [], append_assoc, append-nil, arith, length, ap, sym}
use Rattle.tell_show.proofs.Counts.{all_counts, next_count, pair_lines}
use Rattle.tell_show.proofs.labels.write_counts.Goals as goal

pub loop-flow-init : goal.loop-flow-init
loop-flow-init c =
    ap (λ xs. c.args.out.now ++ xs) (ap (pair_lines c.args.names.now c.args.node c.args.port) c.flows-flows.ensures ∙ all_counts c.args.names.now c.args.node c.args.port c.args.counted.now.counts)

pub loop-flow-smaller : goal.loop-flow-smaller
loop-flow-smaller c =
    let step : c.loop-flow.flows ≡ (c.in-Some.flow, c.in-Some.packets) ∷ c.next.new.self = c.in-Some.ensures.steps in
    omega (arith, ap length step)

pub loop-flow-preserved : goal.loop-flow-preserved
loop-flow-preserved c =
    let t = c.args.names.now in
    let step : c.loop-flow.flows ≡ (c.in-Some.flow, c.in-Some.packets) ∷ c.next.new.self = c.in-Some.ensures.steps in
    ap (λ xs. xs ++ pair_lines t c.args.node c.args.port c.next.new.self) c.in_ok-write_count.ensures.ok
    ∙ append_assoc c.loop-flow.out _ _
    ∙ ap (λ xs. c.loop-flow.out ++ xs) (sym (next_count t c.args.node c.args.port c.loop-flow.flows c.next.new.self (c.in-Some.flow, c.in-Some.packets) step))
    ∙ c.loop-flow.invariant

pub returns : goal.returns
returns c =
    let none : c.loop-flow.flows ≡ [] = (rw c.in_default.is at c.next.ensures).steps.0 in
    sym (append-nil c.loop-flow.out) ∙ ap (λ xs. c.loop-flow.out ++ xs) (sym (ap (pair_lines c.args.names.now c.args.node c.args.port) none)) ∙ c.loop-flow.invariant
