use Rattle.std.proofs.Common.{◌≡◌, ◌∙◌, ◌+◌, ◌<◌, ◌++◌, ◌∷◌, [], sym, ap, length, take, get_or, arith}
use Rattle.std.proofs.Math.ListN.{length-set}
use Rattle.std.proofs.lemmas.List.{take_all, take_more}
use Rattle.world_model.specs.controller_model.declared.range.PortRange.{PortRange}
use Rattle.controller_link.proofs.Blocks.{HasEach, count_push, each_push, few_ports, fresh_port, link_port, place_below}
use Rattle.controller_link.proofs.layout.Layout.open.Goals as goal

pub bounds-blocks-range : goal.bounds-blocks-range
bounds-blocks-range c =
    let d : PortRange = record { port = record { 0 = 0 }; lo = 0; hi = 0 } in
    let port = link_port c.args.ports.now c.loop-range.range-index d c.requires.ports c.loop-range-test.true in
    omega (arith, port.1)

pub overflow_add-count : goal.overflow_add-count
overflow_add-count c =
    let d : PortRange = record { port = record { 0 = 0 }; lo = 0; hi = 0 } in
    let port = link_port c.args.ports.now c.loop-range.range-index d c.requires.ports c.loop-range-test.true in
    let below = place_below c.args.ports.now c.loop-range.range-index d c.requires.ports c.loop-range-test.true in
    let small = c.loop-range.invariant.small in
    omega (arith, port.1, below, small, c.width-count.ensures.most)

pub loop-range-preserved : goal.loop-range-preserved
loop-range-preserved c =
    let d : PortRange = record { port = record { 0 = 0 }; lo = 0; hi = 0 } in
    let ports = c.args.ports.now in
    let i = c.loop-range.range-index in
    let r : PortRange = get_or ports i d in
    let within : i < length ports = c.loop-range-test.true in
    let more : take (i + 1) ports ≡ take i ports ++ r ∷ [] = take_more ports i d within in
    let port = link_port ports i d c.requires.ports within in
    let each : HasEach (take i ports ++ r ∷ []) _ = each_push (take i ports) r c.loop-range.blocks c.loop-range.count (omega (arith, port.1, c.loop-range.invariant.nine)) (fresh_port ports i d c.requires.ports within) c.loop-range.invariant.counted c.loop-range.invariant.each in
    record {
      kept = c.in_ok-push.ensures.items ∙ ap (λ xs. xs ++ r ∷ []) c.loop-range.invariant.kept ∙ sym more;
      counted = rw (more, count_push (take i ports) r) (omega (arith, c.loop-range.invariant.counted, c.width-count.ensures.width));
      small = omega (arith, c.loop-range.invariant.small, c.width-count.ensures.most);
      nine = length-set c.loop-range.blocks r.port.0 _ ∙ c.loop-range.invariant.nine;
      each = rw more each;
    }

pub invariant_of-result : goal.invariant_of-result
invariant_of-result c =
    let whole : take c.loop-range.range-index c.args.ports.now ≡ c.args.ports.now = take_all c.loop-range.range-index c.args.ports.now c.loop-range-test.false in
    let kept = c.loop-range.invariant.kept ∙ whole in
    rw kept (record {
      ports = c.requires.ports;
      ordered = c.requires.ranges;
      nine = c.loop-range.invariant.nine;
      counted = rw whole at c.loop-range.invariant.counted;
      small = omega (arith, c.loop-range.invariant.small, c.loop-range.auto.range-index-end, few_ports c.args.ports.now c.requires.ports);
      each = rw whole at c.loop-range.invariant.each;
    })
