use Rattle.std.proofs.Common.{sym, ◌+◌, ◌∙◌, arith}
use Rattle.gsmp_console.proofs.Counted.{none_to, port_more}
use Rattle.gsmp_console.proofs.lab.Lab.branches.Goals as goal

pub loop-place-init : goal.loop-place-init
loop-place-init c = record { counted = sym (none_to c.args.self.now.switch 1024); few = omega arith }

pub loop-place-preserved : goal.loop-place-preserved
loop-place-preserved c = record {
  counted = (λ i. c.loop-place.invariant.counted i + c.branches_on-count.ensures.count i) ∙ sym (port_more c.args.self.now.switch c.loop-place.place 1024);
  few = omega (arith, c.loop-place.invariant.few, c.branches_on-count.ensures.few);
}
