use Rattle.std.proofs.Common.{sym, ◌+◌, ◌∙◌, arith}
use Rattle.gsmp_console.proofs.Counted.{few_on, none_on, one_more}
use Rattle.gsmp_console.proofs.lab.Lab.branches_on.Goals as goal

pub loop-vci-init : goal.loop-vci-init
loop-vci-init c = record { counted = sym (none_on c.args.self.now.switch c.args.port); few = omega arith }

pub loop-vci-preserved : goal.loop-vci-preserved
loop-vci-preserved c = record {
  counted = (λ i. c.loop-vci.invariant.counted i + c.count_of-count.ensures i) ∙ sym (one_more c.args.self.now.switch c.args.port c.loop-vci.vci);
  few = few_on _ c.loop-vci.count c.count_of-count.result c.loop-vci.vci c.count_of-count.ensures c.loop-vci.invariant.few;
}
