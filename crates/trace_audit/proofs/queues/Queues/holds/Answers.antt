use Rattle.std.proofs.Common.{◌∙◌, ap, nat_lt}
use Rattle.trace_model.specs.Judgement.{stands_on}
use Rattle.trace_audit.specs.Queues.{queue_in}
use Rattle.trace_audit.proofs.Counting.{some_counted}
use Rattle.trace_audit.proofs.queues.Queues.holds.Goals as goal

pub returns : goal.returns
returns c =
    let label = c.args.label in
    ap (nat_lt 0) (c.standing.ensures ∙ c.args.self.now.counted label) ∙ some_counted (stands_on label.channel) (queue_in c.args.self.now label.end)
