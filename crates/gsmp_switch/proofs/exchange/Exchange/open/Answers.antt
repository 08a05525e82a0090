use Rattle.gsmp_switch.proofs.Exchanges.{opened_region}
use Rattle.gsmp_switch.proofs.exchange.Exchange.open.Goals as goal

pub invariant_of-result : goal.invariant_of-result
invariant_of-result c =
    let e = c.in_ok-open.ensures in
    opened_region c.in_ok-open.field-0 c.new.result.chain _ c.args.cells e.empty e.free e.size c.new.ensures.empty (c.new.ensures.threaded _)
