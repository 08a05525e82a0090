use Rattle.std.proofs.Common.{rules, ◌^◌, ◌<◌, arith}
use Rattle.flow_policy.proofs.Ends.{prefix_is, shifted_fits}
use Rattle.flow_policy.proofs.apart.highest.Goals as goal

pub overflow_cast-result-2 : goal.overflow_cast-result-2
overflow_cast-result-2 c =
    let few : c.addr.result.0 < 2 ^ 32 = search rules in
    let is = prefix_is c.args.prefix.now c.addr.result c.len.ensures.network c.addr.ensures few in
    rw (c.addr.ensures, c.len.ensures.len) (omega (arith, shifted_fits c.args.prefix.now is))
