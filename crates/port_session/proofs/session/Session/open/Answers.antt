use Rattle.std.proofs.Common.{arith}
use Rattle.port_session.proofs.Spares.{tied_opened}
use Rattle.port_session.proofs.session.Session.open.Goals as goal

pub invariant_of-result : goal.invariant_of-result
invariant_of-result c = record {
  number = omega arith;
  tied = rw (c.in-Ok.ensures.ok, c.in-Ok-open.ensures, c.instance-instance.ensures) (tied_opened c.args.key c.args.least c.args.greatest);
}
