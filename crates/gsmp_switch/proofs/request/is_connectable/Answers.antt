use Rattle.std.proofs.Common.{◌∙◌, sym}
use Rattle.gsmp_switch.proofs.Handling.{with_control_port}
use Rattle.gsmp_switch.proofs.request.is_connectable.Goals as goal

pub returns : goal.returns
returns c = c.is_connectable.ensures ∙ sym (with_control_port c.args.ports.now c.args.exchange.now.ports c.args.exchange.now.vpis c.args.end c.requires)
