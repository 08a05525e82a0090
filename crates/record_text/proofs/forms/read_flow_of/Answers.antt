use Rattle.std.proofs.Common.{refl}
use Rattle.record_text.proofs.Flows.{flow_found, flow_refused}
use Rattle.record_text.proofs.forms.read_flow_of.Goals as goal

pub returns-in-Ok : goal.returns-in-Ok
returns-in-Ok c =
    flow_found c.args.kind c.args.octets.now c.in-Ok.flow ((c.in-Ok.ensures.ok c.in-Ok.flow).0 refl) c.in-Ok.ensures.fault

pub returns-in-Err : goal.returns-in-Err
returns-in-Err c = flow_refused c.args.kind c.args.octets.now _ c.in-Err.ensures.fault
