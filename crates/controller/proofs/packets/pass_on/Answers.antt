use Rattle.std.proofs.Common.{sym, subst}
use Rattle.world_model.specs.Controller.{Acted}
use Rattle.controller_joining.specs.Conditions.{CanWorkOn}
use Rattle.controller_joining.specs.Joining.{controller_of}
use Rattle.law_joining_conditions.specs.law_controller_conditions.Calls.{counting}
use Rattle.law_joining_conditions.proofs.law_controller_conditions.Leading.{routes_lead_to_links}
use Rattle.controller.proofs.packets.pass_on.Goals as goal

pub route-requires-clause-port : goal.route-requires-clause-port
route-requires-clause-port g c = λ port hop. routes_lead_to_links.hops (controller_of g.E.PortEngine.seen c.args.router.now) c.args.packet.now port c.requires.may.routes hop

pub count-requires-clause-can : goal.count-requires-clause-can
count-requires-clause-can g c =
    let e = c.in_ok-route.ensures.acted in
    subst (λ (x : Acted). CanWorkOn x c.args.port (counting c.args.packet.now)) (sym e) c.requires.can
