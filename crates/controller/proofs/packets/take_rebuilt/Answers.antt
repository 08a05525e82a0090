use Rattle.std.proofs.Common.{ap, ◌∙◌}
use Rattle.world_model.specs.Controller.{Acted}
use Rattle.controller_joining.specs.Joining.{acted, controller_of}
use Rattle.law_joining_conditions.proofs.law_controller_conditions.Leading.{routes_lead_to_links}
use Rattle.controller.specs.Frames.{used_at}
use Rattle.controller.proofs.Frames.{still_bound}
use Rattle.controller.proofs.packets.take_rebuilt.Goals as goal

pub route-requires-clause-port : goal.route-requires-clause-port
route-requires-clause-port g c = λ port hop. routes_lead_to_links.hops (controller_of g.E.PortEngine.seen c.args.router.now) c.args.packet.now port c.requires.may.routes hop

pub use_label-requires-clause-bound : goal.use_label-requires-clause-bound
use_label-requires-clause-bound g c =
    let seen = g.E.PortEngine.seen in
    let a = acted seen c.args.router.now c.args.notes.now c.args.numbers.now in
    still_bound a (acted seen c.route.new.self c.route.new.notes c.route.new.numbers) c.args.mark c.args.packet.now c.args.port c.args.label c.in_ok-route.ensures.acted c.requires.bound

pub returns-clause-acted : goal.returns-clause-acted
returns-clause-acted g c =
    c.use_label.ensures.acted c.route.new.notes c.route.new.numbers ∙ ap (λ (x : Acted). used_at x c.args.port c.args.label) c.in_ok-route.ensures.acted
