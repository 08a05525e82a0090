use Rattle.std.proofs.Common.{map, ap, sym, subst, ◌∙◌}
use Rattle.std.proofs.lemmas.Result.{IfOk-weaker}
use Rattle.net_types.specs.Number.{GivenOut}
use Rattle.world_model.specs.Opening.{setup_of}
use Rattle.controller_gsmp.specs.Client.{Client}
use Rattle.controller_router.specs.Node.{AreLinked}
use Rattle.controller_joining.specs.Joining.{Joining, controller_of}
use Rattle.controller.specs.Opening.{opened_ends}
use Rattle.controller.proofs.Opened.{linked_opened, opened_is}
use Rattle.controller.proofs.opening.open_router.Goals as goal

pub new-router-requires-clause-linked : goal.new-router-requires-clause-linked
new-router-requires-clause-linked g c =
    let ends = map g.E.PortEngine.seen c.in-Ok.engines.items in
    let policy = g.E.OpenEngine.meaning c.args.policy in
    let are = c.in-Ok.ensures.engines ∙ ap (λ (n : GivenOut). opened_ends (setup_of c.args.setup.now.node c.args.setup.now.address c.args.setup.now.timers policy) n.instances c.args.setup.now.ports.now) c.instance-own.ensures.given in
    subst (λ (x : Client). AreLinked ends x.control) (sym c.in_ok-client.ensures)
    (linked_opened c.args.setup.now.node c.args.setup.now.address c.args.table c.args.setup.now.ports.now c.args.setup.now.cells c.args.setup.now.timers policy c.args.numbers.now ends are c.requires.ports)

pub returns-in-Ok-clause-controller : goal.returns-in-Ok-clause-controller
returns-in-Ok-clause-controller g c =
    let seen = g.E.PortEngine.seen in
    let ends = map seen c.in-Ok.engines.items in
    let policy = g.E.OpenEngine.meaning c.args.policy in
    let are = c.in-Ok.ensures.engines ∙ ap (λ (n : GivenOut). opened_ends (setup_of c.args.setup.now.node c.args.setup.now.address c.args.setup.now.timers policy) n.instances c.args.setup.now.ports.now) c.instance-own.ensures.given in
    IfOk-weaker c.open-in-Ok.result _ _
    (λ j e. ap (λ (j : Joining _). controller_of seen j) e ∙ rw (c.new-router.ensures, c.new.ensures, c.in_ok-client.ensures, c.instance-own.ensures.next)
    (opened_is c.args.setup.now.node c.args.setup.now.address c.args.table c.args.setup.now.ports.now c.args.setup.now.cells c.args.setup.now.timers policy c.args.numbers.now ends are))
    c.open-in-Ok.ensures
