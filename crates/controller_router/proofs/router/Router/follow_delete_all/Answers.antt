use Rattle.std.proofs.Common.{◌≡◌, true, refl, ap, sym, ◌∙◌}
use Rattle.std.proofs.lemmas.Result.{on_ok_weaker}
use Rattle.net_types.specs.declared.node.PortNo.{PortNo}
use Rattle.gsmp_wire.specs.declared.request.Request.TheVariants.{AddBranch}
use Rattle.port_model.specs.Setup.{home_of}
use Rattle.world_model.specs.Controller.{Acted, default_end, default_home}
use Rattle.world_model.specs.Asking.{asks}
use Rattle.world_model.specs.Meeting.{behind_delete_all}
use Rattle.controller_router.specs.Node.{acted}
use Rattle.controller_router.proofs.router.Router.follow_delete_all.Goals as goal

behind_is : (a : Acted) (port : PortNo) → a.controller.has_met ≡ true → asks a (AddBranch (default_end port) (default_home port)) ≡ behind_delete_all a port
behind_is a port is = rw is refl

pub returns-then-has_met-clause-acted : goal.returns-then-has_met-clause-acted
returns-then-has_met-clause-acted g c =
    let a = acted g.E.PortEngine.seen c.args.self.now c.args.notes.now c.args.numbers.now in
    let is : c.args.self.now.client.has_met ≡ true = ap (λ n. n.client.has_met) (sym c.self.view_is) ∙ sym c.has_met.ensures ∙ c.if-has_met.true in
    let end = c.default_end-input.ensures in
    let home = c.home_of-output.ensures ∙ ap home_of end in
    on_ok_weaker c.ask.result (λ e. e ∙ (λ i. asks a (AddBranch (end i) (home i))) ∙ behind_is a c.args.port is) c.ask.ensures.acted
