use Rattle.std.proofs.Common.{◌≡◌, false, refl, sym, ap, ◌∙◌}
use Rattle.std.proofs.lemmas.Result.{on_ok_weaker}
use Rattle.net_types.specs.declared.channel.End.{End}
use Rattle.gsmp_wire.specs.declared.request.Request.TheVariants.{MoveBranch}
use Rattle.port_model.specs.Desk.{is_led_home}
use Rattle.port_model.specs.Setup.{home_of}
use Rattle.world_model.specs.Controller.{Acted}
use Rattle.world_model.specs.Asking.{asks, takes_back}
use Rattle.controller_router.specs.Node.{acted}
use Rattle.controller_router.proofs.router.Router.take_back.Goals as goal

takes_is : (a : Acted) (input output : End) → is_led_home a.controller.desk input (home_of input) ≡ false → asks a (MoveBranch input output (home_of input)) ≡ takes_back a input output
takes_is a input output away = rw away refl

pub returns-clause-acted : goal.returns-clause-acted
returns-clause-acted g c =
    let away : is_led_home c.args.self.now.client.desk c.args.input (home_of c.args.input) ≡ false =
    ap (λ n. is_led_home n.client.desk c.args.input (home_of c.args.input)) (sym c.self.view_is) ∙ sym c.is_led_home.ensures ∙ c.if-is_led_home.false in
    let a : Acted = acted g.E.PortEngine.seen c.args.self.now c.args.notes.now c.args.numbers.now in
    on_ok_weaker c.ask.result (λ e. e ∙ ap (λ home. asks a (MoveBranch c.args.input c.args.output home)) c.home_of.ensures ∙ takes_is a c.args.input c.args.output away) c.ask.ensures.acted
