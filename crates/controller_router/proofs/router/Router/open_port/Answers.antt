use Rattle.std.proofs.Common.{◌≡◌, [], true, fold, ap, sym, subst, ◌∙◌, if◌then◌else◌}
use Rattle.std.proofs.lemmas.Result.{on_ok_weaker}
use Rattle.net_types.specs.declared.channel.End.{End}
use Rattle.gsmp_wire.specs.declared.request.Request.TheVariants.{AddBranch}
use Rattle.port_model.specs.Messages.{is_up}
use Rattle.port_model.specs.Desk.{Desk}
use Rattle.port_model.specs.Setup.{home_of}
use Rattle.world_model.specs.Controller.{Acted, default_end, default_home}
use Rattle.world_model.specs.Asking.{asks}
use Rattle.world_model.specs.Meeting.{default_branches}
use Rattle.controller_router.specs.Conditions.{CanAsk, EachCanBeAsked}
use Rattle.controller_router.specs.Node.{acted}
use Rattle.controller_router.proofs.router.Router.open_port.Goals as goal

pub ask-requires-2 : goal.ask-requires-2
ask-requires-2 g c =
    let a = acted g.E.PortEngine.seen c.args.self.now c.args.notes.now c.args.numbers.now in
    let up : is_up c.args.self.now.client.desk.rows c.args.port ≡ true =
    ap (λ n. is_up n.client.desk.rows c.args.port) (sym c.self.view_is) ∙ ap (λ (d : Desk). is_up d.rows c.args.port) (sym (c.desk.ensures ∙ c.requests.ensures)) ∙ sym c.is_up.ensures ∙ c.if-not-is_up.false in
    let can = subst (λ b. EachCanBeAsked a (if b then default_branches c.args.port else [])) up c.requires.can in
    let end = c.default_end-end.ensures in
    let home = c.home_of-home.ensures ∙ ap home_of end in
    let is = c.in_ok-ask.ensures.acted ∙ (λ i. asks a (AddBranch (end i) (home i))) in
    let first = asks a (AddBranch (default_end c.args.port) (default_home c.args.port)) in
    subst (λ (b : Acted). CanAsk b (AddBranch c.home_of-home.result c.default_end-end.result)) (sym is)
    (subst (λ (e : End). CanAsk first (AddBranch c.home_of-home.result e)) (sym end) (subst (λ (h : End). CanAsk first (AddBranch h (default_end c.args.port))) (sym home) can.1.0))

pub returns-clause-acted : goal.returns-clause-acted
returns-clause-acted g c =
    let a = acted g.E.PortEngine.seen c.args.self.now c.args.notes.now c.args.numbers.now in
    let up : is_up c.args.self.now.client.desk.rows c.args.port ≡ true =
    ap (λ n. is_up n.client.desk.rows c.args.port) (sym c.self.view_is) ∙ ap (λ (d : Desk). is_up d.rows c.args.port) (sym (c.desk.ensures ∙ c.requests.ensures)) ∙ sym c.is_up.ensures ∙ c.if-not-is_up.false in
    let end = c.default_end-end.ensures in
    let home = c.home_of-home.ensures ∙ ap home_of end in
    let is = c.in_ok-ask.ensures.acted ∙ (λ i. asks a (AddBranch (end i) (home i))) in
    on_ok_weaker c.ask-2.result (λ e. e ∙ (λ i. asks (is i) (AddBranch (home i) (end i))) ∙ sym (ap (λ b. fold asks a (if b then default_branches c.args.port else [])) up)) c.ask-2.ensures.acted
