use Rattle.std.proofs.Common.{◌∙◌, ap, subst}
use Rattle.std.proofs.lemmas.Result.{on_ok_weaker}
use Rattle.port_model.specs.Ticks.{ticks}
use Rattle.port_state.specs.Engine.{Engine, setup_of}
use Rattle.port_saying.specs.Rules.{Ends, begun}
use Rattle.redirect_state.proofs.Stops.{has_done_so}
use Rattle.redirect_state.proofs.link.Link.on_tick.Goals as goal

pub returns-clause-work : goal.returns-clause-work
returns-clause-work g c = λ n.
    on_ok_weaker c.done.result
    (has_done_so c.args.self.now c.tick.new.state c.tick.new.out n (ticks (setup_of g.P.Policy.meaning c.args.self.now.fixed) c.args.desk.now (begun c.args.self.now.port c.args.out.now n))
    (c.tick.ensures.fixed ∙ ap (λ (e : Engine _). e.fixed) c.self.view_is))
    (c.done.ensures c.tick.new.state.port c.tick.new.out n (ticks (setup_of g.P.Policy.meaning c.args.self.now.fixed) c.args.desk.now (begun c.args.self.now.port c.args.out.now n))
    (subst (λ (e : Engine _). Ends c.tick.result c.tick.new.state.port c.tick.new.out n (ticks (setup_of g.P.Policy.meaning e.fixed) c.args.desk.now (begun e.port c.args.out.now n)))
    c.self.view_is (c.tick.ensures.work n)))
