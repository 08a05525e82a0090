use Rattle.std.proofs.Common.{◌≡◌, ◌∙◌, ap, subst, OnOk}
use Rattle.std.proofs.lemmas.Result.{on_ok_weaker}
use Rattle.port_model.specs.Counting.{counts}
use Rattle.port_state.specs.Engine.{Engine, setup_of}
use Rattle.port_saying.specs.Rules.{begun}
use Rattle.redirect_state.proofs.Stops.{has_done}
use Rattle.redirect_state.proofs.link.Link.on_packet.Goals as goal

pub returns-clause-work : goal.returns-clause-work
returns-clause-work g c = λ n.
    on_ok_weaker c.count_packet.result
    (has_done c.args.self.now c.count_packet.new.state c.count_packet.new.out n (counts (setup_of g.P.Policy.meaning c.args.self.now.fixed) c.args.desk.now (begun c.args.self.now.port c.args.out.now n) c.args.packet.now)
    (c.count_packet.ensures.fixed ∙ ap (λ (e : Engine _). e.fixed) c.self.view_is))
    (subst (λ (e : Engine _). OnOk c.count_packet.result (counts (setup_of g.P.Policy.meaning e.fixed) c.args.desk.now (begun e.port c.args.out.now n) c.args.packet.now ≡ begun c.count_packet.new.state.port c.count_packet.new.out n))
    c.self.view_is (c.count_packet.ensures.work n))
