use Rattle.std.proofs.Common.{◌≡◌, ◌∙◌, sym, ap, subst, OnOk}
use Rattle.port_model.specs.Counts.{packets_in}
use Rattle.port_model.specs.Port.{Work}
use Rattle.port_state.specs.Engine.{setup_of}
use Rattle.port_state.proofs.Labelled.{of_some}
use Rattle.port_saying.specs.Rules.{begun}
use Rattle.redirect_state.proofs.Served.{offers_held, offers_label}
use Rattle.redirect_state.proofs.counting.offer.Goals as goal

pub returns-then-not-branch-clause-work : goal.returns-then-not-branch-clause-work
returns-then-not-branch-clause-work g c = λ n s is_open.
    offers_held (setup_of g.P.Policy.meaning c.args.state.now.fixed) c.args.desk.now c.args.state.now.port c.args.out.now n c.args.flow s
    (sym (c.in_ok-has_room.ensures c.args.state.now.port n) ∙ c.if-not-branch.true)

pub returns-clause-work : goal.returns-clause-work
returns-clause-work g c = λ n s is_open.
    let packets = of_some c.args.state.now.port.session s (λ t. c.args.packets ≡ packets_in t.counted c.args.flow) is_open c.requires.packets in
    subst (λ (w : Work). OnOk c.wire.result (w ≡ begun c.wire.new.state.port c.wire.new.out n))
    (sym (offers_label (setup_of g.P.Policy.meaning c.args.state.now.fixed) c.args.desk.now c.args.state.now.port c.args.out.now n c.args.flow s
    (ap ((g.P.Policy.meaning c.args.state.now.fixed.policy).offers c.args.flow) (sym packets) ∙ sym c.offers.ensures ∙ c.if-not-offers.false)
    (sym (c.in_ok-has_room.ensures c.args.state.now.port n) ∙ c.if-not-branch.false)))
    (c.wire.ensures.work n s is_open)
