use Rattle.std.proofs.Common.{◌≡◌, ◌∙◌, sym, ap, subst, OnOk, is_some, option_map}
use Rattle.port_model.specs.Labels.{label_for, label_number}
use Rattle.port_model.specs.Port.{Port, Work, labels_of}
use Rattle.port_model.specs.Counting.{offers}
use Rattle.port_state.specs.Engine.{Fixed, setup_of}
use Rattle.port_saying.specs.Rules.{begun}
use Rattle.redirect_state.proofs.Served.{counts_unserved, none_of, once_more, some_of}
use Rattle.redirect_state.proofs.counting.count.Goals as goal

pub offer-requires-clause-open : goal.offer-requires-clause-open
offer-requires-clause-open g c =
    let is_open = some_of c.args.state.now.port.session (sym c.has_session.ensures ∙ c.if-not-has_session.false) in
    ap is_some (ap (λ (p : Port). p.session) c.in_ok-packets.ensures.port ∙ ap (option_map (once_more c.args.flow)) is_open.1)

pub returns-clause-work : goal.returns-clause-work
returns-clause-work g c = λ n.
    let is_open = some_of c.args.state.now.port.session (sym c.has_session.ensures ∙ c.if-not-has_session.false) in
    let none = none_of label_number (label_for (labels_of c.args.state.now.port) c.args.flow) (sym c.serving.ensures.number ∙ c.in_default.is) in
    let next = ap (λ (p : Port). p.session) c.in_ok-packets.ensures.port ∙ ap (option_map (once_more c.args.flow)) is_open.1 in
    subst (λ (w : Work). OnOk c.offer.result (w ≡ begun c.offer.new.state.port c.offer.new.out n))
    (sym (counts_unserved (setup_of g.P.Policy.meaning c.args.state.now.fixed) c.args.desk.now c.args.state.now.port c.args.out.now n c.args.flow c.count.new.self.port is_open.0 is_open.1 none c.in_ok-packets.ensures.port))
    (subst (λ (f : Fixed _). OnOk c.offer.result (offers (setup_of g.P.Policy.meaning f) c.args.desk.now (begun c.count.new.self.port c.args.out.now n) (once_more c.args.flow is_open.0) c.args.flow ≡ begun c.offer.new.state.port c.offer.new.out n))
    c.in_ok-packets.ensures.fixed (c.offer.ensures.work n (once_more c.args.flow is_open.0) next))
