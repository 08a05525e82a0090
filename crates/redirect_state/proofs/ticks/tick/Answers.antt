use Rattle.std.proofs.Common.{◌≡◌, ◌∙◌, sym, ap, subst, refl, Err, map}
use Rattle.std.proofs.lemmas.Result.{err_from_is_err_and}
use Rattle.std.specs.Prelude.{fold}
use Rattle.adjacency_table.specs.Side.{ticked}
use Rattle.port_model.specs.Grants.{grant_label}
use Rattle.port_model.specs.Port.{Work}
use Rattle.port_model.specs.Adjacency.{steps}
use Rattle.port_model.specs.Ticks.{ages, moves_windows, nudges, ticks_label, ticks_next}
use Rattle.port_state.specs.Engine.{Fixed, setup_of}
use Rattle.port_state.specs.Parts.{numbers_of}
use Rattle.port_saying.specs.Rules.{Ends, begun, stopped}
use Rattle.port_saying.proofs.Halted.{moves_nothing, ticks_next_nothing}
use Rattle.redirect_state.proofs.Served.{some_of}
use Rattle.redirect_state.proofs.Stops.{after_stop, ticks_through}
use Rattle.redirect_state.proofs.ticks.tick.Goals as goal

pub returns-in_err-tick_side-clause-work : goal.returns-in_err-tick_side-clause-work
returns-in_err-tick_side-clause-work g c = λ n.
    let p = err_from_is_err_and c.from_residual.result c.from_residual.ensures.1 in
    rw (p.1, p.2)
    (after_stop (Unit {0}) (Unit {0}) c.in_err-tick_side.field-0.0 c.tick_side.new.state.port c.tick_side.new.out n (ticks_next (setup_of g.P.Policy.meaning c.args.state.now.fixed) c.args.desk.now) (steps (setup_of g.P.Policy.meaning c.args.state.now.fixed) (begun c.args.state.now.port c.args.out.now n) (ticked c.args.state.now.port.adjacency))
    (ticks_next_nothing c.tick_side.new.state.port c.tick_side.new.out n (setup_of g.P.Policy.meaning c.args.state.now.fixed) c.args.desk.now) (c.in_err-tick_side.ensures.work n))

pub returns-in_err-tick_labels-clause-work : goal.returns-in_err-tick_labels-clause-work
returns-in_err-tick_labels-clause-work g c = λ n.
    let p = err_from_is_err_and c.from_residual-in_err-tick_labels.result c.from_residual-in_err-tick_labels.ensures.1 in
    let held = some_of c.tick_side.new.state.port.session (sym c.has_session.ensures ∙ c.if-not-has_session.false) in
    rw (p.1, p.2)
    (subst (λ (w : Work). Ends {A = Unit {0}} (Err c.in_err-tick_labels.field-0.0) c.tick_labels.new.state.port c.tick_labels.new.out n w) (sym (ticks_through (setup_of g.P.Policy.meaning c.args.state.now.fixed) c.args.desk.now (begun c.args.state.now.port c.args.out.now n) c.tick_side.new.state.port c.tick_grants.new.state.port c.tick_side.new.out c.tick_grants.new.out n held.0 (c.in_ok-tick_side.ensures.work n) held.1 (subst (λ (f : Fixed _). fold (ages (setup_of g.P.Policy.meaning f)) (begun c.tick_side.new.state.port c.tick_side.new.out n) (map grant_label c.tick_side.new.state.port.grants) ≡ begun c.tick_grants.new.state.port c.tick_grants.new.out n) c.tick_side.ensures.fixed (c.in_ok-tick_grants.ensures.work n))))
    (after_stop (Unit {0}) (Unit {0}) c.in_err-tick_labels.field-0.0 c.tick_labels.new.state.port c.tick_labels.new.out n (λ w. moves_windows (setup_of g.P.Policy.meaning c.args.state.now.fixed) (nudges (setup_of g.P.Policy.meaning c.args.state.now.fixed) w))
    (fold (ticks_label (setup_of g.P.Policy.meaning c.args.state.now.fixed) c.args.desk.now) (begun c.tick_grants.new.state.port c.tick_grants.new.out n) (numbers_of c.tick_grants.new.state.port))
    (moves_nothing c.tick_labels.new.state.port c.tick_labels.new.out n (setup_of g.P.Policy.meaning c.args.state.now.fixed) (stopped c.tick_labels.new.state.port c.tick_labels.new.out n) refl)
    (subst (λ (f : Fixed _). Ends {A = Unit {0}} (Err c.in_err-tick_labels.field-0.0) c.tick_labels.new.state.port c.tick_labels.new.out n
    (fold (ticks_label (setup_of g.P.Policy.meaning f) c.args.desk.now) (begun c.tick_grants.new.state.port c.tick_grants.new.out n) (numbers_of c.tick_grants.new.state.port))) (c.tick_grants.ensures.fixed ∙ c.tick_side.ensures.fixed) (c.in_err-tick_labels.ensures.work n))))

pub returns-in_err-nudge-clause-work : goal.returns-in_err-nudge-clause-work
returns-in_err-nudge-clause-work g c = λ n.
    let p = err_from_is_err_and c.from_residual-in_err-nudge.result c.from_residual-in_err-nudge.ensures.1 in
    let held = some_of c.tick_side.new.state.port.session (sym c.has_session.ensures ∙ c.if-not-has_session.false) in
    let labelled = subst (λ (f : Fixed _). fold (ticks_label (setup_of g.P.Policy.meaning f) c.args.desk.now) (begun c.tick_grants.new.state.port c.tick_grants.new.out n) (numbers_of c.tick_grants.new.state.port)
    ≡ begun c.tick_labels.new.state.port c.tick_labels.new.out n) (c.tick_grants.ensures.fixed ∙ c.tick_side.ensures.fixed) (c.in_ok-tick_labels.ensures.work n) in
    rw (p.1, p.2)
    (subst (λ (w : Work). Ends {A = Unit {0}} (Err c.in_err-nudge.field-0.0) c.nudge.new.state.port c.nudge.new.out n w)
    (sym (ticks_through (setup_of g.P.Policy.meaning c.args.state.now.fixed) c.args.desk.now (begun c.args.state.now.port c.args.out.now n) c.tick_side.new.state.port c.tick_grants.new.state.port c.tick_side.new.out c.tick_grants.new.out n held.0 (c.in_ok-tick_side.ensures.work n) held.1 (subst (λ (f : Fixed _). fold (ages (setup_of g.P.Policy.meaning f)) (begun c.tick_side.new.state.port c.tick_side.new.out n) (map grant_label c.tick_side.new.state.port.grants) ≡ begun c.tick_grants.new.state.port c.tick_grants.new.out n) c.tick_side.ensures.fixed (c.in_ok-tick_grants.ensures.work n))
    ∙ ap (λ (w : Work). moves_windows (setup_of g.P.Policy.meaning c.args.state.now.fixed) (nudges (setup_of g.P.Policy.meaning c.args.state.now.fixed) w)) labelled))
    (after_stop (Unit {0}) (Unit {0}) c.in_err-nudge.field-0.0 c.nudge.new.state.port c.nudge.new.out n (moves_windows (setup_of g.P.Policy.meaning c.args.state.now.fixed)) (nudges (setup_of g.P.Policy.meaning c.args.state.now.fixed) (begun c.tick_labels.new.state.port c.tick_labels.new.out n)) refl
    (subst (λ (f : Fixed _). Ends {A = Unit {0}} (Err c.in_err-nudge.field-0.0) c.nudge.new.state.port c.nudge.new.out n (nudges (setup_of g.P.Policy.meaning f) (begun c.tick_labels.new.state.port c.tick_labels.new.out n)))
    (c.tick_labels.ensures.fixed ∙ (c.tick_grants.ensures.fixed ∙ c.tick_side.ensures.fixed)) (c.in_err-nudge.ensures.work n))))
