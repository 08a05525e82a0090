use Rattle.std.proofs.Common.{◌≡◌, ◌++◌, ◌∙◌, sym, ap, subst, Some, None, slice_get, if◌then◌else◌}
use Rattle.keyed_lists.specs.Keyed.{at}
use Rattle.grant_table.specs.Table.{aged, runs_out}
use Rattle.port_model.specs.Grants.{grant_label}
use Rattle.port_model.specs.Port.{Port}
use Rattle.port_state.specs.Engine.{Fixed, setup_of}
use Rattle.port_state.specs.Parts.{with_grant}
use Rattle.port_state.proofs.Labelled.{of_some}
use Rattle.port_saying.specs.Rules.{begun}
use Rattle.port_hearing.specs.Joins.{taken_back}
use Rattle.redirect_state.proofs.Ages.{ages_keeps}
use Rattle.redirect_state.proofs.Spends.{never_leaving, never_none, not_out, over_aged, spent, spent_at, spent_ends, spent_ends_over, spent_leaves, spent_leaves_over}
use Rattle.redirect_state.proofs.ticks.age.Goals as goal

pub returns-in_default-clause-work : goal.returns-in_default-clause-work
returns-in_default-clause-work g c = λ n grant is.
    ages_keeps (setup_of g.P.Policy.meaning c.args.state.now.fixed) c.args.state.now.port c.args.out.now n grant
    (of_some (slice_get c.args.state.now.port.grants c.args.place) grant (λ h. at grant_label h.label c.args.state.now.port.grants ≡ Some h) is c.expire.ensures.found)
    (not_out (runs_out grant) grant.label (sym c.in_default.is ∙ of_some (slice_get c.args.state.now.port.grants c.args.place) grant (λ h. c.expire.result ≡ (if runs_out h then Some h.label else None)) is c.expire.ensures.label))
    ∙ ap (λ (p : Port). begun p c.args.out.now n) (sym (of_some (slice_get c.args.state.now.port.grants c.args.place) grant (λ h. c.expire.new.self.port ≡ with_grant c.args.state.now.port (aged h)) is c.expire.ensures.port))

pub returns-in_default-clause-over : goal.returns-in_default-clause-over
returns-in_default-clause-over g c = over_aged c.args.state.now.port c.expire.new.self.port c.args.place c.granted-many.ensures.apart c.requires c.expire.ensures.port

pub unreachable-requires : goal.unreachable-requires
unreachable-requires g c =
    let s = (spent c.args.state.now.port c.expire.new.self.port c.args.place c.in-Some.label c.requires c.expire.ensures.port c.in-Some.ensures.label c.expire.ensures.found) in
    never_none c.args.state.now.port c.expire.new.self.port c.args.place c.in-Some.label s.0 s.1 (sym c.in_default-grant.is ∙ c.grant.ensures.grant)

pub unreachable-requires-in-Leaving : goal.unreachable-requires-in-Leaving
unreachable-requires-in-Leaving g c =
    let s = (spent c.args.state.now.port c.expire.new.self.port c.args.place c.in-Some.label c.requires c.expire.ensures.port c.in-Some.ensures.label c.expire.ensures.found) in
    never_leaving c.args.state.now.port c.expire.new.self.port c.args.place c.in-Some.label s.0 s.1 c.in-Some-grant.grant c.in-Some-grant.ensures.grant c.in-Leaving.is

pub returns-in_ok-take_back-in-ByInput-clause-work : goal.returns-in_ok-take_back-in-ByInput-clause-work
returns-in_ok-take_back-in-ByInput-clause-work g c = λ n grant is.
    spent_leaves c.args.state.now.port c.expire.new.self.port c.args.place c.in-Some.label grant (spent_at c.args.state.now.port c.expire.new.self.port c.args.place c.in-Some.label grant is c.expire.ensures.port c.in-Some.ensures.label c.expire.ensures.found) c.in-Some-grant.grant c.in-Some-grant.ensures.grant
    (setup_of g.P.Policy.meaning c.args.state.now.fixed) c.leave.new.self.port c.args.out.now c.take_back.new.out n c.in-ByInput.is c.leave.ensures.port
    (subst (λ (f : Fixed _). c.take_back.new.out ≡ c.args.out.now ++ taken_back f.port c.in-Some.label c.in-Some-grant.grant.input) (c.leave.ensures.fixed ∙ c.expire.ensures.fixed) c.in_ok-take_back-in-ByInput.ensures)

pub returns-in_ok-take_back-in-ByInput-clause-over : goal.returns-in_ok-take_back-in-ByInput-clause-over
returns-in_ok-take_back-in-ByInput-clause-over g c =
    let s = (spent c.args.state.now.port c.expire.new.self.port c.args.place c.in-Some.label c.requires c.expire.ensures.port c.in-Some.ensures.label c.expire.ensures.found) in
    spent_leaves_over c.args.state.now.port c.expire.new.self.port c.args.place c.in-Some.label s.0 s.1 c.in-Some-grant.grant c.in-Some-grant.ensures.grant c.leave.new.self.port c.granted-many.ensures.apart c.in-ByInput.is c.leave.ensures.port

pub returns-in-Idle-clause-work : goal.returns-in-Idle-clause-work
returns-in-Idle-clause-work g c = λ n grant is.
    spent_ends c.args.state.now.port c.expire.new.self.port c.args.place c.in-Some.label grant (spent_at c.args.state.now.port c.expire.new.self.port c.args.place c.in-Some.label grant is c.expire.ensures.port c.in-Some.ensures.label c.expire.ensures.found) c.in-Some-grant.grant c.in-Some-grant.ensures.grant
    (setup_of g.P.Policy.meaning c.args.state.now.fixed) c.end.new.self.port c.args.out.now n c.in-Idle.is c.end.ensures.port

pub returns-in-Idle-clause-over : goal.returns-in-Idle-clause-over
returns-in-Idle-clause-over g c =
    let s = (spent c.args.state.now.port c.expire.new.self.port c.args.place c.in-Some.label c.requires c.expire.ensures.port c.in-Some.ensures.label c.expire.ensures.found) in
    spent_ends_over c.args.state.now.port c.expire.new.self.port c.args.place c.in-Some.label s.0 s.1 c.in-Some-grant.grant c.in-Some-grant.ensures.grant c.end.new.self.port c.granted-many.ensures.apart c.end.ensures.port
