use Rattle.std.proofs.Common.{inl, inr}
use Rattle.redirect_state.proofs.Lefts.{gone_front, gone_over, left_front, left_over, lent_left, reads}
use Rattle.redirect_state.proofs.Spends.{at_place}
use Rattle.redirect_state.proofs.resets.leave_grant.Goals as goal

pub returns-in-Idle-clause-front : goal.returns-in-Idle-clause-front
returns-in-Idle-clause-front g c = λ grant is.
    gone_front c.args.state.now.port c.end.new.self.port c.args.place c.in-Some.label c.in-Some-grant.grant grant c.granted-many.ensures.apart
    (reads c.args.state.now.port.grants c.args.place c.in-Some.label c.in-Some-grant.grant grant c.in-Some.ensures.label c.in-Some.ensures.found c.in-Some-grant.ensures.grant is) c.in-Idle.is c.end.ensures.port

pub returns-in-Idle-clause-over : goal.returns-in-Idle-clause-over
returns-in-Idle-clause-over g c =
    let there = at_place c.args.state.now.port.grants c.args.place c.requires in
    gone_over c.args.state.now.port c.end.new.self.port c.args.place c.in-Some.label c.in-Some-grant.grant there.0 c.granted-many.ensures.apart
    (reads c.args.state.now.port.grants c.args.place c.in-Some.label c.in-Some-grant.grant there.0 c.in-Some.ensures.label c.in-Some.ensures.found c.in-Some-grant.ensures.grant there.1) c.end.ensures.port

pub returns-in_ok-take_back-in-ByInput-clause-front : goal.returns-in_ok-take_back-in-ByInput-clause-front
returns-in_ok-take_back-in-ByInput-clause-front g c = λ grant is.
    left_front c.args.state.now.port c.leave.new.self.port c.args.place c.in-Some.label c.in-Some-grant.grant grant c.granted-many.ensures.apart
    (reads c.args.state.now.port.grants c.args.place c.in-Some.label c.in-Some-grant.grant grant c.in-Some.ensures.label c.in-Some.ensures.found c.in-Some-grant.ensures.grant is)
    (lent_left c.args.state.now.port c.leave.new.self.port c.args.place c.in-Some.label c.in-Some-grant.grant grant (reads c.args.state.now.port.grants c.args.place c.in-Some.label c.in-Some-grant.grant grant c.in-Some.ensures.label c.in-Some.ensures.found c.in-Some-grant.ensures.grant is) c.in-Some.ensures.found (inl c.in-ByInput.is) c.leave.ensures.port)

pub returns-in_ok-take_back-in-ByInput-clause-over : goal.returns-in_ok-take_back-in-ByInput-clause-over
returns-in_ok-take_back-in-ByInput-clause-over g c =
    let there = at_place c.args.state.now.port.grants c.args.place c.requires in
    left_over c.args.state.now.port c.leave.new.self.port c.args.place c.in-Some.label c.in-Some-grant.grant there.0 c.granted-many.ensures.apart
    (reads c.args.state.now.port.grants c.args.place c.in-Some.label c.in-Some-grant.grant there.0 c.in-Some.ensures.label c.in-Some.ensures.found c.in-Some-grant.ensures.grant there.1)
    (lent_left c.args.state.now.port c.leave.new.self.port c.args.place c.in-Some.label c.in-Some-grant.grant there.0 (reads c.args.state.now.port.grants c.args.place c.in-Some.label c.in-Some-grant.grant there.0 c.in-Some.ensures.label c.in-Some.ensures.found c.in-Some-grant.ensures.grant there.1) c.in-Some.ensures.found (inl c.in-ByInput.is) c.leave.ensures.port)

pub returns-in-Leaving-clause-front : goal.returns-in-Leaving-clause-front
returns-in-Leaving-clause-front g c = λ grant is.
    left_front c.args.state.now.port c.leave-in-Leaving.new.self.port c.args.place c.in-Some.label c.in-Some-grant.grant grant c.granted-many.ensures.apart
    (reads c.args.state.now.port.grants c.args.place c.in-Some.label c.in-Some-grant.grant grant c.in-Some.ensures.label c.in-Some.ensures.found c.in-Some-grant.ensures.grant is)
    (lent_left c.args.state.now.port c.leave-in-Leaving.new.self.port c.args.place c.in-Some.label c.in-Some-grant.grant grant (reads c.args.state.now.port.grants c.args.place c.in-Some.label c.in-Some-grant.grant grant c.in-Some.ensures.label c.in-Some.ensures.found c.in-Some-grant.ensures.grant is) c.in-Some.ensures.found (inr c.in-Leaving.is) c.leave-in-Leaving.ensures.port)

pub returns-in-Leaving-clause-over : goal.returns-in-Leaving-clause-over
returns-in-Leaving-clause-over g c =
    let there = at_place c.args.state.now.port.grants c.args.place c.requires in
    left_over c.args.state.now.port c.leave-in-Leaving.new.self.port c.args.place c.in-Some.label c.in-Some-grant.grant there.0 c.granted-many.ensures.apart
    (reads c.args.state.now.port.grants c.args.place c.in-Some.label c.in-Some-grant.grant there.0 c.in-Some.ensures.label c.in-Some.ensures.found c.in-Some-grant.ensures.grant there.1)
    (lent_left c.args.state.now.port c.leave-in-Leaving.new.self.port c.args.place c.in-Some.label c.in-Some-grant.grant there.0 (reads c.args.state.now.port.grants c.args.place c.in-Some.label c.in-Some-grant.grant there.0 c.in-Some.ensures.label c.in-Some.ensures.found c.in-Some-grant.ensures.grant there.1) c.in-Some.ensures.found (inr c.in-Leaving.is) c.leave-in-Leaving.ensures.port)
