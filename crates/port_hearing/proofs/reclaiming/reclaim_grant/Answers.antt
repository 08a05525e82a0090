use Rattle.std.proofs.Common.{sym, subst}
use Rattle.port_model.specs.Port.{Work}
use Rattle.port_state.specs.Engine.{setup_of}
use Rattle.port_saying.specs.Rules.{Ends}
use Rattle.port_hearing.proofs.Reclaims.{reclaims_free, reclaims_lent}
use Rattle.port_hearing.proofs.reclaiming.reclaim_grant.Goals as goal

pub returns-in-Idle-clause-work : goal.returns-in-Idle-clause-work
returns-in-Idle-clause-work g c = λ n grant found.
    subst (λ (w : Work). Ends c.say.result c.say.new.state.port c.say.new.out n w)
    (sym (reclaims_free (setup_of g.P.Policy.meaning c.args.state.now.fixed) c.args.state.now.port c.end.new.self.port c.args.out.now n c.args.channel c.args.label grant c.args.grant
    found c.requires.grant c.in-Idle.is c.end.ensures.port))
    (c.say.ensures.work n)

pub returns-in_ok-take_back-in-ByInput-clause-work : goal.returns-in_ok-take_back-in-ByInput-clause-work
returns-in_ok-take_back-in-ByInput-clause-work g c = λ n grant found.
    reclaims_lent (setup_of g.P.Policy.meaning c.args.state.now.fixed) c.args.state.now.port c.leave.new.self.port c.args.out.now c.take_back.new.out n c.args.channel c.args.label grant c.args.grant
    found c.requires.grant c.in-ByInput.is c.leave.ensures.port (rw c.leave.ensures.fixed at c.in_ok-take_back-in-ByInput.ensures)
