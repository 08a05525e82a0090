use Rattle.std.proofs.Common.{◌≡◌, sym, subst, OnOk}
use Rattle.port_model.specs.Port.{Work}
use Rattle.port_state.specs.Engine.{setup_of}
use Rattle.port_saying.specs.Rules.{begun}
use Rattle.port_hearing.proofs.Reclaims.{acks_next}
use Rattle.port_hearing.proofs.reclaiming.acknowledge.Goals as goal

pub returns-clause-work : goal.returns-clause-work
returns-clause-work g c = λ n label found.
    subst (λ (w : Work). OnOk c.quit.result (w ≡ begun c.quit.new.state.port c.quit.new.out n))
    (sym (acks_next (setup_of g.P.Policy.meaning c.args.state.now.fixed) c.args.desk.now c.args.state.now.port c.acknowledge.new.self.port c.args.out.now n c.args.label label c.requires.0
    found c.requires.1 c.requires.2 c.acknowledge.ensures.port))
    (rw c.acknowledge.ensures.fixed at (c.quit.ensures.work n))
