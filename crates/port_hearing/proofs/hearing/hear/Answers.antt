use Rattle.std.proofs.Common.{◌≡◌, ◌∙◌, true, sym, ap, subst}
use Rattle.ifmp_wire.specs.declared.message.Names.{Names}
use Rattle.port_model.specs.Port.{Work}
use Rattle.port_model.specs.Redirection.{expects, takes}
use Rattle.port_state.specs.Engine.{Fixed, setup_of}
use Rattle.port_saying.specs.Rules.{Ends, begun}
use Rattle.port_hearing.specs.Taking.{follows}
use Rattle.port_hearing.proofs.Begins.{hears_taken, ignored_not, is_other}
use Rattle.port_hearing.proofs.hearing.hear.Goals as goal

pub returns-clause-work : goal.returns-clause-work
returns-clause-work g c = λ n.
    let taken : takes c.args.state.now.port c.args.source c.names-names.result.sender c.names-names.result.peer c.names-names.result.number ≡ true = sym c.takes.ensures.takes ∙ c.if-not-takes.false in
    subst (λ (w : Work). Ends c.follow.result c.follow.new.state.port c.follow.new.out n w)
    (sym (hears_taken (setup_of g.P.Policy.meaning c.args.state.now.fixed) c.args.desk.now c.args.state.now.port c.args.out.now n c.args.source c.expect.new.state.port c.args.message.now
    (is_other c.args.message.now c.in_default.not-Adjacency)
    (ap (λ (names : Names). takes c.args.state.now.port c.args.source names.sender names.peer names.number) (sym c.names-names.ensures) ∙ taken)
    (subst (λ (names : Names). expects (begun c.args.state.now.port c.args.out.now n) names.number ≡ begun c.expect.new.state.port c.args.out.now n) c.names-names.ensures (c.expect.ensures.work n c.args.out.now))
    c.expect.ensures.grants c.expect.ensures.labels))
    (subst (λ (f : Fixed _). Ends c.follow.result c.follow.new.state.port c.follow.new.out n (follows (setup_of g.P.Policy.meaning f) c.args.desk.now (begun c.expect.new.state.port c.args.out.now n) c.args.message.now)) c.expect.ensures.fixed (c.follow.ensures.work n))

pub returns-clause-ignored : goal.returns-clause-ignored
returns-clause-ignored g c = λ ignored.
    let taken : takes c.args.state.now.port c.args.source c.names-names.result.sender c.names-names.result.peer c.names-names.result.number ≡ true = sym c.takes.ensures.takes ∙ c.if-not-takes.false in
    let not_taken = ignored_not c.args.state.now.port c.args.source c.args.message.now (is_other c.args.message.now c.in_default.not-Adjacency) ignored in
    absurd (cc (sym taken ∙ ap (λ (names : Names). takes c.args.state.now.port c.args.source names.sender names.peer names.number) c.names-names.ensures ∙ not_taken))
