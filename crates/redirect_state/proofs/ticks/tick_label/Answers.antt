use Rattle.std.proofs.Common.{◌∙◌, sym, ap, subst}
use Rattle.port_labels.specs.Read.{label_of, state_from}
use Rattle.port_model.specs.Labels.{Offered, Wired}
use Rattle.port_model.specs.Port.{Work}
use Rattle.port_state.specs.Engine.{setup_of}
use Rattle.port_saying.specs.Rules.{Ends}
use Rattle.redirect_state.proofs.Stops.{ticks_at}
use Rattle.redirect_state.proofs.ticks.tick_label.Goals as goal

pub returns-in_ok-unwire_idle-in-Wired-clause-work : goal.returns-in_ok-unwire_idle-in-Wired-clause-work
returns-in_ok-unwire_idle-in-Wired-clause-work g c = λ n.
    ticks_at (setup_of g.P.Policy.meaning c.args.state.now.fixed) c.args.desk.now c.args.state.now.port c.args.out.now n c.args.label (label_of c.in-Some.held) Wired (sym c.in-Some.ensures.label) (ap state_from c.in-Wired.is)
    ∙ c.in_ok-unwire_idle-in-Wired.ensures.work n (label_of c.in-Some.held) c.in-Some.ensures.number

pub returns-in-Offered-clause-work : goal.returns-in-Offered-clause-work
returns-in-Offered-clause-work g c = λ n.
    subst (λ (w : Work). Ends c.tick_offered.result c.tick_offered.new.state.port c.tick_offered.new.out n w)
    (sym (ticks_at (setup_of g.P.Policy.meaning c.args.state.now.fixed) c.args.desk.now c.args.state.now.port c.args.out.now n c.args.label (label_of c.in-Some.held) Offered (sym c.in-Some.ensures.label) (ap state_from c.in-Offered.is)))
    (c.tick_offered.ensures.work n c.args.desk.now)
