use Rattle.std.proofs.Common.{◌≡◌, ◌∙◌, sym, subst, refl, arith}
use Rattle.std.proofs.lemmas.Bool.Decides.{nat_tests}
use Rattle.port_labels.specs.Read.{label_of}
use Rattle.port_model.specs.Port.{Work, label_at}
use Rattle.port_model.specs.Saying.{redirect, says}
use Rattle.port_state.specs.Engine.{Fixed, setup_of}
use Rattle.port_state.specs.Parts.{with_label}
use Rattle.port_state.proofs.Labelled.{of_some}
use Rattle.port_saying.specs.Rules.{Ends, begun}
use Rattle.port_hearing.proofs.Reclaims.{changed_numbers}
use Rattle.redirect_state.proofs.Older.{refresh_says, refresh_waits}
use Rattle.redirect_state.proofs.ticks.refresh.Goals as goal

pub returns-then-ticks-refresh-clause-work : goal.returns-then-ticks-refresh-clause-work
returns-then-ticks-refresh-clause-work g c = λ n.
    refresh_waits (setup_of g.P.Policy.meaning c.args.state.now.fixed) c.args.state.now.port c.set_ticks.new.self.port c.args.out.now n (label_of c.args.label.now) c.saturating_add-ticks.result c.saturating_add-ticks.ensures
    (grind (arith, nat_tests, c.if-ticks-refresh.true, c.refresh.ensures))
    (of_some (label_at c.args.state.now.port c.args.label.now.number) (label_of c.args.label.now) (λ l. c.set_ticks.new.self.port ≡ with_label c.args.state.now.port (record l { ticks = c.saturating_add-ticks.result })) c.requires.held c.set_ticks.ensures.port)

pub returns-then-ticks-refresh-clause-numbers : goal.returns-then-ticks-refresh-clause-numbers
returns-then-ticks-refresh-clause-numbers g c = changed_numbers c.args.state.now.port c.set_ticks.new.self.port (label_at c.args.state.now.port c.args.label.now.number) (label_of c.args.label.now) (λ l. record l { ticks = c.saturating_add-ticks.result }) c.requires.held c.set_ticks.ensures.port

pub returns-then-ticks-refresh-clause-quiet : goal.returns-then-ticks-refresh-clause-quiet
returns-then-ticks-refresh-clause-quiet g c = λ o d h. h

pub returns-clause-work : goal.returns-clause-work
returns-clause-work g c = λ n.
    subst (λ (w : Work). Ends c.say_redirect.result c.say_redirect.new.state.port c.say_redirect.new.out n w)
    (sym (refresh_says (setup_of g.P.Policy.meaning c.args.state.now.fixed) c.args.state.now.port c.set_ticks-2.new.self.port c.args.out.now n (label_of c.args.label.now) c.saturating_add-ticks.result c.saturating_add-ticks.ensures
    (grind (arith, nat_tests, c.if-ticks-refresh.false, c.refresh.ensures))
    (of_some (label_at c.args.state.now.port c.args.label.now.number) (label_of c.args.label.now) (λ l. c.set_ticks-2.new.self.port ≡ with_label c.args.state.now.port (record l { ticks = 0 })) c.requires.held c.set_ticks-2.ensures.port)))
    (subst (λ (f : Fixed _). Ends c.say_redirect.result c.say_redirect.new.state.port c.say_redirect.new.out n (says (begun c.set_ticks-2.new.self.port c.args.out.now n) (redirect (setup_of g.P.Policy.meaning f) (record (label_of c.args.label.now) { ticks = c.saturating_add-ticks.result }))))
    c.set_ticks-2.ensures.fixed
    (c.say_redirect.ensures.work n (record (label_of c.args.label.now) { ticks = c.saturating_add-ticks.result }) refl refl))

pub returns-clause-numbers : goal.returns-clause-numbers
returns-clause-numbers g c =
    c.say_redirect.ensures.numbers
    ∙ changed_numbers c.args.state.now.port c.set_ticks-2.new.self.port (label_at c.args.state.now.port c.args.label.now.number) (label_of c.args.label.now) (λ l. record l { ticks = 0 }) c.requires.held c.set_ticks-2.ensures.port

pub returns-clause-quiet : goal.returns-clause-quiet
returns-clause-quiet g c = c.say_redirect.ensures.quiet
