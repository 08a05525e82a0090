use Rattle.std.proofs.Common.{◌≡◌, ◌∙◌, sym, ap, subst, refl}
use Rattle.port_labels.specs.Read.{label_of}
use Rattle.port_model.specs.Port.{Port, Work, label_at}
use Rattle.port_model.specs.Reclaiming.{recalls}
use Rattle.port_model.specs.Ticks.{one_older, refreshes}
use Rattle.port_state.specs.Engine.{Fixed, setup_of}
use Rattle.port_state.specs.Parts.{with_label}
use Rattle.port_state.proofs.Labelled.{of_some}
use Rattle.port_saying.specs.Rules.{Ends, begun}
use Rattle.port_saying.proofs.Sessions.{label_there}
use Rattle.port_hearing.proofs.Reclaims.{changed_numbers}
use Rattle.redirect_state.proofs.Older.{idler_is, offered_kept, offered_recalled, recalls_later, refreshes_later}
use Rattle.redirect_state.proofs.ticks.tick_offered.Goals as goal

pub refresh-requires-then-keeps-clause-held : goal.refresh-requires-then-keeps-clause-held
refresh-requires-then-keeps-clause-held g c = ap (λ (p : Port). label_at p c.args.label.now.number) (of_some (label_at c.args.state.now.port c.args.label.now.number) (label_of c.args.label.now) (λ l. c.set_idle.new.self.port ≡ with_label c.args.state.now.port (record l { idle = c.saturating_add.result })) c.requires.held c.set_idle.ensures.port) ∙ label_there c.args.state.now.port (record (label_of c.args.label.now) { idle = c.saturating_add.result }) (label_of c.args.label.now) c.requires.held

pub recall-requires-clause-held : goal.recall-requires-clause-held
recall-requires-clause-held g c = ap (λ (p : Port). label_at p c.args.label.now.number) (of_some (label_at c.args.state.now.port c.args.label.now.number) (label_of c.args.label.now) (λ l. c.set_idle.new.self.port ≡ with_label c.args.state.now.port (record l { idle = c.saturating_add.result })) c.requires.held c.set_idle.ensures.port) ∙ label_there c.args.state.now.port (record (label_of c.args.label.now) { idle = c.saturating_add.result }) (label_of c.args.label.now) c.requires.held

pub returns-then-keeps-clause-work : goal.returns-then-keeps-clause-work
returns-then-keeps-clause-work g c = λ n d.
    subst (λ (w : Work). Ends c.refresh-then-keeps.result c.refresh-then-keeps.new.state.port c.refresh-then-keeps.new.out n w)
    (sym (
    offered_kept (setup_of g.P.Policy.meaning c.args.state.now.fixed) d c.args.state.now.port c.args.out.now n (label_of c.args.label.now) (record (label_of c.args.label.now) { idle = c.saturating_add.result }) (sym c.is_some.ensures ∙ c.if-is_some.false) (idler_is (label_of c.args.label.now) c.saturating_add.result c.saturating_add.ensures)
    (ap (λ (f : Fixed _). (g.P.Policy.meaning f.policy).keeps c.args.label.now.flow c.saturating_add.result) (sym c.set_idle.ensures.fixed) ∙ sym c.keeps.ensures ∙ c.if-keeps.true)
    ∙ sym (refreshes_later (setup_of g.P.Policy.meaning c.args.state.now.fixed) c.args.state.now.port c.args.out.now n (record (label_of c.args.label.now) { idle = c.saturating_add.result }) (one_older (record (label_of c.args.label.now) { idle = c.saturating_add.result })) refl)
    ∙ ap (λ (p : Port). refreshes (setup_of g.P.Policy.meaning c.args.state.now.fixed) (begun p c.args.out.now n) (one_older (record (label_of c.args.label.now) { idle = c.saturating_add.result }))) (sym (of_some (label_at c.args.state.now.port c.args.label.now.number) (label_of c.args.label.now) (λ l. c.set_idle.new.self.port ≡ with_label c.args.state.now.port (record l { idle = c.saturating_add.result })) c.requires.held c.set_idle.ensures.port))))
    (subst (λ (f : Fixed _). Ends c.refresh-then-keeps.result c.refresh-then-keeps.new.state.port c.refresh-then-keeps.new.out n (refreshes (setup_of g.P.Policy.meaning f) (begun c.set_idle.new.self.port c.args.out.now n) (one_older (record (label_of c.args.label.now) { idle = c.saturating_add.result })))) c.set_idle.ensures.fixed (c.refresh-then-keeps.ensures.work n))

pub returns-then-keeps-clause-numbers : goal.returns-then-keeps-clause-numbers
returns-then-keeps-clause-numbers g c =
    c.refresh-then-keeps.ensures.numbers
    ∙ changed_numbers c.args.state.now.port c.set_idle.new.self.port (label_at c.args.state.now.port c.args.label.now.number) (label_of c.args.label.now) (λ l. record l { idle = c.saturating_add.result }) c.requires.held c.set_idle.ensures.port

pub returns-else-keeps-clause-work : goal.returns-else-keeps-clause-work
returns-else-keeps-clause-work g c = λ n d.
    subst (λ (w : Work). Ends c.recall.result c.recall.new.state.port c.recall.new.out n w)
    (sym (
    offered_recalled (setup_of g.P.Policy.meaning c.args.state.now.fixed) d c.args.state.now.port c.args.out.now n (label_of c.args.label.now) (record (label_of c.args.label.now) { idle = c.saturating_add.result }) (sym c.is_some.ensures ∙ c.if-is_some.false) (idler_is (label_of c.args.label.now) c.saturating_add.result c.saturating_add.ensures)
    (ap (λ (f : Fixed _). (g.P.Policy.meaning f.policy).keeps c.args.label.now.flow c.saturating_add.result) (sym c.set_idle.ensures.fixed) ∙ sym c.keeps.ensures ∙ c.if-keeps.false)
    ∙ sym (recalls_later (setup_of g.P.Policy.meaning c.args.state.now.fixed) c.args.state.now.port c.args.out.now n (record (label_of c.args.label.now) { idle = c.saturating_add.result }) (record (label_of c.args.label.now) { idle = c.saturating_add.result }) refl)
    ∙ ap (λ (p : Port). recalls (setup_of g.P.Policy.meaning c.args.state.now.fixed) (begun p c.args.out.now n) (record (label_of c.args.label.now) { idle = c.saturating_add.result })) (sym (of_some (label_at c.args.state.now.port c.args.label.now.number) (label_of c.args.label.now) (λ l. c.set_idle.new.self.port ≡ with_label c.args.state.now.port (record l { idle = c.saturating_add.result })) c.requires.held c.set_idle.ensures.port))))
    (subst (λ (f : Fixed _). Ends c.recall.result c.recall.new.state.port c.recall.new.out n (recalls (setup_of g.P.Policy.meaning f) (begun c.set_idle.new.self.port c.args.out.now n) (record (label_of c.args.label.now) { idle = c.saturating_add.result }))) c.set_idle.ensures.fixed (c.recall.ensures.work n))

pub returns-else-keeps-clause-numbers : goal.returns-else-keeps-clause-numbers
returns-else-keeps-clause-numbers g c =
    c.recall.ensures.numbers
    ∙ changed_numbers c.args.state.now.port c.set_idle.new.self.port (label_at c.args.state.now.port c.args.label.now.number) (label_of c.args.label.now) (λ l. record l { idle = c.saturating_add.result }) c.requires.held c.set_idle.ensures.port
