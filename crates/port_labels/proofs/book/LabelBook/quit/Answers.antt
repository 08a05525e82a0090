use Rattle.std.proofs.Common.{◌≡◌, ◌∙◌, sym, ap, subst}
use Rattle.ipv4_packet.specs.declared.flow.FlowId.{FlowId}
use Rattle.branch_desk.specs.port_model.Labels.{Label, Wired, serves}
use Rattle.port_labels.specs.Held.{flow_in, shown, state_in}
use Rattle.port_labels.specs.Index.{IsRemoved}
use Rattle.port_labels.proofs.Steps.{kept, kept_is, passed_serves, quitted}
use Rattle.port_labels.proofs.book.LabelBook.quit.Goals as goal

pub invariant_of-self : goal.invariant_of-self
invariant_of-self c =
    let same : shown c.quit-held.result.0 ≡ shown c.take.result = rw c.if-not-quit.true at c.quit-held.ensures.label in
    kept c.self.inside.numbers.items c.self.inside.flows.entries c.self.inside.places c.take.new.self c.put.new.self c.args.label
    (shown c.take.result) (shown c.quit-held.result.0) c.take.ensures.label (c.quit-held.ensures.number ∙ c.take.ensures.number) c.take.ensures.back c.put.ensures
    (ap (λ (label : Label). serves label.state) same) (ap (λ (label : Label). label.flow) same) c.self.invariant

pub returns-then-not-quit-clause-book : goal.returns-then-not-quit-clause-book
returns-then-not-quit-clause-book c =
    let same : shown c.quit-held.result.0 ≡ shown c.take.result = rw c.if-not-quit.true at c.quit-held.ensures.label in
    rw (← c.self.view_is)
    (kept_is c.self.inside.places c.take.new.self c.put.new.self c.args.label (shown c.take.result) (shown c.quit-held.result.0) c.take.ensures.label c.take.ensures.number c.take.ensures.back c.put.ensures same)

pub invariant_of-self-2 : goal.invariant_of-self-2
invariant_of-self-2 c =
    let same : shown c.quit-held.result.0 ≡ record (shown c.take.result) { state = Wired } = rw c.if-not-quit.false at c.quit-held.ensures.label in
    let flow : c.flow.result ≡ flow_in c.take.result.stage = c.flow.ensures ∙ ap (λ (label : Label). label.flow) same in
    quitted c.self.inside.numbers.items c.self.inside.flows.entries c.remove_flow.new.flows.entries c.self.inside.places c.take.new.self c.put-2.new.self c.args.label
    (shown c.take.result) (shown c.quit-held.result.0) c.take.ensures.label (c.quit-held.ensures.number ∙ c.take.ensures.number) c.take.ensures.back c.put-2.ensures
    (ap (λ (label : Label). serves label.state) same) (passed_serves c.args.known (state_in c.take.result.stage) (sym c.quit-held.ensures.when ∙ c.if-not-quit.false))
    (subst (λ (f : FlowId). IsRemoved c.self.inside.flows.entries c.remove_flow.new.flows.entries f) flow c.remove_flow.ensures) c.self.invariant
