use Rattle.std.proofs.Common.{◌≡◌, ◌<◌, ◌^◌, ◌∙◌, None, ap, sym, rules}
use Rattle.world_model.specs.gsmp_wire.declared.failure.Failure.TheVariants.{NoPort}
use Rattle.world_model.specs.Failures.{failure_of}
use Rattle.world_model.specs.Answers.{Handled}
use Rattle.gsmp_switch.proofs.Handling.{all_connectable, can_raise, handled_is, refused_unread, taken_on}
use Rattle.gsmp_switch.proofs.PortStates.{few_states, states_after}
use Rattle.gsmp_switch.proofs.Ranges.{failure_in_range}
use Rattle.gsmp_switch.proofs.switch.Switch.handle.Goals as goal

pub returns-in_default-clause-switch : goal.returns-in_default-clause-switch
returns-in_default-clause-switch c =
    rw (← c.self.view_is) (ap (λ (h : Handled). h.switch) (sym (refused_unread _ c.args.notes.now c.args.request.now c.self.inside.exchange.ports c.self.invariant c.in_default.ensures.none)))

pub returns-in_default-clause-notes : goal.returns-in_default-clause-notes
returns-in_default-clause-notes c =
    rw (← c.self.view_is) (ap (λ (h : Handled). h.notes) (sym (refused_unread _ c.args.notes.now c.args.request.now c.self.inside.exchange.ports c.self.invariant c.in_default.ensures.none)))

pub returns-in_default-clause-answer : goal.returns-in_default-clause-answer
returns-in_default-clause-answer c =
    rw (← c.self.view_is) (c.failure_answer.ensures ∙ ap (λ (h : Handled). h.answer) (sym (refused_unread _ c.args.notes.now c.args.request.now c.self.inside.exchange.ports c.self.invariant c.in_default.ensures.none)))

pub change-requires : goal.change-requires
change-requires c =
    let none : failure_of c.self.inside.ports.items c.self.inside.exchange.vpis c.self.inside.exchange.crossbar.branches c.in-Some.asked ≡ None = rw c.as_slice-ports.ensures.value at (sym c.failure_of.ensures ∙ c.in_default-failure_of.is) in
    all_connectable c.self.inside.ports.items c.self.inside.exchange.ports c.self.inside.exchange.vpis c.self.inside.exchange.crossbar.branches c.in-Some.asked c.self.invariant none

pub change_ports-requires : goal.change_ports-requires
change_ports-requires c =
    let none : failure_of c.self.inside.ports.items c.self.inside.exchange.vpis c.self.inside.exchange.crossbar.branches c.in-Some.asked ≡ None = rw c.as_slice-ports.ensures.value at (sym c.failure_of.ensures ∙ c.in_default-failure_of.is) in
    let fits : c.in-Some.asked.session < 2 ^ 32 = search rules in
    can_raise c.self.inside.ports.items c.self.inside.exchange.vpis c.self.inside.exchange.crossbar.branches c.in-Some.asked fits none

pub invariant_of-self : goal.invariant_of-self
invariant_of-self c = rw c.change.ensures.linked c.self.invariant

pub success_answer-requires-clause-ports : goal.success_answer-requires-clause-ports
success_answer-requires-clause-ports c =
    rw (c.deref.ensures.value, c.change_ports.ensures) (few_states _ c.self.inside.exchange.ports (states_after c.self.inside.ports.items c.self.inside.exchange.ports c.in-Some.asked.request c.self.invariant))

pub invariant_of-self-2 : goal.invariant_of-self-2
invariant_of-self-2 c = rw (c.change_ports.ensures, c.change.ensures.linked) (states_after c.self.inside.ports.items c.self.inside.exchange.ports c.in-Some.asked.request c.self.invariant)

pub returns-clause-answer : goal.returns-clause-answer
returns-clause-answer c =
    let none : failure_of c.self.inside.ports.items c.self.inside.exchange.vpis c.self.inside.exchange.crossbar.branches c.in-Some.asked ≡ None = rw c.as_slice-ports.ensures.value at (sym c.failure_of.ensures ∙ c.in_default-failure_of.is) in
    rw (← c.self.view_is, c.success_answer.ensures.answer, c.deref.ensures.value, c.change_ports.ensures, c.in_ok-change.ensures.exchange)
    (ap (λ (h : Handled). h.answer) (sym (handled_is _ c.args.notes.now c.args.request.now c.in-Some.asked c.in-Some.ensures.some none)))

pub returns-in_default-clause-range : goal.returns-in_default-clause-range
returns-in_default-clause-range c = rw c.failure_answer.ensures (failure_in_range NoPort c.args.request.now c.requires.request c.requires.range)

pub returns-in-Some-failure_of-clause-range : goal.returns-in-Some-failure_of-clause-range
returns-in-Some-failure_of-clause-range c = rw c.failure_answer-in-Some-failure_of.ensures (failure_in_range c.in-Some-failure_of.failure c.args.request.now c.requires.request c.requires.range)

pub returns-clause-range : goal.returns-clause-range
returns-clause-range c = c.success_answer.ensures.range

pub returns-in_err-change-clause-memory : goal.returns-in_err-change-clause-memory
returns-in_err-change-clause-memory c =
    let none : failure_of c.self.inside.ports.items c.self.inside.exchange.vpis c.self.inside.exchange.crossbar.branches c.in-Some.asked ≡ None = rw c.as_slice-ports.ensures.value at (sym c.failure_of.ensures ∙ c.in_default-failure_of.is) in
    rw (← c.self.view_is) (taken_on c.from_residual.result c.self.inside.ports.items c.self.inside.exchange.vpis c.self.inside.exchange.crossbar.branches c.args.request.now c.in-Some.asked c.in-Some.ensures.some none)
