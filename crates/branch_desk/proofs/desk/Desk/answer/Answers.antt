use Rattle.std.proofs.Common.{◌≡◌, ◌∙◌, ◌<◌, ◌==◌, not, filter, sym, ap, Some}
use Rattle.std.proofs.lemmas.List.Elements.{All-filter}
use Rattle.gsmp_wire.specs.declared.message.Message.{Message}
use Rattle.port_model.specs.Desk.{Desk, Standing}
use Rattle.port_model.specs.DeskAnswers.{Head, head_of, succeeded, answered, after_answer}
use Rattle.port_model.specs.DeskAnswers as meaning
use Rattle.branch_desk.specs.Answers.{told}
use Rattle.branch_desk.specs.declared.answered.Answered.TheVariants.{Unknown, Done, Ports}
use Rattle.branch_desk.proofs.Answering.{unknown_is, succeeded_is, failed_is, done_is}
use Rattle.branch_desk.proofs.Done.{done_exactly}
use Rattle.branch_desk.proofs.desk.Desk.answer.Goals as goal

pub returns-in_default-answered_by-clause-answer : goal.returns-in_default-answered_by-clause-answer
returns-in_default-answered_by-clause-answer c =
    let desk : Desk = record { next = c.self.inside.next; standing = c.self.inside.requests; rows = c.self.inside.rows } in
    let head : Head = c.in-Some.head in
    let is : head_of c.args.response.now ≡ Some head = sym c.head.ensures ∙ c.in-Some.is in
    rw (← c.self.view_is) (sym (ap told (unknown_is desk c.args.response.now head is (sym c.answered_by.ensures.found ∙ c.in_default-answered_by.is))))

pub returns-in_default-answered_by-clause-after : goal.returns-in_default-answered_by-clause-after
returns-in_default-answered_by-clause-after c =
    let desk : Desk = record { next = c.self.inside.next; standing = c.self.inside.requests; rows = c.self.inside.rows } in
    let head : Head = c.in-Some.head in
    let is : head_of c.args.response.now ≡ Some head = sym c.head.ensures ∙ c.in-Some.is in
    rw (← c.self.view_is) (sym (ap (after_answer desk) (unknown_is desk c.args.response.now head is (sym c.answered_by.ensures.found ∙ c.in_default-answered_by.is))))

pub returns-in_default-answered_by-clause-done : goal.returns-in_default-answered_by-clause-done
returns-in_default-answered_by-clause-done c =
    let desk : Desk = record { next = c.self.inside.next; standing = c.self.inside.requests; rows = c.self.inside.rows } in
    let head : Head = c.in-Some.head in
    let is : head_of c.args.response.now ≡ Some head = sym c.head.ensures ∙ c.in-Some.is in
    let means = unknown_is desk c.args.response.now head is (sym c.answered_by.ensures.found ∙ c.in_default-answered_by.is) in
    rw (← c.self.view_is) (λ s. done_exactly desk c.args.response.now s Unknown c.answered_by.ensures.rising (sym (ap told means)))

pub invariant_of-self : goal.invariant_of-self
invariant_of-self c = rw c.remove.ensures (All-filter _ (λ (s : Standing). s.number < c.self.inside.next) _ c.self.invariant)

pub invariant_of-self-in_default-response : goal.invariant_of-self-in_default-response
invariant_of-self-in_default-response c = rw c.remove.ensures (All-filter _ (λ (s : Standing). s.number < c.self.inside.next) _ c.self.invariant)

pub invariant_of-self-in-4 : goal.invariant_of-self-in-4
invariant_of-self-in-4 c = rw c.remove-in-4.ensures (All-filter _ (λ (s : Standing). s.number < c.self.inside.next) _ c.self.invariant)

pub returns-in-AllPorts-clause-answer : goal.returns-in-AllPorts-clause-answer
returns-in-AllPorts-clause-answer c =
    let desk : Desk = record { next = c.self.inside.next; standing = c.self.inside.requests; rows = c.self.inside.rows } in
    let head : Head = c.in-Some.head in
    let is : head_of c.args.response.now ≡ Some head = sym c.head.ensures ∙ c.in-Some.is in
    let found = sym c.answered_by.ensures.found ∙ c.in-Some-answered_by.is in
    let entry = c.in-Some-answered_by.entry in
    let means = succeeded_is desk c.args.response.now head is entry found c.in-3.is ∙ ap (λ (m : Message). succeeded m entry) c.in-AllPorts.is in
    let rows = c.new.ensures ∙ c.copied.ensures in
    rw (← c.self.view_is) ((λ i. Ports (rows i) (c.new-done.ensures i)) ∙ sym (ap told means))

pub returns-in-AllPorts-clause-done : goal.returns-in-AllPorts-clause-done
returns-in-AllPorts-clause-done c =
    let desk : Desk = record { next = c.self.inside.next; standing = c.self.inside.requests; rows = c.self.inside.rows } in
    let head : Head = c.in-Some.head in
    let is : head_of c.args.response.now ≡ Some head = sym c.head.ensures ∙ c.in-Some.is in
    let found = sym c.answered_by.ensures.found ∙ c.in-Some-answered_by.is in
    let entry = c.in-Some-answered_by.entry in
    let means = succeeded_is desk c.args.response.now head is entry found c.in-3.is ∙ ap (λ (m : Message). succeeded m entry) c.in-AllPorts.is in
    let rows = c.new.ensures ∙ c.copied.ensures in
    rw (← c.self.view_is) (λ s. done_exactly desk c.args.response.now s (Ports c.new.result c.new-done.result) c.answered_by.ensures.rising ((λ i. Ports (rows i) (c.new-done.ensures i)) ∙ sym (ap told means)))

pub returns-in-AllPorts-clause-after : goal.returns-in-AllPorts-clause-after
returns-in-AllPorts-clause-after c =
    let desk : Desk = record { next = c.self.inside.next; standing = c.self.inside.requests; rows = c.self.inside.rows } in
    let head : Head = c.in-Some.head in
    let is : head_of c.args.response.now ≡ Some head = sym c.head.ensures ∙ c.in-Some.is in
    let found = sym c.answered_by.ensures.found ∙ c.in-Some-answered_by.is in
    let entry = c.in-Some-answered_by.entry in
    let means = succeeded_is desk c.args.response.now head is entry found c.in-3.is ∙ ap (λ (m : Message). succeeded m entry) c.in-AllPorts.is in
    let left : c.remove.new.self ≡ filter (λ other. not (other.number == entry.number)) desk.standing = rw (← c.number.ensures) c.remove.ensures in
    rw (← c.self.view_is, left, c.copied-self-inside.ensures) (sym (ap (after_answer desk) means))

pub returns-in_default-response : goal.returns-in_default-response
returns-in_default-response c =
    let desk : Desk = record { next = c.self.inside.next; standing = c.self.inside.requests; rows = c.self.inside.rows } in
    let head : Head = c.in-Some.head in
    let is : head_of c.args.response.now ≡ Some head = sym c.head.ensures ∙ c.in-Some.is in
    let found = sym c.answered_by.ensures.found ∙ c.in-Some-answered_by.is in
    let entry = c.in-Some-answered_by.entry in
    let means : answered desk c.args.response.now ≡ meaning.Done entry =
    succeeded_is desk c.args.response.now head is entry found c.in-3.is ∙ done_is c.args.response.now entry c.in_default-response.not-AllPorts in
    let left : c.remove.new.self ≡ filter (λ other. not (other.number == entry.number)) desk.standing = rw (← c.number.ensures) c.remove.ensures in
    record {
      answer = rw (← c.self.view_is, c.new-done.ensures) (sym (ap told means));
      after = rw (← c.self.view_is, left) (sym (ap (after_answer desk) means));
      done = rw (← c.self.view_is, c.new-done.ensures) (λ s. done_exactly desk c.args.response.now s (Done entry) c.answered_by.ensures.rising (sym (ap told means)));
    }

pub returns-in-4-clause-answer : goal.returns-in-4-clause-answer
returns-in-4-clause-answer c =
    let desk : Desk = record { next = c.self.inside.next; standing = c.self.inside.requests; rows = c.self.inside.rows } in
    let head : Head = c.in-Some.head in
    let is : head_of c.args.response.now ≡ Some head = sym c.head.ensures ∙ c.in-Some.is in
    let found = sym c.answered_by.ensures.found ∙ c.in-Some-answered_by.is in
    let means = failed_is desk c.args.response.now head is c.in-Some-answered_by.entry found c.in-4.is in
    rw (← c.self.view_is, c.number-in-4-2.ensures) (sym (ap told means))

pub returns-in-4-clause-after : goal.returns-in-4-clause-after
returns-in-4-clause-after c =
    let desk : Desk = record { next = c.self.inside.next; standing = c.self.inside.requests; rows = c.self.inside.rows } in
    let head : Head = c.in-Some.head in
    let is : head_of c.args.response.now ≡ Some head = sym c.head.ensures ∙ c.in-Some.is in
    let found = sym c.answered_by.ensures.found ∙ c.in-Some-answered_by.is in
    let entry = c.in-Some-answered_by.entry in
    let means = failed_is desk c.args.response.now head is entry found c.in-4.is in
    let left : c.remove-in-4.new.self ≡ filter (λ other. not (other.number == entry.number)) desk.standing = rw (← c.number-in-4.ensures) c.remove-in-4.ensures in
    rw (← c.self.view_is, left) (sym (ap (after_answer desk) means))
