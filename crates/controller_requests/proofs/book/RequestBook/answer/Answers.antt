use Rattle.std.proofs.Common.{◌≡◌, ◌∙◌, ap, sym, filter, not, Contains}
use Rattle.branch_desk.specs.port_model.Desk.{Desk, Standing}
use Rattle.branch_desk.specs.port_model.DeskAnswers.{answered, after_answer}
use Rattle.branch_desk.specs.port_model.DeskAnswers as meaning
use Rattle.controller_requests.proofs.Answering.{IsFailure, named, named_stands, told_done, told_failed, told_ports}
use Rattle.controller_requests.proofs.Books.{book_filter, failed_left, ticket_is, ticket_number}
use Rattle.controller_requests.proofs.Lists.{number_there}
use Rattle.branch_desk.proofs.Numbers.{has}
use Rattle.controller_requests.proofs.book.RequestBook.answer.Goals as goal

pub take-ticket-requires-clause-there : goal.take-ticket-requires-clause-there
take-ticket-requires-clause-there c =
    let d = c.self.inside.desk in
    let m = c.args.message.now in
    let means : answered d m ≡ meaning.Done c.in-Done.done = told_done (answered d m) c.in-Done.done (sym c.in-Done.is ∙ c.answer.ensures.answer) in
    let there : Contains d.standing c.in-Done.done = named_stands d m c.in-Done.done (ap named means) in
    rw (c.number.ensures, c.self.invariant.same) (number_there d.standing c.in-Done.done there)

pub new-requires : goal.new-requires
new-requires c =
    let d = c.self.inside.desk in
    let m = c.args.message.now in
    let means : answered d m ≡ meaning.Done c.in-Done.done = told_done (answered d m) c.in-Done.done (sym c.in-Done.is ∙ c.answer.ensures.answer) in
    let there : Contains d.standing c.in-Done.done = named_stands d m c.in-Done.done (ap named means) in
    ticket_is d c.self.inside.tickets c.in-Done.done c.take-ticket.result c.number.result c.self.invariant there c.number.ensures c.take-ticket.ensures.ticket

pub invariant_of-self-in-Done : goal.invariant_of-self-in-Done
invariant_of-self-in-Done c =
    let d = c.self.inside.desk in
    let m = c.args.message.now in
    let means : answered d m ≡ meaning.Done c.in-Done.done = told_done (answered d m) c.in-Done.done (sym c.in-Done.is ∙ c.answer.ensures.answer) in
    let after = c.answer.ensures.after ∙ ap (after_answer d) means in
    book_filter (λ (x : Standing). not (has c.in-Done.done.number x)) d c.answer.new.self c.self.inside.tickets c.take-ticket.new.self c.self.invariant (ap (λ (x : Desk). x.next) after) (ap (λ (x : Desk). x.standing) after) (rw c.number.ensures at c.take-ticket.ensures.rest)

pub take-ticket-requires-in-Ports-clause-there : goal.take-ticket-requires-in-Ports-clause-there
take-ticket-requires-in-Ports-clause-there c =
    let d = c.self.inside.desk in
    let m = c.args.message.now in
    let means : answered d m ≡ meaning.Ports c.in-Ports.done c.in-Ports.ports = told_ports (answered d m) c.in-Ports.done c.in-Ports.ports (sym c.in-Ports.is ∙ c.answer.ensures.answer) in
    let there : Contains d.standing c.in-Ports.done = named_stands d m c.in-Ports.done (ap named means) in
    rw (c.number-in-Ports.ensures, c.self.invariant.same) (number_there d.standing c.in-Ports.done there)

pub new-requires-in-Ports : goal.new-requires-in-Ports
new-requires-in-Ports c =
    let d = c.self.inside.desk in
    let m = c.args.message.now in
    let means : answered d m ≡ meaning.Ports c.in-Ports.done c.in-Ports.ports = told_ports (answered d m) c.in-Ports.done c.in-Ports.ports (sym c.in-Ports.is ∙ c.answer.ensures.answer) in
    let there : Contains d.standing c.in-Ports.done = named_stands d m c.in-Ports.done (ap named means) in
    ticket_is d c.self.inside.tickets c.in-Ports.done c.take-ticket-in-Ports.result c.number-in-Ports.result c.self.invariant there c.number-in-Ports.ensures c.take-ticket-in-Ports.ensures.ticket

pub invariant_of-self-in-Ports : goal.invariant_of-self-in-Ports
invariant_of-self-in-Ports c =
    let d = c.self.inside.desk in
    let m = c.args.message.now in
    let means : answered d m ≡ meaning.Ports c.in-Ports.done c.in-Ports.ports = told_ports (answered d m) c.in-Ports.done c.in-Ports.ports (sym c.in-Ports.is ∙ c.answer.ensures.answer) in
    let after = c.answer.ensures.after ∙ ap (after_answer d) means in
    book_filter (λ (x : Standing). not (has c.in-Ports.done.number x)) d c.answer.new.self c.self.inside.tickets c.take-ticket-in-Ports.new.self c.self.invariant (ap (λ (x : Desk). x.next) after) (ap (λ (x : Desk). x.standing) after) (rw c.number-in-Ports.ensures at c.take-ticket-in-Ports.ensures.rest)

pub take-ticket-requires-in-Failed-clause-there : goal.take-ticket-requires-in-Failed-clause-there
take-ticket-requires-in-Failed-clause-there c =
    let d = c.self.inside.desk in
    let m = c.args.message.now in
    let failure : IsFailure (answered d m) c.in-Failed.number c.in-Failed.code = told_failed (answered d m) c.in-Failed.number c.in-Failed.code (sym c.in-Failed.is ∙ c.answer.ensures.answer) in
    let there : Contains d.standing failure.request = named_stands d m failure.request (ap named failure.failed) in
    rw (← failure.number_is, c.self.invariant.same) (number_there d.standing failure.request there)

pub invariant_of-self-in-Failed : goal.invariant_of-self-in-Failed
invariant_of-self-in-Failed c =
    let d = c.self.inside.desk in
    let m = c.args.message.now in
    let failure : IsFailure (answered d m) c.in-Failed.number c.in-Failed.code = told_failed (answered d m) c.in-Failed.number c.in-Failed.code (sym c.in-Failed.is ∙ c.answer.ensures.answer) in
    let after = c.answer.ensures.after ∙ ap (after_answer d) failure.failed in
    let number = ticket_number c.self.inside.tickets c.take-ticket-in-Failed.result c.in-Failed.number c.take-ticket-in-Failed.ensures.ticket in
    let left = failed_left d c.answer.new.self c.withdraw.new.self failure.request c.take-ticket-in-Failed.result c.in-Failed.number after failure.number_is number c.withdraw.ensures.without in
    book_filter (λ (x : Standing). not (has c.in-Failed.number x)) d c.withdraw.new.self c.self.inside.tickets c.take-ticket-in-Failed.new.self c.self.invariant (ap (λ (x : Desk). x.next) left) (ap (λ (x : Desk). x.standing) left) c.take-ticket-in-Failed.ensures.rest

pub returns-in-Failed-clause-after : goal.returns-in-Failed-clause-after
returns-in-Failed-clause-after c =
    let d = c.self.inside.desk in
    let m = c.args.message.now in
    let failure : IsFailure (answered d m) c.in-Failed.number c.in-Failed.code = told_failed (answered d m) c.in-Failed.number c.in-Failed.code (sym c.in-Failed.is ∙ c.answer.ensures.answer) in
    let after = c.answer.ensures.after ∙ ap (after_answer d) failure.failed in
    let number = ticket_number c.self.inside.tickets c.take-ticket-in-Failed.result c.in-Failed.number c.take-ticket-in-Failed.ensures.ticket in
    let left = failed_left d c.answer.new.self c.withdraw.new.self failure.request c.take-ticket-in-Failed.result c.in-Failed.number after failure.number_is number c.withdraw.ensures.without in
    let means : after_answer d (answered d m) ≡ record d { standing = filter (λ (x : Standing). not (has c.in-Failed.number x)) d.standing } =
    ap (after_answer d) failure.failed ∙ ap (λ n. let x : Desk = record d { standing = filter (λ (s : Standing). not (has n s)) d.standing } in x) failure.number_is in
    rw (← c.self.view_is) (left ∙ sym means)
