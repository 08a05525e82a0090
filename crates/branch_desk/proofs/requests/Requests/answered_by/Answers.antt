use Rattle.std.proofs.Common.{◌≡◌, ◌∙◌, sym, true, false}
use Rattle.port_model.specs.DeskAnswers.{is_of_type}
use Rattle.branch_desk.proofs.Numbers.{found_of, none_found}
use Rattle.branch_desk.proofs.requests.Requests.answered_by.Goals as goal

pub returns-in_err-place_of-clause-found : goal.returns-in_err-place_of-clause-found
returns-in_err-place_of-clause-found c =
    c.from_residual.ensures
    ∙ sym (rw (← c.self.view_is, ← c.deref.ensures.value) (none_found c.args.number (λ s. is_of_type c.args.message.now s.request) c.deref.result.now c.in_err-place_of.ensures.absent))

pub returns-then-is_of_type-clause-found : goal.returns-then-is_of_type-clause-found
returns-then-is_of_type-clause-found c =
    let is : is_of_type c.args.message.now c.index.result.now.request ≡ true = cc in
    sym (rw (← c.self.view_is) (found_of c.args.number (λ s. is_of_type c.args.message.now s.request) _ c.in_ok-place_of.field-0 c.index.result.now true c.self.invariant.rising (rw (← c.deref.ensures.value) c.in_ok-place_of.ensures.found) c.index.ensures is))

pub returns-else-is_of_type-clause-found : goal.returns-else-is_of_type-clause-found
returns-else-is_of_type-clause-found c =
    let is : is_of_type c.args.message.now c.index.result.now.request ≡ false = cc in
    sym (rw (← c.self.view_is) (found_of c.args.number (λ s. is_of_type c.args.message.now s.request) _ c.in_ok-place_of.field-0 c.index.result.now false c.self.invariant.rising (rw (← c.deref.ensures.value) c.in_ok-place_of.ensures.found) c.index.ensures is))
