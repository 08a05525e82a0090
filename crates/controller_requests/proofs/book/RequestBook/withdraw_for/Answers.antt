use Rattle.std.proofs.Common.{◌≡◌, false, filter, inl, inr, not, refl, sym}
use Rattle.branch_desk.specs.port_model.Desk.{Standing}
use Rattle.controller_requests.proofs.Lists.{all_kept}
use Rattle.controller_requests.proofs.book.RequestBook.withdraw_for.Goals as goal

pub returns-in-PortManagement : goal.returns-in-PortManagement
returns-in-PortManagement c =
    let kept : filter (λ (s : Standing). not false) c.args.self.now.standing ≡ c.args.self.now.standing = all_kept (λ (s : Standing). false) c.args.self.now.standing (λ s. refl) in
    elim c.in-PortManagement.is [
      | inl h ↦ rw h.2 (λ i. record { next = c.args.self.now.next; standing = sym kept i; rows = c.args.self.now.rows })
      | inr e ↦ rw e (λ i. record { next = c.args.self.now.next; standing = sym kept i; rows = c.args.self.now.rows })
    ]
