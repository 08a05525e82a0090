use Rattle.std.proofs.Common.{inl, inr, refl}
use Rattle.port_actions.specs.contracts.outlook.Outlook.{the_view}
use Rattle.port_actions.specs.Outlook.{deletes, stands}
use Rattle.port_actions.proofs.Told.{one_more_told}
use Rattle.port_actions.proofs.outlook.Outlook.ask_request.Goals as goal

pub returns-in-PortManagement-clause-tells : goal.returns-in-PortManagement-clause-tells
returns-in-PortManagement-clause-tells c = rw (← c.self.view_is) (λ later told. elim c.in-PortManagement.is [
  | inl w ↦ one_more_told c.self.inside.many (stands (the_view c.self.inside) c.args.desk.now) (deletes (the_view c.self.inside) c.args.desk.now) later c.args.request.now (rw w.2 refl) (λ port. rw w.2 refl) (λ s. rw w.2 refl) told
  | inr e ↦ one_more_told c.self.inside.many (stands (the_view c.self.inside) c.args.desk.now) (deletes (the_view c.self.inside) c.args.desk.now) later c.args.request.now (rw e refl) (λ port. rw e refl) (λ s. rw e refl) told
])
