use Rattle.std.proofs.Common.{◌-◌, ◌∙◌, Bool, cond, refl, ap}
use Rattle.port_actions.specs.contracts.outlook.Outlook.{the_view}
use Rattle.port_actions.specs.Outlook.{Outlook}
use Rattle.port_actions.proofs.Told.{withdraw_tells}
use Rattle.port_actions.proofs.Entries.{inserted_stands, same_keys}
use Rattle.port_actions.proofs.outlook.Outlook.withdraw.Goals as goal

pub returns-clause-tells : goal.returns-clause-tells
returns-clause-tells c =
    let seen = rw (← c.self.view_is) at c.on_input.ensures in
    let next : Outlook = record { many = c.saturating_sub-self-inside.result; inputs = c.insert.new.self.entries; deleted = c.self.inside.deleted.entries } in
    rw (← c.self.view_is) (λ later told.
    withdraw_tells _ (λ a b. refl) (the_view c.self.inside) next c.args.desk.now later c.args.input
    (c.saturating_sub-self-inside.ensures ∙ ap (λ n. c.self.inside.many - n) (c.one_if.ensures ∙ ap (λ (b : Bool). cond b 1 0) seen)) c.in_ok-insert.ensures.entries refl told)

pub returns-clause-stands : goal.returns-clause-stands
returns-clause-stands c =
    let next : Outlook = record { many = c.saturating_sub-self-inside.result; inputs = c.insert.new.self.entries; deleted = c.self.inside.deleted.entries } in
    rw (← c.self.view_is) (inserted_stands _ (λ a b. refl) (the_view c.self.inside) next c.args.desk.now c.args.input _ c.in_ok-insert.ensures.entries)

pub returns-clause-keys : goal.returns-clause-keys
returns-clause-keys c =
    rw (← c.self.view_is, c.in_ok-insert.ensures.entries) (same_keys _ (λ a b. refl) c.self.inside.inputs.entries c.args.input _)
