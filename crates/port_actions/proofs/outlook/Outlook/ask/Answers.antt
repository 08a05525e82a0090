use Rattle.std.proofs.Common.{◌+◌, ◌∙◌, Bool, not, cond, refl, ap}
use Rattle.port_actions.specs.contracts.outlook.Outlook.{the_view}
use Rattle.port_actions.specs.Outlook.{Outlook}
use Rattle.port_actions.proofs.Told.{ask_tells}
use Rattle.port_actions.proofs.outlook.Outlook.ask.Goals as goal

pub returns-clause-tells : goal.returns-clause-tells
returns-clause-tells c =
    let seen = rw (← c.self.view_is) at c.on_input.ensures in
    let next : Outlook = record { many = c.self.inside.many + c.one_if.result; inputs = c.insert.new.self.entries; deleted = c.self.inside.deleted.entries } in
    rw (← c.self.view_is) (λ later request of told.
    ask_tells _ (λ a b. refl) (the_view c.self.inside) next c.args.desk.now later request c.args.input of
    (ap (λ n. c.self.inside.many + n) (c.one_if.ensures ∙ ap (λ (b : Bool). cond (not b) 1 0) seen)) c.in_ok-insert.ensures.entries refl told)
