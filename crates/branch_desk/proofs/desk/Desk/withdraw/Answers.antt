use Rattle.std.proofs.Common.{◌<◌}
use Rattle.std.proofs.lemmas.List.Elements.{All-filter}
use Rattle.port_model.specs.Desk.{Standing}
use Rattle.branch_desk.proofs.Gone.{gone_withdrawn, gone-calls}
use Rattle.branch_desk.proofs.desk.Desk.withdraw.Goals as goal

pub invariant_of-self : goal.invariant_of-self
invariant_of-self c = rw c.remove.ensures (All-filter _ (λ (s : Standing). s.number < c.self.inside.next) _ c.self.invariant)

pub returns-clause-for_good : goal.returns-clause-for_good
returns-clause-for_good c = λ given calls.
    let below : c.args.ticket.number < c.self.inside.next = rw (← c.self.view_is) at given in
    rw (c.remove.ensures, c.number.ensures) (gone-calls c.args.ticket.number _ calls (gone_withdrawn c.args.ticket.number (record { next = c.self.inside.next; standing = c.self.inside.requests; rows = c.self.inside.rows }) below))
