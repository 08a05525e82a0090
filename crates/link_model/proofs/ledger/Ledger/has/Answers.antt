use Rattle.link_model.proofs.Marks.{has_entry-Decides}
use Rattle.link_model.proofs.ledger.Ledger.has.Goals as goal

pub returns-clause-entry : goal.returns-clause-entry
returns-clause-entry c = rw (← c.self.view_is, c.has.ensures) (has_entry-Decides c.self.inside.entries c.args.mark)
