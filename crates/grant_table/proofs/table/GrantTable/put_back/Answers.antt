use Rattle.grant_table.specs.Held.{shown}
use Rattle.grant_table.proofs.Apart.{apart_insert}
use Rattle.grant_table.proofs.OfLabels.{labels_insert}
use Rattle.grant_table.proofs.table.GrantTable.put_back.Goals as goal

pub invariant_of-self : goal.invariant_of-self
invariant_of-self c =
    rw c.put_back.ensures (record {
      apart = apart_insert (shown c.args.grant) c.args.place c.self.inside.grants c.self.invariant.apart (rw (← c.self.view_is) at c.requires.absent);
      labels = labels_insert (shown c.args.grant) c.args.place c.self.inside.grants c.self.invariant.labels c.requires.label;
    })
