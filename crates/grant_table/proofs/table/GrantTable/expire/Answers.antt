use Rattle.std.proofs.Common.{rules}
use Rattle.grant_table.specs.Held.{shown}
use Rattle.grant_table.proofs.Apart.{kept}
use Rattle.grant_table.proofs.table.GrantTable.expire.Goals as goal

pub returns-then-not-ages-clause-aged : goal.returns-then-not-ages-clause-aged
returns-then-not-ages-clause-aged c =
    rw (← c.self.view_is)
    (kept c.self.inside.least c.self.inside.greatest c.args.place c.self.inside.grants (shown c.get-held.result.now) c.self.invariant.apart c.get-held.ensures (search rules))
