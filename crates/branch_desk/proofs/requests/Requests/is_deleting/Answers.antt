use Rattle.std.proofs.Common.{◌∙◌, ap, sym, not}
use Rattle.branch_desk.specs.Requests.{deleted_of}
use Rattle.branch_desk.proofs.Keys.{some_keyed}
use Rattle.branch_desk.proofs.requests.Requests.is_deleting.Goals as goal

pub returns : goal.returns
returns c = rw (← c.self.view_is) (ap not c.is_empty.ensures ∙ sym (some_keyed deleted_of c.self.inside.entries.items c.self.inside.deletes c.self.invariant.deletes))
