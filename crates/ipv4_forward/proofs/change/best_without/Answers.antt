use Rattle.std.proofs.Common.{None}
use Rattle.ipv4_forward.specs.Change.{changed_by}
use Rattle.ipv4_forward.proofs.Passing.{longest_is_best}
use Rattle.ipv4_forward.proofs.change.best_without.Goals as goal

pub returns : goal.returns
returns c = longest_is_best (changed_by c.args.routes.now c.args.prefix None) c.args.addr c.longest_of_others.result c.longest_of_others.ensures
