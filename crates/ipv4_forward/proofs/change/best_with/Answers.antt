use Rattle.std.proofs.Common.{◌≡◌, ◌∙◌, ◌++◌, ◌∷◌, [], map, sym, true, false}
use Rattle.ipv4_forward.specs.Best.{has_prefix}
use Rattle.ipv4_forward.specs.Change.{renewed}
use Rattle.ipv4_forward.specs.Longest.{IsLongest}
use Rattle.ipv4_forward.proofs.Passing.{longest_is_best}
use Rattle.ipv4_forward.proofs.Changing.{none_renewed}
use Rattle.ipv4_forward.proofs.change.best_with.Goals as goal

pub returns-then-holds : goal.returns-then-holds
returns-then-holds c =
    let there : has_prefix c.args.routes.now c.args.new.now.prefix ≡ true = sym c.holds.ensures ∙ c.if-holds.true in
    rw there (longest_is_best (map (renewed c.args.new.now.prefix c.args.new.now.next) c.args.routes.now) c.args.addr c.longest_of_renewed-found.result c.longest_of_renewed-found.ensures)

pub returns : goal.returns
returns c =
    let absent : has_prefix c.args.routes.now c.args.new.now.prefix ≡ false = sym c.holds.ensures ∙ c.if-holds.false in
    let so_far : IsLongest c.args.routes.now c.args.addr c.longest_of_renewed-found.result =
    rw (none_renewed c.args.new.now.prefix c.args.new.now.next c.args.routes.now absent) at c.longest_of_renewed-found.ensures in
    rw absent (longest_is_best (c.args.routes.now ++ c.args.new.now ∷ []) c.args.addr c.longer.result (c.longer.ensures c.args.routes.now so_far absent))
