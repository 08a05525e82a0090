use Rattle.std.proofs.Common.{◌≡◌, None, Some, true, sym, ◌∙◌, arith}
use Rattle.net_types.specs.Prefix.{covers}
use Rattle.ipv4_forward.specs.Longest.{IsLongest}
use Rattle.ipv4_forward.proofs.Passing.{missed, first, longer_one, kept}
use Rattle.ipv4_forward.proofs.table.longer.Goals as goal

pub returns-then-not-covers : goal.returns-then-not-covers
returns-then-not-covers c = λ routes longest fresh.
    missed routes c.args.addr c.args.found c.args.route (sym c.covers.ensures ∙ c.if-not-covers.true) longest

pub returns-in-None : goal.returns-in-None
returns-in-None c = λ routes longest fresh.
    let hit : covers c.args.route.prefix c.args.addr ≡ true = sym c.covers.ensures ∙ c.if-not-covers.false in
    let none : IsLongest routes c.args.addr None = rw c.in-None.is at longest in
    first routes c.args.addr c.args.route hit fresh none

pub returns-then-before_len-len : goal.returns-then-before_len-len
returns-then-before_len-len c = λ routes longest fresh.
    let hit : covers c.args.route.prefix c.args.addr ≡ true = sym c.covers.ensures ∙ c.if-not-covers.false in
    let found : IsLongest routes c.args.addr (Some c.in-Some.before) = rw c.in-Some.is at longest in
    longer_one routes c.args.addr c.in-Some.before c.args.route hit fresh (omega arith) found

pub returns-else-before_len-len : goal.returns-else-before_len-len
returns-else-before_len-len c = λ routes longest fresh.
    let hit : covers c.args.route.prefix c.args.addr ≡ true = sym c.covers.ensures ∙ c.if-not-covers.false in
    let found : IsLongest routes c.args.addr (Some c.in-Some.before) = rw c.in-Some.is at longest in
    kept routes c.args.addr c.in-Some.before c.args.route c.len-before_len.ensures.network c.len.ensures.network hit (omega arith) found
