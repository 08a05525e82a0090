use Rattle.std.proofs.Common.{◌≡◌, ◌∙◌, sym, true, false, append-nil}
use Rattle.ipv4_forward.specs.Best.{is_same}
use Rattle.ipv4_forward.proofs.change.longer_of_others.Goals as goal

pub returns-then-is_of : goal.returns-then-is_of
returns-then-is_of c = λ routes longest fresh.
    let same : is_same c.args.route.prefix c.args.prefix ≡ true = sym c.is_of.ensures ∙ c.if-is_of.true in
    rw same (rw append-nil longest)

pub returns : goal.returns
returns c = λ routes longest fresh.
    let other : is_same c.args.route.prefix c.args.prefix ≡ false = sym c.is_of.ensures ∙ c.if-is_of.false in
    rw other (c.longer.ensures routes longest fresh)
