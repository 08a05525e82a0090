use Rattle.std.proofs.Common.{◌≡◌, false, sym, ◌∙◌, arith, rules}
use Rattle.ipv4_forward.specs.Best.{has_prefix}
use Rattle.ipv4_forward.proofs.Passing.{distinct_push}
use Rattle.ipv4_forward.proofs.table.Table.add.Goals as goal

pub invariant_of-self : goal.invariant_of-self
invariant_of-self c =
    let fresh : has_prefix c.self.inside.routes.items c.args.prefix ≡ false =
    rw c.as_slice.ensures.value at (sym c.holds.ensures ∙ c.if-holds.false) in
    record {
      room = omega (arith, c.self.invariant.room, c.push_reserved.ensures.capacity);
      within = search rules;
      distinct = rw c.push_reserved.ensures.items (distinct_push c.self.inside.routes.items _ c.self.invariant.distinct fresh);
    }
