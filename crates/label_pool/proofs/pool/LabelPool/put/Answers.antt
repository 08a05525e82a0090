use Rattle.std.proofs.Common.{◌≡◌, ◌≤◌, false, refl, arith}
use Rattle.std.specs.Prelude.{nat_eq}
use Rattle.std.specs.List.{list_any}
use Rattle.label_pool.specs.Marks.{marked}
use Rattle.label_pool.proofs.Marked.{length_marked}
use Rattle.label_pool.proofs.Pools.{marks_put_back, marked_put_back}
use Rattle.label_pool.proofs.pool.LabelPool.put.Goals as goal

pub overflow_add-self : goal.overflow_add-self
overflow_add-self c =
    omega (
      arith,
      length_marked c.self.inside.least c.self.inside.marks.items,
      c.self.invariant.counted,
      c.self.inside.marks.ok.0,
      c.self.inside.marks.ok.1,
      c.self.inside.marks.small,
    )

pub invariant_of-self : goal.invariant_of-self
invariant_of-self c =
    let above : c.self.inside.least ≤ c.number.result = rw (← c.self.view_is, ← c.number.ensures.number) at c.requires.own.least in
    let below : c.number.result ≤ c.self.inside.greatest = rw (← c.self.view_is, ← c.number.ensures.number) at c.requires.own.greatest in
    let absent : list_any (nat_eq c.number.result) (marked c.self.inside.least c.self.inside.marks.items) ≡ false =
    rw (← c.self.view_is, ← c.number.ensures.number) at c.requires.absent in
    marks_put_back c.self.inside.least c.self.inside.greatest c.self.inside.between c.self.inside.marks.items c.self.inside.count
    c.self.inside.low c.number.result _ c.self.invariant above below absent c.number.ensures.label (omega (arith, c.if-place-self.true)) (omega arith)

pub invariant_of-self-else-place-self : goal.invariant_of-self-else-place-self
invariant_of-self-else-place-self c =
    let above : c.self.inside.least ≤ c.number.result = rw (← c.self.view_is, ← c.number.ensures.number) at c.requires.own.least in
    let below : c.number.result ≤ c.self.inside.greatest = rw (← c.self.view_is, ← c.number.ensures.number) at c.requires.own.greatest in
    let absent : list_any (nat_eq c.number.result) (marked c.self.inside.least c.self.inside.marks.items) ≡ false =
    rw (← c.self.view_is, ← c.number.ensures.number) at c.requires.absent in
    marks_put_back c.self.inside.least c.self.inside.greatest c.self.inside.between c.self.inside.marks.items c.self.inside.count
    c.self.inside.low c.number.result c.self.inside.low c.self.invariant above below absent c.number.ensures.label (omega arith) (omega (arith, c.if-place-self.false))

pub returns-then-place-self : goal.returns-then-place-self
returns-then-place-self c =
    let above : c.self.inside.least ≤ c.number.result = rw (← c.self.view_is, ← c.number.ensures.number) at c.requires.own.least in
    let below : c.number.result ≤ c.self.inside.greatest = rw (← c.self.view_is, ← c.number.ensures.number) at c.requires.own.greatest in
    let absent : list_any (nat_eq c.number.result) (marked c.self.inside.least c.self.inside.marks.items) ≡ false =
    rw (← c.self.view_is, ← c.number.ensures.number) at c.requires.absent in
    rw (
      ← c.self.view_is,
      ← c.number.ensures.number,
      marked_put_back c.self.inside.least c.self.inside.greatest c.self.inside.between c.self.inside.marks.items c.self.inside.count c.self.inside.low c.number.result c.self.invariant above below absent,
    ) refl

pub returns-else-place-self : goal.returns-else-place-self
returns-else-place-self c =
    let above : c.self.inside.least ≤ c.number.result = rw (← c.self.view_is, ← c.number.ensures.number) at c.requires.own.least in
    let below : c.number.result ≤ c.self.inside.greatest = rw (← c.self.view_is, ← c.number.ensures.number) at c.requires.own.greatest in
    let absent : list_any (nat_eq c.number.result) (marked c.self.inside.least c.self.inside.marks.items) ≡ false =
    rw (← c.self.view_is, ← c.number.ensures.number) at c.requires.absent in
    rw (
      ← c.self.view_is,
      ← c.number.ensures.number,
      marked_put_back c.self.inside.least c.self.inside.greatest c.self.inside.between c.self.inside.marks.items c.self.inside.count c.self.inside.low c.number.result c.self.invariant above below absent,
    ) refl
