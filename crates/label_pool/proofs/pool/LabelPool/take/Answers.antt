use Rattle.std.proofs.Common.{◌≡◌, ℕ, ◌+◌, ◌<◌, ◌≤◌, false, length, sym, refl, arith}
use Rattle.label_pool.specs.Marks.{marked, is_open}
use Rattle.label_pool.proofs.Marked.{length_off, marked_off, absent_without}
use Rattle.label_pool.proofs.Pools.{closed_up_to, first_place, lowest_found, lowest_none, marks_taken}
use Rattle.label_pool.proofs.pool.LabelPool.take.Goals as goal

pub returns-then-self-len-clause-lowest : goal.returns-then-self-len-clause-lowest
returns-then-self-len-clause-lowest c =
    let later : (k : ℕ) → c.self.inside.low ≤ k → k < c.first_open-self-inside.result → is_open c.self.inside.least c.self.inside.between c.self.inside.marks.items k ≡ false =
    rw c.deref.ensures.value at c.first_open-self-inside.ensures.closed in
    let seen = rw c.deref.ensures.value at c.deref.ensures.len in
    let at_end : c.first_open-self-inside.result ≡ length c.self.inside.marks.items = omega (arith, c.if-self-len.true, c.len.ensures, seen) in
    let closed = closed_up_to c.self.inside.least c.self.inside.between c.self.inside.marks.items c.self.inside.low c.first_open-self-inside.result c.self.invariant.closed later in
    rw (← c.self.view_is)
    (sym (lowest_none c.self.inside.least c.self.inside.between c.self.inside.marks.items (λ k below. closed k (omega (arith, below, at_end)))))

pub overflow_sub-self : goal.overflow_sub-self
overflow_sub-self c =
    let seen = rw c.deref.ensures.value at c.deref.ensures.len in
    let size : c.len.result ≡ length c.self.inside.marks.items = omega (arith, c.len.ensures, seen) in
    let first = first_place c.self.inside.least c.self.inside.between c.self.inside.marks.items c.deref.result.now c.self.inside.low
    c.first_open-self-inside.result c.len.result c.deref.ensures.value c.self.invariant.closed c.first_open-self-inside.ensures.within
    c.first_open-self-inside.ensures.closed c.first_open-self-inside.ensures.open size c.if-self-len.false in
    omega (arith, length_off c.self.inside.least c.self.inside.marks.items c.first_open-self-inside.result first.on, c.self.invariant.counted)

pub invariant_of-self-2 : goal.invariant_of-self-2
invariant_of-self-2 c =
    let seen = rw c.deref.ensures.value at c.deref.ensures.len in
    let size : c.len.result ≡ length c.self.inside.marks.items = omega (arith, c.len.ensures, seen) in
    let first = first_place c.self.inside.least c.self.inside.between c.self.inside.marks.items c.deref.result.now c.self.inside.low
    c.first_open-self-inside.result c.len.result c.deref.ensures.value c.self.invariant.closed c.first_open-self-inside.ensures.within
    c.first_open-self-inside.ensures.closed c.first_open-self-inside.ensures.open size c.if-self-len.false in
    marks_taken c.self.inside.least c.self.inside.greatest c.self.inside.between c.self.inside.marks.items c.self.inside.count
    c.self.inside.low c.first_open-self-inside.result c.self.invariant first.closed first.inside first.on

pub returns-clause-lowest : goal.returns-clause-lowest
returns-clause-lowest c =
    let seen = rw c.deref.ensures.value at c.deref.ensures.len in
    let size : c.len.result ≡ length c.self.inside.marks.items = omega (arith, c.len.ensures, seen) in
    let first = first_place c.self.inside.least c.self.inside.between c.self.inside.marks.items c.deref.result.now c.self.inside.low
    c.first_open-self-inside.result c.len.result c.deref.ensures.value c.self.invariant.closed c.first_open-self-inside.ensures.within
    c.first_open-self-inside.ensures.closed c.first_open-self-inside.ensures.open size c.if-self-len.false in
    rw (← c.self.view_is, c.new.ensures)
    (sym (lowest_found c.self.inside.least c.self.inside.between c.self.inside.marks.items c.first_open-self-inside.result first.closed first.is))

pub returns-clause-taken : goal.returns-clause-taken
returns-clause-taken c =
    rw (
      ← c.self.view_is,
      c.new.ensures,
      marked_off c.self.inside.least c.self.inside.marks.items c.first_open-self-inside.result (c.self.inside.least + c.first_open-self-inside.result) refl,
    ) refl

pub returns-clause-absent : goal.returns-clause-absent
returns-clause-absent c =
    rw (
      c.new.ensures,
      marked_off c.self.inside.least c.self.inside.marks.items c.first_open-self-inside.result (c.self.inside.least + c.first_open-self-inside.result) refl,
    )
    (absent_without (c.self.inside.least + c.first_open-self-inside.result) (marked c.self.inside.least c.self.inside.marks.items))
