use Rattle.std.proofs.Common.{sym, refl, append-nil, arith}
use Rattle.controller_link.specs.Store.{stored}
use Rattle.controller_link.proofs.Regions.{free_is}
use Rattle.controller_link.proofs.store.Store.send.Goals as goal

pub returns-then-free-cells-clause-all : goal.returns-then-free-cells-clause-all
returns-then-free-cells-clause-all c =
    let free = free_is c.self.inside.pool c.self.inside.queue c.self.inside.chains.items c.self.invariant in
    rw (← c.self.view_is) (λ t. absurd (cc t), λ le. absurd (omega (arith, free, le, c.if-free-cells.true, c.free.ensures.free)))

pub loop-cell-init : goal.loop-cell-init
loop-cell-init c =
    let free = free_is c.self.inside.pool c.self.inside.queue c.self.inside.chains.items c.self.invariant in
    let s = stored c.self.inside.pool c.self.inside.queue c.self.inside.chains.items in
    rw (← c.self.view_is)
    (record {
      room = omega (arith, free, c.if-free-cells.false, c.free.ensures.free);
      sent = λ i. record { cells = s.cells; queue = sym (append-nil s.queue) i; chains = s.chains };
    })

pub returns-clause-all : goal.returns-clause-all
returns-clause-all c =
    let free = free_is c.self.inside.pool c.self.inside.queue c.self.inside.chains.items c.self.invariant in
    rw (← c.self.view_is) (λ t. omega (arith, free, c.if-free-cells.false, c.free.ensures.free), λ le. refl)
