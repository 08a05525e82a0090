use Rattle.std.proofs.Common.{◌≡◌, ◌<◌, ◌++◌, ◌∷◌, [], ap, length, refl, arith}
use Rattle.cell_pool.specs.Region.{IsLine, cells_of}
use Rattle.cell_pool.specs.Shares.{LineChanges}
use Rattle.cell_pool.proofs.Lines.{cells_of-sent, line_sent}
use Rattle.controller_link.specs.Store.{AreOneRegion, free_in, stored}
use Rattle.controller_link.proofs.Regions.{free_is, region_queued, stored_queued}
use Rattle.controller_link.proofs.store.Store.push.Goals as goal

pub unreachable-requires : goal.unreachable-requires
unreachable-requires c =
    let none : c.self.inside.pool.free ≡ [] = c.in_default.ensures.none.0 refl in
    let some : 0 < free_in (stored c.self.inside.pool c.self.inside.queue c.self.inside.chains.items) = rw (← c.self.view_is) at c.requires in
    omega (arith, ap length none, some, free_is c.self.inside.pool c.self.inside.queue c.self.inside.chains.items c.self.invariant)

pub invariant_of-self : goal.invariant_of-self
invariant_of-self c =
    let line : IsLine c.self.inside.pool c.self.inside.queue = c.self.invariant.share.each 0 c.self.inside.queue (omega arith) in
    let changed : LineChanges c.self.inside.pool c.push.new.pool c.self.inside.queue c.push.new.self = line_sent c.self.inside.pool c.take.new.self c.push.new.pool c.self.inside.queue c.push.new.self c.in-Some.slot c.args.cell.now line c.in-Some.ensures.some c.push.ensures.pushed in
    region_queued c.self.inside.pool c.push.new.pool c.self.inside.queue c.self.inside.chains.items c.self.invariant c.push.new.self changed

pub returns-clause-queue : goal.returns-clause-queue
returns-clause-queue c =
    let line : IsLine c.self.inside.pool c.self.inside.queue = c.self.invariant.share.each 0 c.self.inside.queue (omega arith) in
    let changed : LineChanges c.self.inside.pool c.push.new.pool c.self.inside.queue c.push.new.self = line_sent c.self.inside.pool c.take.new.self c.push.new.pool c.self.inside.queue c.push.new.self c.in-Some.slot c.args.cell.now line c.in-Some.ensures.some c.push.ensures.pushed in
    rw (← c.self.view_is)
    (stored_queued c.self.inside.pool c.push.new.pool c.self.inside.queue c.self.inside.chains.items c.self.invariant c.push.new.self changed (cells_of c.self.inside.pool c.self.inside.queue ++ c.args.cell.now ∷ [])
    (cells_of-sent c.self.inside.pool c.take.new.self c.push.new.pool c.self.inside.queue c.push.new.self c.in-Some.slot c.args.cell.now line c.in-Some.ensures.some c.push.ensures.pushed))

pub returns-clause-free : goal.returns-clause-free
returns-clause-free c =
    let line : IsLine c.self.inside.pool c.self.inside.queue = c.self.invariant.share.each 0 c.self.inside.queue (omega arith) in
    let changed : LineChanges c.self.inside.pool c.push.new.pool c.self.inside.queue c.push.new.self = line_sent c.self.inside.pool c.take.new.self c.push.new.pool c.self.inside.queue c.push.new.self c.in-Some.slot c.args.cell.now line c.in-Some.ensures.some c.push.ensures.pushed in
    let after : AreOneRegion c.push.new.pool c.push.new.self c.self.inside.chains.items = region_queued c.self.inside.pool c.push.new.pool c.self.inside.queue c.self.inside.chains.items c.self.invariant c.push.new.self changed in
    let before = free_is c.self.inside.pool c.self.inside.queue c.self.inside.chains.items c.self.invariant in
    let behind = free_is c.push.new.pool c.push.new.self c.self.inside.chains.items after in
    let counted = changed.counted in
    rw (← c.self.view_is) (omega (arith, before, behind, counted, c.push.ensures.len))
