use Rattle.std.proofs.Common.{ap, drop, sym}
use Rattle.cell_pool.specs.Region.{IsLine, cells_of}
use Rattle.cell_pool.specs.Steps.{IsPut}
use Rattle.cell_pool.specs.Shares.{LineChanges}
use Rattle.cell_pool.proofs.Lines.{cells_of-popped, line_popped}
use Rattle.controller_link.proofs.Regions.{region_queued, stored_queued}
use Rattle.controller_link.proofs.store.Store.pop.Goals as goal

pub invariant_of-self-2 : goal.invariant_of-self-2
invariant_of-self-2 c =
    let rest : IsLine c.self.inside.pool c.pop.new.self = rw c.pop.ensures.region at c.pop.ensures.threaded in
    let put : IsPut c.self.inside.pool c.put.new.self c.in_ok-slot.slot = rw c.pop.ensures.region at c.put.ensures in
    let changed : LineChanges c.self.inside.pool c.put.new.self c.self.inside.queue c.pop.new.self = line_popped c.self.inside.pool c.put.new.self c.self.inside.queue c.pop.new.self c.in_ok-slot.slot c.in_ok-slot.ensures.some rest put in
    region_queued c.self.inside.pool c.put.new.self c.self.inside.queue c.self.inside.chains.items c.self.invariant c.pop.new.self changed

pub returns-clause-popped : goal.returns-clause-popped
returns-clause-popped c =
    let rest : IsLine c.self.inside.pool c.pop.new.self = rw c.pop.ensures.region at c.pop.ensures.threaded in
    let put : IsPut c.self.inside.pool c.put.new.self c.in_ok-slot.slot = rw c.pop.ensures.region at c.put.ensures in
    let changed : LineChanges c.self.inside.pool c.put.new.self c.self.inside.queue c.pop.new.self = line_popped c.self.inside.pool c.put.new.self c.self.inside.queue c.pop.new.self c.in_ok-slot.slot c.in_ok-slot.ensures.some rest put in
    rw (← c.self.view_is)
    (stored_queued c.self.inside.pool c.put.new.self c.self.inside.queue c.self.inside.chains.items c.self.invariant c.pop.new.self changed (drop 1 (cells_of c.self.inside.pool c.self.inside.queue))
    (sym (ap (drop 1) (cells_of-popped c.self.inside.pool c.put.new.self c.self.inside.queue c.pop.new.self c.in_ok-slot.slot c.in_ok-slot.ensures.some rest put))))
