use Rattle.std.proofs.Common.{◌<◌, List, refl, ap, arith, length, length-set, ◌∙◌}
use Rattle.atm_cells.specs.declared.cell.Cell.{Cell}
use Rattle.cell_pool.specs.Region.{IsLine}
use Rattle.cell_pool.specs.Steps.{IsPut}
use Rattle.crossbar_model.specs.Crossbar.{Crossbar}
use Rattle.fabric.proofs.Queues.{pop_step}
use Rattle.fabric.proofs.fabric.Fabric.pop.Goals as goal

pub invariant_of-self-2 : goal.invariant_of-self-2
invariant_of-self-2 c =
    let rest : IsLine c.self.inside.pool c.pop.new.self = rw c.pop.ensures.region at c.pop.ensures.threaded in
    let put : IsPut c.self.inside.pool c.put.new.self c.in_ok-slot.slot = rw c.pop.ensures.region at c.put.ensures in
    let within : c.args.port.0 < length c.self.inside.queues.items = omega (arith, c.requires, c.self.invariant.nine) in
    let step = pop_step c.self.inside.pool c.put.new.self c.self.inside.queues.items c.args.port.0 c.in_ok-slot.slot c.index_mut-queue.result.now c.pop.new.self within c.index_mut-queue.ensures.value c.self.invariant.share c.in_ok-slot.ensures.some rest put in
    record {
      nine = length-set c.self.inside.queues.items c.args.port.0 c.pop.new.self ∙ c.self.invariant.nine;
      share = step.lines.share;
    }

pub returns-clause-popped : goal.returns-clause-popped
returns-clause-popped c =
    let rest : IsLine c.self.inside.pool c.pop.new.self = rw c.pop.ensures.region at c.pop.ensures.threaded in
    let put : IsPut c.self.inside.pool c.put.new.self c.in_ok-slot.slot = rw c.pop.ensures.region at c.put.ensures in
    let within : c.args.port.0 < length c.self.inside.queues.items = omega (arith, c.requires, c.self.invariant.nine) in
    let step = pop_step c.self.inside.pool c.put.new.self c.self.inside.queues.items c.args.port.0 c.in_ok-slot.slot c.index_mut-queue.result.now c.pop.new.self within c.index_mut-queue.ensures.value c.self.invariant.share c.in_ok-slot.ensures.some rest put in
    rw (← c.self.view_is) (ap (λ (qs : List (List Cell)). let x : Crossbar = record { branches = c.self.inside.branches.branches; queues = qs } in x) step.cells)

pub returns-clause-queues : goal.returns-clause-queues
returns-clause-queues c =
    let rest : IsLine c.self.inside.pool c.pop.new.self = rw c.pop.ensures.region at c.pop.ensures.threaded in
    let put : IsPut c.self.inside.pool c.put.new.self c.in_ok-slot.slot = rw c.pop.ensures.region at c.put.ensures in
    let within : c.args.port.0 < length c.self.inside.queues.items = omega (arith, c.requires, c.self.invariant.nine) in
    let step = pop_step c.self.inside.pool c.put.new.self c.self.inside.queues.items c.args.port.0 c.in_ok-slot.slot c.index_mut-queue.result.now c.pop.new.self within c.index_mut-queue.ensures.value c.self.invariant.share c.in_ok-slot.ensures.some rest put in
    rw (← c.self.view_is) (record { same_ports = refl; same_vpis = refl; lines = step.lines })
