use Rattle.std.proofs.Common.{◌<◌, List, refl, ap, arith, length, length-set, ◌∙◌}
use Rattle.atm_cells.specs.declared.cell.Cell.{Cell}
use Rattle.crossbar_model.specs.Crossbar.{Crossbar, on_channel_of}
use Rattle.fabric.proofs.Queues.{push_step}
use Rattle.fabric.proofs.fabric.Fabric.push.Goals as goal

pub invariant_of-self : goal.invariant_of-self
invariant_of-self c =
    let within : c.args.output.port.0 < length c.self.inside.queues.items = omega (arith, c.requires.port, c.self.invariant.nine) in
    let step = push_step c.self.inside.pool c.fill-slot.new.self c.push.new.pool c.self.inside.queues.items c.args.output.port.0 c.fill-slot.result c.index_mut-queue.result.now c.push.new.self (on_channel_of c.args.cell.now c.args.output) within c.index_mut-queue.ensures.value c.self.invariant.share c.fill-slot.ensures c.push.ensures.pushed in
    record {
      nine = length-set c.self.inside.queues.items c.args.output.port.0 c.push.new.self ∙ c.self.invariant.nine;
      share = step.lines.share;
    }

pub returns-clause-sent : goal.returns-clause-sent
returns-clause-sent c =
    let within : c.args.output.port.0 < length c.self.inside.queues.items = omega (arith, c.requires.port, c.self.invariant.nine) in
    let step = push_step c.self.inside.pool c.fill-slot.new.self c.push.new.pool c.self.inside.queues.items c.args.output.port.0 c.fill-slot.result c.index_mut-queue.result.now c.push.new.self (on_channel_of c.args.cell.now c.args.output) within c.index_mut-queue.ensures.value c.self.invariant.share c.fill-slot.ensures c.push.ensures.pushed in
    rw (← c.self.view_is) (ap (λ (qs : List (List Cell)). let x : Crossbar = record { branches = c.self.inside.branches.branches; queues = qs } in x) step.cells)

pub returns-clause-queues : goal.returns-clause-queues
returns-clause-queues c =
    let within : c.args.output.port.0 < length c.self.inside.queues.items = omega (arith, c.requires.port, c.self.invariant.nine) in
    let step = push_step c.self.inside.pool c.fill-slot.new.self c.push.new.pool c.self.inside.queues.items c.args.output.port.0 c.fill-slot.result c.index_mut-queue.result.now c.push.new.self (on_channel_of c.args.cell.now c.args.output) within c.index_mut-queue.ensures.value c.self.invariant.share c.fill-slot.ensures c.push.ensures.pushed in
    rw (← c.self.view_is) (record { same_ports = refl; same_vpis = refl; lines = step.lines })
