use Rattle.std.proofs.Common.{◌≡◌, true, arith}
use Rattle.controller_link.specs.declared.taker.Taker.TheVariants.{Label}
use Rattle.controller_link.specs.Cells.{is_channel}
use Rattle.controller_link.proofs.Ports.{label_of_range, some_count}
use Rattle.controller_link.proofs.layout.Layout.place_of.Goals as goal

pub overflow_add-result : goal.overflow_add-result
overflow_add-result c = omega (arith, c.block_of-block.ensures.within, c.block_of-block.ensures.bound)

pub overflow_add-result-in-Label : goal.overflow_add-result-in-Label
overflow_add-result-in-Label c =
    let is : is_channel c.args.self.now (Label c.in-Label.port c.in-Label.number) ≡ true = rw c.in-Label.is at c.requires in
    let label = label_of_range c.args.self.now c.in-Label.port c.in-Label.number c.block_of-block.result.range is c.block_of-block.ensures.range in
    omega (arith, c.block_of-block.ensures.within, c.block_of-block.ensures.bound, label.0, label.1)

pub returns-in-Gsmp-clause-within : goal.returns-in-Gsmp-clause-within
returns-in-Gsmp-clause-within c = omega (arith, some_count c.args.self.now)

pub returns-in-Default-clause-within : goal.returns-in-Default-clause-within
returns-in-Default-clause-within c = omega (arith, c.block_of.ensures.within)

pub returns-in-Label-clause-within : goal.returns-in-Label-clause-within
returns-in-Label-clause-within c =
    let is : is_channel c.args.self.now (Label c.in-Label.port c.in-Label.number) ≡ true = rw c.in-Label.is at c.requires in
    let label = label_of_range c.args.self.now c.in-Label.port c.in-Label.number c.block_of-block.result.range is c.block_of-block.ensures.range in
    omega (arith, c.block_of-block.ensures.within, label.0, label.1)
