use Rattle.std.proofs.Common.{◌≡◌, true, is_some, arith}
use Rattle.world_model.specs.controller_model.declared.range.PortRange.{PortRange}
use Rattle.controller_link.specs.declared.layout.Block.{Block}
use Rattle.controller_link.specs.Cells.{range_at}
use Rattle.controller_link.proofs.Blocks.{port_inside}
use Rattle.controller_link.proofs.Ports.{block_within, default_there}
use Rattle.controller_link.proofs.layout.Layout.block_of.Goals as goal

pub bounds-self-inside-port : goal.bounds-self-inside-port
bounds-self-inside-port c =
    let linked : is_some (range_at c.self.inside.ports.items c.args.port) ≡ true = rw (← c.self.view_is) at c.requires in
    let there = default_there c.self.inside.ports.items c.args.port linked in
    port_inside c.self.inside.ports.items c.args.port there.0 c.self.invariant.ports there.1

pub returns-clause-within : goal.returns-clause-within
returns-clause-within c =
    let linked : is_some (range_at c.self.inside.ports.items c.args.port) ≡ true = rw (← c.self.view_is) at c.requires in
    let there = default_there c.self.inside.ports.items c.args.port linked in
    let range : PortRange = there.0 in
    let none : Block = record { range = record { port = record { 0 = 0 }; lo = 0; hi = 0 }; first = 0 } in
    let block = block_within c.self.inside.ports.items c.args.port range there.1 in
    rw (← c.self.view_is, c.self.invariant.each c.args.port range none there.1) (omega (arith, block))

pub returns-clause-bound : goal.returns-clause-bound
returns-clause-bound c = rw (← c.self.view_is) (omega (arith, c.self.invariant.counted, c.self.invariant.small))
