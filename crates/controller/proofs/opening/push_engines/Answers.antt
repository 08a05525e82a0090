use Rattle.std.proofs.Common.{arith, ap}
use Rattle.net_types.specs.Number.{GivenOut}
use Rattle.controller_link.proofs.Blocks.{few_ports, link_port}
use Rattle.world_model.specs.controller_model.declared.range.PortRange.{PortRange}
use Rattle.controller.proofs.opening.push_engines.Goals as goal

pub push_engine-requires-clause-numbers : goal.push_engine-requires-clause-numbers
push_engine-requires-clause-numbers g c = omega (arith, ap (λ (n : GivenOut). n.instances) c.loop-range.invariant.numbers, few_ports c.args.setup.now.ports.now c.requires.ports, c.loop-range-test.true, c.requires.numbers)

pub push_engine-requires-clause-port : goal.push_engine-requires-clause-port
push_engine-requires-clause-port g c =
    let d : PortRange = record { port = record { 0 = 0 }; lo = 0; hi = 0 } in
    link_port c.args.setup.now.ports.now c.loop-range.range-index d c.requires.ports c.loop-range-test.true
