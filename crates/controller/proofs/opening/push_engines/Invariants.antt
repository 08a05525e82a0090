use Rattle.std.proofs.Common.{◌≡◌, ◌+◌, ◌++◌, drop, map}
use Rattle.world_model.specs.Opening.{setup_of}
use Rattle.controller.specs.Opening.{opened_ends}
use Rattle.controller.proofs.opening.push_engines.Given as goal

abbrev pub invariant-loop-range : goal.invariant-loop-range
invariant-loop-range g l = record {
  engines : map g.E.PortEngine.seen l.engines.items ++ opened_ends (setup_of l.setup.node l.setup.address l.setup.timers (g.E.OpenEngine.meaning l.policy)) l.numbers.instances (drop l.range-index l.setup.ports.now) ≡ opened_ends (setup_of l.setup.node l.setup.address l.setup.timers (g.E.OpenEngine.meaning l.policy)) l.fn.numbers.instances l.setup.ports.now;
  numbers : l.numbers ≡ record l.fn.numbers { instances = l.fn.numbers.instances + l.range-index };
}
