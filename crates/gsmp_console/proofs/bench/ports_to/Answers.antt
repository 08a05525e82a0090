use Rattle.std.proofs.Common.{subst, sym}
use Rattle.crossbar_model.specs.Channels.{ArePorts}
use Rattle.gsmp_console.proofs.Linked.{are_ports, first_ports}
use Rattle.gsmp_console.proofs.bench.ports_to.Goals as goal

pub returns-clause-these : goal.returns-clause-these
returns-clause-these c = first_ports c.args.ports c.requires

pub returns-clause-are_ports : goal.returns-clause-are_ports
returns-clause-are_ports c = subst ArePorts (sym (first_ports c.args.ports c.requires)) (are_ports c.args.ports c.requires)
