use Rattle.std.proofs.Common.{◌∙◌, ap, sym, subst, arith}
use Rattle.net_types.specs.Number.{GivenOut, next_instance}
use Rattle.crossbar_model.specs.Channels.{ArePorts}
use Rattle.world_model.specs.Switch as switches
use Rattle.world_model.specs.Topology.{node_at}
use Rattle.world_model.proofs.Opening.{ports_are}
use Rattle.node_controller.specs.Nodes.{AreTimes}
use Rattle.world.proofs.Opened.{are_times, cells_given, few_given, ports_given, ranges_given, site_opened, table_given, vpis_low}
use Rattle.world.proofs.opening.open_site.Goals as goal

pub open-requires-clause-ports : goal.open-requires-clause-ports
open-requires-clause-ports g c = subst ArePorts (sym (ports_given c.args.topology.now c.args.node c.args.ranges.now c.requires.topology c.requires.node c.requires.ranges)) (ports_are c.args.topology.now c.args.node)

pub open-requires-clause-ranges : goal.open-requires-clause-ranges
open-requires-clause-ranges g c = ranges_given c.args.topology.now c.args.node c.args.ranges.now c.requires.topology c.requires.node c.requires.ranges

pub open-requires-clause-cells : goal.open-requires-clause-cells
open-requires-clause-cells g c = cells_given c.args.topology.now c.args.node c.args.ranges.now c.requires.topology c.requires.node c.requires.ranges c.cells-cells.result c.cells-cells.ensures

pub open-requires-clause-timers : goal.open-requires-clause-timers
open-requires-clause-timers g c = subst AreTimes (sym c.port_timers.ensures) (are_times c.args.topology.now c.requires.topology)

pub open-requires-clause-table : goal.open-requires-clause-table
open-requires-clause-table g c = table_given c.args.topology.now c.args.node c.args.ranges.now c.requires.topology c.requires.node c.requires.ranges c.in_ok-table.table c.in_ok-table.ensures

pub open-requires-2-clause-ports : goal.open-requires-2-clause-ports
open-requires-2-clause-ports g c = subst ArePorts (sym (c.as_slice.ensures.value ∙ c.in_ok-ports.ensures ∙ ports_given c.args.topology.now c.args.node c.args.ranges.now c.requires.topology c.requires.node c.requires.ranges)) (ports_are c.args.topology.now c.args.node)

pub open-requires-2-clause-cells : goal.open-requires-2-clause-cells
open-requires-2-clause-cells g c = cells_given c.args.topology.now c.args.node c.args.ranges.now c.requires.topology c.requires.node c.requires.ranges c.cells-cells.result c.cells-cells.ensures

pub open-requires-2-clause-vpis : goal.open-requires-2-clause-vpis
open-requires-2-clause-vpis g c = (let low = vpis_low c.args.topology.now in (omega (arith, low.0, c.vpis.ensures), omega (arith, low.1, c.vpis.ensures)))

pub open-requires-2-clause-numbers : goal.open-requires-2-clause-numbers
open-requires-2-clause-numbers g c =
    let few = few_given c.args.topology.now c.args.node c.args.ranges.now c.requires.topology c.requires.node c.requires.ranges in
    record {
      instances = omega (arith, ap (λ (n : GivenOut). n.instances) c.in_ok-controller.ensures.numbers, few, c.requires.instances);
      controls = omega (arith, ap (λ (n : GivenOut). n.controls) c.in_ok-controller.ensures.numbers, c.requires.controls);
    }

pub returns-in-Ok-clause-site : goal.returns-in-Ok-clause-site
returns-in-Ok-clause-site g c = site_opened (g.C.NodeController.meaning c.args.policy) c.args.topology.now c.args.node c.args.numbers.now (node_at c.args.topology.now c.args.node)
    (g.C.NodeController.seen c.in_ok-controller.controller) c.in-Ok.switch c.address.result c.in_ok-table.table c.args.ranges.now c.cells-cells.result c.port_timers.result c.as_slice.result.now c.vpis.result
    c.address.ensures c.in_ok-table.ensures c.requires.ranges c.cells-cells.ensures c.port_timers.ensures (c.as_slice.ensures.value ∙ c.in_ok-ports.ensures) c.vpis.ensures c.in_ok-controller.ensures.controller
    (c.in-Ok.ensures.switch ∙ ap (λ m. switches.opened c.args.node c.as_slice.result.now c.cells-cells.result c.vpis.result (next_instance m)) c.in_ok-controller.ensures.numbers)
