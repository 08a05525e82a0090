use Rattle.law_joining_conditions.specs.law_controller_facts.Sound.{Opening}
use Rattle.controller.proofs.Opened.{starts}
use Rattle.controller.proofs.Rights.{no_notes}
use Rattle.controller.proofs.node.ControllerNodeController.open.Goals as goal

pub invariant_of-result : goal.invariant_of-result
invariant_of-result g c =
    let o : Opening = record {
      node = c.args.setup.now.node;
      address = c.args.setup.now.address;
      table = c.args.table;
      ranges = c.args.setup.now.ports.now;
      cells = c.args.setup.now.cells;
      timers = c.args.setup.now.timers;
      policy = g.E.OpenEngine.meaning c.args.policy;
      notes = no_notes;
      numbers = c.args.numbers.now;
    } in
    starts g.E.PortEngine.seen c.in_ok-router.router o c.requires.ports c.requires.ranges c.requires.timers c.requires.table c.in_ok-router.ensures.controller c.in_ok-router.ensures.joins
