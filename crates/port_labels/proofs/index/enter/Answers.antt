use Rattle.port_labels.proofs.Entries.{entered_is}
use Rattle.port_labels.proofs.index.enter.Goals as goal

pub returns-clause-flows : goal.returns-clause-flows
returns-clause-flows c =
    entered_is c.args.flows.now.entries c.insert.new.self.entries c.args.flow c.args.label c.in_ok-insert.ensures.updates.0
