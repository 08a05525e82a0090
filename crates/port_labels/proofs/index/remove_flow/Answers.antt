use Rattle.port_labels.proofs.Entries.{removed_is}
use Rattle.port_labels.proofs.index.remove_flow.Goals as goal

pub returns : goal.returns
returns c = removed_is c.args.flows.now.entries c.remove.new.self.entries c.args.flow c.remove.ensures.updates.0
