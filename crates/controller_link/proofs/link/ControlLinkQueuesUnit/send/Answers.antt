use Rattle.controller_link.proofs.Ports.{free_is}
use Rattle.controller_link.proofs.link.ControlLinkQueuesUnit.send.Goals as goal

pub returns-clause-all : goal.returns-clause-all
returns-clause-all c = rw (← c.self.view_is, free_is c.self.inside.layout c.self.inside.store c.self.invariant) c.send.ensures.all
