use Rattle.std.proofs.Common.{◌∙◌, sym}
use Rattle.controller_link.proofs.Ports.{free_is}
use Rattle.controller_link.proofs.link.ControlLink.region.Goals as goal

pub returns-clause-free : goal.returns-clause-free
returns-clause-free c = rw (← c.self.view_is) (c.region.ensures.free ∙ sym (free_is c.self.inside.layout c.self.inside.store c.self.invariant))
