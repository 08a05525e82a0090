use Rattle.std.proofs.Common.{◌∙◌, sym}
use Rattle.controller_link.proofs.Ports.{free_is}
use Rattle.controller_link.proofs.link.ControlLink.free.Goals as goal

pub returns : goal.returns
returns c = rw (← c.self.view_is) (c.free.ensures.free ∙ c.region.ensures.free ∙ sym (free_is c.self.inside.layout c.self.inside.store c.self.invariant))
