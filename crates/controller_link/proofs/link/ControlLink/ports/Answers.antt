use Rattle.std.proofs.Common.{◌∙◌, drop, sym}
use Rattle.controller_link.proofs.Ports.{ranges_in}
use Rattle.controller_link.proofs.link.ControlLink.ports.Goals as goal

pub returns : goal.returns
returns c = rw (← c.self.view_is) (c.ports.ensures ∙ sym (ranges_in c.self.inside.layout (drop 1 c.self.inside.store.chains)))
