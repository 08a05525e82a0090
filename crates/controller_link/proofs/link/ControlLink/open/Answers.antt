use Rattle.std.proofs.Common.{◌∙◌}
use Rattle.controller_link.specs.Link.{cells_in}
use Rattle.controller_link.proofs.Ports.{opened_is}
use Rattle.controller_link.proofs.link.ControlLink.open.Goals as goal

pub returns : goal.returns
returns c = (λ i. cells_in (c.in_ok-layout.ensures i) (c.in_ok-store.ensures i)) ∙ opened_is c.args.ports.now c.args.cells c.count.result
