-- The linked ports of a controller are as many as those that its router tells.

use Rattle.std.proofs.Common.{◌≡◌, ℕ, length, sym, ap, ◌∙◌}
use Rattle.std.proofs.lemmas.List.{length-map}
use Rattle.world_model.specs.Controller.{Linked, ports_of}
use Rattle.controller_gsmp.specs.Client.{PortEnd}
use Rattle.controller_router.specs.Node as node
use Rattle.controller_router.specs.Node.{ports_in}
use Rattle.controller_joining.specs.Joining.{Joining, controller_of}

pub ports_counted : {E : Type 0} (seen : E → PortEnd) (j : Joining E) (count : ℕ) → count ≡ length (ports_in seen j.router) → ports_of (node.controller_of seen j.router) ≡ ports_in seen j.router → count ≡ length (controller_of seen j).ports
ports_counted seen j count is linked = is ∙ ap length (sym linked) ∙ length-map (controller_of seen j).ports (λ (l : Linked). l.setup.port)
