use Rattle.std.proofs.Common.{◌≡◌, ◌≤◌, ℕ, Option, Some, None, List, get_or, refl, arith}
use Rattle.std.specs.Prelude.{IfNone}
use Rattle.keyed_lists.specs.Keyed.{at}
use Rattle.net_types.specs.declared.node.PortNo.{PortNo}
use Rattle.controller_gsmp.specs.Client.{PortEnd, end_key}
use Rattle.controller_router.specs.Node.{ArePlaces, ports_of}
use Rattle.controller_router.proofs.Linked.{at_above, at_nowhere}
use Rattle.controller_router.proofs.router.Router.place_of.Goals as goal

none_kept : (ends : List PortEnd) (places : List (Option ℕ)) (port : PortNo) (place : Option ℕ) → ArePlaces (ports_of ends) places → port.0 ≤ 8 → get_or places port.0 None ≡ place → IfNone place (at end_key port.0 ends ≡ None)
none_kept ends places port (Some k) kept low is = tt
none_kept ends places port None kept low is = at_nowhere ends port (kept.none port None low is)

pub returns-then-port-gt-LAST_PORT-clause-none : goal.returns-then-port-gt-LAST_PORT-clause-none
returns-then-port-gt-LAST_PORT-clause-none g c = rw (← c.self.view_is) (at_above _ c.args.port c.self.invariant.linked.ports (omega arith))

pub returns-clause-none : goal.returns-clause-none
returns-clause-none g c = rw (← c.self.view_is) (none_kept _ c.self.inside.places c.args.port _ c.self.invariant.places (omega arith) refl)
