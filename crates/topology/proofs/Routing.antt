-- routes that can be added

use Rattle.std.proofs.Common.{◌≡◌, ◌<◌, ◌≤◌, Bool, true, false, cond, nat_lt, nat_le, List, length, None, Some, refl, arith}
use Rattle.std.proofs.lemmas.Bool.{leb-true, leb-false, ltb-true}
use Rattle.net_types.specs.Prefix.{Network}
use Rattle.ipv4_forward.specs.declared.table.Next.{Next}
use Rattle.ipv4_forward.specs.declared.table.Route.{Route}
use Rattle.ipv4_forward.specs.declared.change.ChangeFault.TheVariants as change
use Rattle.ipv4_forward.specs.Best.{has_prefix}
use Rattle.ipv4_forward.specs.Change.{change_fault_by}
use Rattle.world_model.specs.network_model.declared.refusal.TopologyRefusal.TheVariants.{Duplicate, TableFull}
use Rattle.world_model.specs.Limits.{greatest_routes}
use Rattle.world_model.specs.Lines.{first_of, route_refusal}

-- a route can be added behind fewer than there can be, none of its prefix
pub can_add : (routes : List Route) (prefix : Network) → has_prefix routes prefix ≡ false → length routes < greatest_routes → first_of (route_refusal routes prefix) ≡ None
can_add routes prefix none few = rw none (by (nat_le greatest_routes (length routes)) refl) where
  by : (b : Bool) → nat_le greatest_routes (length routes) ≡ b → cond b (Some TableFull) None ≡ None
  by true e = absurd (let full : greatest_routes ≤ length routes = leb-true greatest_routes (length routes) e in omega (arith, full, few))
  by false e = refl

-- and where one can be added, so it is
pub is_new : (routes : List Route) (prefix : Network) → first_of (route_refusal routes prefix) ≡ None → has_prefix routes prefix ≡ false
is_new routes prefix free = by (has_prefix routes prefix) refl free where
  by : (b : Bool) → has_prefix routes prefix ≡ b → cond b (Some Duplicate) (cond (nat_le greatest_routes (length routes)) (Some TableFull) None) ≡ None → has_prefix routes prefix ≡ false
  by true e h = absurd (cc h)
  by false e h = e

pub are_few : (routes : List Route) (prefix : Network) → first_of (route_refusal routes prefix) ≡ None → length routes < greatest_routes
are_few routes prefix free = by (has_prefix routes prefix) (nat_le greatest_routes (length routes)) refl free where
  by : (b d : Bool) → nat_le greatest_routes (length routes) ≡ d → cond b (Some Duplicate) (cond d (Some TableFull) None) ≡ None → length routes < greatest_routes
  by true d e h = absurd (cc h)
  by false true e h = absurd (cc h)
  by false false e h = leb-false greatest_routes (length routes) e

-- a change that gives a new prefix a next is the adding of a route
pub can_change : (routes : List Route) (prefix : Network) (next : Next) → has_prefix routes prefix ≡ false → change_fault_by routes prefix (Some next) ≡ None → first_of (route_refusal routes prefix) ≡ None
can_change routes prefix next none free = can_add routes prefix none (by (nat_lt (length routes) 256) refl (rw none at free)) where
  by : (b : Bool) → nat_lt (length routes) 256 ≡ b → cond b None (Some change.TableFull) ≡ None → length routes < greatest_routes
  by true e h = ltb-true (length routes) 256 e
  by false e h = absurd (cc h)
