-- the grant of a join is the one of its label at its port

use Rattle.std.proofs.Common.{◌≡◌, Bool, List, [], ◌∷◌, None, Some, refl, sym, ◌∙◌, ap, if◌then◌else◌}
use Rattle.law_controller_conditions.specs.ordered_lists.Ordered.{Every, InOrder}
use Rattle.law_controller_conditions.proofs.ordered_lists.Every.{every_map}
use Rattle.controller_joining.specs.world_model.Words.{at, Setup, Grant, grant_label, Linked, linked_at, joins_of}
use Rattle.grant_table.specs.Table.{AreApart}
use Rattle.law_controller_conditions.specs.law_port_facts.Port.{IsApart}
use Rattle.law_controller_conditions.proofs.law_port_facts.Keyed.{by_eq}
use Rattle.controller_joining.specs.world_model.Controller.{Acted}
use Rattle.controller_joining.specs.world_model.Joins.{Join}
use Rattle.law_controller_conditions.proofs.law_controller_facts.Moves.{HasPorts, found_port}
use Rattle.law_controller_conditions.proofs.law_controller_facts.Joining.{IsJoin, joins_are}
use Rattle.controller_joining.specs.Conditions.{IsGrantOf, HasGrants}

none_of : (grant : Grant) (gs : List Grant) → Every (IsApart grant) gs → at grant_label grant.label gs ≡ None
none_of grant [] all = refl
none_of grant (x ∷ gs) all = by_eq (grant_label x) grant.label (λ is t. absurd (all.0 (sym is)))
    (λ other t. ap (λ (b : Bool). if b then Some x else at grant_label grant.label gs) t ∙ none_of grant gs all.1)

pub are_apart : (gs : List Grant) → InOrder IsApart gs → AreApart gs
are_apart [] h = tt
are_apart (grant ∷ gs) h = (none_of grant gs h.0, are_apart gs h.1)

-- *At a port* that is found
pub grant_of : (setups : List Setup) (a : Acted) (join : Join) (linked : Linked) → HasPorts setups a → linked_at a.controller join.port ≡ Some linked → at grant_label join.grant.label linked.port.grants ≡ Some join.grant
    → IsGrantOf a.controller join
grant_of setups a join linked h found granted = record { linked = linked; found = found; granted = granted; apart = are_apart linked.port.grants (found_port setups a linked join.port h found).apart }

pub has_grants : (setups : List Setup) (a : Acted) → HasPorts setups a → HasGrants a.controller
has_grants setups a h = every_map (IsJoin setups a) (IsGrantOf a.controller) (joins_of a.controller) (λ join is. grant_of setups a join is.linked h is.found is.granted) (joins_are setups a h)
