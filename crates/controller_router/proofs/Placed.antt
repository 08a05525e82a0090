-- The engine at a place among the linked ports.

use Rattle.std.proofs.Common.{◌≡◌, ℕ, zero, suc, ◌<◌, ◌≤◌, List, [], ◌∷◌, length, get_or, map, Some, refl, sym, ap, ◌∙◌, arith}
use Rattle.std.specs.Prelude.{slice_get}
use Rattle.std.specs.Option.{option_map}
use Rattle.controller_link.specs.Cells.{PortCells}
use Rattle.controller_gsmp.specs.Client.{PortEnd, linked_ports}
use Rattle.controller_router.specs.Node.{Node, controller_of, end_of}
use Rattle.controller_router.proofs.Linked.{seen_at}

-- no more ports are linked than there are engines
few_linked : (ends : List PortEnd) (parts : List PortCells) → length (linked_ports ends parts) ≤ length ends
few_linked [] parts = omega arith
few_linked (end ∷ ends) [] = omega arith
few_linked (end ∷ ends) (part ∷ parts) = omega (arith, few_linked ends parts)

length_seen : {E : Type 0} (seen : E → PortEnd) (links : List E) → length (map seen links) ≡ length links
length_seen seen [] = refl
length_seen seen (x ∷ links) = ap suc (length_seen seen links)

linked_at_place : (ends : List PortEnd) (parts : List PortCells) (k : ℕ) (end : PortEnd) → k < length (linked_ports ends parts) → option_map end_of (slice_get (linked_ports ends parts) k) ≡ Some (get_or ends k end)
linked_at_place [] parts k end within = absurd (omega (arith, within))
linked_at_place (x ∷ ends) [] k end within = absurd (omega (arith, within))
linked_at_place (x ∷ ends) (part ∷ parts) zero end within = refl
linked_at_place (x ∷ ends) (part ∷ parts) (suc k) end within = linked_at_place ends parts k end (omega (arith, within))

module _ {E : Type 0} (seen : E → PortEnd) (n : Node E) (k : ℕ) (within : k < length (controller_of seen n).ports) where
  pub place_has_engine : k < length n.links
  place_has_engine = omega (arith, within, few_linked (map seen n.links) n.client.control.ports, length_seen seen n.links)

  pub engine_at_place : (e : E) → e ≡ get_or n.links k e → option_map end_of (slice_get (controller_of seen n).ports k) ≡ Some (seen e)
  engine_at_place e here =
      linked_at_place (map seen n.links) n.client.control.ports k (seen e) within
      ∙ ap (λ (x : PortEnd). Some x) (seen_at seen n.links k e ∙ ap seen (sym here))
