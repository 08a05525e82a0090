-- The REDIRECTs of all ports.

use Rattle.std.proofs.Common.{◌≡◌, ℕ, ◌+◌, ◌<◌, ◌∷◌, [], List, length, get_or, map, min, take, refl, ap, sym, ◌∙◌, arith}
use Rattle.std.specs.List.{sum_by}
use Rattle.std.proofs.lemmas.List.Sums.{sum_by-cons, sum_by_more}
use Rattle.controller_link.specs.Cells.{PortCells}
use Rattle.controller_link.specs.Cells as cells
use Rattle.world_model.specs.Controller.{Linked}
use Rattle.controller_gsmp.specs.Client.{PortEnd, linked_of, linked_ports}
use Rattle.controller_router.specs.Node.{AreLinked, range_of}

abbrev pub accepted : PortEnd → ℕ
accepted end = end.port.redirects

abbrev accepted_at : Linked → ℕ
accepted_at linked = linked.port.redirects

-- one port more
min_further : (g a b : ℕ) → min (min g a + b) g ≡ min g (a + b)
min_further g a b = grind (arith)

pub one_more : {E : Type 0} (seen : E → PortEnd) (links : List E) (k : ℕ) (d : E) (g sum : ℕ) → k < length links → sum ≡ min g (sum_by (λ link. accepted (seen link)) (take k links))
    → min (sum + accepted (seen (get_or links k d))) g ≡ min g (sum_by (λ link. accepted (seen link)) (take (k + 1) links))
one_more seen links k d g sum within is =
    ap (λ n. min (n + accepted (seen (get_or links k d))) g) is
    ∙ min_further g (sum_by (λ link. accepted (seen link)) (take k links)) (accepted (seen (get_or links k d)))
    ∙ ap (min g) (sym (sum_by_more (λ link. accepted (seen link)) links k d within))

-- each port has its part of the region
tails : {A : Type 0} (x y : A) (xs ys : List A) → x ∷ xs ≡ y ∷ ys → xs ≡ ys
tails x y xs ys e = cc e

zipped : {E : Type 0} (seen : E → PortEnd) (links : List E) (ports : List PortCells) → map (λ (port : PortCells). port.range) ports ≡ map range_of (map seen links)
    → sum_by (λ link. accepted (seen link)) links ≡ sum_by accepted_at (linked_ports (map seen links) ports)
zipped seen [] ports e = refl
zipped seen (link ∷ links) [] e = absurd (cc e)
zipped seen (link ∷ links) (port ∷ ports) e =
    sum_by-cons (λ l. accepted (seen l)) link links
    ∙ ap (λ n. accepted (seen link) + n) (zipped seen links ports (tails _ _ _ _ e))
    ∙ sym (sum_by-cons accepted_at (linked_of (seen link) port) (linked_ports (map seen links) ports))

pub total_is : {E : Type 0} (seen : E → PortEnd) (links : List E) (control : cells.ControlCells) → AreLinked (map seen links) control
    → sum_by (λ link. accepted (seen link)) links ≡ sum_by (λ (linked : Linked). linked.port.redirects) (linked_ports (map seen links) control.ports)
total_is seen links control linked = zipped seen links control.ports linked.ranges
