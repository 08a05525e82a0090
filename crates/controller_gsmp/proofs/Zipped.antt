-- The linked ports of a controller, and the two lists of which they are made.

use Rattle.std.proofs.Common.{◌≡◌, ℕ, nat_eq, Bool, true, false, List, [], ◌∷◌, Some, None, map, refl, ap, sym, ◌∙◌, if◌then◌else◌}
use Rattle.keyed_lists.specs.Keyed.{at, put}
use Rattle.net_types.specs.declared.node.PortNo.{PortNo}
use Rattle.world_model.specs.Controller.{Linked}
use Rattle.world_model.specs.Controller as model
use Rattle.controller_link.specs.Cells as cells
use Rattle.controller_link.specs.Cells.{PortCells}
use Rattle.controller_gsmp.specs.Client.{PortEnd, end_key, end_port, linked_of, linked_ports}
use Rattle.controller_gsmp.proofs.Sums.{heads, ports_in, tails}

-- a port is linked with both its parts, or not at all
pub data At (k : ℕ) (ends : List PortEnd) (ports : List PortCells) : Type 0 where
  nowhere : at end_key k ends ≡ None → at cells.port_key k ports ≡ None → at model.port_key k (linked_ports ends ports) ≡ None → At k ends ports
  linked : (end : PortEnd) (port : PortCells) → at end_key k ends ≡ Some end → at cells.port_key k ports ≡ Some port → at model.port_key k (linked_ports ends ports) ≡ Some (linked_of end port) → At k ends ports

pub at_both : (k : ℕ) (ends : List PortEnd) (ports : List PortCells) → ports_in ports ≡ map end_port ends → At k ends ports
at_both k [] [] e = nowhere refl refl refl
at_both k [] (port ∷ ports) e = absurd (cc e)
at_both k (end ∷ ends) [] e = absurd (cc e)
at_both k (end ∷ ends) (port ∷ ports) e = by (nat_eq end.setup.port.0 k) refl (same (nat_eq end.setup.port.0 k) refl) (at_both k ends ports (tails _ _ _ _ e)) where
  same : (b : Bool) → nat_eq end.setup.port.0 k ≡ b → nat_eq port.range.port.0 k ≡ b
  same b t = ap (λ (p : PortNo). nat_eq p.0 k) (heads _ _ _ _ e) ∙ t

  further : nat_eq end.setup.port.0 k ≡ false → nat_eq port.range.port.0 k ≡ false → At k ends ports → At k (end ∷ ends) (port ∷ ports)
  further t u (nowhere f g h) = nowhere (rw t f) (rw u g) (rw t h)
  further t u (linked there part f g h) = linked there part (rw t f) (rw u g) (rw t h)

  by : (b : Bool) → nat_eq end.setup.port.0 k ≡ b → nat_eq port.range.port.0 k ≡ b → At k ends ports → At k (end ∷ ends) (port ∷ ports)
  by true t u others = linked end port (rw t refl) (rw u refl) (rw t refl)
  by false t u others = further t u others

-- another part of the region in its place
pub put_cells : (k : ℕ) (ends : List PortEnd) (ports : List PortCells) (there : PortEnd) (part : PortCells) → ports_in ports ≡ map end_port ends → at end_key k ends ≡ Some there → there.setup.port.0 ≡ k → part.range.port.0 ≡ k
    → linked_ports ends (put cells.port_key part ports) ≡ put model.port_key (linked_of there part) (linked_ports ends ports)
put_cells k [] [] there part e found p q = refl
put_cells k [] (port ∷ ports) there part e found p q = absurd (cc e)
put_cells k (end ∷ ends) [] there part e found p q = absurd (cc e)
put_cells k (end ∷ ends) (port ∷ ports) there part e found p q =
    by (nat_eq end.setup.port.0 k) refl (ap (λ n. nat_eq end.setup.port.0 n) p) (ap (λ n. nat_eq port.range.port.0 n) q ∙ ap (λ (o : PortNo). nat_eq o.0 k) (heads _ _ _ _ e)) found (λ rest. put_cells k ends ports there part (tails _ _ _ _ e) rest p q)
  where
    by : (b : Bool) → nat_eq end.setup.port.0 k ≡ b → nat_eq end.setup.port.0 there.setup.port.0 ≡ nat_eq end.setup.port.0 k → nat_eq port.range.port.0 part.range.port.0 ≡ nat_eq end.setup.port.0 k → (if nat_eq end.setup.port.0 k then Some end else at end_key k ends) ≡ Some there
        → (at end_key k ends ≡ Some there → linked_ports ends (put cells.port_key part ports) ≡ put model.port_key (linked_of there part) (linked_ports ends ports))
        → linked_ports (end ∷ ends) (if nat_eq port.range.port.0 part.range.port.0 then part ∷ ports else port ∷ put cells.port_key part ports)
        ≡ (if nat_eq end.setup.port.0 there.setup.port.0 then linked_of there part ∷ linked_ports ends ports else linked_of end port ∷ put model.port_key (linked_of there part) (linked_ports ends ports))
    by true t f g is others =
        (let mine : Some end ≡ Some there = rw t at is in
        let found : end ≡ there = cc mine in
        rw (f, g, t) (ap (λ (other : PortEnd). linked_of other part ∷ linked_ports ends ports) found))
    by false t f g is others =
        (let rest : at end_key k ends ≡ Some there = rw t at is in
        rw (f, g, t) (ap (λ others. linked_of end port ∷ others) (others rest)))

-- what is found under a key has it
pub key_of_found : {A : Type 0} (key : A → ℕ) (k : ℕ) (xs : List A) (x : A) → at key k xs ≡ Some x → nat_eq (key x) k ≡ true
key_of_found key k [] x e = absurd (cc e)
key_of_found key k (y ∷ ys) x e = by (nat_eq (key y) k) refl e (key_of_found key k ys x) where
  by : (b : Bool) → nat_eq (key y) k ≡ b → (if b then Some y else at key k ys) ≡ Some x → (at key k ys ≡ Some x → nat_eq (key x) k ≡ true) → nat_eq (key x) k ≡ true
  by true t is others = (let same : y ≡ x = cc is in ap (λ z. nat_eq (key z) k) (sym same) ∙ t)
  by false t is others = others is

-- a part in the place of one of the same range
pub ranges_put : (k : ℕ) (ports : List PortCells) (part after : PortCells) → at cells.port_key k ports ≡ Some part → after.range ≡ part.range → after.range.port.0 ≡ k → map (λ (port : PortCells). port.range) (put cells.port_key after ports) ≡ map (λ (port : PortCells). port.range) ports
ranges_put k [] part after e same key = refl
ranges_put k (port ∷ ports) part after e same key = by (nat_eq port.range.port.0 k) refl (ap (λ n. nat_eq port.range.port.0 n) key) e (λ is. ranges_put k ports part after is same key) where
  by : (b : Bool) → nat_eq port.range.port.0 k ≡ b → nat_eq port.range.port.0 after.range.port.0 ≡ nat_eq port.range.port.0 k → (if nat_eq port.range.port.0 k then Some port else at cells.port_key k ports) ≡ Some part
      → (at cells.port_key k ports ≡ Some part → map (λ (port : PortCells). port.range) (put cells.port_key after ports) ≡ map (λ (port : PortCells). port.range) ports)
      → map (λ (port : PortCells). port.range) (if nat_eq port.range.port.0 after.range.port.0 then after ∷ ports else port ∷ put cells.port_key after ports) ≡ port.range ∷ map (λ (port : PortCells). port.range) ports
  by true t f is others =
      (let mine : Some port ≡ Some part = rw t at is in
      let found : port ≡ part = cc mine in
      rw (f, t) (ap (λ range. range ∷ map (λ (port : PortCells). port.range) ports) (same ∙ ap (λ (p : PortCells). p.range) (sym found))))
  by false t f is others = (let rest : at cells.port_key k ports ≡ Some part = rw t at is in rw (f, t) (ap (λ ranges. port.range ∷ ranges) (others rest)))
