-- the ports of a controller are those of its node that a link names

use Rattle.std.proofs.Common.{◌≡◌, ℕ, ◌==◌, ◌||◌, Bool, true, false, List, [], ◌∷◌, map, Some, refl, sym, ◌∙◌, ap, subst, arith, if◌then◌else◌, is_some, cond}
use Rattle.std.specs.Prelude.{nat_eq, filter}
use Rattle.std.specs.List.{list_any, range_with_len}
use Rattle.std.proofs.lemmas.Bool.Decides.{nat_tests}
use Rattle.law_world_pace.specs.world_model.Words.{NodeId, PortNo, at, Controller, Linked, port_key, Topology, is_linked}
use Rattle.law_controller_bindings.proofs.law_port_facts.Keyed.{by_eq}
use Rattle.law_world_pace.specs.world_model.Controller.{ports_of}
use Rattle.law_world_pace.specs.world_model.Topology as topologies
use Rattle.law_world_pace.specs.world_model.Topology.{peer_of}
use Rattle.law_run_facts.specs.Nodes.{HasPort}

-- what passes a test is among those that do
any_passes : (test : PortNo → Bool) (port : ℕ) (ps : List PortNo) → list_any (λ (p : PortNo). p.0 == port) (filter test ps) ≡ true → test (record { 0 = port }) ≡ true
any_passes test port [] e = absurd (cc e)
any_passes test port (p ∷ ps) e = by (test p) refl e (any_passes test port ps)
  where
    head : (b : Bool) → (p.0 == port) ≡ b → test p ≡ true → (b || list_any (λ (q : PortNo). q.0 == port) (filter test ps)) ≡ true → (list_any (λ (q : PortNo). q.0 == port) (filter test ps) ≡ true → test (record { 0 = port }) ≡ true)
        → test (record { 0 = port }) ≡ true
    head true is passes e rest = (let same : p.0 ≡ port = grind (arith, nat_tests, is) in subst (λ (n : ℕ). test (record { 0 = n }) ≡ true) same passes)
    head false is passes e rest = rest e

    by : (b : Bool) → test p ≡ b → list_any (λ (q : PortNo). q.0 == port) (cond b (p ∷ filter test ps) (filter test ps)) ≡ true → (list_any (λ (q : PortNo). q.0 == port) (filter test ps) ≡ true → test (record { 0 = port }) ≡ true)
        → test (record { 0 = port }) ≡ true
    by true is e rest = head (p.0 == port) refl is e rest
    by false is e rest = rest e

-- one that is found is among them
found_any : (xs : List Linked) (k : ℕ) (x : Linked) → at port_key k xs ≡ Some x → list_any (λ (p : PortNo). p.0 == k) (map (λ (linked : Linked). linked.setup.port) xs) ≡ true
found_any [] k x e = absurd (cc e)
found_any (y ∷ xs) k x e = by (found_any xs k x)
  where
    equal : (m n : ℕ) → nat_eq m n ≡ true → (m == n) ≡ true
    equal m n e = e

    by : (at port_key k xs ≡ Some x → list_any (λ (p : PortNo). p.0 == k) (map (λ (linked : Linked). linked.setup.port) xs) ≡ true) → ((port_key y == k) || list_any (λ (p : PortNo). p.0 == k) (map (λ (linked : Linked). linked.setup.port) xs)) ≡ true
    by rest = by_eq (port_key y) k
        (λ same t. ap (λ (b : Bool). b || list_any (λ (p : PortNo). p.0 == k) (map (λ (linked : Linked). linked.setup.port) xs)) (equal (port_key y) k t))
        (λ n t. either (port_key y == k) (rest (subst (λ (b : Bool). (if b then Some y else at port_key k xs) ≡ Some x) t e)))
      where
        either : (b : Bool) → {c : Bool} → c ≡ true → (b || c) ≡ true
        either true h = refl
        either false h = h

pub found_linked : (t : Topology) (node : NodeId) (xs : List Linked) (port : PortNo) (linked : Linked) → map (λ (x : Linked). x.setup.port) xs ≡ topologies.linked_ports t node → at port_key port.0 xs ≡ Some linked → is_linked t node port ≡ true
found_linked t node xs port linked same e =
    any_passes (λ p. is_some (peer_of t node p)) port.0 (map (λ n. record { 0 = n }) (range_with_len 1 8)) (sym (ap (list_any (λ (p : PortNo). p.0 == port.0)) same) ∙ found_any xs port.0 linked e)

any_found : (xs : List Linked) (k : ℕ) → list_any (λ (p : PortNo). p.0 == k) (map (λ (linked : Linked). linked.setup.port) xs) ≡ true → (x : Linked) × (at port_key k xs ≡ Some x)
any_found [] k e = absurd (cc e)
any_found (y ∷ xs) k e = by (any_found xs k)
  where
    by : (list_any (λ (p : PortNo). p.0 == k) (map (λ (linked : Linked). linked.setup.port) xs) ≡ true → (x : Linked) × (at port_key k xs ≡ Some x)) → (x : Linked) × ((if nat_eq (port_key y) k then Some y else at port_key k xs) ≡ Some x)
    by rest = pick (nat_eq (port_key y) k) refl e
      where
        pick : (b : Bool) → nat_eq (port_key y) k ≡ b → (b || list_any (λ (p : PortNo). p.0 == k) (map (λ (linked : Linked). linked.setup.port) xs)) ≡ true → (x : Linked) × ((if b then Some y else at port_key k xs) ≡ Some x)
        pick true is h = (y, refl)
        pick false is h = rest h

pub linked_found : (c : Controller) (port : PortNo) → list_any (λ (p : PortNo). p.0 == port.0) (ports_of c) ≡ true → HasPort c port
linked_found c port e = (let f = any_found c.ports port.0 e in record { linked = f.0; is = f.1 })
