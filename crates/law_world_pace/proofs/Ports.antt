-- the ports of a topology's links

use Rattle.std.proofs.Common.{◌≡◌, ℕ, suc, ◌≤◌, ◌<◌, ◌==◌, ◌||◌, Bool, true, false, true≢false, cond, List, [], ◌∷◌, length, map, filter, find, slice_index_or, is_some, Option, None, Some, refl, sym, ◌∙◌, ap, subst, arith, if◌then◌else◌}
use Rattle.std.specs.List.{list_any, range_with_len}
use Rattle.std.specs.Option.{option_or}
use Rattle.std.proofs.lemmas.Bool.Decides.{nat_tests}
use Rattle.law_actor_pace.specs.world_model.Words.{NodeId, PortNo, has_port, numbers_of, IsLink, IsNode, IsPort, IsTopology, is_linked, Topology, Link, peer_among, same_link_end}
use Rattle.law_actor_pace.specs.world_model.switch_model.declared.port.PortState.{PortState}
use Rattle.law_actor_pace.specs.world_model.network_model.declared.link.LinkEnd.{LinkEnd}
use Rattle.law_actor_pace.specs.world_model.Topology as topologies
use Rattle.law_actor_pace.specs.world_model.Topology.{peer_of}
use Rattle.law_actor_pace.proofs.world_model.Lists.{by_eq}

-- *A port of a link* is one of a node's ports, and the other end is of another node
same_port : (a b : LinkEnd) → same_link_end a b ≡ true → a.port.0 ≡ b.port.0
same_port a b e = grind (arith, nat_tests, e)

pub record Reaches (t : Topology) (end far : LinkEnd) : Type 0 where
  pub port : IsPort end.port
  pub node : IsNode t far.node

reaches_on : (t : Topology) (end far : LinkEnd) (link : Link) (others : Option LinkEnd) → IsLink t link → (others ≡ Some far → Reaches t end far)
    → option_or (if same_link_end link.first end then Some link.second else (if same_link_end link.second end then Some link.first else None)) others ≡ Some far → Reaches t end far
reaches_on t end far link others l later e = on_first (same_link_end link.first end) refl e
  where
    on_second : (b : Bool) → same_link_end link.second end ≡ b → option_or (if b then Some link.first else None) others ≡ Some far → Reaches t end far
    on_second true is h = (let one : link.first ≡ far = cc in
        record { port = subst (λ (p : ℕ). (1 ≤ p) × (p ≤ 8)) (same_port link.second end is) l.second.1; node = subst (λ (x : LinkEnd). IsNode t x.node) one l.first.0 })
    on_second false is h = later h

    on_first : (b : Bool) → same_link_end link.first end ≡ b → option_or (if b then Some link.second else (if same_link_end link.second end then Some link.first else None)) others ≡ Some far → Reaches t end far
    on_first true is h = (let one : link.second ≡ far = cc in
        record { port = subst (λ (p : ℕ). (1 ≤ p) × (p ≤ 8)) (same_port link.first end is) l.first.1; node = subst (λ (x : LinkEnd). IsNode t x.node) one l.second.0 })
    on_first false is h = on_second (same_link_end link.second end) refl h

reaches : (t : Topology) (end far : LinkEnd) (links : List Link) → ((k : ℕ) (d : Link) → k < length links → IsLink t (slice_index_or links k d)) → peer_among end links ≡ Some far → Reaches t end far
reaches t end far [] each e = absurd (cc e)
reaches t end far (link ∷ links) each e =
    reaches_on t end far link (peer_among end links) (each 0 link (omega arith)) (λ h. reaches t end far links (λ k d low. each (suc k) d (omega (arith, low))) h) e

pub far_node : (t : Topology) (node : NodeId) (port : PortNo) (far : LinkEnd) → IsTopology t → peer_of t node port ≡ Some far → IsNode t far.node
far_node t node port far is e = (reaches t (record { node = node; port = port }) far t.links is.links e).node

pub linked_port : (t : Topology) (node : NodeId) (port : PortNo) → IsTopology t → is_linked t node port ≡ true → IsPort port
linked_port t node port is e = by_peer (peer_of t node port) refl e
  where
    by_peer : (o : Option LinkEnd) → peer_of t node port ≡ o → is_some o ≡ true → IsPort port
    by_peer None found h = absurd (true≢false (sym h))
    by_peer (Some far) found h = (reaches t (record { node = node; port = port }) far t.links is.links found).port

any_filter : (test : PortNo → Bool) (port : PortNo) → test port ≡ true → (ps : List PortNo) → list_any (λ p. p.0 == port.0) ps ≡ true → list_any (λ p. p.0 == port.0) (filter test ps) ≡ true
any_filter test port passes [] e = absurd (cc e)
any_filter test port passes (p ∷ ps) e = by_eq p.0 port.0
    (λ same is. (let tests : test p ≡ true = subst (λ (k : ℕ). test (record { 0 = k }) ≡ true) (sym same) passes in
    ap (λ (b : Bool). list_any (λ (q : PortNo). q.0 == port.0) (cond b (p ∷ filter test ps) (filter test ps))) tests ∙ ap (λ (b : Bool). b || list_any (λ (q : PortNo). q.0 == port.0) (filter test ps)) is))
    (λ n is. (let later : list_any (λ (q : PortNo). q.0 == port.0) (filter test ps) ≡ true =
    any_filter test port passes ps (subst (λ (b : Bool). (b || list_any (λ (q : PortNo). q.0 == port.0) ps) ≡ true) is e) in
    elim (test p) as (λ b. list_any (λ (q : PortNo). q.0 == port.0) (cond b (p ∷ filter test ps) (filter test ps)) ≡ true) [
      | true ↦ ap (λ (b : Bool). b || list_any (λ (q : PortNo). q.0 == port.0) (filter test ps)) is ∙ later
      | false ↦ later
    ]))

one_of_eight : (n : ℕ) → 1 ≤ n → n ≤ 8 → ((1 == n) || ((2 == n) || ((3 == n) || ((4 == n) || ((5 == n) || ((6 == n) || ((7 == n) || ((8 == n) || false)))))))) ≡ true
one_of_eight n least most = grind (arith, nat_tests, least, most)

pub is_port_of : (t : Topology) (node : NodeId) (port : PortNo) → IsTopology t → is_linked t node port ≡ true → list_any (λ p. p.0 == port.0) (topologies.linked_ports t node) ≡ true
is_port_of t node port is e =
    let low = linked_port t node port is e in
    any_filter (λ p. is_some (peer_of t node p)) port e (map (λ n. record { 0 = n }) (range_with_len 1 8)) (one_of_eight port.0 low.0 low.1)

pub switch_has : (port : PortNo) (states : List PortState) → list_any (λ p. p.0 == port.0) (numbers_of states) ≡ true → has_port states port ≡ true
switch_has port [] e = absurd (cc e)
switch_has port (state ∷ states) e = elim (state.number.0 == port.0) as (λ b. (b || list_any (λ (p : PortNo). p.0 == port.0) (numbers_of states)) ≡ true
    → is_some (cond b (Some state) (find (λ (s : PortState). s.number.0 == port.0) states)) ≡ true) [
      | true ↦ λ h. refl
      | false ↦ λ h. switch_has port states h
    ] e
