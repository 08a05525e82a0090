-- the other end of a link is at another node

use Rattle.std.proofs.Common.{◌≡◌, ◌≢◌, ℕ, suc, ◌<◌, ◌==◌, Bool, true, false, List, [], ◌∷◌, length, slice_index_or, Option, None, Some, refl, sym, ◌∙◌, ap, arith, if◌then◌else◌}
use Rattle.std.specs.Option.{option_or}
use Rattle.std.proofs.lemmas.Bool.Decides.{nat_tests}
use Rattle.law_actor_pace.specs.world_model.Words.{NodeId, PortNo, IsLink, IsTopology, Topology, Link, peer_among, same_link_end}
use Rattle.law_actor_pace.specs.world_model.network_model.declared.link.LinkEnd.{LinkEnd}
use Rattle.law_actor_pace.specs.world_model.Topology.{peer_of}

same_node : (a b : LinkEnd) → same_link_end a b ≡ true → a.node.0 ≡ b.node.0
same_node a b e = grind (arith, nat_tests, e)

other_node : (a b : ℕ) → (a == b) ≡ false → a ≢ b
other_node a b e same = absurd (grind (arith, nat_tests, e, same))

apart_on : (t : Topology) (end far : LinkEnd) (link : Link) (others : Option LinkEnd) → IsLink t link → (others ≡ Some far → far.node.0 ≢ end.node.0)
    → option_or (if same_link_end link.first end then Some link.second else (if same_link_end link.second end then Some link.first else None)) others ≡ Some far → far.node.0 ≢ end.node.0
apart_on t end far link others l later e = on_first (same_link_end link.first end) refl e
  where
    on_second : (b : Bool) → same_link_end link.second end ≡ b → option_or (if b then Some link.first else None) others ≡ Some far → far.node.0 ≢ end.node.0
    on_second true is h = (let one : link.first ≡ far = cc in
        λ same. other_node link.first.node.0 link.second.node.0 l.apart (ap (λ (x : LinkEnd). x.node.0) one ∙ same ∙ sym (same_node link.second end is)))
    on_second false is h = later h

    on_first : (b : Bool) → same_link_end link.first end ≡ b → option_or (if b then Some link.second else (if same_link_end link.second end then Some link.first else None)) others ≡ Some far → far.node.0 ≢ end.node.0
    on_first true is h = (let one : link.second ≡ far = cc in
        λ same. other_node link.first.node.0 link.second.node.0 l.apart (same_node link.first end is ∙ sym same ∙ sym (ap (λ (x : LinkEnd). x.node.0) one)))
    on_first false is h = on_second (same_link_end link.second end) refl h

apart_among : (t : Topology) (end far : LinkEnd) (links : List Link) → ((k : ℕ) (d : Link) → k < length links → IsLink t (slice_index_or links k d)) → peer_among end links ≡ Some far → far.node.0 ≢ end.node.0
apart_among t end far [] each e = absurd (cc e)
apart_among t end far (link ∷ links) each e =
    apart_on t end far link (peer_among end links) (each 0 link (omega arith)) (λ h. apart_among t end far links (λ k d low. each (suc k) d (omega (arith, low))) h) e

pub far_apart : (t : Topology) (node : NodeId) (port : PortNo) (far : LinkEnd) → IsTopology t → peer_of t node port ≡ Some far → far.node.0 ≢ node.0
far_apart t node port far is e = apart_among t (record { node = node; port = port }) far t.links is.links e
