-- each label of a way is a label of a link

use Rattle.std.proofs.Common.{◌≡◌, ℕ, ◌<◌, ◌≤◌, zero, suc, true, List, [], ◌∷◌, length, Option, refl, arith}
use Rattle.std.specs.Prelude.{slice_get}
use Rattle.std.specs.Option.{option_map_or}
use Rattle.law_causes.specs.world_model.Words.{Addr, is_label_number, Topology, Node, node_at, node_in, IsTopology, Way, IsWay}
use Rattle.law_label_line.specs.Cells.{Role, Downstream, Upstream}
use Rattle.law_world_views.specs.law_port_views.Link.{LinkLabel}
use Rattle.law_world_views.specs.law_controller_views.Lifted.{IsProper}
use Rattle.law_world_views.specs.Between.{HasAddress, IsLinkLabel}
use Rattle.law_causes.proofs.Shown.{IsPeer, peer_back}

abbrev pub at_role : {A : Type 0} → A → A → Role → A
at_role x y Downstream = x
at_role x y Upstream = y

abbrev pub address_of : Option Node → Addr
address_of o = option_map_or (λ node. node.address) o (record { 0 = 0 })

abbrev pub link_of : Topology → Way → (label : ℕ) → LinkLabel
link_of topology way label = record {
  node = at_role way.down.node way.up.node;
  port = at_role way.down.port way.up.port;
  address = at_role (address_of (node_at topology way.down.node)) (address_of (node_at topology way.up.node));
  label = label;
}

there_is : (nodes : List Node) (k : ℕ) → k < length nodes → HasAddress (slice_get nodes k) (address_of (slice_get nodes k))
there_is [] k less = absurd (omega (arith, less))
there_is (node ∷ nodes) zero less = refl
there_is (node ∷ nodes) (suc k) less = there_is nodes k (omega (arith, less))

has_address : (nodes : List Node) (n : ℕ) → 1 ≤ n → n ≤ length nodes → HasAddress (node_in nodes n) (address_of (node_in nodes n))
has_address nodes zero low high = absurd (omega (arith, low))
has_address nodes (suc k) low high = there_is nodes k (omega (arith, high))

module _ (topology : Topology) (is : IsTopology topology) (way : Way) (on : IsWay topology way) (label : ℕ) (number : is_label_number label ≡ true) where
  down : IsPeer topology way.down way.up
  down = peer_back topology is way.down way.up on.upstream

  up : IsPeer topology way.up way.down
  up = peer_back topology is way.up way.down on.downstream

  pub link_is : IsLinkLabel topology (link_of topology way label)
  link_is = record { way = record { downstream = on.downstream; upstream = on.upstream }; address = address; label = number }
    where
      address : (role : Role) → HasAddress (node_at topology ((link_of topology way label).node role)) ((link_of topology way label).address role)
      address Downstream = has_address topology.nodes way.down.node.0 (up.node.0) (up.node.1)
      address Upstream = has_address topology.nodes way.up.node.0 (down.node.0) (down.node.1)

  pub link_proper : IsProper (link_of topology way label)
  link_proper = record { above = above; label = number }
    where
      above : (role : Role) → 0 < ((link_of topology way label).port role).0
      above Downstream = omega (arith, down.own.0)
      above Upstream = omega (arith, up.own.0)
