-- what stays of a node in a run, and what is empty

use Rattle.std.proofs.Common.{◌≡◌, ℕ, zero, suc, ◌<◌, ◌^◌, true, List, [], ◌∷◌, ◌++◌, Option, Some, All, slice_get, sym, ◌∙◌, ap, subst, arith}
use Rattle.std.specs.Option.{option_map_or, is_some}
use Rattle.world_model.specs.Words.{NodeId, Addr, Policy, default_channel, default_home, Topology, Node, Site, site_at, is_empty, IsNode, IsTopology, IsRun}
use Rattle.world_model.specs.Topology.{node_in, peer_of}
use Rattle.world_model.specs.network_model.declared.link.LinkEnd.{LinkEnd}
use Rattle.world_model.specs.network_model.declared.event.Event.{Event}
use Rattle.law_causes.proofs.Shown.{IsPeer, peer_back}
use Rattle.law_run_facts.specs.law_world_views.Fronts.{HasAddresses}
use Rattle.law_run_facts.specs.Nodes.{HasSite, IsNodeOf}
use Rattle.law_run_facts.proofs.Nodes.{runs_have_nodes}
use Rattle.law_run_facts.proofs.Rooms.{runs_keep_nodes}
use Rattle.law_live_rests.specs.Law.{address_at}
use Rattle.law_live_hearing.specs.Law.{world_at}
use Rattle.law_live_hearing.proofs.Places.{down_empty, up_empty, out_empty}
use Rattle.law_live_orders.specs.Law.{last_marks, coming}

-- *An address has 32 bits*
found_low : (nodes : List Node) (k : ℕ) (node : Node) → All (λ (n : Node). n.address.0 < 2 ^ 32) nodes → slice_get nodes k ≡ Some node → node.address.0 < 2 ^ 32
found_low [] k node all e = absurd (cc e)
found_low (x ∷ nodes) zero node all e = (let same : x ≡ node = cc in subst (λ (n : Node). n.address.0 < 2 ^ 32) same (all 0 x (omega arith)))
found_low (x ∷ nodes) (suc k) node all e = found_low nodes k node (λ j d few. all (suc j) d (omega (arith, few))) e

low_in : (nodes : List Node) (number : ℕ) (node : Node) → All (λ (n : Node). n.address.0 < 2 ^ 32) nodes → node_in nodes number ≡ Some node → node.address.0 < 2 ^ 32
low_in nodes zero node all e = absurd (cc e)
low_in nodes (suc place) node all e = found_low nodes place node all e

one_node : (x y : Node) → Some x ≡ Some y → x ≡ y
one_node x y e = cc

module _ (policy : Policy) (topology : Topology) (addresses : HasAddresses topology) where
  node_of : (events : List Event) → IsRun policy topology events → (node : NodeId) (site : Site) → site_at (world_at policy topology events) node ≡ Some site → IsNodeOf policy topology node site
  node_of events run node site found = (runs_have_nodes policy topology events addresses run node site found).is_node

  pub low : (events : List Event) → IsRun policy topology events → (node : NodeId) (site : Site) → site_at (world_at policy topology events) node ≡ Some site → site.controller.address.0 < 2 ^ 32
  low events run node site found =
      let n : IsNodeOf policy topology node site = node_of events run node site found in
      subst (λ (a : Addr). a.0 < 2 ^ 32) (sym n.address) (low_in topology.nodes node.0 n.there addresses n.is)

  -- *Its node keeps it*
  pub keeps_address : (before after : List Event) → IsRun policy topology before → IsRun policy topology after → (node : NodeId) → IsNode topology node → (site : Site)
      → site_at (world_at policy topology before) node ≡ Some site → address_at (world_at policy topology after) node ≡ site.controller.address
  keeps_address before after run later node is site found =
      let there : HasSite (world_at policy topology after) node = runs_keep_nodes policy topology after later node is in
      let old : IsNodeOf policy topology node site = node_of before run node site found in
      let new : IsNodeOf policy topology node there.site = node_of after later node there.site there.is in
      ap (λ (o : Option Site). option_map_or (λ (s : Site). s.controller.address) o (record { 0 = 0 })) there.is
      ∙ (new.address ∙ (ap (λ (n : Node). n.address) (one_node new.there old.there (sym new.is ∙ old.is)) ∙ sym old.address))

-- *Where links are empty* nothing is on its way
pub none_coming : (policy : Policy) (topology : Topology) (events : List Event) → IsTopology topology → (one far : LinkEnd) → peer_of topology one.node one.port ≡ Some far
    → is_empty (world_at policy topology events) ≡ true → coming (world_at policy topology events) one far ≡ []
none_coming policy topology events is one far linked empty =
    let peer : IsPeer topology one far = peer_back topology is one far linked in
    let own : IsNode topology one.node = (peer_back topology is far one peer.back).node in
    λ i. last_marks (default_home far.port).channel (up_empty policy topology is events far.node peer.node empty i)
    ++ (last_marks default_channel (out_empty policy topology is events one.node one.port own (ap is_some linked) empty i)
    ++ last_marks (default_home one.port).channel (down_empty policy topology is events one.node own empty i))
