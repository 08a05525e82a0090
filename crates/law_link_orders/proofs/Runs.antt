-- what is asked of default channels holds in a run, by the shapes of branches

use Rattle.std.proofs.Common.{◌≡◌, ◌+◌, ◌*◌, ◌≤◌, List, Option, Some, refl, sym, ◌∙◌, ap, arith}
use Rattle.std.specs.Option.{option_and_then}
use Rattle.world_model.specs.Words.{NodeId, PortNo, End, IsLinkPort, Setup, home_of, default_channel, default_end, default_home, IsTopology, World, Site, site_at, output_at, past_of}
use Rattle.world_model.specs.crossbar_model.Crossbar.{output_of}
use Rattle.law_causes.proofs.Shown.{IsPeer, peer_back}
use Rattle.law_run_facts.specs.ordered_lists.Ordered.{Every}
use Rattle.law_run_facts.specs.law_world_views.Between.{IsPortEnd, default, label, IsShapedBranch, home, out, joined, HasShapes, setups_of}
use Rattle.law_run_facts.specs.Nodes.{HasSite, IsNodeOfRun}
use Rattle.law_run_facts.proofs.Nodes.{runs_have_nodes}
use Rattle.law_run_facts.proofs.Rooms.{runs_keep_nodes}
use Rattle.law_packet_worlds.proofs.Nets.{world_net}
use Rattle.law_live_hearing.proofs.Shapes.{port_some, not_default, shapes_lead_by_default}
use Rattle.law_link_orders.specs.Law.{RunsMayLead}

-- *By its shape* a branch that leads to a default channel comes from home, and one that leads home comes from there
module _ (setups : List Setup) (links : Every (λ (setup : Setup). IsLinkPort setup.port) setups) (port : PortNo) (some : 1 ≤ port.0) where
  from_home : (input output : End) → IsShapedBranch setups input output → output ≡ default_end port → input ≡ default_home port
  from_home _ _ (home end is) e = (let none : 0 ≡ port.0 = ap (λ (x : End). x.port.0) e in absurd (omega (arith, some, none)))
  from_home _ _ (out end is) e = ap home_of e
  from_home _ _ (joined input output from to) e = absurd (not_default setups links output to (ap (λ (x : End). x.channel.vci) e))

  from_end : (input output : End) → IsShapedBranch setups input output → output ≡ default_home port → input ≡ default_end port
  from_end _ _ (home end is) e = on end is (ap (λ (x : End). x.channel.vpi) e) (ap (λ (x : End). x.channel.vci) e)
    where
      on : (end : End) → IsPortEnd setups end → 16 * end.port.0 + end.channel.vpi ≡ 16 * port.0 + 0 → end.channel.vci ≡ 15 → end ≡ default_end port
      on _ (default p linked) vpi vci = (let same : p.0 ≡ port.0 = omega (arith, vpi) in λ i. record { port = record { 0 = same i }; channel = default_channel })
      on _ (label end is) vpi vci = absurd (not_default setups links end is vci)
  from_end _ _ (out end is) e = (let none : end.port.0 ≡ 0 = ap (λ (x : End). x.port.0) e in absurd (omega (arith, port_some setups links end is, none)))
  from_end _ _ (joined input output from to) e = (let none : output.port.0 ≡ 0 = ap (λ (x : End). x.port.0) e in
      absurd (omega (arith, port_some setups links output (label output to), none)))

-- *At a node* of which the branches have their shapes nothing else leads there
module _ (w : World) (node : NodeId) (site : Site) (port : PortNo) (found : site_at w node ≡ Some site) (links : Every (λ (setup : Setup). IsLinkPort setup.port) (setups_of site.controller))
    (is : IsLinkPort port) (shapes : HasShapes w node site) where
  own : (input output : End) → output_at w node input ≡ Some output → output_of site.switch.crossbar.branches input ≡ Some output
  own input output e = sym (ap (λ (o : Option Site). option_and_then (λ (s : Site). output_of s.switch.crossbar.branches input) o) found) ∙ e

  alone_out : (other : End) → output_at w node other ≡ Some (default_end port) → other ≡ default_home port
  alone_out other e = from_home (setups_of site.controller) links port is.0 other (default_end port) (shapes.branches other (default_end port) (own other (default_end port) e)) refl

  alone_home : (other : End) → output_at w node other ≡ Some (default_home port) → other ≡ default_end port
  alone_home other e = from_end (setups_of site.controller) links port is.0 other (default_home port) (shapes.branches other (default_home port) (own other (default_home port) e)) refl

pub runs_may_lead : RunsMayLead
runs_may_lead policy topology events one far addresses run world linked =
    let w : World = (past_of policy topology events).now in
    let is : IsTopology topology = run.topology_is in
    let peer : IsPeer topology one far = peer_back topology is one far linked in
    let back : IsPeer topology far one = peer_back topology is far one peer.back in
    let near : HasSite w one.node = runs_keep_nodes policy topology events run one.node back.node in
    let there : HasSite w far.node = runs_keep_nodes policy topology events run far.node peer.node in
    let near_node : IsNodeOfRun policy (past_of policy topology events) one.node near.site = runs_have_nodes policy topology events addresses run one.node near.site near.is in
    let far_node : IsNodeOfRun policy (past_of policy topology events) far.node there.site = runs_have_nodes policy topology events addresses run far.node there.site there.is in
    let near_shapes : HasShapes w one.node near.site = world.shapes one.node near.site near.is in
    let far_shapes : HasShapes w far.node there.site = world.shapes far.node there.site there.is in
    record {
      linked = linked;
      shaped = (world_net policy topology events (runs_have_nodes policy topology events addresses run) (runs_keep_nodes policy topology events run)).shaped;
      within = (near, there);
      out = alone_out w one.node near.site one.port near.is near_node.ports.links peer.own near_shapes;
      home = alone_home w far.node there.site far.port there.is far_node.ports.links peer.port far_shapes;
      leads = (
        shapes_lead_by_default w one.node near.site one.port near.is near_node.ports.links peer.own near_shapes,
        shapes_lead_by_default w far.node there.site far.port there.is far_node.ports.links peer.port far_shapes,
      );
    }
