-- the two ends of a link, by the topology; and where a switch's branches lead, by their shapes

use Rattle.std.proofs.Common.{◌≡◌, ℕ, zero, suc, ◌≤◌, ◌<◌, ◌^◌, List, [], ◌∷◌, Option, None, Some, refl, sym, ◌∙◌, ap, subst, arith, All}
use Rattle.std.specs.Prelude.{slice_get}
use Rattle.std.specs.Option.{option_map}
use Rattle.world_model.specs.Words.{End, NodeId, PortNo, channel_on_control, label_channel_of, Cell, at, IsLinkPort, control_port, Setup, Topology, Node, node_at, IsTopology, Site}
use Rattle.law_label_events.specs.ordered_lists.Ordered.{Every}
use Rattle.law_label_events.proofs.law_port_facts.Keyed.{at_every, at_key}
use Rattle.world_model.specs.crossbar_model.declared.branch.Branch.{Branch}
use Rattle.world_model.specs.crossbar_model.Crossbar.{input_of, output_of}
use Rattle.law_label_events.specs.law_port_facts.Port.{setup_port, IsLinked, IsLabelEnd}
use Rattle.law_label_events.specs.law_label_line.Cells.{Role, Downstream, Upstream}
use Rattle.world_model.specs.network_model.declared.link.LinkEnd.{LinkEnd}
use Rattle.world_model.specs.Topology.{peer_of}
use Rattle.law_label_events.specs.law_port_views.Link.{LinkLabel, other}
use Rattle.law_label_events.specs.law_controller_views.Lifted.{IsProper}
use Rattle.law_label_events.proofs.law_controller_views.Sends.{label_vpi}
use Rattle.law_label_events.specs.law_controller_views.Ready.{FitsLink}
use Rattle.law_label_events.specs.law_world_views.Ready.{setups_of}
use Rattle.law_label_events.specs.law_world_views.Shown.{end_of, AreApart}
use Rattle.law_label_events.specs.law_world_views.Between.{IsPortEnd, default, label, IsShapedBranch, home, out, joined, HasAddress, IsLinkLabel}
use Rattle.law_label_events.specs.law_world_views.Fronts.{HasAddresses}
use Rattle.law_label_events.proofs.law_world_views.Labels.{in_range_label}
use Rattle.law_running_worlds.proofs.law_causes.Shown.{IsPeer, peer_back}
use Rattle.law_label_events.specs.Queues as events
use Rattle.law_label_events.specs.Queues.{HasLowPorts, LeadsOut, LeadsOn, LeadsFromLinks, IsAcross}
use Rattle.law_run_facts.proofs.law_controller_bindings.Lasts.{some_same}

-- *The ends* of a link
module _ (topology : Topology) (is : IsTopology topology) (link : LinkLabel) (of : IsLinkLabel topology link) where
  pub leads : (role : Role) → peer_of topology (end_of role link).node (end_of role link).port ≡ Some (end_of (other role) link)
  leads Downstream = of.way.upstream
  leads Upstream = of.way.downstream

  pub peer : (role : Role) → IsPeer topology (end_of role link) (end_of (other role) link)
  peer role = peer_back topology is (end_of role link) (end_of (other role) link) (leads role)

  pub proper : IsProper link
  proper = record { above = λ role. omega (arith, (peer role).own.0); label = of.label }

  pub low : HasLowPorts link
  low role = (peer role).own.1

  pub apart : AreApart link
  apart e = (peer Downstream).apart (sym e)

  -- a cell on any link comes to the other end
  pub across : (from far : LinkEnd) → peer_of topology from.node from.port ≡ Some far → IsAcross link from far
  across from far e =
      let p : IsPeer topology from far = peer_back topology is from far e in
      record {
        above = omega (arith, p.port.0);
        apart = p.apart;
        back = λ role own. some_same from (end_of (other role) link) (sym p.back ∙ (ap (λ (x : LinkEnd). peer_of topology x.node x.port) own ∙ leads role));
      }

  -- the addresses
  found_address : (nodes : List Node) (k : ℕ) (node : Node) → All (λ (n : Node). n.address.0 < 2 ^ 32) nodes → slice_get nodes k ≡ Some node → node.address.0 < 2 ^ 32
  found_address [] k node all e = absurd (cc e)
  found_address (x ∷ nodes) zero node all e = subst (λ (n : Node). n.address.0 < 2 ^ 32) (some_same x node e) (all 0 x (omega arith))
  found_address (x ∷ nodes) (suc k) node all e = found_address nodes k node (λ j d few. all (suc j) d (omega (arith, few))) e

  node_address : (n : ℕ) (o : Option Node) → HasAddresses topology → (number : NodeId) → number.0 ≡ n → node_at topology number ≡ o → (a : _) → HasAddress o a → a.0 < 2 ^ 32
  node_address n None all number same e a has = absurd has
  node_address zero (Some node) all number same e a has = absurd (cc (node_none, e))
    where
      node_none : node_at topology number ≡ None
      node_none = ap (λ (k : ℕ). node_at topology (record { 0 = k })) same
  node_address (suc k) (Some node) all number same e a has = subst (λ (z : _). z.0 < 2 ^ 32) has
      (found_address topology.nodes k node all (sym (ap (λ (j : ℕ). node_at topology (record { 0 = j })) same) ∙ e))

  pub fits : HasAddresses topology → FitsLink link
  fits all role = node_address (link.node role).0 (node_at topology (link.node role)) all (link.node role) refl refl (link.address role) (of.address role)

-- *Shapes*: the ports of setups are of links
module _ (setups : List Setup) (links : Every (λ (setup : Setup). IsLinkPort setup.port) setups) where
  linked_above : (port : PortNo) → IsLinked setups port → 1 ≤ port.0
  linked_above port is = by (at setup_port port.0 setups) refl
    where
      by : (o : Option Setup) → at setup_port port.0 setups ≡ o → 1 ≤ port.0
      by None e = absurd (cc (e, is))
      by (Some setup) e = (let h : IsLinkPort setup.port = at_every setup_port (λ (s : Setup). IsLinkPort s.port) port.0 setups setup links e in omega (arith, h.0, at_key setup_port port.0 setups setup e))

  label_above : (end : End) → IsLabelEnd setups end → 1 ≤ end.port.0
  label_above end is =
      let h : IsLinkPort is.setup.port = at_every setup_port (λ (s : Setup). IsLinkPort s.port) is.setup.port.0 setups is.setup links is.linked in
      omega (arith, h.0, ap (λ (e : End). e.port.0) is.is)

  port_above : (end : End) → IsPortEnd setups end → 1 ≤ end.port.0
  port_above _ (default port is) = linked_above port is
  port_above _ (label end is) = label_above end is

  port_vpi : (end : End) → IsPortEnd setups end → end.channel.vpi < 16
  port_vpi _ (default port is) = omega arith
  port_vpi _ (label end is) = subst (λ (e : End). e.channel.vpi < 16) (sym is.is) (label_vpi (label_channel_of is.number) (in_range_label is.setup is.number is.in_range))

  -- what the controller sends goes out by a port of a link
  shaped_out : (input output : End) → IsShapedBranch setups input output → input.port.0 ≡ 0 → (0 < output.port.0) × (input.channel ≡ channel_on_control output.port output.channel)
  shaped_out _ _ (home end is) none = absurd (omega (arith, none, port_above end is))
  shaped_out _ _ (out end is) none = (omega (arith, port_above end is), refl)
  shaped_out _ _ (joined input output from to) none = absurd (omega (arith, none, label_above input from))

  -- what comes from a link goes to the controller, or under a label
  shaped_in : (input output : End) → IsShapedBranch setups input output → 0 < input.port.0 → LeadsOn input output
  shaped_in _ _ (home end is) high = events.home (port_vpi end is) refl
  shaped_in _ _ (out end is) high = absurd (omega (arith, high))
  shaped_in _ _ (joined input output from to) high =
      events.joined to.setup.port to.number (omega (arith, label_above output to, ap (λ (e : End). e.port.0) to.is)) (in_range_label to.setup to.number to.in_range) to.is

module _ (site : Site) (links : Every (λ (setup : Setup). IsLinkPort setup.port) (setups_of site.controller))
    (branches : (input output : End) → output_of site.switch.crossbar.branches input ≡ Some output → IsShapedBranch (setups_of site.controller) input output) where
  pub leads_out : (cell : Cell) → LeadsOut site cell
  leads_out cell branch e = shaped_out (setups_of site.controller) links (input_of control_port cell) branch.output
      (branches (input_of control_port cell) branch.output (ap (option_map (λ (b : Branch). b.output)) e)) refl

  pub leads_from : LeadsFromLinks site
  leads_from input output high e = shaped_in (setups_of site.controller) links input output (branches input output e) high
