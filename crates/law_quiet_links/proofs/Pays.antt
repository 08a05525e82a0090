-- what a carried cell weighed pays for what it does at a switch

use Rattle.std.proofs.Common.{◌≡◌, ℕ, ◌≤◌, ◌<◌, ◌+◌, Bool, true, false, List, Option, None, Some, refl, sym, ◌∙◌, ap, subst, arith, if◌then◌else◌}
use Rattle.std.specs.Prelude.{◌==◌, is_some}
use Rattle.std.specs.Option.{option_map_or, option_map, option_and_then}
use Rattle.std.proofs.lemmas.Bool.Decides.{nat_tests}
use Rattle.world_model.specs.Words.{NodeId, PortNo, Place, Down, Up, Out, Channel, End, channel_on_control, number_of_channel, label_channel_of, is_label_number, label_number_of, is_label_channel, flow_ttl, FlowId, Cell, on_channel_of, Frame, Policy, Setup, home_of, label_end, Linked, port_key, linked_at, default_channel, same_channel, control_port, Topology, is_linked, IsTopology, Site, site_at, Past, last_bound, Way, IsWay, ByBranch, connected, LeadsOn, StandsForLast, output_at}
use Rattle.world_model.specs.crossbar_model.Crossbar.{output_of, input_of}
use Rattle.law_running_worlds.specs.law_port_facts.Port.{IsLabelEnd, IsLinked, setup_port}
use Rattle.law_running_worlds.proofs.law_port_facts.Keyed.{at_map}
use Rattle.law_running_worlds.proofs.law_port_facts.Rules.{and_first}
use Rattle.world_model.specs.network_model.declared.link.LinkEnd.{LinkEnd}
use Rattle.world_model.specs.Topology.{peer_of}
use Rattle.law_running_worlds.specs.law_world_views.Between.{IsWorld, IsPortEnd, default, label, IsShapedBranch, home, out, joined, setups_of}
use Rattle.law_running_worlds.specs.law_world_views.Pairs.{by_branch}
use Rattle.law_ownership.proofs.law_unused_labels.Links as links
use Rattle.law_running_worlds.proofs.law_causes.Shown.{IsPeer, peer_back}
use Rattle.law_running_worlds.specs.law_run_facts.Nodes.{IsNodeOfRun}
use Rattle.law_quiet_rounds.proofs.law_packet_worlds.Behind.{IsUser}
use Rattle.law_quiet_rounds.proofs.law_packet_worlds.Headings.{label_is, no_default}
use Rattle.law_controller_weights.specs.claims_model.Weights.{Bearing, Bound, bearing_on, bearing_out, bearing_of, hops_at, cell_weight, port_place}
use Rattle.law_quiet_links.proofs.Crossing.{bears, from_home, to_home, on_label, next_ttl, one_hop_less}

-- *A site of a run*: its branches, and the ports of its labels
module _ (policy : Policy) (past : Past) (topology_is : IsTopology past.topology) (node : NodeId) (site : Site) (found : site_at past.now node ≡ Some site)
    (run : IsNodeOfRun policy past node site) (is : IsWorld past) (bound : Bound) (frames : List Frame)
    (kept : (far : LinkEnd) (label : ℕ) → IsUser past.topology past.now far label → bound far label ≡ last_bound past.records far label) where
  abbrev topology : Topology
  topology = past.topology

  abbrev setups : List Setup
  setups = setups_of site.controller

  linked_of : (port : PortNo) → IsLinked setups port → is_linked topology node port ≡ true
  linked_of port is_one = by (linked_at site.controller port) refl
      (subst (λ (o : Option Setup). is_some o ≡ true) (at_map port_key setup_port (λ (l : Linked). l.setup) (λ x. refl) port.0 site.controller.ports) is_one)
    where
      by : (o : Option Linked) → linked_at site.controller port ≡ o → is_some (option_map (λ (l : Linked). l.setup) o) ≡ true → is_linked topology node port ≡ true
      by None e f = absurd (cc f)
      by (Some linked) e f = run.ports.linked port linked e

  -- the far end of a linked port, which is above 0
  record IsFar (port : PortNo) : Type 0 where
    far : LinkEnd
    led : peer_of topology node port ≡ Some far
    some : 1 ≤ port.0
    back : peer_of topology far.node far.port ≡ Some (record { node = node; port = port })

  far_of : (port : PortNo) → is_linked topology node port ≡ true → IsFar port
  far_of port e = by (peer_of topology node port) refl e
    where
      by : (o : Option LinkEnd) → peer_of topology node port ≡ o → is_some o ≡ true → IsFar port
      by None is_none f = absurd (cc f)
      by (Some far) led f = (let p : IsPeer topology (record { node = node; port = port }) far = peer_back topology topology_is (record { node = node; port = port }) far led in
          record { far = far; led = led; some = p.own.0; back = p.back })

  -- a channel of a branch
  record IsChannelEnd (end : End) : Type 0 where
    low : end.channel.vpi < 16
    far : IsFar end.port

  label_low : (number : ℕ) → is_label_number number ≡ true → (label_channel_of number).vpi < 16
  label_low number e = (label_is (label_channel_of number) e).vpi

  label_channel_end : (end : End) → IsLabelEnd setups end → IsChannelEnd end
  label_channel_end end l = record {
    low = subst (λ (c : Channel). c.vpi < 16) (sym (ap (λ (e : End). e.channel) l.is)) (label_low l.number (and_first (is_label_number l.number) _ l.in_range));
    far = subst IsFar (sym (ap (λ (e : End). e.port) l.is)) (far_of l.setup.port (linked_of l.setup.port (ap is_some l.linked)));
  }

  port_end : (end : End) → IsPortEnd setups end → IsChannelEnd end
  port_end _ (default port linked) = record { low = omega arith; far = far_of port (linked_of port linked) }
  port_end end (label _ l) = label_channel_end end l

  not_default : (end : End) → IsLabelEnd setups end → same_channel end.channel default_channel ≡ false
  not_default end l = subst (λ (c : Channel). same_channel c default_channel ≡ false) (sym (ap (λ (e : End). e.channel) l.is))
      (no_default (label_channel_of l.number) (label_is (label_channel_of l.number) (and_first (is_label_number l.number) _ l.in_range)))

  -- *The place behind a branch*
  at_port : (port : PortNo) → 1 ≤ port.0 → port_place node port.0 ≡ Out node port
  at_port port some = ap (λ (b : Bool). if b then Up node else Out node (record { 0 = port.0 })) (apart port.0 some)
    where
      apart : (k : ℕ) → 1 ≤ k → (k == 0) ≡ false
      apart k some = grind (arith, nat_tests)

  out_weight : (cell : Cell) (end : End) (far : LinkEnd) → 1 ≤ end.port.0 → peer_of topology node end.port ≡ Some far
      → cell_weight topology frames bound (port_place node end.port.0) (on_channel_of cell end) ≡ 2 + bears bound frames (bearing_on end.channel (Some far)) (on_channel_of cell end)
  out_weight cell end far some led =
      (let place = ap (λ (p : Place). cell_weight topology frames bound p (on_channel_of cell end)) (at_port end.port some) in
      let bearing = ap (λ (o : Option LinkEnd). bears bound frames (bearing_out end.channel o) (on_channel_of cell end)) led in omega (arith, place, bearing))

  up_weight : (cell : Cell) (end : End) → end.channel.vpi < 16 → 1 ≤ end.port.0
      → cell_weight topology frames bound (port_place node 0) (on_channel_of cell (home_of end)) ≡ 1 + bears bound frames (bearing_on end.channel (Some (record { node = node; port = end.port }))) (on_channel_of cell (home_of end))
  up_weight cell end low some = (let bearing = ap (λ (b : Bearing). bears bound frames b (on_channel_of cell (home_of end))) (to_home topology node end.port end.channel low some) in omega (arith, bearing))

  -- *From the controller* a cell goes to the port of its channel
  pub down_leads : (cell : Cell) → same_channel cell.header.channel default_channel ≡ false → (output : End) → output_of site.switch.crossbar.branches (input_of control_port cell) ≡ Some output
      → cell_weight topology frames bound (port_place node output.port.0) (on_channel_of cell output) ≤ 2 + bears bound frames (bearing_of topology (Down node) cell.header.channel) cell
  down_leads cell other output e = by (input_of control_port cell) output refl ((is.shapes node site found).branches (input_of control_port cell) output e)
    where
      by : (input output : End) → input ≡ input_of control_port cell → IsShapedBranch setups input output
          → cell_weight topology frames bound (port_place node output.port.0) (on_channel_of cell output) ≤ 2 + bears bound frames (bearing_of topology (Down node) cell.header.channel) cell
      by _ _ at (home end p) = absurd (omega (arith, (port_end end p).far.some, ap (λ (x : End). x.port.0) at))
      by _ _ at (joined input output from to) = absurd (omega (arith, (label_channel_end input from).far.some, ap (λ (x : End). x.port.0) at))
      by _ _ at (out end p) =
          let c : IsChannelEnd end = port_end end p in
          let channel : channel_on_control end.port end.channel ≡ cell.header.channel = ap (λ (x : End). x.channel) at in
          let bearing : bearing_of topology (Down node) cell.header.channel ≡ bearing_on end.channel (Some c.far.far) =
          ap (λ (x : Channel). bearing_of topology (Down node) x) (sym channel)
          ∙ from_home topology node end.port end.channel c.low (ap (λ (x : Channel). same_channel x default_channel) channel ∙ other)
          ∙ ap (bearing_on end.channel) c.far.led in
          let here = ap (λ (b : Bearing). bears bound frames b cell) bearing in omega (arith, out_weight cell end c.far.far c.far.some c.far.led, here)

  -- *From a link* it goes to the controller, or to the label that its input is joined to
  module _ (port : PortNo) (from : LinkEnd) (led : peer_of topology from.node from.port ≡ Some (record { node = node; port = port })) (some : 1 ≤ port.0) (cell : Cell)
      (user : same_channel cell.header.channel default_channel ≡ false → IsUser topology past.now (record { node = node; port = port }) (number_of_channel cell.header.channel)) where
    hop_less : (output : End) (far : LinkEnd) (l : IsLabelEnd setups output) → IsLabelEnd setups (input_of port cell) → peer_of topology node output.port ≡ Some far → 1 ≤ output.port.0
        → output_of site.switch.crossbar.branches (input_of port cell) ≡ Some output
        → hops_at bound (Some far) (number_of_channel output.channel) + 1 ≡ hops_at bound (Some (record { node = node; port = port })) (number_of_channel cell.header.channel)
    hop_less output far l from_label far_led above branch =
        let p : IsPeer topology (record { node = node; port = output.port }) far = peer_back topology topology_is (record { node = node; port = output.port }) far far_led in
        let way : Way = record { down = far; up = record { node = node; port = output.port } } in
        let on : IsWay topology way = record { downstream = far_led; upstream = p.back } in
        let is_one : is_label_number l.number ≡ true = and_first (is_label_number l.number) _ l.in_range in
        let output_is : output ≡ label_end output.port l.number = l.is ∙ ap (λ (q : PortNo). label_end q l.number) (sym (ap (λ (x : End). x.port) l.is)) in
        let out_to : output_at past.now node (input_of port cell) ≡ Some (label_end output.port l.number) =
        ap (λ (o : Option Site). option_and_then (λ s. output_of s.switch.crossbar.branches (input_of port cell)) o) found ∙ (branch ∙ ap (λ (x : End). Some x) output_is) in
        let stands : StandsForLast past way l.number (ByBranch (input_of port cell)) = is.hops (links.link_of past.topology way l.number)
        (links.link_is topology topology_is way on l.number is_one) (input_of port cell) some (by_branch out_to) in
        let s : LeadsOn past way (input_of port cell) stands.flow = stands.stands in
        let number : number_of_channel output.channel ≡ l.number = ap (λ (x : End). number_of_channel x.channel) l.is ∙ number_back l.number in
        let in_number : number_of_channel cell.header.channel ≡ s.label = number_same cell.header.channel s.label s.numbered in
        let out_kept : bound far l.number ≡ Some stands.flow = kept far l.number (record { way = way; down = refl; on = on; user = ByBranch (input_of port cell); uses = connected (input_of port cell) some out_to }) ∙ stands.bound in
        let other : same_channel cell.header.channel default_channel ≡ false = not_default (input_of port cell) from_label in
        let in_kept : bound (record { node = node; port = port }) (number_of_channel cell.header.channel) ≡ Some s.joined =
        kept (record { node = node; port = port }) (number_of_channel cell.header.channel) (user other) ∙ ap (last_bound past.records (record { node = node; port = port })) in_number ∙ s.bound in
        let out_hops : hops_at bound (Some far) (number_of_channel output.channel) ≡ flow_ttl stands.flow = ap (λ (n : ℕ). option_map_or flow_ttl (bound far n) 0) number ∙ ap (λ (o : Option FlowId). option_map_or flow_ttl o 0) out_kept in
        let in_hops : hops_at bound (Some (record { node = node; port = port })) (number_of_channel cell.header.channel) ≡ flow_ttl s.joined = ap (λ (o : Option FlowId). option_map_or flow_ttl o 0) in_kept in
        omega (arith, out_hops, in_hops, next_ttl s.joined stands.flow s.onward)
      where
        number_back : (n : ℕ) → number_of_channel (label_channel_of n) ≡ n
        number_back n = omega arith

        number_same : (channel : Channel) (number : ℕ) → label_number_of channel ≡ Some number → number_of_channel channel ≡ number
        number_same channel number e = by (is_label_channel channel) e
          where
            by : (b : Bool) → (if b then Some (number_of_channel channel) else None) ≡ Some number → number_of_channel channel ≡ number
            by true f = cc
            by false f = absurd (cc f)

    pub link_leads : (output : End) → output_of site.switch.crossbar.branches (input_of port cell) ≡ Some output
        → cell_weight topology frames bound (port_place node output.port.0) (on_channel_of cell output) ≤ 1 + bears bound frames (bearing_of topology (Out from.node from.port) cell.header.channel) cell
    link_leads output e = by (input_of port cell) output refl refl ((is.shapes node site found).branches (input_of port cell) output e)
      where
        here : bearing_of topology (Out from.node from.port) cell.header.channel ≡ bearing_on cell.header.channel (Some (record { node = node; port = port }))
        here = ap (bearing_out cell.header.channel) led

        by : (input out_end : End) → input ≡ input_of port cell → out_end ≡ output → IsShapedBranch setups input out_end
            → cell_weight topology frames bound (port_place node out_end.port.0) (on_channel_of cell out_end) ≤ 1 + bears bound frames (bearing_of topology (Out from.node from.port) cell.header.channel) cell
        by _ _ at to (out end p) = absurd (omega (arith, some, ap (λ (x : End). x.port.0) at))
        by _ _ at to (home end p) =
            let c : IsChannelEnd end = port_end end p in
            let bearing : bearing_on end.channel (Some (record { node = node; port = end.port })) ≡ bearing_of topology (Out from.node from.port) cell.header.channel =
            ap (λ (x : End). bearing_on x.channel (Some (record { node = node; port = x.port }))) at ∙ sym here in
            let whole = ap (λ (b : Bearing). bears bound frames b cell) bearing in omega (arith, up_weight cell end c.low c.far.some, whole)
        by _ _ at to (joined input output_end from_label to_label) =
            let c : IsChannelEnd output_end = label_channel_end output_end to_label in
            let own : IsLabelEnd setups (input_of port cell) = subst (IsLabelEnd setups) at from_label in
            let branch : output_of site.switch.crossbar.branches (input_of port cell) ≡ Some output_end = e ∙ ap (λ (x : End). Some x) (sym to) in
            let less = hop_less output_end c.far.far to_label own c.far.led c.far.some branch in
            let one = one_hop_less bound frames cell (on_channel_of cell output_end) (Some (record { node = node; port = port })) (Some c.far.far) (number_of_channel cell.header.channel) (number_of_channel output_end.channel) refl refl less in
            let old = ap (λ (b : Bearing). bears bound frames b cell) (here ∙ on_label cell.header.channel (Some (record { node = node; port = port })) (not_default (input_of port cell) own)) in
            let new = ap (λ (b : Bearing). bears bound frames b (on_channel_of cell output_end)) (on_label output_end.channel (Some c.far.far) (not_default output_end to_label)) in
            omega (arith, out_weight cell output_end c.far.far c.far.some c.far.led, one, old, new)
