-- where the channels of the control link lead, and what a grant carries

use Rattle.std.proofs.Common.{◌≡◌, ℕ, ◌<◌, ◌≤◌, ◌+◌, ◌==◌, ◌&&◌, Bool, true, false, List, Option, None, Some, refl, sym, ◌∙◌, ap, arith, if◌then◌else◌}
use Rattle.std.specs.Prelude.{nat_lt, nat_le, ◌*◌, ◌/◌, ◌%◌}
use Rattle.std.specs.Option.{option_map_or, option_or}
use Rattle.std.proofs.lemmas.Bool.Decides.{nat_tests}
use Rattle.law_arrival_views.specs.world_model.Words.{NodeId, PortNo, Down, Up, Channel, channel_on_control, label_channel_of, number_of_channel, is_label_channel, FlowId, FlowKind, kind_of, flow_of, same_flow, Grant, is_by_controller, grant_for, grant_of_kind, grant_matching, default_channel, port_on, on_link, same_channel, Topology}
use Rattle.law_arrival_views.specs.world_model.ipv4_packet.declared.flow.FlowKind.TheVariants.{One, Two}
use Rattle.law_arrival_views.proofs.law_port_facts.Found.{find_passes}
use Rattle.law_arrival_views.proofs.law_port_views.Flows.{flow_is}
use Rattle.law_arrival_views.specs.world_model.network_model.declared.link.LinkEnd.{LinkEnd}
use Rattle.law_arrival_views.specs.world_model.Topology.{peer_of}
use Rattle.law_run_facts.specs.law_world_views.Marks.{Heading, own_end, heading_at}
use Rattle.law_packet_worlds.proofs.Hops.{some_flow}
use Rattle.law_packet_worlds.proofs.Ledger.{and_right, and_left}

-- *A channel of a port, as it shows on the control link*
path_in : (q v : ℕ) → v < 16 → (16 * q + v) / 16 ≡ q
path_in q v low = omega (arith, low)

rest_in : (q v : ℕ) → v < 16 → (16 * q + v) % 16 ≡ v
rest_in q v low = omega (arith, low)

pub port_is : (port : PortNo) (channel : Channel) → channel.vpi < 16 → port_on (channel_on_control port channel) ≡ port
port_is port channel low = ap (λ (v : ℕ). let p : PortNo = record { 0 = v } in p) (path_in port.0 channel.vpi low)

pub link_is : (port : PortNo) (channel : Channel) → channel.vpi < 16 → on_link (channel_on_control port channel) ≡ channel
link_is port channel low = ap (λ (v : ℕ). let c : Channel = record { vpi = v; vci = channel.vci } in c) (rest_in port.0 channel.vpi low)

pub leads_down : (topology : Topology) (node : NodeId) (port : PortNo) (channel : Channel) → channel.vpi < 16
    → heading_at topology (Down node) (channel_on_control port channel) ≡ record { end = peer_of topology node port; channel = channel }
leads_down topology node port channel low =
    (λ i. let to : Heading = record { end = peer_of topology node (port_is port channel low i); channel = link_is port channel low i } in to)

pub leads_up : (topology : Topology) (node : NodeId) (port : PortNo) (channel : Channel) → channel.vpi < 16
    → heading_at topology (Up node) (channel_on_control port channel) ≡ record { end = own_end node port; channel = channel }
leads_up topology node port channel low =
    (λ i. let to : Heading = record { end = own_end node (port_is port channel low i); channel = link_is port channel low i } in to)

pub own_there : (node : NodeId) (port : PortNo) → 0 < port.0 → own_end node port ≡ Some (record { node = node; port = port })
own_there node port some =
    let test : (port.0 == 0) ≡ false = grind (arith, nat_tests, some) in
    ap (λ (b : Bool). if b then None else Some (record { node = node; port = port })) test

own_by : (b : Bool) (end far : LinkEnd) → ◌≡◌ {A = Option LinkEnd} (if b then None else Some end) (Some far) → end ≡ far
own_by true end far e = absurd (cc e)
own_by false end far e = cc

pub own_is : (node : NodeId) (port : PortNo) (far : LinkEnd) → own_end node port ≡ Some far → record { node = node; port = port } ≡ far
own_is node port far e = own_by (port.0 == 0) (record { node = node; port = port }) far e

-- *Labels*: VPI 0 to 15, VCI 32 to 1023
pub record IsLabel (channel : Channel) : Type 0 where
  pub vpi : channel.vpi < 16
  pub least : 32 ≤ channel.vci
  pub greatest : channel.vci < 1024

pub label_is : (channel : Channel) → is_label_channel channel ≡ true → IsLabel channel
label_is channel e =
    let back : (nat_le 32 channel.vci && nat_lt channel.vci 1024) ≡ true = and_right (nat_lt channel.vpi 16) (nat_le 32 channel.vci && nat_lt channel.vci 1024) e in
    let first : nat_lt channel.vpi 16 ≡ true = and_left (nat_lt channel.vpi 16) (nat_le 32 channel.vci && nat_lt channel.vci 1024) e in
    let second : nat_le 32 channel.vci ≡ true = and_left (nat_le 32 channel.vci) (nat_lt channel.vci 1024) back in
    let third : nat_lt channel.vci 1024 ≡ true = and_right (nat_le 32 channel.vci) (nat_lt channel.vci 1024) back in
    record { vpi = grind (arith, nat_tests, first); least = grind (arith, nat_tests, second); greatest = grind (arith, nat_tests, third) }

pub no_default : (channel : Channel) → IsLabel channel → same_channel channel default_channel ≡ false
no_default channel is =
    let least : 32 ≤ channel.vci = is.least in
    let other : (channel.vci == 15) ≡ false = grind (arith, nat_tests, least) in
    by (channel.vpi == 0) (channel.vci == 15) other
  where
    by : (a b : Bool) → b ≡ false → (a && b) ≡ false
    by true b e = e
    by false b e = refl

pub channel_is : (channel : Channel) → IsLabel channel → label_channel_of (number_of_channel channel) ≡ channel
channel_is channel is =
    let vpi : (channel.vpi * 1024 + channel.vci) / 1024 ≡ channel.vpi = omega (arith, is.greatest) in
    let vci : (channel.vpi * 1024 + channel.vci) % 1024 ≡ channel.vci = omega (arith, is.greatest) in
    (λ i. let c : Channel = record { vpi = vpi i; vci = vci i } in c)

-- *A grant that a packet matches* is of the packet's flow
flow_by : (g : Grant) (flow : FlowId) (kind : FlowKind) (packet : List ℕ) → (is_by_controller g.state && same_flow g.flow flow) ≡ true → flow_of kind packet ≡ Some flow
    → ((f : FlowId) → flow_of kind packet ≡ Some f → kind_of f ≡ kind) → flow_of (kind_of g.flow) packet ≡ Some g.flow
flow_by g flow kind packet passes found kinds =
    let same : g.flow ≡ flow = flow_is g.flow flow (and_right (is_by_controller g.state) (same_flow g.flow flow) passes) in
    let of_kind : kind_of g.flow ≡ kind = ap kind_of same ∙ kinds flow found in
    ap (λ (k : FlowKind). flow_of k packet) of_kind ∙ (found ∙ ap (λ (f : FlowId). Some f) (sym same))

kind_is : (kind : FlowKind) (packet : List ℕ) (f : FlowId) → flow_of kind packet ≡ Some f → kind_of f ≡ kind
kind_is One packet f e = (let same = some_flow _ _ f e in ap kind_of (sym same))
kind_is Two packet f e = (let same = some_flow _ _ f e in ap kind_of (sym same))

of_kind : (grants : List Grant) (kind : FlowKind) (packet : List ℕ) (g : Grant) → grant_of_kind grants kind packet ≡ Some g → flow_of (kind_of g.flow) packet ≡ Some g.flow
of_kind grants kind packet g e = by (flow_of kind packet) refl e
  where
    by : (o : Option FlowId) → flow_of kind packet ≡ o → option_map_or (grant_for grants) o None ≡ Some g → flow_of (kind_of g.flow) packet ≡ Some g.flow
    by None is f = absurd (cc f)
    by (Some flow) is f =
        flow_by g flow kind packet (find_passes (λ grant. is_by_controller grant.state && same_flow grant.flow flow) grants g f) is (kind_is kind packet)

pub matching_flow : (grants : List Grant) (packet : List ℕ) (g : Grant) → grant_matching grants packet ≡ Some g → flow_of (kind_of g.flow) packet ≡ Some g.flow
matching_flow grants packet g e = by (grant_of_kind grants One packet) refl e
  where
    by : (o : Option Grant) → grant_of_kind grants One packet ≡ o → option_or o (grant_of_kind grants Two packet) ≡ Some g → flow_of (kind_of g.flow) packet ≡ Some g.flow
    by None is f = of_kind grants Two packet g f
    by (Some other) is f = of_kind grants One packet g (is ∙ f)
