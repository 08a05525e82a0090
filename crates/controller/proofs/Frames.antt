-- A cell is gathered, and a frame that it ended acts.

use Rattle.std.proofs.Common.{◌≡◌, ◌≢◌, ℕ, Bool, true, false, List, Option, None, Some, Result, Ok, OnOk, refl, ap, sym, subst, ◌∙◌, if◌then◌else◌}
use Rattle.std.specs.Prelude.{IsSome}
use Rattle.std.specs.Option.{option_and_then, option_map}
use Rattle.net_types.specs.declared.node.PortNo.{PortNo}
use Rattle.net_types.specs.declared.number.Mark.{Mark}
use Rattle.atm_cells.specs.declared.cell.Cell.{Cell}
use Rattle.keyed_lists.specs.Keyed.{at}
use Rattle.ipv4_packet.specs.declared.flow.FlowId.{FlowId}
use Rattle.ipv4_packet.specs.Flow.{IsFlow}
use Rattle.flow_encaps.specs.Unwrapped.{default_unwrapped, unwrapped}
use Rattle.gsmp_wire.specs.Fields.{decoded}
use Rattle.link_model.specs.declared.record.Record.TheVariants.{Loss}
use Rattle.link_model.specs.declared.record.Cause.TheVariants.{Unbound}
use Rattle.reassembly.specs.Receipt.{Received}
use Rattle.controller_link.specs.declared.taker.Taker as control
use Rattle.controller_link.specs.declared.taker.Taker.TheVariants as takers
use Rattle.port_model.specs.Labels.{Label, is_bound, label_number}
use Rattle.port_model.specs.Port.{label_at, labels_of}
use Rattle.controller_router.specs.port_state.Engine.{bound_flow, flow_at}
use Rattle.law_port_facts.proofs.Keyed.{at_every}
use Rattle.world_model.specs.Controller.{Acted, Controller, Linked, chains_with, linked_at, note, port_key}
use Rattle.world_model.specs.Cells.{Taker, ForGsmp, ForDefault, ForLabel, cell_comes, default_holds, frame_holds, label_holds, opened_frame, taker_of, takes_cell}
use Rattle.world_model.specs.Gsmp.{gsmp_holds}
use Rattle.world_model.specs.Packets.{forwards_packet}
use Rattle.law_joining_conditions.specs.law_controller_facts.Said.{HasFlowsAt}
use Rattle.controller_joining.proofs.law_join_facts.Splits.{at_put}
use Rattle.controller_router.specs.Cells.{IsFound, channel_of, gathered, receipt}
use Rattle.law_joining_conditions.specs.law_controller_conditions.Kept.{IsKept}
use Rattle.law_joining_conditions.specs.law_controller_conditions.Routes.{HasLinkRoutes}
use Rattle.law_joining_conditions.proofs.law_controller_conditions.Cells.{cells_can_come}
use Rattle.law_joining_conditions.proofs.law_controller_conditions.Receiving.{cell_acts}
use Rattle.law_joining_conditions.specs.Cells.{CanHold}
use Rattle.controller.specs.Frames.{CanAct, IsActing, flow_on, used_at}

-- *Who takes a cell*
pub record IsTaker (o : Option Taker) (channel : control.Taker) : Type 0 where
  pub taker : Taker
  pub is : o ≡ Some taker
  pub channel_is : channel_of taker ≡ channel

pub taker_is : (o : Option Taker) (channel : control.Taker) → Some channel ≡ option_map channel_of o → IsTaker o channel
taker_is None channel e = absurd (cc e)
taker_is (Some t) channel e = (let same : channel ≡ channel_of t = cc e in record { taker = t; is = refl; channel_is = sym same })

pub none_takes : (o : Option Taker) → None ≡ option_map channel_of o → o ≡ None
none_takes None e = refl
none_takes (Some t) e = absurd (cc e)

pub unbound : (a : Acted) (cell : Cell) → taker_of a.controller cell.header.channel ≡ None → note a (Loss cell.mark Unbound) ≡ cell_comes a cell
unbound a cell none = ap (takes_cell a cell) (sym none)

-- *Flows* of labels that are bound
flow_found : (c : Controller) (port : PortNo) (linked : Linked) (number : ℕ) → linked_at c port ≡ Some linked → flow_on c port number ≡ flow_at linked.port number
flow_found c port linked number found = ap (option_and_then (λ (l : Linked). flow_at l.port number)) found

bound_is : (linked : Linked) (label : Label) (number : ℕ) → label_at linked.port number ≡ Some label → is_bound label.state ≡ true → flow_at linked.port number ≡ Some label.flow
bound_is linked label number held bound = ap (option_and_then bound_flow) held ∙ ap (λ (b : Bool). if b then Some label.flow else None) bound

label_flows : (label : Label) (flow : FlowId) → IsFlow label.flow → bound_flow label ≡ Some flow → IsFlow flow
label_flows label flow own is = by (is_bound label.state) is where
  by : (b : Bool) → (if b then Some label.flow else None) ≡ Some flow → IsFlow flow
  by true e = (let same : label.flow ≡ flow = cc e in subst IsFlow same own)
  by false e = absurd (cc e)

port_flows : (linked : Linked) (number : ℕ) (flow : FlowId) → HasFlowsAt linked → flow_at linked.port number ≡ Some flow → IsFlow flow
port_flows linked number flow flows is = by (label_at linked.port number) refl is where
  by : (o : Option Label) → label_at linked.port number ≡ o → option_and_then bound_flow o ≡ Some flow → IsFlow flow
  by None held e = absurd (cc e)
  by (Some label) held e = label_flows label flow (at_every label_number (λ (l : Label). IsFlow l.flow) number (labels_of linked.port) label flows.labels held) e

pub flows_are : (c : Controller) → IsKept c → (port : PortNo) (number : ℕ) (flow : FlowId) → flow_on c port number ≡ Some flow → IsFlow flow
flows_are c kept port number flow is = by (linked_at c port) refl is where
  by : (o : Option Linked) → linked_at c port ≡ o → option_and_then (λ (l : Linked). flow_at l.port number) o ≡ Some flow → IsFlow flow
  by None found e = absurd (cc e)
  by (Some linked) found e = port_flows linked number flow (at_every port_key HasFlowsAt port.0 c.ports linked kept.flows found) e

-- *What is gathered* leaves the binding of the label, and the routes
pub acts_after : (a : Acted) (t : Taker) (r : Received) → IsFound a.controller t → IsActing (gathered a t r).controller t
acts_after a ForGsmp r found = tt
acts_after a (ForDefault linked) r found = tt
acts_after a (ForLabel linked label) r found =
    let after : Linked = record linked { chains = chains_with linked.chains label.number r.reassembly } in
    flow_found (gathered a (ForLabel linked label) r).controller linked.setup.port after label.number (at_put port_key after a.controller.ports linked found.found)
    ∙ bound_is linked label label.number found.held found.bound

pub routes_after : (a : Acted) (t : Taker) (r : Received) → HasLinkRoutes a.controller → HasLinkRoutes (gathered a t r).controller
routes_after a ForGsmp r routes = record { table = routes.table; waiting = routes.waiting }
routes_after a (ForDefault linked) r routes = record { table = routes.table; waiting = routes.waiting }
routes_after a (ForLabel linked label) r routes = record { table = routes.table; waiting = routes.waiting }

pub can_act : (a : Acted) (t : Taker) (mark : Mark) (payload : List ℕ) → IsKept a.controller → CanHold a t mark payload → CanAct a (channel_of t) mark payload
can_act a ForGsmp mark payload kept can = can
can_act a (ForDefault linked) mark payload kept can = can
can_act a (ForLabel linked label) mark payload kept can = flows_are a.controller kept linked.setup.port label.number

-- *The frame acts*
pub nothing_ended : (a : Acted) (t : Taker) (cell : Cell) → taker_of a.controller cell.header.channel ≡ Some t → (receipt a t cell).payload ≡ None → gathered a t (receipt a t cell) ≡ cell_comes a cell
nothing_ended a t cell e none = ap (opened_frame (gathered a t (receipt a t cell)) t cell.mark) (sym none) ∙ sym (cell_acts a cell t e)

pub frame_ended : (a : Acted) (t : Taker) (cell : Cell) (payload : List ℕ) → taker_of a.controller cell.header.channel ≡ Some t → (receipt a t cell).payload ≡ Some payload → frame_holds (gathered a t (receipt a t cell)) t cell.mark payload ≡ cell_comes a cell
frame_ended a t cell payload e is = ap (opened_frame (gathered a t (receipt a t cell)) t cell.mark) (sym is) ∙ sym (cell_acts a cell t e)

pub gsmp_acts : (a : Acted) (t : Taker) (mark : Mark) (payload : List ℕ) → channel_of t ≡ takers.Gsmp → gsmp_holds a (decoded payload) ≡ frame_holds a t mark payload
gsmp_acts a ForGsmp mark payload e = refl
gsmp_acts a (ForDefault linked) mark payload e = absurd (cc e)
gsmp_acts a (ForLabel linked label) mark payload e = absurd (cc e)

pub default_acts : (a : Acted) (t : Taker) (port : PortNo) (mark : Mark) (payload : List ℕ) → channel_of t ≡ takers.Default port → default_holds a port mark (default_unwrapped payload) ≡ frame_holds a t mark payload
default_acts a ForGsmp port mark payload e = absurd (cc e)
default_acts a (ForDefault linked) port mark payload e = (let same : linked.setup.port ≡ port = cc e in ap (λ (p : PortNo). default_holds a p mark (default_unwrapped payload)) (sym same))
default_acts a (ForLabel linked label) port mark payload e = absurd (cc e)

pub label_acts : {V F : Type 0} (r : Result V F) (a after : Acted) (t : Taker) (port : PortNo) (number : ℕ) (mark : Mark) (payload : List ℕ) → channel_of t ≡ takers.Label port number → IsActing a.controller t
    → ((linked : Linked) (label : Label) → linked.setup.port ≡ port → label.number ≡ number → flow_on a.controller port number ≡ Some label.flow → OnOk r (after ≡ label_holds a linked label mark (unwrapped label.flow payload)))
    → OnOk r (after ≡ frame_holds a t mark payload)
label_acts r a after ForGsmp port number mark payload e acting holds = absurd (cc e)
label_acts r a after (ForDefault linked) port number mark payload e acting holds = absurd (cc e)
label_acts r a after (ForLabel linked label) port number mark payload e acting holds =
    let p : linked.setup.port ≡ port = cc e in
    let n : label.number ≡ number = cc e in
    holds linked label p n (ap (λ (q : PortNo). flow_on a.controller q number) (sym p) ∙ ap (flow_on a.controller linked.setup.port) (sym n) ∙ acting)

-- *A packet of a label's channel* is sent on, which leaves the label bound
pub still_bound : (a b : Acted) (came : Mark) (packet : List ℕ) (port : PortNo) (number : ℕ) → b ≡ forwards_packet a came packet → IsSome (flow_on a.controller port number) → (linked : Linked) → linked_at b.controller port ≡ Some linked → flow_at linked.port number ≢ None
still_bound a b came packet port number is bound linked found none =
    let same : linked_at a.controller port ≡ Some linked = ap (at port_key port.0) (sym (cells_can_come.same_ports a came packet)) ∙ ap (λ (x : Acted). linked_at x.controller port) (sym is) ∙ found in
    let nothing : flow_on a.controller port number ≡ None = flow_found a.controller port linked number same ∙ none in
    let some = subst IsSome nothing bound in
    cc some

pub labelled_acts : (a : Acted) (linked : Linked) (label : Label) (mark : Mark) (payload packet : List ℕ) (port : PortNo) (number : ℕ) → linked.setup.port ≡ port → label.number ≡ number → unwrapped label.flow payload ≡ Ok packet
    → used_at (forwards_packet a mark packet) port number ≡ label_holds a linked label mark (unwrapped label.flow payload)
labelled_acts a linked label mark payload packet port number p n is =
    ap (λ (q : PortNo). used_at (forwards_packet a mark packet) q number) (sym p) ∙ ap (used_at (forwards_packet a mark packet) linked.setup.port) (sym n) ∙ ap (label_holds a linked label mark) (sym is)
