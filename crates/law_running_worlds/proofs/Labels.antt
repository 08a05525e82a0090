-- a frame that comes under a label is read as the packet that it carries under the label's flow

use Rattle.std.proofs.Common.{◌≡◌, ◌≢◌, ℕ, ◌<◌, Bool, true, false, List, Option, None, Some, Result, Ok, refl, sym, ◌∙◌, subst, arith, if◌then◌else◌}
use Rattle.std.specs.Prelude.{◌==◌}
use Rattle.std.specs.Option.{option_and_then}
use Rattle.law_branch_shapes.specs.world_model.Words.{Channel, NodeId, PortNo, Up, Mark, number_of_channel, is_label_channel, label_number_of, FlowId, EncapsFault, Carries, unwrapped, payload_of, Record, Label, LabelState, Wiring, Offered, Recalled, Wired, is_bound, label_number, label_at, labels_of, Controller, Linked, port_key, linked_at, default_channel, ForGsmp, ForDefault, ForLabel, port_on, on_link, same_channel, label_taker, taker_at, taker_of, Past, frames_of, last_bound}
use Rattle.law_frame_readings.specs.ordered_lists.Ordered.{Every}
use Rattle.law_frame_readings.proofs.law_port_facts.Keyed.{at_key, at_every}
use Rattle.law_branch_shapes.specs.world_model.Controller.{Acted}
use Rattle.law_branch_shapes.specs.world_model.Cells.{Taker}
use Rattle.law_branch_shapes.specs.law_controller_bindings.Bindings.{site, IsBoundLast, HasBoundLabels}
use Rattle.law_branch_shapes.specs.world_model.network_model.declared.link.LinkEnd.{LinkEnd}
use Rattle.law_frame_readings.specs.law_world_views.Made.{IsFit}
use Rattle.law_frame_readings.specs.law_world_views.Marks.{own_end, heading_at, Means, early, control, local, plain, labelled}
use Rattle.law_frame_readings.proofs.Reading.{read_label}
use Rattle.law_input_events.proofs.law_controller.Ordering.{same_number}

-- *The taker of a label's channel*: the label of that number at the port of the channel
pub record IsOfLabel (c : Controller) (channel : Channel) (linked : Linked) (label : Label) : Type 0 where
  pub found : linked_at c (port_on channel) ≡ Some linked
  pub other : same_channel (on_link channel) default_channel ≡ false
  pub number : ℕ
  pub numbered : label_number_of (on_link channel) ≡ Some number
  pub held : label_at linked.port number ≡ Some label
  pub bound : is_bound label.state ≡ true

module _ (c : Controller) (channel : Channel) (linked : Linked) (label : Label) where
  by_bound : (other : Linked) (found : linked_at c (port_on channel) ≡ Some other) (apart : same_channel (on_link channel) default_channel ≡ false) (number : ℕ) → label_number_of (on_link channel) ≡ Some number
      → (held : Label) → label_at other.port number ≡ Some held → (b : Bool) → is_bound held.state ≡ b → ◌≡◌ {A = Option Taker} (if b then Some (ForLabel other held) else None) (Some (ForLabel linked label)) → IsOfLabel c channel linked label
  by_bound other found apart number numbered held is false t e = absurd (cc e)
  by_bound other found apart number numbered held is true t e =
      let one : other ≡ linked = cc in
      let two : held ≡ label = cc in
      record {
        found = subst (λ (x : Linked). linked_at c (port_on channel) ≡ Some x) one found;
        other = apart;
        number = number;
        numbered = numbered;
        held = subst (λ (x : Label). label_at linked.port number ≡ Some x) two (subst (λ (x : Linked). label_at x.port number ≡ Some held) one is);
        bound = subst (λ (x : Label). is_bound x.state ≡ true) two t;
      }

  by_held : (other : Linked) (found : linked_at c (port_on channel) ≡ Some other) (apart : same_channel (on_link channel) default_channel ≡ false) (number : ℕ) → label_number_of (on_link channel) ≡ Some number
      → (o : Option Label) → label_at other.port number ≡ o → label_taker other o ≡ Some (ForLabel linked label) → IsOfLabel c channel linked label
  by_held other found apart number numbered None is e = absurd (cc e)
  by_held other found apart number numbered (Some held) is e = by_bound other found apart number numbered held is (is_bound held.state) refl e

  by_number : (other : Linked) (found : linked_at c (port_on channel) ≡ Some other) (apart : same_channel (on_link channel) default_channel ≡ false) (o : Option ℕ) → label_number_of (on_link channel) ≡ o
      → label_taker other (option_and_then (label_at other.port) o) ≡ Some (ForLabel linked label) → IsOfLabel c channel linked label
  by_number other found apart None numbered e = absurd (cc e)
  by_number other found apart (Some number) numbered e = by_held other found apart number numbered (label_at other.port number) refl e

  by_default : (other : Linked) → linked_at c (port_on channel) ≡ Some other → (b : Bool) → same_channel (on_link channel) default_channel ≡ b
      → ◌≡◌ {A = Option Taker} (if b then Some (ForDefault other) else label_taker other (option_and_then (label_at other.port) (label_number_of (on_link channel)))) (Some (ForLabel linked label)) → IsOfLabel c channel linked label
  by_default other found true t e = absurd (cc e)
  by_default other found false t e = by_number other found t (label_number_of (on_link channel)) refl e

  by_found : (o : Option Linked) → linked_at c (port_on channel) ≡ o → taker_at o (on_link channel) ≡ Some (ForLabel linked label) → IsOfLabel c channel linked label
  by_found None found e = absurd (cc e)
  by_found (Some other) found e = by_default other found (same_channel (on_link channel) default_channel) refl e

  by_gsmp : (b : Bool) → ◌≡◌ {A = Option Taker} (if b then Some ForGsmp else taker_at (linked_at c (port_on channel)) (on_link channel)) (Some (ForLabel linked label)) → IsOfLabel c channel linked label
  by_gsmp true e = absurd (cc e)
  by_gsmp false e = by_found (linked_at c (port_on channel)) refl e

  pub of_label : taker_of c channel ≡ Some (ForLabel linked label) → IsOfLabel c channel linked label
  of_label e = by_gsmp (same_channel channel default_channel) e

-- *Its number* and its flow
number_is : (channel : Channel) (number : ℕ) → label_number_of channel ≡ Some number → number_of_channel channel ≡ number
number_is channel number e = by (is_label_channel channel) e
  where
    by : (b : Bool) → ◌≡◌ {A = Option ℕ} (if b then Some (number_of_channel channel) else None) (Some number) → number_of_channel channel ≡ number
    by true e = cc e
    by false e = absurd (cc e)

not_wiring : (state : LabelState) → is_bound state ≡ true → state ≢ Wiring
not_wiring Wiring e is = cc e
not_wiring Offered e is = cc is
not_wiring (Recalled last acknowledged) e is = cc is
not_wiring Wired e is = cc e

pub flow_bound : (node : NodeId) (records : List Record) (a : Acted) (channel : Channel) (linked : Linked) (label : Label) → HasBoundLabels node records a → IsOfLabel a.controller channel linked label
    → last_bound records (site node (port_on channel)) (number_of_channel (on_link channel)) ≡ Some label.flow
flow_bound node records a channel linked label bound is =
    let port : linked.setup.port ≡ port_on channel = same_number linked.setup.port (port_on channel) (at_key port_key (port_on channel).0 a.controller.ports linked is.found) in
    let number : label.number ≡ is.number = at_key label_number is.number (labels_of linked.port) label is.held in
    let last : IsBoundLast node records linked.setup.port label = at_every label_number (IsBoundLast node records linked.setup.port) is.number (labels_of linked.port) label
    (at_every port_key (λ (x : Linked). Every (IsBoundLast node records x.setup.port) (labels_of x.port)) (port_on channel).0 a.controller.ports linked bound is.found) is.held in
    (λ i. last_bound records (site node (sym port i)) ((number_is (on_link channel) is.number is.numbered ∙ sym number) i)) ∙ last (not_wiring label.state is.bound)

-- the end that a cell goes to at its controller
pub own_is : (node : NodeId) (port : PortNo) (far : LinkEnd) → own_end node port ≡ Some far → site node port ≡ far
own_is node port far e = by (port.0 == 0) e
  where
    by : (b : Bool) → ◌≡◌ {A = Option LinkEnd} (if b then None else Some (record { node = node; port = port })) (Some far) → site node port ≡ far
    by true e = absurd (cc e)
    by false e = (let both : Some (site node port) ≡ Some far = e in cc)

-- *What is read* under the label: the packet, which may be in the network
pub label_read : (past : Past) (node : NodeId) (a : Acted) (channel : Channel) (last : Bool) (mark : Mark) (linked : Linked) (label : Label) (payload : List ℕ)
    → HasBoundLabels node past.records a → IsOfLabel a.controller channel linked label → Means past (heading_at past.topology (Up node) channel) last mark
    → payload_of (frames_of past) mark ≡ Some payload → (packet : List ℕ) → unwrapped label.flow payload ≡ Ok packet → (mark.packet ≢ 0) × IsFit packet
label_read past node a channel last mark linked label payload bound is (early same e n) made packet ok = absurd (cc (is.other, same))
label_read past node a channel last mark linked label payload bound is (control same e source message f) made packet ok = absurd (cc (is.other, same))
label_read past node a channel last mark linked label payload bound is (local same e f) made packet ok = absurd (cc (is.other, same))
label_read past node a channel last mark linked label payload bound is (plain same e far end other f come newest) made packet ok = absurd (cc (is.other, same))
label_read past node a channel last mark linked label payload bound is (labelled apart far end flow under other carried framed carries come newest) made packet ok =
    let there : site node (port_on channel) ≡ far = own_is node (port_on channel) far end in
    let flows : Some label.flow ≡ Some flow = sym (flow_bound node past.records a channel linked label bound is) ∙ (λ i. last_bound past.records (there i) (number_of_channel (on_link channel))) ∙ under in
    let same_flow : flow ≡ label.flow = cc in
    let both : Some other ≡ Some payload = sym framed ∙ made in
    let same_payload : other ≡ payload = cc in
    let here : Carries label.flow carried payload = subst (λ (f : FlowId). Carries f carried payload) same_flow (subst (Carries flow carried) same_payload carries) in
    let read : ◌≡◌ {A = Result (List ℕ) EncapsFault} (Ok carried) (Ok packet) = sym (read_label label.flow payload carried here) ∙ ok in
    let same : carried ≡ packet = cc in
    (counted come.counted, subst IsFit same come.fit)
  where
    counted : 0 < mark.packet → mark.packet ≢ 0
    counted more none = absurd (omega (arith, more, none))
