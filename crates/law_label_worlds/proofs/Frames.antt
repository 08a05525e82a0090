-- what a whole frame is that comes to a controller from its switch: by the mark of its last cell

use Rattle.std.proofs.Common.{◌≡◌, ◌≢◌, ℕ, ◌<◌, ◌+◌, Bool, true, false, List, [], ◌∷◌, length, Option, None, Some, Result, Ok, refl, sym, ◌∙◌, ap, subst, arith, if◌then◌else◌}
use Rattle.std.specs.Prelude.{◌^◌, ◌==◌, ◌&&◌, nat_lt, Contains}
use Rattle.std.specs.Option.{option_map_or, option_and_then}
use Rattle.std.proofs.lemmas.Bool.Decides.{nat_tests}
use Rattle.world_model.specs.Words.{NodeId, PortNo, Up, Mark, Channel, is_label_channel, label_number_of, number_of_channel, protocol_of, source_of, Cell, FlowId, EncapsFault, default_unwrapped, unwrapped, InRange, FitsMessage, payload_of, Label, LabelState, Wiring, is_bound, label_number, label_at, labels_of, Controller, Linked, port_key, linked_at, default_channel, is_control, control_protocol, ForGsmp, ForDefault, ForLabel, port_on, on_link, same_channel, label_taker, taker_at, taker_of, queue_of, control_port, IsPlace, Site, site_at, queue_in, queue_at, Past, frames_of, last_bound, put_away}
use Rattle.world_model.specs.ipv4_packet.Packet.{first_fault}
use Rattle.world_model.specs.ipv4_packet.declared.validate.PacketFault.TheVariants.{Short}
use Rattle.world_model.specs.ifmp_wire.declared.message.Message.{Message}
use Rattle.world_model.specs.ifmp_wire.Message.{octets_of}
use Rattle.law_label_events.proofs.law_wire.Packets.{protocol_is}
use Rattle.law_label_events.specs.ordered_lists.Ordered.{Every}
use Rattle.law_label_events.proofs.law_port_facts.Keyed.{by_eq, at_key, at_every}
use Rattle.world_model.specs.Cells.{Taker}
use Rattle.law_run_facts.specs.law_controller_bindings.Bindings.{HasBoundLabels, IsBoundLast}
use Rattle.law_run_facts.proofs.law_controller_bindings.Lasts.{some_same}
use Rattle.law_label_events.specs.law_shown_cells.Label.{Told}
use Rattle.law_label_events.proofs.law_controller_views.Works.{port_is}
use Rattle.law_label_events.specs.law_arrival_views.Packets.{IsFree, of_control, of_packet, IsPlain}
use Rattle.law_label_events.specs.law_arrival_views.Cells.{IsTold}
use Rattle.law_label_events.proofs.law_arrival_views.Hears.{told_is}
use Rattle.world_model.specs.network_model.declared.link.LinkEnd.{LinkEnd}
use Rattle.law_label_events.specs.law_world_views.Made.{IsFit}
use Rattle.law_label_events.specs.law_world_views.Marks.{Heading, own_end, heading_at, IsNewest, Means, early, control, local, plain, labelled}
use Rattle.law_label_events.specs.law_world_views.Shown.{acting}
use Rattle.law_label_events.specs.law_world_views.Between.{IsWorld}
use Rattle.law_running_worlds.specs.law_frame_readings.Reading.{IsToldAs, Holds, sent as holds_sent, told as holds_told}
use Rattle.law_running_worlds.proofs.law_frame_readings.Reading.{read_default, read_told, read_label}
use Rattle.law_running_worlds.proofs.Labels.{IsOfLabel}
use Rattle.law_label_events.proofs.Enters.{first_passed, long_by}

-- *A packet that isn't refused* has a header
pub plain_packet : (packet : List ℕ) → first_fault packet ≡ None → (protocol_of packet == control_protocol) ≡ false → IsPlain packet
plain_packet packet whole other = record { long = long_by (length packet) (first_passed (nat_lt (length packet) 20) Short _ whole); protocol = other }

-- *A message that is told* is in range, and its numbers fit
pub record Hearable (packet : List ℕ) (message : Message) : Type 0 where
  pub source : (source_of packet).0 < 2 ^ 32
  pub range : InRange message
  pub fits : FitsMessage message

-- *Takers*
not_none : {A : Type 0} (x : A) → ◌≡◌ {A = Option A} None (Some x) → ⊥
not_none x e = absurd (cc e)

abbrev label_of : Taker → Option Label
label_of ForGsmp = None
label_of (ForDefault linked) = None
label_of (ForLabel linked label) = Some label

abbrev linked_of : Taker → Option Linked
linked_of ForGsmp = None
linked_of (ForDefault linked) = Some linked
linked_of (ForLabel linked label) = Some linked

abbrev default_of : Taker → Bool
default_of (ForDefault linked) = true
default_of taker = false

module _ (c : Controller) (channel : Channel) where
  pub label_is : (linked : Linked) (label : Label) → taker_of c channel ≡ Some (ForLabel linked label) → IsOfLabel c channel linked label
  label_is linked label e = by_gsmp (same_channel channel default_channel) e
    where
      by_state : (x : Linked) → linked_at c (port_on channel) ≡ Some x → same_channel (on_link channel) default_channel ≡ false → (n : ℕ) → label_number_of (on_link channel) ≡ Some n → (y : Label) → label_at x.port n ≡ Some y
          → (b : Bool) → is_bound y.state ≡ b → (if b then Some (ForLabel x y) else None) ≡ Some (ForLabel linked label) → IsOfLabel c channel linked label
      by_state x found other n is y held false bound e = absurd (not_none (ForLabel linked label) e)
      by_state x found other n is y held true bound e =
          let taker : ForLabel x y ≡ ForLabel linked label = some_same (ForLabel x y) (ForLabel linked label) e in
          let one : x ≡ linked = some_same x linked (ap linked_of taker) in
          let two : y ≡ label = some_same y label (ap label_of taker) in
          record {
            found = found ∙ ap Some one;
            other = other;
            number = n;
            numbered = is;
            held = ap (λ (z : Linked). label_at z.port n) (sym one) ∙ (held ∙ ap Some two);
            bound = ap (λ (z : Label). is_bound z.state) (sym two) ∙ bound;
          }

      by_held : (x : Linked) → linked_at c (port_on channel) ≡ Some x → same_channel (on_link channel) default_channel ≡ false → (n : ℕ) → label_number_of (on_link channel) ≡ Some n → (o : Option Label) → label_at x.port n ≡ o
          → label_taker x o ≡ Some (ForLabel linked label) → IsOfLabel c channel linked label
      by_held x found other n is None held e = absurd (not_none (ForLabel linked label) e)
      by_held x found other n is (Some y) held e = by_state x found other n is y held (is_bound y.state) refl e

      by_number : (x : Linked) → linked_at c (port_on channel) ≡ Some x → same_channel (on_link channel) default_channel ≡ false → (o : Option ℕ) → label_number_of (on_link channel) ≡ o
          → label_taker x (option_and_then (label_at x.port) o) ≡ Some (ForLabel linked label) → IsOfLabel c channel linked label
      by_number x found other None is e = absurd (not_none (ForLabel linked label) e)
      by_number x found other (Some n) is e = by_held x found other n is (label_at x.port n) refl e

      by_default : (x : Linked) → linked_at c (port_on channel) ≡ Some x → (b : Bool) → same_channel (on_link channel) default_channel ≡ b
          → (if b then Some (ForDefault x) else label_taker x (option_and_then (label_at x.port) (label_number_of (on_link channel)))) ≡ Some (ForLabel linked label) → IsOfLabel c channel linked label
      by_default x found true other e = absurd (not_none label (ap label_of (some_same (ForDefault x) (ForLabel linked label) e)))
      by_default x found false other e = by_number x found other (label_number_of (on_link channel)) refl e

      by_found : (o : Option Linked) → linked_at c (port_on channel) ≡ o → taker_at o (on_link channel) ≡ Some (ForLabel linked label) → IsOfLabel c channel linked label
      by_found None found e = absurd (not_none (ForLabel linked label) e)
      by_found (Some x) found e = by_default x found (same_channel (on_link channel) default_channel) refl e

      by_gsmp : (b : Bool) → (if b then Some ForGsmp else taker_at (linked_at c (port_on channel)) (on_link channel)) ≡ Some (ForLabel linked label) → IsOfLabel c channel linked label
      by_gsmp true e = absurd (not_none label (ap label_of (some_same ForGsmp (ForLabel linked label) e)))
      by_gsmp false e = by_found (linked_at c (port_on channel)) refl e

  pub record IsDefaultTaker (linked : Linked) : Type 0 where
    pub found : linked_at c (port_on channel) ≡ Some linked
    pub own : same_channel (on_link channel) default_channel ≡ true

  pub default_is : (linked : Linked) → taker_of c channel ≡ Some (ForDefault linked) → IsDefaultTaker linked
  default_is linked e = by_gsmp (same_channel channel default_channel) e
    where
      never_label : (x : Linked) (o : Option Label) → label_taker x o ≡ Some (ForDefault linked) → ⊥
      never_label x None e = not_none (ForDefault linked) e
      never_label x (Some y) e = by (is_bound y.state) e
        where
          by : (b : Bool) → (if b then Some (ForLabel x y) else None) ≡ Some (ForDefault linked) → ⊥
          by true e = absurd (cc (ap default_of (some_same (ForLabel x y) (ForDefault linked) e)))
          by false e = not_none (ForDefault linked) e

      by_default : (x : Linked) → linked_at c (port_on channel) ≡ Some x → (b : Bool) → same_channel (on_link channel) default_channel ≡ b
          → (if b then Some (ForDefault x) else label_taker x (option_and_then (label_at x.port) (label_number_of (on_link channel)))) ≡ Some (ForDefault linked) → IsDefaultTaker linked
      by_default x found true own e = record { found = found ∙ ap Some (some_same x linked (ap linked_of (some_same (ForDefault x) (ForDefault linked) e))); own = own }
      by_default x found false own e = absurd (never_label x (option_and_then (label_at x.port) (label_number_of (on_link channel))) e)

      by_found : (o : Option Linked) → linked_at c (port_on channel) ≡ o → taker_at o (on_link channel) ≡ Some (ForDefault linked) → IsDefaultTaker linked
      by_found None found e = absurd (not_none (ForDefault linked) e)
      by_found (Some x) found e = by_default x found (same_channel (on_link channel) default_channel) refl e

      by_gsmp : (b : Bool) → (if b then Some ForGsmp else taker_at (linked_at c (port_on channel)) (on_link channel)) ≡ Some (ForDefault linked) → IsDefaultTaker linked
      by_gsmp true e = absurd (not_none linked (ap linked_of (some_same ForGsmp (ForDefault linked) e)))
      by_gsmp false e = by_found (linked_at c (port_on channel)) refl e

-- *In a network* between events
module _ (past : Past) (world : IsWorld past) (node : NodeId) (site : Site) (cell : Cell) (cells : List Cell) (found : site_at past.now node ≡ Some site)
    (front : queue_of site.switch.crossbar control_port ≡ cell ∷ cells) (place : IsPlace past.topology (Up node)) where
  there : Contains (queue_at past.now (Up node)) cell
  there = subst (λ (o : Option Site). Contains (option_map_or (λ (s : Site). queue_in s (Up node)) o []) cell) (sym found)
      (subst (λ (xs : List Cell). Contains xs cell) (sym front) (0, omega arith, refl))

  means : Means past (heading_at past.topology (Up node) cell.header.channel) cell.header.last cell.mark
  means = world.meanings (Up node) cell place there

  -- no later frame of a packet was made than that of its last cell
  newest : (to : Heading) (last : Bool) (mark : Mark) → Means past to last mark → last ≡ true → mark.packet ≢ 0 → IsNewest (frames_of past) mark
  newest to last mark (early own is other) l packet = absurd (cc (sym is ∙ l))
  newest to last mark (control own is source message made) l packet = absurd (packet is)
  newest to last mark (local own here is) l packet = absurd (packet is)
  newest to last mark (plain own is far end octets made come new) l packet = new
  newest to last mark (labelled other far end flow bound payload octets made carried come new) l packet = new l

  control_is : (packet frame : ℕ) → packet ≡ 0 → 0 < frame → (packet == 0 && nat_lt 0 frame) ≡ true
  control_is packet frame is some = grind (arith, nat_tests, is, some)

  pub free : cell.header.last ≡ true → IsFree (acting (put_away past.now) site) cell.mark
  free last = by_eq cell.mark.packet 0
      (λ is t. of_control (control_is cell.mark.packet cell.mark.frame is (world.numbers.counted (Up node) cell there is)))
      (λ other t. of_packet other (newest (heading_at past.topology (Up node) cell.header.channel) cell.header.last cell.mark means last other (cell.mark.frame + 1) (omega arith)))

  -- *A default channel*
  pub hearable : (payload packet : List ℕ) (message : Message) → payload_of past.now.notes.frames cell.mark ≡ Some payload → IsTold payload packet message → Hearable packet message
  hearable payload packet message made t =
      let item : Told = record { source = source_of packet; message = message } in
      let known : IsToldAs cell.mark payload item = read_told cell.mark payload item (world.made cell.mark payload made) (told_is payload packet message t) in
      record { source = known.source; range = known.in_range; fits = known.fits }

  pub forwarded_fit : (payload packet : List ℕ) → payload_of past.now.notes.frames cell.mark ≡ Some payload → default_unwrapped payload ≡ Ok packet → (protocol_of packet == control_protocol) ≡ false → IsFit packet
  forwarded_fit payload packet made is other = by (read_default cell.mark payload packet (world.made cell.mark payload made) is)
    where
      by : Holds cell.mark payload packet → IsFit packet
      by (holds_sent counted fit filled) = fit
      by (holds_told item known filled) = (let protocol : (protocol_of packet == control_protocol) ≡ true = ap (λ (p : List ℕ). protocol_of p == control_protocol) filled
          ∙ (ap (λ (n : ℕ). n == control_protocol) (protocol_is item.source (octets_of item.message)) ∙ refl) in absurd (cc (sym protocol ∙ other)))

  -- *A label's channel*: the packet that its frame carries under the flow that the label was bound to
  own_is : (port : PortNo) (far : LinkEnd) → own_end node port ≡ Some far → record { node = node; port = port } ≡ far
  own_is port far e = by (port.0 == 0) e
    where
      by : (b : Bool) → (if b then None else Some (record { node = node; port = port })) ≡ Some far → record { node = node; port = port } ≡ far
      by true e = absurd (not_none far e)
      by false e = some_same (record { node = node; port = port }) far e

  number_by : (channel : Channel) (n : ℕ) → label_number_of channel ≡ Some n → number_of_channel channel ≡ n
  number_by channel n e = by (is_label_channel channel) e
    where
      by : (b : Bool) → (if b then Some (number_of_channel channel) else None) ≡ Some n → number_of_channel channel ≡ n
      by true e = some_same (number_of_channel channel) n e
      by false e = absurd (not_none n e)

  not_wiring : (state : LabelState) → is_bound state ≡ true → state ≢ Wiring
  not_wiring state bound is = absurd (cc (sym (ap is_bound is) ∙ bound))

  pub label_fit : HasBoundLabels node past.records (acting past.now site) → (linked : Linked) (label : Label) (payload packet : List ℕ) → IsOfLabel site.controller cell.header.channel linked label
      → payload_of past.now.notes.frames cell.mark ≡ Some payload → unwrapped label.flow payload ≡ Ok packet → IsFit packet
  label_fit bound linked label payload packet t made is = by (heading_at past.topology (Up node) cell.header.channel) refl cell.header.last cell.mark refl means
    where
      port : linked.setup.port ≡ port_on cell.header.channel
      port = port_is linked.setup.port (port_on cell.header.channel) (at_key port_key (port_on cell.header.channel).0 site.controller.ports linked t.found)

      number : label.number ≡ number_of_channel (on_link cell.header.channel)
      number = at_key label_number t.number (labels_of linked.port) label t.held ∙ sym (number_by (on_link cell.header.channel) t.number t.numbered)

      last : last_bound past.records (record { node = node; port = port_on cell.header.channel }) (number_of_channel (on_link cell.header.channel)) ≡ Some label.flow
      last = subst (λ (p : PortNo). last_bound past.records (record { node = node; port = p }) (number_of_channel (on_link cell.header.channel)) ≡ Some label.flow) port
          (subst (λ (n : ℕ). last_bound past.records (record { node = node; port = linked.setup.port }) n ≡ Some label.flow) number
          (at_every label_number (IsBoundLast node past.records linked.setup.port) t.number (labels_of linked.port) label
          (at_every port_key (λ (x : Linked). Every (IsBoundLast node past.records x.setup.port) (labels_of x.port)) (port_on cell.header.channel).0 site.controller.ports linked bound t.found) t.held
          (not_wiring label.state t.bound)))

      not_default : (to : Heading) → to ≡ heading_at past.topology (Up node) cell.header.channel → same_channel to.channel default_channel ≡ true → ⊥
      not_default to e own = absurd (cc (sym (ap (λ (h : Heading). same_channel h.channel default_channel) e ∙ t.other) ∙ own))

      by : (to : Heading) → to ≡ heading_at past.topology (Up node) cell.header.channel → (last_one : Bool) (mark : Mark) → mark ≡ cell.mark → Means past to last_one mark → IsFit packet
      by to e last_one mark same (early own is_early other) = absurd (not_default to e own)
      by to e last_one mark same (control own is_control source message told_so) = absurd (not_default to e own)
      by to e last_one mark same (local own here is_control) = absurd (not_default to e own)
      by to e last_one mark same (plain own is_last far end octets made_so come new) = absurd (not_default to e own)
      by to e last_one mark same (labelled other far end flow bound_so payload_so octets made_so carried come new) =
          let far_is : record { node = node; port = port_on cell.header.channel } ≡ far = own_is (port_on cell.header.channel) far (sym (ap (λ (h : Heading). h.end) e) ∙ end) in
          let flow_is : flow ≡ label.flow = some_same flow label.flow (sym bound_so ∙ (ap (λ (h : Heading). last_bound past.records far (number_of_channel h.channel)) e
          ∙ (ap (λ (x : LinkEnd). last_bound past.records x (number_of_channel (on_link cell.header.channel))) (sym far_is) ∙ last))) in
          let payload_is : payload_so ≡ payload = some_same payload_so payload (sym made_so ∙ (ap (λ (m : Mark). payload_of (frames_of past) m) same ∙ made)) in
          let read : unwrapped label.flow payload ≡ Ok octets = subst (λ (f : FlowId). unwrapped f payload ≡ Ok octets) flow_is
          (subst (λ (p : List ℕ). unwrapped flow p ≡ Ok octets) payload_is (read_label flow payload_so octets carried)) in
          let one : octets ≡ packet = same_ok octets packet (sym read ∙ is) in
          subst IsFit one come.fit
        where
          same_ok : (x y : List ℕ) → ◌≡◌ {A = Result (List ℕ) EncapsFault} (Ok x) (Ok y) → x ≡ y
          same_ok x y e = cc
