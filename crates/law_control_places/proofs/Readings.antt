-- what comes to a controller, or to its switch, can be read: the frame of a last cell of GSMP's channel is a message of GSMP,
-- that of a default channel a packet or a message of IFMP, and that of a label's channel a packet of the label's flow

use Rattle.std.proofs.Common.{◌≡◌, ℕ, ◌/◌, ◌%◌, Bool, true, false, List, Option, None, Some, Result, Ok, Err, refl, sym, ◌∙◌, ap, subst, take, arith, if◌then◌else◌}
use Rattle.std.specs.Prelude.{◌==◌, ◌&&◌, is_some}
use Rattle.std.specs.Option.{option_and_then}
use Rattle.std.proofs.lemmas.Bool.Decides.{nat_tests}
use Rattle.world_model.specs.Words.{Channel, NodeId, PortNo, Up, Mark, Addr, number_of_channel, label_number_of, Cell, ifmp_packet_of, FlowId, default_payload, Carries, default_unwrapped, payload_of, Label, is_bound, label_at, control_port, Controller, Linked, linked_at, default_channel, ForGsmp, ForDefault, ForLabel, same_channel, port_on, on_link, label_taker, taker_at, taker_of, Topology, IsTopology, gsmp_of, Past, frames_of, last_bound}
use Rattle.law_frame_readings.proofs.law_wire.Packets.{unwrapped_again}
use Rattle.world_model.specs.ifmp_wire.declared.message.Message.{Message as IfmpMessage}
use Rattle.world_model.specs.ifmp_wire.Message.{octets_of as ifmp_octets}
use Rattle.world_model.specs.gsmp_wire.declared.fault.Fault.{Fault}
use Rattle.world_model.specs.gsmp_wire.declared.message.Message.{Message}
use Rattle.world_model.specs.gsmp_wire.Fields.{decoded}
use Rattle.law_frame_readings.proofs.law_port_facts.Rules.{and_first, and_second}
use Rattle.world_model.specs.Controller.{Acted}
use Rattle.world_model.specs.Cells.{Taker}
use Rattle.law_frame_readings.specs.law_controller_views.Lifted.{payload_by}
use Rattle.law_run_facts.specs.law_controller_bindings.Bindings.{site, HasBoundLabels}
use Rattle.world_model.specs.network_model.declared.link.LinkEnd.{LinkEnd}
use Rattle.world_model.specs.Topology.{peer_of}
use Rattle.world_model.specs.Ways.{ok_of}
use Rattle.law_running_worlds.proofs.law_causes.Shown.{peer_back}
use Rattle.law_frame_readings.specs.law_shown_cells.Label.{Told}
use Rattle.law_frame_readings.specs.law_world_views.Made.{IsFit, IsMadeAs, plain as made_plain, labelled as made_labelled, told as made_told, said as made_said}
use Rattle.law_frame_readings.specs.law_world_views.Marks.{Heading, own_end, heading_at, Means, early, control, local, plain, labelled}
use Rattle.law_frame_readings.specs.Reading.{IsToldAs}
use Rattle.law_frame_readings.proofs.Apart.{snaps_apart}
use Rattle.law_frame_readings.proofs.Packets.{is_forwarded, is_heard}
use Rattle.law_frame_readings.proofs.Reading.{read_label}
use Rattle.law_ownership.specs.Places.{IsPlaced, of_gsmp, of_link}
use Rattle.law_running_worlds.proofs.Labels.{IsOfLabel, flow_bound, own_is}
use Rattle.law_control_places.proofs.Frames.{IsOfGsmp, IsWhole, IsOfFlow}

-- *GSMP's channel* is of port 0, which no link leads from
port_zero : (channel : Channel) → same_channel channel default_channel ≡ true → port_on channel ≡ control_port
port_zero channel gsmp = ap (λ (n : ℕ). record { 0 = n }) (zero channel.vpi (and_first (channel.vpi == 0) (channel.vci == 15) gsmp))
  where
    zero : (n : ℕ) → (n == 0) ≡ true → n / 16 ≡ 0
    zero n e = (let is : n ≡ 0 = grind (arith, nat_tests, e) in omega (arith, is))

pub no_peer : (topology : Topology) → IsTopology topology → (node : NodeId) (channel : Channel) → same_channel channel default_channel ≡ true → peer_of topology node (port_on channel) ≡ None
no_peer topology is node channel gsmp = ap (λ (p : PortNo). peer_of topology node p) (port_zero channel gsmp) ∙ by (peer_of topology node control_port) refl
  where
    by : (o : Option LinkEnd) → peer_of topology node control_port ≡ o → o ≡ None
    by None e = refl
    by (Some far) e = (let own = (peer_back topology is (record { node = node; port = control_port }) far e).own in absurd (omega (arith, own.0)))

pub no_end : (node : NodeId) (channel : Channel) → same_channel channel default_channel ≡ true → own_end node (port_on channel) ≡ None
no_end node channel gsmp = ap (λ (p : PortNo). own_end node p) (port_zero channel gsmp)

-- a last cell that goes to no end of a link is of a control frame
of_control : (past : Past) (to : Heading) (last : Bool) (mark : Mark) → to.end ≡ None → last ≡ true → Means past to last mark → mark.packet ≡ 0
of_control past to last mark none is (early d other n) = absurd (cc (is, other))
of_control past to last mark none is (control d zero source message e) = zero
of_control past to last mark none is (local d e zero) = zero
of_control past to last mark none is (plain d e far led packet made come newest) = (let clash : None ≡ Some far = sym none ∙ led in absurd (cc clash))
of_control past to last mark none is (labelled d far led flow under payload packet made carries come newest) = (let clash : None ≡ Some far = sym none ∙ led in absurd (cc clash))

message_of : (payload : List ℕ) (message : Message) (o : Option (List ℕ)) → o ≡ Some payload → option_and_then gsmp_of o ≡ Some message → IsOfGsmp payload
message_of payload message None made e = absurd (cc made)
message_of payload message (Some other) made e = (let same : other ≡ payload = cc in subst IsOfGsmp same (record { message = message; read = by (decoded other) e }))
  where
    by : (r : Result Message Fault) → ok_of r ≡ Some message → r ≡ Ok message
    by (Err fault) t = absurd (cc t)
    by (Ok said) t = (let same : said ≡ message = cc in ap (λ (m : Message). Ok m) same)

-- and so a message of GSMP, where such frames have their places
pub gsmp_can : (past : Past) (to : Heading) (node : NodeId) (cell : Cell) (payload : List ℕ) → to.end ≡ None → peer_of past.topology node (port_on cell.header.channel) ≡ None → cell.header.last ≡ true → Means past to cell.header.last cell.mark
    → (cell.mark.packet ≡ 0 → IsPlaced past node cell) → payload_of (frames_of past) cell.mark ≡ Some payload → IsOfGsmp payload
gsmp_can past to node cell payload none away last means placed made = by (placed (of_control past to cell.header.last cell.mark none last means))
  where
    by : IsPlaced past node cell → IsOfGsmp payload
    by (of_gsmp here message under) = message_of payload message (payload_of (frames_of past) cell.mark) made under
    by (of_link linked) = (let never : false ≡ true = sym (ap is_some away) ∙ linked in absurd (cc never))

-- *A default channel* of a port: its taker is at the end of a link
pub record IsOfDefault (channel : Channel) : Type 0 where
  pub apart : same_channel channel default_channel ≡ false
  pub default : same_channel (on_link channel) default_channel ≡ true

pub of_default : (c : Controller) (channel : Channel) (linked : Linked) → taker_of c channel ≡ Some (ForDefault linked) → IsOfDefault channel
of_default c channel linked e = by_gsmp (same_channel channel default_channel) refl e
  where
    by_bound : (other : Linked) (label : Label) (b : Bool) → ◌≡◌ {A = Option Taker} (if b then Some (ForLabel other label) else None) (Some (ForDefault linked)) → ⊥
    by_bound other label true e = cc e
    by_bound other label false e = cc e

    by_label : (other : Linked) (o : Option Label) → label_taker other o ≡ Some (ForDefault linked) → ⊥
    by_label other None e = cc e
    by_label other (Some label) e = by_bound other label (is_bound label.state) e

    by_default : (other : Linked) (b : Bool) → same_channel (on_link channel) default_channel ≡ b
        → ◌≡◌ {A = Option Taker} (if b then Some (ForDefault other) else label_taker other (option_and_then (label_at other.port) (label_number_of (on_link channel)))) (Some (ForDefault linked)) → same_channel (on_link channel) default_channel ≡ true
    by_default other true t e = t
    by_default other false t e = absurd (by_label other (option_and_then (label_at other.port) (label_number_of (on_link channel))) e)

    by_port : (o : Option Linked) → taker_at o (on_link channel) ≡ Some (ForDefault linked) → same_channel (on_link channel) default_channel ≡ true
    by_port None e = absurd (cc e)
    by_port (Some other) e = by_default other (same_channel (on_link channel) default_channel) refl e

    by_gsmp : (b : Bool) → same_channel channel default_channel ≡ b → ◌≡◌ {A = Option Taker} (if b then Some ForGsmp else taker_at (linked_at c (port_on channel)) (on_link channel)) (Some (ForDefault linked)) → IsOfDefault channel
    by_gsmp true t e = absurd (cc e)
    by_gsmp false t e = record { apart = t; default = by_port (linked_at c (port_on channel)) e }

pub some_end : (node : NodeId) (channel : Channel) → IsOfDefault channel → own_end node (port_on channel) ≡ None → ⊥
some_end node channel is none = by ((port_on channel).0 == 0) refl none
  where
    zero : (n : ℕ) → (n / 16 == 0) ≡ true → (n % 16 == 0) ≡ true → (n == 0) ≡ true
    zero n port rest =
        let high : n / 16 ≡ 0 = grind (arith, nat_tests, port) in
        let low : n % 16 ≡ 0 = grind (arith, nat_tests, rest) in
        let all : n ≡ 0 = omega (arith, high, low) in
        grind (arith, nat_tests, all)

    both : (a b : Bool) → a ≡ true → b ≡ true → (a && b) ≡ true
    both true b e f = f
    both false b e f = absurd (cc e)

    by : (b : Bool) → ((port_on channel).0 == 0) ≡ b → ◌≡◌ {A = Option LinkEnd} (if b then None else Some (record { node = node; port = port_on channel })) None → ⊥
    by false t e = cc e
    by true t e =
        let vpi : (channel.vpi == 0) ≡ true = zero channel.vpi t (and_first (channel.vpi % 16 == 0) (channel.vci == 15) is.default) in
        let vci : (channel.vci == 15) ≡ true = and_second (channel.vpi % 16 == 0) (channel.vci == 15) is.default in
        cc (both (channel.vpi == 0) (channel.vci == 15) vpi vci, is.apart)

-- what stands there
whole_told : (mark : Mark) (payload : List ℕ) (item : Told) → IsToldAs mark payload item → IsWhole payload
whole_told mark payload item t = record {
  packet = ifmp_packet_of item.source (ifmp_octets item.message);
  unwraps = ap default_unwrapped t.filled ∙ unwrapped_again (ifmp_packet_of item.source (ifmp_octets item.message));
  whole = (is_heard mark payload item t).whole;
  told = λ is. record { message = item.message; read = (is_heard mark payload item t).message };
}

whole_sent : (payload packet : List ℕ) → IsFit packet → payload ≡ default_payload packet → IsWhole payload
whole_sent payload packet fit filled = record {
  packet = packet;
  unwraps = ap default_unwrapped filled ∙ unwrapped_again packet;
  whole = (is_forwarded packet fit).whole;
  told = λ is. absurd (cc (is, (is_forwarded packet fit).other));
}

-- a control frame of IFMP is one that was told
whole_control : (mark : Mark) (payload : List ℕ) (source : Addr) (message : IfmpMessage) → mark.packet ≡ 0 → payload ≡ payload_by source message → IsMadeAs mark payload → IsWhole payload
whole_control mark payload source message zero is (made_plain counted packet fit filled) = absurd (counted zero)
whole_control mark payload source message zero is (made_labelled counted flow packet fit carries) = absurd (counted zero)
whole_control mark payload source message zero is (made_told control_mark other item small range fits filled) =
    whole_told mark payload (record { source = other; message = item }) (record { control = control_mark; source = small; in_range = range; fits = fits; filled = filled })
whole_control mark payload source message zero is (made_said control_mark other fits of filled) = absurd (snaps_apart (ap (λ (octets : List ℕ). take 8 octets) (sym is ∙ filled)))

same_payload : (one other : List ℕ) → Some one ≡ Some other → one ≡ other
same_payload one other e = cc e

pub default_can : (past : Past) (to : Heading) (last : Bool) (mark : Mark) (payload : List ℕ) → (to.end ≡ None → ⊥) → same_channel to.channel default_channel ≡ true → last ≡ true → Means past to last mark
    → IsMadeAs mark payload → payload_of (frames_of past) mark ≡ Some payload → IsWhole payload
default_can past to last mark payload some default is (early d other n) as_made made = absurd (cc (is, other))
default_can past to last mark payload some default is (control d zero source message e) as_made made = whole_control mark payload source message zero (same_payload payload (payload_by source message) (sym made ∙ e)) as_made
default_can past to last mark payload some default is (local d none zero) as_made made = absurd (some none)
default_can past to last mark payload some default is (plain d e far led packet f come newest) as_made made = whole_sent payload packet come.fit (same_payload payload (default_payload packet) (sym made ∙ f))
default_can past to last mark payload some default is (labelled apart far led flow under other packet f carries come newest) as_made made = absurd (cc (default, apart))

-- *A label's channel*
pub label_can : (past : Past) (node : NodeId) (a : Acted) (channel : Channel) (last : Bool) (mark : Mark) (linked : Linked) (label : Label) (payload : List ℕ) → HasBoundLabels node past.records a → IsOfLabel a.controller channel linked label
    → Means past (heading_at past.topology (Up node) channel) last mark → payload_of (frames_of past) mark ≡ Some payload → IsOfFlow label payload
label_can past node a channel last mark linked label payload bound is (early same e n) made = absurd (cc (is.other, same))
label_can past node a channel last mark linked label payload bound is (control same e source message f) made = absurd (cc (is.other, same))
label_can past node a channel last mark linked label payload bound is (local same e f) made = absurd (cc (is.other, same))
label_can past node a channel last mark linked label payload bound is (plain same e far led packet f come newest) made = absurd (cc (is.other, same))
label_can past node a channel last mark linked label payload bound is (labelled apart far led flow under other packet framed carries come newest) made =
    let there : site node (port_on channel) ≡ far = own_is node (port_on channel) far led in
    let flows : Some label.flow ≡ Some flow = sym (flow_bound node past.records a channel linked label bound is) ∙ (λ i. last_bound past.records (there i) (number_of_channel (on_link channel))) ∙ under in
    let same_flow : flow ≡ label.flow = cc in
    let same : other ≡ payload = same_payload other payload (sym framed ∙ made) in
    let here : Carries label.flow packet payload = subst (λ (f : FlowId). Carries f packet payload) same_flow (subst (Carries flow packet) same carries) in
    record { packet = packet; unwraps = read_label label.flow payload packet here }
