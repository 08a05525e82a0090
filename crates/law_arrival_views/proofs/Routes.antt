-- a packet is sent on, under a grant's label or on a default channel: a frame that the line follows at the label's own
-- upstream end, and else one that shows nothing

use Rattle.std.proofs.Common.{◌≡◌, ◌≢◌, ℕ, zero, suc, ◌≤◌, ◌+◌, ◌-◌, drop, Result, Bool, true, false, List, [], ◌∷◌, ◌++◌, Option, None, Some, refl, sym, ◌∙◌, ap, subst, arith, length, replicate, append_assoc, append-nil, if◌then◌else◌}
use Rattle.std.specs.Prelude.{◌==◌, ◌&&◌, find, nat_eq}
use Rattle.std.specs.Option.{option_or, option_map, option_map_or, option_and_then}
use Rattle.std.proofs.lemmas.Bool.Decides.{nat_tests}
use Rattle.law_controller_views.specs.world_model.Words.{PortNo, Mark, Channel, GivenOut, next_control, with_control, label_channel_of, is_label_number, protocol_of, source_of, ttl_of, EncapsFault, onward, hop_of, Hop, Here, On, FlowId, kind_of, flow_of, same_flow, default_payload, labelled_payload, Frame, Delivered, Dropped, Loss, PoolFull, payload_of, noted, Cell, frame_cells, made, next_mark, at, control_end, Grant, GrantState, ByController, grant_label, grant_for, grant_of_kind, grant_matching, is_by_controller, Linked, linked_at, default_channel, default_home, same_channel, sends_control, is_control, sends_next, goes_by, goes_on, forwards_packet, control_protocol}
use Rattle.law_controller_views.proofs.world_model.ipv4_packet.RouteLemmas.{protocol_of-rerouted}
use Rattle.law_controller_views.specs.world_model.ifmp_wire.declared.message.Message.{Message}
use Rattle.law_controller_views.specs.world_model.ifmp_wire.Fields.{decoded as ifmp_decoded}
use Rattle.law_wire.proofs.Packets.{unwrapped_again}
use Rattle.law_controller_views.specs.world_model.Ways.{ok_of}
use Rattle.law_arrival_views.specs.Packets.{IsFree, of_control, of_packet, IsPlain, HasLabelGrants}
use Rattle.law_controller_views.specs.world_model.ipv4_forward.declared.outcome.Hop.TheVariants.{NoRoute, Expired}
use Rattle.law_controller_views.specs.world_model.ipv4_packet.declared.flow.FlowKind.TheVariants.{One, Two}
use Rattle.law_controller_views.specs.world_model.link_model.declared.record.DropCause.TheVariants.{NoRoute as NoRouteCause, Expired as ExpiredCause}
use Rattle.law_controller_views.specs.ordered_lists.Ordered.{Every}
use Rattle.law_controller_views.proofs.law_port_facts.Keyed.{by_eq, on_both}
use Rattle.law_controller_views.proofs.law_port_facts.Found.{find_passes, find_every}
use Rattle.law_controller_views.proofs.law_port_facts.Rules.{and_first}
use Rattle.law_controller_views.specs.law_label_line.Cells as lines
use Rattle.law_controller_views.specs.law_label_line.Cells.{Role, Downstream, Upstream}
use Rattle.law_controller_views.specs.law_label_line.Line as states
use Rattle.law_controller_views.specs.law_label_line.Line.{Line}
use Rattle.law_controller_views.specs.law_label_line.Moves.{SendLabelled, step, run}
use Rattle.law_controller_views.specs.law_label_line.Upstream.{sends_labelled}
use Rattle.law_controller_views.specs.world_model.Controller.{Acted}
use Rattle.law_controller_views.specs.world_model.Sending.{with_cells, sends}
use Rattle.law_controller_views.specs.world_model.Packets.{forwarded}
use Rattle.law_controller_views.specs.law_port_views.Link.{LinkLabel, other}
use Rattle.law_controller_views.specs.law_port_views.Flows.{flow_number}
use Rattle.law_controller_views.specs.law_port_views.Shown.{grant_in, granted, GrantShows, IsOfOther, Once}
use Rattle.law_controller_views.proofs.law_port_views.Reach.{run_join}
use Rattle.law_controller_views.specs.law_shown_cells.Seen.{Nothing, IsUnmade, Extends, nothing, word}
use Rattle.law_controller_views.specs.law_shown_cells.Label.{OnControl, ShowsCells, channel_at, seen, seen_payload, seen_packet, on_label, Told, told_in, told_of}
use Rattle.law_controller_views.proofs.law_shown_cells.Shows.{shows_join, shows_hidden}
use Rattle.law_controller_views.proofs.law_shown_cells.Made.{extends_made, unmade_next, unmade_packet, shows_more}
use Rattle.law_controller_views.proofs.law_shown_cells.Frames.{IsOf, IsCut, frame_is_cut, frame_quiet, frame_elsewhere, same_self, differ}
use Rattle.law_controller_views.specs.Ends.{End, EndGoes, EndLeads, Quietly}
use Rattle.law_controller_views.specs.Lifted.{IsProper}
use Rattle.law_controller_views.proofs.Parts.{quiet_leads}
use Rattle.law_controller_views.proofs.Sends.{with_sent, Resends, sent_cases, sent_quietly, sends_quietly, port_default, port_label, label_vpi, label_vci, resends_goes, nothing_sent}
use Rattle.law_controller_views.proofs.Works.{linked_is, port_is, quiet_note}
use Rattle.law_controller_views.proofs.law_controller_facts.Entering.{by_controller}

-- *A packet that is no message of IFMP*, and what is sent on of it
abbrev of_told : List ℕ → Message → Told
of_told octets message = record { source = source_of octets; message = message }

not_told : (packet : List ℕ) → (protocol_of packet == control_protocol) ≡ false → told_of (default_payload packet) ≡ None
not_told packet other =
    ap (λ (r : Result (List ℕ) EncapsFault). option_and_then told_in (ok_of r)) (unwrapped_again packet)
    ∙ ap (λ (b : Bool). option_map (λ (message : Message). of_told packet message) (if b then ok_of (ifmp_decoded (drop 20 packet)) else None)) other

onward_plain : (packet : List ℕ) → IsPlain packet → (protocol_of (onward packet) == control_protocol) ≡ false
onward_plain packet plain = ap (λ n. n == control_protocol) (protocol_of-rerouted packet (ttl_of packet - 1) plain.long) ∙ plain.protocol

-- *The grant under which a packet goes* is the one of its label
once_found : (label : ℕ) (test : Grant → Bool) (grants : List Grant) (grant : Grant) → Once label grants → find test grants ≡ Some grant → grant.label ≡ label
    → at grant_label label grants ≡ Some grant
once_found label test [] grant once found same = absurd (cc found)
once_found label test (z ∷ zs) grant once found same = on_test (test z) refl (λ later. once_found label test zs grant once.1 later same)
  where
    is_first : z ≡ grant → at grant_label label (z ∷ zs) ≡ Some grant
    is_first is =
        let test_is : nat_eq z.label label ≡ true = grind (arith, nat_tests, ap grant_label is, same) in
        ap (λ (b : Bool). if b then Some z else at grant_label label zs) test_is ∙ ap (λ (g : Grant). Some g) is

    on_test : (b : Bool) → test z ≡ b → (find test zs ≡ Some grant → at grant_label label zs ≡ Some grant) → at grant_label label (z ∷ zs) ≡ Some grant
    on_test true e later = is_first (cc (ap (λ (t : Bool). if t then Some z else find test zs) (sym e) ∙ found))
    on_test false e later =
        let behind : find test zs ≡ Some grant = ap (λ (t : Bool). if t then Some z else find test zs) (sym e) ∙ found in
        by_eq z.label label
        (λ is t. absurd (find_every (IsOfOther label) test zs grant (once.0 is) behind same))
        (λ n t. ap (λ (b : Bool). if b then Some z else at grant_label label zs) t ∙ later behind)

record IsSender (label : ℕ) (grants : List Grant) (grant : Grant) : Type 0 where
  found : at grant_label label grants ≡ Some grant
  state : grant.state ≡ ByController

sender_for : (label : ℕ) (grants : List Grant) (o : Option FlowId) (grant : Grant) → Once label grants → option_map_or (grant_for grants) o None ≡ Some grant → grant.label ≡ label
    → IsSender label grants grant
sender_for label grants None grant once found same = absurd (cc found)
sender_for label grants (Some flow) grant once found same = record {
  found = once_found label (λ g. is_by_controller g.state && same_flow g.flow flow) grants grant once found same;
  state = by_controller grant.state (and_first (is_by_controller grant.state) (same_flow grant.flow flow)
      (find_passes (λ g. is_by_controller g.state && same_flow g.flow flow) grants grant found));
}

sender_matching : (label : ℕ) (grants : List Grant) (packet : List ℕ) (grant : Grant) → Once label grants → grant_matching grants packet ≡ Some grant → grant.label ≡ label
    → IsSender label grants grant
sender_matching label grants packet grant once found same = by (grant_of_kind grants One packet) refl found
  where
    by : (o : Option Grant) → grant_of_kind grants One packet ≡ o → option_or o (grant_of_kind grants Two packet) ≡ Some grant → IsSender label grants grant
    by None e f = sender_for label grants (flow_of Two packet) grant once f same
    by (Some g) e f = sender_for label grants (flow_of One packet) grant once (e ∙ f) same

pub for_every : (P : Grant → Type 0) (grants : List Grant) (o : Option FlowId) (grant : Grant) → Every P grants → option_map_or (grant_for grants) o None ≡ Some grant → P grant
for_every P grants None grant each found = absurd (cc found)
for_every P grants (Some flow) grant each found = find_every P (λ g. is_by_controller g.state && same_flow g.flow flow) grants grant each found

pub matching_every : (P : Grant → Type 0) (grants : List Grant) (packet : List ℕ) (grant : Grant) → Every P grants → grant_matching grants packet ≡ Some grant → P grant
matching_every P grants packet grant each found = by (grant_of_kind grants One packet) refl found
  where
    by : (o : Option Grant) → grant_of_kind grants One packet ≡ o → option_or o (grant_of_kind grants Two packet) ≡ Some grant → P grant
    by None e f = for_every P grants (flow_of Two packet) grant each f
    by (Some g) e f = for_every P grants (flow_of One packet) grant each (e ∙ f)

-- *Cells under the label*
module _ (link : LinkLabel) (role : Role) where
  abbrev own_channel : Channel
  own_channel = channel_at (OnControl (link.port role)) (label_channel_of link.label)

  abbrev default_there : Channel
  default_there = channel_at (OnControl (link.port role)) default_channel

  own_seen : (frames : List Frame) (c : Cell) (mark : Mark) (last : Bool) → own_channel ≢ default_there → IsOf own_channel mark last c
      → seen (OnControl (link.port role)) role link frames c ≡ on_label role
  own_seen frames c mark last n is =
      ap (λ (b : Bool). if b then seen_payload role link c.header.last (payload_of frames c.mark) else (if same_channel c.header.channel own_channel then on_label role else Nothing))
      (ap (λ (z : Channel). same_channel z default_there) is.0 ∙ differ own_channel default_there n)
      ∙ ap (λ (b : Bool). if b then on_label role else Nothing) (ap (λ (z : Channel). same_channel z own_channel) is.0 ∙ same_self own_channel)

-- from the label's downstream end they are of another label, and show nothing
pub frame_of_other : (link : LinkLabel) (frames : List Frame) (mark : Mark) (payload : List ℕ) → own_channel link Downstream ≢ default_there link Downstream
    → ShowsCells (OnControl (link.port Downstream)) Downstream link frames (frame_cells (own_channel link Downstream) mark payload) []
frame_of_other link frames mark payload n =
    let cut : IsCut (own_channel link Downstream) mark (frame_cells (own_channel link Downstream) mark payload) = frame_is_cut (own_channel link Downstream) mark payload in
    subst (λ (z : List Cell). ShowsCells (OnControl (link.port Downstream)) Downstream link frames z []) (sym cut.whole)
    (shows_join (shows_hidden (IsOf (own_channel link Downstream) mark false) cut.front (λ c is. own_seen link Downstream frames c mark false n is) cut.early)
    (shows_hidden (IsOf (own_channel link Downstream) mark true) (cut.final ∷ []) (λ c is. own_seen link Downstream frames c mark true n is) (cut.last, tt)))

-- from the upstream end each is a word
all_words : (link : LinkLabel) (frames : List Frame) (mark : Mark) (last : Bool) (flow : ℕ) (cs : List Cell) → own_channel link Upstream ≢ default_there link Upstream
    → Every (IsOf (own_channel link Upstream) mark last) cs → ShowsCells (OnControl (link.port Upstream)) Upstream link frames cs (replicate (length cs) (lines.Labelled flow))
all_words link frames mark last flow [] n each = nothing
all_words link frames mark last flow (c ∷ cs) n each = word (own_seen link Upstream frames c mark last n each.0) (all_words link frames mark last flow cs n each.1)

pub frame_of_label : (link : LinkLabel) (frames : List Frame) (mark : Mark) (payload : List ℕ) (flow : ℕ) → own_channel link Upstream ≢ default_there link Upstream
    → (n : ℕ) × ShowsCells (OnControl (link.port Upstream)) Upstream link frames (frame_cells (own_channel link Upstream) mark payload) (replicate n (lines.Labelled flow) ++ lines.Labelled flow ∷ [])
frame_of_label link frames mark payload flow n =
    let cut : IsCut (own_channel link Upstream) mark (frame_cells (own_channel link Upstream) mark payload) = frame_is_cut (own_channel link Upstream) mark payload in (
      length cut.front,
      subst (λ (z : List Cell). ShowsCells (OnControl (link.port Upstream)) Upstream link frames z (replicate (length cut.front) (lines.Labelled flow) ++ lines.Labelled flow ∷ [])) (sym cut.whole)
          (shows_join (all_words link frames mark false flow cut.front n cut.early) (all_words link frames mark true flow (cut.final ∷ []) n (cut.last, tt))),
    )

-- *The line sends as many cells*
sent_once : (line : Line) (flow : ℕ) (xs : List lines.Cell) → line.grant ≡ states.ByController flow
    → step (with_sent Downstream xs line) SendLabelled ≡ with_sent Downstream (xs ++ lines.Labelled flow ∷ []) line
sent_once line flow xs e = ap (λ (g : states.Grant). sends_labelled (with_sent Downstream xs line) g) e

sends_many : (line : Line) (flow : ℕ) (n : ℕ) (xs : List lines.Cell) → line.grant ≡ states.ByController flow
    → run (with_sent Downstream xs line) (replicate n SendLabelled) ≡ with_sent Downstream (xs ++ replicate n (lines.Labelled flow)) line
sends_many line flow zero xs e = ap (λ (z : List lines.Cell). with_sent Downstream z line) (sym (append-nil xs))
sends_many line flow (suc n) xs e = ap (λ (z : Line). run z (replicate n SendLabelled)) (sent_once line flow xs e)
    ∙ (sends_many line flow n (xs ++ lines.Labelled flow ∷ []) e
    ∙ ap (λ (z : List lines.Cell). with_sent Downstream z line) (append_assoc xs (lines.Labelled flow ∷ []) (replicate n (lines.Labelled flow))))

pub sends_frame : (line : Line) (flow : ℕ) (n : ℕ) (xs : List lines.Cell) → line.grant ≡ states.ByController flow → line.to_downstream.to_switch ≡ xs
    → Resends Downstream line (xs ++ (replicate n (lines.Labelled flow) ++ lines.Labelled flow ∷ []))
sends_frame line flow n xs e sent = record {
  moves = replicate n SendLabelled ++ SendLabelled ∷ [];
  is = run_join line (replicate n SendLabelled) (SendLabelled ∷ [])
      ∙ (ap (λ (z : Line). run z (SendLabelled ∷ []))
      (ap (λ (z : List lines.Cell). run (record line { to_downstream = record (line.to_downstream) { to_switch = z } }) (replicate n SendLabelled)) sent
      ∙ sends_many line flow n xs e)
      ∙ (sent_once line flow (xs ++ replicate n (lines.Labelled flow)) e
      ∙ ap (λ (z : List lines.Cell). with_sent Downstream z line) (append_assoc xs (replicate n (lines.Labelled flow)) (lines.Labelled flow ∷ []))));
}

-- *Channels* of a port on the control link
label_apart : (link : LinkLabel) (role : Role) → IsProper link → own_channel link role ≢ default_there link role
label_apart link role proper e = label_vci (label_channel_of link.label) proper.label (ap (λ (c : Channel). c.vci) e)

other_label : (link : LinkLabel) (role : Role) (label : ℕ) → label ≢ link.label
    → channel_at (OnControl (link.port role)) (label_channel_of label) ≢ own_channel link role
other_label link role label n e = n (omega (arith, ap (λ (c : Channel). c.vpi) e, ap (λ (c : Channel). c.vci) e))

label_not_default : (link : LinkLabel) (role : Role) (label : ℕ) → is_label_number label ≡ true
    → channel_at (OnControl (link.port role)) (label_channel_of label) ≢ default_there link role
label_not_default link role label h e = label_vci (label_channel_of label) h (ap (λ (c : Channel). c.vci) e)

module _ (link : LinkLabel) (proper : IsProper link) (like : Type 0) (role : Role) where
  abbrev To : Acted → Acted → Type 0
  To a b = EndLeads link like role a [] b []

  -- *A frame that shows nothing*, of a control message or of a packet
  next_quietly : (a : Acted) (came : Mark) (channel : Channel) (payload : List ℕ) → IsFree a came
      → ((mark : Mark) (frames : List Frame) → payload_of frames mark ≡ Some payload
      → ShowsCells (OnControl (link.port role)) role link frames (frame_cells channel mark payload) [])
      → Quietly link role a (sends_next a came channel payload)
  next_quietly a came channel payload (of_control is) quiet = subst (λ (b : Bool). Quietly link role a (if b then sends_control a channel payload else sends a channel (next_mark came) payload)) (sym is)
      (sends_quietly link role a channel payload (λ frames e. quiet (next_control a.numbers) frames e))
  next_quietly a came channel payload (of_packet packet free) quiet = on_both (Quietly link role a) (is_control came) (sends_control a channel payload) (sends a channel (next_mark came) payload)
      (sends_quietly link role a channel payload (λ frames e. quiet (next_control a.numbers) frames e))
      (sent_quietly link role a a.numbers channel (next_mark came) payload (omega arith) (λ u. free)
      (λ u. unmade_packet a.numbers.controls came.packet (came.frame + 1) a.notes.frames payload packet u) (λ frames e. quiet (next_mark came) frames e))

  -- *On a default channel*
  plain_seen : (packet : List ℕ) (last : Bool) (o : Option (List ℕ)) → (protocol_of packet == control_protocol) ≡ false → o ≡ Some (default_payload packet) → seen_payload role link last o ≡ Nothing
  plain_seen packet last o plain e = ap (seen_payload role link last) e ∙ ap (seen_packet role link last) (not_told packet plain)

  default_shows : (port : PortNo) (packet : List ℕ) (mark : Mark) (frames : List Frame) → (protocol_of packet == control_protocol) ≡ false → payload_of frames mark ≡ Some (default_payload packet)
      → ShowsCells (OnControl (link.port role)) role link frames (frame_cells (default_home port).channel mark (default_payload packet)) []
  default_shows port packet mark frames plain e = by_eq port.0 (link.port role).0
      (λ same t. subst (λ (q : PortNo). ShowsCells (OnControl (link.port role)) role link frames (frame_cells (default_home q).channel mark (default_payload packet)) []) (sym (port_is port (link.port role) same))
      (frame_quiet (OnControl (link.port role)) role link frames mark (default_payload packet) (λ last. plain_seen packet last (payload_of frames mark) plain e)))
      (λ n t. frame_elsewhere (OnControl (link.port role)) role link frames (default_home port).channel mark (default_payload packet)
      (port_default link proper role port default_channel (λ same. n (ap (λ (q : PortNo). q.0) same)) (omega arith))
      (port_label link proper role port default_channel (λ same. n (ap (λ (q : PortNo). q.0) same)) (omega arith)))

  -- *Under a label* that isn't the line's, or from the end that hands it out
  elsewhere_shows : (port : PortNo) (label : ℕ) (payload : List ℕ) (mark : Mark) (frames : List Frame) → is_label_number label ≡ true → port ≢ link.port role
      → ShowsCells (OnControl (link.port role)) role link frames (frame_cells (control_end port label).channel mark payload) []
  elsewhere_shows port label payload mark frames h n = frame_elsewhere (OnControl (link.port role)) role link frames (control_end port label).channel mark payload
      (port_default link proper role port (label_channel_of label) n (label_vpi (label_channel_of label) h))
      (port_label link proper role port (label_channel_of label) n (label_vpi (label_channel_of label) h))

  other_shows : (label : ℕ) (payload : List ℕ) (mark : Mark) (frames : List Frame) → is_label_number label ≡ true → label ≢ link.label
      → ShowsCells (OnControl (link.port role)) role link frames (frame_cells (control_end (link.port role) label).channel mark payload) []
  other_shows label payload mark frames h n = frame_elsewhere (OnControl (link.port role)) role link frames (control_end (link.port role) label).channel mark payload
      (label_not_default link role label h) (other_label link role label n)

-- *Under the label* from its upstream end: a cell of the line for each cell, or none for want of slots
record IsMade (a : Acted) (numbers : GivenOut) (mark : Mark) (payload : List ℕ) : Type 0 where
  free : payload_of a.notes.frames mark ≡ None
  drawn : a.numbers.instances ≤ numbers.instances
  unmade : IsUnmade a.numbers.controls a.notes.frames → IsUnmade numbers.controls (a.notes.frames ++ record { mark = mark; payload = payload } ∷ [])

module _ (link : LinkLabel) (proper : IsProper link) (like : Type 0) where
  sender_shown : (a : Acted) (line : Line) (grant : Grant) (e : End link like Upstream a.notes.frames a.numbers.instances a.controller [] line)
      → IsSender link.label e.linked.port.grants grant → line.grant ≡ states.ByController (flow_number grant.flow)
  sender_shown a line grant e is = subst (λ (o : Option Grant). GrantShows line.upstream.state o line.grant) is.found e.shown.grant
      ∙ ap (λ (state : GrantState). grant_in (flow_number grant.flow) state) is.state

  labelled_goes : (a : Acted) (numbers : GivenOut) (mark : Mark) (payload : List ℕ) (flow : ℕ) (line : Line) → IsMade a numbers mark payload → line.grant ≡ states.ByController flow
      → End link like Upstream a.notes.frames a.numbers.instances a.controller [] line
      → EndGoes link like Upstream a (sends (record a { numbers = numbers }) (own_channel link Upstream) mark payload) [] line
  labelled_goes a numbers mark payload flow line is sends e =
      sent_cases (λ (b : Acted). EndGoes link like Upstream a b [] line) (record a { numbers = numbers }) (own_channel link Upstream) mark payload
      (resends_goes link like Upstream a (record a { controller = with_cells a.controller (frame_cells (own_channel link Upstream) mark payload); notes = made a.notes mark payload; numbers = numbers })
      [] [] line (e.queued ++ words) (record { extends = extended; instances = is.drawn; unmade = is.unmade }) refl refl (shows_join (shows_more (OnControl (link.port Upstream)) Upstream link extended e.queue) shown.1) tt
      (subst (λ (z : List lines.Cell). Resends Downstream line z) (sym (append-nil (e.queued ++ words))) (sends_frame line flow shown.0 e.queued sends sent)) e)
      (resends_goes link like Upstream a (record a { notes = noted (made a.notes mark payload) (Loss mark PoolFull); numbers = numbers })
      [] [] line e.queued (record { extends = extended; instances = is.drawn; unmade = is.unmade }) refl refl (shows_more (OnControl (link.port Upstream)) Upstream link extended e.queue) tt
      (nothing_sent link like Upstream line (e.queued ++ []) e.shown.sent) e)
    where
      frames : List Frame
      frames = a.notes.frames ++ record { mark = mark; payload = payload } ∷ []

      extended : Extends a.notes.frames frames
      extended = extends_made a.notes.frames mark payload is.free

      shown : (n : ℕ) × ShowsCells (OnControl (link.port Upstream)) Upstream link frames (frame_cells (own_channel link Upstream) mark payload) (replicate n (lines.Labelled flow) ++ lines.Labelled flow ∷ [])
      shown = frame_of_label link frames mark payload flow (label_apart link Upstream proper)

      words : List lines.Cell
      words = replicate shown.0 (lines.Labelled flow) ++ lines.Labelled flow ∷ []

      sent : line.to_downstream.to_switch ≡ e.queued
      sent = e.shown.sent ∙ append-nil e.queued

  -- its mark is a control one's, or the packet's next
  next_labelled : (a : Acted) (came : Mark) (payload : List ℕ) (flow : ℕ) (line : Line) → IsFree a came → IsUnmade a.numbers.controls a.notes.frames → line.grant ≡ states.ByController flow
      → End link like Upstream a.notes.frames a.numbers.instances a.controller [] line
      → EndGoes link like Upstream a (sends_next a came (own_channel link Upstream) payload) [] line
  next_labelled a came payload flow line free unmade granted e = by free
    where
      control : EndGoes link like Upstream a (sends_control a (own_channel link Upstream) payload) [] line
      control = labelled_goes a (with_control a.numbers) (next_control a.numbers) payload flow line
          (record { free = unmade (a.numbers.controls + 1) (omega arith); drawn = omega arith; unmade = λ u. unmade_next a.numbers.controls a.notes.frames payload u }) granted e

      by : IsFree a came → EndGoes link like Upstream a (sends_next a came (own_channel link Upstream) payload) [] line
      by (of_control is) = subst (λ (b : Bool). EndGoes link like Upstream a (if b then sends_control a (own_channel link Upstream) payload else sends a (own_channel link Upstream) (next_mark came) payload) [] line) (sym is) control
      by (of_packet packet none) = on_both (λ (b : Acted). EndGoes link like Upstream a b [] line) (is_control came) (sends_control a (own_channel link Upstream) payload)
          (sends a (own_channel link Upstream) (next_mark came) payload) control
          (labelled_goes a a.numbers (next_mark came) payload flow line
          (record { free = none; drawn = omega arith; unmade = λ u. unmade_packet a.numbers.controls came.packet (came.frame + 1) a.notes.frames payload packet u }) granted e)

module _ (link : LinkLabel) (proper : IsProper link) (like : Type 0) where
  -- *Under the label of the line*
  own_label_leads : (role : Role) (a : Acted) (came : Mark) (packet payload : List ℕ) (linked : Linked) (grant : Grant) → IsFree a came → linked_at a.controller (link.port role) ≡ Some linked
      → grant_matching linked.port.grants packet ≡ Some grant → grant.label ≡ link.label
      → EndLeads link like role a [] (sends_next a came (own_channel link role) payload) []
  own_label_leads Downstream a came packet payload linked grant free found matching same unmade line e =
      quiet_leads link like Downstream a (sends_next a came (own_channel link Downstream) payload) []
      (next_quietly link proper like Downstream a came (own_channel link Downstream) payload free (λ mark frames e. frame_of_other link frames mark payload (label_apart link Downstream proper))) unmade line e
  own_label_leads Upstream a came packet payload linked grant free found matching same unmade line e =
      let is : linked ≡ e.linked = linked_is linked e.linked (sym found ∙ e.found) in
      next_labelled link proper like a came payload (flow_number grant.flow) line free unmade
      (sender_shown link proper like a line grant e
      (sender_matching link.label e.linked.port.grants packet grant e.shown.once (subst (λ (z : Linked). grant_matching z.port.grants packet ≡ Some grant) is matching) same)) e

  goes_by_label : (role : Role) (a : Acted) (came : Mark) (port : PortNo) (packet : List ℕ) (linked : Linked) (grant : Grant) → IsFree a came → linked_at a.controller port ≡ Some linked
      → grant_matching linked.port.grants packet ≡ Some grant → is_label_number grant.label ≡ true
      → EndLeads link like role a [] (goes_by a came port packet (Some grant)) []
  goes_by_label role a came port packet linked grant free found matching numbered = by_eq port.0 (link.port role).0
      (λ same t.
      let is : port ≡ link.port role = port_is port (link.port role) same in
      subst (λ (q : PortNo). EndLeads link like role a [] (sends_next a came (control_end q grant.label).channel payload) []) (sym is)
      (by_eq grant.label link.label
      (λ own u. subst (λ (l : ℕ). EndLeads link like role a [] (sends_next a came (control_end (link.port role) l).channel payload) []) (sym own)
      (own_label_leads role a came packet payload linked grant free (subst (λ (q : PortNo). linked_at a.controller q ≡ Some linked) is found) matching own))
      (λ n u. quiet_leads link like role a (sends_next a came (control_end (link.port role) grant.label).channel payload) []
      (next_quietly link proper like role a came (control_end (link.port role) grant.label).channel payload free
      (λ mark frames e. other_shows link proper like role grant.label payload mark frames numbered n)))))
      (λ n t. quiet_leads link like role a (sends_next a came (control_end port grant.label).channel payload) []
      (next_quietly link proper like role a came (control_end port grant.label).channel payload free
      (λ mark frames e. elsewhere_shows link proper like role port grant.label payload mark frames numbered (λ same. n (ap (λ (q : PortNo). q.0) same)))))
    where
      payload : List ℕ
      payload = labelled_payload (kind_of grant.flow) packet

  goes_by_default : (role : Role) (a : Acted) (came : Mark) (port : PortNo) (packet : List ℕ) → IsFree a came → (protocol_of packet == control_protocol) ≡ false
      → EndLeads link like role a [] (goes_by a came port packet None) []
  goes_by_default role a came port packet free plain = quiet_leads link like role a (goes_by a came port packet None) []
      (next_quietly link proper like role a came (default_home port).channel (default_payload packet) free (λ mark frames e. default_shows link proper like role port packet mark frames plain e))

  goes_on_leads : (role : Role) (a : Acted) (came : Mark) (port : PortNo) (packet : List ℕ) → IsFree a came → HasLabelGrants a.controller → (protocol_of packet == control_protocol) ≡ false
      → EndLeads link like role a [] (goes_on a came port packet) []
  goes_on_leads role a came port packet free numbered plain = by (linked_at a.controller port) refl
    where
      by_grant : (linked : Linked) → linked_at a.controller port ≡ Some linked → (o : Option Grant) → grant_matching linked.port.grants packet ≡ o
          → EndLeads link like role a [] (goes_by a came port packet o) []
      by_grant linked found None e = goes_by_default role a came port packet free plain
      by_grant linked found (Some grant) e = goes_by_label role a came port packet linked grant free found e
          (matching_every (λ (g : Grant). is_label_number g.label ≡ true) linked.port.grants packet grant (numbered port linked found) e)

      by : (o : Option Linked) → linked_at a.controller port ≡ o → EndLeads link like role a [] (goes_by a came port packet (option_and_then (λ linked. grant_matching linked.port.grants packet) o)) []
      by None found = goes_by_default role a came port packet free plain
      by (Some linked) found = by_grant linked found (grant_matching linked.port.grants packet) refl

  -- *Forwarding*: a packet is delivered, dropped or sent on
  forwarded_leads : (role : Role) (a : Acted) (came : Mark) (packet : List ℕ) (hop : Hop) → IsFree a came → HasLabelGrants a.controller → IsPlain packet
      → EndLeads link like role a [] (forwarded a came packet hop) []
  forwarded_leads role a came packet Here free numbered plain = quiet_leads link like role a (forwarded a came packet Here) [] (quiet_note link proper like role a (Delivered a.controller.node came.packet packet))
  forwarded_leads role a came packet NoRoute free numbered plain = quiet_leads link like role a (forwarded a came packet NoRoute) [] (quiet_note link proper like role a (Dropped a.controller.node came.packet NoRouteCause))
  forwarded_leads role a came packet Expired free numbered plain = quiet_leads link like role a (forwarded a came packet Expired) [] (quiet_note link proper like role a (Dropped a.controller.node came.packet ExpiredCause))
  forwarded_leads role a came packet (On port) free numbered plain = goes_on_leads role a came port (onward packet) free numbered (onward_plain packet plain)

  pub routes_lead : (role : Role) (a : Acted) (came : Mark) (packet : List ℕ) → IsFree a came → HasLabelGrants a.controller → IsPlain packet
      → EndLeads link like role a [] (forwards_packet a came packet) []
  routes_lead role a came packet free numbered plain = forwarded_leads role a came packet (hop_of a.controller.table packet) free numbered plain
