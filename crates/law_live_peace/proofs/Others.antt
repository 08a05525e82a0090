-- what is for others has no answer of the port

use Rattle.std.proofs.Common.{◌≡◌, ℕ, zero, arith, ◌&&◌, Bool, true, false, List, [], ◌∷◌, ◌++◌, length, not, Option, None, Some, Result, refl, sym, ◌∙◌, ap, subst, inl, inr, if◌then◌else◌}
use Rattle.std.specs.Prelude.{◌==◌, Ok, Err, drop, nat_le, Contains}
use Rattle.std.specs.Option.{option_map_or, option_and_then}
use Rattle.world_model.specs.Words.{Policy, IsNode, past_of, PortNo, NodeId, Place, Down, Up, Out, Cell, Label, PacketFault, EncapsFault, protocol_of, control_protocol, default_unwrapped, default_home, same_channel, payload_of, payload_in, nothing_taken, with_reassembly, Linked, linked_at, port_key, ForGsmp, ForDefault, ForLabel, ifmp_of, Topology, World, Site, site_at, queue_at, CountsAsItsFrame, OfController, arrival, cell_for, has_slot, reassembly_at, taken_at, Journal, Reassembly}
use Rattle.world_model.specs.Ways.{ifmp_in, ok_of}
use Rattle.world_model.specs.Controller.{Acted}
use Rattle.world_model.specs.Cells.{Taker}
use Rattle.world_model.specs.Stretches.{Reassembler, ended_at, controller_arrival}
use Rattle.world_model.specs.frame_model.Frame.{octets_of}
use Rattle.world_model.specs.frame_model.Reassembly.{Taken, taken, most_cells, passed_over, without_slot, too_long, cell_joined}
use Rattle.world_model.specs.ipv4_packet.Packet.{first_fault}
use Rattle.world_model.specs.ifmp_wire.Fields.{decoded as ifmp_decoded}
use Rattle.world_model.specs.ifmp_wire.declared.message.Message.{Message}
use Rattle.world_model.specs.ifmp_wire.declared.reader.Fault.{Fault}
use Rattle.world_model.specs.network_model.declared.link.LinkEnd.{LinkEnd}
use Rattle.world_model.specs.network_model.declared.event.Event.{Event}
use Rattle.world_model.specs.network_model.declared.event.Event.TheVariants.{Carry}
use Rattle.world_model.proofs.Lists.{by_eq, at_put_same}
use Rattle.law_frame_readings.proofs.Packets.{is_forwarded}
use Rattle.law_run_facts.specs.law_world_views.Between.{IsWorld}
use Rattle.law_run_facts.specs.law_world_views.Kept.{Comes}
use Rattle.law_run_facts.specs.law_world_views.Marks.{heading_at, Means}
use Rattle.law_run_facts.specs.law_world_views.Shown.{acting as shown}
use Rattle.law_run_facts.proofs.Nodes.{runs_have_nodes}
use Rattle.law_run_facts.proofs.Steps.{runs_have_fronts}
use Rattle.law_run_facts.proofs.Takers.{default_of}
use Rattle.law_running_worlds.proofs.Labels.{of_label, label_read}
use Rattle.law_control_places.proofs.Chains.{chains_are_their_frames}
use Rattle.law_live_frames.proofs.Coming.{same_itself}
use Rattle.law_live_elsewhere.proofs.Elsewhere.{IsOf, taker_is_of}
use Rattle.law_live_hearing.specs.Law.{world_at, acting}
use Rattle.law_live_orders.specs.Messages.{HoldsNone}
use Rattle.law_live_others.specs.Law.{IsOnlyCounted, IsRefused, IsUnheardAs, IsUnheardPacket, IsUnheard, IsForOthers}
use Rattle.law_live_control_links.proofs.Heard.{Ended, ended_cell}
use Rattle.law_live_passed_by.specs.Law.{OnlyCounts, PassesBy, HoldNone, BringsNone, AreForOthers, IsForOthersAt}
use Rattle.law_live_passed_by.proofs.Frames.{IsNoMessage}
use Rattle.law_live_unsaid.specs.Law.{HoldsPacket, IsUnanswered}
use Rattle.law_live_unsaid.specs.Carries.{EndsFrame}
use Rattle.law_live_unsaid.proofs.Unanswered.{others_are_unanswered}
use Rattle.law_live_peace.specs.Law.{IsUnansweredAt}

one_linked : (x y : Linked) → Some x ≡ Some y → x ≡ y
one_linked x y e = cc

one_cell : (x y : Cell) → Some x ≡ Some y → x ≡ y
one_cell x y e = cc e

one_payload : (x y : List ℕ) → Some x ≡ Some y → x ≡ y
one_payload x y e = cc

both_true : (a b : Bool) → a ≡ true → b ≡ true → (a && b) ≡ true
both_true true true e f = refl
both_true true false e f = absurd (cc f)
both_true false b e f = absurd (cc e)

none_passes : (payload : List ℕ) → payload_in [] ≡ Some payload → ⊥
unfolding payload_in
none_passes payload e = absurd (cc e)

-- *A packet that is only counted* isn't heard
module _ (a : Acted) (q : Linked) (own : linked_at a.controller q.setup.port ≡ Some q) (payload : List ℕ) (none : ifmp_of payload ≡ None) (only : OnlyCounts a q payload) where
  abbrev b : Acted
  b = with_reassembly a (ForDefault q) nothing_taken

  abbrev q_now : Linked
  q_now = record q { reassembly = nothing_taken }

  found_now : linked_at b.controller q.setup.port ≡ Some q_now
  found_now = at_put_same port_key q_now a.controller.ports q own

  counted_still : (packet : List ℕ) → IsOnlyCounted a packet q → (linked : Linked) → linked_at b.controller q.setup.port ≡ Some linked → IsOnlyCounted b packet linked
  counted_still packet counted linked found = subst (IsOnlyCounted b packet) (one_linked q_now linked (sym found_now ∙ found))
      (record { asks_nothing = counted.asks_nothing; labels_in_order = counted.labels_in_order })

  is_refused : (read : Result Message Fault) → ok_of read ≡ None → IsRefused read
  is_refused (Err fault) e = tt
  is_refused (Ok message) e = absurd (cc e)

  unheard_as : (packet : List ℕ) → default_unwrapped payload ≡ Ok packet → first_fault packet ≡ None → IsUnheardAs b q.setup.port packet (protocol_of packet == control_protocol)
  unheard_as packet e whole = by_eq (protocol_of packet) control_protocol
      (λ same t. subst (IsUnheardAs b q.setup.port packet) (sym t) (is_refused (ifmp_decoded (drop 20 packet))
      (ap (λ (message : Bool). if message then ok_of (ifmp_decoded (drop 20 packet)) else None) (sym t)
      ∙ (ap (λ (read : Result (List ℕ) EncapsFault). option_and_then ifmp_in (ok_of read)) (sym e) ∙ none))))
      (λ differs t. subst (IsUnheardAs b q.setup.port packet) (sym t) (counted_still packet (only packet e whole differs)))

  unheard_packet : (packet : List ℕ) → default_unwrapped payload ≡ Ok packet → (fault : Option PacketFault) → first_fault packet ≡ fault → IsUnheardPacket b q.setup.port packet fault
  unheard_packet packet e (Some fault) is = tt
  unheard_packet packet e None is = unheard_as packet e is

  unheard : (read : Result (List ℕ) EncapsFault) → default_unwrapped payload ≡ read → IsUnheard b q.setup.port read
  unheard (Err fault) e = tt
  unheard (Ok packet) e = unheard_packet packet e (first_fault packet) refl

for_others : (port : PortNo) (a : Acted) (taker : Taker) (payload : List ℕ) → IsOf a.controller taker → PassesBy port a taker payload → IsNoMessage port taker payload
    → IsForOthers port (with_reassembly a taker nothing_taken) taker payload
for_others port a ForGsmp payload is passes none = passes.0
for_others port a (ForLabel q label) payload is passes none = tt
for_others port a (ForDefault q) payload is passes none = by_eq q.setup.port.0 port.0
    (λ same t. inr (unheard a q is payload (none same) (passes.1 same) (default_unwrapped payload) refl))
    (λ differs t. inl differs)

-- *A cell that ends no frame* leaves its chain open
ends_none : (notes : Journal) (slot : Bool) (r : Reassembly) (cell : Cell) → cell.header.last ≡ false → (taken notes slot r cell).ended ≡ []
ends_none notes slot r cell part = by r.is_skipping slot (nat_le most_cells (length r.chain))
  where
    by : (skips room long : Bool) → (if skips then passed_over notes r cell else (if not room then without_slot notes r cell else (if long then too_long notes r cell else cell_joined notes r cell))).ended ≡ []
    by true room long = refl
    by false false long = refl
    by false true true = refl
    by false true false = ap (λ (b : Bool). (if b then joined_last else joined_more).ended) part
      where
        joined_last : Taken
        joined_last = record { reassembly = record r { chain = [] }; notes = notes; ended = r.chain ++ cell ∷ [] }

        joined_more : Taken
        joined_more = record { reassembly = record r { chain = r.chain ++ cell ∷ [] }; notes = notes; ended = [] }

-- *What ends a frame* is its last cell, and the payload is what was made under that cell's mark
module _ (w : World) (end : LinkEnd) (site : Site) (found : site_at w end.node ≡ Some site) (cell : Cell) (cells : List Cell) (queue : queue_at w (Up end.node) ≡ cell ∷ cells)
    (taker : Taker) (payload : List ℕ) (ends : EndsFrame w end.node site cell taker payload) where
  abbrev of_channel : Reassembler
  of_channel = OfController end.node cell.header.channel

  comes : cell_for of_channel (arrival w (Carry (Up end.node))) ≡ Some cell
  comes = ap (λ (q : List Cell). cell_for of_channel (controller_arrival end.node q)) queue ∙ ap (λ (b : Bool). if b then Some cell else None) (same_itself of_channel)

  none_ends : cell.header.last ≡ false → (o : Option Reassembly) → option_map_or (λ (t : Taken). t.ended) (taken_at w of_channel o (Some cell)) [] ≡ []
  none_ends part None = refl
  none_ends part (Some r) = ends_none w.notes (has_slot w of_channel) r cell part

  is_last : cell.header.last ≡ true
  is_last = by cell.header.last refl
    where
      by : (b : Bool) → cell.header.last ≡ b → cell.header.last ≡ true
      by true e = e
      by false part = absurd (none_passes payload (subst (λ (cs : List Cell). payload_in (octets_of cs) ≡ Some payload)
          (ap (λ (o : Option Cell). option_map_or (λ (t : Taken). t.ended) (taken_at w of_channel (reassembly_at w of_channel) o) []) comes ∙ none_ends part (reassembly_at w of_channel)) ends.whole))

  made : CountsAsItsFrame w (Carry (Up end.node)) → payload_of w.notes.frames cell.mark ≡ Some payload
  made counts =
      let e : Ended (ended_at w (Carry (Up end.node)) of_channel) (cell_for of_channel (arrival w (Carry (Up end.node)))) =
      ended_cell w of_channel payload (reassembly_at w of_channel) (cell_for of_channel (arrival w (Carry (Up end.node)))) ends.whole in
      ap (payload_of w.notes.frames) (sym (e.last ∙ ap (λ (c : Cell). c.mark) (one_cell e.cell cell (sym e.is ∙ comes)))) ∙ counts of_channel payload ends.whole

  -- on the port's own default channel it is no message
  no_message : HoldNone w end (cell ∷ cells) → payload_of w.notes.frames cell.mark ≡ Some payload → (t : Taker) → taker ≡ t → IsNoMessage end.port t payload
  no_message holds is ForGsmp e = tt
  no_message holds is (ForLabel q label) e = tt
  no_message holds is (ForDefault q) e = λ same.
      let on : same_channel cell.header.channel (default_home end.port).channel ≡ true =
      subst (λ (n : ℕ). same_channel cell.header.channel (default_home (record { 0 = n })).channel ≡ true) same (default_of site.controller cell.header.channel q (ends.takes ∙ ap Some e)) in
      let none : HoldsNone w.notes.frames cell.mark = holds (both_true cell.header.last (same_channel cell.header.channel (default_home end.port).channel) is_last on) in
      ap ifmp_of (one_payload payload none.payload (sym is ∙ none.made)) ∙ none.no_message

  frame_unanswered : CountsAsItsFrame w (Carry (Up end.node)) → HoldNone w end (cell ∷ cells) → AreForOthers w end (cell ∷ cells)
      → ((q : Linked) (label : Label) → taker ≡ ForLabel q label → HoldsPacket label payload)
      → IsUnanswered end.port (with_reassembly (acting w site) taker nothing_taken) taker payload
  frame_unanswered counts holds others packets =
      let is : payload_of w.notes.frames cell.mark ≡ Some payload = made counts in
      others_are_unanswered end.port (with_reassembly (acting w site) taker nothing_taken) taker payload
      (for_others end.port (acting w site) taker payload (taker_is_of site.controller cell.header.channel taker ends.takes)
      ((others is_last site found).passes taker payload ends.takes is) (no_message holds is taker refl)) packets

-- *A frame of a label holds a packet* that may be sent on, where a carry ends one at the controller of an end
abbrev pub HoldPacketsAt : World → LinkEnd → Place → Type 0
HoldPacketsAt w end (Up node) = node.0 ≡ end.node.0 → (site : Site) (cell : Cell) (cells : List Cell) (taker : Taker) (payload : List ℕ)
    → site_at w end.node ≡ Some site → queue_at w (Up end.node) ≡ cell ∷ cells → EndsFrame w end.node site cell taker payload
    → (linked : Linked) (label : Label) → taker ≡ ForLabel linked label → HoldsPacket label payload
HoldPacketsAt w end place = Unit {0}

same_node : (a b : NodeId) → a.0 ≡ b.0 → b ≡ a
same_node a b e = λ i. record { 0 = sym e i }

pub others_unanswered : (w : World) (end : LinkEnd) (place : Place) → CountsAsItsFrame w (Carry place) → BringsNone w end place → IsForOthersAt w end place → HoldPacketsAt w end place
    → IsUnansweredAt w end place
others_unanswered w end (Down node) counts none others packets = tt
others_unanswered w end (Out node port) counts none others packets = tt
others_unanswered w end (Up node) counts none others packets = λ same site cell cells taker payload found queue ends.
    frame_unanswered w end site found cell cells queue taker payload ends (subst (λ (n : NodeId). CountsAsItsFrame w (Carry (Up n))) (sym (same_node node end.node same)) counts)
    (subst (HoldNone w end) queue (none same)) (subst (AreForOthers w end) queue (others same)) (packets same site cell cells taker payload found queue ends)

-- *So it is in a run*: a label's frame carries a packet of the flow that was bound last, which is that of the label
module _ (policy : Policy) (topology : Topology) (before : List Event) (place : Place) (comes : Comes policy topology before (Carry place))
    (world : IsWorld (past_of policy topology before)) (end : LinkEnd) (within : IsNode topology end.node) where
  abbrev now : World
  now = world_at policy topology before

  label_holds : (site : Site) (cell : Cell) (cells : List Cell) (taker : Taker) (payload : List ℕ) → CountsAsItsFrame now (Carry (Up end.node)) → site_at now end.node ≡ Some site
      → queue_at now (Up end.node) ≡ cell ∷ cells → EndsFrame now end.node site cell taker payload → (linked : Linked) (label : Label) → taker ≡ ForLabel linked label → HoldsPacket label payload
  label_holds site cell cells taker payload counts found queue ends linked label e packet ok =
      let means : Means (past_of policy topology before) (heading_at topology (Up end.node) cell.header.channel) cell.header.last cell.mark =
      world.meanings (Up end.node) cell within (subst (λ (q : List Cell). Contains q cell) (sym queue) (zero, omega arith, refl)) in
      is_forwarded packet (label_read (past_of policy topology before) end.node (shown now site) cell.header.channel cell.header.last cell.mark linked label payload
      (runs_have_nodes policy topology before comes.addresses (runs_have_fronts policy topology before (Carry place) comes).run end.node site found).conduct.bound
      (of_label site.controller cell.header.channel linked label (ends.takes ∙ ap Some e)) means (made now end site found cell cells queue taker payload ends counts) packet ok).1

  at_place : (p : Place) → CountsAsItsFrame now (Carry p) → HoldPacketsAt now end p
  at_place (Down node) counts = tt
  at_place (Out node port) counts = tt
  at_place (Up node) counts = λ same site cell cells taker payload found queue ends. label_holds site cell cells taker payload
      (subst (λ (n : NodeId). CountsAsItsFrame now (Carry (Up n))) (sym (same_node node end.node same)) counts) found queue ends

  pub labels_hold : HoldPacketsAt now end place
  labels_hold = at_place place (chains_are_their_frames policy topology before (Carry place) comes.tame)
