-- cells, packets, ticks, restarts and changes of routes leave a controller quiet

use Rattle.std.proofs.Common.{◌≡◌, ◌≢◌, ℕ, zero, suc, ◌<◌, ◌≤◌, Bool, false, List, [], ◌∷◌, ◌++◌, length, drop, Option, None, Some, Result, Ok, Err, refl, sym, ◌∙◌, ap, subst, arith, fold, if◌then◌else◌}
use Rattle.std.proofs.lemmas.Bool.Decides.{nat_tests}
use Rattle.std.specs.Prelude.{◌==◌, ◌+◌, ◌*◌, ◌&&◌, nat_lt, nat_le, not, take, flat_map}
use Rattle.std.specs.Option.{option_and_then}
use Rattle.law_controller_facts.specs.world_model.Words.{End, Channel, PortNo, Mark, Party, label_number_of, label_channel_of, Cell, Answer, Quiet, Send, Open, Said, Step, is_estab, ticked, protocol_of, source_of, PacketFault, hop_of, onward, Hop, Here, On as Onward, kind_of, default_payload, labelled_payload, EncapsFault, default_unwrapped, unwrapped, Frame, Unbound, PoolFull, Record, Bad, Loss, Delivered, Dropped, Chance, is_frame, has_entry, Journal, noted, encaps_refusal, packet_refusal, ifmp_refusal, last_mark, payload_in, tested_by, next_mark, Reassembly, marks_of, broken, most_cells, passed_over, without_slot, too_long, Standing, sent_again, last_transaction, Setup, control_end, Label, is_bound, Grant, label_at, counts, used, hears, Linked, linked_at, default_channel, default_home, sends_control, sends_request, cuts_default_of, cuts_default, cuts_gsmp, node_resets, node_restarts, inputs_at, tries_joins, is_control, sends_next, goes_by, grant_by, forwards_packet, injected, control_protocol, ForGsmp, ForDefault, ForLabel, port_on, on_link, same_channel, label_taker, taker_at, taker_of, reassembly_of, with_reassembly, label_holds, ifmp_holds, counted_at, packet_holds, default_holds, frame_holds, takes_cell, sends_again, ticks_port, ticks_ports, ticks_by}
use Rattle.law_controller_facts.specs.world_model.adjacency_table.declared.message.Answer.TheVariants.{Reset}
use Rattle.law_controller_facts.specs.world_model.ipv4_packet.Packet.{first_fault}
use Rattle.law_controller_facts.specs.world_model.ipv4_forward.declared.outcome.Hop.TheVariants.{NoRoute, Expired}
use Rattle.law_controller_facts.specs.world_model.ifmp_wire.declared.message.Message.{Message}
use Rattle.law_controller_facts.specs.world_model.ifmp_wire.declared.reader.Fault.{Fault}
use Rattle.law_controller_facts.specs.world_model.ifmp_wire.Fields.{decoded as ifmp_decoded}
use Rattle.law_controller_facts.specs.world_model.gsmp_wire.Fields.{decoded as gsmp_decoded}
use Rattle.law_controller_facts.specs.world_model.link_model.declared.record.Cause.TheVariants as causes_of
use Rattle.law_controller_facts.specs.world_model.link_model.declared.record.Layer.TheVariants as layers
use Rattle.law_controller_facts.specs.world_model.link_model.declared.record.DropCause.TheVariants as drops
use Rattle.law_controller_facts.specs.world_model.frame_model.Frame.{octets_of, passed_test}
use Rattle.law_controller_facts.specs.world_model.frame_model.Reassembly.{Taken, taken, cell_joined}
use Rattle.law_controller_facts.specs.ordered_lists.Ordered.{Every}
use Rattle.law_controller_facts.specs.world_model.port_model.Ticks as port_ticks
use Rattle.law_controller_facts.specs.law_port_facts.Port.{IsShaped, Lives}
use Rattle.law_controller_facts.proofs.law_port_facts.Keyed.{on_both, on_each}
use Rattle.law_controller_facts.proofs.law_port_facts.Rules.{used_goes, counts_goes}
use Rattle.law_controller_facts.proofs.law_port_facts.Hearings.{hears_goes, ticks_goes}
use Rattle.law_controller_facts.specs.world_model.Controller.{Acted, free_slots, ports_of, note}
use Rattle.law_controller_facts.specs.world_model.Sending.{sends}
use Rattle.law_controller_facts.specs.world_model.Gsmp.{steps}
use Rattle.law_controller_facts.specs.world_model.Packets.{forwarded}
use Rattle.law_controller_facts.specs.world_model.Cells.{Taker, opened_frame, ends_frame, cell_comes}
use Rattle.law_controller_facts.specs.world_model.Ticks.{ticks}
use Rattle.law_controller_facts.proofs.Lifetimes.{decoded_lives}
use Rattle.law_controller_facts.proofs.Moves.{HasPorts, by_rule, Found, found_at_own, found_port, moves_ports}
use Rattle.law_controller_facts.proofs.Performing.{Any, any_ports, node_restarts_goes}
use Rattle.law_controller_facts.proofs.Events.{IsTaker, kept_ports}
use Rattle.law_actor_pace.proofs.Cells.{ended_last}
use Rattle.law_quiet_controllers.specs.Quiet.{May, AreRead, IsFine}
use Rattle.law_quiet_controllers.specs.Heard.{IsHeard, LeadsToLinks, CanCome}
use Rattle.law_quiet_controllers.proofs.Sending.{Holds, On, ports_of_quiet, same_on, packet_on, elsewhere_on}
use Rattle.law_quiet_controllers.proofs.Asking.{IsSilent, silent_self, silent_on, silent_fold, silent_still, cut_frames, quiet_fold, sends_request_on, node_resets_on, at_port_on}
use Rattle.law_quiet_controllers.proofs.Joining.{Fits, tries_joins_on}
use Rattle.law_quiet_controllers.proofs.Answers.{steps_on, gsmp_holds_on}

-- *No frame is made* while cells are gathered and tested
pub broken_frames : (marks : List Mark) (notes : Journal) → (broken notes marks).frames ≡ notes.frames
broken_frames [] notes = refl
broken_frames (mark ∷ marks) notes = broken_frames marks (if has_entry notes.entries mark then notes else noted notes (Loss mark causes_of.Broken))
    ∙ on_both (λ (n : Journal). n.frames ≡ notes.frames) (has_entry notes.entries mark) notes (noted notes (Loss mark causes_of.Broken)) refl refl

abbrev SameFrames : Journal → Taken → Type 0
SameFrames notes t = t.notes.frames ≡ notes.frames

pub taken_frames : (notes : Journal) (slot : Bool) (r : Reassembly) (cell : Cell) → (taken notes slot r cell).notes.frames ≡ notes.frames
taken_frames notes slot r cell = on_both (SameFrames notes) r.is_skipping (passed_over notes r cell) _ (broken_frames (cell.mark ∷ []) notes)
    (on_both (SameFrames notes) (not slot) (without_slot notes r cell) _ (broken_frames (marks_of r.chain) (noted notes (Loss cell.mark PoolFull)))
    (on_both (SameFrames notes) (nat_le most_cells (length r.chain)) (too_long notes r cell) (cell_joined notes r cell) (broken_frames (marks_of (r.chain ++ cell ∷ [])) notes)
    (on_both (SameFrames notes) cell.header.last (record { reassembly = record r { chain = [] }; notes = notes; ended = r.chain ++ cell ∷ [] }) (record { reassembly = record r { chain = r.chain ++ cell ∷ [] }; notes = notes; ended = [] }) refl refl)))

pub passed_frames : (notes : Journal) (mark : Mark) (payload : List ℕ) → (passed_test notes mark payload).frames ≡ notes.frames
passed_frames notes mark payload = on_both (λ (n : Journal). n.frames ≡ notes.frames) (is_frame notes.frames mark payload) notes (noted notes (Chance mark)) refl refl

default_silent : (a : Acted) (o : Option Linked) → IsSilent a (cuts_default_of a o)
default_silent a None = silent_self a
default_silent a (Some linked) = record { desk = refl; queue = refl; frames = cut_frames a.notes linked.reassembly; controls = refl }

every_take : {A : Type 0} (P : A → Type 0) (n : ℕ) (xs : List A) → Every P xs → Every P (take n xs)
every_take P zero xs all = tt
every_take P (suc n) [] all = tt
every_take P (suc n) (x ∷ xs) all = (all.0, every_take P n xs all.1)

every_two : {A : Type 0} (P Q R : A → Type 0) → ((x : A) → P x → Q x → R x) → (xs : List A) → Every P xs → Every Q xs → Every R xs
every_two P Q R each [] p q = tt
every_two P Q R each (x ∷ xs) p q = (each x p.0 q.0, every_two P Q R each xs p.1 q.1)

module _ (setups : List Setup) (Allowed : End → End → Type 0) (controls : ℕ) (frames : List Frame) (queue : List Cell) (blank : AreRead setups []) where
  abbrev Still : Acted → Type 0
  Still a = Holds setups Allowed controls frames queue a

  abbrev Goes : Acted → Acted → Type 0
  Goes a b = On setups Allowed controls frames queue a b

  ports_in : (a : Acted) → Still a → HasPorts setups a
  ports_in = ports_of_quiet setups Allowed controls frames queue

  note_on : (a : Acted) (item : Record) → Goes a (note a item)
  note_on a item h = same_on setups Allowed controls frames queue a (note a item) refl refl refl refl (record { ports = h.ports; shaped = h.shaped }) h

  -- *Packets*, which go on in frames of their own
  next_on : (a : Acted) (came : Mark) (channel : Channel) (payload : List ℕ) → (is_control came ≡ false → came.packet ≢ 0) → same_channel channel default_channel ≡ false → Goes a (sends_next a came channel payload)
  next_on a came channel payload other away h = on_each Still (is_control came) (sends_control a channel payload) (sends a channel (next_mark came) payload)
      (λ t. elsewhere_on setups Allowed controls frames queue a channel payload away h) (λ plain. packet_on setups Allowed controls frames queue a channel (next_mark came) payload (other plain) h)

  -- the channels of a port's link on the control link aren't GSMP's
  far_vpi : (n m : ℕ) → 1 ≤ n → (16 * n + m == 0) ≡ false
  far_vpi n m some = grind (arith, nat_tests)

  far_from : (c : Channel) → (c.vpi == 0) ≡ false → same_channel c default_channel ≡ false
  far_from c e = ap (λ (b : Bool). b && (c.vci == 15)) e

  goes_on : (a : Acted) (came : Mark) (port : PortNo) (packet : List ℕ) (o : Option Grant) → 1 ≤ port.0 → (is_control came ≡ false → came.packet ≢ 0) → Goes a (goes_by a came port packet o)
  goes_on a came port packet None some other h = next_on a came (default_home port).channel (default_payload packet) other (far_from (default_home port).channel (far_vpi port.0 0 some)) h
  goes_on a came port packet (Some grant) some other h = next_on a came (control_end port grant.label).channel (labelled_payload (kind_of grant.flow) packet) other
      (far_from (control_end port grant.label).channel (far_vpi port.0 (label_channel_of grant.label).vpi some)) h

  forwarded_on : (a : Acted) (came : Mark) (packet : List ℕ) (hop : Hop) → ((port : PortNo) → hop ≡ Onward port → 1 ≤ port.0) → (is_control came ≡ false → came.packet ≢ 0) → Goes a (forwarded a came packet hop)
  forwarded_on a came packet Here some other h = note_on a (Delivered a.controller.node came.packet packet) h
  forwarded_on a came packet NoRoute some other h = note_on a (Dropped a.controller.node came.packet drops.NoRoute) h
  forwarded_on a came packet Expired some other h = note_on a (Dropped a.controller.node came.packet drops.Expired) h
  forwarded_on a came packet (Onward port) some other h = goes_on a came port (onward packet) (grant_by a.controller port (onward packet)) (some port refl) other h

  routes_on : (a : Acted) (came : Mark) (packet : List ℕ) → LeadsToLinks a.controller → (is_control came ≡ false → came.packet ≢ 0) → Goes a (forwards_packet a came packet)
  routes_on a came packet links other h = forwarded_on a came packet (hop_of a.controller.table packet) (links packet) other h

  pub injected_on : (a : Acted) (number : ℕ) (packet : List ℕ) → LeadsToLinks a.controller → number ≢ 0 → Goes a (injected a number packet)
  injected_on a number packet links other h = routes_on a (record { packet = number; frame = 0 }) packet links (λ t. other) h

  -- *Frames*
  label_on : (a : Acted) (linked : Linked) (label : Label) (mark : Mark) (r : Result (List ℕ) EncapsFault) → LeadsToLinks a.controller → (is_control mark ≡ false → mark.packet ≢ 0) → Goes a (label_holds a linked label mark r)
  label_on a linked label mark (Err fault) links other h = note_on a (Bad a.controller.node layers.Encaps (encaps_refusal fault)) h
  label_on a linked label mark (Ok packet) links other h = at_port_on setups Allowed controls frames queue (forwards_packet a mark packet) linked.setup.port (λ setup desk w. used w label.number)
      (λ k found there. by_rule _ (used_goes found.setup (forwards_packet a mark packet).controller.desk _ label.number)) (routes_on a mark packet links other h)

  ifmp_on : (a : Acted) (port : PortNo) (packet : List ℕ) (r : Result Message Fault) → ((message : Message) → r ≡ Ok message → Lives message) → Goes a (ifmp_holds a port packet r)
  ifmp_on a port packet (Err fault) lives h = note_on a (Bad a.controller.node layers.Ifmp (ifmp_refusal fault)) h
  ifmp_on a port packet (Ok message) lives h = at_port_on setups Allowed controls frames queue a port (λ setup desk w. hears setup desk w (source_of packet) message)
      (λ k linked found. by_rule _ (hears_goes linked.setup a.controller.desk _ (source_of packet) message refl (lives message refl))) h

  counted_on : (a : Acted) (port : PortNo) (packet : List ℕ) → Goes a (counted_at a port packet)
  counted_on a port packet h = at_port_on setups Allowed controls frames queue a port (λ setup desk w. counts setup desk w packet)
      (λ k linked found. by_rule _ (counts_goes linked.setup a.controller.desk _ packet (found_port setups a linked port (ports_in a k) found).ascend)) h

  packet_holds_on : (a : Acted) (port : PortNo) (mark : Mark) (packet : List ℕ) (o : Option PacketFault) → LeadsToLinks a.controller → (is_control mark ≡ false → mark.packet ≢ 0) → Goes a (packet_holds a port mark packet o)
  packet_holds_on a port mark packet (Some fault) links other h = note_on a (Bad a.controller.node layers.Packet (packet_refusal fault)) h
  packet_holds_on a port mark packet None links other h = on_both Still (protocol_of packet == control_protocol) (ifmp_holds a port packet (ifmp_decoded (drop 20 packet))) (counted_at (forwards_packet a mark packet) port packet)
      (ifmp_on a port packet (ifmp_decoded (drop 20 packet)) (decoded_lives (drop 20 packet)) h)
      (counted_on (forwards_packet a mark packet) port packet (routes_on a mark packet links other h))

  default_on : (a : Acted) (port : PortNo) (mark : Mark) (r : Result (List ℕ) EncapsFault) → LeadsToLinks a.controller → (is_control mark ≡ false → mark.packet ≢ 0) → Goes a (default_holds a port mark r)
  default_on a port mark (Err fault) links other h = note_on a (Bad a.controller.node layers.Encaps (encaps_refusal fault)) h
  default_on a port mark (Ok packet) links other h = packet_holds_on a port mark packet (first_fault packet) links other h

  frame_on : (a : Acted) (taker : Taker) (mark : Mark) (payload : List ℕ) → LeadsToLinks a.controller → IsHeard setups mark taker payload → Goes a (frame_holds a taker mark payload)
  frame_on a ForGsmp mark payload links heard h = gsmp_holds_on setups Allowed controls frames queue blank a (gsmp_decoded payload) heard h
  frame_on a (ForDefault linked) mark payload links heard h = default_on a linked.setup.port mark (default_unwrapped payload) links heard h
  frame_on a (ForLabel linked label) mark payload links heard h = label_on a linked label mark (unwrapped label.flow payload) links heard h

  -- *What a chain that ended passes as*
  notes_on : (a : Acted) (notes : Journal) → notes.frames ≡ a.notes.frames → Goes a (record a { notes = notes })
  notes_on a notes same h = same_on setups Allowed controls frames queue a (record a { notes = notes }) refl refl same refl (record { ports = h.ports; shaped = h.shaped }) h

  abbrev Ends : Acted → Taker → List Cell → Option (List ℕ) → Mark → Type 0
  Ends a taker cells o mark = Still (opened_frame (record a { notes = (tested_by a.notes cells o).notes }) taker mark (tested_by a.notes cells o).payload)

  tested_on : (a : Acted) (taker : Taker) (first : Cell) (cells : List Cell) (mark : Mark) → last_mark (first ∷ cells) ≡ mark → LeadsToLinks a.controller
      → ((payload : List ℕ) → payload_in (octets_of (first ∷ cells)) ≡ Some payload → IsHeard setups mark taker payload) → Goes a (ends_frame a taker (first ∷ cells))
  tested_on a taker first cells mark is links heard h = by (payload_in (octets_of (first ∷ cells))) refl
    where
      by : (o : Option (List ℕ)) → payload_in (octets_of (first ∷ cells)) ≡ o → Ends a taker (first ∷ cells) o (last_mark (first ∷ cells))
      by None e = notes_on a (broken a.notes (marks_of (first ∷ cells))) (broken_frames (marks_of (first ∷ cells)) a.notes) h
      by (Some payload) e = subst (Ends a taker (first ∷ cells) (Some payload)) (sym is)
          (frame_on (record a { notes = passed_test a.notes (last_mark (first ∷ cells)) payload }) taker mark payload links (heard payload e)
          (notes_on a (passed_test a.notes (last_mark (first ∷ cells)) payload) (passed_frames a.notes (last_mark (first ∷ cells)) payload) h))

  gathered_same : (a : Acted) (notes : Journal) (taker : Taker) (r : Reassembly) → notes.frames ≡ a.notes.frames → IsSilent a (with_reassembly (record a { notes = notes }) taker r)
  gathered_same a notes ForGsmp r same = record { desk = refl; queue = refl; frames = same; controls = refl }
  gathered_same a notes (ForDefault linked) r same = record { desk = refl; queue = refl; frames = same; controls = refl }
  gathered_same a notes (ForLabel linked label) r same = record { desk = refl; queue = refl; frames = same; controls = refl }

  same_links : (a : Acted) (notes : Journal) (taker : Taker) (r : Reassembly) → LeadsToLinks a.controller → LeadsToLinks (with_reassembly (record a { notes = notes }) taker r).controller
  same_links a notes ForGsmp r links = links
  same_links a notes (ForDefault linked) r links = links
  same_links a notes (ForLabel linked label) r links = links

  -- *A cell*
  takes_on : (a : Acted) (cell : Cell) (taker : Taker) → taker_of a.controller cell.header.channel ≡ Some taker → IsTaker setups a taker → CanCome setups a cell → Goes a (takes_cell a cell (Some taker))
  takes_on a cell taker is own can h = by t.ended refl
    where
      t : Taken
      t = taken a.notes (nat_lt 0 (free_slots a.controller)) (reassembly_of a.controller taker) cell

      b : Acted
      b = with_reassembly (record a { notes = t.notes }) taker t.reassembly

      k : Still b
      k = silent_still setups Allowed controls frames queue a b (gathered_same a t.notes taker t.reassembly (taken_frames a.notes (nat_lt 0 (free_slots a.controller)) (reassembly_of a.controller taker) cell))
          (kept_ports setups a taker t own (ports_in a h)) h

      by : (ended : List Cell) → t.ended ≡ ended → Still (ends_frame b taker ended)
      by [] e = k
      by (first ∷ cells) e = tested_on b taker first cells cell.mark (ended_last a.notes (nat_lt 0 (free_slots a.controller)) (reassembly_of a.controller taker) cell first cells e) (same_links a t.notes taker t.reassembly can.by_links)
          (λ payload passes. can.heard taker first cells payload is e passes) k

  unbound_on : (a : Acted) (cell : Cell) → Goes a (takes_cell a cell None)
  unbound_on a cell h = note_on a (Loss cell.mark Unbound) h

  -- each taker is found at a port
  abbrev Takes : Acted → Cell → Option Taker → Type 0
  Takes a cell o = taker_of a.controller cell.header.channel ≡ o → CanCome setups a cell → Still a → Still (takes_cell a cell o)

  by_label : (a : Acted) (cell : Cell) (linked : Linked) → Found setups a linked → (o : Option Label) → Takes a cell (label_taker linked o)
  by_label a cell linked found None = λ is can h. unbound_on a cell h
  by_label a cell linked found (Some label) = on_both (Takes a cell) (is_bound label.state) (Some (ForLabel linked label)) None
      (λ is can h. takes_on a cell (ForLabel linked label) is found can h) (λ is can h. unbound_on a cell h)

  by_link : (a : Acted) (cell : Cell) (o : Option Linked) → linked_at a.controller (port_on cell.header.channel) ≡ o → Takes a cell (taker_at o (on_link cell.header.channel))
  by_link a cell None there = λ is can h. unbound_on a cell h
  by_link a cell (Some linked) there =
      let own : Found setups a linked = found_at_own setups a linked (port_on cell.header.channel) there in
      on_both (Takes a cell) (same_channel (on_link cell.header.channel) default_channel) (Some (ForDefault linked))
      (label_taker linked (option_and_then (label_at linked.port) (label_number_of (on_link cell.header.channel))))
      (λ is can h. takes_on a cell (ForDefault linked) is own can h) (by_label a cell linked own (option_and_then (label_at linked.port) (label_number_of (on_link cell.header.channel))))

  pub cell_comes_on : (a : Acted) (cell : Cell) → CanCome setups a cell → Goes a (cell_comes a cell)
  cell_comes_on a cell can h = taken_so refl can h
    where
      taken_so : Takes a cell (taker_of a.controller cell.header.channel)
      taken_so = on_both (Takes a cell) (same_channel cell.header.channel default_channel) (Some ForGsmp) (taker_at (linked_at a.controller (port_on cell.header.channel)) (on_link cell.header.channel))
          (λ is can h. takes_on a cell ForGsmp is tt can h) (by_link a cell (linked_at a.controller (port_on cell.header.channel)) refl)

  -- *A tick*
  record IsAgain (s : Standing) : Type 0 where
    below : s.number < last_transaction
    shaped : IsShaped setups s.request
    may : May Allowed s.request

  less_then : (m n most : ℕ) → m < n → n ≤ most → m < most
  less_then m n most less le = omega (arith, less, le)

  again_on : (a : Acted) → Goes a (sends_again a)
  again_on a h = on_both Still (is_estab a.controller.adjacency.state) (fold sends_request a (sent_again a.controller.desk)) a
      (quiet_fold setups Allowed controls frames queue IsAgain sends_request (λ b s again. sends_request_on setups Allowed controls frames queue b s again.below again.shaped again.may) (sent_again a.controller.desk)
      (every_take IsAgain 32 a.controller.desk.standing (every_two (IsFine Allowed a.controller.desk.next) (λ (s : Standing). IsShaped setups s.request) IsAgain
      (λ s fine shaped. record { below = less_then s.number a.controller.desk.next last_transaction fine.below h.room; shaped = shaped; may = fine.may }) a.controller.desk.standing h.fine h.shaped)) a h) h

  ports_on : (a : Acted) → Goes a (ticks_ports a)
  ports_on a h = quiet_fold setups Allowed controls frames queue (Any setups) ticks_port (λ b port any. at_port_on setups Allowed controls frames queue b port port_ticks.ticks
      (λ k linked found. by_rule _ (ticks_goes linked.setup b.controller.desk _ refl))) (ports_of a.controller) (any_ports setups (ports_of a.controller)) a h

  -- as it is when joins are tried
  pub before_on : (a : Acted) (step : Step Party) → Goes a (ticks_ports (sends_again (steps a step)))
  before_on a step h = ports_on (sends_again (steps a step)) (again_on (steps a step) (steps_on setups Allowed controls frames queue blank a step h))

  then_on : (a : Acted) (step : Step Party) → (let b : Acted = ticks_ports (sends_again (steps a step)) in Fits setups Allowed controls frames queue b (flat_map inputs_at b.controller.ports)) → Goes a (tries_joins (ticks_ports (sends_again (steps a step))))
  then_on a step fits h = tries_joins_on setups Allowed controls frames queue (ticks_ports (sends_again (steps a step))) fits (before_on a step h)

  by_answer : (a : Acted) (step : Step Party) (answer : Answer (Said Party) Party) → ((answer ≡ Reset → ⊥) → (let b : Acted = ticks_ports (sends_again (steps a step)) in Fits setups Allowed controls frames queue b (flat_map inputs_at b.controller.ports))) → Goes a (ticks_by a step answer)
  by_answer a step Quiet fits h = then_on a step (fits (λ e. cc e)) h
  by_answer a step (Send message) fits h = then_on a step (fits (λ e. cc e)) h
  by_answer a step (Open message own) fits h = then_on a step (fits (λ e. cc e)) h
  by_answer a step Reset fits h = node_resets_on setups Allowed controls frames queue a h

  pub ticks_on : (a : Acted) → (((ticked a.controller.adjacency).answer ≡ Reset → ⊥) → (let b : Acted = ticks_ports (sends_again (steps a (ticked a.controller.adjacency))) in Fits setups Allowed controls frames queue b (flat_map inputs_at b.controller.ports))) → Goes a (ticks a)
  ticks_on a fits h = by_answer a (ticked a.controller.adjacency) (ticked a.controller.adjacency).answer fits h

  -- *A restart*
  pub restarts_on : (a : Acted) → Goes a (node_restarts a)
  restarts_on a h =
      let b : Acted = node_resets a in
      silent_still setups Allowed controls frames queue b (node_restarts a)
      (silent_on b (cuts_gsmp b) (node_restarts a) (record { desk = refl; queue = refl; frames = cut_frames b.notes b.controller.reassembly; controls = refl })
      (silent_fold cuts_default (λ c port. default_silent c (linked_at c.controller port)) (ports_of a.controller) (cuts_gsmp b)))
      (moves_ports setups (node_restarts_goes setups a (ports_in a h)) (ports_in a h)) (node_resets_on setups Allowed controls frames queue a h)
