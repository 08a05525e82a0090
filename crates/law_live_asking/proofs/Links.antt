-- what a carry brings the end of a link in peace on its port's default channel

use Rattle.std.proofs.Common.{◌≡◌, ◌⊎◌, inl, inr, ℕ, ◌<◌, ◌^◌, ◌&&◌, Bool, true, false, not, List, [], ◌∷◌, ◌++◌, length, drop, Option, None, Some, Result, Ok, Err, refl, sym, ◌∙◌, ap, subst, if◌then◌else◌}
use Rattle.std.specs.Prelude.{◌==◌, nat_le, is_some}
use Rattle.std.specs.Option.{option_map_or, option_and_then}
use Rattle.world_model.specs.Words.{past_of, Mark, Frame, Addr, Up, Cell, PacketFault, EncapsFault, protocol_of, control_protocol, default_unwrapped, default_payload, ifmp_packet_of, default_home, same_channel, payload_of, payload_in, nothing_taken, with_reassembly, Linked, linked_at, port_key, ForDefault, ifmp_of, Topology, World, Site, site_at, queue_at, next, IsTopology, CountsAsItsFrame, OfController, arrival, cell_for, has_slot, reassembly_at, taken_at, Journal, Reassembly}
use Rattle.world_model.specs.Ways.{ifmp_in, ok_of}
use Rattle.world_model.specs.Controller.{Acted}
use Rattle.world_model.specs.Stretches.{ended_at, controller_arrival}
use Rattle.world_model.specs.Stretches as stretches
use Rattle.world_model.specs.frame_model.Frame.{octets_of}
use Rattle.world_model.specs.frame_model.Reassembly.{Taken, taken, most_cells, passed_over, without_slot, too_long, cell_joined}
use Rattle.world_model.specs.ipv4_packet.Packet.{first_fault}
use Rattle.world_model.specs.ifmp_wire.Fields.{decoded as ifmp_decoded}
use Rattle.world_model.specs.ifmp_wire.Message.{octets_of as ifmp_octets}
use Rattle.world_model.specs.ifmp_wire.declared.message.Message.{Message}
use Rattle.world_model.specs.ifmp_wire.declared.reader.Fault.{Fault}
use Rattle.world_model.specs.network_model.declared.link.LinkEnd.{LinkEnd}
use Rattle.world_model.specs.Topology.{peer_of}
use Rattle.law_live_lasting.proofs.law_control_places.Chains.{chains_are_their_frames}
use Rattle.law_live_lasting.specs.law_run_facts.Nodes.{IsNodeOfRun}
use Rattle.law_live_lasting.proofs.law_run_facts.Nodes.{runs_have_nodes}
use Rattle.law_live_lasting.proofs.law_run_facts.Steps.{runs_have_fronts}
use Rattle.law_live_lasting.specs.law_running_worlds.law_shown_cells.Seen.{Extends}
use Rattle.law_live_lasting.proofs.law_live_control_links.Runs.{runs_are_steady}
use Rattle.world_model.specs.network_model.declared.event.Event.TheVariants.{Carry}
use Rattle.law_live_lasting.specs.law_port_facts.ordered_lists.Ordered.{Every}
use Rattle.law_live_lasting.proofs.law_port_facts.Keyed.{by_eq, at_put_same}
use Rattle.law_live_lasting.proofs.law_run_facts.Takers.{default_of}
use Rattle.law_live_lasting.proofs.law_live_frames.Coming.{same_itself}
use Rattle.law_live_lasting.specs.law_live_links.Law.{AreAgreed}
use Rattle.law_live_lasting.proofs.law_live_links.Resting.{swapped}
use Rattle.law_live_lasting.specs.law_live_worlds.Law.{end_of, AgreeIn}
use Rattle.law_live_lasting.specs.law_live_hearing.Law.{world_at, acting}
use Rattle.law_live_lasting.specs.law_live_orders.Law.{is_last_on, coming}
use Rattle.law_live_lasting.specs.law_live_orders.Messages.{HoldsNone, StayMade, IsFirst, IsPassed}
use Rattle.law_live_lasting.proofs.law_live_orders.Coming.{first_messages_are_heard}
use Rattle.law_live_lasting.specs.law_live_others.Law.{IsOnlyCounted, IsRefused, IsUnheardAs, IsUnheardPacket, IsUnheard}
use Rattle.law_live_lasting.proofs.law_live_control_links.Heard.{Ended, ended_cell}
use Rattle.law_live_lasting.specs.law_live_passed_by.Law.{OnlyCounts, HoldNone, AreForOthers}
use Rattle.law_live_lasting.specs.law_live_going.Law.{IsWritten}
use Rattle.law_live_lasting.specs.law_live_unsaid.Carries.{EndsFrame}
use Rattle.law_live_asking.specs.Frames.{MayWork, plainly, MayCome}
use Rattle.law_live_asking.specs.Peace.{IsPeacefulEnd, PeacefulEndsMayHear, PeacefulNodesMayHear}
use Rattle.law_live_asking.proofs.Joins.{calm_nodes_may_hear}
use Rattle.law_live_asking.proofs.Still.{taker_there}
use Rattle.law_live_asking.proofs.Counting.{unheard_frames_work_plainly}
use Rattle.law_live_asking.proofs.Peace.{messages_in_peace_may_come}

one_linked : (x y : Linked) → Some x ≡ Some y → x ≡ y
one_linked x y e = cc e

one_site : (x y : Site) → Some x ≡ Some y → x ≡ y
one_site x y e = cc e

one_cell : (x y : Cell) → Some x ≡ Some y → x ≡ y
one_cell x y e = cc e

one_payload : (x y : List ℕ) → Some x ≡ Some y → x ≡ y
one_payload x y e = cc e

both_true : (a b : Bool) → a ≡ true → b ≡ true → (a && b) ≡ true
both_true true true e f = refl
both_true true false e f = absurd (cc f)
both_true false b e f = absurd (cc e)

none_passes : (payload : List ℕ) → payload_in [] ≡ Some payload → ⊥
unfolding payload_in
none_passes payload e = absurd (cc e)

-- *A packet that is only counted* isn't heard
module _ (a : Acted) (q : Linked) (own : linked_at a.controller q.setup.port ≡ Some q) (payload : List ℕ) where
  abbrev b : Acted
  b = with_reassembly a (ForDefault q) nothing_taken

  abbrev q_now : Linked
  q_now = record q { reassembly = nothing_taken }

  found_now : linked_at b.controller q.setup.port ≡ Some q_now
  found_now = at_put_same port_key q_now a.controller.ports q own

  module _ (none : ifmp_of payload ≡ None) (only : OnlyCounts a q payload) where
    counted_still : (packet : List ℕ) → IsOnlyCounted a packet q → (linked : Linked) → linked_at b.controller q.setup.port ≡ Some linked → IsOnlyCounted b packet linked
    counted_still packet counted linked found = subst (IsOnlyCounted b packet) (one_linked q_now linked (sym found_now ∙ found))
        (record { asks_nothing = counted.asks_nothing; labels_in_order = counted.labels_in_order })

    is_refused : (read : Result Message Fault) → ok_of read ≡ None → IsRefused read
    is_refused (Err fault) e = tt
    is_refused (Ok message) e = absurd (cc e)

    unheard_as : (packet : List ℕ) → default_unwrapped payload ≡ Ok packet → first_fault packet ≡ None → IsUnheardAs b q.setup.port packet (protocol_of packet == control_protocol)
    unheard_as packet e whole = by_eq (protocol_of packet) control_protocol
        (λ same t. subst (IsUnheardAs b q.setup.port packet) (sym t) (is_refused (ifmp_decoded (drop 20 packet))
        (ap (λ (message : Bool). if message then ok_of (ifmp_decoded (drop 20 packet)) else None) (sym t)
        ∙ (ap (λ (read : Result (List ℕ) EncapsFault). option_and_then ifmp_in (ok_of read)) (sym e) ∙ none))))
        (λ differs t. subst (IsUnheardAs b q.setup.port packet) (sym t) (counted_still packet (only packet e whole differs)))

    unheard_packet : (packet : List ℕ) → default_unwrapped payload ≡ Ok packet → (fault : Option PacketFault) → first_fault packet ≡ fault → IsUnheardPacket b q.setup.port packet fault
    unheard_packet packet e (Some fault) is = tt
    unheard_packet packet e None is = unheard_as packet e is

    unheard : (read : Result (List ℕ) EncapsFault) → default_unwrapped payload ≡ read → IsUnheard b q.setup.port read
    unheard (Err fault) e = tt
    unheard (Ok packet) e = unheard_packet packet e (first_fault packet) refl

    counted_may : MayWork b q_now payload
    counted_may = plainly (unheard_frames_work_plainly b q_now (default_unwrapped payload) found_now (unheard (default_unwrapped payload) refl))

-- *A cell that ends no frame* leaves its chain open
ends_none : (notes : Journal) (slot : Bool) (r : Reassembly) (cell : Cell) → cell.header.last ≡ false → (taken notes slot r cell).ended ≡ []
ends_none notes slot r cell part = by r.is_skipping slot (nat_le most_cells (length r.chain))
  where
    by : (skips room long : Bool) → (if skips then passed_over notes r cell else (if not room then without_slot notes r cell else (if long then too_long notes r cell else cell_joined notes r cell))).ended ≡ []
    by true room long = refl
    by false false long = refl
    by false true true = refl
    by false true false = ap (λ (t : Bool). (if t then joined_last else joined_more).ended) part
      where
        joined_last : Taken
        joined_last = record { reassembly = record r { chain = [] }; notes = notes; ended = r.chain ++ cell ∷ [] }

        joined_more : Taken
        joined_more = record { reassembly = record r { chain = r.chain ++ cell ∷ [] }; notes = notes; ended = [] }

-- *What ends a frame* is its last cell, and the payload is what was made under that cell's mark
module _ (w : World) (far : LinkEnd) (site : Site) (found : site_at w far.node ≡ Some site) (cell : Cell) (cells : List Cell) (queue : queue_at w (Up far.node) ≡ cell ∷ cells)
    (q : Linked) (payload : List ℕ) (ends : EndsFrame w far.node site cell (ForDefault q) payload) (same : q.setup.port.0 ≡ far.port.0) (counts : CountsAsItsFrame w (Carry (Up far.node))) where
  abbrev of_channel : stretches.Reassembler
  of_channel = OfController far.node cell.header.channel

  comes : cell_for of_channel (arrival w (Carry (Up far.node))) ≡ Some cell
  comes = ap (λ (x : List Cell). cell_for of_channel (controller_arrival far.node x)) queue ∙ ap (λ (b : Bool). if b then Some cell else None) (same_itself of_channel)

  none_ends : cell.header.last ≡ false → (o : Option Reassembly) → option_map_or (λ (t : Taken). t.ended) (taken_at w of_channel o (Some cell)) [] ≡ []
  none_ends part None = refl
  none_ends part (Some r) = ends_none w.notes (has_slot w of_channel) r cell part

  is_last : cell.header.last ≡ true
  is_last = by cell.header.last refl
    where
      by : (b : Bool) → cell.header.last ≡ b → cell.header.last ≡ true
      by true e = e
      by false part = absurd (none_passes payload (subst (λ (cs : List Cell). payload_in (octets_of cs) ≡ Some payload)
          (ap (λ (o : Option Cell). option_map_or (λ (t : Taken). t.ended) (taken_at w of_channel (reassembly_at w of_channel) o) []) comes ∙ none_ends part (reassembly_at w of_channel)) ends.whole))

  made : payload_of w.notes.frames cell.mark ≡ Some payload
  made = by (ended_cell w of_channel payload (reassembly_at w of_channel) (cell_for of_channel (arrival w (Carry (Up far.node)))) ends.whole)
    where
      by : Ended (ended_at w (Carry (Up far.node)) of_channel) (cell_for of_channel (arrival w (Carry (Up far.node)))) → payload_of w.notes.frames cell.mark ≡ Some payload
      by e = ap (payload_of w.notes.frames) (sym (e.last ∙ ap (λ (c : Cell). c.mark) (one_cell e.cell cell (sym e.is ∙ comes)))) ∙ counts of_channel payload ends.whole

  on : is_last_on (default_home far.port).channel cell ≡ true
  on = both_true cell.header.last (same_channel cell.header.channel (default_home far.port).channel) is_last
      (subst (λ (n : ℕ). same_channel cell.header.channel (default_home (record { 0 = n })).channel ≡ true) same (default_of site.controller cell.header.channel q ends.takes))

  abbrev a : Acted
  a = acting w site

  own : linked_at site.controller q.setup.port ≡ Some q
  own = taker_there site.controller cell.header.channel (ForDefault q) ends.takes

  -- *No message* is for others
  passed_may : HoldsNone w.notes.frames cell.mark → AreForOthers w far (cell ∷ cells) → MayWork (b a q own payload) (q_now a q own payload) payload
  passed_may none others = counted_may a q own payload (ap ifmp_of (one_payload payload none.payload (sym made ∙ none.made)) ∙ none.no_message)
      (((others is_last site found).passes (ForDefault q) payload ends.takes made).1 same)

  -- *A message* is the first that the other end said
  module _ (topology : Topology) (one : LinkEnd) where
    message_may : (message : Message) (rest far_said : List Message) (agree : AgreeIn w one far (message ∷ rest) far_said) → agree.shows.site.controller.address.0 < 2 ^ 32 → IsWritten message
        → payload_of w.notes.frames cell.mark ≡ Some (default_payload (ifmp_packet_of agree.shows.site.controller.address (ifmp_octets message))) → MayWork (b a q own payload) (q_now a q own payload) payload
    message_may message rest far_said agree low written says = subst (MayWork (b a q own payload) (q_now a q own payload))
        (one_payload (default_payload (ifmp_packet_of agree.linked.port.adjacency.own.address (ifmp_octets message))) payload
        (ap (λ (address : Addr). Some (default_payload (ifmp_packet_of address (ifmp_octets message)))) agree.shows.address ∙ (sym says ∙ made)))
        (messages_in_peace_may_come (b a q own payload) (q_now a q own payload) far_said rest (end_of agree.linked (message ∷ rest)) message (found_now a q own payload)
        (subst (λ (l : Linked). AreAgreed (end_of l far_said) (end_of agree.linked (message ∷ rest))) it (swapped agree.agreed)) refl
        (subst (λ (address : Addr). address.0 < 2 ^ 32) (sym agree.shows.address) low) written.range written.fits)
      where
        it : agree.far_linked ≡ q
        it = one_linked agree.far_linked q (sym agree.far_shows.of_port
            ∙ (ap (λ (s : Site). linked_at s.controller far.port) (one_site agree.far_shows.site site (sym agree.far_shows.there ∙ found))
            ∙ (ap (λ (n : ℕ). linked_at site.controller (record { 0 = n })) (sym same) ∙ own)))

    heard_may : (is : IsTopology topology) (p : IsPeacefulEnd topology w one far) → StayMade w.notes.frames (next topology w (Carry (Up far.node))).notes.frames (coming w one far)
        → MayWork (b a q own payload) (q_now a q own payload) payload
    heard_may is p stay = by (first_messages_are_heard topology w one far cell cells p.agree.shows.site.controller.address p.said is p.is_open queue on p.there stay)
      where
        by : IsFirst p.agree.shows.site.controller.address w (next topology w (Carry (Up far.node))) one far cell.mark p.said
            ⊎ IsPassed p.agree.shows.site.controller.address w (next topology w (Carry (Up far.node))) one far cell.mark p.said → MayWork (b a q own payload) (q_now a q own payload) payload
        by (inr passed) = passed_may passed.holds_none (subst (AreForOthers w far) queue (p.others (λ t. subst (HoldNone w far) (sym queue) (λ again. passed.holds_none)) refl))
        by (inl it) = subst (λ (ms : List Message). (agree : AgreeIn w one far ms p.far_said) → agree.shows.site.controller.address ≡ p.agree.shows.site.controller.address → MayWork (b a q own payload) (q_now a q own payload) payload) (sym it.are)
            (λ agree goes. message_may it.message it.rest p.far_said agree (subst (λ (address : Addr). address.0 < 2 ^ 32) (sym goes) p.low) (subst (Every IsWritten) it.are p.written).0
            (it.says ∙ ap (λ (address : Addr). Some (default_payload (ifmp_packet_of address (ifmp_octets it.message)))) (sym goes)))
            p.agree refl

    may : (is : IsTopology topology) (p : IsPeacefulEnd topology w one far) → StayMade w.notes.frames (next topology w (Carry (Up far.node))).notes.frames (coming w one far)
        → MayCome (with_reassembly (acting w site) (ForDefault q) nothing_taken) (ForDefault q) payload
    may is p stay = λ linked there. subst (λ (l : Linked). MayWork (b a q own payload) l payload) (one_linked (q_now a q own payload) linked (sym (found_now a q own payload) ∙ there)) (heard_may is p stay)

pub peaceful_ends_may_hear : PeacefulEndsMayHear
peaceful_ends_may_hear topology w one far is p counts stay site cell cells q payload found queue ends same = may w far site found cell cells queue q payload ends same counts topology one is p stay

-- *A node of a run*, each of whose ports is the end of such a link
stay_made : (before after : List Frame) → Extends before after → (marks : List Mark) → StayMade before after marks
stay_made before after extends [] = tt
stay_made before after extends (mark ∷ marks) = ((λ payload made. extends.kept mark payload made), stay_made before after extends marks)

record HasPeer (o : Option LinkEnd) : Type 0 where
  far : LinkEnd
  is : o ≡ Some far

has_peer : (o : Option LinkEnd) → is_some o ≡ true → HasPeer o
has_peer None e = absurd (cc e)
has_peer (Some far) e = record { far = far; is = refl }

pub peaceful_nodes_may_hear : PeacefulNodesMayHear
peaceful_nodes_may_hear policy topology before node comes world link alone clear ends_in_peace = calm_nodes_may_hear policy topology before node comes world link alone clear default
  where
    n : IsNodeOfRun policy (past_of policy topology before) node link.site
    n = runs_have_nodes policy topology before comes.addresses (runs_have_fronts policy topology before (Carry (Up node)) comes).run node link.site link.found

    default : (cell : Cell) (cells : List Cell) (q : Linked) (payload : List ℕ) → queue_at (world_at policy topology before) (Up node) ≡ cell ∷ cells
        → EndsFrame (world_at policy topology before) node link.site cell (ForDefault q) payload
        → MayCome (with_reassembly (acting (world_at policy topology before) link.site) (ForDefault q) nothing_taken) (ForDefault q) payload
    default cell cells q payload queue frame = by (has_peer (peer_of topology node q.setup.port)
        (n.ports.linked q.setup.port q (taker_there link.site.controller cell.header.channel (ForDefault q) frame.takes)))
      where
        by : HasPeer (peer_of topology node q.setup.port) → MayCome (with_reassembly (acting (world_at policy topology before) link.site) (ForDefault q) nothing_taken) (ForDefault q) payload
        by peer = peaceful_ends_may_hear topology (world_at policy topology before) peer.far (record { node = node; port = q.setup.port }) comes.run.topology_is (ends_in_peace q.setup.port peer.far peer.is)
            (chains_are_their_frames policy topology before (Carry (Up node)) comes.tame)
            (stay_made (world_at policy topology before).notes.frames (next topology (world_at policy topology before) (Carry (Up node))).notes.frames
            (runs_are_steady policy topology before (Carry (Up node)) comes world node).1.stays
            (coming (world_at policy topology before) peer.far (record { node = node; port = q.setup.port })))
            link.site cell cells q payload link.found queue frame refl
