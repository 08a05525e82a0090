-- frames are made and numbers given out at a controller to which a cell comes

use Rattle.std.proofs.Common.{◌≡◌, ℕ, Bool, true, false, List, [], ◌∷◌, ◌++◌, length, Option, None, Some, Result, Ok, Err, refl, sym, ◌∙◌, ap, subst, arith, fold, if◌then◌else◌}
use Rattle.std.specs.Prelude.{not, nat_le, nat_lt, drop, ◌==◌}
use Rattle.world_model.specs.Words.{PortNo, Mark, number_of_channel, is_estab, gsmp_received, protocol_of, source_of, PacketFault, Cell, EncapsFault, default_unwrapped, unwrapped, Request, AddBranch, MoveBranch, DeleteTree, VerifyTree, PortManagement, Journal, noted, Part, Loss, Chance, PoolFull, Unbound, is_frame, Reassembly, marks_of, most_cells, broken, passed_over, without_slot, too_long, last_mark, payload_in, tested_by, empty_desk, Answered, Unknown, Done, Ports, Failed, answered, after_answer, Setup, Label, halts_if_spent, parted, given_back, counts, used, hears, Linked, linked_at, with_linked, with_desk, begins, node_resets, forwards_packet, control_protocol, join_of, parts, releases_join, releases_input, released_inputs, resets_spent, releases, port_of_input, tells_port, causes_in_estab, causes, may_clear, clears_of, clears_port, clears, takes_answer, gsmp_holds, ForGsmp, ForDefault, ForLabel, taker_of, reassembly_of, with_reassembly, label_holds, ifmp_holds, counted_at, packet_holds, default_holds, frame_holds, takes_cell}
use Rattle.world_model.specs.ipv4_packet.Packet.{first_fault}
use Rattle.world_model.specs.ifmp_wire.declared.message.Message.{Message as IfmpMessage}
use Rattle.world_model.specs.ifmp_wire.declared.reader.Fault.{Fault as IfmpFault}
use Rattle.world_model.specs.ifmp_wire.Fields.{decoded as ifmp_decoded}
use Rattle.world_model.specs.gsmp_wire.declared.fault.Fault.{Fault as GsmpFault}
use Rattle.world_model.specs.gsmp_wire.declared.message.Message.{Message as GsmpMessage}
use Rattle.world_model.specs.gsmp_wire.declared.message.Message.TheVariants as messages
use Rattle.world_model.specs.gsmp_wire.declared.request.Request.TheVariants.{DeleteAll, AllPorts}
use Rattle.world_model.specs.gsmp_wire.Fields.{decoded as gsmp_decoded}
use Rattle.world_model.specs.frame_model.Reassembly.{Taken, cell_joined}
use Rattle.world_model.specs.frame_model.Frame.{octets_of, passed_test}
use Rattle.law_label_events.proofs.law_port_facts.Keyed.{on_both, on_each}
use Rattle.law_label_events.proofs.law_port_facts.Instances.{goes_gave, closes_gave, parted_gave, given_back_gave}
use Rattle.law_label_events.proofs.law_port_facts.Rules.{used_goes, counts_goes, done_goes}
use Rattle.law_label_events.proofs.law_port_facts.Hearings.{hears_goes}
use Rattle.world_model.specs.port_model.Answers as port_answers
use Rattle.world_model.specs.port_model.Resets.{cleared}
use Rattle.world_model.specs.Controller.{Acted, free_slots, ports_of, note}
use Rattle.world_model.specs.Joins.{Join}
use Rattle.world_model.specs.Meeting.{takes_success}
use Rattle.world_model.specs.Gsmp.{message_comes}
use Rattle.world_model.specs.Cells.{Taker, after_test, after_cell, cell_comes}
use Rattle.law_label_events.proofs.law_controller_facts.Moves.{HasPorts, found_port, moves_ports}
use Rattle.law_label_events.proofs.law_controller_facts.Lifetimes.{decoded_lives}
use Rattle.law_label_events.proofs.law_controller_facts.Events.{routes_goes}
use Rattle.law_label_events.proofs.law_shown_cells.Tested.{broken_frames, last_is}
use Rattle.law_label_events.specs.law_controller_views.Lifted.{Growing}
use Rattle.law_label_events.proofs.law_controller_views.Growing.{grow_self, grow_on, grow_fold, grow_same, node_resets_grow, at_port_grow}
use Rattle.law_label_events.specs.law_arrival_views.Packets.{IsFree}
use Rattle.law_label_events.specs.law_arrival_views.Cells.{PassesByRight, EndsFrame, ended_by}
use Rattle.law_label_events.proofs.law_arrival_views.Comes.{has_slot, ends_is}
use Rattle.law_label_events.proofs.law_controller_lifts.Follow.{steps_follow, empties_follow, behind_follow, changes_follow}
use Rattle.law_label_events.proofs.law_controller_lifts.Ways.{growing_followed}
use Rattle.law_label_events.proofs.Enters.{routes_grow}

-- *Answers of the switch*
join_grows : (a : Acted) (o : Option Join) → Growing a (releases_join a o)
join_grows a None = grow_self a
join_grows a (Some join) =
    let noted_one : Acted = note a (Part a.controller.node join.input.port (number_of_channel join.input.channel)) in
    let b : Acted = parts a join.input in
    grow_on a noted_one (releases_join a (Some join)) (grow_same a noted_one refl (omega arith) refl)
    (grow_on noted_one b (releases_join a (Some join))
    (at_port_grow noted_one join.input.port (λ setup desk w. parted w (number_of_channel join.input.channel))
    (λ linked found. (let same = parted_gave a.numbers.instances (begins noted_one linked) (number_of_channel join.input.channel) refl in omega (arith, same))))
    (at_port_grow b join.port (λ setup desk w. given_back w join.grant)
    (λ linked found. (let same = given_back_gave b.numbers.instances (begins b linked) join.grant refl in omega (arith, same)))))

spent_grows : (a : Acted) (q : PortNo) → Growing a (resets_spent a q)
spent_grows a q = at_port_grow a q (λ setup desk w. halts_if_spent w) (λ linked found. (let same = closes_gave a.numbers.instances (begins a linked) refl in omega (arith, same)))

releases_grow : (a : Acted) (request : Request) → Growing a (releases a request)
releases_grow a request =
    let released : Acted = fold releases_input a (released_inputs a.controller request) in
    grow_on a released (releases a request) (grow_fold releases_input (λ b input. join_grows b (join_of b.controller input)) (released_inputs a.controller request) a)
    (grow_fold resets_spent spent_grows (ports_of released.controller) released)

tells_grow : (a : Acted) (request : Request) (port : PortNo) → Growing a (tells_port a request (Some port))
tells_grow a request port = at_port_grow a port (λ setup desk w. port_answers.done setup w request)
    (λ linked found. (let same = goes_gave a.numbers.instances linked.setup empty_desk (begins a linked) (port_answers.done linked.setup (begins a linked) request)
    (done_goes linked.setup empty_desk (begins a linked) request (λ t. tt)) refl in omega (arith, same)))

causes_in_grow : (a : Acted) (request : Request) → Growing a (causes_in_estab a request)
causes_in_grow a (AddBranch input output) = tells_grow a (AddBranch input output) (port_of_input input output)
causes_in_grow a (MoveBranch input from to) = tells_grow a (MoveBranch input from to) (port_of_input input to)
causes_in_grow a (DeleteTree input) = tells_grow a (DeleteTree input) input.port
causes_in_grow a (VerifyTree input) = tells_grow a (VerifyTree input) input.port
causes_in_grow a (DeleteAll port) = behind_follow Growing growing_followed a port
causes_in_grow a (PortManagement port function) = tells_grow a (PortManagement port function) port
causes_in_grow a AllPorts = grow_self a

causes_grow : (a : Acted) (request : Request) → Growing a (causes a request)
causes_grow a request = on_both (Growing a) (is_estab a.controller.adjacency.state) (causes_in_estab a request) a (causes_in_grow a request) (grow_self a)

clear_grows : (a : Acted) (o : Option Linked) → Growing a (clears_of a o)
clear_grows a None = grow_self a
clear_grows a (Some linked) = on_both (Growing a) (may_clear a.controller linked) (with_linked a (record linked { port = cleared linked.port })) a
    (grow_same a (with_linked a (record linked { port = cleared linked.port })) refl (omega arith) refl) (grow_self a)

done_grows : (a : Acted) (request : Request) → Growing a (takes_success a request)
done_grows a request =
    let released : Acted = releases a request in
    let caused : Acted = causes released request in
    let clear : Acted = clears caused in
    grow_on a released (takes_success a request) (releases_grow a request)
    (grow_on released caused (takes_success a request) (causes_grow released request)
    (grow_on caused clear (takes_success a request) (grow_fold clears_port (λ b q. clear_grows b (linked_at b.controller q)) (ports_of caused.controller) caused)
    (changes_follow Growing growing_followed clear)))

answer_grows : (a : Acted) (answer : Answered) → Growing a (takes_answer a answer)
answer_grows a Unknown = grow_same a (takes_answer a Unknown) refl (omega arith) refl
answer_grows a (Done s) = (let b : Acted = with_desk a (after_answer a.controller.desk (Done s)) in grow_on a b (takes_success b s.request) (grow_same a b refl (omega arith) refl) (done_grows b s.request))
answer_grows a (Ports s rows) = (let b : Acted = with_desk a (after_answer a.controller.desk (Ports s rows)) in
    grow_on a b (takes_answer a (Ports s rows)) (grow_same a b refl (omega arith) refl) (empties_follow Growing growing_followed b))
answer_grows a (Failed s code) = (let b : Acted = with_desk a (after_answer a.controller.desk (Failed s code)) in grow_on a b (node_resets b) (grow_same a b refl (omega arith) refl) (node_resets_grow b))

told_grows : (a : Acted) (message : GsmpMessage) → Growing a (message_comes a message)
told_grows a (messages.Adjacency greeting) = steps_follow Growing growing_followed a (gsmp_received a.controller.adjacency greeting)
told_grows a (messages.Branch kind result code number session input_port input output_port output branches priority) =
    answer_grows a (answered a.controller.desk (messages.Branch kind result code number session input_port input output_port output branches priority))
told_grows a (messages.Move result code number session input_port input output_port output target_port target branches priority) =
    answer_grows a (answered a.controller.desk (messages.Move result code number session input_port input output_port output target_port target branches priority))
told_grows a (messages.Port result code number port session function) = answer_grows a (answered a.controller.desk (messages.Port result code number port session function))
told_grows a (messages.AllPorts result code number rows) = answer_grows a (answered a.controller.desk (messages.AllPorts result code number rows))

gsmp_grows : (a : Acted) (r : Result GsmpMessage GsmpFault) → Growing a (gsmp_holds a r)
gsmp_grows a (Ok message) = told_grows a message
gsmp_grows a (Err fault) = grow_same a (gsmp_holds a (Err fault)) refl (omega arith) refl

-- *Frames of the other channels*
module _ (setups : List Setup) where
  label_grows : (a : Acted) (linked : Linked) (label : Label) (mark : Mark) (r : Result (List ℕ) EncapsFault) → IsFree a mark → Growing a (label_holds a linked label mark r)
  label_grows a linked label mark (Err fault) free = grow_same a (label_holds a linked label mark (Err fault)) refl (omega arith) refl
  label_grows a linked label mark (Ok packet) free =
      let b : Acted = forwards_packet a mark packet in
      grow_on a b (label_holds a linked label mark (Ok packet)) (routes_grow a mark packet free)
      (at_port_grow b linked.setup.port (λ setup desk w. used w label.number)
      (λ other found. (let same = goes_gave b.numbers.instances other.setup b.controller.desk (begins b other) (used (begins b other) label.number) (used_goes other.setup b.controller.desk (begins b other) label.number) refl in omega (arith, same))))

  ifmp_grows : (a : Acted) (port : PortNo) (packet : List ℕ) (r : Result IfmpMessage IfmpFault) → ifmp_decoded (drop 20 packet) ≡ r → Growing a (ifmp_holds a port packet r)
  ifmp_grows a port packet (Err fault) is = grow_same a (ifmp_holds a port packet (Err fault)) refl (omega arith) refl
  ifmp_grows a port packet (Ok message) is = at_port_grow a port (λ setup desk w. hears setup desk w (source_of packet) message)
      (λ linked found. (let same = goes_gave a.numbers.instances linked.setup a.controller.desk (begins a linked) (hears linked.setup a.controller.desk (begins a linked) (source_of packet) message)
      (hears_goes linked.setup a.controller.desk (begins a linked) (source_of packet) message refl (decoded_lives (drop 20 packet) message is)) refl in omega (arith, same)))

  counted_grows : (a : Acted) (port : PortNo) (packet : List ℕ) → HasPorts setups a → Growing a (counted_at a port packet)
  counted_grows a port packet h = at_port_grow a port (λ setup desk w. counts setup desk w packet)
      (λ linked found. (let same = goes_gave a.numbers.instances linked.setup a.controller.desk (begins a linked) (counts linked.setup a.controller.desk (begins a linked) packet)
      (counts_goes linked.setup a.controller.desk (begins a linked) packet (found_port setups a linked port h found).ascend) refl in omega (arith, same)))

  packet_grows : (a : Acted) (port : PortNo) (mark : Mark) (packet : List ℕ) (o : Option PacketFault) → IsFree a mark → HasPorts setups a → Growing a (packet_holds a port mark packet o)
  packet_grows a port mark packet (Some fault) free h = grow_same a (packet_holds a port mark packet (Some fault)) refl (omega arith) refl
  packet_grows a port mark packet None free h = on_both (Growing a) (protocol_of packet == control_protocol) (ifmp_holds a port packet (ifmp_decoded (drop 20 packet))) (counted_at (forwards_packet a mark packet) port packet)
      (ifmp_grows a port packet (ifmp_decoded (drop 20 packet)) refl)
      (grow_on a (forwards_packet a mark packet) (counted_at (forwards_packet a mark packet) port packet) (routes_grow a mark packet free)
      (counted_grows (forwards_packet a mark packet) port packet (moves_ports setups (routes_goes setups a mark packet) h)))

  default_grows : (a : Acted) (port : PortNo) (mark : Mark) (r : Result (List ℕ) EncapsFault) → IsFree a mark → HasPorts setups a → Growing a (default_holds a port mark r)
  default_grows a port mark (Err fault) free h = grow_same a (default_holds a port mark (Err fault)) refl (omega arith) refl
  default_grows a port mark (Ok packet) free h = packet_grows a port mark packet (first_fault packet) free h

  pub frame_grows : (a : Acted) (taker : Taker) (mark : Mark) (payload : List ℕ) → IsFree a mark → HasPorts setups a → Growing a (frame_holds a taker mark payload)
  frame_grows a ForGsmp mark payload free h = gsmp_grows a (gsmp_decoded payload)
  frame_grows a (ForDefault linked) mark payload free h = default_grows a linked.setup.port mark (default_unwrapped payload) free h
  frame_grows a (ForLabel linked label) mark payload free h = label_grows a linked label mark (unwrapped label.flow payload) free

-- *A cell comes*
rechained_grows : (a : Acted) (taker : Taker) (notes : Journal) (r : Reassembly) → notes.frames ≡ a.notes.frames → Growing a (with_reassembly (record a { notes = notes }) taker r)
rechained_grows a ForGsmp notes r same = grow_same a (with_reassembly (record a { notes = notes }) ForGsmp r) same (omega arith) refl
rechained_grows a (ForDefault linked) notes r same = grow_same a (with_reassembly (record a { notes = notes }) (ForDefault linked) r) same (omega arith) refl
rechained_grows a (ForLabel linked x) notes r same = grow_same a (with_reassembly (record a { notes = notes }) (ForLabel linked x) r) same (omega arith) refl

module _ (a : Acted) (taker : Taker) (c : Cell) (passes : EndsFrame a (reassembly_of a.controller taker) c → PassesByRight a ((reassembly_of a.controller taker).chain ++ c ∷ []))
    (holds : EndsFrame a (reassembly_of a.controller taker) c → (payload : List ℕ) → Growing (ended_by a taker) (frame_holds (ended_by a taker) taker c.mark payload)) where
  notes_are : (t : Taker) (r : Reassembly) → (with_reassembly a t r).notes ≡ a.notes
  notes_are ForGsmp r = refl
  notes_are (ForDefault linked) r = refl
  notes_are (ForLabel linked x) r = refl

  chain : List Cell
  chain = (reassembly_of a.controller taker).chain ++ c ∷ []

  tested_grows : EndsFrame a (reassembly_of a.controller taker) c → (o : Option (List ℕ)) → payload_in (octets_of ((reassembly_of a.controller taker).chain ++ c ∷ [])) ≡ o → (notes : Journal) → notes ≡ a.notes
      → Growing a (after_test (ended_by a taker) taker (last_mark ((reassembly_of a.controller taker).chain ++ c ∷ [])) (tested_by notes ((reassembly_of a.controller taker).chain ++ c ∷ []) o))
  tested_grows whole None e notes same = subst (λ (j : Journal). Growing a (record (ended_by a taker) { notes = broken j (marks_of ((reassembly_of a.controller taker).chain ++ c ∷ [])) })) (sym same) (by taker)
    where
      by : (t : Taker) → Growing a (record (with_reassembly a t (record (reassembly_of a.controller taker) { chain = [] })) { notes = broken a.notes (marks_of ((reassembly_of a.controller taker).chain ++ c ∷ [])) })
      by ForGsmp = grow_same a _ (broken_frames (marks_of ((reassembly_of a.controller taker).chain ++ c ∷ [])) a.notes) (omega arith) refl
      by (ForDefault linked) = grow_same a _ (broken_frames (marks_of ((reassembly_of a.controller taker).chain ++ c ∷ [])) a.notes) (omega arith) refl
      by (ForLabel linked x) = grow_same a _ (broken_frames (marks_of ((reassembly_of a.controller taker).chain ++ c ∷ [])) a.notes) (omega arith) refl
  tested_grows whole (Some payload) e notes same =
      let cells : List Cell = (reassembly_of a.controller taker).chain ++ c ∷ [] in
      let right : is_frame a.notes.frames (last_mark cells) payload ≡ true = passes whole payload e in
      let mark : last_mark cells ≡ c.mark = last_is (reassembly_of a.controller taker).chain c in
      let kept : passed_test notes (last_mark cells) payload ≡ a.notes = ap (λ (j : Journal). passed_test j (last_mark cells) payload) same
      ∙ ap (λ (t : Bool). if t then a.notes else noted a.notes (Chance (last_mark cells))) right in
      subst (λ (j : Journal). Growing a (frame_holds (record (ended_by a taker) { notes = j }) taker (last_mark cells) payload)) (sym kept)
      (subst (λ (m : Mark). Growing a (frame_holds (record (ended_by a taker) { notes = a.notes }) taker m payload)) (sym mark)
      (subst (λ (b : Acted). Growing a (frame_holds b taker c.mark payload)) (sym (same_notes taker))
      (grow_on a (ended_by a taker) (frame_holds (ended_by a taker) taker c.mark payload) (rechained_grows a taker a.notes (record (reassembly_of a.controller taker) { chain = [] }) refl) (holds whole payload))))
    where
      same_notes : (t : Taker) → record (with_reassembly a t (record (reassembly_of a.controller taker) { chain = [] })) { notes = a.notes }
          ≡ with_reassembly a t (record (reassembly_of a.controller taker) { chain = [] })
      same_notes ForGsmp = refl
      same_notes (ForDefault linked) = refl
      same_notes (ForLabel linked x) = refl

  abbrev joined_as : Bool → Taken
  joined_as last =
      if last then record { reassembly = record (reassembly_of a.controller taker) { chain = [] }; notes = a.notes; ended = (reassembly_of a.controller taker).chain ++ c ∷ [] }
      else record { reassembly = record (reassembly_of a.controller taker) { chain = (reassembly_of a.controller taker).chain ++ c ∷ [] }; notes = a.notes; ended = [] }

  joined_grows : (c.header.last ≡ true → EndsFrame a (reassembly_of a.controller taker) c) → (last : Bool) → c.header.last ≡ last → Growing a (after_cell a taker (joined_as last))
  joined_grows whole false is = rechained_grows a taker a.notes (record (reassembly_of a.controller taker) { chain = (reassembly_of a.controller taker).chain ++ c ∷ [] }) refl
  joined_grows whole true is = subst (Growing a) (sym (ends_is (ended_by a taker) taker (reassembly_of a.controller taker).chain c))
      (tested_grows (whole is) (payload_in (octets_of ((reassembly_of a.controller taker).chain ++ c ∷ []))) refl (ended_by a taker).notes
      (notes_are taker (record (reassembly_of a.controller taker) { chain = [] })))

  pub taken_grows : Growing a (takes_cell a c (Some taker))
  taken_grows =
      let r : Reassembly = reassembly_of a.controller taker in
      let slot : Bool = nat_lt 0 (free_slots a.controller) in
      let to : Taken → Type 0 = λ t. Growing a (after_cell a taker t) in
      on_each to r.is_skipping (passed_over a.notes r c) (if not slot then without_slot a.notes r c else (if nat_le most_cells (length r.chain) then too_long a.notes r c else cell_joined a.notes r c))
      (λ e. rechained_grows a taker (broken a.notes (c.mark ∷ [])) (passed_over a.notes r c).reassembly (broken_frames (c.mark ∷ []) a.notes))
      (λ e. on_each to (not slot) (without_slot a.notes r c) (if nat_le most_cells (length r.chain) then too_long a.notes r c else cell_joined a.notes r c)
      (λ f. rechained_grows a taker (without_slot a.notes r c).notes (without_slot a.notes r c).reassembly (broken_frames (marks_of r.chain) (noted a.notes (Loss c.mark PoolFull))))
      (λ f. on_each to (nat_le most_cells (length r.chain)) (too_long a.notes r c) (cell_joined a.notes r c)
      (λ g. rechained_grows a taker (too_long a.notes r c).notes (too_long a.notes r c).reassembly (broken_frames (marks_of (r.chain ++ c ∷ [])) a.notes))
      (λ g. joined_grows (λ last. record { last = last; gathers = e; slot = has_slot slot f; short = g }) c.header.last refl)))

pub cell_grows : (a : Acted) (c : Cell) → ((taker : Taker) → taker_of a.controller c.header.channel ≡ Some taker → EndsFrame a (reassembly_of a.controller taker) c → PassesByRight a ((reassembly_of a.controller taker).chain ++ c ∷ []))
    → ((taker : Taker) → taker_of a.controller c.header.channel ≡ Some taker → EndsFrame a (reassembly_of a.controller taker) c → (payload : List ℕ) → Growing (ended_by a taker) (frame_holds (ended_by a taker) taker c.mark payload))
    → Growing a (cell_comes a c)
cell_grows a c passes holds = by (taker_of a.controller c.header.channel) refl
  where
    by : (o : Option Taker) → taker_of a.controller c.header.channel ≡ o → Growing a (takes_cell a c o)
    by None is = grow_same a (note a (Loss c.mark Unbound)) refl (omega arith) refl
    by (Some taker) is = taken_grows a taker c (passes taker is) (holds taker is)
