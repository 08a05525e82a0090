-- a carry that a port doesn't answer says none

use Rattle.std.proofs.Common.{◌≡◌, ℕ, ◌<◌, Bool, true, false, List, [], ◌∷◌, ◌++◌, length, Option, None, Some, Result, nat_eq, refl, sym, ◌∙◌, ap, subst, arith, append-nil, drop, if◌then◌else◌}
use Rattle.std.specs.Prelude.{◌==◌, nat_lt, nat_le, not, Ok, Err}
use Rattle.std.specs.Option.{option_map, option_map_or, option_and_then}
use Rattle.std.proofs.lemmas.List.{append_cancel_left}
use Rattle.world_model.specs.Words.{Addr, NodeId, PortNo, Place, Down, Up, Out, Mark, Cell, Frame, Loss, Unbound, Journal, PacketFault, EncapsFault, protocol_of, control_protocol, default_unwrapped, payload_in, last_mark, tested_by, Reassembly, nothing_taken, default_home, Controller, Linked, port_key, Grant, is_label_number, IsLinkPort, chains_with, ForGsmp, ForDefault, ForLabel, taker_of, reassembly_of, with_reassembly, frame_holds, takes_cell, Topology, World, Site, site_at, queue_at, queue_in, next, OfController, GivenOut, reassembly_at, has_slot, arrival, cell_for, taken_at}
use Rattle.world_model.specs.ipv4_packet.Packet.{first_fault}
use Rattle.world_model.specs.ifmp_wire.Fields.{decoded as ifmp_decoded}
use Rattle.world_model.specs.ifmp_wire.declared.message.Message.{Message}
use Rattle.world_model.specs.ifmp_wire.declared.reader.Fault.{Fault}
use Rattle.world_model.specs.frame_model.Frame.{octets_of}
use Rattle.world_model.specs.frame_model.Reassembly.{Taken, taken, most_cells, passed_over, without_slot, too_long}
use Rattle.world_model.specs.Controller.{Acted, free_slots, note}
use Rattle.world_model.specs.Cells.{Taker, after_test, ends_frame, cell_comes}
use Rattle.world_model.specs.Stretches.{ended_at, controller_arrival}
use Rattle.world_model.specs.Stretches as stretches
use Rattle.world_model.specs.Topology.{peer_of}
use Rattle.world_model.specs.network_model.declared.link.LinkEnd.{LinkEnd}
use Rattle.world_model.specs.network_model.declared.event.Event.TheVariants.{Carry}
use Rattle.law_port_facts.specs.ordered_lists.Ordered.{Every}
use Rattle.law_port_facts.proofs.Keyed.{by_eq, put_every}
use Rattle.law_passing.specs.Reached.{carried_to, switch_at, owns, reached}
use Rattle.law_passing.specs.telling_model.Passing.{cells_put_at, left}
use Rattle.law_passing.proofs.Worlds.{change_by_passing, of_the_actor}
use Rattle.law_live_frames.proofs.Coming.{same_itself}
use Rattle.law_live_hearing.specs.Law.{acting}
use Rattle.law_live_hearing.proofs.Sites.{up_now, up_notes, up_site, queue_of_site}
use Rattle.law_live_orders.specs.Law.{last_marks, sent_at}
use Rattle.law_live_orders.specs.Messages.{HoldsNone, AreSaid, none, passed}
use Rattle.law_live_orders.proofs.Hops.{numbers_apart}
use Rattle.law_run_facts.proofs.law_actor_pace.Cells.{ended_last}
use Rattle.law_run_facts.proofs.Takers.{OfTaker, taker_at_port}
use Rattle.law_live_numbers.specs.Law.{work_told, work_as, work_by, work_at}
use Rattle.law_live_unsaid.specs.Law.{SaysNone, IsHushed, IsUnanswered, SendsByLabels}
use Rattle.law_live_unsaid.specs.Carries.{BringsNothing, HearsNothing, UnansweredCarriesSayNone}
use Rattle.law_live_unsaid.proofs.Unanswered.{frames_say_none}

-- *A cell is taken*: where it ends a chain nothing of that is left, whatever was noted before
module _ (r : Reassembly) (cell : Cell) where
  abbrev by_tests : Journal → (skips full long last : Bool) → Taken
  by_tests notes skips full long last =
      if skips then passed_over notes r cell
      else (if full then without_slot notes r cell
      else (if long then too_long notes r cell
      else (if last then record { reassembly = record r { chain = [] }; notes = notes; ended = r.chain ++ cell ∷ [] }
      else record { reassembly = record r { chain = r.chain ++ cell ∷ [] }; notes = notes; ended = [] })))

  ended_same : (notes others : Journal) (slot : Bool) → (taken notes slot r cell).ended ≡ (taken others slot r cell).ended
  ended_same notes others slot = by r.is_skipping (not slot) (nat_le most_cells (length r.chain)) cell.header.last
    where
      by : (skips full long last : Bool) → (by_tests notes skips full long last).ended ≡ (by_tests others skips full long last).ended
      by true full long last = refl
      by false true long last = refl
      by false false true last = refl
      by false false false true = refl
      by false false false false = refl

  left_nothing : (notes : Journal) (slot : Bool) (first : Cell) (rest : List Cell) → (taken notes slot r cell).ended ≡ first ∷ rest → (taken notes slot r cell).reassembly ≡ nothing_taken
  left_nothing notes slot first rest = by r.is_skipping refl (not slot) (nat_le most_cells (length r.chain)) cell.header.last
    where
      by : (skips : Bool) → r.is_skipping ≡ skips → (full long last : Bool) → (by_tests notes skips full long last).ended ≡ first ∷ rest → (by_tests notes skips full long last).reassembly ≡ nothing_taken
      by true is full long last e = absurd (cc e)
      by false is true long last e = absurd (cc e)
      by false is false true last e = absurd (cc e)
      by false is false false true e = λ i. record { chain = []; is_skipping = is i }
      by false is false false false e = absurd (cc e)

-- *What a port does at a frame* reads no note
module _ (c : Controller) (numbers : GivenOut) (notes others : Journal) (linked : Linked) where
  abbrev here : Acted
  here = record { controller = c; notes = notes; numbers = numbers }

  abbrev there : Acted
  there = record { controller = c; notes = others; numbers = numbers }

  told_same : (packet : List ℕ) (r : Result Message Fault) → (work_told here linked packet r).actions ≡ (work_told there linked packet r).actions
  told_same packet (Err fault) = refl
  told_same packet (Ok message) = refl

  as_same : (packet : List ℕ) (b : Bool) → (work_as here linked packet b).actions ≡ (work_as there linked packet b).actions
  as_same packet true = told_same packet (ifmp_decoded (drop 20 packet))
  as_same packet false = refl

  by_same : (packet : List ℕ) (o : Option PacketFault) → (work_by here linked packet o).actions ≡ (work_by there linked packet o).actions
  by_same packet (Some fault) = refl
  by_same packet None = as_same packet (protocol_of packet == control_protocol)

  work_same : (r : Result (List ℕ) EncapsFault) → (work_at here linked r).actions ≡ (work_at there linked r).actions
  work_same (Err fault) = refl
  work_same (Ok packet) = by_same packet (first_fault packet)

-- *A cell comes* to a controller
module _ (a : Acted) (port : PortNo) (link : IsLinkPort port) (labels : SendsByLabels a.controller) where
  abbrev gathered : Journal → Taker → Reassembly → Acted
  gathered notes taker r = with_reassembly (record a { notes = notes }) taker r

  queue_kept : (notes : Journal) (taker : Taker) (r : Reassembly) → (gathered notes taker r).controller.queue ≡ a.controller.queue
  queue_kept notes ForGsmp r = refl
  queue_kept notes (ForDefault linked) r = refl
  queue_kept notes (ForLabel linked label) r = refl

  noted_later : (notes later : Journal) (taker : Taker) (r : Reassembly) → record (gathered notes taker r) { notes = later } ≡ gathered later taker r
  noted_later notes later ForGsmp r = refl
  noted_later notes later (ForDefault linked) r = refl
  noted_later notes later (ForLabel linked label) r = refl

  same : (b : Acted) → b.controller.queue ≡ a.controller.queue → SaysNone port a b
  same b queue = record { later = []; queue = queue ∙ sym (append-nil a.controller.queue); none = tt }

  -- as it was but for a chain
  abbrev ByLabels : Linked → Type 0
  ByLabels linked = Every (λ (grant : Grant). is_label_number grant.label ≡ true) linked.port.grants

  labels_kept : (notes : Journal) (taker : Taker) (r : Reassembly) → OfTaker ByLabels taker → SendsByLabels (gathered notes taker r).controller
  labels_kept notes ForGsmp r is = labels
  labels_kept notes (ForDefault linked) r is = put_every port_key ByLabels (record linked { reassembly = r }) a.controller.ports is labels
  labels_kept notes (ForLabel linked label) r is = put_every port_key ByLabels (record linked { chains = chains_with linked.chains label.number r }) a.controller.ports is labels

  unanswered_kept : (notes : Journal) (taker : Taker) (payload : List ℕ) → IsUnanswered port (with_reassembly a taker nothing_taken) taker payload → IsUnanswered port (gathered notes taker nothing_taken) taker payload
  unanswered_kept notes ForGsmp payload is = is
  unanswered_kept notes (ForDefault q) payload is = λ own linked found.
      subst (Every IsHushed) (sym (work_same (gathered notes (ForDefault q) nothing_taken).controller a.numbers notes a.notes linked (default_unwrapped payload))) (is own linked found)
  unanswered_kept notes (ForLabel q label) payload is = is

  -- *A frame* acts
  frame : (notes : Journal) (taker : Taker) (r : Reassembly) → OfTaker ByLabels taker → r ≡ nothing_taken → (mark : Mark) (payload : List ℕ) → (mark.packet ≡ 0 → 0 < mark.frame)
      → IsUnanswered port (with_reassembly a taker nothing_taken) taker payload → SaysNone port a (frame_holds (gathered notes taker r) taker mark payload)
  frame notes taker r of nothing mark payload marked is =
      let b : Acted = gathered notes taker r in
      let said : SaysNone port b (frame_holds b taker mark payload) =
      frames_say_none port b taker mark payload link (labels_kept notes taker r of) marked
      (subst (λ (x : Reassembly). IsUnanswered port (gathered notes taker x) taker payload) (sym nothing) (unanswered_kept notes taker payload is)) in
      record { later = said.later; queue = said.queue ∙ ap (λ (q : List Cell). q ++ said.later) (queue_kept notes taker r); none = said.none }

  -- *A chain ends*
  tests : (notes : Journal) (taker : Taker) (r : Reassembly) → OfTaker ByLabels taker → r ≡ nothing_taken → (mark : Mark) → (mark.packet ≡ 0 → 0 < mark.frame) → (cells : List Cell) (o : Option (List ℕ))
      → ((payload : List ℕ) → o ≡ Some payload → IsUnanswered port (with_reassembly a taker nothing_taken) taker payload)
      → SaysNone port a (after_test (gathered notes taker r) taker mark (tested_by (gathered notes taker r).notes cells o))
  tests notes taker r of nothing mark marked cells None is =
      let later : Journal = (tested_by (gathered notes taker r).notes cells None).notes in
      same (record (gathered notes taker r) { notes = later }) (queue_kept notes taker r)
  tests notes taker r of nothing mark marked cells (Some payload) is =
      let later : Journal = (tested_by (gathered notes taker r).notes cells (Some payload)).notes in
      subst (λ (b : Acted). SaysNone port a (frame_holds b taker mark payload)) (sym (noted_later notes later taker r))
      (frame later taker r of nothing mark payload marked (is payload refl))

  abbrev EndsUnanswered : Taker → List Cell → Type 0
  EndsUnanswered taker cells = (first : Cell) (rest : List Cell) (payload : List ℕ) → cells ≡ first ∷ rest → payload_in (octets_of (first ∷ rest)) ≡ Some payload
      → IsUnanswered port (with_reassembly a taker nothing_taken) taker payload

  ends : (notes : Journal) (taker : Taker) (r : Reassembly) → OfTaker ByLabels taker → (cells : List Cell) → ((first : Cell) (rest : List Cell) → cells ≡ first ∷ rest → r ≡ nothing_taken)
      → ((first : Cell) (rest : List Cell) → cells ≡ first ∷ rest → (last_mark (first ∷ rest)).packet ≡ 0 → 0 < (last_mark (first ∷ rest)).frame) → EndsUnanswered taker cells
      → SaysNone port a (ends_frame (gathered notes taker r) taker cells)
  ends notes taker r of [] nothing marked is = same (gathered notes taker r) (queue_kept notes taker r)
  ends notes taker r of (first ∷ rest) nothing marked is =
      tests notes taker r of (nothing first rest refl) (last_mark (first ∷ rest)) (marked first rest refl) (first ∷ rest) (payload_in (octets_of (first ∷ rest))) (λ payload e. is first rest payload refl e)

  cell_none : (cell : Cell) → (cell.mark.packet ≡ 0 → 0 < cell.mark.frame)
      → ((taker : Taker) → taker_of a.controller cell.header.channel ≡ Some taker → EndsUnanswered taker (taken a.notes (nat_lt 0 (free_slots a.controller)) (reassembly_of a.controller taker) cell).ended)
      → SaysNone port a (cell_comes a cell)
  cell_none cell marked is = by (taker_of a.controller cell.header.channel) refl
    where
      by : (o : Option Taker) → taker_of a.controller cell.header.channel ≡ o → SaysNone port a (takes_cell a cell o)
      by None found = same (note a (Loss cell.mark Unbound)) refl
      by (Some taker) found =
          let slot : Bool = nat_lt 0 (free_slots a.controller) in
          let r : Reassembly = reassembly_of a.controller taker in
          let t : Taken = taken a.notes slot r cell in
          ends t.notes taker t.reassembly (taker_at_port ByLabels a.controller cell.header.channel taker labels found) t.ended (left_nothing r cell a.notes slot)
          (λ first rest e. subst (λ (m : Mark). m.packet ≡ 0 → 0 < m.frame) (sym (ended_last a.notes slot r cell first rest e)) marked) (is taker found)

-- *Frames without a message* are passed over
pub all_passed : (address : Addr) (frames : List Frame) (marks : List Mark) → Every (HoldsNone frames) marks → AreSaid address frames marks []
all_passed address frames [] each = none
all_passed address frames (mark ∷ marks) each = passed mark each.0 (all_passed address frames marks each.1)

module _ (topology : Topology) (w : World) (one : LinkEnd) (address : Addr) where
  abbrev SaysNoneAt : Place → Type 0
  SaysNoneAt place = AreSaid address (next topology w (Carry place)).notes.frames (sent_at topology w (Carry place) one) []

  -- *To another actor*
  away : (place : Place) → owns (reached topology w (Carry place)) (Down one.node) ≡ false → SaysNoneAt place
  away place other = subst (λ (cells : List Cell). AreSaid address (next topology w (Carry place)).notes.frames (last_marks (default_home one.port).channel cells) [])
      (sym (of_the_actor topology w (Carry place) (Down one.node) other)) none

  -- *To the controller*
  module _ (link : IsLinkPort one.port) (site : Site) (found : site_at w one.node ≡ Some site) (cell : Cell) (cells : List Cell) (queue : queue_at w (Up one.node) ≡ cell ∷ cells) (hears : HearsNothing w one site) where
    abbrev a : Acted
    a = acting w site

    abbrev channel : stretches.Reassembler
    channel = OfController one.node cell.header.channel

    abbrev slot : Bool
    slot = nat_lt 0 (free_slots site.controller)

    -- the chain that it ends
    ended : (taker : Taker) → taker_of site.controller cell.header.channel ≡ Some taker → ended_at w (Carry (Up one.node)) channel ≡ (taken a.notes slot (reassembly_of site.controller taker) cell).ended
    ended taker takes =
        ap (λ o. option_map_or (λ (t : Taken). t.ended) (taken_at w channel o (cell_for channel (arrival w (Carry (Up one.node))))) []) chain
        ∙ (ap (λ o. option_map_or (λ (t : Taken). t.ended) (taken_at w channel (Some (reassembly_of site.controller taker)) o) []) comes
        ∙ (ap (λ (b : Bool). (taken w.notes b (reassembly_of site.controller taker) cell).ended) room
        ∙ ended_same (reassembly_of site.controller taker) cell w.notes a.notes slot))
      where
        chain : reassembly_at w channel ≡ Some (reassembly_of site.controller taker)
        chain = ap (λ (o : Option Site). option_and_then (λ (c : Controller). option_map (reassembly_of c) (taker_of c cell.header.channel)) (option_map (λ (s : Site). s.controller) o)) found
            ∙ ap (option_map (reassembly_of site.controller)) takes

        comes : cell_for channel (arrival w (Carry (Up one.node))) ≡ Some cell
        comes = ap (λ q. cell_for channel (controller_arrival one.node q)) queue ∙ ap (λ (b : Bool). if b then Some cell else None) (same_itself channel)

        room : has_slot w channel ≡ slot
        room = ap (λ (o : Option Site). option_map_or (λ (c : Controller). nat_lt 0 (free_slots c)) (option_map (λ (s : Site). s.controller) o) false) found

    brings : BringsNothing w one site (cell ∷ cells)
    brings = subst (BringsNothing w one site) queue hears.brings

    says : SaysNone one.port a (cell_comes a cell)
    says = cell_none a one.port link hears.labels cell brings.0
        (λ taker takes first rest payload is passes. brings.1 taker payload (record { takes = takes; whole = ap (λ cs. payload_in (octets_of cs)) (ended taker takes ∙ is) ∙ passes }))

    -- what is put are the cells that the controller sends
    stays : left w (Carry (Up one.node)) (Down one.node) ≡ site.controller.queue
    stays = ap (λ (b : Bool). if b then drop 1 (queue_at w (Down one.node)) else queue_at w (Down one.node)) (numbers_apart (Up one.node) (Down one.node) (λ e. absurd (omega (arith, e))))
        ∙ queue_of_site w one.node site (Down one.node) found

    then_is : queue_at (next topology w (Carry (Up one.node))) (Down one.node) ≡ (cell_comes a cell).controller.queue
    then_is = queue_of_site (next topology w (Carry (Up one.node))) one.node (up_now topology w one.node site found cell cells) (Down one.node) (up_site topology w one.node site found cell cells queue)

    put_is : cells_put_at topology w (Carry (Up one.node)) (Down one.node) ≡ says.later
    put_is = append_cancel_left (left w (Carry (Up one.node)) (Down one.node)) (cells_put_at topology w (Carry (Up one.node)) (Down one.node)) says.later
        (sym (change_by_passing topology w (Carry (Up one.node)) (Down one.node)) ∙ (then_is ∙ (says.queue ∙ ap (λ (q : List Cell). q ++ says.later) (sym stays))))

    here_none : SaysNoneAt (Up one.node)
    here_none = subst (λ (notes : Journal). AreSaid address notes.frames (sent_at topology w (Carry (Up one.node)) one) []) (sym (up_notes topology w one.node site found cell cells queue))
        (subst (λ (cs : List Cell). AreSaid address (cell_comes a cell).notes.frames (last_marks (default_home one.port).channel cs) []) (sym put_is)
        (all_passed address (cell_comes a cell).notes.frames (last_marks (default_home one.port).channel says.later) says.none))

  own : IsLinkPort one.port → ((site : Site) → site_at w one.node ≡ Some site → HearsNothing w one site) → SaysNoneAt (Up one.node)
  own link hears = by_queue (queue_at w (Up one.node)) refl
    where
      by_site : (o : Option Site) → site_at w one.node ≡ o → (cell : Cell) (cells : List Cell) → queue_at w (Up one.node) ≡ cell ∷ cells → SaysNoneAt (Up one.node)
      by_site None found cell cells queue = absurd (cc (sym (ap (λ (o : Option Site). option_map_or (λ s. queue_in s (Up one.node)) o []) found) ∙ queue))
      by_site (Some site) found cell cells queue = here_none link site found cell cells queue (hears site found)

      by_queue : (q : List Cell) → queue_at w (Up one.node) ≡ q → SaysNoneAt (Up one.node)
      by_queue [] queue = away (Up one.node) (ap (λ (q : List Cell). owns (carried_to topology (Up one.node) q) (Down one.node)) queue)
      by_queue (cell ∷ cells) queue = by_site (site_at w one.node) refl cell cells queue

-- *Who else is reached* puts nothing there
down_away : (topology : Topology) (node other : NodeId) (q : List Cell) → owns (carried_to topology (Down node) q) (Down other) ≡ false
down_away topology node other [] = refl
down_away topology node other (cell ∷ cells) = refl

up_away : (topology : Topology) (node other : NodeId) (q : List Cell) → nat_eq node.0 other.0 ≡ false → owns (carried_to topology (Up node) q) (Down other) ≡ false
up_away topology node other [] apart = refl
up_away topology node other (cell ∷ cells) apart = apart

out_away : (topology : Topology) (node other : NodeId) (port : PortNo) (q : List Cell) → owns (carried_to topology (Out node port) q) (Down other) ≡ false
out_away topology node other port [] = refl
out_away topology node other port (cell ∷ cells) = by (peer_of topology node port)
  where
    by : (o : Option LinkEnd) → owns (switch_at o) (Down other) ≡ false
    by None = refl
    by (Some far) = refl

pub carries_say_none : UnansweredCarriesSayNone
carries_say_none topology w one (Down node) address link is = away topology w one address (Down node) (down_away topology node one.node (queue_at w (Down node)))
carries_say_none topology w one (Out node port) address link is = away topology w one address (Out node port) (out_away topology node one.node port (queue_at w (Out node port)))
carries_say_none topology w one (Up node) address link is = by_eq node.0 one.node.0
    (λ same t. subst (λ (n : NodeId). SaysNoneAt topology w one address (Up n)) (λ i. record { 0 = sym same i }) (own topology w one address link (is same)))
    (λ apart t. away topology w one address (Up node) (up_away topology node one.node (queue_at w (Up node)) t))
