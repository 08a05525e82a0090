-- a cell comes to a controller: nobody takes it, or a channel does, and what a frame holds that it ends

use Rattle.std.proofs.Common.{◌≡◌, ℕ, ◌==◌, ◌&&◌, Bool, true, false, cond, List, [], ◌∷◌, ◌++◌, Option, None, Some, refl, sym, ◌∙◌, ap, subst, if◌then◌else◌, inl}
use Rattle.std.specs.Prelude.{nat_lt}
use Rattle.std.specs.Option.{option_and_then}
use Rattle.law_arrival_views.specs.world_model.Words.{NodeId, PortNo, Down, Up, Channel, Mark, number_of_channel, label_number_of, Cell, Loss, Chance, PoolFull, Unbound, is_frame, payload_of, Journal, noted, Reassembly, skipping_from, broken, marks_of, tested, tested_by, last_mark, payload_in, Label, is_bound, label_at, Controller, Linked, port_key, linked_at, chains_with, default_channel, ForGsmp, ForDefault, ForLabel, port_on, on_link, same_channel, label_taker, taker_at, taker_of, reassembly_of, with_reassembly, frame_holds, takes_cell, last_bound, IsTame}
use Rattle.law_arrival_views.specs.world_model.frame_model.Reassembly.{Taken, taken}
use Rattle.law_arrival_views.specs.world_model.frame_model.Frame.{passed_test, octets_of}
use Rattle.law_arrival_views.specs.ordered_lists.Ordered.{Every}
use Rattle.law_arrival_views.proofs.law_port_facts.Keyed.{on_each, at_key, at_every, put_every}
use Rattle.law_arrival_views.specs.world_model.Controller.{Acted, free_slots, note}
use Rattle.law_arrival_views.specs.world_model.Cells.{Taker, opened_frame, after_test, ends_frame, after_cell, cell_comes}
use Rattle.law_arrival_views.specs.world_model.Topology.{peer_of}
use Rattle.law_run_facts.specs.law_world_views.Marks.{heading_at, Means}
use Rattle.law_packet_worlds.proofs.Ledger.{entered, broken_cells, is_made}
use Rattle.law_packet_worlds.proofs.Cut.{one}
use Rattle.law_packet_worlds.proofs.Meant.{in_frames}
use Rattle.law_packet_worlds.proofs.Good.{Turn, Now, IsTurn, IsGood, nothing, good_hand, good_loss, good_broken, good_without}
use Rattle.law_packet_worlds.proofs.Frames.{in_hand, few_in_hand}
use Rattle.law_packet_worlds.proofs.Sends.{now_of, HasGrants, IsReady}
use Rattle.law_packet_worlds.proofs.Quietly.{BindsNone, push_none, AllowsDefault, AreFew}
use Rattle.law_way_words.proofs.Switching.{taken_cases}
use Rattle.law_packet_worlds.proofs.Takes.{broken_none, opened_grows, chain_ended, fair, HasLabels, Leaves, holds_gsmp, holds_default, holds_label}
use Rattle.law_packet_worlds.proofs.Sites.{number_same}
use Rattle.law_arrival_views.proofs.law_shown_cells.Tested.{last_is}

-- *Who takes it*
data Took (c : Controller) (channel : Channel) : Option Taker → Type 0 where
  nobody : Took c channel None
  gsmp : same_channel channel default_channel ≡ true → Took c channel (Some ForGsmp)
  default : (linked : Linked) → linked_at c (port_on channel) ≡ Some linked → same_channel channel default_channel ≡ false → same_channel (on_link channel) default_channel ≡ true
      → Took c channel (Some (ForDefault linked))
  label : (linked : Linked) → linked_at c (port_on channel) ≡ Some linked → same_channel (on_link channel) default_channel ≡ false → (one : Label) (number : ℕ)
      → label_number_of (on_link channel) ≡ Some number → label_at linked.port number ≡ Some one → is_bound one.state ≡ true → Took c channel (Some (ForLabel linked one))

took : (c : Controller) (channel : Channel) → Took c channel (taker_of c channel)
took c channel = on_each (Took c channel) (same_channel channel default_channel) (Some ForGsmp) (taker_at (linked_at c (port_on channel)) (on_link channel)) gsmp
    (λ other. by_port other (linked_at c (port_on channel)) refl)
  where
    by_label : (linked : Linked) → linked_at c (port_on channel) ≡ Some linked → same_channel (on_link channel) default_channel ≡ false → (number : ℕ) → label_number_of (on_link channel) ≡ Some number
        → (o : Option Label) → label_at linked.port number ≡ o → Took c channel (label_taker linked o)
    by_label linked found other number is None at_none = nobody
    by_label linked found other number is (Some one) at_one = on_each (Took c channel) (is_bound one.state) (Some (ForLabel linked one)) None
        (λ bound. label linked found other one number is at_one bound) (λ unbound. nobody)

    by_number : (linked : Linked) → linked_at c (port_on channel) ≡ Some linked → same_channel (on_link channel) default_channel ≡ false → (o : Option ℕ) → label_number_of (on_link channel) ≡ o
        → Took c channel (label_taker linked (option_and_then (label_at linked.port) o))
    by_number linked found other None is = nobody
    by_number linked found other (Some number) is = by_label linked found other number is (label_at linked.port number) refl

    by_port : same_channel channel default_channel ≡ false → (o : Option Linked) → linked_at c (port_on channel) ≡ o → Took c channel (taker_at o (on_link channel))
    by_port far None found = nobody
    by_port far (Some linked) found = on_each (Took c channel) (same_channel (on_link channel) default_channel) (Some (ForDefault linked))
        (label_taker linked (option_and_then (label_at linked.port) (label_number_of (on_link channel))))
        (λ on. default linked found far on) (λ other. by_number linked found other (label_number_of (on_link channel)) refl)

abbrev IsTaker : Controller → Taker → Type 0
IsTaker c ForGsmp = Unit {0}
IsTaker c (ForDefault linked) = linked_at c linked.setup.port ≡ Some linked
IsTaker c (ForLabel linked one) = linked_at c linked.setup.port ≡ Some linked

port_same : (c : Controller) (port : PortNo) (linked : Linked) → linked_at c port ≡ Some linked → linked.setup.port ≡ port
port_same c port linked found = (let key : linked.setup.port.0 ≡ port.0 = at_key port_key port.0 c.ports linked found in ap (λ (n : ℕ). let p : PortNo = record { 0 = n } in p) key)

found_own : (c : Controller) (port : PortNo) (linked : Linked) → linked_at c port ≡ Some linked → linked_at c linked.setup.port ≡ Some linked
found_own c port linked found = subst (λ (p : PortNo). linked_at c p ≡ Some linked) (sym (port_same c port linked found)) found

taker_is : (c : Controller) (channel : Channel) (taker : Taker) → Took c channel (Some taker) → IsTaker c taker
taker_is c channel ForGsmp took_it = tt
taker_is c channel (ForDefault linked) (default at_port found far on) = found_own c (port_on channel) at_port found
taker_is c channel (ForLabel linked label_one) (label at_port found other l number is at_one bound) = found_own c (port_on channel) at_port found

module _ (t : Turn) where
  -- the table and the grants of a controller whose channel has taken a cell
  pub still_ready : (a : Acted) (taker : Taker) (r : Reassembly) → IsTaker a.controller taker → IsReady t a → IsReady t (with_reassembly a taker r)
  still_ready a ForGsmp r is ready = record { place = ready.place; held = ready.held; linked = ready.linked; granted = ready.granted }
  still_ready a (ForDefault linked) r is ready = record {
    place = ready.place;
    held = ready.held;
    linked = ready.linked;
    granted = put_every port_key (HasGrants t a.controller.node) (record linked { reassembly = r }) a.controller.ports
        (at_every port_key (HasGrants t a.controller.node) linked.setup.port.0 a.controller.ports linked ready.granted is) ready.granted;
  }
  still_ready a (ForLabel linked one) r is ready = record {
    place = ready.place;
    held = ready.held;
    linked = ready.linked;
    granted = put_every port_key (HasGrants t a.controller.node) (record linked { chains = chains_with linked.chains one.number r }) a.controller.ports
        (at_every port_key (HasGrants t a.controller.node) linked.setup.port.0 a.controller.ports linked ready.granted is) ready.granted;
  }

  same_now : (a : Acted) (taker : Taker) (r : Reassembly) → now_of (with_reassembly a taker r) ≡ now_of a
  same_now a ForGsmp r = refl
  same_now a (ForDefault linked) r = refl
  same_now a (ForLabel linked one) r = refl

  same_node : (a : Acted) (taker : Taker) (r : Reassembly) → (with_reassembly a taker r).controller.node ≡ a.controller.node
  same_node a ForGsmp r = refl
  same_node a (ForDefault linked) r = refl
  same_node a (ForLabel linked one) r = refl

  module _ (P : Cell → Type 0) where
    rests : (a : Acted) (taker : Taker) (r : Reassembly) → Leaves t P a → Leaves t P (with_reassembly a taker r)
    rests a ForGsmp r l = record { good = l.good; binds = l.binds }
    rests a (ForDefault linked) r l = record { good = l.good; binds = l.binds }
    rests a (ForLabel linked one) r l = record { good = l.good; binds = l.binds }

module _ (t : Turn) (turn : IsTurn t) (node : NodeId) (here : t.place ≡ Down node) (apart : peer_of t.base.topology node (record { 0 = 0 }) ≡ None) (P : Cell → Type 0) (others : AllowsDefault P) where
  module _ (a : Acted) (own : a.controller.node ≡ node) (ready : IsReady t a) (labels : Every (HasLabels t node) a.controller.ports) (cell : Cell)
      (m : Means (in_frames t.base a.notes.frames) (heading_at t.base.topology (Up node) cell.header.channel) cell.header.last cell.mark)
      (good : IsGood t (in_hand cell) (now_of a)) (none : BindsNone a.notes.records) (few : AreFew P a) where
    abbrev now : Now
    now = now_of a

    lost : Leaves t P (note a (Loss cell.mark Unbound))
    lost = record {
      good = good_without t cell.mark.packet (in_hand cell) (record now { notes = noted a.notes (Loss cell.mark Unbound) }) (λ k some. few_in_hand cell k) (entered a.notes.entries cell.mark Unbound)
          (good_loss t (in_hand cell) now cell.mark Unbound good);
      binds = inl (push_none a.notes.records (Loss cell.mark Unbound) refl none);
    }

    -- cells that are broken with this one
    gone : (chain : List Cell) → Leaves t P (record a { notes = broken a.notes (marks_of (chain ++ cell ∷ [])) })
    gone chain = record {
      good = good_without t cell.mark.packet (in_hand cell) (record now { notes = broken a.notes (marks_of (chain ++ cell ∷ [])) }) (λ k some. few_in_hand cell k) (broken_cells a.notes chain cell)
          (good_broken t (in_hand cell) now a.notes (marks_of (chain ++ cell ∷ [])) good);
      binds = inl (broken_none a.notes (marks_of (chain ++ cell ∷ [])) none);
    }

    full : (chain : List Cell) → Leaves t P (record a { notes = broken (noted a.notes (Loss cell.mark PoolFull)) (marks_of chain) })
    full chain =
        let first : Journal = noted a.notes (Loss cell.mark PoolFull) in
        record {
          good = good_broken t nothing now first (marks_of chain)
              (good_without t cell.mark.packet (in_hand cell) (record now { notes = first }) (λ k some. few_in_hand cell k) (entered a.notes.entries cell.mark PoolFull)
              (good_loss t (in_hand cell) now cell.mark PoolFull good));
          binds = inl (broken_none first (marks_of chain) (push_none a.notes.records (Loss cell.mark PoolFull) refl none));
        }

    -- a frame that passed
    held : (taker : Taker) (r : Reassembly) (payload : List ℕ) → Took a.controller cell.header.channel (Some taker) → cell.header.last ≡ true → payload_of a.notes.frames cell.mark ≡ Some payload
        → Leaves t P (frame_holds (with_reassembly a taker r) taker cell.mark payload)
    held taker r payload took_it last is = by taker took_it
      where
        own_hand : IsGood t (one cell.mark.packet) now
        own_hand = good_hand t (in_hand cell) (one cell.mark.packet) now (λ k some. ap (λ (v : Bool). cond (v && (cell.mark.packet == k)) 1 0) last) good

        whole : Means (in_frames t.base a.notes.frames) (heading_at t.base.topology (Up node) cell.header.channel) true cell.mark
        whole = subst (λ b. Means (in_frames t.base a.notes.frames) (heading_at t.base.topology (Up node) cell.header.channel) b cell.mark) last m

        by : (taker : Taker) → Took a.controller cell.header.channel (Some taker) → Leaves t P (frame_holds (with_reassembly a taker r) taker cell.mark payload)
        by ForGsmp (gsmp on) = holds_gsmp t turn node here apart P others (with_reassembly a ForGsmp r) own cell.mark payload is own_hand none few cell.header.channel on whole
        by (ForDefault linked) (default at_port found far on) =
            holds_default t turn node here apart P others (with_reassembly a (ForDefault linked) r) own cell.mark payload is own_hand none few cell.header.channel linked
            (still_ready t a (ForDefault linked) r (taker_is a.controller cell.header.channel (ForDefault linked) (default at_port found far on)) ready) far on whole
        by (ForLabel linked label_one) (label at_port found other l number numbered at_one bound) =
            let same : linked.setup.port ≡ port_on cell.header.channel = port_same a.controller (port_on cell.header.channel) linked found in
            let flow : last_bound t.base.records (record { node = node; port = linked.setup.port }) number ≡ Some l.flow =
            at_every port_key (HasLabels t node) (port_on cell.header.channel).0 a.controller.ports linked labels found number l at_one bound in
            let bound_is : last_bound t.base.records (record { node = node; port = port_on cell.header.channel }) (number_of_channel (on_link cell.header.channel)) ≡ Some l.flow =
            ap (λ n. last_bound t.base.records (record { node = node; port = port_on cell.header.channel }) n) (number_same (on_link cell.header.channel) number numbered)
            ∙ (ap (λ (p : PortNo). last_bound t.base.records (record { node = node; port = p }) number) (sym same) ∙ flow) in
            holds_label t turn node here apart P others (with_reassembly a (ForLabel linked l) r) own cell.mark payload is own_hand none few cell.header.channel linked l
            (still_ready t a (ForLabel linked l) r (taker_is a.controller cell.header.channel (ForLabel linked l) (label at_port found other l number numbered at_one bound)) ready) other bound_is whole

    -- the test of a chain
    ended : (taker : Taker) (r : Reassembly) (chain : List Cell) (o : Option (List ℕ)) → Took a.controller cell.header.channel (Some taker) → cell.header.last ≡ true
        → IsTame (after_test (with_reassembly a taker r) taker cell.mark (tested_by a.notes (chain ++ cell ∷ []) o)).notes.records
        → Leaves t P (after_test (with_reassembly a taker r) taker cell.mark (tested_by a.notes (chain ++ cell ∷ []) o))
    ended taker r chain None took_it last tame = by_taker taker
      where
        by_taker : (taker : Taker) → Leaves t P (record (with_reassembly a taker r) { notes = broken a.notes (marks_of (chain ++ cell ∷ [])) })
        by_taker ForGsmp = (let l : Leaves t P _ = gone chain in record { good = l.good; binds = l.binds })
        by_taker (ForDefault linked) = (let l : Leaves t P _ = gone chain in record { good = l.good; binds = l.binds })
        by_taker (ForLabel linked one) = (let l : Leaves t P _ = gone chain in record { good = l.good; binds = l.binds })
    ended taker r chain (Some payload) took_it last tame =
        let b : Acted = with_reassembly a taker r in
        let mark : Mark = last_mark (chain ++ cell ∷ []) in
        let same : mark ≡ cell.mark = last_is chain cell in
        let is_one : is_frame a.notes.frames mark payload ≡ true = fair a.notes mark payload (opened_frame (record b { notes = passed_test a.notes mark payload }) taker cell.mark (Some payload)).notes.records
        (opened_grows (record b { notes = passed_test a.notes mark payload }) taker cell.mark (Some payload)) tame in
        let right : passed_test a.notes mark payload ≡ a.notes = ap (λ (v : Bool). if v then a.notes else noted a.notes (Chance mark)) is_one in
        let is : payload_of a.notes.frames cell.mark ≡ Some payload = subst (λ (k : Mark). payload_of a.notes.frames k ≡ Some payload) same (is_made a.notes.frames mark payload is_one) in
        subst (λ (n : Journal). Leaves t P (frame_holds (record b { notes = n }) taker cell.mark payload)) (sym right) (as_noted taker (held taker r payload took_it last is))
      where
        as_noted : (taker : Taker) → Leaves t P (frame_holds (with_reassembly a taker r) taker cell.mark payload) → Leaves t P (frame_holds (record (with_reassembly a taker r) { notes = a.notes }) taker cell.mark payload)
        as_noted ForGsmp l = l
        as_noted (ForDefault linked) l = l
        as_noted (ForLabel linked one) l = l

    takes : (taker : Taker) → Took a.controller cell.header.channel (Some taker)
        → IsTame (after_cell a taker (taken a.notes (nat_lt 0 (free_slots a.controller)) (reassembly_of a.controller taker) cell)).notes.records
        → Leaves t P (after_cell a taker (taken a.notes (nat_lt 0 (free_slots a.controller)) (reassembly_of a.controller taker) cell))
    takes taker took_it tame =
        let r : Reassembly = reassembly_of a.controller taker in
        taken_cases (λ (x : Taken). IsTame (after_cell a taker x).notes.records → Leaves t P (after_cell a taker x)) a.notes (nat_lt 0 (free_slots a.controller)) r cell
        (λ free. rests t P (record a { notes = broken a.notes (cell.mark ∷ []) }) taker _ (gone []))
        (λ free. rests t P (record a { notes = broken (noted a.notes (Loss cell.mark PoolFull)) (marks_of r.chain) }) taker (skipping_from cell) (full r.chain))
        (λ free. rests t P (record a { notes = broken a.notes (marks_of (r.chain ++ cell ∷ [])) }) taker (skipping_from cell) (gone r.chain))
        (λ last free. chained taker r took_it last free)
        (λ last free. rests t P a taker (record r { chain = r.chain ++ cell ∷ [] })
        (record { good = good_hand t (in_hand cell) nothing now (λ k some. ap (λ (v : Bool). cond (v && (cell.mark.packet == k)) 1 0) last) good; binds = inl none })) tame
      where
        chained : (taker : Taker) (r : Reassembly) → Took a.controller cell.header.channel (Some taker) → cell.header.last ≡ true
            → IsTame (ends_frame (with_reassembly a taker (record r { chain = [] })) taker (r.chain ++ cell ∷ [])).notes.records
            → Leaves t P (ends_frame (with_reassembly a taker (record r { chain = [] })) taker (r.chain ++ cell ∷ []))
        chained taker r took_it last free =
            let s : Reassembly = record r { chain = [] } in
            let b : Acted = with_reassembly a taker s in
            let whole : ends_frame b taker (r.chain ++ cell ∷ []) ≡ after_test b taker cell.mark (tested a.notes (r.chain ++ cell ∷ [])) =
            chain_ended b taker r.chain cell ∙ ap (λ (n : Journal). after_test b taker cell.mark (tested n (r.chain ++ cell ∷ []))) (ap (λ (n : Now). n.notes) (same_now t a taker s)) in
            subst (Leaves t P) (sym whole)
            (ended taker s r.chain (payload_in (octets_of (r.chain ++ cell ∷ []))) took_it last (subst (λ (z : Acted). IsTame z.notes.records) whole free))

    pub cell_leaves : IsTame (cell_comes a cell).notes.records → Leaves t P (cell_comes a cell)
    cell_leaves tame = by (taker_of a.controller cell.header.channel) (took a.controller cell.header.channel) tame
      where
        by : (o : Option Taker) → Took a.controller cell.header.channel o → IsTame (takes_cell a cell o).notes.records → Leaves t P (takes_cell a cell o)
        by None took_it free = lost
        by (Some taker) took_it free = takes taker took_it free
