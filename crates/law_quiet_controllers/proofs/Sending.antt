-- what a controller asks and sends leads no more from one label to another than may be: the judgement, and each frame

use Rattle.std.proofs.Common.{◌≡◌, ◌≢◌, ℕ, ◌+◌, ◌<◌, ◌≤◌, Bool, true, false, cond, List, [], ◌∷◌, ◌++◌, length, Option, Some, refl, sym, ◌∙◌, ap, subst, arith, map, ◌⊎◌, inl, inr}
use Rattle.std.specs.Prelude.{◌/◌, nat_le}
use Rattle.std.specs.List.{range_with_len}
use Rattle.std.specs.Option.{option_and_then}
use Rattle.law_controller_facts.specs.world_model.Words.{Channel, End, Mark, next_control, with_control, Cell, Request, AddBranch, MoveBranch, Frame, Loss, PoolFull, payload_of, same_mark, noted, frame_cells, made, Desk, Standing, last_transaction, Setup, home_of, Controller, default_channel, same_channel, sends_control, gsmp_of, copy_of, copy_under}
use Rattle.law_actor_pace.specs.aal5_frames.Frame.{cells_with, cell_of, pdu_of}
use Rattle.law_controller_facts.proofs.world_model.link_model.Latest.{payload_of_push}
use Rattle.law_controller_facts.proofs.world_model.link_model.Marks.{same_mark-Decides}
use Rattle.law_controller_facts.specs.world_model.frame_model.Sending.{Sender}
use Rattle.law_controller_facts.specs.ordered_lists.Ordered.{Every}
use Rattle.law_controller_facts.proofs.ordered_lists.Every.{every_join, every_map}
use Rattle.law_controller_facts.specs.law_port_facts.Port.{IsShaped, asks_ports, empties_control, empties_port, opens_input, opens_output, leads_label, leads_grant, joins_label, parts_label, frees_label, MovesNone}
use Rattle.law_controller_facts.proofs.law_port_facts.Keyed.{on_both}
use Rattle.law_controller_facts.specs.world_model.Controller.{Acted, free_slots}
use Rattle.law_controller_facts.specs.world_model.Sending.{with_cells, sends}
use Rattle.law_controller_facts.proofs.Moves.{HasPorts, sending, moves_to, moves_ports}
use Rattle.law_quiet_controllers.specs.Quiet.{May, asked_by, AreRead, IsFine, IsMeant, waited, fresh, carries, elsewhere, AskTheSame, IsQuiet}

-- the cells of a frame have its mark and its channel
abbrev pub IsOfFrame : Channel → Mark → Cell → Type 0
IsOfFrame channel mark cell = (cell.mark ≡ mark) × (cell.header.channel ≡ channel)

every_value : {A B : Type 0} (P : B → Type 0) (f : A → B) (xs : List A) → ((x : A) → P (f x)) → Every P (map f xs)
every_value P f [] each = tt
every_value P f (x ∷ xs) each = (each x, every_value P f xs each)

frame_is : (channel : Channel) (mark : Mark) (payload : List ℕ) → Every (IsOfFrame channel mark) (frame_cells channel mark payload)
unfolding cells_with
frame_is channel mark payload = every_value (IsOfFrame channel mark) (cell_of channel mark (pdu_of payload)) (range_with_len 0 (length (pdu_of payload) / 48)) (λ k. (refl, refl))

made_is : (frames : List Frame) (mark : Mark) (payload : List ℕ) → payload_of (frames ++ record { mark = mark; payload = payload } ∷ []) mark ≡ Some payload
made_is frames mark payload = payload_of_push frames (record { mark = mark; payload = payload }) mark
    ∙ ap (λ b. cond b (Some payload) (payload_of frames mark)) ((same_mark-Decides mark mark).1 refl)

-- *What a frame asks*, once another was made
pub made_asks : (frames : List Frame) (mark other : Mark) (payload : List ℕ) (s : Standing) → copy_under (frames ++ record { mark = mark; payload = payload } ∷ []) other ≡ Some s
    → (copy_under frames other ≡ Some s) ⊎ ((mark ≡ other) × (asked_by payload ≡ Some s))
made_asks frames mark other payload s e = by (same_mark mark other) refl
    (ap (λ (o : Option (List ℕ)). option_and_then copy_of (option_and_then gsmp_of o)) (sym (payload_of_push frames (record { mark = mark; payload = payload }) other)) ∙ e)
  where
    by : (b : Bool) → same_mark mark other ≡ b → option_and_then copy_of (option_and_then gsmp_of (cond b (Some payload) (payload_of frames other))) ≡ Some s
        → (copy_under frames other ≡ Some s) ⊎ ((mark ≡ other) × (asked_by payload ≡ Some s))
    by true t k = inr ((same_mark-Decides mark other).0 t, k)
    by false t k = inl k

module _ (setups : List Setup) (Allowed : End → End → Type 0) (controls : ℕ) (frames : List Frame) (queue : List Cell) where
  abbrev pub Holds : Acted → Type 0
  Holds a = IsQuiet setups Allowed controls frames queue a

  pub ports_of_quiet : (a : Acted) → Holds a → HasPorts setups a
  ports_of_quiet a h = record { ports = h.ports; shaped = h.shaped }

  abbrev pub On : Acted → Acted → Type 0
  On a b = Holds a → Holds b

  -- *Where nothing is asked or sent*
  pub same_on : (a b : Acted) → b.controller.desk ≡ a.controller.desk → b.controller.queue ≡ a.controller.queue → b.notes.frames ≡ a.notes.frames → b.numbers.controls ≡ a.numbers.controls
      → HasPorts setups b → On a b
  same_on a b desk queued frames_same numbers ports h = record {
    ports = ports.ports;
    shaped = ports.shaped;
    reads = subst (λ (d : Desk). AreRead setups d.rows) (sym desk) h.reads;
    room = subst (λ (d : Desk). d.next ≤ last_transaction) (sym desk) h.room;
    fine = subst (λ (d : Desk). Every (IsFine Allowed d.next) d.standing) (sym desk) h.fine;
    given = subst (λ (n : ℕ). controls ≤ n) (sym numbers) h.given;
    copies = subst (λ (f : List Frame). AskTheSame controls frames f) (sym frames_same) h.copies;
    waits = subst (λ (f : List Frame). Every (IsMeant Allowed controls queue f b.numbers.controls) b.controller.queue) (sym frames_same)
        (subst (λ (n : ℕ). Every (IsMeant Allowed controls queue a.notes.frames n) b.controller.queue) (sym numbers)
        (subst (Every (IsMeant Allowed controls queue a.notes.frames a.numbers.controls)) (sym queued) h.waits));
  }

  -- *A frame is made*: what other marks asked stays
  abbrev pub Says : (payload : List ℕ) → Type 0
  Says payload = (s : Standing) → asked_by payload ≡ Some s → May Allowed s.request

  abbrev After : List Frame → Mark → List ℕ → List Frame
  After old mark payload = old ++ record { mark = mark; payload = payload } ∷ []

  -- a mark that no cell of the queue that was made since has, nor one that was given out at first
  abbrev IsNew : ℕ → Mark → Type 0
  IsNew now mark = mark.packet ≡ 0 → now < mark.frame

  apart : (now : ℕ) (mark other : Mark) → IsNew now mark → other.packet ≡ 0 → other.frame ≤ now → mark ≡ other → ⊥
  apart now mark other new control le is = below (new (ap (λ (m : Mark). m.packet) is ∙ control)) (ap (λ (m : Mark). m.frame) is) le
    where
      below : {m n k : ℕ} → k < m → m ≡ n → n ≤ k → ⊥
      below less e le = absurd (omega (arith, less, e, le))

  meant_still : (old : List Frame) (now : ℕ) (mark : Mark) (payload : List ℕ) → IsNew now mark → (cell : Cell) → IsMeant Allowed controls queue old now cell → IsMeant Allowed controls queue (After old mark payload) now cell
  meant_still old now mark payload new cell (waited w) = waited w
  meant_still old now mark payload new cell (carries c) = carries c
  meant_still old now mark payload new cell (elsewhere e) = elsewhere e
  meant_still old now mark payload new cell (fresh control later le may) = fresh control later le (λ s e. elim (made_asks old mark cell.mark payload s e) [
    | inl before ↦ may s before
    | inr here ↦ absurd (apart now mark cell.mark new control le here.0)
  ])

  le_then : (m n k : ℕ) → m ≤ n → n ≤ k → m ≤ k
  le_then m n k a b = omega (arith, a, b)

  meant_later : (old : List Frame) (now later_now : ℕ) → now ≤ later_now → (cell : Cell) → IsMeant Allowed controls queue old now cell → IsMeant Allowed controls queue old later_now cell
  meant_later old now later_now more cell (waited w) = waited w
  meant_later old now later_now more cell (carries c) = carries c
  meant_later old now later_now more cell (elsewhere e) = elsewhere e
  meant_later old now later_now more cell (fresh control later le may) = fresh control later (le_then cell.mark.frame now later_now le more) may

  copies_still : (old : List Frame) (now : ℕ) (mark : Mark) (payload : List ℕ) → IsNew now mark → controls ≤ now → AskTheSame controls frames old → AskTheSame controls frames (After old mark payload)
  copies_still old now mark payload new given copies other s control le e = elim (made_asks old mark other payload s e) [
    | inl before ↦ copies other s control le before
    | inr here ↦ absurd (apart now mark other new control (le_then other.frame controls now le given) here.0)
  ]

  -- *A frame is sent* under a new mark, by cells that are meant
  sent_on : (a : Acted) (now : ℕ) (channel : Channel) (mark : Mark) (payload : List ℕ) → IsNew now mark → now ≤ a.numbers.controls → controls ≤ now
      → Every (IsMeant Allowed controls queue a.notes.frames now) a.controller.queue
      → ((cell : Cell) → IsOfFrame channel mark cell → IsMeant Allowed controls queue (After a.notes.frames mark payload) a.numbers.controls cell)
      → HasPorts setups a → AreRead setups a.controller.desk.rows → a.controller.desk.next ≤ last_transaction → Every (IsFine Allowed a.controller.desk.next) a.controller.desk.standing → AskTheSame controls frames a.notes.frames
      → Holds (sends a channel mark payload)
  sent_on a now channel mark payload new le given old news ports reads room fine copies =
      let still : Every (IsMeant Allowed controls queue (After a.notes.frames mark payload) a.numbers.controls) a.controller.queue =
      every_map (IsMeant Allowed controls queue a.notes.frames now) (IsMeant Allowed controls queue (After a.notes.frames mark payload) a.numbers.controls) a.controller.queue
      (λ cell m. meant_later (After a.notes.frames mark payload) now a.numbers.controls le cell (meant_still a.notes.frames now mark payload new cell m)) old in
      let more : AskTheSame controls frames (After a.notes.frames mark payload) = copies_still a.notes.frames now mark payload new given copies in
      let all : controls ≤ a.numbers.controls = le_then controls now a.numbers.controls given le in
      on_both (λ (s : Sender Controller). HasPorts setups (record a { controller = s.queues; notes = s.notes }) → Holds (record a { controller = s.queues; notes = s.notes }))
      (nat_le (length (frame_cells channel mark payload)) (free_slots a.controller))
      (record { queues = with_cells a.controller (frame_cells channel mark payload); notes = made a.notes mark payload })
      (record { queues = a.controller; notes = noted (made a.notes mark payload) (Loss mark PoolFull) })
      (λ k. record {
        ports = k.ports;
        shaped = k.shaped;
        reads = reads;
        room = room;
        fine = fine;
        given = all;
        copies = more;
        waits = every_join (IsMeant Allowed controls queue (After a.notes.frames mark payload) a.numbers.controls) a.controller.queue (frame_cells channel mark payload) still
            (every_map (IsOfFrame channel mark) (IsMeant Allowed controls queue (After a.notes.frames mark payload) a.numbers.controls) (frame_cells channel mark payload) news (frame_is channel mark payload));
      })
      (λ k. record { ports = k.ports; shaped = k.shaped; reads = reads; room = room; fine = fine; given = all; copies = more; waits = still })
      (moves_ports setups (moves_to (sending a channel mark payload)) ports)

  self_le : (n : ℕ) → n ≤ n
  self_le n = omega arith

  more_le : (n : ℕ) → n ≤ n + 1
  more_le n = omega arith

  one_more : (n : ℕ) → n < n + 1
  one_more n = omega arith

  le_less : (m n : ℕ) → m ≤ n → m < n + 1
  le_less m n le = omega (arith, le)

  -- a packet's
  pub packet_on : (a : Acted) (channel : Channel) (mark : Mark) (payload : List ℕ) → mark.packet ≢ 0 → On a (sends a channel mark payload)
  packet_on a channel mark payload other h = sent_on a a.numbers.controls channel mark payload (λ e. absurd (other e)) (self_le a.numbers.controls) h.given h.waits
      (λ cell is. carries (λ e. other (ap (λ (m : Mark). m.packet) (sym is.0) ∙ e))) (ports_of_quiet a h) h.reads h.room h.fine h.copies

  -- under the next control mark
  next_on : (a : Acted) (channel : Channel) (payload : List ℕ)
      → ((cell : Cell) → IsOfFrame channel (next_control a.numbers) cell → IsMeant Allowed controls queue (After a.notes.frames (next_control a.numbers) payload) (a.numbers.controls + 1) cell) → On a (sends_control a channel payload)
  next_on a channel payload news h = sent_on (record a { numbers = with_control a.numbers }) a.numbers.controls channel (next_control a.numbers) payload (λ e. one_more a.numbers.controls) (more_le a.numbers.controls) h.given h.waits
      news (record { ports = h.ports; shaped = h.shaped }) h.reads h.room h.fine h.copies

  -- that asks what may be asked
  pub control_on : (a : Acted) (channel : Channel) (payload : List ℕ) → Says payload → On a (sends_control a channel payload)
  control_on a channel payload says h = next_on a channel payload (λ cell is. fresh (ap (λ (m : Mark). m.packet) is.0)
      (subst (λ (m : Mark). controls < m.frame) (sym is.0) (le_less controls a.numbers.controls h.given)) (subst (λ (m : Mark). m.frame ≤ a.numbers.controls + 1) (sym is.0) (self_le (a.numbers.controls + 1)))
      (λ s e. says s (sym (ap (λ (o : Option (List ℕ)). option_and_then copy_of (option_and_then gsmp_of o))
      (ap (payload_of (After a.notes.frames (next_control a.numbers) payload)) is.0 ∙ made_is a.notes.frames (next_control a.numbers) payload)) ∙ e))) h

  -- and on another channel than GSMP's
  pub elsewhere_on : (a : Acted) (channel : Channel) (payload : List ℕ) → same_channel channel default_channel ≡ false → On a (sends_control a channel payload)
  elsewhere_on a channel payload away h = next_on a channel payload (λ cell is. elsewhere (ap (λ (c : Channel). same_channel c default_channel) is.1 ∙ away)) h

  -- *Home and back* leads nowhere else
  no_port : (n : ℕ) → n ≡ 0 → 0 < n → ⊥
  no_port n is some = absurd (omega (arith, is, some))

  first_of_two : (i o : End) (input output : End) → ◌≡◌ {A = Option (End × End)} (Some (i, o)) (Some (input, output)) → i ≡ input
  first_of_two i o input output e = (let both : ◌≡◌ {A = End × End} (i, o) (input, output) = cc e in ap (λ (p : End × End). p.0) both)

  second_of_two : (i o : End) (input output : End) → ◌≡◌ {A = Option (End × End)} (Some (i, o)) (Some (input, output)) → o ≡ output
  second_of_two i o input output e = (let both : ◌≡◌ {A = End × End} (i, o) (input, output) = cc e in ap (λ (p : End × End). p.1) both)

  pub to_home : (end home : End) → home.port.0 ≡ 0 → May Allowed (AddBranch end home)
  to_home end home zero input output above below e = absurd (no_port output.port.0 (ap (λ (x : End). x.port.0) (sym (second_of_two end home input output e)) ∙ zero) below)

  pub from_home : (home end : End) → home.port.0 ≡ 0 → May Allowed (AddBranch home end)
  from_home home end zero input output above below e = absurd (no_port input.port.0 (ap (λ (x : End). x.port.0) (sym (first_of_two home end input output e)) ∙ zero) above)

  pub moves_home : (moved from : End) → May Allowed (MoveBranch moved from (home_of moved))
  moves_home moved from input output above below e = absurd (no_port output.port.0 (ap (λ (x : End). x.port.0) (sym (second_of_two moved (home_of moved) input output e))) below)

  -- what has a shape and moves nothing
  pub stays_home : (request : Request) → IsShaped setups request → MovesNone request → May Allowed request
  stays_home _ asks_ports none = λ input output above below e. absurd (cc e)
  stays_home _ (empties_control port is) none = λ input output above below e. absurd (cc e)
  stays_home _ (empties_port port linked) none = λ input output above below e. absurd (cc e)
  stays_home _ (opens_input end is) none = to_home end (home_of end) refl
  stays_home _ (opens_output end is) none = from_home (home_of end) end refl
  stays_home _ (leads_label end is) none = to_home end (home_of end) refl
  stays_home _ (leads_grant end is) none = from_home (home_of end) end refl
  stays_home _ (joins_label input output i o) none = absurd none
  stays_home _ (parts_label input output i o) none = moves_home input output
  stays_home _ (frees_label end is) none = λ input output above below e. absurd (cc e)
