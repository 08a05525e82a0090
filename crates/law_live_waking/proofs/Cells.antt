-- a cell that comes to a controller on its control link ends a greeting that is heard, or leaves the two ends as they are

use Rattle.std.proofs.Common.{◌≡◌, ◌≢◌, ℕ, ◌+◌, ◌-◌, ◌<◌, Bool, true, false, List, [], ◌∷◌, ◌++◌, length, Option, None, Some, Result, Ok, refl, sym, ◌∙◌, ap, subst, arith, if◌then◌else◌}
use Rattle.std.specs.Prelude.{◌&&◌, nat_lt, not}
use Rattle.std.proofs.lemmas.Bool.Decides.{nat_tests}
use Rattle.world_model.specs.Words.{Mark, Cell, Frame, Journal, has_entry, payload_of, last_mark, payload_in, tested_by, next_instance, Party, Said, Side, Step, fresh, gsmp_answer, gsmp_received, greeting_of, Reassembly, Fits, Standing, Failed, answered, port_key, chains_with, same_channel, default_channel, gsmp_channel, gsmp_holds, ForGsmp, ForDefault, ForLabel, taker_of, taker_at, linked_at, port_on, on_link, reassembly_of, with_reassembly, frame_holds, takes_cell}
use Rattle.world_model.specs.gsmp_wire.declared.fault.Fault.{Fault}
use Rattle.world_model.specs.gsmp_wire.declared.message.Message.{Message}
use Rattle.world_model.specs.gsmp_wire.declared.message.Message.TheVariants.{Adjacency}
use Rattle.world_model.specs.gsmp_wire.Fields.{decoded}
use Rattle.world_model.specs.frame_model.Frame.{octets_of, tested, passed_test}
use Rattle.world_model.specs.frame_model.Reassembly.{Taken, taken}
use Rattle.world_model.specs.Controller.{Acted, free_slots}
use Rattle.world_model.specs.Gsmp.{steps}
use Rattle.world_model.specs.Cells.{Taker, after_cell, after_test, ends_frame, cell_comes}
use Rattle.law_run_facts.proofs.Takers.{OfTaker, taker_at_port}
use Rattle.law_run_facts.proofs.law_actor_pace.Cells.{ended_last}
use Rattle.law_running_worlds.specs.law_input_steps.Hearing.{IsEnded, PassesTrue}
use Rattle.law_running_worlds.specs.law_world_views.Made.{AreMade}
use Rattle.law_running_worlds.specs.law_world_views.Ready.{FitsSide}
use Rattle.law_running_worlds.proofs.MadeTame.{IsWhole, whole_chain}
use Rattle.law_running_worlds.proofs.Greeted.{AnswersWell, received_side, received_answers}
use Rattle.law_running_worlds.proofs.law_port_facts.Keyed.{put_every}
use Rattle.law_running_worlds.proofs.law_frame_readings.Reading.{read_said}
use Rattle.law_running_worlds.proofs.law_shown_cells.Tested.{frame_is}
use Rattle.law_live_frames.proofs.Coming.{last_is, finish, quiet, fails}
use Rattle.law_live_hearing.proofs.Taking.{Passes, passes}
use Rattle.law_live_meetings.specs.Exchange.{gsmp, side_after, said_in}
use Rattle.law_live_orders.specs.Law.{is_last_on}
use Rattle.law_live_orders.proofs.Switches.{first, second}
use Rattle.law_live_control.specs.Calm.{HasLinks}
use Rattle.law_live_control.proofs.Walks.{IsLinked}
use Rattle.law_live_control_links.proofs.Controllers.{taken_up}
use Rattle.law_live_control_links.proofs.Reading.{one_payload, payload_made, gsmp_alone}
use Rattle.law_live_waking.specs.Greetings.{Greets}
use Rattle.law_live_waking.proofs.Greetings.{IsOther}
use Rattle.law_live_waking.proofs.Switches.{nothing_said}
use Rattle.law_live_waking.proofs.Controllers.{Turns, IsUnspent, hears, holds_none}

-- *The parties of a greeting* that was made can be written
pub fits_made : (frames : List Frame) (mark : Mark) (message : Said Party) → AreMade frames → (is : Greets frames mark message) → Fits (Adjacency (greeting_of message))
fits_made frames mark message made is = (read_said mark is.payload (Adjacency (greeting_of message)) (made mark is.payload is.made) is.read).fits

pub answers_well : (side : Side Party) (message : Said Party) → FitsSide side → Fits (Adjacency (greeting_of message)) → AnswersWell (gsmp_answer (gsmp_received side (greeting_of message)).answer)
answers_well side message h fits = received_answers side (greeting_of message) fits (received_side side (greeting_of message) fits h)

-- fewer cells in a chain, more slots
pub more_free : (cells queue chain ports : ℕ) → nat_lt 0 (cells - (queue + (chain + ports))) ≡ true → nat_lt 0 (cells - (queue + (0 + ports))) ≡ true
more_free cells queue chain ports some = grind (arith, nat_tests)

module _ (a : Acted) (links : HasLinks a.controller) (cell : Cell) (marked : cell.mark.packet ≡ 0 → 0 < cell.mark.frame)
    (true_chain : (taker : Taker) → taker_of a.controller cell.header.channel ≡ Some taker → IsEnded (nat_lt 0 (free_slots a.controller)) (reassembly_of a.controller taker) cell
    → PassesTrue a.notes.frames ((reassembly_of a.controller taker).chain ++ cell ∷ [])) where
  abbrev slot : Bool
  slot = nat_lt 0 (free_slots a.controller)

  abbrev side : Side Party
  side = a.controller.adjacency

  -- *It is heard*: it ends a greeting, and the ledger has no entry of that behind it
  module _ (last : is_last_on gsmp_channel cell ≡ true) (message : Said Party) (is : Greets a.notes.frames cell.mark message)
      (unlost : has_entry (cell_comes a cell).notes.entries cell.mark ≡ false) (made : AreMade a.notes.frames) (fits : FitsSide side) where
    abbrev r : Reassembly
    r = a.controller.reassembly

    on : same_channel cell.header.channel default_channel ≡ true
    on = second cell.header.last (same_channel cell.header.channel gsmp_channel) last

    ends : cell.header.last ≡ true
    ends = first cell.header.last (same_channel cell.header.channel gsmp_channel) last

    takes : taker_of a.controller cell.header.channel ≡ Some ForGsmp
    takes = ap (λ (b : Bool). if b then Some ForGsmp else taker_at (linked_at a.controller (port_on cell.header.channel)) (on_link cell.header.channel)) on

    unlost_taken : has_entry (finish a ForGsmp (taken a.notes slot r cell)).entries cell.mark ≡ false
    unlost_taken = ap (λ (o : Option Taker). has_entry (takes_cell a cell o).notes.entries cell.mark) (sym takes) ∙ unlost

    p : Passes a.notes r cell slot ends (finish a ForGsmp) (quiet a ForGsmp) (fails a ForGsmp cell) unlost_taken
    p = passes a.notes r cell slot ends (finish a ForGsmp) (quiet a ForGsmp) (fails a ForGsmp cell) unlost_taken

    not_false : (b : Bool) → b ≡ true → not b ≡ false
    not_false true e = refl
    not_false false e = absurd (cc e)

    own : payload_of a.notes.frames cell.mark ≡ Some p.payload
    own = ap (payload_of a.notes.frames) (sym (last_is r.chain cell))
        ∙ frame_is a.notes.frames (last_mark (r.chain ++ cell ∷ [])) p.payload
        (true_chain ForGsmp takes (record { listens = p.going; slot_is = not_false slot p.slot_is; short = p.short; last = ends }) p.payload p.test)

    read : decoded p.payload ≡ Ok (Adjacency (greeting_of message))
    read = ap decoded (one_payload p.payload is.payload (sym own ∙ is.made)) ∙ is.read

    abbrev emptied : Acted
    emptied = with_reassembly a ForGsmp (record r { chain = [] })

    abbrev noted_there : Acted
    noted_there = record emptied { notes = passed_test a.notes cell.mark p.payload }

    ends_there : (b : Acted) (chain : List Cell) → ends_frame b ForGsmp (chain ++ cell ∷ []) ≡ after_test b ForGsmp (last_mark (chain ++ cell ∷ [])) (tested b.notes (chain ++ cell ∷ []))
    ends_there b [] = refl
    ends_there b (x ∷ chain) = refl

    acted : cell_comes a cell ≡ steps noted_there (gsmp_received side (greeting_of message))
    acted = ap (λ (o : Option Taker). takes_cell a cell o) takes
        ∙ (ap (λ (u : Taken). after_cell a ForGsmp u) p.left
        ∙ (ends_there emptied r.chain
        ∙ (ap (λ (o : Option (List ℕ)). after_test emptied ForGsmp (last_mark (r.chain ++ cell ∷ [])) (tested_by a.notes (r.chain ++ cell ∷ []) o)) p.test
        ∙ (ap (λ (m : Mark). frame_holds (record emptied { notes = passed_test a.notes m p.payload }) ForGsmp m p.payload) (last_is r.chain cell)
        ∙ ap (λ (x : Result Message Fault). gsmp_holds noted_there x) read))))

    abbrev step : Step Party
    step = gsmp_received side (greeting_of message)

    pub heard_so : IsUnspent (cell_comes a cell)
        → Turns a (cell_comes a cell) (side_after (fresh gsmp.first (record (gsmp_received side (greeting_of message)).side.own { instance = next_instance a.numbers }))
        (gsmp_received side (greeting_of message)).answer (gsmp_received side (greeting_of message)).side) (said_in (gsmp_received side (greeting_of message)).answer)
    heard_so = subst (λ (b : Acted). IsUnspent b → Turns a b (side_after (fresh gsmp.first (record step.side.own { instance = next_instance a.numbers })) step.answer step.side) (said_in step.answer)) (sym acted)
        (λ unspent. (let t = hears noted_there (record { ports = links.ports; routes = links.routes }) (more_free a.controller.cells (length a.controller.queue) (length r.chain) _ p.slot_is)
        step (answers_well side message fits (fits_made a.notes.frames cell.mark message made is)) unspent in record { adjacency = t.adjacency; acts = t.acts }))

  -- *It is no turn*, where it ends no greeting
  abbrev pub Unheard : Type 0
  Unheard = (payload : List ℕ) (message : Message) → is_last_on gsmp_channel cell ≡ true → payload_of a.notes.frames cell.mark ≡ Some payload → decoded payload ≡ Ok message
      → IsOther message × ((s : Standing) (code : ℕ) → answered a.controller.desk message ≢ Failed s code)

  abbrev gathered : Journal → Taker → Reassembly → Acted
  gathered notes taker r = with_reassembly (record a { notes = notes }) taker r

  still : (notes : Journal) (taker : Taker) (r : Reassembly) → Turns a (gathered notes taker r) side []
  still notes ForGsmp r = record { adjacency = refl; acts = nothing_said notes.frames a.controller.queue }
  still notes (ForDefault linked) r = record { adjacency = refl; acts = nothing_said notes.frames a.controller.queue }
  still notes (ForLabel linked label) r = record { adjacency = refl; acts = nothing_said notes.frames a.controller.queue }

  with_links : (notes : Journal) (taker : Taker) (r : Reassembly) → OfTaker IsLinked taker → HasLinks (gathered notes taker r).controller
  with_links notes ForGsmp r l = record { ports = links.ports; routes = links.routes }
  with_links notes (ForDefault linked) r l = record { ports = put_every port_key IsLinked (record linked { reassembly = r }) a.controller.ports l links.ports; routes = links.routes }
  with_links notes (ForLabel linked label) r l =
      record { ports = put_every port_key IsLinked (record linked { chains = chains_with linked.chains label.number r }) a.controller.ports l links.ports; routes = links.routes }

  abbrev HoldsOther : Taker → List ℕ → Type 0
  HoldsOther taker payload = taker ≡ ForGsmp → (message : Message) → decoded payload ≡ Ok message → IsOther message × ((s : Standing) (code : ℕ) → answered a.controller.desk message ≢ Failed s code)

  frame : (notes : Journal) (taker : Taker) (r : Reassembly) → OfTaker IsLinked taker → (payload : List ℕ) → HoldsOther taker payload
      → IsUnspent (frame_holds (gathered notes taker r) taker cell.mark payload) → Turns a (frame_holds (gathered notes taker r) taker cell.mark payload) side []
  frame notes ForGsmp r l payload other unspent =
      let t = holds_none (gathered notes ForGsmp r) (with_links notes ForGsmp r l) ForGsmp cell.mark payload marked other unspent in
      record { adjacency = t.adjacency; acts = t.acts }
  frame notes (ForDefault linked) r l payload other unspent =
      let t = holds_none (gathered notes (ForDefault linked) r) (with_links notes (ForDefault linked) r l) (ForDefault linked) cell.mark payload marked (λ e. absurd (cc e)) unspent in
      record { adjacency = t.adjacency; acts = t.acts }
  frame notes (ForLabel linked label) r l payload other unspent =
      let t = holds_none (gathered notes (ForLabel linked label) r) (with_links notes (ForLabel linked label) r l) (ForLabel linked label) cell.mark payload marked (λ e. absurd (cc e)) unspent in
      record { adjacency = t.adjacency; acts = t.acts }

  noted_later : (notes later : Journal) (taker : Taker) (r : Reassembly) → record (gathered notes taker r) { notes = later } ≡ gathered later taker r
  noted_later notes later ForGsmp r = refl
  noted_later notes later (ForDefault linked) r = refl
  noted_later notes later (ForLabel linked label) r = refl

  tests : (notes : Journal) (taker : Taker) (r : Reassembly) → OfTaker IsLinked taker → (cells : List Cell) (o : Option (List ℕ)) → ((payload : List ℕ) → o ≡ Some payload → HoldsOther taker payload)
      → IsUnspent (after_test (gathered notes taker r) taker cell.mark (tested_by (gathered notes taker r).notes cells o))
      → Turns a (after_test (gathered notes taker r) taker cell.mark (tested_by (gathered notes taker r).notes cells o)) side []
  tests notes taker r l cells None other unspent =
      let later : Journal = (tested_by (gathered notes taker r).notes cells None).notes in
      subst (λ (b : Acted). Turns a b side []) (sym (noted_later notes later taker r)) (still later taker r)
  tests notes taker r l cells (Some payload) other unspent =
      let later : Journal = (tested_by (gathered notes taker r).notes cells (Some payload)).notes in
      subst (λ (b : Acted). IsUnspent (frame_holds b taker cell.mark payload) → Turns a (frame_holds b taker cell.mark payload) side []) (sym (noted_later notes later taker r))
      (frame later taker r l payload (other payload refl)) unspent

  chain_ends : (notes : Journal) (taker : Taker) (r : Reassembly) → OfTaker IsLinked taker → (cells : List Cell) → ((head : Cell) (rest : List Cell) → cells ≡ head ∷ rest → last_mark (head ∷ rest) ≡ cell.mark)
      → ((head : Cell) (rest : List Cell) (payload : List ℕ) → cells ≡ head ∷ rest → payload_in (octets_of (head ∷ rest)) ≡ Some payload → HoldsOther taker payload)
      → IsUnspent (ends_frame (gathered notes taker r) taker cells) → Turns a (ends_frame (gathered notes taker r) taker cells) side []
  chain_ends notes taker r l [] marked_so other unspent = still notes taker r
  chain_ends notes taker r l (head ∷ rest) marked_so other unspent = subst (λ (m : Mark). IsUnspent (after_test (gathered notes taker r) taker m (tested (gathered notes taker r).notes (head ∷ rest)))
      → Turns a (after_test (gathered notes taker r) taker m (tested (gathered notes taker r).notes (head ∷ rest))) side []) (sym (marked_so head rest refl))
      (tests notes taker r l (head ∷ rest) (payload_in (octets_of (head ∷ rest))) (λ payload passes_so. other head rest payload refl passes_so)) unspent

  pub unheard_so : Unheard → IsUnspent (cell_comes a cell) → Turns a (cell_comes a cell) side []
  unheard_so quietly = by (taker_of a.controller cell.header.channel) refl
    where
      holds : (taker : Taker) → taker_of a.controller cell.header.channel ≡ Some taker → (head : Cell) (rest : List Cell) (payload : List ℕ)
          → (taken_up a cell taker).ended ≡ head ∷ rest → payload_in (octets_of (head ∷ rest)) ≡ Some payload → HoldsOther taker payload
      holds taker found head rest payload ended passes_so gsmp_takes message is =
          let whole : IsWhole slot (reassembly_of a.controller taker) cell (head ∷ rest) = whole_chain a.notes slot (reassembly_of a.controller taker) cell head rest ended in
          quietly payload message (both cell.header.last (same_channel cell.header.channel gsmp_channel) whole.is_ended.last
          (gsmp_alone a.controller cell.header.channel (found ∙ ap (λ (t : Taker). Some t) gsmp_takes)))
          (payload_made a.notes.frames a.notes slot (reassembly_of a.controller taker) cell (true_chain taker found) head rest payload ended passes_so) is
        where
          both : (x y : Bool) → x ≡ true → y ≡ true → (x && y) ≡ true
          both true y e f = f
          both false y e f = absurd (cc e)

      by : (o : Option Taker) → taker_of a.controller cell.header.channel ≡ o → IsUnspent (takes_cell a cell o) → Turns a (takes_cell a cell o) side []
      by None found unspent = record { adjacency = refl; acts = nothing_said a.notes.frames a.controller.queue }
      by (Some taker) found unspent =
          let t : Taken = taken_up a cell taker in
          chain_ends t.notes taker t.reassembly (taker_at_port IsLinked a.controller cell.header.channel taker links.ports found) t.ended
          (λ head rest e. ended_last a.notes slot (reassembly_of a.controller taker) cell head rest e) (holds taker found) unspent
