-- a cell comes to a controller that has met its switch

use Rattle.std.proofs.Common.{◌≡◌, ◌≢◌, ℕ, ◌<◌, List, [], ◌∷◌, ◌++◌, Option, None, Some, Ok, refl, sym, ◌∙◌, ap, subst, append-nil}
use Rattle.std.specs.Prelude.{nat_lt}
use Rattle.world_model.specs.Words.{Party, Side, Mark, Cell, Standing, last_transaction, Loss, Unbound, Journal, last_mark, payload_in, tested_by, Reassembly, port_key, chains_with, ForGsmp, ForDefault, ForLabel, taker_of, reassembly_of, with_reassembly, frame_holds, takes_cell}
use Rattle.world_model.specs.gsmp_wire.declared.message.Message.{Message}
use Rattle.world_model.specs.gsmp_wire.Fields.{decoded}
use Rattle.world_model.specs.frame_model.Frame.{octets_of}
use Rattle.world_model.specs.frame_model.Reassembly.{Taken, taken}
use Rattle.world_model.specs.Controller.{Acted, free_slots, note}
use Rattle.world_model.specs.Cells.{Taker, after_test, ends_frame, cell_comes}
use Rattle.live_model.specs.Met.{HaveMet}
use Rattle.law_running_worlds.proofs.law_port_facts.Keyed.{put_every}
use Rattle.law_run_facts.proofs.Takers.{OfTaker, taker_at_port}
use Rattle.law_run_facts.proofs.law_actor_pace.Cells.{ended_last}
use Rattle.law_live_control.specs.Calm.{IsCalmUp, GoesOn, ControllerGoesOn, HasLinks}
use Rattle.law_live_control.proofs.Sides.{stays_so}
use Rattle.law_live_control.proofs.Walks.{IsLinked, Tells}
use Rattle.law_live_control.proofs.Controllers.{frame_so}

-- what a cell leaves of the channel that takes it
abbrev pub taken_up : Acted → Cell → Taker → Taken
taken_up a cell taker = taken a.notes (nat_lt 0 (free_slots a.controller)) (reassembly_of a.controller taker) cell

module _ (Calm : Message → Type 0) (Clear : List Standing → Type 0) (calmly : Tells Calm Clear)
    (a : Acted) (switch : Side Party) (met : HaveMet a.controller.adjacency switch) (links : HasLinks a.controller) where
  abbrev pub Goes : Acted → Type 0
  Goes after = ControllerGoesOn Calm a after

  -- no number is spent behind it, and what stands is clear
  abbrev pub IsClear : Acted → Type 0
  IsClear after = (after.controller.desk.next ≢ last_transaction) × Clear after.controller.desk.standing

  abbrev gathered : Journal → Taker → Reassembly → Acted
  gathered notes taker r = with_reassembly (record a { notes = notes }) taker r

  -- as it was but for a chain
  rebase : (b after : Acted) → b.controller.adjacency ≡ a.controller.adjacency → b.controller.queue ≡ a.controller.queue → b.controller.node ≡ a.controller.node
      → ControllerGoesOn Calm b after → Goes after
  rebase b after side queue node h = record {
    side = subst (λ (s : Side Party). GoesOn s after.controller.adjacency) side h.side;
    says = record { node = h.says.node ∙ node; later = h.says.later; queue = h.says.queue ∙ ap (λ (q : List Cell). q ++ h.says.later) queue; calm = h.says.calm };
  }

  same : (b : Acted) → b.controller.adjacency ≡ a.controller.adjacency → b.controller.queue ≡ a.controller.queue → b.controller.node ≡ a.controller.node → Goes b
  same b side queue node = rebase b b side queue node (record {
    side = stays_so b.controller.adjacency;
    says = record { node = refl; later = []; queue = sym (append-nil b.controller.queue); calm = tt };
  })

  quiet : (notes : Journal) (taker : Taker) (r : Reassembly) → Goes (gathered notes taker r)
  quiet notes ForGsmp r = same (gathered notes ForGsmp r) refl refl refl
  quiet notes (ForDefault linked) r = same (gathered notes (ForDefault linked) r) refl refl refl
  quiet notes (ForLabel linked label) r = same (gathered notes (ForLabel linked label) r) refl refl refl

  with_links : (notes : Journal) (taker : Taker) (r : Reassembly) → OfTaker IsLinked taker → HasLinks (gathered notes taker r).controller
  with_links notes ForGsmp r p = record { ports = links.ports; routes = links.routes }
  with_links notes (ForDefault linked) r p = record { ports = put_every port_key IsLinked (record linked { reassembly = r }) a.controller.ports p links.ports; routes = links.routes }
  with_links notes (ForLabel linked label) r p =
      record { ports = put_every port_key IsLinked (record linked { chains = chains_with linked.chains label.number r }) a.controller.ports p links.ports; routes = links.routes }

  noted_later : (notes later : Journal) (taker : Taker) (r : Reassembly) → record (gathered notes taker r) { notes = later } ≡ gathered later taker r
  noted_later notes later ForGsmp r = refl
  noted_later notes later (ForDefault linked) r = refl
  noted_later notes later (ForLabel linked label) r = refl

  -- *A frame* acts
  abbrev ReadsCalm : Taker → (payload : List ℕ) → Type 0
  ReadsCalm taker payload = taker ≡ ForGsmp → (message : Message) → decoded payload ≡ Ok message → IsCalmUp a.controller.adjacency.own switch.own message

  abbrev IsMarked : Mark → Type 0
  IsMarked mark = mark.packet ≡ 0 → 0 < mark.frame

  frame : (notes : Journal) (taker : Taker) (r : Reassembly) → OfTaker IsLinked taker → (mark : Mark) (payload : List ℕ) → IsMarked mark → ReadsCalm taker payload
      → IsClear (frame_holds (gathered notes taker r) taker mark payload) → Goes (frame_holds (gathered notes taker r) taker mark payload)
  frame notes ForGsmp r p mark payload marked calm clear =
      let b : Acted = gathered notes ForGsmp r in
      rebase b (frame_holds b ForGsmp mark payload) refl refl refl (frame_so Calm Clear calmly b switch met (with_links notes ForGsmp r p) ForGsmp mark payload marked calm clear)
  frame notes (ForDefault linked) r p mark payload marked calm clear =
      let b : Acted = gathered notes (ForDefault linked) r in
      rebase b (frame_holds b (ForDefault linked) mark payload) refl refl refl (frame_so Calm Clear calmly b switch met (with_links notes (ForDefault linked) r p) (ForDefault linked) mark payload marked calm clear)
  frame notes (ForLabel linked label) r p mark payload marked calm clear =
      let b : Acted = gathered notes (ForLabel linked label) r in
      rebase b (frame_holds b (ForLabel linked label) mark payload) refl refl refl (frame_so Calm Clear calmly b switch met (with_links notes (ForLabel linked label) r p) (ForLabel linked label) mark payload marked calm clear)

  -- *A chain ends*
  abbrev EndsCalm : Taker → List Cell → Type 0
  EndsCalm taker cells = (first : Cell) (rest : List Cell) (payload : List ℕ) → cells ≡ first ∷ rest → payload_in (octets_of (first ∷ rest)) ≡ Some payload → ReadsCalm taker payload

  tests : (notes : Journal) (taker : Taker) (r : Reassembly) → OfTaker IsLinked taker → (mark : Mark) → IsMarked mark → (cells : List Cell) (o : Option (List ℕ))
      → ((payload : List ℕ) → o ≡ Some payload → ReadsCalm taker payload)
      → IsClear (after_test (gathered notes taker r) taker mark (tested_by (gathered notes taker r).notes cells o))
      → Goes (after_test (gathered notes taker r) taker mark (tested_by (gathered notes taker r).notes cells o))
  tests notes taker r p mark marked cells None calm clear =
      let later : Journal = (tested_by (gathered notes taker r).notes cells None).notes in
      subst Goes (sym (noted_later notes later taker r)) (quiet later taker r)
  tests notes taker r p mark marked cells (Some payload) calm clear =
      let later : Journal = (tested_by (gathered notes taker r).notes cells (Some payload)).notes in
      subst (λ (b : Acted). IsClear (frame_holds b taker mark payload) → Goes (frame_holds b taker mark payload)) (sym (noted_later notes later taker r))
      (frame later taker r p mark payload marked (calm payload refl)) clear

  ends : (notes : Journal) (taker : Taker) (r : Reassembly) → OfTaker IsLinked taker → (cells : List Cell) → ((first : Cell) (rest : List Cell) → cells ≡ first ∷ rest → IsMarked (last_mark (first ∷ rest)))
      → EndsCalm taker cells → IsClear (ends_frame (gathered notes taker r) taker cells) → Goes (ends_frame (gathered notes taker r) taker cells)
  ends notes taker r p [] marked calm clear = quiet notes taker r
  ends notes taker r p (first ∷ rest) marked calm clear =
      tests notes taker r p (last_mark (first ∷ rest)) (marked first rest refl) (first ∷ rest) (payload_in (octets_of (first ∷ rest))) (λ payload is. calm first rest payload refl is) clear

  -- *A cell*
  pub cell_goes : (cell : Cell) → IsMarked cell.mark → ((taker : Taker) → taker_of a.controller cell.header.channel ≡ Some taker → EndsCalm taker (taken_up a cell taker).ended)
      → IsClear (cell_comes a cell) → Goes (cell_comes a cell)
  cell_goes cell marked calm = by (taker_of a.controller cell.header.channel) refl
    where
      by : (o : Option Taker) → taker_of a.controller cell.header.channel ≡ o → IsClear (takes_cell a cell o) → Goes (takes_cell a cell o)
      by None found clear = same (note a (Loss cell.mark Unbound)) refl refl refl
      by (Some taker) found clear =
          let t : Taken = taken_up a cell taker in
          ends t.notes taker t.reassembly (taker_at_port IsLinked a.controller cell.header.channel taker links.ports found) t.ended
          (λ first rest e. subst IsMarked (sym (ended_last a.notes (nat_lt 0 (free_slots a.controller)) (reassembly_of a.controller taker) cell first rest e)) marked)
          (calm taker found) clear
