-- the route of a join's flow stays while a cell comes

use Rattle.std.proofs.Common.{◌≡◌, ℕ, true, List, [], ◌∷◌, Option, None, Some, Result, Ok, Err, refl, ◌∙◌, ap, arith}
use Rattle.std.specs.Prelude.{nat_lt, ◌+◌, map}
use Rattle.world_model.specs.Words.{PortNo, Mark, Addr, gsmp_received, Cell, default_unwrapped, unwrapped, best, Via, tested_by, payload_in, last_mark, Standing, Answered, Unknown, Done, Ports, Failed, answered, after_answer, with_desk, asks, node_resets, releases, up_ports, clears, clears_port, causes, takes_answer, answer_comes, gsmp_holds, ForGsmp, ForDefault, ForLabel, taker_of, takes_cell, reassembly_of, with_reassembly, label_holds, default_holds, frame_holds, linked_at}
use Rattle.world_model.specs.ipv4_forward.declared.table.Route.{Route}
use Rattle.world_model.specs.gsmp_wire.declared.fault.Fault.{Fault as GsmpFault}
use Rattle.world_model.specs.gsmp_wire.declared.message.Message.{Message}
use Rattle.world_model.specs.gsmp_wire.declared.message.Message.TheVariants as messages
use Rattle.world_model.specs.gsmp_wire.declared.request.Request.TheVariants.{DeleteAll}
use Rattle.world_model.specs.gsmp_wire.Fields.{decoded as gsmp_decoded}
use Rattle.world_model.specs.frame_model.Frame.{octets_of}
use Rattle.world_model.specs.frame_model.Reassembly.{Taken, taken}
use Rattle.world_model.specs.Controller.{Acted, free_slots, ports_of}
use Rattle.world_model.specs.Meeting.{takes_success}
use Rattle.world_model.specs.Gsmp.{steps, message_comes}
use Rattle.world_model.specs.Cells.{Taker, opened_frame, ends_frame, cell_comes}
use Rattle.law_run_facts.proofs.law_actor_pace.Paces.{Paces, paces_then, paces_fold, asks_paces, node_resets_paces}
use Rattle.law_run_facts.proofs.law_actor_pace.Controllers.{releases_paces, causes_paces, clears_of_paces, steps_paces, label_holds_paces, default_paces, with_reassembly_paces, noted_paces}
use Rattle.law_told_worlds.proofs.Routing.{IsLent, changes_keep}

module _ (q m : ℕ) (d : Addr) (port : PortNo) where
  abbrev pub Routed : Acted → Type 0
  Routed a = best a.controller.table d ≡ Some (Via port)

  by_pace : (floor : ℕ) (a b : Acted) → Paces floor a b → Routed a → Routed b
  by_pace floor a b pace route = ap (λ (table : List Route). best table d) pace.table ∙ route

  -- *An answer* of a request that stood
  abbrev pub now : Acted → Standing → Acted
  now a s = with_desk a (after_answer a.controller.desk (Done s))

  abbrev pub before_changes : Acted → Standing → Acted
  before_changes a s = clears (causes (releases (now a s) s.request) s.request)

  -- the join is there before changes of routes are taken
  abbrev pub StaysLent : Acted → Standing → Type 0
  StaysLent a s = (before_changes a s).controller.has_met ≡ true → IsLent (before_changes a s).controller.ports q m d

  done_routed : (a : Acted) (s : Standing) → StaysLent a s → Routed a → Routed (takes_success (now a s) s.request)
  done_routed a s stays route =
      let released : Acted = releases (now a s) s.request in
      let caused : Acted = causes released s.request in
      let pace : Paces 0 (now a s) (clears caused) = paces_then 0 (now a s) caused (clears caused) (paces_then 0 (now a s) released caused (releases_paces 0 (now a s) s.request) (causes_paces 0 released s.request))
      (paces_fold 0 clears_port (λ b p. clears_of_paces 0 b (linked_at b.controller p)) (ports_of caused.controller) caused) in
      changes_keep q m d port (clears caused) stays (by_pace 0 (now a s) (clears caused) pace route)

  answer_routed : (a : Acted) (message : Message) → ((s : Standing) → answered a.controller.desk message ≡ Done s → StaysLent a s) → Routed a → Routed (answer_comes a message)
  answer_routed a message stays route = by (answered a.controller.desk message) refl
    where
      by : (x : Answered) → answered a.controller.desk message ≡ x → Routed (takes_answer a x)
      by Unknown is = route
      by (Done s) is = done_routed a s (stays s is) route
      by (Ports s rows) is = (let b : Acted = with_desk a (after_answer a.controller.desk (Ports s rows)) in
          by_pace 0 b (takes_answer a (Ports s rows)) (paces_fold 0 asks (asks_paces 0) (map DeleteAll (record { 0 = 0 } ∷ up_ports b.controller)) b) route)
      by (Failed s code) is = (let b : Acted = with_desk a (after_answer a.controller.desk (Failed s code)) in by_pace 0 b (node_resets b) (node_resets_paces 0 b) route)

  told_routed : (a : Acted) (message : Message) → ((s : Standing) → answered a.controller.desk message ≡ Done s → StaysLent a s) → Routed a → Routed (message_comes a message)
  told_routed a (messages.Adjacency greeting) stays route =
      by_pace 0 a (steps a (gsmp_received a.controller.adjacency greeting)) (steps_paces 0 a (gsmp_received a.controller.adjacency greeting)) route
  told_routed a (messages.Branch kind result code number session input_port input output_port output branches priority) stays route =
      answer_routed a (messages.Branch kind result code number session input_port input output_port output branches priority) stays route
  told_routed a (messages.Move result code number session input_port input output_port output target_port target branches priority) stays route =
      answer_routed a (messages.Move result code number session input_port input output_port output target_port target branches priority) stays route
  told_routed a (messages.Port result code number port_is session function) stays route = answer_routed a (messages.Port result code number port_is session function) stays route
  told_routed a (messages.AllPorts result code number rows) stays route = answer_routed a (messages.AllPorts result code number rows) stays route

  gsmp_routed : (a : Acted) (r : Result Message GsmpFault) → ((message : Message) (s : Standing) → r ≡ Ok message → answered a.controller.desk message ≡ Done s → StaysLent a s) → Routed a → Routed (gsmp_holds a r)
  gsmp_routed a (Ok message) stays route = told_routed a message (λ s is. stays message s refl is) route
  gsmp_routed a (Err fault) stays route = by_pace 0 a (gsmp_holds a (Err fault)) (noted_paces 0 a (gsmp_holds a (Err fault)) refl refl) route

  -- what the frame that a cell ends may answer
  abbrev pub Stays : Acted → (b : Acted) → (taker : Taker) → (payload : List ℕ) → Type 0
  Stays a b ForGsmp payload = (message : Message) (s : Standing) → gsmp_decoded payload ≡ Ok message → answered b.controller.desk message ≡ Done s → StaysLent b s
  Stays a b (ForDefault linked) payload = Unit {0}
  Stays a b (ForLabel linked label) payload = Unit {0}

  frame_routed : (a b : Acted) (taker : Taker) (mark : Mark) (payload : List ℕ) → Stays a b taker payload → Routed b → Routed (frame_holds b taker mark payload)
  frame_routed a b ForGsmp mark payload stays route = gsmp_routed b (gsmp_decoded payload) stays route
  frame_routed a b (ForDefault linked) mark payload stays route =
      by_pace (mark.frame + 1) b (default_holds b linked.setup.port mark (default_unwrapped payload)) (default_paces (mark.frame + 1) b linked.setup.port mark (default_unwrapped payload) (omega arith)) route
  frame_routed a b (ForLabel linked label) mark payload stays route =
      by_pace (mark.frame + 1) b (label_holds b linked label mark (unwrapped label.flow payload)) (label_holds_paces (mark.frame + 1) b linked label mark (unwrapped label.flow payload) (omega arith)) route

  -- *A cell*
  abbrev pub gathered : Acted → Cell → Taker → Acted
  gathered a cell taker =
      let t : Taken = taken a.notes (nat_lt 0 (free_slots a.controller)) (reassembly_of a.controller taker) cell in
      with_reassembly (record a { notes = t.notes }) taker t.reassembly

  abbrev pub CellStays : Acted → Cell → Type 0
  CellStays a cell = (taker : Taker) (first : Cell) (cells : List Cell) (payload : List ℕ) → taker_of a.controller cell.header.channel ≡ Some taker
      → (taken a.notes (nat_lt 0 (free_slots a.controller)) (reassembly_of a.controller taker) cell).ended ≡ first ∷ cells → payload_in (octets_of (first ∷ cells)) ≡ Some payload
      → Stays a (record (gathered a cell taker) { notes = (tested_by (gathered a cell taker).notes (first ∷ cells) (Some payload)).notes }) taker payload

  pub cell_routed : (a : Acted) (cell : Cell) → CellStays a cell → Routed a → Routed (cell_comes a cell)
  cell_routed a cell stays route = by (taker_of a.controller cell.header.channel) refl
    where
      by_taker : (taker : Taker) → taker_of a.controller cell.header.channel ≡ Some taker → Routed (takes_cell a cell (Some taker))
      by_taker taker is = by_ended (taken a.notes (nat_lt 0 (free_slots a.controller)) (reassembly_of a.controller taker) cell).ended refl
        where
          b : Acted
          b = gathered a cell taker

          noted : Acted
          noted = record a { notes = (taken a.notes (nat_lt 0 (free_slots a.controller)) (reassembly_of a.controller taker) cell).notes }

          there : Routed b
          there = by_pace 0 noted b (with_reassembly_paces 0 noted taker (taken a.notes (nat_lt 0 (free_slots a.controller)) (reassembly_of a.controller taker) cell).reassembly) route

          by_ended : (es : List Cell) → (taken a.notes (nat_lt 0 (free_slots a.controller)) (reassembly_of a.controller taker) cell).ended ≡ es → Routed (ends_frame b taker es)
          by_ended [] e = there
          by_ended (first ∷ cells) e = by_payload (payload_in (octets_of (first ∷ cells))) refl
            where
              by_payload : (o : Option (List ℕ)) → payload_in (octets_of (first ∷ cells)) ≡ o
                  → Routed (opened_frame (record b { notes = (tested_by b.notes (first ∷ cells) o).notes }) taker (last_mark (first ∷ cells)) (tested_by b.notes (first ∷ cells) o).payload)
              by_payload None p = there
              by_payload (Some payload) p = frame_routed a (record b { notes = (tested_by b.notes (first ∷ cells) (Some payload)).notes }) taker (last_mark (first ∷ cells)) payload (stays taker first cells payload is e p) there

      by : (o : Option Taker) → taker_of a.controller cell.header.channel ≡ o → Routed (takes_cell a cell o)
      by None is = route
      by (Some taker) is = by_taker taker is
