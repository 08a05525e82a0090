-- the answer that ends the meeting with the switch

use Rattle.std.proofs.Common.{◌≡◌, ℕ, Bool, true, false, List, [], ◌∷◌, Option, None, Some, Result, Ok, Err, refl, sym, ◌∙◌, ap, subst, if◌then◌else◌}
use Rattle.std.specs.Prelude.{not, nat_lt}
use Rattle.std.specs.List.{list_any}
use Rattle.law_controller.specs.world_model.Words.{End, Mark, Cell, is_estab, gsmp_received, default_unwrapped, unwrapped, Request, AddBranch, MoveBranch, DeleteTree, VerifyTree, PortManagement, last_mark, payload_in, tested_by, Desk, Standing, Answered, Unknown, Done, Ports, Failed, answered, after_answer, without_request, Setup, Controller, default_channel, default_end, default_home, with_desk, asks, releases, port_of_input, is_deleting, has_emptied, ends_meeting, causes_in_estab, causes, clears, takes_answer, answer_comes, gsmp_holds, ForGsmp, ForDefault, ForLabel, same_channel, reassembly_of, with_reassembly, frame_holds, takes_cell}
use Rattle.law_controller.specs.world_model.gsmp_wire.declared.fault.Fault.{Fault}
use Rattle.law_controller.specs.world_model.gsmp_wire.declared.message.Message.{Message}
use Rattle.law_controller.specs.world_model.gsmp_wire.declared.message.Message.TheVariants as messages
use Rattle.law_controller.specs.world_model.gsmp_wire.declared.request.Request.TheVariants.{DeleteAll, AllPorts}
use Rattle.law_controller.specs.world_model.gsmp_wire.Fields.{decoded as gsmp_decoded}
use Rattle.law_controller.specs.world_model.frame_model.Frame.{octets_of}
use Rattle.law_controller.specs.world_model.frame_model.Reassembly.{Taken, taken}
use Rattle.law_controller.specs.world_model.Controller.{Acted, free_slots, ports_of}
use Rattle.law_controller.specs.world_model.Meeting.{takes_success}
use Rattle.law_controller.specs.world_model.Gsmp.{message_comes}
use Rattle.law_controller.specs.world_model.Cells.{Taker, opened_frame, ends_frame, cell_comes}
use Rattle.law_controller.specs.law_controller_facts.Sound.{IsSound}
use Rattle.law_controller.proofs.law_controller_facts.Laws.{has_ports, moves_sound}
use Rattle.law_controller.proofs.law_controller_facts.Moves.{HasPorts, answering, moves_to, moves_ports}
use Rattle.law_controller.proofs.law_controller_facts.Joining.{releases_goes}
use Rattle.law_controller.proofs.law_controller_facts.Events.{IsTaker, kept_ports}
use Rattle.law_lasting_joins.proofs.Lent.{node_keeps, tells_keep}
use Rattle.law_lasting_joins.proofs.Keeping.{releases_keep, clears_last}
use Rattle.law_lasting_joins.proofs.Lasting.{empties_last, changes_last, steps_last, default_lasts, label_lasts}
use Rattle.law_lasting_joins.proofs.Unmet.{unmet_desk}
use Rattle.law_lasting_joins.proofs.Tries.{taken_by, gathered_met}

module _ (setups : List Setup) where
  abbrev Nobody : End → Type 0
  Nobody input = ⊥

  not_met : {P : Type 0} (b : Bool) → b ≡ true → b ≡ false → P
  not_met true t f = absurd (cc f)
  not_met false t f = absurd (cc t)

  unmet_on : (b c : Bool) → (c ≡ true → b ≡ true) → b ≡ false → c ≡ false
  unmet_on b true f e = absurd (not_met b (f refl) e)
  unmet_on b false f e = refl

  -- *It is a success of the last Delete All*
  abbrev pub IsLast : Desk → Standing → Type 0
  IsLast desk s = (is_deleting s.request ≡ true) × (not (list_any (λ (x : Standing). is_deleting x.request) (without_request desk s).standing) ≡ true)

  pub record EndsMeeting (desk : Desk) (message : Message) : Type 0 where
    pub standing : Standing
    pub done : answered desk message ≡ Done standing
    pub last : IsLast desk standing

  -- what a success causes
  abbrev pub Emptied : Acted → Request → Type 0
  Emptied a request = (is_deleting request ≡ true) × (has_emptied a.controller ≡ true)

  caused_ends : (a : Acted) (request : Request) → HasPorts setups a → a.controller.has_met ≡ false → (causes_in_estab a request).controller.has_met ≡ true → Emptied a request
  caused_ends a (AddBranch input output) h unmet met = not_met a.controller.has_met ((tells_keep setups 0 0 Nobody a (AddBranch input output) (port_of_input input output) h).met met) unmet
  caused_ends a (MoveBranch input from to) h unmet met = not_met a.controller.has_met ((tells_keep setups 0 0 Nobody a (MoveBranch input from to) (port_of_input input to) h).met met) unmet
  caused_ends a (DeleteTree input) h unmet met = not_met a.controller.has_met ((tells_keep setups 0 0 Nobody a (DeleteTree input) input.port h).met met) unmet
  caused_ends a (VerifyTree input) h unmet met = not_met a.controller.has_met ((tells_keep setups 0 0 Nobody a (VerifyTree input) input.port h).met met) unmet
  caused_ends a (DeleteAll port) h unmet met = by (has_emptied a.controller) refl
      (subst (λ (t : Bool). (if t then asks a (AddBranch (default_end port) (default_home port)) else (if has_emptied a.controller then ends_meeting a else a)).controller.has_met ≡ true) unmet met)
    where
      by : (t : Bool) → has_emptied a.controller ≡ t → (if t then ends_meeting a else a).controller.has_met ≡ true → Emptied a (DeleteAll port)
      by true e k = (refl, e)
      by false e k = not_met a.controller.has_met k unmet
  caused_ends a (PortManagement port function) h unmet met = not_met a.controller.has_met ((tells_keep setups 0 0 Nobody a (PortManagement port function) port h).met met) unmet
  caused_ends a AllPorts h unmet met = not_met a.controller.has_met met unmet

  pub answered_ends : (a : Acted) (request : Request) → IsSound setups a.controller → a.controller.has_met ≡ false → (clears (causes (releases a request) request)).controller.has_met ≡ true → Emptied a request
  answered_ends a request sound unmet met = by (is_estab released.controller.adjacency.state) refl ((clears_last setups 0 0 Nobody (ports_of caused.controller) caused).met met)
    where
      released : Acted
      released = releases a request

      caused : Acted
      caused = causes released request

      ports : HasPorts setups released
      ports = moves_ports setups (releases_goes setups a request (has_ports setups a sound)) (has_ports setups a sound)

      still : released.controller.has_met ≡ false
      still = unmet_on a.controller.has_met released.controller.has_met ((releases_keep setups 0 0 Nobody a request (λ input e no. no) (has_ports setups a sound)).met) unmet

      by : (t : Bool) → is_estab released.controller.adjacency.state ≡ t → (if t then causes_in_estab released request else released).controller.has_met ≡ true → Emptied a request
      by true e k = (let x : Emptied released request = caused_ends released request ports still k in
          (x.0, ap (λ (d : Desk). not (list_any (λ (s : Standing). is_deleting s.request) d.standing)) (sym (unmet_desk setups a request sound unmet)) ∙ x.1))
      by false e k = not_met released.controller.has_met k still

  done_ends : (a : Acted) (request : Request) → IsSound setups a.controller → a.controller.has_met ≡ false → (takes_success a request).controller.has_met ≡ true → Emptied a request
  done_ends a request sound unmet met = answered_ends a request sound unmet ((changes_last setups 0 0 Nobody (clears (causes (releases a request) request))).met met)

  answer_ends : (a : Acted) (message : Message) → IsSound setups a.controller → a.controller.has_met ≡ false → (answer_comes a message).controller.has_met ≡ true → EndsMeeting a.controller.desk message
  answer_ends a message sound unmet met = by (answered a.controller.desk message) refl met
    where
      by : (x : Answered) → answered a.controller.desk message ≡ x → (takes_answer a x).controller.has_met ≡ true → EndsMeeting a.controller.desk message
      by Unknown is k = not_met a.controller.has_met k unmet
      by (Done s) is k =
          let b : Acted = with_desk a (after_answer a.controller.desk (Done s)) in
          let x : Emptied b s.request = done_ends b s.request (moves_sound setups a b (moves_to (answering a (Done s))) sound) unmet k in
          record { standing = s; done = is; last = x }
      by (Ports s rows) is k = not_met a.controller.has_met ((empties_last setups 0 0 Nobody (with_desk a (after_answer a.controller.desk (Ports s rows)))).met k) unmet
      by (Failed s code) is k = not_met a.controller.has_met ((node_keeps setups 0 0 Nobody (with_desk a (after_answer a.controller.desk (Failed s code)))).met k) unmet

  told_ends : (a : Acted) (message : Message) → IsSound setups a.controller → a.controller.has_met ≡ false → (message_comes a message).controller.has_met ≡ true → EndsMeeting a.controller.desk message
  told_ends a (messages.Adjacency greeting) sound unmet met = not_met a.controller.has_met ((steps_last setups 0 0 Nobody a (gsmp_received a.controller.adjacency greeting)).met met) unmet
  told_ends a (messages.Branch kind result code number session input_port input output_port output branches priority) sound unmet met =
      answer_ends a (messages.Branch kind result code number session input_port input output_port output branches priority) sound unmet met
  told_ends a (messages.Move result code number session input_port input output_port output target_port target branches priority) sound unmet met =
      answer_ends a (messages.Move result code number session input_port input output_port output target_port target branches priority) sound unmet met
  told_ends a (messages.Port result code number port session function) sound unmet met = answer_ends a (messages.Port result code number port session function) sound unmet met
  told_ends a (messages.AllPorts result code number rows) sound unmet met = answer_ends a (messages.AllPorts result code number rows) sound unmet met

  -- *A cell* that ends the meeting is the last one of the answer's frame
  pub record IsMeetingsEnd (a : Acted) (cell : Cell) : Type 0 where
    pub here : same_channel cell.header.channel default_channel ≡ true
    pub first : Cell
    pub rest : List Cell
    pub ended : (taken a.notes (nat_lt 0 (free_slots a.controller)) a.controller.reassembly cell).ended ≡ first ∷ rest
    pub payload : List ℕ
    pub passes : payload_in (octets_of (first ∷ rest)) ≡ Some payload
    pub message : Message
    pub read : gsmp_decoded payload ≡ Ok message
    pub ends : EndsMeeting a.controller.desk message

  record HoldsEnd (desk : Desk) (payload : List ℕ) : Type 0 where
    message : Message
    read : gsmp_decoded payload ≡ Ok message
    ends : EndsMeeting desk message

  gsmp_ends : (a : Acted) (payload : List ℕ) → IsSound setups a.controller → a.controller.has_met ≡ false → (gsmp_holds a (gsmp_decoded payload)).controller.has_met ≡ true → HoldsEnd a.controller.desk payload
  gsmp_ends a payload sound unmet met = by (gsmp_decoded payload) refl met
    where
      by : (r : Result Message Fault) → gsmp_decoded payload ≡ r → (gsmp_holds a r).controller.has_met ≡ true → HoldsEnd a.controller.desk payload
      by (Ok message) is k = record { message = message; read = is; ends = told_ends a message sound unmet k }
      by (Err fault) is k = not_met a.controller.has_met k unmet

  -- gathering leaves a controller sound
  gathered_sound : (c : Controller) (r : _) → IsSound setups c → IsSound setups (record c { reassembly = r })
  gathered_sound c r s = record {
    side = s.side;
    ports = s.ports;
    requests = s.requests;
    desk = record { waits = s.desk.waits; met = s.desk.met; below = s.desk.below; earlier = s.desk.earlier; own_inputs = s.desk.own_inputs; own_ports = s.desk.own_ports; room = s.desk.room };
    unmet = s.unmet;
  }

  pub cell_ends : (a : Acted) (cell : Cell) → IsSound setups a.controller → a.controller.has_met ≡ false → (cell_comes a cell).controller.has_met ≡ true → IsMeetingsEnd a cell
  cell_ends a cell sound unmet = taken_by setups 0 0 Nobody (λ (b : Acted). b.controller.has_met ≡ true → IsMeetingsEnd a cell) a cell (λ met. not_met a.controller.has_met met unmet)
      (λ here. by_gsmp here (taken a.notes (nat_lt 0 (free_slots a.controller)) a.controller.reassembly cell) refl)
      (λ linked own met. away (ForDefault linked) own (λ b mark payload h. (default_lasts setups 0 0 Nobody b linked.setup.port mark (default_unwrapped payload) h).met) met)
      (λ linked label own met. away (ForLabel linked label) own (λ b mark payload h. (label_lasts setups 0 0 Nobody b linked label mark (unwrapped label.flow payload) h).met) met)
    where
      -- on another channel
      away : (taker : Taker) → IsTaker setups a taker → ((b : Acted) (mark : Mark) (payload : List ℕ) → HasPorts setups b → (frame_holds b taker mark payload).controller.has_met ≡ true → b.controller.has_met ≡ true)
          → (takes_cell a cell (Some taker)).controller.has_met ≡ true → IsMeetingsEnd a cell
      away taker own stays met = not_met a.controller.has_met (sym (gathered_met setups 0 0 Nobody a t.notes taker t.reassembly) ∙ by t.ended met) unmet
        where
          t : Taken
          t = taken a.notes (nat_lt 0 (free_slots a.controller)) (reassembly_of a.controller taker) cell

          b : Acted
          b = with_reassembly (record a { notes = t.notes }) taker t.reassembly

          by : (ended : List Cell) → (ends_frame b taker ended).controller.has_met ≡ true → b.controller.has_met ≡ true
          by [] k = k
          by (first ∷ cells) k = by_payload (payload_in (octets_of (first ∷ cells))) k
            where
              ports : HasPorts setups b
              ports = kept_ports setups a taker t own (has_ports setups a sound)

              by_payload : (o : Option (List ℕ)) → (opened_frame (record b { notes = (tested_by b.notes (first ∷ cells) o).notes }) taker (last_mark (first ∷ cells)) (tested_by b.notes (first ∷ cells) o).payload).controller.has_met ≡ true → b.controller.has_met ≡ true
              by_payload None l = l
              by_payload (Some payload) l = stays (record b { notes = (tested_by b.notes (first ∷ cells) (Some payload)).notes }) (last_mark (first ∷ cells)) payload (record { ports = ports.ports; shaped = ports.shaped }) l

      by_gsmp : same_channel cell.header.channel default_channel ≡ true → (t : Taken) → taken a.notes (nat_lt 0 (free_slots a.controller)) a.controller.reassembly cell ≡ t
          → (ends_frame (with_reassembly (record a { notes = t.notes }) ForGsmp t.reassembly) ForGsmp t.ended).controller.has_met ≡ true → IsMeetingsEnd a cell
      by_gsmp here t is met = by t.ended refl met
        where
          b : Acted
          b = with_reassembly (record a { notes = t.notes }) ForGsmp t.reassembly

          by : (ended : List Cell) → t.ended ≡ ended → (ends_frame b ForGsmp ended).controller.has_met ≡ true → IsMeetingsEnd a cell
          by [] e k = not_met a.controller.has_met k unmet
          by (first ∷ cells) e k = by_payload (payload_in (octets_of (first ∷ cells))) refl k
            where
              by_payload : (o : Option (List ℕ)) → payload_in (octets_of (first ∷ cells)) ≡ o
                  → (opened_frame (record b { notes = (tested_by b.notes (first ∷ cells) o).notes }) ForGsmp (last_mark (first ∷ cells)) (tested_by b.notes (first ∷ cells) o).payload).controller.has_met ≡ true → IsMeetingsEnd a cell
              by_payload None f l = not_met a.controller.has_met l unmet
              by_payload (Some payload) f l =
                  let x : HoldsEnd a.controller.desk payload = gsmp_ends (record b { notes = (tested_by b.notes (first ∷ cells) (Some payload)).notes }) payload (gathered_sound a.controller t.reassembly sound) unmet l in
                  record { here = here; first = first; rest = cells; ended = ap (λ (z : Taken). z.ended) is ∙ e; payload = payload; passes = f; message = x.message; read = x.read; ends = x.ends }
