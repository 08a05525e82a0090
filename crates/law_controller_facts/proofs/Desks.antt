-- each move of a controller keeps what holds of its desk

use Rattle.std.proofs.Common.{◌≡◌, ℕ, ◌≤◌, ◌<◌, ◌+◌, Bool, true, false, List, [], ◌∷◌, length, Option, None, Some, refl, sym, ◌∙◌, ap, subst, arith, if◌then◌else◌}
use Rattle.std.specs.Prelude.{not, nat_le, ◌==◌, filter}
use Rattle.std.specs.Option.{option_map_or}
use Rattle.std.proofs.lemmas.Bool.Decides.{nat_tests}
use Rattle.claims_model.specs.world_model.Words.{PortNo, Channel, End, Mark, Party, next_control, with_control, Side, IsSide, is_estab, is_open, same_party, heard_in, Loss, PoolFull, noted, frame_cells, made, Request, AddBranch, MoveBranch, DeleteTree, VerifyTree, PortManagement, same_end, is_on, is_delete_all, withdraws, Desk, Standing, last_transaction, Answered, Unknown, Done, Ports, Failed, after_answer, Setup, Controller, resets_gsmp}
use Rattle.claims_model.specs.world_model.adjacency_table.Side as sides
use Rattle.claims_model.specs.world_model.frame_model.Sending.{Sender}
use Rattle.claims_model.specs.world_model.gsmp_wire.declared.request.Request.TheVariants.{DeleteAll, AllPorts}
use Rattle.law_port_facts.specs.ordered_lists.Ordered.{Every, InOrder}
use Rattle.law_port_facts.proofs.ordered_lists.Every.{every_join, every_map}
use Rattle.law_port_facts.proofs.ordered_lists.InOrder.{order_join}
use Rattle.law_port_facts.proofs.ordered_lists.Parts.{part_filtered, every_part, order_part}
use Rattle.claims_model.specs.world_model.port_model.Requests.{request_input}
use Rattle.claims_model.specs.world_model.port_model.Desk.{asked}
use Rattle.law_port_facts.proofs.Keyed.{on_both}
use Rattle.law_port_facts.proofs.Turns.{IsTurned, received_turns, ticked_turns}
use Rattle.claims_model.specs.world_model.Controller.{Acted, free_slots}
use Rattle.claims_model.specs.world_model.Sending.{with_cells, sends}
use Rattle.law_controller_facts.specs.Sound.{IsEarlier, HaveOwnInputs, HaveOwnPorts}
use Rattle.law_controller_facts.proofs.Moves.{IsGsmpTurn, hears, ages, Move, noting, taking_notes, sending, sending_control, asking, withdrawing, answering, meeting, ending_meeting, turning, placing, clearing, gathering, chaining, routing, popping}

-- *Two requests on one input*: the one that is asked withdraws the other
same_end_itself : (e : End) → same_end e e ≡ true
same_end_itself e = grind (arith, nat_tests)

on_same : (i input : End) (o : Option End) → Some i ≡ Some input → o ≡ Some input → option_map_or (same_end i) o false ≡ true
on_same i input o is on =
    let same : i ≡ input = cc in
    ap (λ (x : Option End). option_map_or (same_end i) x false) on ∙ subst (λ (e : End). same_end i e ≡ true) same (same_end_itself i)

none_is : {A : Type 0} (x : A) → None ≡ Some x → ⊥
none_is x e = absurd (cc e)

pub withdraws_same : (asked standing : Request) (input : End) → request_input standing ≡ Some input → request_input asked ≡ Some input → withdraws asked standing ≡ true
withdraws_same (AddBranch i output) standing input on is = on_same i input (request_input standing) is on
withdraws_same (MoveBranch i from to) standing input on is = on_same i input (request_input standing) is on
withdraws_same (DeleteTree i) standing input on is = on_same i input (request_input standing) is on
withdraws_same (VerifyTree i) standing input on is = on_same i input (request_input standing) is on
withdraws_same (DeleteAll port) standing input on is = absurd (none_is input is)
withdraws_same (PortManagement port function) standing input on is = absurd (none_is input is)
withdraws_same AllPorts standing input on is = absurd (none_is input is)

-- a Delete All that is asked withdraws an earlier one of its port
withdraws_port : (asked standing : Request) (port : PortNo) → is_delete_all port standing ≡ true → is_delete_all port asked ≡ true → withdraws asked standing ≡ true
withdraws_port (DeleteAll p) (DeleteAll q) port on is = grind (arith, nat_tests)
withdraws_port (DeleteAll p) (AddBranch i output) port on is = absurd (cc on)
withdraws_port (DeleteAll p) (MoveBranch i from to) port on is = absurd (cc on)
withdraws_port (DeleteAll p) (DeleteTree i) port on is = absurd (cc on)
withdraws_port (DeleteAll p) (VerifyTree i) port on is = absurd (cc on)
withdraws_port (DeleteAll p) (PortManagement q function) port on is = absurd (cc on)
withdraws_port (DeleteAll p) AllPorts port on is = absurd (cc on)
withdraws_port (AddBranch i output) standing port on is = absurd (cc is)
withdraws_port (MoveBranch i from to) standing port on is = absurd (cc is)
withdraws_port (DeleteTree i) standing port on is = absurd (cc is)
withdraws_port (VerifyTree i) standing port on is = absurd (cc is)
withdraws_port (PortManagement q function) standing port on is = absurd (cc is)
withdraws_port AllPorts standing port on is = absurd (cc is)

-- so those that stay aren't of its port
ports_from_asked : (request : Request) (next : ℕ) (standing : List Standing)
    → Every (λ (s : Standing). Every (HaveOwnPorts s) (record { number = next; request = request } ∷ [])) (filter (λ (s : Standing). not (withdraws request s.request)) standing)
ports_from_asked request next [] = tt
ports_from_asked request next (s ∷ standing) = by_test (withdraws request s.request) refl (ports_from_asked request next standing)
  where
    other : withdraws request s.request ≡ false → (port : PortNo) → is_delete_all port s.request ≡ true → (b : Bool) → is_delete_all port request ≡ b → is_delete_all port request ≡ false
    other e port on true is = absurd (cc (sym (withdraws_port request s.request port on is) ∙ e))
    other e port on false is = is

    by_test : (b : Bool) → withdraws request s.request ≡ b
        → Every (λ (s : Standing). Every (HaveOwnPorts s) (record { number = next; request = request } ∷ [])) (filter (λ (s : Standing). not (withdraws request s.request)) standing)
        → Every (λ (s : Standing). Every (HaveOwnPorts s) (record { number = next; request = request } ∷ []))
        (if not b then s ∷ filter (λ (s : Standing). not (withdraws request s.request)) standing else filter (λ (s : Standing). not (withdraws request s.request)) standing)
    by_test true e rest = rest
    by_test false e rest = (((λ port on. other e port on (is_delete_all port request) refl), tt), rest)

stays_false : (b : Bool) → not b ≡ true → b ≡ true → ⊥
stays_false true e t = absurd (cc e)
stays_false false e t = absurd (cc t)

-- those that stay have no input in common with it
apart_from_asked : (request : Request) (next : ℕ) (standing : List Standing)
    → Every (λ (s : Standing). Every (HaveOwnInputs s) (record { number = next; request = request } ∷ [])) (filter (λ (s : Standing). not (withdraws request s.request)) standing)
apart_from_asked request next [] = tt
apart_from_asked request next (s ∷ standing) = by_test (withdraws request s.request) refl (apart_from_asked request next standing)
  where
    by_test : (b : Bool) → withdraws request s.request ≡ b
        → Every (λ (s : Standing). Every (HaveOwnInputs s) (record { number = next; request = request } ∷ [])) (filter (λ (s : Standing). not (withdraws request s.request)) standing)
        → Every (λ (s : Standing). Every (HaveOwnInputs s) (record { number = next; request = request } ∷ []))
        (if not b then s ∷ filter (λ (s : Standing). not (withdraws request s.request)) standing else filter (λ (s : Standing). not (withdraws request s.request)) standing)
    by_test true e rest = rest
    by_test false e rest = (((λ input on is. absurd (cc (sym (withdraws_same request s.request input on is) ∙ e))), tt), rest)

-- *The desk by itself*
pub record StandWell (desk : Desk) : Type 0 where
  pub below : Every (λ (s : Standing). s.number < desk.next) desk.standing
  pub earlier : InOrder IsEarlier desk.standing
  pub own_inputs : InOrder HaveOwnInputs desk.standing
  pub own_ports : InOrder HaveOwnPorts desk.standing
  pub room : desk.next ≤ last_transaction

fewer_well : (desk : Desk) (test : Standing → Bool) → StandWell desk → StandWell (record desk { standing = filter test desk.standing })
fewer_well desk test h = record {
  below = every_part (λ (s : Standing). s.number < desk.next) (part_filtered test desk.standing) h.below;
  earlier = order_part IsEarlier (part_filtered test desk.standing) h.earlier;
  own_inputs = order_part HaveOwnInputs (part_filtered test desk.standing) h.own_inputs;
  own_ports = order_part HaveOwnPorts (part_filtered test desk.standing) h.own_ports;
  room = h.room;
}

room_left : (next : ℕ) → next ≤ last_transaction → (next == last_transaction) ≡ false → next + 1 ≤ last_transaction
room_left next h e = grind (arith, nat_tests)

pub asked_well : (desk : Desk) (request : Request) → (desk.next == last_transaction) ≡ false → StandWell desk → StandWell (asked desk request)
asked_well desk request room h =
    let rest : StandWell (record desk { standing = filter (λ (s : Standing). not (withdraws request s.request)) desk.standing }) = fewer_well desk (λ (s : Standing). not (withdraws request s.request)) h in
    record {
      below = every_join (λ (s : Standing). s.number < desk.next + 1) (filter (λ (s : Standing). not (withdraws request s.request)) desk.standing) (record { number = desk.next; request = request } ∷ [])
          (every_map (λ (s : Standing). s.number < desk.next) (λ (s : Standing). s.number < desk.next + 1) (filter (λ (s : Standing). not (withdraws request s.request)) desk.standing) (λ s below. omega (arith, below)) rest.below) (omega arith, tt);
      earlier = order_join IsEarlier (filter (λ (s : Standing). not (withdraws request s.request)) desk.standing) (record { number = desk.next; request = request } ∷ []) rest.earlier
          (every_map (λ (s : Standing). s.number < desk.next) (λ (s : Standing). Every (IsEarlier s) (record { number = desk.next; request = request } ∷ [])) (filter (λ (s : Standing). not (withdraws request s.request)) desk.standing) (λ s below. (below, tt)) rest.below) (tt, tt);
      own_inputs = order_join HaveOwnInputs (filter (λ (s : Standing). not (withdraws request s.request)) desk.standing) (record { number = desk.next; request = request } ∷ []) rest.own_inputs
          (apart_from_asked request desk.next desk.standing) (tt, tt);
      own_ports = order_join HaveOwnPorts (filter (λ (s : Standing). not (withdraws request s.request)) desk.standing) (record { number = desk.next; request = request } ∷ []) rest.own_ports
          (ports_from_asked request desk.next desk.standing) (tt, tt);
      room = room_left desk.next h.room room;
    }

pub answered_well : (desk : Desk) (answer : Answered) → StandWell desk → StandWell (after_answer desk answer)
answered_well desk Unknown h = h
answered_well desk (Done s) h = fewer_well desk (λ (other : Standing). not (other.number == s.number)) h
answered_well desk (Ports s rows) h = (let w : StandWell (record desk { standing = filter (λ (other : Standing). not (other.number == s.number)) desk.standing }) = fewer_well desk (λ (other : Standing). not (other.number == s.number)) h in
    record { below = w.below; earlier = w.earlier; own_inputs = w.own_inputs; own_ports = w.own_ports; room = w.room })
answered_well desk (Failed s code) h = fewer_well desk (λ (other : Standing). not (other.number == s.number)) h

answered_none : (desk : Desk) (answer : Answered) → desk.standing ≡ [] → (after_answer desk answer).standing ≡ []
answered_none desk Unknown e = e
answered_none desk (Done s) e = ap (filter (λ (other : Standing). not (other.number == s.number))) e
answered_none desk (Ports s rows) e = ap (filter (λ (other : Standing). not (other.number == s.number))) e
answered_none desk (Failed s code) e = ap (filter (λ (other : Standing). not (other.number == s.number))) e

-- *The desk and the adjacency of a controller*
pub record IsClient (a : Acted) : Type 0 where
  pub side : IsSide a.controller.adjacency
  pub waits : is_estab a.controller.adjacency.state ≡ false → a.controller.desk.standing ≡ []
  pub met : a.controller.has_met ≡ true → is_estab a.controller.adjacency.state ≡ true
  pub well : StandWell a.controller.desk

sent_client : (a : Acted) (channel : Channel) (mark : Mark) (payload : List ℕ) → IsClient a → IsClient (sends a channel mark payload)
sent_client a channel mark payload h = on_both (λ (s : Sender Controller). IsClient (record a { controller = s.queues; notes = s.notes })) (nat_le (length (frame_cells channel mark payload)) (free_slots a.controller))
    (record { queues = with_cells a.controller (frame_cells channel mark payload); notes = made a.notes mark payload })
    (record { queues = a.controller; notes = noted (made a.notes mark payload) (Loss mark PoolFull) })
    (record { side = h.side; waits = h.waits; met = h.met; well = h.well }) (record { side = h.side; waits = h.waits; met = h.met; well = h.well })

-- with the same desk, adjacency and meeting
same_client : (a b : Acted) → b.controller.adjacency ≡ a.controller.adjacency → b.controller.desk ≡ a.controller.desk → b.controller.has_met ≡ a.controller.has_met → IsClient a → IsClient b
same_client a b side desk met h = record {
  side = subst (λ (s : Side Party). IsSide s) (sym side) h.side;
  waits = λ e. ap (λ (d : Desk). d.standing) desk ∙ h.waits (ap (λ (s : Side Party). is_estab s.state) (sym side) ∙ e);
  met = λ e. ap (λ (s : Side Party). is_estab s.state) side ∙ h.met (sym met ∙ e);
  well = subst StandWell (sym desk) h.well;
}

turns : (side : Side Party) (step : sides.Step Party) → IsSide side → IsGsmpTurn side step → IsTurned side step
turns side step h (hears greeting) = received_turns side (heard_in greeting) same_party h
turns side step h ages = ticked_turns side h

turned_client : (a : Acted) (step : sides.Step Party) → IsTurned a.controller.adjacency step → IsClient a → IsClient (record a { controller = record a.controller { adjacency = step.side } })
turned_client a step t h = record {
  side = t.side;
  waits = λ e. h.waits (closed_before (is_open step.answer) refl e);
  met = λ e. opened_after (is_open step.answer) refl (h.met e);
  well = h.well;
}
  where
    closed_before : (b : Bool) → is_open step.answer ≡ b → is_estab step.side.state ≡ false → is_estab a.controller.adjacency.state ≡ false
    closed_before true o e = t.before_entry o
    closed_before false o e = sym (t.stayed o) ∙ e

    opened_after : (b : Bool) → is_open step.answer ≡ b → is_estab a.controller.adjacency.state ≡ true → is_estab step.side.state ≡ true
    opened_after true o e = t.entered o
    opened_after false o e = t.stayed o ∙ e

module _ (setups : List Setup) where
  pub move_client : (a b : Acted) → Move setups a b → IsClient a → IsClient b
  move_client a b (noting x item) h = same_client x b refl refl refl h
  move_client a b (taking_notes x notes) h = same_client x b refl refl refl h
  move_client a b (sending x channel mark payload) h = sent_client x channel mark payload h
  move_client a b (sending_control x channel payload) h = sent_client (record x { numbers = with_control x.numbers }) channel (next_control x.numbers) payload (record { side = h.side; waits = h.waits; met = h.met; well = h.well })
  move_client a b (asking x request estab room shaped) h = record { side = h.side; waits = λ e. absurd (cc (sym estab ∙ e)); met = h.met; well = asked_well x.controller.desk request room h.well }
  move_client a b (withdrawing x input) h = record {
    side = h.side;
    waits = λ e. ap (filter (λ (s : Standing). not (is_on input s.request))) (h.waits e);
    met = h.met;
    well = fewer_well x.controller.desk (λ (s : Standing). not (is_on input s.request)) h.well;
  }
  move_client a b (answering x answer) h = record { side = h.side; waits = λ e. answered_none x.controller.desk answer (h.waits e); met = h.met; well = answered_well x.controller.desk answer h.well }
  move_client a b (meeting x) h = record { side = h.side; waits = λ e. refl; met = h.met; well = record { below = tt; earlier = tt; own_inputs = tt; own_ports = tt; room = omega arith } }
  move_client a b (ending_meeting x estab) h = record { side = h.side; waits = h.waits; met = λ e. estab; well = h.well }
  move_client a b (turning x step turn) h = turned_client x step (turns x.controller.adjacency step h.side turn) h
  move_client a b (placing x linked w found worked) h = same_client x b refl refl refl h
  move_client a b (clearing x linked found may) h = same_client x b refl refl refl h
  move_client a b (gathering x r) h = same_client x b refl refl refl h
  move_client a b (chaining x linked after found same port) h = same_client x b refl refl refl h
  move_client a b (routing x table waiting is_begun changes) h = same_client x b refl refl refl h
  move_client a b (popping x queue) h = same_client x b refl refl refl h

pub reset_client : (a : Acted) → IsClient a → IsClient (resets_gsmp a)
reset_client x h = record { side = record { peer = refl; silence = omega arith }; waits = λ e. refl; met = λ e. absurd (cc e); well = record { below = tt; earlier = tt; own_inputs = tt; own_ports = tt; room = h.well.room } }
