-- what a controller makes of its side of the adjacency, and what it says to its switch, as it hears a greeting, or anything else, and
-- as it ticks

use Rattle.std.proofs.Common.{◌≡◌, ◌≢◌, ℕ, ◌+◌, ◌<◌, Bool, true, List, [], ◌∷◌, ◌++◌, append_assoc, length, None, Some, Result, Ok, Err, refl, sym, ◌∙◌, ap, subst, arith, if◌then◌else◌}
use Rattle.std.specs.Prelude.{nat_le, nat_lt, map}
use Rattle.world_model.specs.Words.{Mark, Cell, Loss, PoolFull, noted, next_control, next_instance, with_control, frame_cells, made, Party, Said, Side, Step, Answer, Quiet, Send, Open, fresh, gsmp_answer, greeting_of, Request, AddBranch, MoveBranch, DeleteTree, VerifyTree, PortManagement, PortRow, message_of, Standing, Answered, Unknown, Done, Ports, Failed, answered, after_answer, last_transaction, empty_desk, default_channel, gsmp_channel, Linked, default_unwrapped, unwrapped, with_desk, says_gsmp, meets, sends_again, ticks_ports, tries_joins, node_resets, resets_gsmp, port_restarts, takes_answer, up_ports, gsmp_holds, injected, ForGsmp, ForDefault, ForLabel, frame_holds}
use Rattle.world_model.specs.adjacency_table.declared.message.Answer.TheVariants.{Reset}
use Rattle.world_model.specs.gsmp_wire.declared.fault.Fault.{Fault}
use Rattle.world_model.specs.gsmp_wire.declared.message.Message.{Message}
use Rattle.world_model.specs.gsmp_wire.declared.message.Message.TheVariants.{Adjacency, Branch, Move, Port, AllPorts}
use Rattle.world_model.specs.gsmp_wire.declared.request.Request.TheVariants as requests
use Rattle.world_model.specs.gsmp_wire.Layout.{octets_of}
use Rattle.world_model.specs.gsmp_wire.Fields.{decoded}
use Rattle.world_model.specs.frame_model.Sending.{Sender}
use Rattle.world_model.specs.Controller.{Controller, Acted, free_slots, ports_of}
use Rattle.world_model.specs.Sending.{with_cells}
use Rattle.world_model.specs.Gsmp.{answers, steps, message_comes}
use Rattle.world_model.specs.Cells.{Taker}
use Rattle.world_model.specs.Ticks.{ticks_by}
use Rattle.law_running_worlds.specs.ordered_lists.Ordered.{Every}
use Rattle.law_run_facts.proofs.ordered_lists.Every.{every_all}
use Rattle.law_running_worlds.proofs.law_shown_cells.Made.{made_is}
use Rattle.law_running_worlds.proofs.Greeted.{AnswersWell}
use Rattle.law_live_meetings.specs.Exchange.{gsmp, side_after, said_in}
use Rattle.law_live_orders.specs.Law.{last_marks}
use Rattle.law_live_orders.proofs.Marks.{marks_join}
use Rattle.law_live_control.specs.Calm.{HasLinks}
use Rattle.law_live_control.proofs.Since.{Since, since_begins, since_ends}
use Rattle.law_live_control.proofs.Walks.{IsLinked, Tells, IsAt, on, spent, Kept, fold_kept, restarts_kept, asks_each_kept, success_kept, rest_kept, asks_kept}
use Rattle.law_live_control.proofs.Controllers.{Anything, routed_kept, default_frame, label_frame}
use Rattle.law_live_waking.specs.Greetings.{Greet}
use Rattle.law_live_waking.proofs.Greetings.{IsOther, greet_join, frame_greets, others_greet_nobody}
use Rattle.law_live_waking.proofs.Rooms.{IsWrittenAs, greets_so, finds_room}
use Rattle.law_live_waking.proofs.Made.{IsKept, meets_keeps, rest_keeps}
use Rattle.law_live_waking.proofs.Sites.{Acts}

-- *No request is a greeting*
asks_other : (rows : List PortRow) (number : ℕ) (request : Request) → IsOther (message_of rows number request)
asks_other rows number (AddBranch input output) = tt
asks_other rows number (MoveBranch input from to) = tt
asks_other rows number (DeleteTree input) = tt
asks_other rows number (VerifyTree input) = tt
asks_other rows number (requests.DeleteAll port) = tt
asks_other rows number (PortManagement port function) = tt
asks_other rows number requests.AllPorts = tt

pub tells : Tells IsOther Anything
tells = record {
  calm = λ standing clear. every_all _ standing (λ s rows. asks_other rows s.number s.request);
  asked = λ desk request clear. tt;
  withdrawn = λ desk input clear. tt;
}

-- *A controller turns*: its side is this one then, and it says this
pub record Turns (a after : Acted) (side : Side Party) (said : List (Said Party)) : Type 0 where
  pub adjacency : after.controller.adjacency ≡ side
  pub acts : Acts after.notes.frames a.controller.queue after.controller.queue said

abbrev pub IsUnspent : Acted → Type 0
IsUnspent after = after.controller.desk.next ≢ last_transaction

module _ (a : Acted) (links : HasLinks a.controller) where
  -- since it has this side, and these cells wait
  abbrev Goes : Side Party → List Cell → Acted → Type 0
  Goes side began b = Kept IsOther Anything tells a.controller.node side began b

  side_is : (side now : Side Party) (began : List Cell) (next : ℕ) → next ≢ last_transaction → IsAt IsOther Anything tells a.controller.node side began now next → now ≡ side
  side_is side now began next unspent (on same) = same
  side_is side now began next unspent (spent down full) = absurd (unspent full)

  begins : (side : Side Party) (b : Acted) → b.controller.adjacency ≡ side → b.controller.node ≡ a.controller.node → b.controller.ports ≡ a.controller.ports → Goes side b.controller.queue b
  begins side b same own ports = record {
    mode = on same;
    own = own;
    links = subst (λ (linked : List Linked). Every IsLinked linked) (sym ports) links.ports;
    since = λ o. since_begins IsOther b.controller.queue b.notes.frames b.numbers.controls;
  }

  -- *Nothing is said* but requests
  turns_none : (side : Side Party) (b : Acted) → IsUnspent b → Goes side a.controller.queue b → Turns a b side []
  turns_none side b unspent k =
      let s : Since IsOther a.controller.queue b.controller.queue b.notes.frames b.numbers.controls = k.since (unspent, tt) in
      record {
        adjacency = side_is side b.controller.adjacency a.controller.queue b.controller.desk.next unspent k.mode;
        acts = record {
          later = s.later;
          queue = s.grown;
          says = others_greet_nobody b.notes.frames s.later (since_ends IsOther a.controller.queue b.controller.queue b.notes.frames b.numbers.controls s);
        };
      }

  -- *A greeting is said* first, and then requests
  module _ (side : Side Party) where
    abbrev turned : Acted
    turned = record { controller = record a.controller { adjacency = side }; notes = a.notes; numbers = a.numbers }

    abbrev told : Said Party → Message
    told m = Adjacency (greeting_of m)

    abbrev cells_of : Said Party → List Cell
    cells_of m = frame_cells default_channel (next_control a.numbers) (octets_of (told m))

    -- it is put whole
    abbrev saying : Said Party → Acted
    saying m = record {
      controller = with_cells turned.controller (cells_of m);
      notes = made a.notes (next_control a.numbers) (octets_of (told m));
      numbers = with_control a.numbers;
    }

    said_whole : (m : Said Party) → nat_le (length (cells_of m)) (free_slots a.controller) ≡ true → says_gsmp turned (told m) ≡ saying m
    said_whole m room = ap (λ (b : Bool). put_as (if b then whole_sender else none_sender)) room
      where
        put_as : Sender Controller → Acted
        put_as s = record { controller = s.queues; notes = s.notes; numbers = with_control a.numbers }

        whole_sender : Sender Controller
        whole_sender = record { queues = with_cells turned.controller (cells_of m); notes = made a.notes (next_control a.numbers) (octets_of (told m)) }

        none_sender : Sender Controller
        none_sender = record { queues = turned.controller; notes = noted (made a.notes (next_control a.numbers) (octets_of (told m))) (Loss (next_control a.numbers) PoolFull) }

    turns_one : (m : Said Party) → IsWrittenAs m → (b : Acted) → IsUnspent b → Goes side (a.controller.queue ++ cells_of m) b
        → IsKept (a.numbers.controls + 1) (octets_of (told m)) b → Turns a b side (m ∷ [])
    turns_one m written b unspent k kept =
        let began : List Cell = a.controller.queue ++ cells_of m in
        let s : Since IsOther began b.controller.queue b.notes.frames b.numbers.controls = k.since (unspent, tt) in
        record {
          adjacency = side_is side b.controller.adjacency began b.controller.desk.next unspent k.mode;
          acts = record {
            later = cells_of m ++ s.later;
            queue = s.grown ∙ append_assoc a.controller.queue (cells_of m) s.later;
            says = subst (λ (marks : List Mark). Greet b.notes.frames marks (m ∷ [])) (sym (marks_join gsmp_channel (cells_of m) s.later))
                (greet_join b.notes.frames (last_marks gsmp_channel (cells_of m)) (last_marks gsmp_channel s.later) (m ∷ []) []
                (frame_greets b.notes.frames (next_control a.numbers) (octets_of (told m)) m (greets_so b.notes.frames (next_control a.numbers) m written kept.made_so))
                (others_greet_nobody b.notes.frames s.later (since_ends IsOther began b.controller.queue b.notes.frames b.numbers.controls s)));
          };
        }

    said_kept : (m : Said Party) → IsKept (a.numbers.controls + 1) (octets_of (told m)) (saying m)
    said_kept m = record { given = omega arith; made_so = made_is a.notes.frames (next_control a.numbers) (octets_of (told m)) }

    -- *The table's answer* is done, and then comes the rest of the event
    module _ (rest : Acted → Acted) (rest_goes : (now : Side Party) (began : List Cell) (b : Acted) → Goes now began b → Goes now began (rest b))
        (stays : (m : Said Party) (b : Acted) → IsKept (a.numbers.controls + 1) (octets_of (told m)) b → IsKept (a.numbers.controls + 1) (octets_of (told m)) (rest b))
        (slot : nat_lt 0 (free_slots a.controller) ≡ true) where
      meeting_goes : (b : Acted) → b.controller.adjacency ≡ side → b.controller.node ≡ a.controller.node → b.controller.ports ≡ a.controller.ports → Goes side b.controller.queue (meets b)
      meeting_goes b same own ports = asks_kept IsOther Anything tells a.controller.node side b.controller.queue (with_desk b empty_desk) requests.AllPorts
          (begins side (with_desk b empty_desk) same own ports)

      room : (m : Said Party) → IsWrittenAs m → nat_le (length (cells_of m)) (free_slots a.controller) ≡ true
      room m written = finds_room default_channel (next_control a.numbers) m (free_slots a.controller) written slot

      abbrev begun_anew : Side Party
      begun_anew = fresh gsmp.first (record side.own { instance = next_instance a.numbers })

      pub resets_goes : Goes begun_anew a.controller.queue (node_resets turned)
      resets_goes = fold_kept IsOther Anything tells a.controller.node begun_anew a.controller.queue port_restarts
          (restarts_kept IsOther Anything tells a.controller.node begun_anew a.controller.queue) (ports_of a.controller) (resets_gsmp turned)
          (begins begun_anew (resets_gsmp turned) refl refl refl)

      pub answered_so : (answer : Answer (Said Party) Party) → AnswersWell (gsmp_answer answer) → IsUnspent (rest (answers turned (gsmp_answer answer)))
          → Turns a (rest (answers turned (gsmp_answer answer))) (side_after begun_anew answer side) (said_in answer)
      answered_so Quiet well unspent = turns_none side (rest turned) unspent (rest_goes side a.controller.queue turned (begins side turned refl refl refl))
      answered_so (Send m) well unspent = subst (λ (b : Acted). IsUnspent (rest b) → Turns a (rest b) side (m ∷ [])) (sym (said_whole m (room m well)))
          (λ later. turns_one m well (rest (saying m)) later (rest_goes side (a.controller.queue ++ cells_of m) (saying m) (begins side (saying m) refl refl refl))
          (stays m (saying m) (said_kept m))) unspent
      answered_so (Open None own) well unspent = turns_none side (rest (meets turned)) unspent (rest_goes side a.controller.queue (meets turned) (meeting_goes turned refl refl refl))
      answered_so (Open (Some m) own) well unspent = subst (λ (b : Acted). IsUnspent (rest (meets b)) → Turns a (rest (meets b)) side (m ∷ [])) (sym (said_whole m (room m well)))
          (λ later. turns_one m well (rest (meets (saying m))) later (rest_goes side (a.controller.queue ++ cells_of m) (meets (saying m)) (meeting_goes (saying m) refl refl refl))
          (stays m (meets (saying m)) (meets_keeps (a.numbers.controls + 1) (octets_of (told m)) (saying m) (said_kept m)))) unspent
      answered_so Reset well unspent = turns_none begun_anew (rest (node_resets turned)) unspent (rest_goes begun_anew a.controller.queue (node_resets turned) resets_goes)

  -- *A greeting is heard*
  pub hears : (slot : nat_lt 0 (free_slots a.controller) ≡ true) (step : Step Party) → AnswersWell (gsmp_answer step.answer) → IsUnspent (steps a step)
      → Turns a (steps a step) (side_after (fresh gsmp.first (record step.side.own { instance = next_instance a.numbers })) step.answer step.side) (said_in step.answer)
  hears slot step well unspent = answered_so step.side (λ b. b) (λ now began b k. k) (λ m b k. k) slot step.answer well unspent

  -- *A tick*
  abbrev rest_of_tick : Acted → Acted
  rest_of_tick b = tries_joins (ticks_ports (sends_again b))

  module _ (slot : nat_lt 0 (free_slots a.controller) ≡ true) (step : Step Party) where
    abbrev anew : Side Party
    anew = fresh gsmp.first (record step.side.own { instance = next_instance a.numbers })

    abbrev Ticked : Acted → Answer (Said Party) Party → Type 0
    Ticked b answer = Turns a b (side_after anew answer step.side) (said_in answer)

    goes_on : (now : Side Party) (began : List Cell) (b : Acted) → Goes now began b → Goes now began (rest_of_tick b)
    goes_on now began b k = rest_kept IsOther Anything tells a.controller.node now began b k

    stays_made : (m : Said Party) (b : Acted) → IsKept (a.numbers.controls + 1) (octets_of (Adjacency (greeting_of m))) b
        → IsKept (a.numbers.controls + 1) (octets_of (Adjacency (greeting_of m))) (rest_of_tick b)
    stays_made m b k = rest_keeps (a.numbers.controls + 1) (octets_of (Adjacency (greeting_of m))) b k

    going : (answer : Answer (Said Party) Party) → step.answer ≡ answer → AnswersWell (gsmp_answer answer) → IsUnspent (rest_of_tick (steps a step)) → Ticked (rest_of_tick (steps a step)) answer
    going answer is well = subst (λ (x : Answer (Said Party) Party). IsUnspent (rest_of_tick (answers (turned step.side) (gsmp_answer x))) → Ticked (rest_of_tick (answers (turned step.side) (gsmp_answer x))) answer) (sym is)
        (answered_so step.side rest_of_tick goes_on stays_made slot answer well)

    pub ticks_so : (answer : Answer (Said Party) Party) → step.answer ≡ answer → step.side.own ≡ a.controller.adjacency.own → AnswersWell (gsmp_answer answer) → IsUnspent (ticks_by a step answer)
        → Ticked (ticks_by a step answer) answer
    ticks_so Quiet is own well unspent = going Quiet is well unspent
    ticks_so (Send m) is own well unspent = going (Send m) is well unspent
    ticks_so (Open m key) is own well unspent = going (Open m key) is well unspent
    ticks_so Reset is own well unspent = turns_none anew (node_resets a) unspent
        (subst (λ (p : Party). Goes (fresh gsmp.first (record p { instance = next_instance a.numbers })) a.controller.queue (node_resets a)) (sym own)
        (resets_goes a.controller.adjacency (λ b. b) (λ now began b k. k) (λ m b k. k) slot))

  -- *Nothing that is heard else* is a turn: an answer that tells no failure
  abbrev side : Side Party
  side = a.controller.adjacency

  starts : Goes side a.controller.queue a
  starts = begins side a refl refl refl

  taken_so : (answer : Answered) → ((s : Standing) (code : ℕ) → answer ≢ Failed s code) → Goes side a.controller.queue (takes_answer a answer)
  taken_so Unknown succeeds = begins side (with_desk a (after_answer a.controller.desk Unknown)) refl refl refl
  taken_so (Done s) succeeds = success_kept IsOther Anything tells a.controller.node side a.controller.queue (with_desk a (after_answer a.controller.desk (Done s))) s.request
      (begins side (with_desk a (after_answer a.controller.desk (Done s))) refl refl refl)
  taken_so (Ports s rows) succeeds =
      let b : Acted = with_desk a (after_answer a.controller.desk (Ports s rows)) in
      asks_each_kept IsOther Anything tells a.controller.node side a.controller.queue (map requests.DeleteAll (record { 0 = 0 } ∷ up_ports b.controller)) b (begins side b refl refl refl)
  taken_so (Failed s code) succeeds = absurd (succeeds s code refl)

  abbrev Succeeds : Message → Type 0
  Succeeds message = (s : Standing) (code : ℕ) → answered a.controller.desk message ≢ Failed s code

  told_so : (message : Message) → IsOther message → Succeeds message → Goes side a.controller.queue (message_comes a message)
  told_so (Adjacency greeting) other succeeds = absurd other
  told_so (Branch kind result code number session input_port input output_port output count priority) other succeeds =
      taken_so (answered a.controller.desk (Branch kind result code number session input_port input output_port output count priority)) succeeds
  told_so (Move result code number session input_port input output_port output target_port target count priority) other succeeds =
      taken_so (answered a.controller.desk (Move result code number session input_port input output_port output target_port target count priority)) succeeds
  told_so (Port result code number port session function) other succeeds = taken_so (answered a.controller.desk (Port result code number port session function)) succeeds
  told_so (AllPorts result code number rows) other succeeds = taken_so (answered a.controller.desk (AllPorts result code number rows)) succeeds

  -- nor is a frame of another channel, or a packet that is sent
  abbrev HoldsOther : Taker → (payload : List ℕ) → Type 0
  HoldsOther taker payload = taker ≡ ForGsmp → (message : Message) → decoded payload ≡ Ok message → IsOther message × Succeeds message

  pub holds_none : (taker : Taker) (mark : Mark) (payload : List ℕ) → (mark.packet ≡ 0 → 0 < mark.frame) → HoldsOther taker payload
      → IsUnspent (frame_holds a taker mark payload) → Turns a (frame_holds a taker mark payload) side []
  holds_none ForGsmp mark payload marked other unspent = by (decoded payload) refl unspent
    where
      by : (r : Result Message Fault) → decoded payload ≡ r → IsUnspent (gsmp_holds a r) → Turns a (gsmp_holds a r) side []
      by (Ok message) is later = (let h = other refl message is in turns_none side (message_comes a message) later (told_so message h.0 h.1))
      by (Err fault) is later = turns_none side (gsmp_holds a (Err fault)) later (begins side (gsmp_holds a (Err fault)) refl refl refl)
  holds_none (ForDefault linked) mark payload marked other unspent = turns_none side (frame_holds a (ForDefault linked) mark payload) unspent
      (default_frame IsOther Anything tells a.controller.node side a.controller.queue mark marked a links.routes linked.setup.port (default_unwrapped payload) starts)
  holds_none (ForLabel linked label) mark payload marked other unspent = turns_none side (frame_holds a (ForLabel linked label) mark payload) unspent
      (label_frame IsOther Anything tells a.controller.node side a.controller.queue mark marked a links.routes linked label (unwrapped label.flow payload) starts)

  pub injects_none : (number : ℕ) (packet : List ℕ) → 0 < number → IsUnspent (injected a number packet) → Turns a (injected a number packet) side []
  injects_none number packet some unspent = turns_none side (injected a number packet) unspent
      (routed_kept IsOther Anything tells a.controller.node side a.controller.queue (record { packet = number; frame = 0 }) (λ e. absurd (omega (arith, e, some))) a links.routes packet starts)
