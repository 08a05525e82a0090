-- what a switch makes of its side of the adjacency, and what it says to its controller, as it hears a greeting, or anything else, as
-- it ticks, and as a cell comes on a port

use Rattle.std.proofs.Common.{◌≡◌, ℕ, zero, suc, ◌<◌, Bool, true, false, List, [], ◌∷◌, ◌++◌, append-nil, length, slice_set, slice_index_or, Option, None, Some, Result, Ok, Err, refl, sym, ◌∙◌, ap, subst, if◌then◌else◌}
use Rattle.std.specs.Prelude.{◌&&◌, nat_le, nat_lt}
use Rattle.std.specs.Option.{option_map}
use Rattle.std.specs.FinMap.{get}
use Rattle.world_model.specs.Words.{PortNo, End, Mark, Cell, Frame, Journal, Loss, PoolFull, noted, next_control, next_instance, with_control, frame_cells, made, payload_of, Party, Said, Side, Step, Answer, Quiet, Send, Open, fresh, is_estab, gsmp_answer, greeting_of, Request, asked_in, is_request, failure_of, failure_answer, success_answer, Branches, Handled, handled, handled_asked, handled_by, replied, requested, frame_read, on_channel_of, route_on, switched_on, switched_cell, queue_of, same_channel, default_channel, gsmp_channel, control_port, Switch}
use Rattle.world_model.specs.adjacency_table.declared.message.Answer.TheVariants.{Reset}
use Rattle.world_model.specs.gsmp_wire.declared.fault.Fault.{Fault}
use Rattle.world_model.specs.gsmp_wire.declared.failure.Failure.{Failure}
use Rattle.world_model.specs.gsmp_wire.declared.message.Message.{Message}
use Rattle.world_model.specs.gsmp_wire.declared.message.Message.TheVariants.{Adjacency, Branch, Move, Port, AllPorts}
use Rattle.world_model.specs.gsmp_wire.Layout.{octets_of}
use Rattle.world_model.specs.gsmp_wire.Fields.{decoded}
use Rattle.world_model.specs.frame_model.Sending.{Sender}
use Rattle.world_model.specs.crossbar_model.declared.branch.Branch.{Branch as BranchOf}
use Rattle.world_model.specs.crossbar_model.Crossbar.{Crossbar, input_of, output_of}
use Rattle.world_model.specs.switch_model.declared.port.PortState.{PortState}
use Rattle.world_model.specs.switch_model.declared.request.Asked.{Asked}
use Rattle.world_model.specs.Switch.{ActedSwitch, free_slots}
use Rattle.world_model.specs.Conduct.{says, answers, steps, with_cells, cell_routed, message_heard}
use Rattle.world_model.proofs.Lists.{index_here}
use Rattle.law_running_worlds.specs.ordered_lists.Ordered.{Every}
use Rattle.law_run_facts.proofs.ordered_lists.Every.{every_map}
use Rattle.law_running_worlds.proofs.law_port_facts.Keyed.{on_both}
use Rattle.law_running_worlds.proofs.law_shown_cells.Made.{made_is}
use Rattle.law_running_worlds.proofs.Greeted.{AnswersWell}
use Rattle.law_live_meetings.specs.Exchange.{gsmp, side_after, said_in}
use Rattle.law_live_orders.specs.Law.{last_marks}
use Rattle.law_live_orders.proofs.Marks.{marks_there}
use Rattle.law_live_control.specs.Calm.{IsCalmCell}
use Rattle.law_live_control.proofs.Since.{IsFrom, frame_from}
use Rattle.law_live_waking.specs.Greetings.{Greet, none}
use Rattle.law_live_waking.proofs.Greetings.{IsOther, frame_greets, others_greet_nobody}
use Rattle.law_live_waking.proofs.Rooms.{IsWrittenAs, greets_so, finds_room}
use Rattle.law_live_waking.proofs.Sites.{Acts}

-- *Cells are put* into a queue, that of port 0 or another
pub nothing_said : (frames : List Frame) (queue : List Cell) → Acts frames queue queue []
nothing_said frames queue = record { later = []; queue = sym (append-nil queue); says = none }

put_acts : (frames : List Frame) (queues : List (List Cell)) (i : ℕ) (cells : List Cell) → (i ≡ 0 → Greet frames (last_marks gsmp_channel cells) [])
    → Acts frames (slice_index_or queues 0 []) (slice_index_or (slice_set queues i (slice_index_or queues i [] ++ cells)) 0 []) []
put_acts frames [] i cells says = nothing_said frames []
put_acts frames (queue ∷ queues) zero cells says = record { later = cells; queue = refl; says = says refl }
put_acts frames (queue ∷ queues) (suc i) cells says = nothing_said frames queue

-- *A switch turns*: its side is this one then, and it says this
pub record Turns (a after : ActedSwitch) (side : Side Party) (said : List (Said Party)) : Type 0 where
  pub adjacency : after.switch.adjacency ≡ side
  pub acts : Acts after.notes.frames (queue_of a.switch.crossbar control_port) (queue_of after.switch.crossbar control_port) said

-- *A message that is no greeting* leaves it as it is
other_failure : (failure : Failure) (message : Message) → IsOther message → IsOther (failure_answer failure message)
other_failure failure (Adjacency greeting) other = other
other_failure failure (Branch kind result code number session input_port input output_port output count priority) other = tt
other_failure failure (Move result code number session input_port input output_port output target_port target count priority) other = tt
other_failure failure (Port result code number port session function) other = tt
other_failure failure (AllPorts result code number rows) other = tt

other_success : (ports : List PortState) (branches : Branches) (request : Request) (message : Message) → IsOther message → IsOther (success_answer ports branches request message)
other_success ports branches request (Adjacency greeting) other = other
other_success ports branches request (Branch kind result code number session input_port input output_port output count priority) other = tt
other_success ports branches request (Move result code number session input_port input output_port output target_port target count priority) other = tt
other_success ports branches request (Port result code number port session function) other = tt
other_success ports branches request (AllPorts result code number rows) other = tt

record IsHandled (s : Switch) (h : Handled) : Type 0 where
  adjacency : h.switch.adjacency ≡ s.adjacency
  queues : h.switch.crossbar.queues ≡ s.crossbar.queues
  other : IsOther h.answer

handled_so : (s : Switch) (notes : Journal) (message : Message) → IsOther message → (o : Option Asked) → IsHandled s (handled_asked s notes message o)
handled_so s notes message other None = record { adjacency = refl; queues = refl; other = other }
handled_so s notes message other (Some asked) = by (failure_of s.ports s.vpis s.crossbar.branches asked)
  where
    by : (o : Option Failure) → IsHandled s (handled_by s notes message asked.request o)
    by (Some failure) = record { adjacency = refl; queues = refl; other = other_failure failure message other }
    by None = record { adjacency = refl; queues = refl; other = other_success _ _ asked.request message other }

module _ (a : ActedSwitch) where
  same : (after : ActedSwitch) → after.switch.adjacency ≡ a.switch.adjacency → after.switch.crossbar.queues ≡ a.switch.crossbar.queues → Turns a after a.switch.adjacency []
  same after side queues = record {
    adjacency = side;
    acts = subst (λ (qs : List (List Cell)). Acts after.notes.frames (queue_of a.switch.crossbar control_port) (slice_index_or qs 0 []) []) (sym queues)
        (nothing_said after.notes.frames (queue_of a.switch.crossbar control_port));
  }

  -- it is answered, where slots are free
  says_other : (heard : ActedSwitch) (message : Message) → IsOther message → heard.switch.adjacency ≡ a.switch.adjacency → heard.switch.crossbar.queues ≡ a.switch.crossbar.queues
      → Turns a (says heard message) a.switch.adjacency []
  says_other heard message other side queues = on_both (λ (s : Sender Switch). Turns a (record { switch = s.queues; notes = s.notes; numbers = with_control heard.numbers }) a.switch.adjacency [])
      (nat_le (length cells) (free_slots heard.switch))
      (record { queues = with_cells heard.switch control_port cells; notes = now })
      (record { queues = heard.switch; notes = noted now (Loss mark PoolFull) })
      (record {
        adjacency = side;
        acts = subst (λ (qs : List (List Cell)). Acts now.frames (slice_index_or qs 0 []) (slice_index_or (slice_set heard.switch.crossbar.queues 0 (queue_of heard.switch.crossbar control_port ++ cells)) 0 []) [])
            queues (put_acts now.frames heard.switch.crossbar.queues 0 cells (λ e. others_greet_nobody now.frames cells new));
      })
      (same (record { switch = heard.switch; notes = noted now (Loss mark PoolFull); numbers = with_control heard.numbers }) side queues)
    where
      mark : Mark
      mark = next_control heard.numbers

      cells : List Cell
      cells = frame_cells gsmp_channel mark (octets_of message)

      now : Journal
      now = made heard.notes mark (octets_of message)

      new : Every (IsCalmCell IsOther now.frames) cells
      new = every_map (IsFrom gsmp_channel mark) (IsCalmCell IsOther now.frames) cells
          (λ cell is on. record { message = message; calm = other; made = ap (payload_of now.frames) is.1 ∙ made_is heard.notes.frames mark (octets_of message) })
          (frame_from gsmp_channel mark (octets_of message))

  requested_so : (message : Message) → IsOther message → Turns a (requested a message) a.switch.adjacency []
  requested_so message other =
      let h : Handled = handled a.switch a.notes message in
      let is : IsHandled a.switch h = handled_so a.switch a.notes message other (asked_in message) in
      on_both (λ (b : ActedSwitch). Turns a b a.switch.adjacency []) (is_request message && is_estab a.switch.adjacency.state) (replied a h) a
      (says_other (record a { switch = h.switch; notes = h.notes }) h.answer is.other is.adjacency is.queues) (same a refl refl)

  pub heard_other : (message : Message) → IsOther message → Turns a (message_heard a message) a.switch.adjacency []
  heard_other (Adjacency greeting) other = absurd other
  heard_other (Branch kind result code number session input_port input output_port output count priority) other =
      requested_so (Branch kind result code number session input_port input output_port output count priority) other
  heard_other (Move result code number session input_port input output_port output target_port target count priority) other =
      requested_so (Move result code number session input_port input output_port output target_port target count priority) other
  heard_other (Port result code number port session function) other = requested_so (Port result code number port session function) other
  heard_other (AllPorts result code number rows) other = requested_so (AllPorts result code number rows) other

  pub read_other : (payload : List ℕ) → ((message : Message) → decoded payload ≡ Ok message → IsOther message) → Turns a (frame_read a (decoded payload)) a.switch.adjacency []
  read_other payload other = by (decoded payload) refl
    where
      by : (r : Result Message Fault) → decoded payload ≡ r → Turns a (frame_read a r) a.switch.adjacency []
      by (Ok message) is = heard_other message (other message is)
      by (Err fault) is = same (frame_read a (Err fault)) refl refl

  -- *A greeting is said*
  module _ (side : Side Party) (some : 0 < length a.switch.crossbar.queues) (slot : nat_lt 0 (free_slots a.switch) ≡ true) where
    abbrev turned : ActedSwitch
    turned = record { switch = record a.switch { adjacency = side }; notes = a.notes; numbers = a.numbers }

    abbrev told : Said Party → Message
    told m = Adjacency (greeting_of m)

    abbrev cells_of : Said Party → List Cell
    cells_of m = frame_cells gsmp_channel (next_control a.numbers) (octets_of (told m))

    abbrev now_made : Said Party → Journal
    now_made m = made a.notes (next_control a.numbers) (octets_of (told m))

    abbrev put_as : Sender Switch → ActedSwitch
    put_as s = record { switch = s.queues; notes = s.notes; numbers = with_control a.numbers }

    abbrev whole : Said Party → Sender Switch
    whole m = record { queues = with_cells turned.switch control_port (cells_of m); notes = now_made m }

    abbrev lost : Said Party → Sender Switch
    lost m = record { queues = turned.switch; notes = noted (now_made m) (Loss (next_control a.numbers) PoolFull) }

    said_whole : (m : Said Party) → IsWrittenAs m → says turned (told m) ≡ put_as (whole m)
    said_whole m written = ap (λ (b : Bool). put_as (if b then whole m else lost m)) (finds_room gsmp_channel (next_control a.numbers) m (free_slots a.switch) written slot)

    says_one : (m : Said Party) → IsWrittenAs m → Turns a (says turned (told m)) side (m ∷ [])
    says_one m written = subst (λ (b : ActedSwitch). Turns a b side (m ∷ [])) (sym (said_whole m written)) (record {
      adjacency = refl;
      acts = record {
        later = cells_of m;
        queue = index_here a.switch.crossbar.queues 0 (queue_of a.switch.crossbar control_port ++ cells_of m) [] some;
        says = frame_greets (now_made m).frames (next_control a.numbers) (octets_of (told m)) m
            (greets_so (now_made m).frames (next_control a.numbers) m written (made_is a.notes.frames (next_control a.numbers) (octets_of (told m))));
      };
    })

    abbrev begun_anew : Side Party
    begun_anew = fresh gsmp.first (record side.own { instance = next_instance a.numbers })

    answered_so : (answer : Answer (Said Party) Party) → AnswersWell (gsmp_answer answer) → Turns a (answers turned (gsmp_answer answer)) (side_after begun_anew answer side) (said_in answer)
    answered_so Quiet well = record { adjacency = refl; acts = nothing_said a.notes.frames (queue_of a.switch.crossbar control_port) }
    answered_so (Send m) well = says_one m well
    answered_so (Open None own) well = record { adjacency = refl; acts = nothing_said a.notes.frames (queue_of a.switch.crossbar control_port) }
    answered_so (Open (Some m) own) well = says_one m well
    answered_so Reset well = record { adjacency = refl; acts = nothing_said a.notes.frames (queue_of a.switch.crossbar control_port) }

  -- a step of the table is taken
  pub step_so : (step : Step Party) → 0 < length a.switch.crossbar.queues → nat_lt 0 (free_slots a.switch) ≡ true → AnswersWell (gsmp_answer step.answer)
      → Turns a (steps a step) (side_after (fresh gsmp.first (record step.side.own { instance = next_instance a.numbers })) step.answer step.side) (said_in step.answer)
  step_so step some slot well = answered_so step.side some slot step.answer well

  -- *A cell is passed on*: no branch leads to the controller on the GSMP channel
  module _ (apart : (input output : End) → output_of a.switch.crossbar.branches input ≡ Some output → output.port.0 ≡ 0 → same_channel output.channel default_channel ≡ false) where
    not_second : (x y : Bool) → y ≡ false → (x && y) ≡ false
    not_second true y e = e
    not_second false y e = refl

    relayed_says : (input : End) (b : BranchOf) (cell : Cell) → get a.switch.crossbar.branches input ≡ Some b → b.output.port.0 ≡ 0
        → Greet a.notes.frames (last_marks gsmp_channel (on_channel_of cell b.output ∷ [])) []
    relayed_says input b cell found home = subst (λ (marks : List Mark). Greet a.notes.frames marks [])
        (sym (marks_there gsmp_channel (on_channel_of cell b.output) [] (not_second cell.header.last (same_channel b.output.channel gsmp_channel)
        (apart input b.output (ap (option_map (λ (branch : BranchOf). branch.output)) found) home)))) none

    routed_so : (port : PortNo) (cell : Cell) (o : Option BranchOf) (free : ℕ) → get a.switch.crossbar.branches (input_of port cell) ≡ o → free_slots a.switch ≡ free
        → Turns a (cell_routed a port cell (route_on o free)) a.switch.adjacency []
    routed_so port cell None free found is = same (cell_routed a port cell (route_on None free)) refl refl
    routed_so port cell (Some b) zero found is = same (cell_routed a port cell (route_on (Some b) zero)) refl refl
    routed_so port cell (Some b) (suc free) found is = record {
      adjacency = refl;
      acts = subst (λ (x : Crossbar). Acts a.notes.frames (queue_of a.switch.crossbar control_port) (queue_of x control_port) [])
          (sym (ap (λ (o : Option BranchOf). switched_on a.switch.crossbar (input_of port cell) o (free_slots a.switch) cell) found
          ∙ ap (λ (n : ℕ). switched_on a.switch.crossbar (input_of port cell) (Some b) n cell) is))
          (put_acts a.notes.frames a.switch.crossbar.queues b.output.port.0 (on_channel_of cell b.output ∷ []) (relayed_says (input_of port cell) b cell found));
    }

    pub passes_on : (port : PortNo) (cell : Cell) → Turns a (switched_cell a port cell) a.switch.adjacency []
    passes_on port cell = routed_so port cell (get a.switch.crossbar.branches (input_of port cell)) (free_slots a.switch) refl refl
