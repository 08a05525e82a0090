-- what a cell or a tick that comes to the switch keeps

use Rattle.std.proofs.Common.{◌≡◌, ℕ, ◌+◌, ◌<◌, ◌≤◌, ◌^◌, ◌&&◌, Bool, true, false, List, [], ◌∷◌, length, map, take, slice_get, Option, None, Some, Result, Ok, refl, sym, ◌∙◌, ap, subst, arith, nat_lt, if◌then◌else◌}
use Rattle.world_model.specs.Words.{Greeting, Party, Cell, Answer, Quiet, Send, Open, Step, is_estab, ticked, gsmp_answer, gsmp_received, Request, AddBranch, MoveBranch, DeleteTree, VerifyTree, PortManagement, payload_of, Journal, tested, Reassembly, message_of, control_port, is_request, Handled, handled, replied, requested, frame_read, gsmp_cell, switched_cell, is_gsmp, tick_comes}
use Rattle.world_model.specs.adjacency_table.declared.message.Answer.TheVariants.{Reset}
use Rattle.world_model.specs.gsmp_wire.declared.fault.Fault.{Fault}
use Rattle.world_model.specs.gsmp_wire.declared.message.Message.{Message}
use Rattle.world_model.specs.gsmp_wire.declared.message.Message.TheVariants as messages
use Rattle.world_model.specs.gsmp_wire.declared.request.Request.TheVariants.{DeleteAll, AllPorts}
use Rattle.world_model.specs.gsmp_wire.Layout.{octets_of}
use Rattle.world_model.specs.gsmp_wire.Fields.{decoded}
use Rattle.world_model.specs.frame_model.Reassembly.{Taken, taken}
use Rattle.world_model.specs.switch_model.declared.port.PortState.{PortState}
use Rattle.world_model.specs.Switch.{ActedSwitch, free_slots}
use Rattle.world_model.specs.Answers.{port_row}
use Rattle.world_model.specs.Conduct.{says, answers, steps, message_heard, opened_frame, ends_frame, cell_comes}
use Rattle.console_model.specs.Lab.{Lab}
use Rattle.console_model.specs.Steps.{with_queue}
use Rattle.console_model.specs.Plain.{map_after}
use Rattle.law_console.specs.Words.{Stood, first_rows, IsCommand, SuitsList, SuitsCommand, IsAsked, greeting_asked, list_asked, command_asked, Tells, greeting_told, list_told, answer_told, Asks, AreAsked}
use Rattle.law_console.specs.Handled.{IsHandled}
use Rattle.law_console.specs.Kept.{view, made_in, course, IsKept, Holds}
use Rattle.law_console.proofs.Reading.{IsGreeting, greeting, refused, greeting_read, list_read, command_read}
use Rattle.law_console.proofs.Handling.{switches_plain}
use Rattle.law_console.proofs.Along.{every_at, lead_to_ends}
use Rattle.law_console.proofs.Views.{on_both, acted_in, told_up, renoted}
use Rattle.law_console.proofs.Chances.{IsFree, switch_reads}
use Rattle.law_console.proofs.Testing.{opened, ended, taken_is}
use Rattle.law_console.proofs.Changes.{IsAgain, cell_taken, cell_gone, is_again, carried_out, renewed}

module _ (ports most : ℕ) (lab : Lab) where
  abbrev pub Is : ActedSwitch → Type 0
  Is a = Holds ports most (view (acted_in lab a))

  kept_is : (carried : ℕ) (stood : Stood) (a : ActedSwitch) → IsKept ports most carried stood (view (acted_in lab a)) → Is a
  kept_is carried stood a h = record { carried = carried; stood = stood; kept = h }

  -- *The adjacency*
  says_greeting : (a : ActedSwitch) (g : Greeting) → Is a → Is (says a (messages.Adjacency g))
  says_greeting a g h = kept_is h.carried h.stood (says a (messages.Adjacency g)) (told_up ports most h.carried h.stood lab a (messages.Adjacency g) (greeting_told g refl) h.kept)

  answers_kept : (a : ActedSwitch) (answer : Answer Greeting Party) → Is a → Is (answers a answer)
  answers_kept a Quiet h = h
  answers_kept a (Send g) h = says_greeting a g h
  answers_kept a (Open None key) h = h
  answers_kept a (Open (Some g) key) h = says_greeting a g h
  answers_kept a Reset h = h

  steps_kept : (a : ActedSwitch) (step : Step Party) → Is a → Is (steps a step)
  steps_kept a step h = answers_kept (record a { switch = record a.switch { adjacency = step.side } }) (gsmp_answer step.answer) h

  pub tick_kept : (a : ActedSwitch) → Is a → Is (tick_comes a)
  tick_kept a h = steps_kept a (ticked a.switch.adjacency) h

  greeting_kept : (a : ActedSwitch) (r : Result Message Fault) → IsGreeting r → Is a → Is (frame_read a r)
  greeting_kept a _ (greeting g) h = steps_kept a (gsmp_received a.switch.adjacency g) h
  greeting_kept a _ (refused fault) h = h

  -- *All Ports*
  list_kept : (carried : ℕ) (stood : Stood) (a : ActedSwitch) (number : ℕ) → number < lab.console.desk.next → SuitsList stood number → IsKept ports most carried stood (view (acted_in lab a))
      → Is (requested a (messages.AllPorts 2 0 number []))
  list_kept carried stood a number early suits h = on_both Is (is_estab a.switch.adjacency.state) (replied a (handled a.switch a.notes (messages.AllPorts 2 0 number []))) a
      (kept_is carried stood (says a message) (told_up ports most carried stood lab a message (list_told number early suits (ap (λ (states : List PortState). octets_of (messages.AllPorts 3 0 number (map port_row states))) h.has_ports)) h))
      (kept_is carried stood a h)
    where
      message : Message
      message = messages.AllPorts 3 0 number (map port_row a.switch.ports)

  -- *A command*
  told_is : (a : ActedSwitch) (number : ℕ) (q : Request) → IsCommand q → message_heard a (message_of (first_rows ports) number q) ≡ requested a (message_of (first_rows ports) number q)
  told_is a number (AddBranch input output) is = refl
  told_is a number (MoveBranch input from to) is = refl
  told_is a number (DeleteTree input) is = refl
  told_is a number (VerifyTree input) is = refl
  told_is a number (DeleteAll port) is = refl
  told_is a number (PortManagement port function) is = absurd is
  told_is a number AllPorts is = absurd is

module _ (ports most : ℕ) (few : ports ≤ 8) (low : most < 2 ^ 32) (lab : Lab) (carried : ℕ) (stood : Stood) (cell : Cell) (cells : List Cell)
    (first : lab.console.queue ≡ cell ∷ cells) (h : IsKept ports most carried stood (view lab)) where
  abbrev left : Lab
  left = with_queue lab cells

  abbrev begin : ActedSwitch
  begin = record { switch = lab.switch; notes = lab.notes; numbers = lab.numbers }

  abbrev Ends : ActedSwitch → Type 0
  Ends a = Is ports most left a

  gone : IsKept ports most carried stood (view left)
  gone = cell_gone ports most carried stood (view lab) cell cells first h

  abbrev with_chain : Reassembly → Journal → ActedSwitch
  with_chain r notes = record begin { switch = record lab.switch { reassembly = r }; notes = notes }

  kept : (r : Reassembly) (notes : Journal) → notes.frames ≡ lab.notes.frames → Ends (with_chain r notes)
  kept r notes same = record { carried = carried; stood = stood; kept = renoted ports most carried stood (view left) notes.frames same gone }

  -- a command is handled, and answered
  module _ (r : Reassembly) (number place : ℕ) (q : Request) (early : number < lab.console.desk.next) (suits : SuitsCommand stood (length lab.answers) number place)
      (command : slice_get lab.commands place ≡ Some q) (within : place ≤ length lab.answers) (least : carried ≤ place + 1)
      (waits : AreAsked ports (course carried stood (view lab)) (made_in (view lab)) (place + 1) cells) where
    abbrev a : ActedSwitch
    a = with_chain r lab.notes

    abbrev message : Message
    message = message_of (first_rows ports) number q

    abbrev x : Handled
    x = handled a.switch a.notes message

    is : IsCommand q
    is = every_at IsCommand lab.commands place q h.requests command

    done : IsHandled ports number (map_after ports (take carried lab.commands)) q a.switch a.notes x
    done = switches_plain ports number (map_after ports (take carried lab.commands)) q a.switch a.notes (omega (arith, early, h.few, low)) is
        (record { has_ports = h.has_ports; paths = h.paths; map = h.map; ends = lead_to_ends ports lab.commands carried h.requests })

    again : IsAgain ports most carried (view lab) place q
    again = is_again ports most carried (view lab) place q command (omega (arith, within, h.answered)) least

    after_command : IsKept ports most (place + 1) stood (view (acted_in left (record a { switch = x.switch; notes = x.notes })))
    after_command = renewed ports most (place + 1) stood (record (view lab) { branches = x.switch.crossbar.branches; waiting = cells }) x.switch.ports x.switch.vpis x.switch.crossbar.queues x.notes.frames
        done.has_ports done.paths done.queues done.frames
        (carried_out ports most carried stood (view lab) place q cells x.switch.crossbar.branches command within least waits done.map h)

    handled_kept : Ends (replied a x)
    handled_kept = record {
      carried = place + 1;
      stood = stood;
      kept = told_up ports most (place + 1) stood left (record a { switch = x.switch; notes = x.notes }) x.answer
          (answer_told number place q x.answer (omega arith) early suits command (subst (λ (reply : _). Tells q number reply x.answer) again.answer done.tells) refl) after_command;
    }

    command_kept : Ends (frame_read a (Ok message))
    command_kept = subst Ends (sym (told_is ports most left a number q is))
        (on_both Ends (is_request message && is_estab a.switch.adjacency.state) (replied a x) a handled_kept (kept r lab.notes refl))

  -- *A payload* that was made for the cell's mark
  reads : (r : Reassembly) (payload : List ℕ) → payload_of lab.notes.frames cell.mark ≡ Some payload → Ends (frame_read (with_chain r lab.notes) (decoded payload))
  reads r payload made =
      let t = cell_taken ports most carried stood (view lab) cell cells first h in
      let asks : Asks ports (course carried stood (view lab)) (made_in (view lab)) carried t.0 cell = t.1.0 in
      let same : asks.payload ≡ payload = (let both : Some asks.payload ≡ Some payload = sym asks.of.kept ∙ made in cc both) in
      subst (λ (p : List ℕ). Ends (frame_read (with_chain r lab.notes) (decoded p))) same (by t.0 asks.payload asks.asked t.1.1)
    where
      by : (after : ℕ) (payload : List ℕ) → IsAsked ports (course carried stood (view lab)) carried after payload → AreAsked ports (course carried stood (view lab)) (made_in (view lab)) after cells
          → Ends (frame_read (with_chain r lab.notes) (decoded payload))
      by after payload (greeting_asked g e f) waits = subst (λ (p : List ℕ). Ends (frame_read (with_chain r lab.notes) (decoded p))) (sym f)
          (greeting_kept ports most left (with_chain r lab.notes) (decoded (octets_of (messages.Adjacency g))) (greeting_read g) (kept r lab.notes refl))
      by after payload (list_asked number e early suits f) waits = subst (λ (p : List ℕ). Ends (frame_read (with_chain r lab.notes) (decoded p))) (sym f)
          (subst (λ (o : Result Message Fault). Ends (frame_read (with_chain r lab.notes) o)) (sym (list_read ports number (omega (arith, early, h.few, low))))
          (list_kept ports most left carried stood (with_chain r lab.notes) number early suits gone))
      by after payload (command_asked number place q e least within early suits command f) waits = subst (λ (p : List ℕ). Ends (frame_read (with_chain r lab.notes) (decoded p))) (sym f)
          (subst (λ (o : Result Message Fault). Ends (frame_read (with_chain r lab.notes) o)) (sym (command_read ports number q (every_at IsCommand lab.commands place q h.requests command) (omega (arith, early, h.few, low))))
          (command_kept r number place q early suits command within least (subst (λ (n : ℕ). AreAsked ports (course carried stood (view lab)) (made_in (view lab)) n cells) e waits)))

  -- *The cell*
  abbrev notes_of : ActedSwitch → Journal
  notes_of a = a.notes

  abbrev opens : ActedSwitch → List ℕ → ActedSwitch
  opens a payload = frame_read a (decoded payload)

  bridge : (r : Reassembly) (notes : Journal) (chain : List Cell) → (IsFree (ended notes_of with_chain opens r notes chain).notes → Ends (ended notes_of with_chain opens r notes chain))
      → IsFree (ends_frame (with_chain r notes) chain).notes → Ends (ends_frame (with_chain r notes) chain)
  bridge r notes [] k = k
  bridge r notes (c ∷ chain) k = by (tested notes (c ∷ chain)).payload k
    where
      after : Journal
      after = (tested notes (c ∷ chain)).notes

      by : (o : Option (List ℕ)) → (IsFree (opened notes_of with_chain opens (with_chain r after) o).notes → Ends (opened notes_of with_chain opens (with_chain r after) o))
          → IsFree (opened_frame (with_chain r after) o).notes → Ends (opened_frame (with_chain r after) o)
      by None k = k
      by (Some payload) k = k

  pub cell_kept : IsFree (cell_comes begin control_port cell).notes → Ends (cell_comes begin control_port cell)
  cell_kept = by (is_gsmp control_port cell.header.channel) gsmp
    where
      gsmp : is_gsmp control_port cell.header.channel ≡ true
      gsmp = ap (is_gsmp control_port) (cell_taken ports most carried stood (view lab) cell cells first h).1.0.of.channel

      t : Taken
      t = taken lab.notes (nat_lt 0 (free_slots lab.switch)) lab.switch.reassembly cell

      here : IsFree (gsmp_cell begin cell).notes → Ends (gsmp_cell begin cell)
      here = bridge t.reassembly t.notes t.ended
          (taken_is notes_of with_chain opens Ends lab.notes (nat_lt 0 (free_slots lab.switch)) lab.switch.reassembly cell
          (λ r notes payload has. switch_reads (with_chain r notes) (decoded payload) has) kept reads)

      by : (b : Bool) → b ≡ true → IsFree (if b then gsmp_cell begin cell else switched_cell begin control_port cell).notes → Ends (if b then gsmp_cell begin cell else switched_cell begin control_port cell)
      by true e = here
      by false e = absurd (cc e)
