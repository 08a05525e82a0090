-- an event takes no answer back

use Rattle.std.proofs.Common.{◌≡◌, ℕ, nat_lt, Bool, true, false, List, [], ◌∷◌, ◌++◌, append_assoc, append-nil, Option, None, Some, Result, Ok, Err, slice_get, refl, sym, ◌∙◌, ap}
use Rattle.std.specs.Prelude.{if◌then◌else◌}
use Rattle.net_types.specs.declared.adjacency.Greeting.{Greeting}
use Rattle.net_types.specs.declared.adjacency.Party.{Party}
use Rattle.atm_cells.specs.declared.cell.Cell.{Cell}
use Rattle.adjacency_table.specs.declared.message.Answer.{Answer}
use Rattle.adjacency_table.specs.declared.message.Answer.TheVariants.{Quiet, Send, Open, Reset}
use Rattle.adjacency_table.specs.declared.message.Said.{Said}
use Rattle.adjacency_table.specs.Greeting.{gsmp_answer, gsmp_received}
use Rattle.adjacency_table.specs.Side.{Step, is_estab, ticked}
use Rattle.frame_model.specs.Frame.{Tested, tested}
use Rattle.frame_model.specs.Reassembly.{Taken, taken}
use Rattle.crossbar_model.specs.Crossbar.{queue_of}
use Rattle.gsmp_wire.specs.declared.fault.Fault.{Fault}
use Rattle.gsmp_wire.specs.declared.message.Message.{Message}
use Rattle.gsmp_wire.specs.declared.message.Message.TheVariants.{Adjacency}
use Rattle.gsmp_wire.specs.declared.request.Request.{Request}
use Rattle.gsmp_wire.specs.declared.request.Request.TheVariants.{AllPorts}
use Rattle.gsmp_wire.specs.Fields.{decoded}
use Rattle.port_model.specs.Desk.{Standing}
use Rattle.port_model.specs.DeskAnswers.{Answered, Unknown, Done, Ports, Failed, after_answer, answered}
use Rattle.world_model.specs.Switch.{control_port}
use Rattle.console_model.specs.declared.event.Side.{Side}
use Rattle.console_model.specs.declared.event.Side.TheVariants as side
use Rattle.console_model.specs.declared.event.ConsoleEvent.{ConsoleEvent}
use Rattle.console_model.specs.declared.event.ConsoleEvent.TheVariants as event
use Rattle.console_model.specs.declared.reply.Reply.{Reply}
use Rattle.console_model.specs.declared.reply.Reply.TheVariants as reply
use Rattle.console_model.specs.Lab.{Lab, free_slots, with_desk, with_side}
use Rattle.console_model.specs.Asking.{asks_by, asks_next, may_ask, next_command}
use Rattle.console_model.specs.Hearing.{after_cell, after_test, answers, answers_by, cell_comes, ends_frame, fails, follows, holds, is_gsmp, opened_frame, reply_in, steps, takes_answer, told}
use Rattle.console_model.specs.Steps.{acts, carries, carries_down, carries_up, commands, lab_after, loses, loses_down, loses_up, next, put_away, sends_again, sends_first, step, ticks, ticks_by, without_head}

-- answers behind those that were there
pub record HasGrown (before after : List Reply) : Type 0 where
  pub more : List Reply
  pub is : after ≡ before ++ more

same : (before after : List Reply) → after ≡ before → HasGrown before after
same before after is = record { more = []; is = is ∙ sym (append-nil before) }

pub grown_then : (one two three : List Reply) → HasGrown one two → HasGrown two three → HasGrown one three
grown_then one two three p q = record { more = p.more ++ q.more; is = q.is ∙ ap (λ xs. xs ++ q.more) p.is ∙ append_assoc one p.more q.more }

-- *Asking* answers nothing
asked_same : (lab : Lab) (command : Option Request) → (asks_by lab command).answers ≡ lab.answers
asked_same lab None = refl
asked_same lab (Some command) = refl

may_same : (lab : Lab) (may : Bool) → (if may then asks_by lab (next_command lab) else lab).answers ≡ lab.answers
may_same lab true = asked_same lab (next_command lab)
may_same lab false = refl

next_same : (lab : Lab) → (asks_next lab).answers ≡ lab.answers
next_same lab = may_same lab (may_ask lab.console)

-- *An answer* is one more
answered_more : (lab : Lab) (given : Reply) → HasGrown lab.answers (answers lab given).answers
answered_more lab given = record { more = given ∷ []; is = next_same (record lab { answers = lab.answers ++ given ∷ [] }) }

failed_more : (lab : Lab) (command : Request) (code : ℕ) → HasGrown lab.answers (fails lab command code).answers
failed_more lab AllPorts code = same lab.answers lab.answers refl
failed_more lab command code = answered_more lab (reply.Failed code)

by_answer : (lab : Lab) (message : Message) (answer : Answered) → HasGrown lab.answers (answers_by lab message answer).answers
by_answer lab message Unknown = same lab.answers lab.answers refl
by_answer lab message (Done s) = answered_more lab (reply_in message)
by_answer lab message (Ports s rows) = same lab.answers (asks_next lab).answers (next_same lab)
by_answer lab message (Failed s code) = failed_more lab s.request code

taken_more : (lab : Lab) (message : Message) (answer : Answered) → HasGrown lab.answers (takes_answer lab message answer).answers
taken_more lab message answer = by_answer (with_desk lab (after_answer lab.console.desk answer)) message answer

estab_more : (lab : Lab) (message : Message) (estab : Bool) → HasGrown lab.answers (if estab then takes_answer lab message (answered lab.console.desk message) else lab).answers
estab_more lab message true = taken_more lab message (answered lab.console.desk message)
estab_more lab message false = same lab.answers lab.answers refl

-- *The adjacency* answers nothing
followed_same : (lab : Lab) (answer : Answer Greeting Party) → (follows lab answer).answers ≡ lab.answers
followed_same lab Quiet = refl
followed_same lab (Send greeting) = refl
followed_same lab (Open None own) = refl
followed_same lab (Open (Some greeting) own) = refl
followed_same lab Reset = refl

steps_same : (lab : Lab) (step : Step Party) → (steps lab step).answers ≡ lab.answers
steps_same lab step = followed_same (with_side lab step.side) (gsmp_answer step.answer)

-- *What comes*
told_more : (lab : Lab) (message : Message) → HasGrown lab.answers (told lab message).answers
told_more lab (Adjacency greeting) = same lab.answers (steps lab (gsmp_received lab.console.adjacency greeting)).answers (steps_same lab (gsmp_received lab.console.adjacency greeting))
told_more lab message = estab_more lab message (is_estab lab.console.adjacency.state)

held_more : (lab : Lab) (read : Result Message Fault) → HasGrown lab.answers (holds lab read).answers
held_more lab (Ok message) = told_more lab message
held_more lab (Err fault) = same lab.answers lab.answers refl

opened_more : (lab : Lab) (payload : Option (List ℕ)) → HasGrown lab.answers (opened_frame lab payload).answers
opened_more lab None = same lab.answers lab.answers refl
opened_more lab (Some payload) = held_more lab (decoded payload)

tested_more : (lab : Lab) (test : Tested) → HasGrown lab.answers (after_test lab test).answers
tested_more lab test = opened_more (record lab { notes = test.notes }) test.payload

ended_more : (lab : Lab) (cells : List Cell) → HasGrown lab.answers (ends_frame lab cells).answers
ended_more lab [] = same lab.answers lab.answers refl
ended_more lab (cell ∷ cells) = tested_more lab (tested lab.notes (cell ∷ cells))

cell_more : (lab : Lab) (t : Taken) → HasGrown lab.answers (after_cell lab t).answers
cell_more lab t = ended_more (record lab { console = record lab.console { reassembly = t.reassembly }; notes = t.notes }) t.ended

channel_more : (lab : Lab) (cell : Cell) (gsmp : Bool) → is_gsmp cell.header.channel ≡ gsmp → HasGrown lab.answers (cell_comes lab cell).answers
channel_more lab cell true is = rw is (cell_more lab (taken lab.notes (nat_lt 0 (free_slots lab.console)) lab.console.reassembly cell))
channel_more lab cell false is = rw is (same lab.answers lab.answers refl)

-- *Cells that are carried or lost*
down_same : (lab : Lab) (cells : List Cell) → (carries_down lab cells).answers ≡ lab.answers
down_same lab [] = refl
down_same lab (cell ∷ cells) = refl

up_more : (lab : Lab) (cells : List Cell) → HasGrown lab.answers (carries_up lab cells).answers
up_more lab [] = same lab.answers lab.answers refl
up_more lab (cell ∷ cells) = channel_more (without_head lab) cell (is_gsmp cell.header.channel) refl

carried_more : (lab : Lab) (from : Side) → HasGrown lab.answers (carries lab from).answers
carried_more lab side.Console = same lab.answers (carries_down lab lab.console.queue).answers (down_same lab lab.console.queue)
carried_more lab side.Switch = up_more lab (queue_of lab.switch.crossbar control_port)

lost_down : (lab : Lab) (cells : List Cell) → (loses_down lab cells).answers ≡ lab.answers
lost_down lab [] = refl
lost_down lab (cell ∷ cells) = refl

lost_up : (lab : Lab) (cells : List Cell) → (loses_up lab cells).answers ≡ lab.answers
lost_up lab [] = refl
lost_up lab (cell ∷ cells) = refl

lost_same : (lab : Lab) (from : Side) → (loses lab from).answers ≡ lab.answers
lost_same lab side.Console = lost_down lab lab.console.queue
lost_same lab side.Switch = lost_up lab (queue_of lab.switch.crossbar control_port)

-- *Ticks* answer nothing
first_same : (lab : Lab) (standing : Option Standing) → (sends_first lab standing).answers ≡ lab.answers
first_same lab None = refl
first_same lab (Some s) = refl

again_by : (lab : Lab) (estab : Bool) → (if estab then sends_first lab (slice_get lab.console.desk.standing 0) else lab).answers ≡ lab.answers
again_by lab true = first_same lab (slice_get lab.console.desk.standing 0)
again_by lab false = refl

again_same : (lab : Lab) → (sends_again lab).answers ≡ lab.answers
again_same lab = again_by lab (is_estab lab.console.adjacency.state)

tick_by : (lab : Lab) (step : Step Party) (answer : Answer (Said Party) Party) → (ticks_by lab step answer).answers ≡ lab.answers
tick_by lab step Reset = refl
tick_by lab step answer = again_same (steps lab step) ∙ steps_same lab step

tick_same : (lab : Lab) (of : Side) → (ticks lab of).answers ≡ lab.answers
tick_same lab side.Console = tick_by lab (ticked lab.console.adjacency) (ticked lab.console.adjacency).answer
tick_same lab side.Switch = refl

-- *An event*
command_same : (lab : Lab) (command : Request) → (commands lab command).answers ≡ lab.answers
command_same lab command = next_same (record lab { commands = lab.commands ++ command ∷ [] })

acted_more : (lab : Lab) (e : ConsoleEvent) → HasGrown lab.answers (acts lab e).answers
acted_more lab (event.Add input output) = same lab.answers (acts lab (event.Add input output)).answers (command_same lab _)
acted_more lab (event.Move input from to) = same lab.answers (acts lab (event.Move input from to)).answers (command_same lab _)
acted_more lab (event.Delete input) = same lab.answers (acts lab (event.Delete input)).answers (command_same lab _)
acted_more lab (event.Clear port) = same lab.answers (acts lab (event.Clear port)).answers (command_same lab _)
acted_more lab (event.Verify input) = same lab.answers (acts lab (event.Verify input)).answers (command_same lab _)
acted_more lab (event.Carry from) = carried_more lab from
acted_more lab (event.Lose from) = same lab.answers (loses lab from).answers (lost_same lab from)
acted_more lab (event.Tick of) = same lab.answers (ticks lab of).answers (tick_same lab of)
acted_more lab event.Restart = same lab.answers lab.answers refl

pub event_grows : (lab : Lab) (e : ConsoleEvent) → HasGrown lab.answers (next lab e).answers
event_grows lab e = acted_more (put_away lab) e

-- *Events*
pub events_grow : (events : List ConsoleEvent) (lab : Lab) → HasGrown lab.answers (lab_after lab events).answers
events_grow [] lab = same lab.answers lab.answers refl
events_grow (e ∷ events) lab = grown_then lab.answers (next lab e).answers (lab_after (next lab e) events).answers (event_grows lab e) (events_grow events (next lab e))
