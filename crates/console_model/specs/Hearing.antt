-- What comes to a console: messages of the adjacency, and answers (RFC 1987); cells and frames
-- (I.363.5 9.2)

use Rattle.std.specs.Prelude.{ℕ, Bool, ◌==◌, ◌&&◌, nat_lt, min, List, [], ◌∷◌, ◌++◌, Option, None, Some, Result, Ok, Err, if◌then◌else◌}
use Rattle.net_types.specs.declared.channel.Channel.{Channel}
use Rattle.net_types.specs.declared.channel.End.{End}
use Rattle.net_types.specs.declared.adjacency.Greeting.{Greeting}
use Rattle.net_types.specs.declared.adjacency.Party.{Party}
use Rattle.atm_cells.specs.declared.cell.Cell.{Cell}
use Rattle.adjacency_table.specs.declared.message.Answer.{Answer}
use Rattle.adjacency_table.specs.declared.message.Answer.TheVariants.{Quiet, Send, Open, Reset}
use Rattle.adjacency_table.specs.Side.{Step, is_estab}
use Rattle.adjacency_table.specs.Greeting.{gsmp_answer, gsmp_received}
use Rattle.gsmp_wire.specs.declared.fault.Fault.{Fault}
use Rattle.gsmp_wire.specs.declared.message.BranchKind.TheVariants.{Verify}
use Rattle.gsmp_wire.specs.declared.message.Message.{Message}
use Rattle.gsmp_wire.specs.declared.message.Message.TheVariants as messages
use Rattle.gsmp_wire.specs.declared.request.Request.{Request}
use Rattle.gsmp_wire.specs.declared.request.Request.TheVariants.{AllPorts}
use Rattle.gsmp_wire.specs.Fields.{decoded}
use Rattle.link_model.specs.declared.record.Record.TheVariants.{Loss, Bad}
use Rattle.link_model.specs.declared.record.Cause.TheVariants.{Unbound}
use Rattle.link_model.specs.declared.record.Layer.TheVariants.{Gsmp}
use Rattle.refusal_names.specs.Names.{gsmp_refusal}
use Rattle.frame_model.specs.Reassembly.{Taken, taken}
use Rattle.frame_model.specs.Frame.{Tested, tested}
use Rattle.port_model.specs.DeskAnswers.{Answered, Unknown, Done, Ports, Failed, answered, after_answer}
use Rattle.world_model.specs.Switch.{gsmp_channel}
use Rattle.console_model.specs.declared.reply.Reply.{Reply}
use Rattle.console_model.specs.declared.reply.Reply.TheVariants as reply
use Rattle.console_model.specs.Lab.{Lab, the_node, free_slots, note, with_desk, with_side}
use Rattle.console_model.specs.Asking.{says, meets, asks_next, resets}

-- *The adjacency*: what the table answers is done
abbrev pub follows : Lab → Answer Greeting Party → Lab
follows lab Quiet = lab
follows lab (Send greeting) = says lab (messages.Adjacency greeting)
follows lab (Open None own) = meets lab
follows lab (Open (Some greeting) own) = meets (says lab (messages.Adjacency greeting))
follows lab Reset = resets lab

abbrev pub steps : Lab → Step Party → Lab
steps lab step = follows (with_side lab step.side) (gsmp_answer step.answer)

-- *A success* of Verify Tree tells where its input leads. A port has 8 bits: only a chance can tell a
-- greater one, which is shown as 255
abbrev pub told_end : (port : ℕ) → Channel → End
told_end port channel = record { port = record { 0 = min port 255 }; channel = channel }

abbrev pub reply_in : Message → Reply
reply_in (messages.Branch Verify result code transaction session input_port input output_port output
    branches priority) = reply.At (told_end output_port output)
reply_in message = reply.Done

-- *An answer* answers the command that stands, and the next one is asked; a failure of All Ports resets
abbrev pub answers : Lab → Reply → Lab
answers lab given = asks_next (record lab { answers = lab.answers ++ given ∷ [] })

abbrev pub fails : Lab → Request → (code : ℕ) → Lab
fails lab AllPorts code = resets lab
fails lab command code = answers lab (reply.Failed code)

abbrev pub answers_by : Lab → Message → Answered → Lab
answers_by lab message Unknown = lab
answers_by lab message (Done s) = answers lab (reply_in message)
answers_by lab message (Ports s rows) = asks_next lab
answers_by lab message (Failed s code) = fails lab s.request code

abbrev pub takes_answer : Lab → Message → Answered → Lab
takes_answer lab message answer = answers_by (with_desk lab (after_answer lab.console.desk answer)) message answer

-- outside Estab no answer is taken
abbrev pub answer_comes : Lab → Message → Lab
answer_comes lab message =
    if is_estab lab.console.adjacency.state then takes_answer lab message (answered lab.console.desk message) else lab

-- *Messages*
abbrev pub told : Lab → Message → Lab
told lab (messages.Adjacency greeting) = steps lab (gsmp_received lab.console.adjacency greeting)
told lab message = answer_comes lab message

-- what is refused is recorded, and does nothing else
abbrev pub holds : Lab → Result Message Fault → Lab
holds lab (Ok message) = told lab message
holds lab (Err fault) = note lab (Bad the_node Gsmp (gsmp_refusal fault))

-- *Frames*: one that failed its test holds nothing
abbrev pub opened_frame : Lab → Option (List ℕ) → Lab
opened_frame lab None = lab
opened_frame lab (Some payload) = holds lab (decoded payload)

abbrev pub after_test : Lab → Tested → Lab
after_test lab test = opened_frame (record lab { notes = test.notes }) test.payload

-- a chain that a last cell ended is tested, and its frame acts
abbrev pub ends_frame : Lab → List Cell → Lab
ends_frame lab [] = lab
ends_frame lab (cell ∷ cells) = after_test lab (tested lab.notes (cell ∷ cells))

-- *Cells*: those of the GSMP channel join its reassembly, and others are dropped
abbrev pub after_cell : Lab → Taken → Lab
after_cell lab t =
    ends_frame (record lab { console = record lab.console { reassembly = t.reassembly }; notes = t.notes }) t.ended

abbrev pub gsmp_cell : Lab → Cell → Lab
gsmp_cell lab cell =
    after_cell lab (taken lab.notes (nat_lt 0 (free_slots lab.console)) lab.console.reassembly cell)

abbrev pub is_gsmp : Channel → Bool
is_gsmp channel = channel.vpi == gsmp_channel.vpi && channel.vci == gsmp_channel.vci

abbrev pub cell_comes : Lab → Cell → Lab
cell_comes lab cell = if is_gsmp cell.header.channel then gsmp_cell lab cell else note lab (Loss cell.mark Unbound)
