-- What comes on the GSMP channel (RFC 1987): the adjacency with the switch, and answers

use Rattle.std.specs.Prelude.{None, Some, Result, Ok, Err}
use Rattle.net_types.specs.declared.adjacency.Greeting.{Greeting}
use Rattle.net_types.specs.declared.adjacency.Party.{Party}
use Rattle.port_model.specs.adjacency_table.declared.message.Answer.{Answer}
use Rattle.port_model.specs.adjacency_table.declared.message.Answer.TheVariants.{Quiet, Send, Open, Reset}
use Rattle.port_model.specs.adjacency_table.Side.{Step}
use Rattle.port_model.specs.adjacency_table.Greeting.{gsmp_answer, gsmp_received}
use Rattle.port_model.specs.gsmp_wire.declared.fault.Fault.{Fault}
use Rattle.port_model.specs.gsmp_wire.declared.message.Message.{Message}
use Rattle.port_model.specs.gsmp_wire.declared.message.Message.TheVariants.{Adjacency}
use Rattle.frame_model.specs.link_model.declared.record.Record.TheVariants.{Bad}
use Rattle.frame_model.specs.link_model.declared.record.Layer.TheVariants.{Gsmp}
use Rattle.refusal_names.specs.Names.{gsmp_refusal}
use Rattle.controller_model.specs.Controller.{Acted, note}
use Rattle.controller_model.specs.Sending.{says_gsmp}
use Rattle.controller_model.specs.Resets.{node_resets}
use Rattle.controller_model.specs.Meeting.{meets, answer_comes}

-- what the table answers is done; entering Estab begins the meeting
abbrev pub answers : Acted → Answer Greeting Party → Acted
answers a Quiet = a
answers a (Send greeting) = says_gsmp a (Adjacency greeting)
answers a (Open None own) = meets a
answers a (Open (Some greeting) own) = meets (says_gsmp a (Adjacency greeting))
answers a Reset = node_resets a

abbrev pub steps : Acted → Step Party → Acted
steps a step =
    answers (record a { controller = record a.controller { adjacency = step.side } }) (gsmp_answer step.answer)

abbrev pub message_comes : Acted → Message → Acted
message_comes a (Adjacency greeting) = steps a (gsmp_received a.controller.adjacency greeting)
message_comes a message = answer_comes a message

-- what is refused is recorded, and does nothing else
abbrev pub gsmp_holds : Acted → Result Message Fault → Acted
gsmp_holds a (Ok message) = message_comes a message
gsmp_holds a (Err fault) = note a (Bad a.controller.node Gsmp (gsmp_refusal fault))
