-- What messages have in common: what they begin with, and the connection that they are about

use Rattle.std.specs.Prelude.{ℕ, Option, Some, None}
use Rattle.net_types.specs.declared.channel.Channel.{Channel}
use Rattle.gsmp_wire.specs.declared.message.BranchKind.{BranchKind}
use Rattle.gsmp_wire.specs.declared.message.Connection.{Connection}
use Rattle.gsmp_wire.specs.declared.message.Head.{Head}
use Rattle.gsmp_wire.specs.declared.message.Message.{Message}
use Rattle.gsmp_wire.specs.declared.message.Message.TheVariants.{Adjacency, Branch, Move, Port, AllPorts}

-- the Result (2 in a request, 3 in a success, 4 in a failure), the Code and the transaction number
abbrev pub head_of : Message → Option Head
head_of (Adjacency greeting) = None
head_of (Branch kind result code number session input_port input output_port output branches priority) =
    Some (record { result = result; code = code; number = number })
head_of (Move result code number session input_port input output_port output target_port target branches
    priority) = Some (record { result = result; code = code; number = number })
head_of (Port result code number port session function) =
    Some (record { result = result; code = code; number = number })
head_of (AllPorts result code number rows) = Some (record { result = result; code = code; number = number })

-- the messages about a connection
abbrev pub branch_on : Connection → BranchKind → (result code : ℕ) → Message
branch_on c kind result code =
    Branch kind result code c.transaction c.session c.input_port c.input c.output_port c.output c.branches c.priority

abbrev pub move_on : Connection → (result code target_port : ℕ) → Channel → Message
move_on c result code target_port target =
    Move result code c.transaction c.session c.input_port c.input c.output_port c.output target_port target c.branches
    c.priority
