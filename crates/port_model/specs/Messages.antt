-- The message of each request (RFC 1987). The session is that of the input port, or of the port that
-- is managed, as the last answer to All Ports tells it.

use Rattle.std.specs.Prelude.{ℕ, Bool, false, ◌==◌, List, [], find, Option}
use Rattle.std.specs.Option.{option_map_or}
use Rattle.net_types.specs.declared.node.PortNo.{PortNo}
use Rattle.net_types.specs.declared.channel.End.{End}
use Rattle.gsmp_wire.specs.declared.message.BranchKind.{BranchKind}
use Rattle.gsmp_wire.specs.declared.message.BranchKind.TheVariants as kinds
use Rattle.gsmp_wire.specs.declared.message.Message.{Message}
use Rattle.gsmp_wire.specs.declared.message.Message.TheVariants as messages
use Rattle.gsmp_wire.specs.declared.request.Request.{Request}
use Rattle.gsmp_wire.specs.declared.request.Request.TheVariants.{AddBranch, MoveBranch, DeleteTree, VerifyTree, DeleteAll, PortManagement, AllPorts}
use Rattle.gsmp_wire.specs.declared.rows.PortRow.{PortRow}

-- the first record of a port counts
abbrev pub row_of : List PortRow → PortNo → Option PortRow
row_of rows port = find (λ row. row.port == port.0) rows

-- 0 where no record tells it
abbrev pub session_of : List PortRow → PortNo → ℕ
session_of rows port = option_map_or (λ row. row.session) (row_of rows port) 0

abbrev pub is_up : List PortRow → PortNo → Bool
is_up rows port = option_map_or (λ row. row.up) (row_of rows port) false

-- how a request writes an end of which it doesn't speak, and an input that is a whole port
abbrev pub all_of : PortNo → End
all_of port = record { port = port; channel = record { vpi = 0; vci = 0 } }

abbrev pub unnamed : End
unnamed = all_of (record { 0 = 0 })

-- a request has Result 2 and Code 0; Branches and Priority are 0
abbrev pub branch_message : BranchKind → (number session : ℕ) → (input output : End) → Message
branch_message kind number session input output =
    messages.Branch kind 2 0 number session input.port.0 input.channel output.port.0 output.channel 0 0

abbrev pub message_of : List PortRow → (number : ℕ) → Request → Message
message_of rows number (AddBranch input output) =
    branch_message kinds.Add number (session_of rows input.port) input output
message_of rows number (MoveBranch input from to) =
    messages.Move 2 0 number (session_of rows input.port) input.port.0 input.channel from.port.0 from.channel
    to.port.0 to.channel 0 0
message_of rows number (DeleteTree input) =
    branch_message kinds.Delete number (session_of rows input.port) input unnamed
message_of rows number (VerifyTree input) =
    branch_message kinds.Verify number (session_of rows input.port) input unnamed
message_of rows number (DeleteAll port) =
    branch_message kinds.DeleteAll number (session_of rows port) (all_of port) unnamed
message_of rows number (PortManagement port function) =
    messages.Port 2 0 number port.0 (session_of rows port) function
message_of rows number AllPorts = messages.AllPorts 2 0 number []
