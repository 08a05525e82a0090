-- What an answer of the switch means to a desk (RFC 1987): it answers the request that stands under
-- its transaction number, where it is of that request's type.

use Rattle.std.specs.Prelude.{ℕ, Bool, true, false, not, ◌==◌, ◌&&◌, List, filter, find, Option, None, Some, if◌then◌else◌}
use Rattle.gsmp_wire.specs.declared.message.BranchKind.{BranchKind}
use Rattle.gsmp_wire.specs.declared.message.BranchKind.TheVariants as kinds
use Rattle.gsmp_wire.specs.declared.message.Message.{Message}
use Rattle.gsmp_wire.specs.declared.message.Message.TheVariants as messages
use Rattle.gsmp_wire.specs.declared.request.Request.{Request}
use Rattle.gsmp_wire.specs.declared.request.Request.TheVariants.{AddBranch, MoveBranch, DeleteTree, VerifyTree, DeleteAll, PortManagement, AllPorts}
use Rattle.gsmp_wire.specs.declared.rows.PortRow.{PortRow}
pub use Rattle.gsmp_wire.specs.declared.message.Head.{Head}
pub use Rattle.gsmp_wire.specs.Parts.{head_of}
use Rattle.port_model.specs.Desk.{Desk, Standing}

-- a message and a request have one type
abbrev pub is_branch_of : BranchKind → Request → Bool
is_branch_of kinds.Add (AddBranch input output) = true
is_branch_of kinds.Delete (DeleteTree input) = true
is_branch_of kinds.Verify (VerifyTree input) = true
is_branch_of kinds.DeleteAll (DeleteAll port) = true
is_branch_of kind request = false

abbrev pub is_of_type : Message → Request → Bool
is_of_type (messages.Branch kind result code number session input_port input output_port output branches
    priority) request = is_branch_of kind request
is_of_type (messages.Move result code number session input_port input output_port output target_port
    target branches priority) (MoveBranch input_end from to) = true
is_of_type (messages.Port result code number port session function) (PortManagement managed order) = true
is_of_type (messages.AllPorts result code number rows) AllPorts = true
is_of_type message request = false

-- nothing that stands; a success; a success of All Ports, with its records; a failure with its Code
pub data Answered : Type 0 where
  Unknown : Answered
  Done : Standing → Answered
  Ports : Standing → List PortRow → Answered
  Failed : Standing → (code : ℕ) → Answered

abbrev pub succeeded : Message → Standing → Answered
succeeded (messages.AllPorts result code number rows) s = Ports s rows
succeeded message s = Done s

abbrev pub outcome : Message → Head → Option Standing → Answered
outcome message head None = Unknown
outcome message head (Some s) =
    if head.result == 3 then succeeded message s
    else (if head.result == 4 then Failed s head.code else Unknown)

abbrev pub answered_with : List Standing → Message → Option Head → Answered
answered_with standing message None = Unknown
answered_with standing message (Some head) =
    outcome message head (find (λ s. s.number == head.number && is_of_type message s.request) standing)

abbrev pub answered : Desk → Message → Answered
answered desk message = answered_with desk.standing message (head_of message)

-- a request that is answered stands no longer
abbrev pub without_request : Desk → Standing → Desk
without_request desk s = record desk { standing = filter (λ other. not (other.number == s.number)) desk.standing }

abbrev pub after_answer : Desk → Answered → Desk
after_answer desk Unknown = desk
after_answer desk (Done s) = without_request desk s
after_answer desk (Ports s rows) = record (without_request desk s) { rows = rows }
after_answer desk (Failed s code) = without_request desk s
