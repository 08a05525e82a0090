-- How a switch answers a request (RFC 1987): an answer repeats it but for Result, Code, and what the
-- request asked for

use Rattle.std.specs.Prelude.{ℕ, List, [], map, Option, None, Some, is_some, if◌then◌else◌}
use Rattle.net_types.specs.Label.{least_label_vci, greatest_label_vci}
use Rattle.net_types.specs.declared.channel.Channel.{Channel}
use Rattle.net_types.specs.declared.channel.End.{End}
pub use Rattle.gsmp_wire.specs.Failures.{failure_code}
use Rattle.gsmp_wire.specs.declared.message.BranchKind.{BranchKind}
use Rattle.gsmp_wire.specs.declared.message.BranchKind.TheVariants as kinds
use Rattle.gsmp_wire.specs.declared.message.Message.{Message}
use Rattle.gsmp_wire.specs.declared.message.Message.TheVariants.{Adjacency, Branch, Move, Port, AllPorts}
use Rattle.gsmp_wire.specs.declared.rows.PortRow.{PortRow}
use Rattle.frame_model.specs.link_model.Notes.{Journal}
use Rattle.crossbar_model.specs.Crossbar.{Branches, output_of}
use Rattle.switch_model.specs.declared.port.PortState.{PortState}
use Rattle.switch_model.specs.declared.request.Asked.{Asked}
use Rattle.gsmp_wire.specs.declared.request.Request.{Request}
use Rattle.gsmp_wire.specs.declared.request.Request.TheVariants.{AddBranch, MoveBranch, DeleteTree, VerifyTree, PortManagement}
use Rattle.gsmp_wire.specs.declared.failure.Failure.{Failure}
use Rattle.switch_model.specs.Switch.{Switch, state_of_port, with_branches}
use Rattle.switch_model.specs.Requests.{Changed, asked_in, branches_after, end_at, ports_after}
use Rattle.switch_model.specs.Failures.{failure_of}

-- Result 4
abbrev pub failure_answer : Failure → Message → Message
failure_answer failure (Adjacency greeting) = Adjacency greeting
failure_answer failure (Branch kind result code transaction session input_port input output_port
    output branches priority) =
    Branch kind 4 (failure_code failure) transaction session input_port input output_port output
    branches priority
failure_answer failure (Move result code transaction session input_port input output_port output
    target_port target branches priority) =
    Move 4 (failure_code failure) transaction session input_port input output_port output
    target_port target branches priority
failure_answer failure (Port result code transaction port session function) =
    Port 4 (failure_code failure) transaction port session function
failure_answer failure (AllPorts result code transaction rows) =
    AllPorts 4 (failure_code failure) transaction []

-- where the branch of a request's input leads; Delete All speaks of no one branch
abbrev pub branch_of : Branches → Request → Option End
branch_of m (AddBranch input output) = output_of m input
branch_of m (MoveBranch input from to) = output_of m input
branch_of m (DeleteTree input) = output_of m input
branch_of m (VerifyTree input) = output_of m input
branch_of m request = None

-- the session of the port that is managed
abbrev pub session_or : (session : ℕ) → Option PortState → ℕ
session_or session None = session
session_or session (Some state) = state.session

abbrev pub answer_session : List PortState → Request → (session : ℕ) → ℕ
answer_session ports (PortManagement port function) session = session_or session (state_of_port ports port)
answer_session ports request session = session

-- the record of a port: the least and the greatest VCI of a label
abbrev pub port_row : PortState → PortRow
port_row state = record { port = state.number.0; session = state.session; up = state.is_up; least = least_label_vci; greatest = greatest_label_vci }

-- Branches is 1 where the input has a branch afterwards
abbrev pub count_of : Option End → ℕ
count_of found = if is_some found then 1 else 0

-- Verify Tree tells where it leads, in the place of its output; the others repeat theirs
abbrev pub told_output : BranchKind → End → Option End → End
told_output kinds.Verify output (Some e) = e
told_output kind output found = output

abbrev pub branch_answer : BranchKind → (transaction session input_port : ℕ) (input : Channel)
    (output : End) (branches priority : ℕ) → Message
branch_answer kind transaction session input_port input output branches priority =
    Branch kind 3 0 transaction session input_port input output.port.0 output.channel branches priority

-- the success answer, Result 3, where these are the ports and branches afterwards
abbrev pub success_answer : List PortState → Branches → Request → Message → Message
success_answer ports m request (Adjacency greeting) = Adjacency greeting
success_answer ports m request (Branch kind result code transaction session input_port input
    output_port output branches priority) =
    branch_answer kind transaction session input_port input
    (told_output kind (end_at output_port output) (branch_of m request))
    (count_of (branch_of m request)) priority
success_answer ports m request (Move result code transaction session input_port input output_port
    output target_port target branches priority) =
    Move 3 0 transaction session input_port input output_port output target_port target
    (count_of (branch_of m request)) priority
success_answer ports m request (Port result code transaction port session function) =
    Port 3 0 transaction port (answer_session ports request session) function
success_answer ports m request (AllPorts result code transaction rows) =
    AllPorts 3 0 transaction (map port_row ports)

-- a switch after a request, the notes, and the answer
pub record Handled : Type 0 where
  pub switch : Switch
  pub notes : Journal
  pub answer : Message

-- a request that fails changes nothing
abbrev pub refused : Switch → Journal → Message → Failure → Handled
refused s notes m failure = record { switch = s; notes = notes; answer = failure_answer failure m }

abbrev pub carried_out : Switch → Journal → Message → Request → Handled
carried_out s notes m request =
    let c : Changed = branches_after (record { branches = s.crossbar.branches; notes = notes }) request in
    let ports = ports_after s.ports request in
    record {
      switch = record (with_branches s c.branches) { ports = ports };
      notes = c.notes;
      answer = success_answer ports c.branches request m;
    }

abbrev pub handled_by : Switch → Journal → Message → Request → Option Failure → Handled
handled_by s notes m request (Some failure) = refused s notes m failure
handled_by s notes m request None = carried_out s notes m request

-- an adjacency message asks for nothing
abbrev pub handled_asked : Switch → Journal → Message → Option Asked → Handled
handled_asked s notes m None = record { switch = s; notes = notes; answer = m }
handled_asked s notes m (Some asked) =
    handled_by s notes m asked.request (failure_of s.ports s.vpis s.crossbar.branches asked)

-- a switch handles a request
abbrev pub handled : Switch → Journal → Message → Handled
handled s notes m = handled_asked s notes m (asked_in m)
