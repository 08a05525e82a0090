-- The requests of GSMP (RFC 1987): what a message asks, and what that changes. The entries of the
-- loss ledger are this project's own.

use Rattle.std.specs.Prelude.{ℕ, Bool, ◌+◌, ◌==◌, List, [], ◌∷◌, filter, Option, None, Some, if◌then◌else◌}
use Rattle.std.specs.FinMap.{get, insert, keys, remove}
use Rattle.net_types.specs.declared.node.PortNo.{PortNo}
use Rattle.net_types.specs.declared.number.Mark.{Mark}
use Rattle.net_types.specs.declared.channel.Channel.{Channel}
use Rattle.net_types.specs.declared.channel.End.{End}
use Rattle.gsmp_wire.specs.declared.message.BranchKind.{BranchKind}
use Rattle.gsmp_wire.specs.declared.message.BranchKind.TheVariants as kinds
use Rattle.gsmp_wire.specs.declared.message.Message.{Message}
use Rattle.gsmp_wire.specs.declared.message.Message.TheVariants as messages
use Rattle.frame_model.specs.link_model.declared.record.Record.TheVariants.{Loss}
use Rattle.frame_model.specs.link_model.declared.record.Cause.TheVariants.{Cut}
use Rattle.frame_model.specs.link_model.Notes.{Journal, noted}
use Rattle.crossbar_model.specs.declared.branch.Branch.{Branch}
use Rattle.crossbar_model.specs.Crossbar.{Branches, new_branch, moved, cut_by_move}
use Rattle.switch_model.specs.declared.port.PortState.{PortState}
use Rattle.switch_model.specs.declared.request.Asked.{Asked}
use Rattle.gsmp_wire.specs.declared.request.Request.{Request}
use Rattle.gsmp_wire.specs.declared.request.Request.TheVariants.{AddBranch, MoveBranch, DeleteTree, VerifyTree, DeleteAll, PortManagement, AllPorts}
use Rattle.switch_model.specs.Switch.{with_port}

-- an end as a message names it
abbrev pub end_at : (port : ℕ) → Channel → End
end_at port channel = record { port = record { 0 = port }; channel = channel }

abbrev pub branch_request : BranchKind → (input output : End) → Request
branch_request kinds.Add input output = AddBranch input output
branch_request kinds.Delete input output = DeleteTree input
branch_request kinds.Verify input output = VerifyTree input
branch_request kinds.DeleteAll input output = DeleteAll input.port

-- what a message asks or answers; an adjacency message does neither
abbrev pub asked_in : Message → Option Asked
asked_in (messages.Adjacency greeting) = None
asked_in (messages.Branch kind result code transaction session input_port input output_port output
    branches priority) =
    Some (record { session = session; request = branch_request kind (end_at input_port input) (end_at output_port output) })
asked_in (messages.Move result code transaction session input_port input output_port output
    target_port target branches priority) =
    Some (record { session = session; request = MoveBranch (end_at input_port input) (end_at output_port output) (end_at target_port target) })
asked_in (messages.Port result code transaction port session function) =
    Some (record { session = session; request = PortManagement (record { 0 = port }) function })
asked_in (messages.AllPorts result code transaction rows) = Some (record { session = 0; request = AllPorts })

-- the Result of a message: 2 in a request
abbrev pub result_of : Message → ℕ
result_of (messages.Adjacency greeting) = 0
result_of (messages.Branch kind result code transaction session input_port input output_port output
    branches priority) = result
result_of (messages.Move result code transaction session input_port input output_port output
    target_port target branches priority) = result
result_of (messages.Port result code transaction port session function) = result
result_of (messages.AllPorts result code transaction rows) = result

abbrev pub is_request : Message → Bool
is_request m = result_of m == 2

-- branches, and the notes of what was cut
pub record Changed : Type 0 where
  pub branches : Branches
  pub notes : Journal

-- the frame that is open on a branch is cut
abbrev pub noted_cut : Journal → Option Mark → Journal
noted_cut notes None = notes
noted_cut notes (Some mark) = noted notes (Loss mark Cut)

-- Add Branch: an input that has a branch keeps it
abbrev pub added_by : Branches → (input output : End) → Option Branch → Branches
added_by m input output None = insert m input (new_branch output)
added_by m input output (Some b) = m

abbrev pub added : Branches → (input output : End) → Branches
added m input output = added_by m input output (get m input)

-- Move Branch
abbrev pub moved_by : Changed → (input to : End) → Option Branch → Changed
moved_by c input to None = c
moved_by c input to (Some b) = record { branches = moved c.branches input b to; notes = noted_cut c.notes (cut_by_move b to) }

abbrev pub moved_to : Changed → (input to : End) → Changed
moved_to c input to = moved_by c input to (get c.branches input)

-- Delete Tree: the branch of an input ends, if it has one
abbrev pub ended_by : Changed → (input : End) → Option Branch → Changed
ended_by c input None = c
ended_by c input (Some b) = record { branches = remove c.branches input; notes = noted_cut c.notes b.unfinished }

abbrev pub branch_ended : Changed → (input : End) → Changed
branch_ended c input = ended_by c input (get c.branches input)

-- several branches end, one after the other
abbrev pub all_ended : Changed → (inputs : List End) → Changed
all_ended c [] = c
all_ended c (input ∷ inputs) = all_ended (branch_ended c input) inputs

-- the inputs of a port that have a branch, ascending (the keys of a finite map ascend)
abbrev pub inputs_on : Branches → PortNo → List End
inputs_on m port = filter (λ input. input.port.0 == port.0) (keys m)

-- Delete All, and what Take Down does besides
abbrev pub deleted_all : Changed → PortNo → Changed
deleted_all c port = all_ended c (inputs_on c.branches port)

-- Port Management brings a port up (1) or takes it down (2); either way its next session begins
abbrev pub managed : (function : ℕ) → PortState → PortState
managed function state = record state { is_up = function == 1; session = state.session + 1 }

-- what a request that doesn't fail makes of the branches
abbrev pub branches_after : Changed → Request → Changed
branches_after c (AddBranch input output) = record c { branches = added c.branches input output }
branches_after c (MoveBranch input from to) = moved_to c input to
branches_after c (DeleteTree input) = branch_ended c input
branches_after c (DeleteAll port) = deleted_all c port
branches_after c (PortManagement port function) = if function == 2 then deleted_all c port else c
branches_after c (VerifyTree input) = c
branches_after c AllPorts = c

-- and what of the ports
abbrev pub ports_after : List PortState → Request → List PortState
ports_after ports (PortManagement port function) = with_port port (managed function) ports
ports_after ports request = ports
