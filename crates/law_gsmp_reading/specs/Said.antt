-- Messages of GSMP as they are said (RFC 1987): each field that a message has no use for is 0

use Rattle.std.specs.Prelude.{◌≡◌, ℕ, ◌≤◌, List, [], ◌∷◌, ◌⊎◌}
use Rattle.net_types.specs.declared.channel.Channel.{Channel}
use Rattle.gsmp_wire.specs.declared.message.BranchKind.{BranchKind}
use Rattle.gsmp_wire.specs.declared.message.BranchKind.TheVariants.{Add, Delete, Verify, DeleteAll}
use Rattle.gsmp_wire.specs.declared.message.Message.{Message}
use Rattle.gsmp_wire.specs.declared.message.Message.TheVariants.{Adjacency, Branch, Move, Port, AllPorts}
use Rattle.gsmp_wire.specs.declared.rows.PortRow.{PortRow}

-- *Result and Code*: 2 in a request, 3 in a success, 4 in a failure, which alone has a Code
pub data HasResult : (result code : ℕ) → Type 0 where
  asks : HasResult 2 0
  succeeds : HasResult 3 0
  fails : (code : ℕ) → 1 ≤ code → code ≤ 7 → HasResult 4 code

-- *Branches*: one at most, which a success tells
pub data HasBranches : (result branches : ℕ) → Type 0 where
  no_branch : (result : ℕ) → HasBranches result 0
  one_branch : HasBranches 3 1

-- *Ends*: Delete Tree, Delete All and, but in a success, Verify Tree name no output, and Delete All no channel of its
-- input port
abbrev pub no_channel : Channel
no_channel = record { vpi = 0; vci = 0 }

abbrev pub NamesNothing : (port : ℕ) → Channel → Type 0
NamesNothing port channel = (port ≡ 0) × (channel ≡ no_channel)

abbrev pub NamesEnds : BranchKind → (result : ℕ) → (input : Channel) → (output_port : ℕ) → (output : Channel) → Type 0
NamesEnds Add result input output_port output = Unit {0}
NamesEnds Delete result input output_port output = NamesNothing output_port output
NamesEnds Verify result input output_port output = (result ≡ 3) ⊎ NamesNothing output_port output
NamesEnds DeleteAll result input output_port output = NamesNothing output_port output × (input ≡ no_channel)

-- *Records of ports*: a success has one at least, and nothing else has any
pub data HasRows : (result : ℕ) → List PortRow → Type 0 where
  all_asked : HasRows 2 []
  all_told : (row : PortRow) (rows : List PortRow) → HasRows 3 (row ∷ rows)
  all_failed : HasRows 4 []

-- *A message*
abbrev pub IsSaid : Message → Type 0
IsSaid (Adjacency greeting) = Unit {0}
IsSaid (Branch kind result code number session input_port input output_port output branches priority) =
    HasResult result code × HasBranches result branches × NamesEnds kind result input output_port output
IsSaid (Move result code number session input_port input output_port output target_port target branches priority) =
    HasResult result code × HasBranches result branches
IsSaid (Port result code number port session function) = HasResult result code × (1 ≤ function) × (function ≤ 2)
IsSaid (AllPorts result code number rows) = HasResult result code × HasRows result rows
