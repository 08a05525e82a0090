-- A crossbar as plain data, and what each step does to it: a finite map of branches and a list of
-- cells for each port.

use Rattle.std.specs.Prelude.{ℕ, zero, suc, Bool, ◌&&◌, Option, None, Some, if◌then◌else◌, nat_eq, List, [], ◌∷◌, ◌++◌, find, drop, slice_set, slice_index_or, option_and_then}
use Rattle.std.specs.Option.{option_map}
use Rattle.std.specs.FinMap.{FinMap, get, insert, keys}
use Rattle.net_types.specs.declared.node.PortNo.{PortNo}
use Rattle.net_types.specs.declared.channel.End.{End}
use Rattle.net_types.specs.declared.number.Mark.{Mark}
use Rattle.atm_cells.specs.declared.cell.Cell.{Cell}
use Rattle.crossbar_model.specs.declared.branch.Branch.{Branch}
use Rattle.crossbar_model.specs.declared.routed.Routed.{Routed}
use Rattle.crossbar_model.specs.declared.routed.Routed.TheVariants.{Out, Unconnected, PoolFull}
use Rattle.crossbar_model.specs.Channels.{end_cmp}

-- each input that has a branch, with that branch (RFC 1987)
abbrev pub Branches : Type 0
Branches = FinMap end_cmp Branch

-- the branches, and for each port, by its number from 0 to 8, the cells that wait there, the first
-- one first
pub record Crossbar : Type 0 where
  pub branches : Branches
  pub queues : List (List Cell)

-- the two are one channel of one port
abbrev pub same_end : End → End → Bool
same_end a b = nat_eq a.port.0 b.port.0 && (nat_eq a.channel.vpi b.channel.vpi && nat_eq a.channel.vci b.channel.vci)

-- a new branch, to which no cell went yet
abbrev pub new_branch : End → Branch
new_branch output = record { output = output; unfinished = None }

-- an input's branch is moved: nothing changes where the output stays the same
abbrev pub moved : Branches → End → Branch → End → Branches
moved m input b output = if same_end b.output output then m else insert m input (new_branch output)

-- the mark of the frame that a move cuts
abbrev pub cut_by_move : Branch → End → Option Mark
cut_by_move b output = if same_end b.output output then None else b.unfinished

-- what a branch keeps of the last cell that went to it: its mark, if it wasn't a last one
abbrev pub unfinished_after : Cell → Option Mark
unfinished_after c = if c.header.last then None else Some c.mark

-- where the cells of an input go
abbrev pub output_of : Branches → End → Option End
output_of m input = option_map (λ b. b.output) (get m input)

-- the mark of the last cell that went to an input's branch, if it wasn't a last one
abbrev pub unfinished_on : Branches → End → Option Mark
unfinished_on m input = option_and_then (λ b. b.unfinished) (get m input)

-- the least input of the port that has a branch (the keys of a finite map ascend)
abbrev pub first_on : Branches → PortNo → Option End
first_on m p = find (λ e. nat_eq e.port.0 p.0) (keys m)

-- the cells that wait at a port
abbrev pub queue_of : Crossbar → PortNo → List Cell
queue_of x p = slice_index_or x.queues p.0 []

-- cells are put at the end of a port's queue
abbrev pub sent : Crossbar → PortNo → List Cell → Crossbar
sent x p cs = record x { queues = slice_set x.queues p.0 (queue_of x p ++ cs) }

-- the first cell of a port's queue is taken
abbrev pub popped : Crossbar → PortNo → Crossbar
popped x p = record x { queues = slice_set x.queues p.0 (drop 1 (queue_of x p)) }

-- a cell with another channel
abbrev pub on_channel_of : Cell → End → Cell
on_channel_of c output = record c { header = record { channel = output.channel; last = c.header.last } }

-- where a cell that comes on a port goes, while so many slots are free
abbrev pub route_on : Option Branch → (free : ℕ) → Routed
route_on None free = Unconnected
route_on (Some b) zero = PoolFull
route_on (Some b) (suc n) = Out b.output

abbrev pub input_of : PortNo → Cell → End
input_of p c = record { port = p; channel = c.header.channel }

abbrev pub routed : Crossbar → (free : ℕ) → PortNo → Cell → Routed
routed x free p c = route_on (get x.branches (input_of p c)) free

-- a cell that goes out on a branch
abbrev pub relayed : Crossbar → End → Branch → Cell → Crossbar
relayed x input b c = record {
  branches = insert x.branches input (record b { unfinished = unfinished_after c });
  queues = (sent x b.output.port (on_channel_of c b.output ∷ [])).queues;
}

abbrev pub switched_on : Crossbar → End → Option Branch → (free : ℕ) → Cell → Crossbar
switched_on x input None free c = x
switched_on x input (Some b) zero c = x
switched_on x input (Some b) (suc n) c = relayed x input b c

-- what a cell that comes on a port leaves
abbrev pub switched : Crossbar → (free : ℕ) → PortNo → Cell → Crossbar
switched x free p c = switched_on x (input_of p c) (get x.branches (input_of p c)) free c
