-- One side of an adjacency, seen by instances alone, where names and ports of both parties are always
-- right (RFC 1987, Adjacency Protocol; RFC 1953, IFMP Adjacency Protocol)

use Rattle.std.specs.Prelude.{ℕ, Bool, true, false, nat_eq, if◌then◌else◌}
use Rattle.net_types.specs.declared.adjacency.HelloKind.{HelloKind}
use Rattle.net_types.specs.declared.adjacency.HelloKind.TheVariants.{Syn, Rstack}
use Rattle.adjacency_table.specs.declared.State.{State}
use Rattle.adjacency_table.specs.Table.{Reply, Resets, Row, row}
use Rattle.adjacency_table.specs.Side.{is_entry}

-- its state, its own instance, and the instance of its peer that it has stored (0: none)
pub record SideByInstances : Type 0 where
  pub state : State
  pub own : ℕ
  pub stored : ℕ

-- a side that begins in this state, under a new instance
abbrev pub begun : State → (own : ℕ) → SideByInstances
begun state own = record { state = state; own = own; stored = 0 }

-- the row of the table at which a message stands, by the instances of its sender and its receiver
abbrev pub row_for : SideByInstances → HelloKind → (sender receiver : ℕ) → Row
row_for side kind sender receiver = row side.state kind (nat_eq receiver side.own) (nat_eq sender side.stored)

abbrev pub enters : SideByInstances → Row → Bool
enters side found = is_entry side.state found.next

-- the side after a row that is no reset
abbrev pub after_row : SideByInstances → Row → (sender : ℕ) → SideByInstances
after_row side found sender =
    record side { state = found.next; stored = if found.stores then sender else side.stored }

abbrev pub is_reset : Reply → Bool
is_reset Resets = true
is_reset _ = false

-- the message of this kind that a side says, where `message` makes one of a kind, a sender and a
-- receiver: a SYN names no receiver, and an RSTACK has the instances of the message that it answers,
-- exchanged
abbrev pub greeting : {M : Type 0} → (HelloKind → (sender receiver : ℕ) → M)
    → SideByInstances → HelloKind → (sender receiver : ℕ) → M
greeting message side Syn sender receiver = message Syn side.own 0
greeting message side Rstack sender receiver = message Rstack receiver sender
greeting message side kind sender receiver = message kind side.own side.stored
