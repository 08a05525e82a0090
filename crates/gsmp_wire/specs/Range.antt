-- Which messages are in range

use Rattle.std.specs.Prelude.{◌≡◌, ℕ, ◌<◌, ◌≤◌, ◌^◌, List, [], ◌∷◌, length, None, All}
use Rattle.net_types.specs.declared.adjacency.Party.{Party}
use Rattle.net_types.specs.declared.channel.Channel.{Channel}
use Rattle.gsmp_wire.specs.declared.message.Message.{Message}
use Rattle.gsmp_wire.specs.declared.message.Message.TheVariants.{Adjacency, Branch, Move, Port, AllPorts}
use Rattle.gsmp_wire.specs.declared.rows.PortRow.{PortRow}
use Rattle.gsmp_wire.specs.Layout.{octets_of}
use Rattle.gsmp_wire.specs.Refusal.{refusal}

-- a number of 8, 16 or 32 bits
abbrev pub Bits : (width number : ℕ) → Type 0
Bits width number = number < 2 ^ width

pub record FitsParty (p : Party) : Type 0 where
  pub name : All (Bits 8) p.name
  pub name_length : length p.name ≡ 6
  pub port : Bits 32 p.port
  pub instance : Bits 32 p.instance.0

pub record FitsChannel (c : Channel) : Type 0 where
  pub vpi : Bits 16 c.vpi
  pub vci : Bits 16 c.vci

pub record FitsRow (r : PortRow) : Type 0 where
  pub port : Bits 32 r.port
  pub session : Bits 32 r.session
  pub least : Bits 16 r.least
  pub greatest : Bits 16 r.greatest

abbrev pub FitsRows : List PortRow → Type 0
FitsRows [] = Unit {0}
FitsRows (r ∷ rows) = FitsRow r × FitsRows rows

-- every number of a message has its width, and an All Ports message at most nine records
abbrev pub Fits : Message → Type 0
Fits (Adjacency g) = FitsParty g.sender × FitsParty g.receiver
Fits (Branch kind result code transaction session input_port input output_port output branches
    priority) =
    Bits 8 result × Bits 8 code × Bits 32 transaction × Bits 32 session × Bits 32 input_port
    × FitsChannel input × Bits 32 output_port × FitsChannel output × Bits 16 branches
    × Bits 8 priority
Fits (Move result code transaction session input_port input output_port output target_port target
    branches priority) =
    Bits 8 result × Bits 8 code × Bits 32 transaction × Bits 32 session × Bits 32 input_port
    × FitsChannel input × Bits 32 output_port × FitsChannel output × Bits 32 target_port
    × FitsChannel target × Bits 16 branches × Bits 8 priority
Fits (Port result code transaction port session function) =
    Bits 8 result × Bits 8 code × Bits 32 transaction × Bits 32 port × Bits 32 session
    × Bits 8 function
Fits (AllPorts result code transaction rows) =
    Bits 8 result × Bits 8 code × Bits 32 transaction × (length rows ≤ 9) × FitsRows rows

-- a message is in range where its octets are refused by no test
pub record IsInRange (m : Message) : Type 0 where
  pub fits : Fits m
  pub accepted : refusal (octets_of m) ≡ None
