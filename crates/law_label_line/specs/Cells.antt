-- what stands on a link between two ends, and in which order

use Rattle.std.specs.Prelude.{ℕ, zero, suc, Bool, true, false, List, [], ◌∷◌, ◌++◌, remove}
use Rattle.net_types.specs.declared.adjacency.HelloKind.{HelloKind}
use Rattle.adjacency_table.specs.Instances.{SideByInstances, greeting}
use Rattle.adjacency_table.specs.Hello.{next_in}

-- the two ends of the link, as they stand to the label: the one that hands it out and the one that
-- may send under it (RFC 1953)
pub data Role : Type 0 where
  Downstream : Role
  Upstream : Role

-- the messages that bear on the label, with the instances of their sender and of the peer that it
-- means. Only the downstream end's sequence numbers are followed. So it may take a message of the
-- upstream end that a real one ignores for its number, and the law holds of more than it asks
pub data Message : Type 0 where
  -- an adjacency message, with the peer next sequence number (RFC 1953)
  Hello : (by : Role) → HelloKind → (sender receiver next : ℕ) → Message
  -- REDIRECT, RECLAIM and RECLAIM ACK of the label, with its flow (RFC 1953)
  Redirect : (sender receiver number flow : ℕ) → Message
  Reclaim : (sender receiver number flow : ℕ) → Message
  ReclaimAck : (sender receiver flow : ℕ) → Message
  -- any other redirection message of the downstream end, of another label or of none
  Other : (sender receiver number : ℕ) → Message

-- the adjacency message of this kind that an end says, while it expects this number of its peer
abbrev pub hello : Role → (expected : ℕ) → SideByInstances → HelloKind → (sender receiver : ℕ) → Message
hello by expected = greeting (λ kind sender receiver. Hello by kind sender receiver (next_in kind expected))

-- a cell of the label's channel, by the flow under which it was sent, or a cell of the default
-- channel: of the frame of a message, its last or another
pub data Cell : Type 0 where
  Labelled : (flow : ℕ) → Cell
  Default : (last : Bool) → Message → Cell

-- a message's frame, put as its last cell; how many others come before it is left open (`split`)
abbrev pub frame : Message → List Cell
frame message = Default true message ∷ []

-- one way of the link, by its queues, each with its front first: what the receiver has reassembled
-- of the default channel, what goes from its switch to it, what the sender's switch put out to the
-- link, and what goes from the sender to its switch
pub record Way : Type 0 where
  pub chain : List Cell
  pub to_controller : List Cell
  pub output : List Cell
  pub to_switch : List Cell

abbrev pub empty : Way
empty = record { chain = []; to_controller = []; output = []; to_switch = [] }

-- all of it, from what is taken next to what was sent last
abbrev pub cells : Way → List Cell
cells way = way.chain ++ (way.to_controller ++ (way.output ++ way.to_switch))

-- the sender puts cells at the end of its queue
abbrev pub put : Way → List Cell → Way
put way new = record way { to_switch = way.to_switch ++ new }

-- where the last cell of a frame stands, one more cell of the frame comes before it
abbrev pub preceded : (place : ℕ) → List Cell → List Cell
preceded place [] = []
preceded zero (Default true message ∷ rest) = Default false message ∷ Default true message ∷ rest
preceded zero (cell ∷ rest) = cell ∷ rest
preceded (suc place) (cell ∷ rest) = cell ∷ preceded place rest

abbrev pub split : (place : ℕ) → Way → Way
split place way = record way { to_switch = preceded place way.to_switch }

-- the sender's switch puts the front cell of that queue out to the link
abbrev pub switched : Way → List Cell → Way
switched way [] = way
switched way (cell ∷ rest) = record way { output = way.output ++ (cell ∷ []); to_switch = rest }

-- the receiver's switch takes a cell from the link and passes it to the receiver
abbrev pub linked : Way → List Cell → Way
linked way [] = way
linked way (cell ∷ rest) = record way { to_controller = way.to_controller ++ (cell ∷ []); output = rest }

-- the receiver reassembles the default channel: the cell joins the chain
abbrev pub chained : Way → Cell → List Cell → Way
chained way cell rest = record way { chain = way.chain ++ (cell ∷ []); to_controller = rest }

-- where a cell may be lost
pub data Place : Type 0 where
  InChain : Place
  ToController : Place
  InOutput : Place
  ToSwitch : Place

abbrev pub lost : Place → ℕ → Way → Way
lost InChain place way = record way { chain = remove way.chain place }
lost ToController place way = record way { to_controller = remove way.to_controller place }
lost InOutput place way = record way { output = remove way.output place }
lost ToSwitch place way = record way { to_switch = remove way.to_switch place }

-- a chain from its first last cell on. That cell's message is the one that is heard, also where the
-- cell before it was lost, which a real reassembly refuses
abbrev pub from_last : List Cell → List Cell
from_last [] = []
from_last (Labelled flow ∷ rest) = from_last rest
from_last (Default false message ∷ rest) = from_last rest
from_last (Default true message ∷ rest) = Default true message ∷ rest
