-- What the cells between a console and its switch are of: greetings, All Ports and its answer, copies of commands and their
-- answers

use Rattle.std.specs.Prelude.{◌≡◌, ◌≢◌, ℕ, ◌+◌, ◌<◌, ◌≤◌, ◌⊎◌, true, List, [], ◌∷◌, map, take, slice_get, Some, Ok}
use Rattle.world_model.specs.Words.{Greeting, Cell, Request, AddBranch, MoveBranch, DeleteTree, VerifyTree, PortManagement, PortRow, Frame, payload_of, Standing, Head, Done, head_of, is_of_type, succeeded, message_of, control_port, gsmp_channel}
use Rattle.world_model.specs.gsmp_wire.declared.message.Message.{Message}
use Rattle.world_model.specs.gsmp_wire.declared.message.Message.TheVariants as messages
use Rattle.world_model.specs.gsmp_wire.declared.request.Request.TheVariants.{DeleteAll, AllPorts}
use Rattle.world_model.specs.gsmp_wire.Layout.{octets_of}
use Rattle.world_model.specs.gsmp_wire.Fields.{decoded}
use Rattle.world_model.specs.switch_model.declared.port.PortState.{PortState}
use Rattle.world_model.specs.Switch.{begun}
use Rattle.world_model.specs.Answers.{port_row}
use Rattle.console_model.specs.declared.reply.Reply.{Reply}
use Rattle.console_model.specs.declared.reply.Reply.TheVariants.{Failed}
use Rattle.console_model.specs.Lab.{ports_to}
use Rattle.console_model.specs.Law.{IsPort, IsEnd}
use Rattle.console_model.specs.Hearing.{reply_in}
use Rattle.console_model.specs.Plain.{answer, map_after}

-- *The switch's ports* and their sessions never change, and the answer to All Ports tells them
abbrev pub first_ports : (ports : ℕ) → List PortState
first_ports ports = map (begun (record { 0 = 2 })) (control_port ∷ ports_to ports)

abbrev pub first_rows : (ports : ℕ) → List PortRow
first_rows ports = map port_row (first_ports ports)

-- *Commands* are of these kinds, and name ends that lines can say
abbrev pub IsCommand : Request → Type 0
IsCommand (AddBranch input output) = IsEnd input × IsEnd output
IsCommand (MoveBranch input from to) = IsEnd input × IsEnd from × IsEnd to
IsCommand (DeleteTree input) = IsEnd input
IsCommand (DeleteAll port) = IsPort port
IsCommand (VerifyTree input) = IsEnd input
IsCommand (PortManagement port function) = ⊥
IsCommand AllPorts = ⊥

-- *What stands* at the console: nothing, All Ports under this number, or the first command that isn't answered
pub data Stood : Type 0 where
  Nothing : Stood
  Lists : (number : ℕ) → Stood
  Commands : (number : ℕ) → Stood

-- *How far a run is*: the commands and how many are answered, how many the switch has carried out, what stands, and the next
-- transaction number
pub record Course : Type 0 where
  pub commands : List Request
  pub answered : ℕ
  pub carried : ℕ
  pub stood : Stood
  pub next : ℕ

-- what All Ports may be asked under, and the command of this place, counted from 0: whatever stands under the same number is the same
abbrev pub SuitsList : Stood → (number : ℕ) → Type 0
SuitsList Nothing number = Unit {0}
SuitsList (Lists other) number = Unit {0}
SuitsList (Commands other) number = other ≢ number

abbrev pub SuitsCommand : Stood → (answered number place : ℕ) → Type 0
SuitsCommand Nothing answered number place = Unit {0}
SuitsCommand (Lists other) answered number place = other ≢ number
SuitsCommand (Commands other) answered number place = other ≡ number → place ≡ answered

-- *To the switch*, where it has carried out so many commands when the frame comes, and so many afterwards: never one before the
-- last that it carried out, and none after the first that isn't answered
pub data IsAsked (ports : ℕ) (c : Course) (low after : ℕ) (payload : List ℕ) : Type 0 where
  greeting_asked : (g : Greeting) → after ≡ low → payload ≡ octets_of (messages.Adjacency g) → IsAsked ports c low after payload
  list_asked : (number : ℕ) → after ≡ low → number < c.next → SuitsList c.stood number
      → payload ≡ octets_of (message_of (first_rows ports) number AllPorts) → IsAsked ports c low after payload
  command_asked : (number place : ℕ) (q : Request) → after ≡ place + 1 → low ≤ place + 1 → place ≤ c.answered → number < c.next
      → SuitsCommand c.stood c.answered number place → slice_get c.commands place ≡ Some q
      → payload ≡ octets_of (message_of (first_rows ports) number q) → IsAsked ports c low after payload

-- *An answer* of a command under a number: a message that is read as it was written, and means this to whoever asked
abbrev pub Means : Reply → Message → Head → Type 0
Means reply message head =
    ((head.result ≡ 3) × (reply_in message ≡ reply) × ((s : Standing) → succeeded message s ≡ Done s))
    ⊎ ((head.result ≡ 4) × (Failed head.code ≡ reply))

pub record Tells (q : Request) (under : ℕ) (reply : Reply) (message : Message) : Type 0 where
  pub read : decoded (octets_of message) ≡ Ok message
  pub head : Head
  pub is_head : head_of message ≡ Some head
  pub number : head.number ≡ under
  pub typed : is_of_type message q ≡ true
  pub means : Means reply message head

-- *To the console*: the answer to All Ports, or what the plain machine answers to a command that the switch has carried out
pub data IsTold (ports : ℕ) (c : Course) (payload : List ℕ) : Type 0 where
  greeting_told : (g : Greeting) → payload ≡ octets_of (messages.Adjacency g) → IsTold ports c payload
  list_told : (number : ℕ) → number < c.next → SuitsList c.stood number
      → payload ≡ octets_of (messages.AllPorts 3 0 number (first_rows ports)) → IsTold ports c payload
  answer_told : (number place : ℕ) (q : Request) (message : Message) → place < c.carried → number < c.next
      → SuitsCommand c.stood c.answered number place → slice_get c.commands place ≡ Some q
      → Tells q number (answer ports (map_after ports (take place c.commands)) q) message
      → payload ≡ octets_of message → IsTold ports c payload

-- *What was made*: the frames, and how many control marks were given out
pub record Made : Type 0 where
  pub frames : List Frame
  pub controls : ℕ

-- a cell of the GSMP channel whose frame has this payload
pub record IsOf (made : Made) (payload : List ℕ) (cell : Cell) : Type 0 where
  pub channel : cell.header.channel ≡ gsmp_channel
  pub kept : payload_of made.frames cell.mark ≡ Some payload
  pub early : cell.mark.frame ≤ made.controls

pub record Asks (ports : ℕ) (c : Course) (made : Made) (low after : ℕ) (cell : Cell) : Type 0 where
  pub payload : List ℕ
  pub of : IsOf made payload cell
  pub asked : IsAsked ports c low after payload

pub record Answers (ports : ℕ) (c : Course) (made : Made) (cell : Cell) : Type 0 where
  pub payload : List ℕ
  pub of : IsOf made payload cell
  pub told : IsTold ports c payload

-- the cells on the way to the switch, the first one first
abbrev pub AreAsked : (ports : ℕ) → Course → Made → (low : ℕ) → List Cell → Type 0
AreAsked ports c made low [] = Unit {0}
AreAsked ports c made low (cell ∷ cells) = (after : ℕ) × (Asks ports c made low after cell × AreAsked ports c made after cells)
