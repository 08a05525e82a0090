-- What is read in what is made before the first packet enters

use Rattle.std.specs.Prelude.{◌≡◌, ℕ, List, None, drop, Ok}
use Rattle.world_model.specs.Words.{Hello, default_unwrapped, protocol_of, control_protocol}
use Rattle.world_model.specs.ipv4_packet.Packet.{first_fault}
use Rattle.world_model.specs.ifmp_wire.declared.message.Message.{Message as IfmpMessage}
use Rattle.world_model.specs.ifmp_wire.declared.message.Message.TheVariants.{Adjacency}
use Rattle.world_model.specs.ifmp_wire.Fields.{decoded as ifmp_decoded}
use Rattle.world_model.specs.gsmp_wire.declared.message.Message.{Message}
use Rattle.world_model.specs.gsmp_wire.Layout.{octets_of}
use Rattle.world_model.specs.gsmp_wire.Fields.{decoded}
use Rattle.law_live_begun.specs.First.{Start, FitsStart, IsFirstDown, IsFirstUp, IsFirstPayload}

-- *On a default channel* a greeting is read, or nothing that acts
pub record IsGreeting (message : IfmpMessage) : Type 0 where
  pub hello : Hello
  pub is : message ≡ Adjacency hello

pub record GreetsAtMost (payload : List ℕ) : Type 0 where
  pub controls : (packet : List ℕ) → default_unwrapped payload ≡ Ok packet → first_fault packet ≡ None → protocol_of packet ≡ control_protocol
  pub greets : (packet : List ℕ) (message : IfmpMessage) → default_unwrapped payload ≡ Ok packet → ifmp_decoded (drop 20 packet) ≡ Ok message
      → IsGreeting message

-- *Between a controller and its switch* what is read is such as was said
pub record GreetingsAreRead : Type 0 where
  pub from_peers : (payload : List ℕ) → IsFirstPayload payload → GreetsAtMost payload
  pub down : (start : Start) (message read : Message) → FitsStart start → IsFirstDown start message → decoded (octets_of message) ≡ Ok read → IsFirstDown start read
  pub up : (start : Start) (message read : Message) → FitsStart start → IsFirstUp start message → decoded (octets_of message) ≡ Ok read → IsFirstUp start read
