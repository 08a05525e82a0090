-- A port of a controller binds on with the other end of its link

use Rattle.std.specs.Prelude.{◌≡◌, ℕ, ◌≤◌, ◌<◌, ◌==◌, false, List, [], ◌∷◌, ◌++◌, None, Some, Ok}
use Rattle.world_model.specs.Words.{PortNo, Mark, control_protocol, protocol_of, default_unwrapped, Request, Done, answered, is_spent, Setup, Label, Wiring, label_at, last_number, hears, Linked, linked_at, at_port, ForDefault, frame_holds}
use Rattle.world_model.specs.ipv4_packet.Packet.{first_fault}
use Rattle.world_model.specs.gsmp_wire.declared.message.Message.{Message as GsmpMessage}
use Rattle.world_model.specs.ifmp_wire.declared.message.Message.{Message}
use Rattle.world_model.specs.port_model.Desk.{Standing}
use Rattle.world_model.specs.Controller.{Acted}
use Rattle.world_model.specs.Gsmp.{message_comes}
use Rattle.law_port_facts.specs.ordered_lists.Ordered.{Every}
use Rattle.law_live_links.specs.Law.{EndOfLink, number_of}
use Rattle.law_live_worlds.specs.Law.{end_of}
use Rattle.law_live_others.specs.Law.{IsUp}
use Rattle.law_live_bindings.specs.Law.{AreBinding, label_branch, grant_branch, told_of, TakesInRange, HasRoomFor}

-- *A port binds* at a controller, by whose address it goes, with the other end of its link
pub record BindsAt (a : Acted) (port : PortNo) (said : List Message) (other : EndOfLink) : Type 0 where
  pub linked : Linked
  pub of_port : linked_at a.controller port ≡ Some linked
  pub address : linked.port.adjacency.own.address ≡ a.controller.address
  pub binding : AreBinding (end_of linked said) other

-- *A packet* that is no message, in a frame of a default channel
pub record HoldsPacket (payload packet : List ℕ) : Type 0 where
  pub is : default_unwrapped payload ≡ Ok packet
  pub whole : first_fault packet ≡ None
  pub no_message : (protocol_of packet == control_protocol) ≡ false

-- *It is counted*, where the node is up behind it; a label that it makes the port take is one that the other end takes too
abbrev pub PacketsKeepBinding : Type 0
PacketsKeepBinding = (a : Acted) (q : Linked) (mark : Mark) (payload packet : List ℕ) (said : List Message) (other : EndOfLink)
    → (bind : BindsAt a q.setup.port said other) → HoldsPacket payload packet → TakesInRange (end_of bind.linked said) other.setup
    → IsUp (frame_holds a (ForDefault q) mark payload) → BindsAt (frame_holds a (ForDefault q) mark payload) q.setup.port said other

-- *The first message* of the other end is heard, where there is room for what is new; and so what is still on its way is the rest
abbrev pub told_to : Acted → PortNo → EndOfLink → Message → Acted
told_to a port other message = at_port a port (λ setup desk w. hears setup desk w other.port.adjacency.own.address message)

abbrev pub MessagesKeepBinding : Type 0
MessagesKeepBinding = (a : Acted) (port : PortNo) (message : Message) (said rest : List Message) (other : EndOfLink)
    → (bind : BindsAt a port said other) → other.said ≡ message ∷ rest → HasRoomFor a.controller.desk a.numbers.instances (end_of bind.linked said) message
    → IsUp (told_to a port other message) → BindsAt (told_to a port other message) port said (record other { said = rest })

-- *The switch says* that a request which stands has succeeded
pub record IsSuccess (a : Acted) (message : GsmpMessage) (request : Request) : Type 0 where
  pub standing : Standing
  pub is : answered a.controller.desk message ≡ Done standing
  pub of_request : standing.request ≡ request

-- *The branch of a label* is made, and numbers are left: its REDIRECT is on its way
abbrev pub LabelBranchesKeepBinding : Type 0
LabelBranchesKeepBinding = (a : Acted) (port : PortNo) (message : GsmpMessage) (label : Label) (said : List Message) (other : EndOfLink)
    → (bind : BindsAt a port said other) → IsSuccess a message (label_branch bind.linked.setup label.number)
    → label_at bind.linked.port label.number ≡ Some label → label.state ≡ Wiring → number_of bind.linked.port < last_number
    → IsUp (message_comes a message) → BindsAt (message_comes a message) port (said ++ told_of (end_of bind.linked said) other label ∷ []) other

-- *The branch of a grant* is made, and nothing is said
abbrev pub GrantBranchesKeepBinding : Type 0
GrantBranchesKeepBinding = (a : Acted) (port : PortNo) (message : GsmpMessage) (number : ℕ) (said : List Message) (other : EndOfLink)
    → (bind : BindsAt a port said other) → IsSuccess a message (grant_branch bind.linked.setup number) → number_of bind.linked.port ≤ last_number
    → IsUp (message_comes a message) → BindsAt (message_comes a message) port said other

-- *So the node stays up* behind such a success, where no change of routes waits, and no port's numbers are spent
pub record IsQuiet (a : Acted) : Type 0 where
  pub up : IsUp a
  pub none_waits : a.controller.waiting ≡ []
  pub unspent : Every (λ (linked : Linked). is_spent linked.port.session ≡ false) a.controller.ports

abbrev pub LabelBranchesKeepNodesUp : Type 0
LabelBranchesKeepNodesUp = (a : Acted) (port : PortNo) (message : GsmpMessage) (label : Label) (said : List Message) (other : EndOfLink)
    → (bind : BindsAt a port said other) → IsSuccess a message (label_branch bind.linked.setup label.number)
    → label_at bind.linked.port label.number ≡ Some label → label.state ≡ Wiring → number_of bind.linked.port < last_number
    → IsQuiet a → IsUp (message_comes a message)

abbrev pub GrantBranchesKeepNodesUp : Type 0
GrantBranchesKeepNodesUp = (a : Acted) (message : GsmpMessage) (setup : Setup) (number : ℕ) → IsSuccess a message (grant_branch setup number)
    → IsQuiet a → IsUp (message_comes a message)
