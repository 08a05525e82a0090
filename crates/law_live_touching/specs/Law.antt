-- A port of a controller stays in touch with the other end of its link

use Rattle.std.specs.Prelude.{◌≡◌, ℕ, ◌<◌, ◌≤◌, List, [], ◌∷◌, ◌++◌, Some}
use Rattle.world_model.specs.Words.{PortNo, Mark, Label, Wiring, Wired, label_at, last_number, Linked, linked_at, ForDefault, frame_holds, released_inputs}
use Rattle.world_model.specs.gsmp_wire.declared.message.Message.{Message as GsmpMessage}
use Rattle.world_model.specs.ifmp_wire.declared.message.Message.{Message}
use Rattle.world_model.specs.Controller.{Acted}
use Rattle.world_model.specs.Gsmp.{message_comes}
use Rattle.law_live_nodes.specs.Law.{told_by}
use Rattle.law_live_links.specs.Law.{EndOfLink, number_of, hearing}
use Rattle.law_live_worlds.specs.Law.{end_of}
use Rattle.law_live_others.specs.Law.{IsUp}
use Rattle.law_live_bindings.specs.Law.{label_branch, grant_branch, told_of, TakesInRange, HasRoomFor}
use Rattle.law_live_bound.specs.Law.{HoldsPacket, told_to, IsSuccess}
use Rattle.law_live_recalls.specs.Law.{label_tree}
use Rattle.law_live_touch.specs.Touch.{AreInTouch}

-- *A port touches* at a controller, by whose address it goes, the other end of its link
pub record TouchesAt (a : Acted) (port : PortNo) (said : List Message) (other : EndOfLink) : Type 0 where
  pub linked : Linked
  pub of_port : linked_at a.controller port ≡ Some linked
  pub address : linked.port.adjacency.own.address ≡ a.controller.address
  pub touch : AreInTouch (end_of linked said) other

-- *A packet is counted*, where the node is up behind it; a label that it makes the port take is one that the other end takes too
abbrev pub PacketsKeepTouch : Type 0
PacketsKeepTouch = (a : Acted) (q : Linked) (mark : Mark) (payload packet : List ℕ) (said : List Message) (other : EndOfLink)
    → (touches : TouchesAt a q.setup.port said other) → HoldsPacket payload packet → TakesInRange (end_of touches.linked said) other.setup
    → IsUp (frame_holds a (ForDefault q) mark payload) → TouchesAt (frame_holds a (ForDefault q) mark payload) q.setup.port said other

-- *The first message* of the other end is heard, whatever it is, where there is room for a new grant, and a number is left for an answer:
-- what the port says to it is on its way then
abbrev pub answers_to : Acted → EndOfLink → EndOfLink → Message → List Message
answers_to a one other message = told_by (hearing a.controller.desk a.numbers.instances other.port.adjacency.own.address one message).actions

abbrev pub MessagesKeepTouch : Type 0
MessagesKeepTouch = (a : Acted) (port : PortNo) (message : Message) (said rest : List Message) (other : EndOfLink)
    → (touches : TouchesAt a port said other) → other.said ≡ message ∷ rest → HasRoomFor a.controller.desk a.numbers.instances (end_of touches.linked said) message
    → number_of touches.linked.port < last_number → IsUp (told_to a port other message)
    → TouchesAt (told_to a port other message) port (said ++ answers_to a (end_of touches.linked said) other message) (record other { said = rest })

-- *The switch says* that the branch of a label is made, and numbers are left: its REDIRECT is on its way
abbrev pub LabelBranchesKeepTouch : Type 0
LabelBranchesKeepTouch = (a : Acted) (port : PortNo) (message : GsmpMessage) (label : Label) (said : List Message) (other : EndOfLink)
    → (touches : TouchesAt a port said other) → IsSuccess a message (label_branch touches.linked.setup label.number)
    → label_at touches.linked.port label.number ≡ Some label → label.state ≡ Wiring → number_of touches.linked.port < last_number
    → IsUp (message_comes a message) → TouchesAt (message_comes a message) port (said ++ told_of (end_of touches.linked said) other label ∷ []) other

-- *The branch of a grant* is made, and nothing is said
abbrev pub GrantBranchesKeepTouch : Type 0
GrantBranchesKeepTouch = (a : Acted) (port : PortNo) (message : GsmpMessage) (number : ℕ) (said : List Message) (other : EndOfLink)
    → (touches : TouchesAt a port said other) → IsSuccess a message (grant_branch touches.linked.setup number) → number_of touches.linked.port ≤ last_number
    → IsUp (message_comes a message) → TouchesAt (message_comes a message) port said other

-- *The branch of a label that was quit* is deleted, to which no grant is lent: the label is spare again, and nothing is said
abbrev pub LabelTreesKeepTouch : Type 0
LabelTreesKeepTouch = (a : Acted) (port : PortNo) (message : GsmpMessage) (label : Label) (said : List Message) (other : EndOfLink)
    → (touches : TouchesAt a port said other) → IsSuccess a message (label_tree touches.linked.setup label.number)
    → released_inputs a.controller (label_tree touches.linked.setup label.number) ≡ []
    → label_at touches.linked.port label.number ≡ Some label → label.state ≡ Wired → number_of touches.linked.port ≤ last_number
    → IsUp (message_comes a message) → TouchesAt (message_comes a message) port said other
