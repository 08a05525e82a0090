-- What the switch says to a controller one of whose ports binds, and what is said then

use Rattle.std.specs.Prelude.{◌≡◌, ◌≢◌, ◌<◌, ◌⊎◌, false, List, [], ◌∷◌, Some}
use Rattle.world_model.specs.Words.{PortNo, Up, End, Party, Side, IsLinkPort, Request, AddBranch, MoveBranch, is_clearing, label_number_of, Standing, Setup, Label, Wiring, label_at, label_by, last_number, Linked, linked_at, Topology, World, CountsAsItsFrame, next}
use Rattle.world_model.specs.Controller.{Acted}
use Rattle.world_model.specs.Gsmp.{message_comes}
use Rattle.world_model.specs.gsmp_wire.declared.message.Message.{Message as GsmpMessage}
use Rattle.world_model.specs.ifmp_wire.declared.message.Message.{Message}
use Rattle.world_model.specs.network_model.declared.link.LinkEnd.{LinkEnd}
use Rattle.world_model.specs.network_model.declared.event.Event.TheVariants.{Carry}
use Rattle.live_model.specs.Met.{HaveMet}
use Rattle.law_live_binding_beats.specs.law_port_facts.ordered_lists.Ordered.{Every}
use Rattle.law_live_binding_beats.specs.law_port_facts.Port.{IsShaped}
use Rattle.law_live_binding_beats.specs.law_live_hearing.Law.{acting}
use Rattle.law_live_binding_beats.specs.law_live_links.Law.{number_of}
use Rattle.law_live_binding_beats.specs.law_live_worlds.Law.{end_of}
use Rattle.law_live_binding_beats.specs.law_live_others.Law.{IsUp, LeavesAlike}
use Rattle.law_live_binding_beats.specs.law_live_orders.Law.{sent_at}
use Rattle.law_live_binding_beats.specs.law_live_orders.Messages.{AreSaid}
use Rattle.law_live_binding_beats.specs.law_live_orders.Slots.{IsUnlost}
use Rattle.law_live_binding_beats.specs.law_live_control.Calm.{IsCalmUp}
use Rattle.law_live_binding_beats.specs.law_live_bindings.Law.{label_branch, told_of}
use Rattle.law_live_binding_beats.specs.law_live_bound.Law.{IsSuccess}
use Rattle.law_live_binding_beats.specs.law_live_bound.Worlds.{BindIn, SwitchSays}

-- *A node goes on quietly*: it is up, no change of routes waits, and each of its ports has a number left
pub record IsQuietNode (a : Acted) : Type 0 where
  pub up : IsUp a
  pub none_waits : a.controller.waiting ≡ []
  pub numbers : Every (λ (linked : Linked). number_of linked.port < last_number) a.controller.ports

-- *Branches and joins alone* are asked: Add Branch, or Move Branch to a link
pub data IsBranchOrJoin : Request → Type 0 where
  branch : (input output : End) → IsBranchOrJoin (AddBranch input output)
  join : (input from to : End) → to.port.0 ≢ 0 → IsBranchOrJoin (MoveBranch input from to)

-- *A success of one of these is for others* than a port, unless it is of the input of a label of this port that is being wired: the port
-- is left as its peer sees it
abbrev pub WiresNone : Linked → Request → Type 0
WiresNone linked (AddBranch input output) =
    input.port.0 ≡ linked.setup.port.0 → (label : Label) → label_by linked.port (label_number_of input.channel) ≡ Some label → label.state ≡ Wiring → ⊥
WiresNone linked request = Unit {0}

abbrev pub SuccessesAreForOthers : Type 0
SuccessesAreForOthers = (a : Acted) (port : PortNo) (linked : Linked) (message : GsmpMessage) (request : Request) → IsLinkPort port → IsQuietNode a
    → linked_at a.controller port ≡ Some linked → is_clearing linked.port.adjacency.state ≡ false
    → IsSuccess a message request → IsBranchOrJoin request → WiresNone linked request → LeavesAlike port a (message_comes a message)

-- *So is all that the switch says calmly* to a controller that has met it and asks for branches and joins alone, of the shapes that
-- controllers ask, but for the success of the branch of a label that the port is wiring
pub record IsLabelMade (a : Acted) (linked : Linked) (message : GsmpMessage) : Type 0 where
  pub label : Label
  pub held : label_at linked.port label.number ≡ Some label
  pub wiring : label.state ≡ Wiring
  pub success : IsSuccess a message (label_branch linked.setup label.number)

abbrev pub AsksBranches : List Setup → Standing → Type 0
AsksBranches setups s = IsBranchOrJoin s.request × IsShaped setups s.request

abbrev pub CalmMessagesAreTold : Type 0
CalmMessagesAreTold = (setups : List Setup) (a : Acted) (port : PortNo) (linked : Linked) (switch : Side Party) (message : GsmpMessage) → IsLinkPort port → IsQuietNode a
    → HaveMet a.controller.adjacency switch → linked_at a.controller port ≡ Some linked → is_clearing linked.port.adjacency.state ≡ false
    → Every (AsksBranches setups) a.controller.desk.standing → IsCalmUp a.controller.adjacency.own switch.own message
    → LeavesAlike port a (message_comes a message) ⊎ IsLabelMade a linked message

-- *A carry to the controller at an end loses nothing*: it enters no loss into the ledger
abbrev pub LosesNothing : Topology → World → LinkEnd → Type 0
LosesNothing topology w one = (next topology w (Carry (Up one.node))).notes.entries ≡ w.notes.entries

-- *The branch of a label is made* at an end that binds, whose node goes on quietly: what its controller puts into its queue then says
-- the label's REDIRECT, and nothing else on the port's default channel, where the carry loses nothing, the ledger has no entry of its
-- cell, and no frame passes by chance
abbrev pub OffersAreSaid : Type 0
OffersAreSaid = (topology : Topology) (w : World) (one far : LinkEnd) (label : Label) (said far_said : List Message) → IsLinkPort one.port
    → (bind : BindIn w one far said far_said) → IsQuietNode (acting w bind.shows.site)
    → SwitchSays topology w one.node bind.shows.site (label_branch bind.linked.setup label.number)
    → label_at bind.linked.port label.number ≡ Some label → label.state ≡ Wiring
    → CountsAsItsFrame w (Carry (Up one.node)) → IsUnlost topology w (Up one.node) → LosesNothing topology w one
    → AreSaid bind.shows.site.controller.address (next topology w (Carry (Up one.node))).notes.frames (sent_at topology w (Carry (Up one.node)) one)
    (told_of (end_of bind.linked said) (end_of bind.far_linked far_said) label ∷ [])
