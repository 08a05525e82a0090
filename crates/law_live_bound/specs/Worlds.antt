-- The two ends of a link bind on in a network, behind each carry

use Rattle.std.specs.Prelude.{◌≡◌, ◌≢◌, ℕ, ◌≤◌, ◌<◌, true, List, [], ◌∷◌, ◌++◌, Some, Ok}
use Rattle.world_model.specs.Words.{NodeId, Place, Up, Channel, Mark, Request, Setup, nothing_taken, with_reassembly, Label, Wiring, label_at, last_number, default_channel, default_home, is_estab, Linked, Topology, World, Site, site_at, next}
use Rattle.world_model.specs.gsmp_wire.Fields.{decoded}
use Rattle.world_model.specs.gsmp_wire.declared.message.Message.{Message as GsmpMessage}
use Rattle.world_model.specs.ifmp_wire.declared.message.Message.{Message}
use Rattle.world_model.specs.network_model.declared.link.LinkEnd.{LinkEnd}
use Rattle.world_model.specs.network_model.declared.event.Event.TheVariants.{Carry}
use Rattle.law_live_hearing.specs.Law.{acting, Hears}
use Rattle.law_live_links.specs.Law.{number_of}
use Rattle.law_live_worlds.specs.Law.{Shows, end_of, AgreeIn, IsLeftAlike}
use Rattle.law_live_arrivals.specs.Law.{PortHears}
use Rattle.law_live_elsewhere.specs.Law.{IsElsewhere}
use Rattle.law_live_others.specs.Law.{IsUp}
use Rattle.law_live_numbers.specs.Law.{HasNumbersFor}
use Rattle.law_live_bindings.specs.Law.{AreBinding, NoneIsWiring, label_branch, grant_branch, told_of, TakesInRange, HasRoomFor}
use Rattle.law_live_bound.specs.Law.{HoldsPacket, IsSuccess, IsQuiet}

-- *The two ends bind* there, with what each has said that the other has yet to hear
pub record BindIn (w : World) (one far : LinkEnd) (said far_said : List Message) : Type 0 where
  pub linked : Linked
  pub far_linked : Linked
  pub shows : Shows w one linked
  pub far_shows : Shows w far far_linked
  pub binding : AreBinding (end_of linked said) (end_of far_linked far_said)

abbrev pub BindingGoesBothWays : Type 0
BindingGoesBothWays = (w : World) (one far : LinkEnd) (said far_said : List Message) → BindIn w one far said far_said → BindIn w far one far_said said

-- so do two ends that agree; and two that bind agree once nothing is on its way and no branch of a label is being made
abbrev pub AgreeingWorldsBind : Type 0
AgreeingWorldsBind = (w : World) (one far : LinkEnd) (said far_said : List Message) → AgreeIn w one far said far_said → BindIn w one far said far_said

abbrev pub BoundWorldsAgree : Type 0
BoundWorldsAgree = (w : World) (one far : LinkEnd) (bind : BindIn w one far [] []) → NoneIsWiring (end_of bind.linked []) → NoneIsWiring (end_of bind.far_linked [])
    → AgreeIn w one far [] []

-- *What leaves* both ports alike to one another leaves that; and so does a carry elsewhere
abbrev pub LikeWorldsBind : Type 0
LikeWorldsBind = (w v : World) (one far : LinkEnd) (said far_said : List Message) (bind : BindIn w one far said far_said)
    → IsLeftAlike bind.linked v one → IsLeftAlike bind.far_linked v far → BindIn v one far said far_said

abbrev pub CarriesElsewhereKeepBinding : Type 0
CarriesElsewhereKeepBinding = (topology : Topology) (w : World) (one far : LinkEnd) (place : Place) (said far_said : List Message) → IsElsewhere w one far place
    → BindIn w one far said far_said → BindIn (next topology w (Carry place)) one far said far_said

-- *Behind a carry to a controller* the node is up, in Estab with its switch
abbrev pub StaysUp : Topology → World → NodeId → Type 0
StaysUp topology w node = (site : Site) → site_at (next topology w (Carry (Up node))) node ≡ Some site → is_estab site.controller.adjacency.state ≡ true

-- *One counts a packet* of a frame that it hears on its default channel
abbrev pub CountingsKeepBinding : Type 0
CountingsKeepBinding = (topology : Topology) (w : World) (one far : LinkEnd) (mark : Mark) (payload packet : List ℕ) (said far_said : List Message) → one.node.0 ≢ far.node.0
    → (bind : BindIn w one far said far_said) → Hears topology w one.node (default_home one.port).channel mark payload → HoldsPacket payload packet
    → TakesInRange (end_of bind.linked said) bind.far_linked.setup
    → StaysUp topology w one.node → BindIn (next topology w (Carry (Up one.node))) one far said far_said

-- *One hears the first* that is on its way to it, from the other's node, and has room for what is new
abbrev pub HearingsKeepBinding : Type 0
HearingsKeepBinding = (topology : Topology) (w : World) (one far : LinkEnd) (message : Message) (said far_said : List Message) → one.node.0 ≢ far.node.0
    → (bind : BindIn w one far said (message ∷ far_said)) → PortHears topology w one bind.far_shows.site.controller.address message
    → HasRoomFor bind.shows.site.controller.desk w.numbers.instances (end_of bind.linked said) message
    → StaysUp topology w one.node → BindIn (next topology w (Carry (Up one.node))) one far said far_said

-- *The switch says to a controller* that a request has succeeded
pub record SwitchSays (topology : Topology) (w : World) (node : NodeId) (site : Site) (request : Request) : Type 0 where
  pub mark : Mark
  pub payload : List ℕ
  pub hears : Hears topology w node default_channel mark payload
  pub message : GsmpMessage
  pub holds : decoded payload ≡ Ok message
  pub success : IsSuccess (acting w site) message request

-- *It is one's label's branch*: its REDIRECT is on its way to the other
abbrev pub OffersAreMade : Type 0
OffersAreMade = (topology : Topology) (w : World) (one far : LinkEnd) (label : Label) (said far_said : List Message) → one.node.0 ≢ far.node.0
    → (bind : BindIn w one far said far_said) → SwitchSays topology w one.node bind.shows.site (label_branch bind.linked.setup label.number)
    → label_at bind.linked.port label.number ≡ Some label → label.state ≡ Wiring → number_of bind.linked.port < last_number
    → StaysUp topology w one.node
    → BindIn (next topology w (Carry (Up one.node))) one far (said ++ told_of (end_of bind.linked said) (end_of bind.far_linked far_said) label ∷ []) far_said

-- *It is one's grant's*: nothing is said
abbrev pub GrantsAreStarted : Type 0
GrantsAreStarted = (topology : Topology) (w : World) (one far : LinkEnd) (number : ℕ) (said far_said : List Message) → one.node.0 ≢ far.node.0
    → (bind : BindIn w one far said far_said) → SwitchSays topology w one.node bind.shows.site (grant_branch bind.linked.setup number)
    → number_of bind.linked.port ≤ last_number
    → StaysUp topology w one.node → BindIn (next topology w (Carry (Up one.node))) one far said far_said

-- *So nodes stay up* behind what is heard, where they are up and transaction numbers are left for what it makes them ask; and behind
-- such a success, where no change of routes waits, and no port's numbers are spent
abbrev pub HeardFramesKeepNodesUp : Type 0
HeardFramesKeepNodesUp = (topology : Topology) (w : World) (node : NodeId) (channel : Channel) (mark : Mark) (payload : List ℕ) (hears : Hears topology w node channel mark payload)
    → IsUp (acting w hears.site) → HasNumbersFor (with_reassembly (acting w hears.site) hears.taker nothing_taken) hears.taker payload → StaysUp topology w node

abbrev pub OffersKeepNodesUp : Type 0
OffersKeepNodesUp = (topology : Topology) (w : World) (one far : LinkEnd) (label : Label) (said far_said : List Message) (bind : BindIn w one far said far_said)
    → SwitchSays topology w one.node bind.shows.site (label_branch bind.linked.setup label.number)
    → label_at bind.linked.port label.number ≡ Some label → label.state ≡ Wiring → number_of bind.linked.port < last_number
    → IsQuiet (acting w bind.shows.site) → StaysUp topology w one.node

abbrev pub StartsKeepNodesUp : Type 0
StartsKeepNodesUp = (topology : Topology) (w : World) (node : NodeId) (site : Site) (setup : Setup) (number : ℕ) → site_at w node ≡ Some site
    → SwitchSays topology w node site (grant_branch setup number) → IsQuiet (acting w site) → StaysUp topology w node
