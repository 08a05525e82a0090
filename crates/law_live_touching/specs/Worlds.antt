-- The two ends of a link stay in touch in a network, behind each carry

use Rattle.std.specs.Prelude.{◌≡◌, ◌≢◌, ℕ, ◌≤◌, ◌<◌, List, [], ◌∷◌, ◌++◌, Some}
use Rattle.world_model.specs.Words.{Place, Up, Mark, Label, Wiring, Wired, label_at, last_number, default_home, released_inputs, Linked, Topology, World, next}
use Rattle.world_model.specs.ifmp_wire.declared.message.Message.{Message}
use Rattle.world_model.specs.network_model.declared.link.LinkEnd.{LinkEnd}
use Rattle.world_model.specs.network_model.declared.event.Event.TheVariants.{Carry}
use Rattle.law_live_hearing.specs.Law.{acting, Hears}
use Rattle.law_live_links.specs.Law.{number_of}
use Rattle.law_live_worlds.specs.Law.{Shows, end_of, AgreeIn}
use Rattle.law_live_arrivals.specs.Law.{PortHears}
use Rattle.law_live_elsewhere.specs.Law.{IsElsewhere}
use Rattle.law_live_bindings.specs.Law.{label_branch, grant_branch, told_of, TakesInRange, HasRoomFor}
use Rattle.law_live_bound.specs.Law.{HoldsPacket}
use Rattle.law_live_bound.specs.Worlds.{StaysUp, SwitchSays}
use Rattle.law_live_recalls.specs.Law.{label_tree}
use Rattle.law_live_touch.specs.Touch.{AreInTouch}
use Rattle.law_live_touch.specs.Law.{IsSettled, IsStill, AgreeAtRest}
use Rattle.law_live_touching.specs.Law.{answers_to}

-- *The two ends touch* there, with what each has said that the other has yet to hear
pub record TouchIn (w : World) (one far : LinkEnd) (said far_said : List Message) : Type 0 where
  pub linked : Linked
  pub far_linked : Linked
  pub shows : Shows w one linked
  pub far_shows : Shows w far far_linked
  pub touch : AreInTouch (end_of linked said) (end_of far_linked far_said)

abbrev pub TouchGoesBothWays : Type 0
TouchGoesBothWays = (w : World) (one far : LinkEnd) (said far_said : List Message) → TouchIn w one far said far_said → TouchIn w far one far_said said

-- *So do two ends that agree* where nothing is on its way, whose labels are in the ranges of their sessions, and which know no number
-- that isn't said yet
abbrev pub AgreeingWorldsTouch : Type 0
AgreeingWorldsTouch = (w : World) (one far : LinkEnd) (agree : AgreeIn w one far [] []) → IsSettled (end_of agree.linked []) → IsSettled (end_of agree.far_linked [])
    → TouchIn w one far [] []

-- *And once nothing is on its way*, no label is being made or deleted, and no grant is leaving, two that touch agree at rest
abbrev pub TouchingWorldsAgree : Type 0
TouchingWorldsAgree = (w : World) (one far : LinkEnd) (touch : TouchIn w one far [] []) → IsStill (end_of touch.linked []) → IsStill (end_of touch.far_linked [])
    → AgreeAtRest (end_of touch.linked []) (end_of touch.far_linked []) × AgreeAtRest (end_of touch.far_linked []) (end_of touch.linked [])

-- *What leaves* both ports as they are leaves that; and so does a carry elsewhere
pub record IsLeftAsItIs (before : Linked) (v : World) (place : LinkEnd) : Type 0 where
  pub linked : Linked
  pub shows : Shows v place linked
  pub setup : linked.setup ≡ before.setup
  pub port : linked.port ≡ before.port

abbrev pub LikeWorldsTouch : Type 0
LikeWorldsTouch = (w v : World) (one far : LinkEnd) (said far_said : List Message) (touch : TouchIn w one far said far_said)
    → IsLeftAsItIs touch.linked v one → IsLeftAsItIs touch.far_linked v far → TouchIn v one far said far_said

abbrev pub CarriesElsewhereKeepTouch : Type 0
CarriesElsewhereKeepTouch = (topology : Topology) (w : World) (one far : LinkEnd) (place : Place) (said far_said : List Message) → IsElsewhere w one far place
    → TouchIn w one far said far_said → TouchIn (next topology w (Carry place)) one far said far_said

-- *One counts a packet* of a frame that it hears on its default channel
abbrev pub CountingsKeepTouch : Type 0
CountingsKeepTouch = (topology : Topology) (w : World) (one far : LinkEnd) (mark : Mark) (payload packet : List ℕ) (said far_said : List Message) → one.node.0 ≢ far.node.0
    → (touch : TouchIn w one far said far_said) → Hears topology w one.node (default_home one.port).channel mark payload → HoldsPacket payload packet
    → TakesInRange (end_of touch.linked said) touch.far_linked.setup
    → StaysUp topology w one.node → TouchIn (next topology w (Carry (Up one.node))) one far said far_said

-- *One hears the first* that is on its way to it, from the other's node, whatever it is, has room for what is new, and a number for an answer
abbrev pub HearingsKeepTouch : Type 0
HearingsKeepTouch = (topology : Topology) (w : World) (one far : LinkEnd) (message : Message) (said far_said : List Message) → one.node.0 ≢ far.node.0
    → (touch : TouchIn w one far said (message ∷ far_said)) → PortHears topology w one touch.far_shows.site.controller.address message
    → HasRoomFor touch.shows.site.controller.desk w.numbers.instances (end_of touch.linked said) message → number_of touch.linked.port < last_number
    → StaysUp topology w one.node
    → TouchIn (next topology w (Carry (Up one.node))) one far
    (said ++ answers_to (acting w touch.shows.site) (end_of touch.linked said) (end_of touch.far_linked (message ∷ far_said)) message) far_said

-- *The switch says that one's label's branch is made*: its REDIRECT is on its way to the other
abbrev pub OffersKeepWorldsTouching : Type 0
OffersKeepWorldsTouching = (topology : Topology) (w : World) (one far : LinkEnd) (label : Label) (said far_said : List Message) → one.node.0 ≢ far.node.0
    → (touch : TouchIn w one far said far_said) → SwitchSays topology w one.node touch.shows.site (label_branch touch.linked.setup label.number)
    → label_at touch.linked.port label.number ≡ Some label → label.state ≡ Wiring → number_of touch.linked.port < last_number
    → StaysUp topology w one.node
    → TouchIn (next topology w (Carry (Up one.node))) one far (said ++ told_of (end_of touch.linked said) (end_of touch.far_linked far_said) label ∷ []) far_said

-- *That one's grant's is*, and nothing is said
abbrev pub StartsKeepWorldsTouching : Type 0
StartsKeepWorldsTouching = (topology : Topology) (w : World) (one far : LinkEnd) (number : ℕ) (said far_said : List Message) → one.node.0 ≢ far.node.0
    → (touch : TouchIn w one far said far_said) → SwitchSays topology w one.node touch.shows.site (grant_branch touch.linked.setup number)
    → number_of touch.linked.port ≤ last_number
    → StaysUp topology w one.node → TouchIn (next topology w (Carry (Up one.node))) one far said far_said

-- *That the branch of one's label that was quit is deleted*, to which no grant is lent: nothing is said
abbrev pub FreesKeepWorldsTouching : Type 0
FreesKeepWorldsTouching = (topology : Topology) (w : World) (one far : LinkEnd) (label : Label) (said far_said : List Message) → one.node.0 ≢ far.node.0
    → (touch : TouchIn w one far said far_said) → SwitchSays topology w one.node touch.shows.site (label_tree touch.linked.setup label.number)
    → released_inputs touch.shows.site.controller (label_tree touch.linked.setup label.number) ≡ []
    → label_at touch.linked.port label.number ≡ Some label → label.state ≡ Wired → number_of touch.linked.port ≤ last_number
    → StaysUp topology w one.node → TouchIn (next topology w (Carry (Up one.node))) one far said far_said
