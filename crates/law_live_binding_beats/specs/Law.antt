-- Two ends of a link bind on along the carries of a beat

use Rattle.std.specs.Prelude.{◌≡◌, ℕ, ◌≤◌, ◌<◌, ◌^◌, List, [], ◌∷◌, ◌++◌, map, Some}
use Rattle.world_model.specs.Words.{Addr, Place, Up, Mark, Wiring, Label, label_at, last_number, default_home, Linked, Topology, World, IsTopology, IsPlace, queue_at, next, world_after, CountsAsItsFrame}
use Rattle.world_model.specs.ifmp_wire.declared.message.Message.{Message}
use Rattle.world_model.specs.network_model.declared.link.LinkEnd.{LinkEnd}
use Rattle.world_model.specs.network_model.declared.event.Event.{Event}
use Rattle.world_model.specs.network_model.declared.event.Event.TheVariants.{Carry}
use Rattle.law_live_asking.specs.law_passing.ordered_lists.Ordered.{Every}
use Rattle.law_live_asking.specs.law_live_links.Law.{EndOfLink, number_of}
use Rattle.law_live_asking.specs.law_live_worlds.Law.{Shows, end_of, AgreeIn, IsLeftAlike}
use Rattle.law_live_asking.specs.law_live_arrivals.Law.{PortHears}
use Rattle.law_live_asking.specs.law_live_elsewhere.Law.{EndsNoFrame}
use Rattle.law_live_asking.specs.law_live_hearing.Law.{Hears}
use Rattle.law_live_asking.specs.law_live_orders.Law.{coming, sent_at, IsOpenWay}
use Rattle.law_live_asking.specs.law_live_orders.Messages.{AreSaid, AreComing, StayMade}
use Rattle.law_live_asking.specs.law_live_orders.Slots.{IsUnlost}
use Rattle.law_live_asking.specs.law_live_passed_by.Law.{BringsNone}
use Rattle.law_live_asking.specs.law_live_going.Law.{IsWritten}
use Rattle.law_live_bindings.specs.Law.{NoneIsWiring, label_branch, grant_branch, told_of, TakesInRange, HasRoomFor}
use Rattle.law_live_asking.specs.law_live_bound.Law.{HoldsPacket}
use Rattle.law_live_asking.specs.law_live_bound.Worlds.{BindIn, StaysUp, SwitchSays}

-- *The two ends bind, by what waits*: what each has said that the other has yet to hear is on its way in the queues, in order and
-- nothing else; it can be written, and each node goes by an address of 32 bits
pub record BindByQueues (w : World) (one far : LinkEnd) : Type 0 where
  pub said : List Message
  pub far_said : List Message
  pub bind : BindIn w one far said far_said
  pub there : AreComing bind.shows.site.controller.address w one far said
  pub back : AreComing bind.far_shows.site.controller.address w far one far_said
  pub written : Every IsWritten said
  pub far_written : Every IsWritten far_said
  pub low : bind.shows.site.controller.address.0 < 2 ^ 32
  pub far_low : bind.far_shows.site.controller.address.0 < 2 ^ 32

-- *Both ways are open* at an event, and what was made of what is on them stays
pub record AreCalmWays (topology : Topology) (w : World) (one far : LinkEnd) (event : Event) : Type 0 where
  pub there : IsOpenWay topology w one far
  pub back : IsOpenWay topology w far one
  pub stays : StayMade w.notes.frames (next topology w event).notes.frames (coming w one far)
  pub far_stays : StayMade w.notes.frames (next topology w event).notes.frames (coming w far one)

-- *An end says* in an event what is put into the queue of its controller then, in order and nothing else; it can be written
pub record SaysIn (topology : Topology) (w : World) (event : Event) (one : LinkEnd) (address : Addr) (messages : List Message) : Type 0 where
  pub put : AreSaid address (next topology w event).notes.frames (sent_at topology w event one) messages
  pub written : Every IsWritten messages

-- *A cell is brought to the controller* of one end, where its port and what the other end is are so
module _ (topology : Topology) (w : World) (one : LinkEnd) {linked : Linked} (shows : Shows w one linked) (other : EndOfLink) where
  -- it ends a message of the other end, for which there is room; none is said
  pub record HearsInRoom (message : Message) : Type 0 where
    pub room : HasRoomFor shows.site.controller.desk w.numbers.instances (end_of linked []) message
    pub up : StaysUp topology w one.node
    pub silent : SaysIn topology w (Carry (Up one.node)) one shows.site.controller.address []

  -- it ends a packet on the port's default channel, which is counted; a label that it takes is one that the other end takes too
  pub record CountsPacket : Type 0 where
    pub mark : Mark
    pub payload : List ℕ
    pub packet : List ℕ
    pub hears : Hears topology w one.node (default_home one.port).channel mark payload
    pub holds : HoldsPacket payload packet
    pub range : TakesInRange (end_of linked []) other.setup
    pub up : StaysUp topology w one.node

  -- it ends the switch's success of the branch of a label, for which a number is left
  pub record MakesOffer (label : Label) : Type 0 where
    pub says : SwitchSays topology w one.node shows.site (label_branch linked.setup label.number)
    pub held : label_at linked.port label.number ≡ Some label
    pub wiring : label.state ≡ Wiring
    pub number_left : number_of linked.port < last_number
    pub up : StaysUp topology w one.node

  -- or of the branch of a grant
  pub record StartsGrant : Type 0 where
    pub number : ℕ
    pub says : SwitchSays topology w one.node shows.site (grant_branch linked.setup number)
    pub number_is : number_of linked.port ≤ last_number
    pub up : StaysUp topology w one.node

  -- *What is no message of the other end* does one of these, or ends no frame, or leaves the port as its peer sees it; the REDIRECT of a
  -- label whose branch is made is said, and else none
  pub data Does : List Message → Type 0 where
    ends_none : EndsNoFrame (queue_at w (Up one.node)) → Does []
    alike : IsLeftAlike linked (next topology w (Carry (Up one.node))) one → Does []
    counts : CountsPacket → Does []
    offers : (label : Label) → MakesOffer label → Does (told_of (end_of linked []) other label ∷ [])
    starts : StartsGrant → Does []

  pub record DoesAndSays : Type 0 where
    pub messages : List Message
    pub does : Does messages
    pub says : SaysIn topology w (Carry (Up one.node)) one shows.site.controller.address messages

  -- so it is brought
  pub record IsBroughtOn : Type 0 where
    pub hears : (message : Message) (rest : List Message) → other.said ≡ message ∷ rest → PortHears topology w one other.port.adjacency.own.address message
        → HearsInRoom message
    pub does : BringsNone w one (Up one.node) → DoesAndSays

-- *A binding carry*: it is from a queue of the network, no frame passes by chance in it, and the ledger has no entry of its cell behind
-- it; both ways are open; and where it brings one of the two controllers a cell, that does so
pub record IsBindingCarry (topology : Topology) {w : World} {one far : LinkEnd} (ends : BindByQueues w one far) (place : Place) : Type 0 where
  pub is_place : IsPlace topology place
  pub counts : CountsAsItsFrame w (Carry place)
  pub unlost : IsUnlost topology w place
  pub ways : AreCalmWays topology w one far (Carry place)
  pub at_one : place ≡ Up one.node → IsBroughtOn topology w one ends.bind.shows (end_of ends.bind.far_linked ends.far_said)
  pub at_far : place ≡ Up far.node → IsBroughtOn topology w far ends.bind.far_shows (end_of ends.bind.linked ends.said)

-- each of these is, where both ends bind before it
abbrev pub AreBindingCarries : Topology → World → (one far : LinkEnd) → List Place → Type 0
AreBindingCarries topology w one far places = (front rest : List Place) (place : Place) → places ≡ front ++ place ∷ rest
    → (ends : BindByQueues (world_after topology w (map Carry front)) one far) → IsBindingCarry topology ends place

-- *So they bind on* behind all
abbrev pub CarriesBindOn : Type 0
CarriesBindOn = (topology : Topology) (w : World) (one far : LinkEnd) (places : List Place) → IsTopology topology → BindByQueues w one far
    → AreBindingCarries topology w one far places → BindByQueues (world_after topology w (map Carry places)) one far

-- *and agree at rest* where nothing is on its way, and no label of either port is being wired
abbrev pub NoneWires : World → LinkEnd → Type 0
NoneWires w end = (linked : Linked) → Shows w end linked → NoneIsWiring (end_of linked [])

pub record AreStill (w : World) (one far : LinkEnd) : Type 0 where
  pub empty : coming w one far ≡ []
  pub far_empty : coming w far one ≡ []
  pub none_wires : NoneWires w one
  pub far_none_wires : NoneWires w far

abbrev pub StillEndsAgree : Type 0
StillEndsAgree = (w : World) (one far : LinkEnd) → BindByQueues w one far → AreStill w one far → AgreeIn w one far [] []
