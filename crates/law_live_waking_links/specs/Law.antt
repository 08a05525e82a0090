-- An event of a network is a turn of the two ports of a link, or leaves them as they are

use Rattle.std.specs.Prelude.{◌≡◌, ◌≢◌, ℕ, List, [], ◌∷◌, ◌++◌, fold}
use Rattle.world_model.specs.Words.{Addr, NodeId, Place, Up, Peer, Said, Side, Step, Syn, fresh, received, ticked, Linked, Topology, World, IsTopology, IsPlace, next}
use Rattle.world_model.specs.network_model.declared.link.LinkEnd.{LinkEnd}
use Rattle.world_model.specs.network_model.declared.event.Event.{Event}
use Rattle.world_model.specs.network_model.declared.event.Event.TheVariants.{Inject, Carry, Tick, TickSwitch}
use Rattle.law_live_waking.specs.law_passing.ordered_lists.Ordered.{Every}
use Rattle.law_live_waking.specs.law_running_worlds.law_shown_cells.Seen.{Extends}
use Rattle.law_live_waking.specs.law_live_meetings.Exchange.{ifmp, heard, cleared_state, side_after, said_in, Ends, swapped, ticks, Turn, turns}
use Rattle.law_live_worlds.specs.Law.{Shows}
use Rattle.law_live_waking.specs.law_live_orders.Law.{coming, heard_at, sent_at}
use Rattle.law_live_waking_links.specs.Hellos.{Greet, IsWritten, HasFitSide, ShowsEnds}

-- *An end is left so* by an event: its port has this side then, its node goes by this address, and what its controller sends on
-- the port's default channel greets so
pub record LeavesEnd (topology : Topology) (w : World) (event : Event) (end : LinkEnd) (address : Addr) (side : Side Peer) (said : List (Said Peer)) : Type 0 where
  pub linked : Linked
  pub shows : Shows (next topology w event) end linked
  pub goes_by : shows.site.controller.address ≡ address
  pub has : linked.port.adjacency ≡ side
  pub says : Greet address (next topology w event).notes.frames (sent_at topology w event end) said

-- *A step of the adjacency's table*: the port has the step's side, or begins anew under the party that is drawn for it, and says
-- what the step answers
pub record TakesStep (topology : Topology) (w : World) (event : Event) (end : LinkEnd) (address : Addr) (step : Step Peer) : Type 0 where
  pub drawn : Peer
  pub leaves : LeavesEnd topology w event end address (side_after (fresh ifmp.first drawn) step.answer step.side) (said_in step.answer)

-- *None*: nothing greets it, and it stays, or is cleared, or hears its peer in another way
pub data IsLeftBy (side : Side Peer) : Side Peer → Type 0 where
  stays : IsLeftBy side side
  is_cleared : IsLeftBy side (record side { state = cleared_state side.state })
  hears_else : IsLeftBy side (record side { silence = 0 })

pub record TakesNone (topology : Topology) (w : World) (event : Event) (end : LinkEnd) (address : Addr) (side : Side Peer) : Type 0 where
  pub after : Side Peer
  pub left_by : IsLeftBy side after
  pub leaves : LeavesEnd topology w event end address after []

-- so it goes by what it hears, which is one greeting at most
abbrev pub Takes : Topology → World → Event → (end : LinkEnd) → Addr → Side Peer → (hears : List (Said Peer)) → Type 0
Takes topology w event end address side [] = TakesNone topology w event end address side
Takes topology w event end address side (message ∷ []) = TakesStep topology w event end address (received ifmp.same side (heard ifmp message))
Takes topology w event end address side (message ∷ more) = ⊥

-- *A greeting names the port* by an address, unless it is SYN, which names nobody
abbrev pub NamesIt : Linked → Said Peer → Type 0
NamesIt linked message = message.kind ≢ Syn → (heard ifmp message).receiver.address ≡ linked.port.adjacency.own.address

-- *What greets a port names it* so
abbrev pub AreNamed : World → Event → (end peer : LinkEnd) → Type 0
AreNamed w event end peer = (linked peer_linked : Linked) (shows : Shows w end linked) (peer_shows : Shows w peer peer_linked) (hears : List (Said Peer))
    → Greet peer_shows.site.controller.address w.notes.frames (heard_at w event end) hears → Every IsWritten hears → Every (NamesIt linked) hears

-- *The port at an end goes by its table* at an event of its own controller: at a tick; and as a cell is brought to it, or a packet
-- is to be sent, by the greetings of its peer in the frame that is heard
abbrev pub TicksByTable : Topology → World → Event → LinkEnd → Type 0
TicksByTable topology w event end = (linked : Linked) (shows : Shows w end linked)
    → TakesStep topology w event end shows.site.controller.address (ticked linked.port.adjacency)

abbrev pub HearsByTable : Topology → World → Event → (end peer : LinkEnd) → Type 0
HearsByTable topology w event end peer = (linked peer_linked : Linked) (shows : Shows w end linked) (peer_shows : Shows w peer peer_linked) (hears : List (Said Peer))
    → Greet peer_shows.site.controller.address w.notes.frames (heard_at w event end) hears → Every IsWritten hears → Every (NamesIt linked) hears
    → Takes topology w event end shows.site.controller.address linked.port.adjacency hears

abbrev pub GoesByTable : Topology → World → (end peer : LinkEnd) → Event → Type 0
GoesByTable topology w end peer (Tick here) = here.0 ≡ end.node.0 → TicksByTable topology w (Tick here) end
GoesByTable topology w end peer (Carry (Up here)) = here.0 ≡ end.node.0 → HearsByTable topology w (Carry (Up here)) end peer
GoesByTable topology w end peer (Inject here octets) = here.0 ≡ end.node.0 → HearsByTable topology w (Inject here octets) end peer
GoesByTable topology w end peer event = Unit {0}

-- *The frames from one to the other come in order* at an event: what is heard, and then what is still to come, is what was to come, and then
-- what was sent
abbrev pub ComesInOrder : Topology → World → (one far : LinkEnd) → Event → Type 0
ComesInOrder topology w one far event = heard_at w event far ++ coming (next topology w event) one far ≡ coming w one far ++ sent_at topology w event one

-- *In peace* a carry is of a place of the network; frames come in order both ways, and stay as they were made; what the sides know can be
-- written, and what greets a port names it; and both ports go by their tables
pub record IsPeaceful (topology : Topology) (w : World) (one far : LinkEnd) (event : Event) : Type 0 where
  pub within : (place : Place) → event ≡ Carry place → IsPlace topology place
  pub order : ComesInOrder topology w one far event
  pub order_back : ComesInOrder topology w far one event
  pub fits : HasFitSide w one
  pub far_fits : HasFitSide w far
  pub named : AreNamed w event one far
  pub named_back : AreNamed w event far one
  pub stays : Extends w.notes.frames (next topology w event).notes.frames
  pub near : GoesByTable topology w one far event
  pub far_end : GoesByTable topology w far one event

-- *Turns are taken*: what the network shows behind them
pub record TakesTurns (v : World) (one far : LinkEnd) (ends : Ends Peer) : Type 0 where
  pub come : List (Turn Peer)
  pub shows : ShowsEnds v one far (fold (turns ifmp) ends come)

-- *A carry*, wherever it is, and a packet that is sent
abbrev pub CarriesAreTurns : Type 0
CarriesAreTurns = (topology : Topology) (w : World) (one far : LinkEnd) (place : Place) (ends : Ends Peer) → IsTopology topology → one.node.0 ≢ far.node.0
    → IsPeaceful topology w one far (Carry place) → ShowsEnds w one far ends → TakesTurns (next topology w (Carry place)) one far ends

abbrev pub PacketsAreTurns : Type 0
PacketsAreTurns = (topology : Topology) (w : World) (one far : LinkEnd) (here : NodeId) (octets : List ℕ) (ends : Ends Peer) → IsTopology topology → one.node.0 ≢ far.node.0
    → IsPeaceful topology w one far (Inject here octets) → ShowsEnds w one far ends → TakesTurns (next topology w (Inject here octets)) one far ends

-- *A tick* of either controller is one of its end; every other tick is nothing
pub record ShowsTick (v : World) (one far : LinkEnd) (ends : Ends Peer) : Type 0 where
  pub drawn : Peer
  pub shows : ShowsEnds v one far (ticks ifmp ends drawn)

pub record ShowsFarTick (v : World) (one far : LinkEnd) (ends : Ends Peer) : Type 0 where
  pub drawn : Peer
  pub shows : ShowsEnds v one far (swapped (ticks ifmp (swapped ends) drawn))

pub record TicksAreTurns : Type 0 where
  pub near : (topology : Topology) (w : World) (one far : LinkEnd) (here : NodeId) (ends : Ends Peer) → IsTopology topology → one.node.0 ≢ far.node.0 → here.0 ≡ one.node.0
      → IsPeaceful topology w one far (Tick here) → ShowsEnds w one far ends → ShowsTick (next topology w (Tick here)) one far ends
  pub far_end : (topology : Topology) (w : World) (one far : LinkEnd) (here : NodeId) (ends : Ends Peer) → IsTopology topology → one.node.0 ≢ far.node.0 → here.0 ≡ far.node.0
      → IsPeaceful topology w one far (Tick here) → ShowsEnds w one far ends → ShowsFarTick (next topology w (Tick here)) one far ends
  pub another : (topology : Topology) (w : World) (one far : LinkEnd) (here : NodeId) (ends : Ends Peer) → IsTopology topology → here.0 ≢ one.node.0 → here.0 ≢ far.node.0
      → IsPeaceful topology w one far (Tick here) → ShowsEnds w one far ends → ShowsEnds (next topology w (Tick here)) one far ends
  pub switch : (topology : Topology) (w : World) (one far : LinkEnd) (here : NodeId) (ends : Ends Peer) → IsTopology topology
      → IsPeaceful topology w one far (TickSwitch here) → ShowsEnds w one far ends → ShowsEnds (next topology w (TickSwitch here)) one far ends
