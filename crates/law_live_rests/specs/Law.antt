-- Two ends of a link that agree at rest do so behind a beat whose carries go so

use Rattle.std.specs.Prelude.{◌≢◌, List, [], ◌∷◌, map}
use Rattle.std.specs.Option.{option_map_or}
use Rattle.live_model.specs.world_model.Words.{Addr, NodeId, Place, Up, Linked, Topology, World, Site, site_at, IsShaped, next, tick_of_all, world_after}
use Rattle.live_model.specs.world_model.ifmp_wire.declared.message.Message.{Message}
use Rattle.live_model.specs.world_model.network_model.declared.link.LinkEnd.{LinkEnd}
use Rattle.live_model.specs.world_model.network_model.declared.event.Event.{Event}
use Rattle.live_model.specs.world_model.network_model.declared.event.Event.TheVariants.{Carry}
use Rattle.live_model.specs.Beats.{Beat, settled}
use Rattle.law_live_nodes.specs.Law.{messages_of}
use Rattle.law_live_worlds.specs.Law.{Shows, AgreeIn, IsCalm, IsLeftAlike}
use Rattle.law_live_arrivals.specs.Law.{PortHears}
use Rattle.law_live_elsewhere.specs.Law.{IsElsewhere}

-- the address of a node
abbrev pub address_at : World → NodeId → Addr
address_at w node = option_map_or (λ (site : Site). site.controller.address) (site_at w node) (record { 0 = 0 })

-- a port, if it shows there, is left as its peer sees it
abbrev pub StaysAlike : World → World → LinkEnd → Type 0
StaysAlike w v place = (linked : Linked) → Shows w place linked → IsLeftAlike linked v place

-- *The carries go so*, with what each end has said that the other has yet to hear: each is elsewhere, or makes one end hear the
-- first that is on its way to it, or leaves both ports as their peers see them; and in the end nothing is on its way
pub data Go (topology : Topology) (one far : LinkEnd) : World → List Event → (said far_said : List Message) → Type 0 where
  ended : {w : World} → Go topology one far w [] [] []
  elsewhere : {w : World} {events : List Event} {said far_said : List Message} (place : Place) → IsElsewhere w one far place
      → Go topology one far (next topology w (Carry place)) events said far_said → Go topology one far w (Carry place ∷ events) said far_said
  heard : {w : World} {events : List Event} {said far_said : List Message} (message : Message) → PortHears topology w far (address_at w one.node) message
      → Go topology one far (next topology w (Carry (Up far.node))) events said far_said → Go topology one far w (Carry (Up far.node) ∷ events) (message ∷ said) far_said
  heard_back : {w : World} {events : List Event} {said far_said : List Message} (message : Message) → PortHears topology w one (address_at w far.node) message
      → Go topology one far (next topology w (Carry (Up one.node))) events said far_said → Go topology one far w (Carry (Up one.node) ∷ events) said (message ∷ far_said)
  alike : {w : World} {events : List Event} {said far_said : List Message} (place : Place) → StaysAlike w (next topology w (Carry place)) one
      → StaysAlike w (next topology w (Carry place)) far → Go topology one far (next topology w (Carry place)) events said far_said
      → Go topology one far w (Carry place ∷ events) said far_said

-- *Then they are at rest again*, and agree
abbrev pub StretchesComeToRest : Type 0
StretchesComeToRest = (topology : Topology) (w : World) (one far : LinkEnd) (events : List Event) (said far_said : List Message) → one.node.0 ≢ far.node.0
    → AgreeIn w one far said far_said → Go topology one far w events said far_said → AgreeIn (world_after topology w events) one far [] []

abbrev pub BeatsComeToRest : Type 0
BeatsComeToRest = (topology : Topology) (w : World) (one far : LinkEnd) (beat : Beat) → one.node.0 ≢ far.node.0 → IsShaped w → IsCalm w one.node → IsCalm w far.node
    → (agree : AgreeIn w one far [] [])
    → Go topology one far (world_after topology w (tick_of_all w)) (map Carry beat.carries) (messages_of agree.linked) (messages_of agree.far_linked)
    → AgreeIn (settled topology w beat) one far [] []
