-- What is said is heard: a frame whose last cell waits in a queue is taken whole by its receiver

use Rattle.std.specs.Prelude.{◌≡◌, ℕ, true, false, List, ◌∷◌, ◌++◌, drop, Some}
use Rattle.world_model.specs.Words.{NodeId, PortNo, Place, Down, Up, Channel, End, Mark, Cell, Policy, has_entry, payload_of, frame_cells, last_mark, payload_in, nothing_taken, gsmp_channel, default_end, default_home, taker_of, with_reassembly, frame_read, Topology, World, Site, site_at, queue_at, with_queue_in, put_away, next, world_after, is_empty, IsNode, IsRun, CountsAsItsFrame, OfController, OfSwitch, output_at}
use Rattle.world_model.specs.frame_model.Frame.{octets_of}
use Rattle.world_model.specs.gsmp_wire.Fields.{decoded}
use Rattle.world_model.specs.Switch as switches
use Rattle.world_model.specs.Controller as controllers
use Rattle.world_model.specs.Cells.{Taker, frame_holds}
use Rattle.world_model.specs.Stretches.{ended_at}
use Rattle.world_model.specs.World.{opened}
use Rattle.world_model.specs.Topology.{peer_of}
use Rattle.world_model.specs.network_model.declared.link.LinkEnd.{LinkEnd}
use Rattle.world_model.specs.network_model.declared.event.Event.{Event}
use Rattle.world_model.specs.network_model.declared.event.Event.TheVariants.{Carry}

abbrev pub world_at : Policy → Topology → (past : List Event) → World
world_at policy topology past = world_after topology (opened policy topology) past

-- *A frame on its way*: in each world of a stretch of a run this payload is what was made under its mark last, and the ledger
-- has no entry of it; no frame passes by chance, and all links are empty in the end
pub record IsOnItsWay (policy : Policy) (topology : Topology) (past events : List Event) (mark : Mark) (payload : List ℕ) : Type 0 where
  pub run : IsRun policy topology (past ++ events)
  pub unlost : (front rest : List Event) → events ≡ front ++ rest → has_entry (world_at policy topology (past ++ front)).notes.entries mark ≡ false
  pub made : (front rest : List Event) → events ≡ front ++ rest → payload_of (world_at policy topology (past ++ front)).notes.frames mark ≡ Some payload
  pub counts : (front rest : List Event) (event : Event) → events ≡ front ++ event ∷ rest → CountsAsItsFrame (world_at policy topology (past ++ front)) event
  pub empties : is_empty (world_at policy topology (past ++ events)) ≡ true

-- *Its last cell* waits in a queue, on a channel
pub record Waits (w : World) (place : Place) (channel : Channel) (mark : Mark) : Type 0 where
  pub before : List Cell
  pub cell : Cell
  pub after : List Cell
  pub is : queue_at w place ≡ before ++ cell ∷ after
  pub last : cell.header.last ≡ true
  pub own : cell.mark ≡ mark
  pub on : cell.header.channel ≡ channel

-- so it does where all cells of the frame wait there, as behind the event that sent it
abbrev pub FramesWait : Type 0
FramesWait = (w : World) (place : Place) (channel : Channel) (mark : Mark) (payload : List ℕ) (front after : List Cell)
    → queue_at w place ≡ front ++ (frame_cells channel mark payload ++ after) → Waits w place channel mark

-- *A controller hears a frame*: the cell ends a chain that passes its test with this payload, and the frame acts, by the
-- channel on which it came, on the controller as it was, but for that chain
abbrev pub acting : World → Site → controllers.Acted
acting w site = record { controller = site.controller; notes = (put_away w).notes; numbers = w.numbers }

pub record Hears (topology : Topology) (w : World) (node : NodeId) (channel : Channel) (mark : Mark) (payload : List ℕ) : Type 0 where
  pub site : Site
  pub found : site_at w node ≡ Some site
  pub taker : Taker
  pub takes : taker_of site.controller channel ≡ Some taker
  pub whole : payload_in (octets_of (ended_at w (Carry (Up node)) (OfController node channel))) ≡ Some payload
  pub own : last_mark (ended_at w (Carry (Up node)) (OfController node channel)) ≡ mark
  pub acts : site_at (next topology w (Carry (Up node))) node
      ≡ Some (record (with_queue_in site (Up node) (drop 1 (queue_at w (Up node)))) {
        controller = (frame_holds (with_reassembly (acting w site) taker nothing_taken) taker mark payload).controller;
      })

-- *A switch hears a frame*, on the GSMP channel
abbrev pub acting_switch : World → Site → switches.ActedSwitch
acting_switch w site = record {
  switch = record site.switch { reassembly = nothing_taken };
  notes = (put_away w).notes;
  numbers = w.numbers;
}

pub record SwitchHears (topology : Topology) (w : World) (node : NodeId) (mark : Mark) (payload : List ℕ) : Type 0 where
  pub site : Site
  pub found : site_at w node ≡ Some site
  pub whole : payload_in (octets_of (ended_at w (Carry (Down node)) (OfSwitch node))) ≡ Some payload
  pub own : last_mark (ended_at w (Carry (Down node)) (OfSwitch node)) ≡ mark
  pub acts : site_at (next topology w (Carry (Down node))) node
      ≡ Some (record (with_queue_in site (Down node) (drop 1 (queue_at w (Down node)))) {
        switch = (frame_read (acting_switch w site) (decoded payload)).switch;
      })

-- *It is heard* in the stretch: at a carry, behind a front of the events
pub record IsHeard (topology : Topology) (w : World) (events : List Event) (node : NodeId) (channel : Channel) (mark : Mark) (payload : List ℕ) : Type 0 where
  pub front : List Event
  pub rest : List Event
  pub are : events ≡ front ++ Carry (Up node) ∷ rest
  pub hears : Hears topology (world_after topology w front) node channel mark payload

pub record IsHeardBySwitch (topology : Topology) (w : World) (events : List Event) (node : NodeId) (mark : Mark) (payload : List ℕ) : Type 0 where
  pub front : List Event
  pub rest : List Event
  pub are : events ≡ front ++ Carry (Down node) ∷ rest
  pub hears : SwitchHears topology (world_after topology w front) node mark payload

-- *Between a controller and its switch* (RFC 1987): what waits on the GSMP channel is heard, both ways; and what waits for a
-- controller on any channel is heard by whoever takes it
abbrev pub SwitchesHear : Type 0
SwitchesHear = (policy : Policy) (topology : Topology) (past events : List Event) (node : NodeId) (mark : Mark) (payload : List ℕ)
    → IsNode topology node → IsOnItsWay policy topology past events mark payload
    → Waits (world_at policy topology past) (Down node) gsmp_channel mark
    → IsHeardBySwitch topology (world_at policy topology past) events node mark payload

abbrev pub ControllersHear : Type 0
ControllersHear = (policy : Policy) (topology : Topology) (past events : List Event) (node : NodeId) (channel : Channel) (mark : Mark) (payload : List ℕ)
    → IsNode topology node → IsOnItsWay policy topology past events mark payload
    → Waits (world_at policy topology past) (Up node) channel mark
    → IsHeard topology (world_at policy topology past) events node channel mark payload

-- *Between the controllers of a link* (RFC 1953): what one sent to the default channel of its port is heard by the other on
-- the default channel of its own, where these channels lead there, if they lead anywhere, in each world of the stretch
pub record LeadsByDefault (w : World) (node : NodeId) (port : PortNo) : Type 0 where
  pub out : (output : End) → output_at w node (default_home port) ≡ Some output → output ≡ default_end port
  pub home : (output : End) → output_at w node (default_end port) ≡ Some output → output ≡ default_home port

abbrev pub NeighboursHear : Type 0
NeighboursHear = (policy : Policy) (topology : Topology) (past events : List Event) (one far : LinkEnd) (mark : Mark) (payload : List ℕ)
    → IsNode topology one.node → peer_of topology one.node one.port ≡ Some far → IsOnItsWay policy topology past events mark payload
    → ((front rest : List Event) → events ≡ front ++ rest → LeadsByDefault (world_at policy topology (past ++ front)) one.node one.port)
    → ((front rest : List Event) → events ≡ front ++ rest → LeadsByDefault (world_at policy topology (past ++ front)) far.node far.port)
    → Waits (world_at policy topology past) (Down one.node) (default_home one.port).channel mark
    → IsHeard topology (world_at policy topology past) events far.node (default_home far.port).channel mark payload
