-- a frame goes from link to link where the switches lead it, and to the controller at the last end

use Rattle.std.proofs.Common.{◌≡◌, ℕ, true, List, [], ◌∷◌, is_some, Some, ap}
use Rattle.world_model.specs.Words.{Policy, Down, Up, Out, Channel, Mark, label_end, control_end, is_linked, Topology, IsNode}
use Rattle.world_model.specs.Topology.{peer_of}
use Rattle.world_model.specs.network_model.declared.link.LinkEnd.{LinkEnd}
use Rattle.world_model.specs.network_model.declared.event.Event.{Event}
use Rattle.law_live_ease.proofs.law_causes.Shown.{IsPeer, peer_back}
use Rattle.law_live_ease.specs.law_live_hearing.Law.{IsOnItsWay}
use Rattle.law_live_ease.proofs.law_live_hearing.Going.{still_unlost}
use Rattle.law_live_cut_through.specs.Led.{LeadsAlong, last_end, last_label, ComesUnder, FramesAreLed}
use Rattle.law_live_cut_through.proofs.LedHops.{control_not_gsmp, StandsAt, GoesFrom, from_start, down_goes, up_goes, out_goes, to_port, to_next, to_controller}

module _ (policy : Policy) (topology : Topology) (past events : List Event) (mark : Mark) (payload : List ℕ) (way : IsOnItsWay policy topology past events mark payload) where
  abbrev Stands : LinkEnd → (number : ℕ) → Type 0
  Stands one number = StandsAt policy topology past events mark payload way (Out one.node one.port) (label_end one.port number).channel

  -- *At the last end*
  comes : (at : LinkEnd) (number : ℕ) → GoesFrom policy topology past events mark payload way (Up at.node) (control_end at.port number).channel
      → ComesUnder policy topology past events at number mark
  comes at number g = record {
    front = g.front;
    rest = g.rest;
    are = g.are;
    cell = g.cell;
    cells = g.cells;
    queue = g.is;
    last = g.last;
    own = g.own;
    on = g.on;
    unlost = still_unlost policy topology past events mark payload way (Up at.node) (control_end at.port number).channel g;
  }

  -- *From a link on*
  along_ends : (one far : LinkEnd) (number : ℕ) (ends : List LinkEnd) → IsNode topology one.node → peer_of topology one.node one.port ≡ Some far → Stands one number
      → (along : LeadsAlong policy topology past events far number ends)
      → ComesUnder policy topology past events (last_end far ends) (last_label policy topology past events far number ends along) mark
  along_ends one far number [] within led s along =
      let peer : IsPeer topology one far = peer_back topology way.run.topology_is one far led in
      let linked : is_linked topology one.node one.port ≡ true = ap is_some led in
      let channel : Channel = (label_end one.port number).channel in
      let g : GoesFrom policy topology past events mark payload way (Out one.node one.port) channel = out_goes policy topology past events mark payload way one.node one.port channel within linked s in
      comes far number (up_goes policy topology past events mark payload way far.node (control_end far.port number).channel peer.node
      (to_controller policy topology past events mark payload way one far within led channel g number along))
  along_ends one far number (further ∷ ends) within led s along =
      let peer : IsPeer topology one far = peer_back topology way.run.topology_is one far led in
      let linked : is_linked topology one.node one.port ≡ true = ap is_some led in
      let channel : Channel = (label_end one.port number).channel in
      let g : GoesFrom policy topology past events mark payload way (Out one.node one.port) channel = out_goes policy topology past events mark payload way one.node one.port channel within linked s in
      let out : LinkEnd = record { node = far.node; port = along.0.port } in
      let ahead : IsPeer topology out further = peer_back topology way.run.topology_is out further along.0.linked in
      along_ends out further along.0.label ends peer.node along.0.linked
      (to_next policy topology past events mark payload way one far within led channel g (label_end along.0.port along.0.label) ahead.own.1 along.0.leads) along.1

pub frames_are_led : FramesAreLed
frames_are_led policy topology past events mark payload one far number ends way within led waits leads along =
    let peer : IsPeer topology one far = peer_back topology way.run.topology_is one far led in
    let channel : Channel = (control_end one.port number).channel in
    let g : GoesFrom policy topology past events mark payload way (Down one.node) channel =
    down_goes policy topology past events mark payload way one.node channel within (from_start policy topology past events mark payload way (Down one.node) channel waits) in
    along_ends policy topology past events mark payload way one far number ends within led
    (to_port policy topology past events mark payload way one.node channel (label_end one.port number) within peer.own.1 leads (control_not_gsmp one.port number peer.own.0) g) along
