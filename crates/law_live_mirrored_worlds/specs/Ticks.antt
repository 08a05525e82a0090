-- A node whose controller ticks at peace stays mirrored

use Rattle.std.specs.Prelude.{◌≡◌, ◌+◌, true, List, length, map, Some, Ok}
use Rattle.world_model.specs.Words.{NodeId, Down, default_channel, is_estab, PortRow, Standing, message_of, Switch, Topology, World, Site, site_at, next}
use Rattle.world_model.specs.Ticks.{ticks}
use Rattle.world_model.specs.gsmp_wire.Layout.{octets_of}
use Rattle.world_model.specs.gsmp_wire.Fields.{decoded}
use Rattle.world_model.specs.network_model.declared.event.Event.TheVariants.{Tick}
use Rattle.world_model.specs.switch_model.declared.request.Asked.{Asked}
use Rattle.law_port_facts.specs.ordered_lists.Ordered.{Every}
use Rattle.law_passing.specs.telling_model.Passing.{cells_put_at}
use Rattle.law_live_saying.specs.Law.{ticking}
use Rattle.law_live_orders.specs.Law.{last_marks}
use Rattle.law_live_mirrors.specs.Fit.{IsFit, AsksFit}
use Rattle.law_live_mirrored_ticks.specs.Law.{MayTick}
use Rattle.law_live_mirrored_worlds.specs.Way.{AreAsked, requests_of, IsMirroredIn}
use Rattle.law_live_mirrored_worlds.specs.Law.{FramesStay, AsksSome}

-- *Its tick puts what it asks*: the frames that it puts into its queue ask these, each of them fit; and these are what stands at its desk
-- behind the tick, each under a number of its own
pub record TicksPut (topology : Topology) (w : World) (node : NodeId) (site : Site) (asked : List Asked) : Type 0 where
  pub puts : AreAsked (next topology w (Tick node)).notes.frames (last_marks default_channel (cells_put_at topology w (Tick node) (Down node))) asked
  pub fit : Every (IsFit site.switch) asked
  pub stand : map (λ (s : Standing). s.request) (ticks (ticking w site)).controller.desk.standing ≡ requests_of asked
  pub numbers : (ticks (ticking w site)).controller.desk.next ≡ site.controller.desk.next + length asked

-- *What stands can be written*: what it is sent as is read as that, and is fit
pub record IsWritten (switch : Switch) (rows : List PortRow) (s : Standing) : Type 0 where
  pub reads : decoded (octets_of (message_of rows s.number s.request)) ≡ Ok (message_of rows s.number s.request)
  pub asks : AsksFit switch (message_of rows s.number s.request) s.request

-- *A tick at peace*: behind it the controller is in Estab with its switch still, the ledger is as it was, and what stands can be written
pub record IsPeacefulTick (topology : Topology) (w : World) (node : NodeId) (site : Site) : Type 0 where
  pub may : MayTick (ticking w site)
  pub up : is_estab (ticks (ticking w site)).controller.adjacency.state ≡ true
  pub unlost : (next topology w (Tick node)).notes.entries ≡ w.notes.entries
  pub written : Every (IsWritten site.switch site.controller.desk.rows) (ticks (ticking w site)).controller.desk.standing

-- it puts what it asks
pub record TicksPutSome (topology : Topology) (w : World) (node : NodeId) (site : Site) : Type 0 where
  pub asked : List Asked
  pub put : TicksPut topology w node site asked

abbrev pub TicksPutWhatTheyAsk : Type 0
TicksPutWhatTheyAsk = (topology : Topology) (w : World) (node : NodeId) (site : Site) → site_at w node ≡ Some site
    → IsPeacefulTick topology w node site → TicksPutSome topology w node site

-- so its inputs are kept mirrored with that last on the way, and the node is mirrored behind it
abbrev pub TicksAsk : Type 0
TicksAsk = (topology : Topology) (w : World) (node : NodeId) (site : Site) → site_at w node ≡ Some site
    → IsPeacefulTick topology w node site → AsksSome topology w node (Tick node)

abbrev pub TicksMirror : Type 0
TicksMirror = (topology : Topology) (w : World) (node : NodeId) (site : Site) → site_at w node ≡ Some site
    → IsPeacefulTick topology w node site → FramesStay topology w (Tick node) → IsMirroredIn w node
    → IsMirroredIn (next topology w (Tick node)) node
