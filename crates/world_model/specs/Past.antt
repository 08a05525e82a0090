-- A run so far, and what is told of it

use Rattle.std.specs.Prelude.{ℕ, ◌==◌, ◌&&◌, List, [], ◌∷◌, Option, None, Some, if◌then◌else◌}
use Rattle.std.specs.Option.{option_or}
use Rattle.network_model.specs.ipv4_packet.declared.flow.FlowId.{FlowId}
use Rattle.network_model.specs.link_model.declared.frames.Frame.{Frame}
use Rattle.network_model.specs.link_model.declared.record.Record.{Record}
use Rattle.network_model.specs.link_model.declared.record.Record.TheVariants.{Bind}
use Rattle.network_model.specs.port_model.Setup.{Policy}
use Rattle.network_model.specs.declared.event.Event.{Event}
use Rattle.network_model.specs.declared.link.LinkEnd.{LinkEnd}
use Rattle.network_model.specs.Topology.{Topology}
use Rattle.network_model.specs.World.{World, opened}
use Rattle.network_model.specs.Run.{run, world_after, records_of}
use Rattle.world_model.specs.Reached.{History, history}

-- the topology, the events so far, the worlds from the opening to now, all records in order, and what of the run
-- hop-by-hop forwarding goes by
pub record Past : Type 0 where
  pub topology : Topology
  pub events : List Event
  pub worlds : List World
  pub now : World
  pub records : List Record
  pub history : History

abbrev pub past_of : Policy → Topology → List Event → Past
past_of policy topology events =
    let worlds = run policy topology events in
    record {
      topology = topology;
      events = events;
      worlds = worlds;
      now = world_after topology (opened policy topology) events;
      records = records_of worlds;
      history = history worlds events;
    }

-- the frames that were made so far
abbrev pub frames_of : Past → List Frame
frames_of past = past.now.notes.frames

-- *The flow that a label of a port was bound to last*
abbrev pub bound_by : LinkEnd → (label : ℕ) → Record → Option FlowId
bound_by end label (Bind node port vci flow) =
    if (node.0 == end.node.0) && ((port.0 == end.port.0) && (vci == label)) then Some flow else None
bound_by end label item = None

abbrev pub last_bound : List Record → LinkEnd → (label : ℕ) → Option FlowId
last_bound [] end label = None
last_bound (item ∷ items) end label = option_or (last_bound items end label) (bound_by end label item)
