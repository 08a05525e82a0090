-- An event in peace at a node: nothing of what its controller and its switch say to each other is lost, and no request fails

use Rattle.std.specs.Prelude.{◌≡◌, ◌≢◌, ◌&&◌, ℕ, true, false, Bool, List, ◌∷◌, Some, Ok}
use Rattle.world_model.specs.Words.{NodeId, Place, Down, Up, Out, Cell, Channel, Standing, Failed, Topology, World, Site, OfController, OfSwitch, answered, gsmp_channel, has_entry, has_slot, last_transaction, next, payload_of, queue_at, same_channel, site_at, IsPlace}
use Rattle.world_model.specs.gsmp_wire.declared.message.Message.{Message}
use Rattle.world_model.specs.gsmp_wire.Fields.{decoded}
use Rattle.world_model.specs.network_model.declared.event.Event.{Event}
use Rattle.world_model.specs.network_model.declared.event.Event.TheVariants.{Inject, Carry, Tick, TickSwitch}

-- *The last cell* of a frame on a channel
abbrev pub is_last_on : Channel → Cell → Bool
is_last_on channel cell = cell.header.last && same_channel cell.header.channel channel

-- *It loses none* of the greetings between the two: where one of them ticks a slot is free for what it says, and of a frame that
-- a carry ends at one of them the ledger has no entry behind it
abbrev pub EndsUnlost : Topology → World → Place → Type 0
EndsUnlost topology w place = (cell : Cell) (cells : List Cell) → queue_at w place ≡ cell ∷ cells → is_last_on gsmp_channel cell ≡ true
    → has_entry (next topology w (Carry place)).notes.entries cell.mark ≡ false

abbrev pub LosesNone : Topology → World → NodeId → Event → Type 0
LosesNone topology w node (Tick here) = here.0 ≡ node.0 → has_slot w (OfController node gsmp_channel) ≡ true
LosesNone topology w node (TickSwitch here) = here.0 ≡ node.0 → has_slot w (OfSwitch node) ≡ true
LosesNone topology w node (Carry (Down here)) = here.0 ≡ node.0 → EndsUnlost topology w (Down here)
LosesNone topology w node (Carry (Up here)) = here.0 ≡ node.0 → EndsUnlost topology w (Up here)
LosesNone topology w node (Carry (Out here port)) = IsPlace topology (Out here port)
LosesNone topology w node (Inject here octets) = Unit {0}
LosesNone topology w node event = ⊥

-- *No request fails*: no answer that its controller hears tells a failure of one that stands, which would reset the node
abbrev pub FailsNone : World → NodeId → Event → Type 0
FailsNone w node (Carry (Up here)) = here.0 ≡ node.0 → (site : Site) (cell : Cell) (cells : List Cell) (payload : List ℕ) (message : Message)
    (s : Standing) (code : ℕ) → site_at w node ≡ Some site → queue_at w (Up node) ≡ cell ∷ cells → payload_of w.notes.frames cell.mark ≡ Some payload
    → decoded payload ≡ Ok message → answered site.controller.desk message ≢ Failed s code
FailsNone w node event = Unit {0}

-- *A transaction number is left* at its controller
abbrev pub IsUnspentAt : World → NodeId → Type 0
IsUnspentAt w node = (site : Site) → site_at w node ≡ Some site → site.controller.desk.next ≢ last_transaction

-- *In peace* an event is a tick, a carry, or a packet that is sent; it loses none, no request fails, and no transaction number of
-- the controller is spent behind it
pub record IsPeaceful (topology : Topology) (w : World) (node : NodeId) (event : Event) : Type 0 where
  pub unlost : LosesNone topology w node event
  pub succeeds : FailsNone w node event
  pub unspent : IsUnspentAt (next topology w event) node
