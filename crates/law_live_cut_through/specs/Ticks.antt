-- What is held is so behind the ticks that begin a calm beat of a network at ease

use Rattle.std.specs.Prelude.{◌≡◌, ℕ, ◌<◌, List, None, Some}
use Rattle.world_model.specs.Words.{Policy, End, FlowId, flow_ttl, flow_destination, ByController, ByInput, best, Local, table_in, Topology, World, tick_of_all, world_after}
use Rattle.world_model.specs.network_model.declared.link.LinkEnd.{LinkEnd}
use Rattle.world_model.specs.network_model.declared.event.Event.{Event}
use Rattle.live_model.specs.Beats.{Beat}
use Rattle.calm_model.specs.Ways.{one_hop}
use Rattle.calm_model.specs.CutThrough.{BeginsAt}
use Rattle.law_live_ease.specs.law_live_hearing.Law.{world_at}
use Rattle.law_live_ease.specs.Law.{IsAtEase}
use Rattle.law_live_ease.specs.Beats.{IsCalmBeat}
use Rattle.law_live_cut_through.specs.Law.{HoldsLabel, HoldsGrant, ServesAlone}

abbrev pub ticked : Policy → Topology → (before : List Event) → World
ticked policy topology before = world_after topology (world_at policy topology before) (tick_of_all (world_at policy topology before))

-- *A label that is joined* is so still, and one whose route is local isn't joined
abbrev pub TicksKeepJoined : Type 0
TicksKeepJoined = (policy : Policy) (topology : Topology) (before : List Event) (beat : Beat) → IsAtEase topology (world_at policy topology before)
    → IsCalmBeat policy topology before beat → (end : LinkEnd) (number : ℕ) (flow : FlowId) (output : End)
    → HoldsLabel (world_at policy topology before) end number flow (Some output) → HoldsLabel (ticked policy topology before) end number flow (Some output)

abbrev pub TicksKeepLast : Type 0
TicksKeepLast = (policy : Policy) (topology : Topology) (before : List Event) (beat : Beat) → IsAtEase topology (world_at policy topology before)
    → IsCalmBeat policy topology before beat → (end : LinkEnd) (number : ℕ) (flow : FlowId)
    → best (table_in end.node (world_at policy topology before)) (flow_destination flow) ≡ Some Local
    → HoldsLabel (world_at policy topology before) end number flow None → HoldsLabel (ticked policy topology before) end number flow None

-- *A grant that is lent* is so still; and so is one under which the controller sends, where the node holds no label of the flow that leads to it
abbrev pub TicksKeepLent : Type 0
TicksKeepLent = (policy : Policy) (topology : Topology) (before : List Event) (beat : Beat) → IsAtEase topology (world_at policy topology before)
    → IsCalmBeat policy topology before beat → (end : LinkEnd) (number : ℕ) (flow : FlowId) (input : End)
    → HoldsGrant (world_at policy topology before) end number flow (ByInput input) → HoldsGrant (ticked policy topology before) end number flow (ByInput input)

abbrev pub TicksKeepFirst : Type 0
TicksKeepFirst = (policy : Policy) (topology : Topology) (before : List Event) (beat : Beat) → IsAtEase topology (world_at policy topology before)
    → IsCalmBeat policy topology before beat → (end : LinkEnd) (number : ℕ) (flow : FlowId)
    → BeginsAt (world_at policy topology before) end.node flow → 1 < flow_ttl flow
    → HoldsGrant (world_at policy topology before) end number (one_hop flow) ByController → HoldsGrant (ticked policy topology before) end number (one_hop flow) ByController

-- *A label that serves a flow alone* does so still
abbrev pub TicksServeAlone : Type 0
TicksServeAlone = (policy : Policy) (topology : Topology) (before : List Event) (beat : Beat) → IsAtEase topology (world_at policy topology before)
    → IsCalmBeat policy topology before beat → (end : LinkEnd) (number : ℕ) (flow : FlowId)
    → ServesAlone (world_at policy topology before) end number flow → ServesAlone (ticked policy topology before) end number flow
