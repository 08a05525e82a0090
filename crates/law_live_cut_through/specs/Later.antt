-- A way that stands does so from then on, the flow is cut through on it, and packets of it are switched

use Rattle.std.specs.Prelude.{◌≡◌, ◌<◌, true, List, ◌∷◌, ◌++◌, length}
use Rattle.world_model.specs.Words.{NodeId, Policy, FlowId, flow_ttl, is_empty, Topology, world_after}
use Rattle.world_model.specs.network_model.declared.link.LinkEnd.{LinkEnd}
use Rattle.world_model.specs.network_model.declared.event.Event.{Event}
use Rattle.live_model.specs.Beats.{Beat, settled, behind}
use Rattle.calm_model.specs.Ways.{last_node}
use Rattle.calm_model.specs.CutThrough.{BeginsAt, IsCutThrough, AreSwitched}
use Rattle.law_live_ease.specs.law_live_hearing.Law.{world_at}
use Rattle.law_live_ease.specs.law_live_journeys.Hops.{IsStretch}
use Rattle.law_live_ease.specs.Law.{IsAtEase, Binds}
use Rattle.law_live_ease.specs.Beats.{IsCalmBeat}
use Rattle.law_live_ease.specs.Binding.{IsCalmStretch}
use Rattle.law_live_cut_through.specs.Law.{BindsAlone, WayStands}

-- *Behind each front of a calm stretch* of a network that binds
abbrev pub WaysStandInStretches : Type 0
WaysStandInStretches = (policy : Policy) (topology : Topology) (before events : List Event) (node : NodeId) (flow : FlowId) (far : LinkEnd) (ends : List LinkEnd)
    → IsCalmStretch policy topology before events → Binds topology (world_at policy topology before) → WayStands topology (world_at policy topology before) node flow far ends
    → (front rest : List Event) → events ≡ front ++ rest → WayStands topology (world_after topology (world_at policy topology before) front) node flow far ends

-- *Behind the ticks and carries of a calm beat* of a network at ease, where the flow begins at the node; and behind all of the beat
abbrev pub WaysStandInBeats : Type 0
WaysStandInBeats = (policy : Policy) (topology : Topology) (before : List Event) (beat : Beat) (node : NodeId) (flow : FlowId) (far : LinkEnd) (ends : List LinkEnd)
    → IsAtEase topology (world_at policy topology before) → IsCalmBeat policy topology before beat → BeginsAt (world_at policy topology before) node flow → 1 < flow_ttl flow
    → WayStands topology (world_at policy topology before) node flow far ends → WayStands topology (settled topology (world_at policy topology before) beat) node flow far ends

abbrev pub WaysStandBehindBeats : Type 0
WaysStandBehindBeats = (policy : Policy) (topology : Topology) (before : List Event) (beat : Beat) (node : NodeId) (flow : FlowId) (far : LinkEnd) (ends : List LinkEnd)
    → IsAtEase topology (world_at policy topology before) → IsCalmBeat policy topology before beat
    → WayStands topology (settled topology (world_at policy topology before) beat) node flow far ends
    → WayStands topology (behind topology (world_at policy topology before) beat) node flow far ends

-- *The flow is cut through* where its way stands, nothing but branches is asked, and no queue has a cell, then and once the run has gone on
abbrev pub StandingWaysCutThrough : Type 0
StandingWaysCutThrough = (policy : Policy) (topology : Topology) (events rest : List Event) (node : NodeId) (flow : FlowId) (far : LinkEnd) (ends : List LinkEnd)
    → IsStretch policy topology events rest → BindsAlone topology (world_at policy topology events) → is_empty (world_at policy topology events) ≡ true
    → WayStands topology (world_at policy topology events) node flow far ends → IsCutThrough topology (world_at policy topology events) node flow far ends

-- *Packets are switched* in a calm beat behind whose ticks and carries the way stands
abbrev pub PacketsAreSwitched : Type 0
PacketsAreSwitched = (policy : Policy) (topology : Topology) (before : List Event) (beat : Beat) (node : NodeId) (flow : FlowId) (far : LinkEnd) (ends : List LinkEnd)
    → IsAtEase topology (world_at policy topology before) → IsCalmBeat policy topology before beat → length (far ∷ ends) < flow_ttl flow
    → WayStands topology (settled topology (world_at policy topology before) beat) node flow far ends
    → AreSwitched topology (settled topology (world_at policy topology before) beat) beat.sending node flow (last_node far.node ends)
