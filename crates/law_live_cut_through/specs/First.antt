-- The first beats: a flow of which enough packets are sent has its labels behind the beat, and they are joined in the next

use Rattle.std.specs.Prelude.{◌≡◌, ◌<◌, true, List, ◌∷◌, ◌++◌, length}
use Rattle.world_model.specs.Words.{NodeId, Policy, FlowId, flow_ttl, flow_destination, table_in, is_empty, Topology}
use Rattle.world_model.specs.network_model.declared.link.LinkEnd.{LinkEnd}
use Rattle.world_model.specs.network_model.declared.event.Event.{Event}
use Rattle.live_model.specs.Beats.{Beat, settled}
use Rattle.calm_model.specs.Ways.{IsWayFrom}
use Rattle.calm_model.specs.Served.{IsSent, IsFreeWay}
use Rattle.calm_model.specs.CutThrough.{BeginsAt}
use Rattle.law_live_ease.specs.law_live_hearing.Law.{world_at}
use Rattle.law_live_ease.specs.Law.{IsAtEase, Binds}
use Rattle.law_live_ease.specs.Beats.{IsCalmBeat}
use Rattle.law_live_ease.specs.Binding.{IsCalmStretch}
use Rattle.law_live_cut_through.specs.Law.{AreLabelled, WayStands}

-- *Enough packets of a flow* that is new, sent along a free way in a calm stretch of a network at ease, which is at ease again in its end, bring it a
-- label on each link of its way
abbrev pub FlowsAreLabelled : Type 0
FlowsAreLabelled = (policy : Policy) (topology : Topology) (before events : List Event) (node : NodeId) (flow : FlowId) (ends : List LinkEnd)
    → IsCalmStretch policy topology before events → is_empty (world_at policy topology (before ++ events)) ≡ true
    → IsAtEase topology (world_at policy topology before) → Binds topology (world_at policy topology before)
    → IsAtEase topology (world_at policy topology (before ++ events))
    → IsSent policy topology (world_at policy topology before) events node flow ends
    → AreLabelled topology (world_at policy topology (before ++ events)) node flow ends

-- *Behind the ticks and carries of a calm beat* a network at ease is at ease
abbrev pub SettledAreAtEase : Type 0
SettledAreAtEase = (policy : Policy) (topology : Topology) (before : List Event) (beat : Beat) → IsAtEase topology (world_at policy topology before)
    → IsCalmBeat policy topology before beat → IsAtEase topology (settled topology (world_at policy topology before) beat)

-- and labels along a way are joined, each to the next, where the way is free
abbrev pub WaysComeToStand : Type 0
WaysComeToStand = (policy : Policy) (topology : Topology) (before : List Event) (beat : Beat) (node : NodeId) (flow : FlowId) (far : LinkEnd) (ends : List LinkEnd)
    → IsAtEase topology (world_at policy topology before) → IsCalmBeat policy topology before beat
    → AreLabelled topology (world_at policy topology before) node flow (far ∷ ends) → IsFreeWay topology (world_at policy topology before) node flow (far ∷ ends)
    → IsWayFrom topology (λ n. table_in n (world_at policy topology before)) (flow_destination flow) node (far ∷ ends)
    → length (far ∷ ends) < flow_ttl flow → BeginsAt (world_at policy topology before) node flow
    → WayStands topology (settled topology (world_at policy topology before) beat) node flow far ends
