-- Instances are drawn once: of a run's controllers, switches and ports no two have ever had one instance

use Rattle.std.specs.Prelude.{◌≡◌, ℕ, ◌<◌, ◌≤◌, List, Contains, Option, Some, ◌⊎◌}
use Rattle.std.specs.Option.{option_map}
use Rattle.law_world_pace.specs.world_model.Words.{NodeId, Policy, Topology, World, site_at, next, side_at, Past, past_of}
use Rattle.law_world_pace.specs.world_model.network_model.declared.event.Event.{Event}
use Rattle.law_world_pace.specs.world_model.network_model.declared.link.LinkEnd.{LinkEnd}

-- *Who draws instances*: the controller of a node, its switch, a port of a link
pub data Holder : Type 0 where
  ByController : NodeId → Holder
  BySwitch : NodeId → Holder
  ByPort : LinkEnd → Holder

-- the own instance of its side of its adjacency
abbrev pub own_at : World → Holder → Option ℕ
own_at w (ByController node) = option_map (λ site. site.controller.adjacency.own.instance.0) (site_at w node)
own_at w (BySwitch node) = option_map (λ site. site.switch.adjacency.own.instance.0) (site_at w node)
own_at w (ByPort end) = option_map (λ side. side.own.instance.0) (side_at w end)

-- *In an event* each keeps its instance, or has a new one; and no two have one new one
pub data IsNew (given_before given_behind : ℕ) (drawn : Option ℕ) : Type 0 where
  is_new : (instance : ℕ) → drawn ≡ Some instance → given_before < instance → instance ≤ given_behind → IsNew given_before given_behind drawn

pub record Draws (old new : World) : Type 0 where
  pub more : old.numbers.instances ≤ new.numbers.instances
  pub each : (holder : Holder) → (own_at new holder ≡ own_at old holder) ⊎ IsNew old.numbers.instances new.numbers.instances (own_at new holder)
  pub apart : (one other : Holder) (instance : ℕ) → own_at new one ≡ Some instance → own_at new other ≡ Some instance
      → old.numbers.instances < instance → one ≡ other

abbrev pub EventsDraw : Type 0
EventsDraw = (policy : Policy) (topology : Topology) (before : List Event) (event : Event)
    → Draws (past_of policy topology before).now (next topology (past_of policy topology before).now event)

-- *Once*: whoever have had one instance are the same, and it was given out
pub record DrawnOnce (past : Past) : Type 0 where
  pub given : (w : World) (holder : Holder) (instance : ℕ) → Contains past.worlds w → own_at w holder ≡ Some instance
      → instance ≤ past.now.numbers.instances
  pub once : (w v : World) (one other : Holder) (instance : ℕ) → Contains past.worlds w → Contains past.worlds v
      → own_at w one ≡ Some instance → own_at v other ≡ Some instance → one ≡ other

abbrev pub RunsDrawOnce : Type 0
RunsDrawOnce = (policy : Policy) (topology : Topology) (events : List Event) → DrawnOnce (past_of policy topology events)
