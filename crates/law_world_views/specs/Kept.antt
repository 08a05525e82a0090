-- What each event of a run keeps, before the first frame that was forged or passed its test by chance

use Rattle.std.specs.Prelude.{ℕ, List, [], ◌∷◌, ◌++◌, Contains}
use Rattle.law_controller_views.specs.world_model.Words.{FlowId, Bind, Policy, Topology, IsTopology, Past, past_of, Way, IsWay, IsUnused, IsRun, IsTame}
use Rattle.law_controller_views.specs.world_model.network_model.declared.event.Event.{Event}
use Rattle.law_world_views.specs.Between.{IsWorld}
use Rattle.law_controller_views.specs.law_controller_facts.claims_model.Fronts.{HasAddresses}

-- *An event comes* in such a run
pub record Comes (policy : Policy) (topology : Topology) (before : List Event) (event : Event) : Type 0 where
  pub run : IsRun policy topology (before ++ event ∷ [])
  pub addresses : HasAddresses topology
  pub tame : IsTame (past_of policy topology (before ++ event ∷ [])).records

abbrev pub behind : Policy → Topology → (before : List Event) → Event → Past
behind policy topology before event = past_of policy topology (before ++ event ∷ [])

-- *It keeps a part* of what is so of every network: with all of it before the event the part is so behind it; and at the
-- opening it is
abbrev pub Keeps : (Past → Type 0) → Type 0
Keeps Part = (policy : Policy) (topology : Topology) (before : List Event) (event : Event)
    → Comes policy topology before event → IsWorld (past_of policy topology before) → Part (behind policy topology before event)

abbrev pub Begins : (Past → Type 0) → Type 0
Begins Part = (policy : Policy) (topology : Topology) → IsTopology topology → HasAddresses topology → Part (past_of policy topology [])

-- nobody may use a label before the event that binds it
abbrev pub BindsUnusedAt : Policy → Topology → (before : List Event) → Event → Type 0
BindsUnusedAt policy topology before event =
    (way : Way) (label : ℕ) (flow : FlowId)
    → Contains (behind policy topology before event).now.notes.records (Bind way.down.node way.down.port label flow)
    → IsWay topology way → IsUnused (past_of policy topology before).now way label
