-- A network that binds is at ease once no queue has a cell; and behind a calm beat of one at ease that binds throughout it all have heard one another

use Rattle.std.specs.Prelude.{◌≡◌, true, List, ◌++◌, map}
use Rattle.world_model.specs.Words.{NodeId, Policy, Topology, World, is_empty, tick_of_all, world_after, IsRun, past_of, IsTame}
use Rattle.world_model.specs.network_model.declared.event.Event.{Event}
use Rattle.world_model.specs.network_model.declared.event.Event.TheVariants.{Carry}
use Rattle.live_model.specs.Beats.{Beat, behind}
use Rattle.law_live_journeys.specs.law_run_facts.law_world_views.Fronts.{HasAddresses}
use Rattle.law_live_journeys.specs.law_live_hearing.Law.{world_at}
use Rattle.law_live_journeys.specs.law_live_control_links.Law.{ControllerListens, SwitchListens}
use Rattle.law_live_ease.specs.Law.{IsAtEase, Binds}
use Rattle.law_live_ease.specs.Beats.{IsCalmBeat}

-- *They have heard one another lately*, a node's controller and its switch
pub record HasHeard (w : World) (node : NodeId) : Type 0 where
  pub controller : ControllerListens w node
  pub switch : SwitchListens w node

-- *So a network that binds is at ease* once no queue has a cell, in a run before the first frame that was forged or passes by chance
abbrev pub BindingNetworksRest : Type 0
BindingNetworksRest = (policy : Policy) (topology : Topology) (events : List Event) → IsRun policy topology events → HasAddresses topology
    → IsTame (past_of policy topology events).records → Binds topology (world_at policy topology events)
    → is_empty (world_at policy topology events) ≡ true → ((node : NodeId) → HasHeard (world_at policy topology events) node)
    → IsAtEase topology (world_at policy topology events)

-- *It binds throughout* what is carried and sent in a beat, behind the ticks that begin it
abbrev pub BindsThroughout : Policy → Topology → (before : List Event) → Beat → Type 0
BindsThroughout policy topology before beat = (front rest : List Event) → map Carry beat.carries ++ beat.sending ≡ front ++ rest
    → Binds topology (world_after topology (world_after topology (world_at policy topology before) (tick_of_all (world_at policy topology before))) front)

-- *Then they have heard one another* behind a calm beat of a network at ease
abbrev pub BeatsAreHeard : Type 0
BeatsAreHeard = (policy : Policy) (topology : Topology) (before : List Event) (beat : Beat) → IsAtEase topology (world_at policy topology before)
    → IsCalmBeat policy topology before beat → BindsThroughout policy topology before beat
    → (node : NodeId) → HasHeard (behind topology (world_at policy topology before) beat) node
