-- A packet that enters leaves a network that binds binding

use Rattle.std.specs.Prelude.{ℕ, List}
use Rattle.world_model.specs.Words.{Policy, NodeId, Topology, next, past_of}
use Rattle.world_model.specs.network_model.declared.event.Event.{Event}
use Rattle.world_model.specs.network_model.declared.event.Event.TheVariants.{Inject}
use Rattle.law_live_journeys.specs.law_run_facts.law_world_views.Between.{IsWorld}
use Rattle.law_live_journeys.specs.law_run_facts.law_world_views.Kept.{Comes}
use Rattle.law_live_journeys.specs.law_live_hearing.Law.{world_at}
use Rattle.law_live_ease.specs.Law.{Binds, IsCalmEvent}

-- *A network that binds does so behind each packet that enters*, where that is calm, in a run before the first frame that was forged or
-- passes by chance
abbrev pub EntriesBindOn : Type 0
EntriesBindOn = (policy : Policy) (topology : Topology) (before : List Event) (node : NodeId) (octets : List ℕ) → Comes policy topology before (Inject node octets)
    → IsWorld (past_of policy topology before) → Binds topology (world_at policy topology before)
    → IsCalmEvent topology (world_at policy topology before) (Inject node octets)
    → Binds topology (next topology (world_at policy topology before) (Inject node octets))
