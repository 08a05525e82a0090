-- A flow of which enough packets are heard at an end of a link, in a calm stretch of a network that binds, is served by a label there

use Rattle.std.specs.Prelude.{◌≡◌, ℕ, ◌≤◌, List, ◌++◌, Some}
use Rattle.world_model.specs.Words.{Policy, FlowId, Label, label_for, Session, Linked, Topology, World, world_after}
use Rattle.world_model.specs.Topology.{peer_of}
use Rattle.world_model.specs.network_model.declared.link.LinkEnd.{LinkEnd}
use Rattle.world_model.specs.network_model.declared.event.Event.{Event}
use Rattle.calm_model.specs.Served.{OffersLabels, CanServe}
use Rattle.law_live_journeys.specs.law_live_hearing.Law.{world_at}
use Rattle.law_live_journeys.specs.law_live_worlds.Law.{Shows}
use Rattle.law_live_journeys.specs.Counts.{HearsMany}
use Rattle.law_live_ease.specs.Law.{Binds}
use Rattle.law_live_ease.specs.Binding.{IsCalmStretch}

-- *A label serves the flow* at an end: the port is in session, and has a label for it, which is being wired or offered
pub record IsServed (w : World) (end : LinkEnd) (flow : FlowId) : Type 0 where
  pub linked : Linked
  pub shows : Shows w end linked
  pub session : Session
  pub is_open : linked.port.session ≡ Some session
  pub label : Label
  pub served : label_for session.labels flow ≡ Some label

-- *The port can serve* the flow in a world
abbrev pub CanServeIn : World → (end : LinkEnd) → FlowId → Type 0
CanServeIn w end flow = (linked : Linked) (session : Session) → Shows w end linked → linked.port.session ≡ Some session → CanServe linked session flow

-- *Enough packets of a flow* that are heard at the end of a link make a label serve it there, in a calm stretch of a run in which the
-- network binds, where the policy offers it a label from so many on, and the port can serve throughout
abbrev pub FlowsComeToBeServed : Type 0
FlowsComeToBeServed = (policy : Policy) (topology : Topology) (before events : List Event) (one far : LinkEnd) (linked : Linked) (flow : FlowId) (wanted n : ℕ)
    → IsCalmStretch policy topology before events → Binds topology (world_at policy topology before)
    → peer_of topology one.node one.port ≡ Some far → Shows (world_at policy topology before) far linked → OffersLabels linked.setup.policy flow wanted
    → ((front rest : List Event) → events ≡ front ++ rest → CanServeIn (world_after topology (world_at policy topology before) front) far flow)
    → HearsMany topology far flow (world_at policy topology before) events n → wanted ≤ n
    → IsServed (world_after topology (world_at policy topology before) events) far flow
