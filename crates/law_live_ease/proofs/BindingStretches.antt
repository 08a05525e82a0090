-- a network that binds, event by event along a stretch of a run

use Rattle.std.proofs.Common.{◌≡◌, Bool, true, false, true≢false, ◌&&◌, List, [], ◌∷◌, ◌++◌, sym, ◌∙◌, ap, subst}
use Rattle.std.specs.List.{list_all}
use Rattle.world_model.specs.Words.{Policy, Topology, World, next, world_after, past_of}
use Rattle.world_model.specs.network_model.declared.event.Event.{Event}
use Rattle.world_model.specs.network_model.declared.event.Event.TheVariants.{Inject, Carry, Lose, Tick, TickSwitch, Restart, RestartSwitch, Forge, Route}
use Rattle.live_model.specs.Beats.{is_sending}
use Rattle.law_live_journeys.specs.law_run_facts.law_world_views.Between.{IsWorld}
use Rattle.law_live_journeys.specs.law_run_facts.law_world_views.Kept.{Comes}
use Rattle.law_live_journeys.specs.law_true_runs.Runs.{HoldsInRuns, IsWhole}
use Rattle.law_live_journeys.specs.law_live_hearing.Law.{world_at}
use Rattle.law_live_journeys.proofs.law_live_calm_nodes.Parts.{along}
use Rattle.law_live_journeys.proofs.law_live_calm_nodes.Events as events
use Rattle.law_live_ease.specs.Law.{Binds, IsCalmEvent}
use Rattle.law_live_ease.specs.Entries.{EntriesBindOn}
use Rattle.law_live_ease.specs.Binding.{NetworksBindOn, IsCalmStretch, StretchesBindOn}

-- *Each event of it* is sent
pub both_first : (a b : Bool) → (a && b) ≡ true → a ≡ true
both_first true b e = λ i. true
both_first false b e = e

pub both_second : (a b : Bool) → (a && b) ≡ true → b ≡ true
both_second true b e = e
both_second false b e = absurd (cc e)

pub is_sent : (front rest : List Event) (event : Event) → list_all is_sending (front ++ event ∷ rest) ≡ true → is_sending event ≡ true
is_sent [] rest event e = both_first (is_sending event) (list_all is_sending rest) e
is_sent (x ∷ front) rest event e = is_sent front rest event (both_second (is_sending x) (list_all is_sending (front ++ event ∷ rest)) e)

-- *Behind an event* that is sent
sent_binds : NetworksBindOn → EntriesBindOn → (policy : Policy) (topology : Topology) (before : List Event) (event : Event) → is_sending event ≡ true
    → Comes policy topology before event → IsWorld (past_of policy topology before) → Binds topology (world_at policy topology before)
    → IsCalmEvent topology (world_at policy topology before) event → Binds topology (next topology (world_at policy topology before) event)
sent_binds carries entries policy topology before (Inject node octets) sends = entries policy topology before node octets
sent_binds carries entries policy topology before (Carry place) sends = carries policy topology before place
sent_binds carries entries policy topology before (Lose place) sends = absurd (true≢false (sym sends))
sent_binds carries entries policy topology before (Tick node) sends = absurd (true≢false (sym sends))
sent_binds carries entries policy topology before (TickSwitch node) sends = absurd (true≢false (sym sends))
sent_binds carries entries policy topology before (Restart node) sends = absurd (true≢false (sym sends))
sent_binds carries entries policy topology before (RestartSwitch node) sends = absurd (true≢false (sym sends))
sent_binds carries entries policy topology before (Forge place channel payload) sends = absurd (true≢false (sym sends))
sent_binds carries entries policy topology before (Route node change) sends = absurd (true≢false (sym sends))

module _ (whole : HoldsInRuns IsWhole) (carries : NetworksBindOn) (entries : EntriesBindOn) (policy : Policy) (topology : Topology) (before all : List Event)
    (s : IsCalmStretch policy topology before all) where
  abbrev w : World
  w = world_at policy topology before

  step : (front rest : List Event) (event : Event) → all ≡ front ++ event ∷ rest → Binds topology (world_after topology w front) → Binds topology (next topology (world_after topology w front) event)
  step front rest event e b =
      subst (λ (x : World). Binds topology x → IsCalmEvent topology x event → Binds topology (next topology x event)) (events.now_is whole policy topology before all s.run s.addresses s.tame front)
      (sent_binds carries entries policy topology (before ++ front) event (is_sent front rest event (ap (list_all is_sending) (sym e) ∙ s.sends))
      (events.comes whole policy topology before all s.run s.addresses s.tame front rest event e)
      (events.world whole policy topology before all s.run s.addresses s.tame front rest event e))
      b (s.calm front rest event e)

pub stretches_bind_on : HoldsInRuns IsWhole → NetworksBindOn → EntriesBindOn → StretchesBindOn
stretches_bind_on whole carries entries policy topology before all s b =
    along topology (Binds topology) all (world_at policy topology before) b (step whole carries entries policy topology before all s)
