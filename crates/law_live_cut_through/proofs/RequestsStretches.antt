-- and so along a calm stretch of a network that binds

use Rattle.std.proofs.Common.{◌≡◌, List, ◌∷◌, ◌++◌, sym, ◌∙◌, ap, subst}
use Rattle.std.specs.List.{list_all}
use Rattle.world_model.specs.Words.{Policy, NodeId, Desk, Linked, Topology, World, next, world_after}
use Rattle.world_model.specs.network_model.declared.event.Event.{Event}
use Rattle.live_model.specs.Beats.{is_sending}
use Rattle.law_live_ease.specs.law_true_runs.Runs.{HoldsInRuns, IsWhole}
use Rattle.law_live_ease.specs.law_live_hearing.Law.{world_at}
use Rattle.law_live_ease.proofs.law_live_calm_nodes.Parts.{along}
use Rattle.law_live_ease.proofs.law_live_calm_nodes.Events as events
use Rattle.law_live_ease.specs.Law.{Binds, IsCalmEvent}
use Rattle.law_live_ease.specs.Binding.{IsCalmStretch, StretchesBindOn}
use Rattle.law_live_ease.proofs.BindingStretches.{is_sent}
use Rattle.law_live_cut_through.proofs.RequestsKeeping.{Keeps}
use Rattle.law_live_cut_through.proofs.RequestsEvents.{At, sent_keeps}

module _ (whole : HoldsInRuns IsWhole) (stretches : StretchesBindOn) (T : List Linked → Desk → Type 0) (k : Keeps T) (node : NodeId) (policy : Policy) (topology : Topology) (before all : List Event)
    (s : IsCalmStretch policy topology before all) (b : Binds topology (world_at policy topology before)) where
  abbrev w : World
  w = world_at policy topology before

  step : (front rest : List Event) (event : Event) → all ≡ front ++ event ∷ rest → At T node (world_after topology w front) → At T node (next topology (world_after topology w front) event)
  step front rest event e h =
      subst (λ (x : World). Binds topology x → IsCalmEvent topology x event → At T node x → At T node (next topology x event)) (events.now_is whole policy topology before all s.run s.addresses s.tame front)
      (sent_keeps T k policy topology (before ++ front) node event (is_sent front rest event (ap (list_all is_sending) (sym e) ∙ s.sends))
      (events.comes whole policy topology before all s.run s.addresses s.tame front rest event e)
      (events.world whole policy topology before all s.run s.addresses s.tame front rest event e))
      (stretches policy topology before all s b front (event ∷ rest) e) (s.calm front rest event e) h

  pub stretch_keeps : At T node w → (front rest : List Event) → all ≡ front ++ rest → At T node (world_after topology w front)
  stretch_keeps h = along topology (At T node) all w h step
