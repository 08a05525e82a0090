-- along a calm stretch of a network at ease it binds on, and all have heard one another lately, so it is at ease in its end

use Rattle.std.proofs.Common.{◌≡◌, ℕ, ◌<◌, List, [], ◌∷◌, ◌++◌, append-nil, Option, None, Some, refl, sym, ◌∙◌, ap, subst}
use Rattle.std.specs.List.{list_all}
use Rattle.std.specs.Option.{option_map}
use Rattle.world_model.specs.Words.{NodeId, Policy, Topology, World, Site, site_at, next, world_after, IsNode, IsRun}
use Rattle.world_model.specs.adjacency_table.Table.{silence_limit}
use Rattle.world_model.specs.network_model.declared.event.Event.{Event}
use Rattle.live_model.specs.Beats.{is_sending}
use Rattle.law_live_ease.proofs.law_run_facts.Nodes.{runs_have_nodes}
use Rattle.law_live_ease.specs.law_true_runs.Runs.{HoldsInRuns, IsWhole}
use Rattle.law_live_ease.proofs.law_true_runs.Fronts.{front_run, front_tame}
use Rattle.law_live_ease.specs.law_live_hearing.Law.{world_at}
use Rattle.law_live_ease.proofs.law_live_calm_nodes.Parts.{along}
use Rattle.law_live_ease.proofs.law_live_calm_nodes.Events.{Facts, now_is, facts}
use Rattle.law_live_ease.proofs.law_live_calm_nodes.Heard as controllers
use Rattle.law_live_ease.proofs.law_live_lasting.Silence as switches
use Rattle.law_live_ease.specs.Law.{IsAtEase, Binds, IsCalmEvent}
use Rattle.law_live_ease.specs.Binding.{IsCalmStretch, StretchesBindOn}
use Rattle.law_live_ease.specs.Settling.{HasHeard, BindingNetworksRest}
use Rattle.law_live_ease.proofs.SettlingEntering.{controller_same, switch_same}
use Rattle.law_live_ease.proofs.SettlingHeard.{IsSent, enters, carries, all_sent}
use Rattle.law_live_cut_through.specs.Ease.{StretchesKeepEase}
use Rattle.law_live_cut_through.proofs.EaseBinding.{ease_binds}
use Rattle.law_live_cut_through.proofs.EaseCarried.{HeardLately, controller_hears_on, switch_hears_on}

-- *A part of a node* that is low where it is there is so
part_heard : (f : Site → ℕ) (v : World) (node : NodeId) → ((site : Site) → site_at v node ≡ Some site → f site < silence_limit) → HeardLately (option_map f (site_at v node))
part_heard f v node low = by (site_at v node) refl
  where
    one_number : (m n : ℕ) → Some m ≡ Some n → m ≡ n
    one_number m n e = cc

    by : (o : Option Site) → site_at v node ≡ o → HeardLately (option_map f o)
    by None found n e = absurd (cc e)
    by (Some site) found n e = subst (λ (m : ℕ). m < silence_limit) (one_number (f site) n e) (low site found)

-- *Both sides have been heard lately*
record BothHeard (v : World) (node : NodeId) : Type 0 where
  controller : HeardLately (controllers.silence_at v node)
  switch : HeardLately (switches.silence_at v node)

module _ (whole : HoldsInRuns IsWhole) (stretches : StretchesBindOn) (policy : Policy) (topology : Topology) (before all : List Event)
    (s : IsCalmStretch policy topology before all) (ease : IsAtEase topology (world_at policy topology before)) where
  abbrev w : World
  w = world_at policy topology before

  begun : IsRun policy topology before
  begun = front_run policy topology before all s.run

  begins : Binds topology w
  begins = ease_binds policy topology before begun s.addresses (front_tame policy topology before all s.tame) ease

  pub then_is : world_at policy topology (before ++ all) ≡ world_after topology w all
  then_is = now_is whole policy topology before all s.run s.addresses s.tame all

  -- *It binds* throughout
  binds : (front rest : List Event) → all ≡ front ++ rest → Binds topology (world_after topology w front)
  binds = stretches policy topology before all s begins

  pub binds_then : Binds topology (world_after topology w all)
  binds_then = binds all [] (sym (append-nil all))

  -- *At each node* both sides hear on
  module _ (node : NodeId) (inside : IsNode topology node) where
    at_first : BothHeard w node
    at_first = record {
      controller = part_heard (λ (site : Site). site.controller.adjacency.silence) w node (ease.peace.lasting.peace.heard node);
      switch = part_heard switches.silence_of w node (ease.peace.lasting.heard node inside);
    }

    step : (front rest : List Event) (event : Event) → all ≡ front ++ event ∷ rest → BothHeard (world_after topology w front) node → BothHeard (next topology (world_after topology w front) event) node
    step front rest event e h = by event (all_sent front rest event (sym (ap (list_all is_sending) e) ∙ s.sends))
        (facts whole policy topology before all s.run s.addresses s.tame front rest event e) (s.calm front rest event e)
      where
        v : World
        v = world_after topology w front

        by : (x : Event) → IsSent x → Facts topology v x → IsCalmEvent topology v x → BothHeard (next topology v x) node
        by x (enters here octets) f c = record {
          controller = subst HeardLately (sym (controller_same topology v node here octets)) h.controller;
          switch = subst HeardLately (sym (switch_same topology v node here octets)) h.switch;
        }
        by x (carries place) f c = record {
          controller = controller_hears_on topology v node h.controller ((binds front (event ∷ rest) e).nodes node inside).calm (f.steady node).0 place (f.steady node).1 (c.unspent node);
          switch = switch_hears_on topology v node h.switch place;
        }

    heard_then : BothHeard (world_after topology w all) node
    heard_then = along topology (λ (v : World). BothHeard v node) all w at_first step all [] (sym (append-nil all))

  -- *So in its end* they have heard one another lately
  inside_then : (node : NodeId) (site : Site) → site_at (world_after topology w all) node ≡ Some site → IsNode topology node
  inside_then node site found = (runs_have_nodes policy topology (before ++ all) s.addresses s.run node site (ap (λ (v : World). site_at v node) then_is ∙ found)).is_node.number

  pub have_heard : (node : NodeId) → HasHeard (world_after topology w all) node
  have_heard node = record {
    controller = λ site found. (heard_then node (inside_then node site found)).controller site.controller.adjacency.silence (ap (option_map (λ (x : Site). x.controller.adjacency.silence)) found);
    switch = λ site found. (heard_then node (inside_then node site found)).switch site.switch.adjacency.silence (ap (option_map switches.silence_of) found);
  }

-- *It is at ease again* once no queue has a cell
pub stretches_keep_ease : HoldsInRuns IsWhole → StretchesBindOn → BindingNetworksRest → StretchesKeepEase
stretches_keep_ease whole stretches rests policy topology before all s empty ease =
    let now : World = world_at policy topology (before ++ all) in
    let then_now : now ≡ world_after topology (world_at policy topology before) all = then_is whole stretches policy topology before all s ease in
    rests policy topology (before ++ all) s.run s.addresses s.tame
    (subst (Binds topology) (sym then_now) (binds_then whole stretches policy topology before all s ease)) empty
    (λ node. subst (λ (v : World). HasHeard v node) (sym then_now) (have_heard whole stretches policy topology before all s ease node))
