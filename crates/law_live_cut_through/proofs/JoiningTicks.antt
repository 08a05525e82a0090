-- the ticks that begin a calm beat of a network at ease keep joins, and in its own tick a node joins a label that can be joined

use Rattle.std.proofs.Common.{◌≡◌, Bool, List, [], ◌∷◌, ◌++◌, append_assoc, append-nil, map, Some, refl, sym, ◌∙◌, ap, subst, if◌then◌else◌}
use Rattle.world_model.specs.Words.{NodeId, Policy, FlowId, Label, at, tick_comes, Topology, World, Site, site_key, site_at, put_away, next, tick_of, switch_tick_of, tick_of_all, world_after}
use Rattle.world_model.specs.Ticks.{ticks}
use Rattle.world_model.specs.Joins.{Join}
use Rattle.world_model.specs.network_model.declared.event.Event.{Event}
use Rattle.world_model.specs.network_model.declared.event.Event.TheVariants.{Tick, TickSwitch}
use Rattle.world_model.proofs.Lists.{by_eq}
use Rattle.live_model.specs.Beats.{Beat}
use Rattle.law_live_ease.proofs.law_run_facts.law_actor_pace.Controllers.{ticks_paces}
use Rattle.law_live_ease.specs.law_true_runs.Runs.{HoldsInRuns, IsWhole}
use Rattle.law_live_ease.specs.law_live_hearing.Law.{world_at, acting}
use Rattle.law_live_ease.proofs.law_live_hearing.Going.{after_all}
use Rattle.law_live_ease.proofs.law_live_control_links.Sites.{switching, controller_elsewhere, switch_here, switch_elsewhere}
use Rattle.law_live_ease.proofs.law_live_calm_nodes.Parts.{along}
use Rattle.law_live_ease.proofs.law_live_calm_nodes.Ticks.{IsTick, of_controller, of_switch, all_ticks, site_waits}
use Rattle.law_live_ease.specs.law_live_mirrored_ticks.Law.{MayTick}
use Rattle.law_live_ease.proofs.law_live_mirrored_worlds.Events.{same_node}
use Rattle.law_live_ease.specs.law_live_carried_out.Law.{IsMirroredPeace}
use Rattle.law_live_ease.specs.law_live_joining.Ticks.{CanBeJoined}
use Rattle.law_live_ease.proofs.law_live_joining.Keeping.{keeps_same}
use Rattle.law_live_ease.proofs.law_live_joining.Ticking.{ticks_join, ticks_keep_joins}
use Rattle.law_live_ease.specs.law_live_joining_beats.Law.{HoldsJoin}
use Rattle.law_live_ease.proofs.law_live_joining_beats.Beats.{NodeKeeps, holds_then}
use Rattle.law_live_ease.specs.Beats.{IsCalmBeat}
use Rattle.law_live_ease.proofs.TicksSteady.{may, ticked, there}

-- *Nothing changes* at a node's controller
same_keeps : (v x : World) (node : NodeId) (site now : Site) → site_at x node ≡ Some now → now.controller ≡ site.controller → NodeKeeps v x node site
same_keeps v x node site now there same = record { now = now; there = there; keeps = keeps_same site.controller now.controller (ap (λ c. c.ports) same) }

-- *A node's tick* is among the others
record IsAmong (node : NodeId) (events : List Event) : Type 0 where
  first : List Event
  later : List Event
  are : events ≡ first ++ Tick node ∷ later

among : (node : NodeId) (site : Site) (sites : List Site) → at site_key node.0 sites ≡ Some site → IsAmong node (map tick_of sites)
among node site [] e = absurd (cc e)
among node site (s ∷ sites) e = by_eq (site_key s) node.0
    (λ same t. record { first = []; later = map tick_of sites; are = ap (λ (n : NodeId). Tick n ∷ map tick_of sites) (sym (same_node node s.controller.node same)) })
    (λ apart t. further (among node site sites (sym (ap (λ (d : Bool). if d then Some s else at site_key node.0 sites) t) ∙ e)))
  where
    further : IsAmong node (map tick_of sites) → IsAmong node (map tick_of (s ∷ sites))
    further r = record { first = tick_of s ∷ r.first; later = r.later; are = ap (λ (events : List Event). tick_of s ∷ events) r.are }

module _ (whole : HoldsInRuns IsWhole) (policy : Policy) (topology : Topology) (before : List Event) (beat : Beat)
    (m : IsMirroredPeace topology (world_at policy topology before)) (b : IsCalmBeat policy topology before beat) where
  abbrev w : World
  w = world_at policy topology before

  abbrev u : World
  u = world_after topology w (tick_of_all w)

  module _ (node : NodeId) (flow : FlowId) (join : Join) where
    abbrev Holds : World → Type 0
    Holds v = HoldsJoin v node flow join

    module _ (front rest : List Event) (h : Holds (world_after topology w front)) where
      abbrev v : World
      v = world_after topology w front

      own_tick : tick_of_all w ≡ front ++ Tick node ∷ rest → NodeKeeps v (next topology v (Tick node)) node h.site
      own_tick e = record {
        now = ticked whole policy topology before beat m b front rest node e h.site h.found;
        there = there whole policy topology before beat m b front rest node e h.site h.found;
        keeps = ticks_keep_joins (acting v h.site) its.peace its.joins;
      }
        where
          its : MayTick (acting (world_after topology (world_at policy topology before) front) h.site)
          its = may whole policy topology before beat m b front rest node e h.site h.found

      tick_keeps : (x : Event) → IsTick x → tick_of_all w ≡ front ++ x ∷ rest → NodeKeeps v (next topology v x) node h.site
      tick_keeps x (of_controller here) e = by_eq here.0 node.0
          (λ same t. subst (λ (n : NodeId). tick_of_all w ≡ front ++ Tick n ∷ rest → NodeKeeps v (next topology v (Tick n)) node h.site) (same_node node here same) own_tick e)
          (λ differs t. same_keeps v (next topology v (Tick here)) node h.site h.site (controller_elsewhere (put_away v) node here ticks (λ a. (ticks_paces 0 a).node) differs ∙ h.found) refl)
      tick_keeps x (of_switch here) e = by_eq here.0 node.0
          (λ same t. subst (λ (n : NodeId). NodeKeeps v (next topology v (TickSwitch n)) node h.site) (same_node node here same)
          (same_keeps v (next topology v (TickSwitch node)) node h.site (record h.site { switch = (tick_comes (switching (put_away v) h.site)).switch }) (switch_here (put_away v) node h.site h.found tick_comes) refl))
          (λ differs t. same_keeps v (next topology v (TickSwitch here)) node h.site h.site (switch_elsewhere (put_away v) node here tick_comes differs ∙ h.found) refl)

    tick_step : (front rest : List Event) (event : Event) → tick_of_all w ≡ front ++ event ∷ rest → Holds (world_after topology w front) → Holds (next topology (world_after topology w front) event)
    tick_step front rest event e h = holds_then (world_after topology w front) (next topology (world_after topology w front) event) node flow join h (tick_keeps front rest h event (all_ticks w front rest event e) e)

    -- *Through all of them*, or from one on
    pub ticks_hold : Holds w → Holds u
    ticks_hold h = along topology Holds (tick_of_all w) w h tick_step (tick_of_all w) [] (sym (append-nil (tick_of_all w)))

    rest_hold : (first later : List Event) → tick_of_all w ≡ first ++ later → Holds (world_after topology w first) → Holds u
    rest_hold first [] e h = subst (λ (events : List Event). Holds (world_after topology w events)) (sym (e ∙ append-nil first)) h
    rest_hold first (x ∷ later) e h = rest_hold (first ++ x ∷ []) later (e ∙ sym (append_assoc first (x ∷ []) later))
        (subst Holds (sym (after_all topology w first (x ∷ []))) (tick_step first later x e h))

  -- *Its turn comes*
  module _ (node : NodeId) (site : Site) (found : site_at w node ≡ Some site) (label : Label) (join : Join) (can : CanBeJoined site.controller label join) where
    turn : IsAmong node (map tick_of w.sites)
    turn = among node site w.sites found

    abbrev after : List Event
    after = turn.later ++ map switch_tick_of w.sites

    ticks_are : tick_of_all w ≡ turn.first ++ Tick node ∷ after
    ticks_are = ap (λ (events : List Event). events ++ map switch_tick_of w.sites) turn.are ∙ append_assoc turn.first (Tick node ∷ turn.later) (map switch_tick_of w.sites)

    abbrev z : World
    z = world_after topology w turn.first

    still_there : site_at z node ≡ Some site
    still_there = site_waits topology w turn.first after node m.lasting.peace.shaped ticks_are ∙ found

    its_turn : MayTick (acting z site)
    its_turn = may whole policy topology before beat m b turn.first after node ticks_are site still_there

    joined_in_tick : HoldsJoin (next topology z (Tick node)) node label.flow join
    joined_in_tick = record {
      site = ticked whole policy topology before beat m b turn.first after node ticks_are site still_there;
      found = there whole policy topology before beat m b turn.first after node ticks_are site still_there;
      held = (ticks_join (acting z site) label join its_turn.peace its_turn.joins can).held;
    }

    pub ticks_join_it : HoldsJoin u node label.flow join
    ticks_join_it = rest_hold node label.flow join (turn.first ++ Tick node ∷ []) after (ticks_are ∙ sym (append_assoc turn.first (Tick node ∷ []) after))
        (subst (λ (x : World). HoldsJoin x node label.flow join) (sym (after_all topology w turn.first (Tick node ∷ []))) joined_in_tick)
