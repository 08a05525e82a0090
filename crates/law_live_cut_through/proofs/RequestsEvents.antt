-- and so at each event of a calm stretch, whichever node it is of

use Rattle.std.proofs.Common.{◌≡◌, ℕ, true, true≢false, List, [], ◌∷◌, ◌++◌, Some, refl, sym, ◌∙◌, ap, subst}
use Rattle.std.specs.Option.{option_map}
use Rattle.world_model.specs.Words.{Policy, NodeId, Place, Down, Up, Out, Desk, Linked, Topology, World, Site, site_at, next, IsNode, IsRun, past_of}
use Rattle.world_model.specs.World.{opened}
use Rattle.world_model.specs.network_model.declared.event.Event.{Event}
use Rattle.world_model.specs.network_model.declared.event.Event.TheVariants.{Inject, Carry, Lose, Tick, TickSwitch, Restart, RestartSwitch, Forge, Route}
use Rattle.world_model.proofs.Lists.{by_eq}
use Rattle.live_model.specs.Beats.{is_sending}
use Rattle.law_live_ease.specs.law_run_facts.law_world_views.Between.{IsWorld}
use Rattle.law_live_ease.specs.law_run_facts.law_world_views.Kept.{Comes}
use Rattle.law_live_ease.specs.law_run_facts.Nodes.{HasSite}
use Rattle.law_live_ease.proofs.law_run_facts.Nodes.{runs_have_nodes}
use Rattle.law_live_ease.proofs.law_run_facts.Rooms.{runs_keep_nodes}
use Rattle.law_live_ease.proofs.law_run_facts.Steps.{after_one, runs_have_fronts}
use Rattle.law_live_ease.specs.law_live_hearing.Law.{world_at}
use Rattle.law_live_ease.specs.law_live_control.Calm.{HasLinks}
use Rattle.law_live_ease.proofs.law_live_control_links.Runs.{runs_are_steady}
use Rattle.law_live_ease.proofs.law_live_calm_nodes.Parts.{part_at, down_part, out_part, up_elsewhere}
use Rattle.law_live_ease.proofs.law_live_mirrored_worlds.Events.{same_node}
use Rattle.law_live_ease.specs.Law.{Binds, IsCalmEvent}
use Rattle.law_live_ease.proofs.NodesCarries.{Kept, kept_of, keeps_queue, keeps_switch, one_kept}
use Rattle.law_live_ease.proofs.EntriesEntering.{WasThere, was_there}
use Rattle.law_live_cut_through.proofs.RequestsKeeping.{Keeps}
use Rattle.law_live_cut_through.proofs.RequestsCells.{brought_on}

module _ (T : List Linked → Desk → Type 0) where
  -- *A node keeps it* in a world
  abbrev pub At : NodeId → World → Type 0
  At node w = (site : Site) → site_at w node ≡ Some site → T site.controller.ports site.controller.desk

  module _ (k : Keeps T) (policy : Policy) (topology : Topology) (before : List Event) (node : NodeId) where
    abbrev w : World
    w = world_at policy topology before

    -- *Behind a carry*
    module _ (place : Place) (comes : Comes policy topology before (Carry place)) (world : IsWorld (past_of policy topology before)) (b : Binds topology w) (c : IsCalmEvent topology w (Carry place))
        (h : At node w) (now : Site) (there : site_at (next topology w (Carry place)) node ≡ Some now) where
      abbrev later : List Event
      later = before ++ Carry place ∷ []

      behind_is : world_at policy topology later ≡ next topology w (Carry place)
      behind_is = after_one topology (opened policy topology) before (Carry place)

      begun : IsRun policy topology before
      begun = (runs_have_fronts policy topology before (Carry place) comes).run

      within : IsNode topology node
      within = (runs_have_nodes policy topology later comes.addresses comes.run node now (ap (λ (u : World). site_at u node) behind_is ∙ there)).is_node.number

      was : HasSite w node
      was = runs_keep_nodes policy topology before begun node within

      before_it : T was.site.controller.ports was.site.controller.desk
      before_it = h was.site was.is

      same_so : (v : World) → site_at v node ≡ Some now → part_at kept_of v node ≡ part_at kept_of w node → T now.controller.ports now.controller.desk
      same_so v is same = subst (λ (x : Kept). T x.1 x.0) (sym kept) before_it
        where
          kept : ◌≡◌ {A = Kept} (kept_of now) (kept_of was.site)
          kept = one_kept (kept_of now) (kept_of was.site) (sym (ap (option_map kept_of) is) ∙ (same ∙ ap (option_map kept_of) was.is))

      own : place ≡ Up node → T now.controller.ports now.controller.desk
      own is = brought_on T k (record {
        comes = subst (λ (p : Place). Comes policy topology before (Carry p)) is comes;
        world = world;
        binds = b;
        calm = subst (λ (p : Place). IsCalmEvent topology w (Carry p)) is c;
        within = within;
        found = was.is;
      }) before_it now (subst (λ (p : Place). site_at (next topology w (Carry p)) node ≡ Some now) is there)

      by : (p : Place) → place ≡ p → T now.controller.ports now.controller.desk
      by (Down here) is = same_so (next topology w (Carry (Down here))) (subst (λ (p : Place). site_at (next topology w (Carry p)) node ≡ Some now) is there)
          (down_part kept_of keeps_queue keeps_switch topology w node here)
      by (Out here port) is = same_so (next topology w (Carry (Out here port))) (subst (λ (p : Place). site_at (next topology w (Carry p)) node ≡ Some now) is there)
          (out_part kept_of keeps_queue keeps_switch topology w node here port)
      by (Up here) is = by_eq here.0 node.0
          (λ same t. own (is ∙ ap (λ (x : NodeId). Up x) (sym (same_node node here same))))
          (λ apart t. same_so (next topology w (Carry (Up here))) (subst (λ (p : Place). site_at (next topology w (Carry p)) node ≡ Some now) is there)
          (up_elsewhere kept_of keeps_queue topology w node here apart))

      pub carried_on : T now.controller.ports now.controller.desk
      carried_on = by place refl

    -- *Behind a packet that enters*
    module _ (here : NodeId) (octets : List ℕ) (comes : Comes policy topology before (Inject here octets)) (world : IsWorld (past_of policy topology before)) where
      links : (other : NodeId) (site : Site) → site_at w other ≡ Some site → HasLinks site.controller
      links other site found = (runs_are_steady policy topology before (Inject here octets) comes world other).0.links site found

      pub entered_on : At node w → At node (next topology w (Inject here octets))
      entered_on h now there = by (was_there topology w here octets links node now there)
        where
          by : WasThere w node now → T now.controller.ports now.controller.desk
          by was = subst (λ (s : Site). T s.controller.ports s.controller.desk) (sym was.is) (h was.site was.found)

    -- *Behind each event* that is sent
    pub sent_keeps : (event : Event) → is_sending event ≡ true → Comes policy topology before event → IsWorld (past_of policy topology before) → Binds topology w → IsCalmEvent topology w event
        → At node w → At node (next topology w event)
    sent_keeps (Inject here octets) sends comes world b c h = entered_on here octets comes world h
    sent_keeps (Carry place) sends comes world b c h = λ now there. carried_on place comes world b c h now there
    sent_keeps (Lose place) sends comes world b c h = absurd (true≢false (sym sends))
    sent_keeps (Tick here) sends comes world b c h = absurd (true≢false (sym sends))
    sent_keeps (TickSwitch here) sends comes world b c h = absurd (true≢false (sym sends))
    sent_keeps (Restart here) sends comes world b c h = absurd (true≢false (sym sends))
    sent_keeps (RestartSwitch here) sends comes world b c h = absurd (true≢false (sym sends))
    sent_keeps (Forge place channel payload) sends comes world b c h = absurd (true≢false (sym sends))
    sent_keeps (Route here route_change) sends comes world b c h = absurd (true≢false (sym sends))
