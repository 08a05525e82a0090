-- a carry, or a packet that enters, leaves what each controller of a network that binds holds

use Rattle.std.proofs.Common.{◌≡◌, ◌≢◌, inl, inr, ℕ, Bool, true, false, true≢false, List, [], ◌∷◌, Some, refl, sym, subst}
use Rattle.world_model.specs.Words.{Policy, NodeId, Place, Down, Up, Out, Cell, Topology, World, Site, site_at, queue_at, next, IsNode, past_of}
use Rattle.world_model.specs.network_model.declared.link.LinkEnd.{LinkEnd}
use Rattle.world_model.specs.network_model.declared.event.Event.{Event}
use Rattle.world_model.specs.network_model.declared.event.Event.TheVariants.{Inject, Carry, Lose, Tick, TickSwitch, Restart, RestartSwitch, Forge, Route}
use Rattle.world_model.proofs.Lists.{by_eq}
use Rattle.live_model.specs.Beats.{is_sending}
use Rattle.law_live_ease.specs.law_run_facts.law_world_views.Between.{IsWorld}
use Rattle.law_live_ease.specs.law_run_facts.law_world_views.Kept.{Comes}
use Rattle.law_live_ease.proofs.law_run_facts.Nodes.{runs_have_nodes}
use Rattle.law_live_ease.proofs.law_run_facts.Steps.{runs_have_fronts}
use Rattle.law_live_ease.specs.law_live_hearing.Law.{world_at}
use Rattle.law_live_ease.proofs.law_live_hearing.Sites.{up_now, up_site}
use Rattle.law_live_ease.proofs.law_live_elsewhere.Kept.{KeepsNode}
use Rattle.law_live_ease.proofs.law_live_elsewhere.Elsewhere.{IsKept, carry_keeps}
use Rattle.law_live_ease.proofs.law_live_control_links.Runs.{runs_are_steady}
use Rattle.law_live_ease.proofs.law_live_mirrored_worlds.Events.{same_node}
use Rattle.law_live_ease.specs.Law.{Binds, IsCalmEvent}
use Rattle.law_live_ease.proofs.ComingNode.{Brought}
use Rattle.law_live_ease.proofs.EntriesEntering.{HasMore, with_more, has_more}
use Rattle.law_live_cut_through.proofs.LabelsKeeping.{HeldStays, held_same, held_kept}
use Rattle.law_live_cut_through.proofs.LabelsCells.{last_keeps}

-- *A node keeps what it holds*
pub record NodeStays (x : World) (node : NodeId) (site : Site) : Type 0 where
  pub now : Site
  pub there : site_at x node ≡ Some now
  pub keeps : HeldStays site.controller now.controller

module _ (policy : Policy) (topology : Topology) (before : List Event) (world : IsWorld (past_of policy topology before)) (binds : Binds topology (world_at policy topology before))
    (node : NodeId) (site : Site) (found : site_at (world_at policy topology before) node ≡ Some site) where
  abbrev w : World
  w = world_at policy topology before

  abbrev Keeps : Event → Type 0
  Keeps event = NodeStays (next topology w event) node site

  -- *A packet enters*
  enters_keep : (here : NodeId) (octets : List ℕ) → Comes policy topology before (Inject here octets) → Keeps (Inject here octets)
  enters_keep here octets comes = by (has_more topology w here octets (λ own s is. (runs_are_steady policy topology before (Inject here octets) comes world own).0.links s is) node site found)
    where
      by : HasMore site (site_at (next topology (world_at policy topology before) (Inject here octets)) node) → Keeps (Inject here octets)
      by more = record { now = with_more site more.put; there = more.there; keeps = held_same site.controller (with_more site more.put).controller refl }

  -- *A carry* to others, or of a cell that ends no frame
  elsewhere : (place : Place) → IsKept place (queue_at w place) node.0 → Keeps (Carry place)
  elsewhere place kept = by (carry_keeps topology w any_end any_end place (queue_at w place) node.0 kept site found)
    where
      any_end : LinkEnd
      any_end = record { node = node; port = record { 0 = 0 } }

      by : KeepsNode site (site_at (next topology (world_at policy topology before) (Carry place)) node) → Keeps (Carry place)
      by k = record { now = k.after; there = k.there; keeps = held_kept site.controller k.after.controller k.controller }

  up_kept : (here : NodeId) → here.0 ≢ node.0 → (queue : List Cell) → IsKept (Up here) queue node.0
  up_kept here differs [] = tt
  up_kept here differs (cell ∷ cells) = inl differs

  -- *To its controller*
  module _ (comes : Comes policy topology before (Carry (Up node))) (calm : IsCalmEvent topology w (Carry (Up node))) where
    within : IsNode topology node
    within = (runs_have_nodes policy topology before comes.addresses (runs_have_fronts policy topology before (Carry (Up node)) comes).run node site found).is_node.number

    brought : Brought policy topology before node site
    brought = record { comes = comes; world = world; binds = binds; calm = calm; within = within; found = found }

    kept : (queue : List Cell) → queue_at w (Up node) ≡ queue → IsKept (Up node) queue node.0 → Keeps (Carry (Up node))
    kept queue q is = elsewhere (Up node) (subst (λ (cells : List Cell). IsKept (Up node) cells node.0) (sym q) is)

    by_cell : (cell : Cell) (cells : List Cell) → queue_at w (Up node) ≡ cell ∷ cells → (is_last : Bool) → cell.header.last ≡ is_last → Keeps (Carry (Up node))
    by_cell cell cells q false part = kept (cell ∷ cells) q (inr part)
    by_cell cell cells q true last = record {
      now = up_now topology w node site found cell cells;
      there = up_site topology w node site found cell cells q;
      keeps = last_keeps brought cell cells q last;
    }

    by_queue : (queue : List Cell) → queue_at w (Up node) ≡ queue → Keeps (Carry (Up node))
    by_queue [] q = kept [] q tt
    by_queue (cell ∷ cells) q = by_cell cell cells q cell.header.last refl

  carried_keeps : (place : Place) → Comes policy topology before (Carry place) → IsCalmEvent topology w (Carry place) → Keeps (Carry place)
  carried_keeps (Down here) comes calm = elsewhere (Down here) tt
  carried_keeps (Out here port) comes calm = elsewhere (Out here port) tt
  carried_keeps (Up here) comes calm = by_eq here.0 node.0
      (λ same t. subst (λ (n : NodeId). Comes policy topology before (Carry (Up n)) → IsCalmEvent topology w (Carry (Up n)) → Keeps (Carry (Up n))) (same_node node here same)
      (λ own_comes own_calm. by_queue own_comes own_calm (queue_at w (Up node)) refl) comes calm)
      (λ differs t. elsewhere (Up here) (up_kept here differs (queue_at w (Up here))))

  -- *The whole*
  pub sent_keeps : (event : Event) → is_sending event ≡ true → Comes policy topology before event → IsCalmEvent topology w event → Keeps event
  sent_keeps (Inject here octets) sends comes calm = enters_keep here octets comes
  sent_keeps (Carry place) sends comes calm = carried_keeps place comes calm
  sent_keeps (Lose place) sends comes calm = absurd (true≢false (sym sends))
  sent_keeps (Tick here) sends comes calm = absurd (true≢false (sym sends))
  sent_keeps (TickSwitch here) sends comes calm = absurd (true≢false (sym sends))
  sent_keeps (Restart here) sends comes calm = absurd (true≢false (sym sends))
  sent_keeps (RestartSwitch here) sends comes calm = absurd (true≢false (sym sends))
  sent_keeps (Forge place channel payload) sends comes calm = absurd (true≢false (sym sends))
  sent_keeps (Route here change) sends comes calm = absurd (true≢false (sym sends))
