-- the route of a destination at a node stays in each event of a network, where it does as a cell comes to the node's controller, or a
-- change of routes

use Rattle.std.proofs.Common.{◌≡◌, ◌≢◌, ℕ, List, [], ◌∷◌, Option, None, Some, refl, sym, ◌∙◌, ap, subst, arith}
use Rattle.std.specs.Prelude.{◌+◌}
use Rattle.std.specs.Option.{option_map_or}
use Rattle.world_model.specs.Words.{NodeId, PortNo, Place, Down, Up, Out, Addr, Cell, best, RouteChange, Via, Refusal, node_restarts, change_comes, injected, inject_refusal, control_port, Topology, World, Site, site_at, with_site, controller_acts, switch_acts, queue_at, queue_in, place_node, with_queue, with_queue_of, with_queue_in, arrives_at, carries_head, loses_head, injects_by, next, put_away, table_in, IsTame}
use Rattle.world_model.specs.ipv4_forward.declared.table.Route.{Route as TableRoute}
use Rattle.law_frame_readings.proofs.law_port_facts.Keyed.{by_eq}
use Rattle.world_model.specs.Controller.{Acted}
use Rattle.world_model.specs.Cells.{cell_comes}
use Rattle.world_model.specs.Ticks.{ticks}
use Rattle.world_model.specs.Switch as switches
use Rattle.world_model.specs.Conduct as switch
use Rattle.world_model.specs.network_model.declared.link.LinkEnd.{LinkEnd}
use Rattle.world_model.specs.network_model.declared.event.Event.{Event}
use Rattle.world_model.specs.network_model.declared.event.Event.TheVariants.{Inject, Carry, Lose, Tick, TickSwitch, Restart, RestartSwitch, Forge, Route}
use Rattle.world_model.specs.Topology.{peer_of}
use Rattle.world_model.specs.World.{at_controller}
use Rattle.world_model.specs.Step.{acts}
use Rattle.law_frame_readings.specs.law_world_views.Shown.{acting}
use Rattle.law_running_worlds.proofs.law_input_events.Sites.{put_at}
use Rattle.law_run_facts.proofs.Forged.{none_forged}
use Rattle.law_run_facts.proofs.law_actor_pace.Paces.{Paces}
use Rattle.law_run_facts.proofs.law_actor_pace.Controllers.{cell_follows, injected_paces, ticks_paces, restarts_paces, change_changes}

node_is : (m n : NodeId) → m.0 ≡ n.0 → m ≡ n
node_is m n e = ap (λ (k : ℕ). record { 0 = k }) e

module _ (d : Addr) (port : PortNo) (own : NodeId) where
  abbrev pub IsRouted : List TableRoute → Type 0
  IsRouted table = best table d ≡ Some (Via port)

  abbrev pub Routed : World → Type 0
  Routed u = IsRouted (table_in own u)

  table_of : Option Site → List TableRoute
  table_of o = option_map_or (λ (site : Site). site.controller.table) o []

  -- *A site is put* in the place of one
  put_routed : (u : World) (node : NodeId) (site after : Site) → site_at u node ≡ Some site → after.controller.node ≡ site.controller.node
      → (node.0 ≡ own.0 → IsRouted site.controller.table → IsRouted after.controller.table) → Routed u → Routed (with_site u after)
  put_routed u node site after found same keeps route = by_eq own.0 node.0 (λ is t. here is) (λ apart t. elsewhere apart)
    where
      put : (site_at (with_site u after) node ≡ Some after) × ((other : NodeId) → other.0 ≢ node.0 → site_at (with_site u after) other ≡ site_at u other)
      put = put_at u node site after found same

      here : own.0 ≡ node.0 → Routed (with_site u after)
      here is =
          let one : own ≡ node = node_is own node is in
          let was : IsRouted site.controller.table = subst (λ (o : Option Site). IsRouted (option_map_or (λ (x : Site). x.controller.table) o [])) found (subst (λ (n : NodeId). IsRouted (table_in n u)) one route) in
          subst (λ (n : NodeId). IsRouted (table_in n (with_site u after))) (sym one)
          (subst (λ (o : Option Site). IsRouted (option_map_or (λ (x : Site). x.controller.table) o [])) (sym put.0) (keeps (sym is) was))

      elsewhere : own.0 ≢ node.0 → Routed (with_site u after)
      elsewhere apart = subst (λ (o : Option Site). IsRouted (option_map_or (λ (x : Site). x.controller.table) o [])) (sym (put.1 own apart)) route

  controller_routed : (u : World) (node : NodeId) (act : Acted → Acted) (o : Option Site) → site_at u node ≡ o → ((site : Site) → site_at u node ≡ Some site → (act (acting u site)).controller.node ≡ site.controller.node)
      → ((site : Site) → site_at u node ≡ Some site → node.0 ≡ own.0 → IsRouted site.controller.table → IsRouted (act (acting u site)).controller.table) → Routed u → Routed (controller_acts u o act)
  controller_routed u node act None found same keeps route = route
  controller_routed u node act (Some site) found same keeps route =
      put_routed u node site (record site { controller = (act (acting u site)).controller }) found (same site found) (keeps site found) route

  switch_routed : (u : World) (node : NodeId) (act : switches.ActedSwitch → switches.ActedSwitch) (o : Option Site) → site_at u node ≡ o → Routed u → Routed (switch_acts u o act)
  switch_routed u node act None found route = route
  switch_routed u node act (Some site) found route =
      put_routed u node site (record site { switch = (act (record { switch = site.switch; notes = u.notes; numbers = u.numbers })).switch }) found refl (λ same r. r) route

  queue_routed : (u : World) (place : Place) (cells : List Cell) (o : Option Site) → site_at u (place_node place) ≡ o → Routed u → Routed (with_queue_of u place cells o)
  queue_routed u place cells None found route = route
  queue_routed u (Down node) cells (Some site) found route = put_routed u node site (with_queue_in site (Down node) cells) found refl (λ same r. r) route
  queue_routed u (Up node) cells (Some site) found route = put_routed u node site (with_queue_in site (Up node) cells) found refl (λ same r. r) route
  queue_routed u (Out node p) cells (Some site) found route = put_routed u node site (with_queue_in site (Out node p) cells) found refl (λ same r. r) route

  module _ (topology : Topology) (w : World) (event : Event) (tame : IsTame (next topology w event).notes.records)
      (on_cell : (node : NodeId) → event ≡ Carry (Up node) → node.0 ≡ own.0 → (site : Site) → site_at w node ≡ Some site → (cell : Cell) (cells : List Cell) → queue_at w (Up node) ≡ cell ∷ cells
      → IsRouted site.controller.table → IsRouted (cell_comes (acting (put_away w) site) cell).controller.table)
      (on_change : (node : NodeId) (change : RouteChange) → event ≡ Route node change → node.0 ≡ own.0 → (site : Site) → site_at w node ≡ Some site
      → IsRouted site.controller.table → IsRouted (change_comes (acting (put_away w) site) change).controller.table) (route : Routed w) where
    abbrev v : World
    v = put_away w

    by_pace : (floor : ℕ) (a b : Acted) → Paces floor a b → IsRouted a.controller.table → IsRouted b.controller.table
    by_pace floor a b pace r = ap (λ (table : List TableRoute). best table d) pace.table ∙ r

    carried : (place : Place) → event ≡ Carry place → (cells : List Cell) → queue_at w place ≡ cells → Routed (carries_head topology v place cells)
    carried place is [] queue = route
    carried (Down node) is (cell ∷ cells) queue = switch_routed (with_queue v (Down node) cells) node (λ a. switch.cell_comes a control_port cell) (site_at (with_queue v (Down node) cells) node) refl
        (queue_routed v (Down node) cells (site_at v node) refl route)
    carried (Out node p) is (cell ∷ cells) queue = by (peer_of topology node p)
      where
        by : (o : Option LinkEnd) → Routed (arrives_at (with_queue v (Out node p) cells) cell o)
        by None = queue_routed v (Out node p) cells (site_at v node) refl route
        by (Some far) = switch_routed (with_queue v (Out node p) cells) far.node (λ a. switch.cell_comes a far.port cell) (site_at (with_queue v (Out node p) cells) far.node) refl
            (queue_routed v (Out node p) cells (site_at v node) refl route)
    carried (Up node) is (cell ∷ cells) queue = by (site_at w node) refl
      where
        empty : [] ≡ cell ∷ cells → ⊥
        empty f = cc f

        by : (o : Option Site) → site_at w node ≡ o → Routed (at_controller (with_queue_of v (Up node) cells o) node (λ a. cell_comes a cell))
        by None e = absurd (empty (subst (λ (o : Option Site). option_map_or (λ site. queue_in site (Up node)) o [] ≡ cell ∷ cells) e queue))
        by (Some site) e =
            let popped : Site = with_queue_in site (Up node) cells in
            let u : World = with_site v popped in
            let there : site_at u node ≡ Some popped = (put_at v node site popped e refl).0 in
            subst (λ (o : Option Site). Routed (controller_acts u o (λ a. cell_comes a cell))) (sym there)
            (controller_routed u node (λ a. cell_comes a cell) (Some popped) there
            (λ x found. (cell_follows (cell.mark.frame + 1) (acting u x) cell (omega arith)).node)
            (λ x found same r. at_popped x found same r) (queue_routed v (Up node) cells (Some site) e route))
          where
            at_popped : (x : Site) → site_at (with_site v (with_queue_in site (Up node) cells)) node ≡ Some x → node.0 ≡ own.0 → IsRouted x.controller.table
                → IsRouted (cell_comes (acting (with_site v (with_queue_in site (Up node) cells)) x) cell).controller.table
            at_popped x found same r =
                let both : Some (with_queue_in site (Up node) cells) ≡ Some x = sym (put_at v node site (with_queue_in site (Up node) cells) e refl).0 ∙ found in
                let one : with_queue_in site (Up node) cells ≡ x = cc in
                subst (λ (y : Site). IsRouted (cell_comes (acting (with_site v (with_queue_in site (Up node) cells)) y) cell).controller.table) one
                (on_cell node is same site e cell cells queue (subst (λ (y : Site). IsRouted y.controller.table) (sym one) r))

    lost : (place : Place) (cells : List Cell) → Routed (loses_head v place cells)
    lost place [] = route
    lost place (cell ∷ cells) = queue_routed v place cells (site_at v (place_node place)) refl route

    injected_so : (node : NodeId) (octets : List ℕ) (o : Option Refusal) → Routed (injects_by (record v { sent = w.sent + 1 }) node octets o)
    injected_so node octets (Some name) = route
    injected_so node octets None = controller_routed (record v { sent = w.sent + 1 }) node (λ a. injected a (w.sent + 1) octets) (site_at w node) refl
        (λ site found. (injected_paces 1 (acting v site) (w.sent + 1) octets (omega arith)).node) (λ site found same r. by_pace 1 (acting v site) (injected (acting v site) (w.sent + 1) octets) (injected_paces 1 (acting v site) (w.sent + 1) octets (omega arith)) r) route

    by_event : (e : Event) → event ≡ e → Routed (acts topology v e)
    by_event (Inject node octets) is = injected_so node octets (inject_refusal octets)
    by_event (Carry place) is = carried place is (queue_at w place) refl
    by_event (Lose place) is = lost place (queue_at w place)
    by_event (Tick node) is = controller_routed v node ticks (site_at v node) refl (λ site found. (ticks_paces 0 (acting v site)).node) (λ site found same r. by_pace 0 (acting v site) (ticks (acting v site)) (ticks_paces 0 (acting v site)) r) route
    by_event (TickSwitch node) is = switch_routed v node switch.tick_comes (site_at v node) refl route
    by_event (Restart node) is = controller_routed v node node_restarts (site_at v node) refl (λ site found. (restarts_paces 0 (acting v site)).node) (λ site found same r. by_pace 0 (acting v site) (node_restarts (acting v site)) (restarts_paces 0 (acting v site)) r) route
    by_event (RestartSwitch node) is = switch_routed v node switch.restarted (site_at v node) refl route
    by_event (Forge place channel payload) is = absurd (none_forged topology w place channel payload (subst (λ (x : Event). IsTame (next topology w x).notes.records) is tame))
    by_event (Route node change) is = controller_routed v node (λ a. change_comes a change) (site_at v node) refl (λ site found. (change_changes 0 (acting v site) change).node) (λ site found same r. on_change node change is same site found r) route

    pub stays_routed : Routed (next topology w event)
    stays_routed = by_event event refl
