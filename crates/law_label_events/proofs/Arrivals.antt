-- a cell is carried from a switch to its controller

use Rattle.std.proofs.Common.{◌≡◌, ◌≢◌, ℕ, ◌<◌, ◌+◌, List, [], ◌∷◌, length, Option, None, Some, refl, sym, ap, subst, arith}
use Rattle.std.specs.Option.{option_map_or}
use Rattle.world_model.specs.Words.{NodeId, Up, Cell, at, put, queue_of, control_port, World, Site, site_key, site_at, with_site, controller_acts, queue_at, with_queue_in, with_queue_of, Topology, carries_head}
use Rattle.law_controller_lifts.proofs.law_port_facts.Keyed.{at_key, at_put_same}
use Rattle.law_controller_lifts.specs.law_label_line.Cells.{Role, Downstream, Upstream}
use Rattle.law_controller_lifts.specs.law_label_line.Line.{Line}
use Rattle.world_model.specs.Controller.{Acted}
use Rattle.world_model.specs.Cells.{cell_comes}
use Rattle.law_actor_pace.proofs.Paces.{Follows}
use Rattle.law_actor_pace.proofs.Controllers.{cell_follows}
use Rattle.world_model.specs.World.{at_controller}
use Rattle.law_controller_lifts.specs.law_port_views.Link.{LinkLabel}
use Rattle.law_controller_lifts.specs.law_controller_views.Ends.{put_at, placed}
use Rattle.law_controller_lifts.specs.law_controller_views.Lifted.{IsProper, Growing}
use Rattle.law_controller_lifts.specs.law_controller_views.Queues.{awaited}
use Rattle.law_controller_lifts.proofs.law_controller_views.Parts.{both}
use Rattle.law_controller_lifts.specs.law_arrival_views.Cells.{CanArrive}
use Rattle.law_controller_lifts.proofs.law_arrival_views.Others.{cell_net, idle_goes}
use Rattle.law_world_views.specs.Shown.{pieces_of, WorldShows, WorldGoes, AreApart, acting}
use Rattle.law_world_views.proofs.Sites.{acted, goes_self, goes_then, enters, acts_away}
use Rattle.law_label_events.specs.Queues.{HasQueues}
use Rattle.law_label_events.specs.Acts.{Arrives}
use Rattle.law_label_events.proofs.Nets.{Alike, alike_goes, site_goes_twice, away_goes, goes_still, by_node}
use Rattle.law_label_events.proofs.Losses.{set_here, set_there}

cell_node : (a : Acted) (cell : Cell) → (cell_comes a cell).controller.node ≡ a.controller.node
cell_node a cell = (let f : Follows (cell.mark.frame + 1) a (cell_comes a cell) = cell_follows (cell.mark.frame + 1) a cell (omega arith) in f.node)

module _ (link : LinkLabel) (proper : IsProper link) (like : Type 0) (apart : AreApart link) (w : World) (line : Line) (s : WorldShows link like w line) where
  -- the site without the cell
  abbrev rest_of : Site → List Cell → Site
  rest_of site cells = with_queue_in site (Up site.controller.node) cells

  abbrev came : Site → List Cell → Acted → World
  came site cells b = acted (with_site w (rest_of site cells)) (rest_of site cells) b

  came_alike : (role : Role) (cells : List Cell) (b : Acted) → 0 < length (s.end role).switch.crossbar.queues
      → Alike (placed role (awaited role (pieces_of w link s.end) cells) b)
      (pieces_of (came (s.end role) cells b) link (put_at role (record (rest_of (s.end role) cells) { controller = b.controller }) (put_at role (rest_of (s.end role) cells) s.end)))
  came_alike Downstream cells b low = record {
    controller = both _ refl refl;
    waiting = both _ (set_here (s.end Downstream).switch.crossbar control_port cells low) refl;
    output = both _ (set_there (s.end Downstream).switch.crossbar control_port (link.port Downstream) cells (λ e. absurd (omega (arith, e, proper.above Downstream)))) refl;
    frames = refl;
    numbers = refl;
  }
  came_alike Upstream cells b low = record {
    controller = both _ refl refl;
    waiting = both _ refl (set_here (s.end Upstream).switch.crossbar control_port cells low);
    output = both _ refl (set_there (s.end Upstream).switch.crossbar control_port (link.port Upstream) cells (λ e. absurd (omega (arith, e, proper.above Upstream))));
    frames = refl;
    numbers = refl;
  }

  -- *At an end*
  at_end : (role : Role) (cell : Cell) (cells : List Cell) → queue_of (s.end role).switch.crossbar control_port ≡ cell ∷ cells → HasQueues (s.end role)
      → CanArrive link like role (acting w (s.end role)) cell
      → WorldGoes link like (came (s.end role) cells (cell_comes (acting w (s.end role)) cell)) line
  at_end role cell cells front nine can =
      let site : Site = s.end role in
      let b : Acted = cell_comes (acting w site) cell in
      site_goes_twice link like role w (came site cells b) line site (rest_of site cells) (record (rest_of site cells) { controller = b.controller }) apart s refl refl
      (ap (λ (n : NodeId). n.0) (cell_node (acting w site) cell)) refl
      (alike_goes link like (placed role (awaited role (pieces_of w link s.end) cells) b)
      (pieces_of (came site cells b) link (put_at role (record (rest_of site cells) { controller = b.controller }) (put_at role (rest_of site cells) s.end))) line
      (came_alike role cells b (omega (arith, nine)))
      (idle_goes link like role (placed role (awaited role (pieces_of w link s.end) cells) b) line
      (cell_net link proper like role (pieces_of w link s.end) (acting w site) cell cells line front (enters link like role w s.end line s.net) can)))

  -- *At no end*
  away : (site : Site) (cell : Cell) (cells : List Cell) → ((r : Role) → site_key site ≢ (link.node r).0)
      → Growing (acting w site) (cell_comes (acting w site) cell) → WorldGoes link like (came site cells (cell_comes (acting w site) cell)) line
  away site cell cells n grows = goes_then link like (with_site w (rest_of site cells)) (came site cells (cell_comes (acting w site) cell)) line
      (away_goes link like w (with_site w (rest_of site cells)) line (rest_of site cells) n s refl (goes_still link like (pieces_of (with_site w (rest_of site cells)) link s.end) line s.net))
      (λ z shown. acts_away link like (with_site w (rest_of site cells)) z (rest_of site cells) (cell_comes (acting w site) cell) n (cell_node (acting w site) cell) grows shown)

  comes_site : (node : NodeId) (site : Site) (cell : Cell) (cells : List Cell) → site_at w node ≡ Some site → queue_of site.switch.crossbar control_port ≡ cell ∷ cells → HasQueues site
      → Arrives link like w node site cell → WorldGoes link like (came site cells (cell_comes (acting w site) cell)) line
  comes_site node site cell cells found front nine arrives = by_node link like (WorldGoes link like (came site cells (cell_comes (acting w site) cell)) line) node w site line found s
      (λ role same is. subst (λ (z : Site). WorldGoes link like (came z cells (cell_comes (acting w z) cell)) line) is
      (at_end role cell cells (subst (λ (z : Site). queue_of z.switch.crossbar control_port ≡ cell ∷ cells) (sym is) front) (subst HasQueues (sym is) nine)
      (subst (λ (z : Site). CanArrive link like role (acting w z) cell) (sym is) (arrives.can role same))))
      (λ n. away site cell cells n arrives.grows)

  pub carry_up_goes : (topology : Topology) (node : NodeId) → ((site : Site) → site_at w node ≡ Some site → HasQueues site)
      → ((site : Site) (cell : Cell) (cells : List Cell) → site_at w node ≡ Some site → queue_of site.switch.crossbar control_port ≡ cell ∷ cells → Arrives link like w node site cell)
      → WorldGoes link like (carries_head topology w (Up node) (queue_at w (Up node))) line
  carry_up_goes topology node nine arrives = by (site_at w node) refl
    where
      by_cells : (site : Site) → site_at w node ≡ Some site → (cells : List Cell) → queue_of site.switch.crossbar control_port ≡ cells → WorldGoes link like (carries_head topology w (Up node) cells) line
      by_cells site found [] front = goes_self link like w line s
      by_cells site found (cell ∷ cells) front =
          let mid : Site = rest_of site cells in
          let key : site_key site ≡ node.0 = at_key site_key node.0 w.sites site found in
          let there : site_at (with_site w mid) node ≡ Some mid = subst (λ (j : ℕ). at site_key j (put site_key mid w.sites) ≡ Some mid) key
          (at_put_same site_key mid w.sites site (subst (λ (j : ℕ). at site_key j w.sites ≡ Some site) (sym key) found)) in
          subst (λ (o : Option Site). WorldGoes link like (at_controller (with_queue_of w (Up node) cells o) node (λ a. cell_comes a cell)) line) (sym found)
          (subst (λ (o : Option Site). WorldGoes link like (controller_acts (with_site w mid) o (λ a. cell_comes a cell)) line) (sym there)
          (comes_site node site cell cells found front (nine site found) (arrives site cell cells found front)))

      by : (o : Option Site) → site_at w node ≡ o → WorldGoes link like (carries_head topology w (Up node) (option_map_or (λ site. queue_of site.switch.crossbar control_port) o [])) line
      by None found = goes_self link like w line s
      by (Some site) found = by_cells site found (queue_of site.switch.crossbar control_port) refl
