-- a cell is lost at the front of a queue of the network

use Rattle.std.proofs.Common.{◌≡◌, ◌≢◌, ℕ, ◌<◌, ◌≤◌, List, [], ◌∷◌, length, Option, None, Some, refl, sym, ◌∙◌, ap, subst, arith}
use Rattle.std.specs.Option.{option_map_or}
use Rattle.world_model.specs.Words.{NodeId, PortNo, Place, Down, Up, Out, Cell, Loss, Lost, Crossbar, queue_of, control_port, World, Site, site_key, site_at, with_site, place_node, queue_in, queue_at, with_port_queue, with_queue_in, with_queue_of, loses_head}
use Rattle.law_controller_lifts.proofs.law_port_facts.Keyed.{by_eq}
use Rattle.law_controller_lifts.specs.law_label_line.Cells.{Role, Downstream, Upstream}
use Rattle.law_controller_lifts.specs.law_label_line.Line.{Line}
use Rattle.world_model.specs.Step.{note}
use Rattle.world_model.proofs.Lists.{index_set, index_here}
use Rattle.law_controller_lifts.specs.law_port_views.Link.{LinkLabel, other}
use Rattle.law_controller_lifts.specs.law_controller_views.Ends.{Pieces, Goes, idle, put_at}
use Rattle.law_controller_lifts.specs.law_controller_views.Lifted.{IsProper}
use Rattle.law_controller_lifts.specs.law_controller_views.Queues.{carried, crossed, awaited, gone, lost}
use Rattle.law_controller_lifts.proofs.law_controller_views.Carried.{carried_net, crossed_net, lost_net}
use Rattle.law_controller_lifts.proofs.law_controller_views.Parts.{both}
use Rattle.law_world_views.specs.Shown.{pieces_of, WorldShows, WorldGoes, AreApart}
use Rattle.law_world_views.proofs.Sites.{goes_self}
use Rattle.law_label_events.specs.Queues.{HasQueues, IsLinkPlace}
use Rattle.law_label_events.proofs.Nets.{Alike, alike_goes, site_goes, away_goes, goes_still, by_node}

-- *The queues of a switch*, once one of them holds other cells
pub set_here : (x : Crossbar) (port : PortNo) (cells : List Cell) → port.0 < length x.queues → queue_of (with_port_queue x port cells) port ≡ cells
set_here x port cells low = index_here x.queues port.0 cells [] low

pub set_there : (x : Crossbar) (port p : PortNo) (cells : List Cell) → port.0 ≢ p.0 → queue_of (with_port_queue x port cells) p ≡ queue_of x p
set_there x port p cells n = index_set x.queues port.0 p.0 cells [] n

module _ (link : LinkLabel) (proper : IsProper link) (like : Type 0) (apart : AreApart link) (w : World) (line : Line) (s : WorldShows link like w line) where
  not_control : (role : Role) → control_port.0 ≢ (link.port role).0
  not_control role e = absurd (omega (arith, e, proper.above role))

  -- the network with other cells in a queue at a site, and a note of the loss
  abbrev pub lost_at : Place → Site → Cell → List Cell → World
  lost_at place site cell cells = note (with_site w (with_queue_in site place cells)) (Loss cell.mark Lost)

  abbrev pieces : Pieces
  pieces = pieces_of w link s.end

  end_loses : (role : Role) (place : Place) (site : Site) (cell : Cell) (cells : List Cell) → s.end role ≡ site
      → Goes link like (pieces_of (lost_at place site cell cells) link (put_at role (with_queue_in site place cells) s.end)) idle line
      → site_key (with_queue_in site place cells) ≡ site_key site → WorldGoes link like (lost_at place site cell cells) line
  end_loses role place site cell cells is g key = site_goes link like role w (lost_at place site cell cells) line site (with_queue_in site place cells) apart s is key refl g

  -- *From a controller*
  down_alike : (role : Role) (node : NodeId) (cell : Cell) (cells : List Cell)
      → Alike (carried role pieces cells (pieces.output role)) (pieces_of (lost_at (Down node) (s.end role) cell cells) link (put_at role (with_queue_in (s.end role) (Down node) cells) s.end))
  down_alike Downstream node cell cells = record { controller = both _ refl refl; waiting = both _ refl refl; output = both _ refl refl; frames = refl; numbers = refl }
  down_alike Upstream node cell cells = record { controller = both _ refl refl; waiting = both _ refl refl; output = both _ refl refl; frames = refl; numbers = refl }

  down_loses : (role : Role) (node : NodeId) (cell : Cell) (cells : List Cell) → (s.end role).controller.queue ≡ cell ∷ cells
      → Goes link like (pieces_of (lost_at (Down node) (s.end role) cell cells) link (put_at role (with_queue_in (s.end role) (Down node) cells) s.end)) idle line
  down_loses role node cell cells front = alike_goes link like (carried role pieces cells (pieces.output role))
      (pieces_of (lost_at (Down node) (s.end role) cell cells) link (put_at role (with_queue_in (s.end role) (Down node) cells) s.end)) line (down_alike role node cell cells)
      (carried_net link like role pieces line cell cells (pieces.output role) front s.net (gone refl))

  -- *To a controller*
  up_alike : (role : Role) (node : NodeId) (cell : Cell) (cells : List Cell) → 0 < length (s.end role).switch.crossbar.queues
      → Alike (awaited role pieces cells) (pieces_of (lost_at (Up node) (s.end role) cell cells) link (put_at role (with_queue_in (s.end role) (Up node) cells) s.end))
  up_alike Downstream node cell cells low = record {
    controller = both _ refl refl;
    waiting = both _ (set_here (s.end Downstream).switch.crossbar control_port cells low) refl;
    output = both _ (set_there (s.end Downstream).switch.crossbar control_port (link.port Downstream) cells (not_control Downstream)) refl;
    frames = refl;
    numbers = refl;
  }
  up_alike Upstream node cell cells low = record {
    controller = both _ refl refl;
    waiting = both _ refl (set_here (s.end Upstream).switch.crossbar control_port cells low);
    output = both _ refl (set_there (s.end Upstream).switch.crossbar control_port (link.port Upstream) cells (not_control Upstream));
    frames = refl;
    numbers = refl;
  }

  -- *On the link*
  own_alike : (role : Role) (node : NodeId) (cell : Cell) (cells : List Cell) → (link.port role).0 < length (s.end role).switch.crossbar.queues
      → Alike (crossed role pieces cells (pieces.waiting (other role)))
      (pieces_of (lost_at (Out node (link.port role)) (s.end role) cell cells) link (put_at role (with_queue_in (s.end role) (Out node (link.port role)) cells) s.end))
  own_alike Downstream node cell cells low = record {
    controller = both _ refl refl;
    waiting = both _ (set_there (s.end Downstream).switch.crossbar (link.port Downstream) control_port cells (λ e. not_control Downstream (sym e))) refl;
    output = both _ (set_here (s.end Downstream).switch.crossbar (link.port Downstream) cells low) refl;
    frames = refl;
    numbers = refl;
  }
  own_alike Upstream node cell cells low = record {
    controller = both _ refl refl;
    waiting = both _ refl (set_there (s.end Upstream).switch.crossbar (link.port Upstream) control_port cells (λ e. not_control Upstream (sym e)));
    output = both _ refl (set_here (s.end Upstream).switch.crossbar (link.port Upstream) cells low);
    frames = refl;
    numbers = refl;
  }

  -- at a port of another link
  other_alike : (role : Role) (node : NodeId) (port : PortNo) (cell : Cell) (cells : List Cell) → 0 < port.0 → port.0 ≢ (link.port role).0
      → Alike pieces (pieces_of (lost_at (Out node port) (s.end role) cell cells) link (put_at role (with_queue_in (s.end role) (Out node port) cells) s.end))
  other_alike Downstream node port cell cells above n = record {
    controller = both _ refl refl;
    waiting = both _ (set_there (s.end Downstream).switch.crossbar port control_port cells (λ e. absurd (omega (arith, e, above)))) refl;
    output = both _ (set_there (s.end Downstream).switch.crossbar port (link.port Downstream) cells n) refl;
    frames = refl;
    numbers = refl;
  }
  other_alike Upstream node port cell cells above n = record {
    controller = both _ refl refl;
    waiting = both _ refl (set_there (s.end Upstream).switch.crossbar port control_port cells (λ e. absurd (omega (arith, e, above))));
    output = both _ refl (set_there (s.end Upstream).switch.crossbar port (link.port Upstream) cells n);
    frames = refl;
    numbers = refl;
  }

  out_loses : (role : Role) (node : NodeId) (port : PortNo) (cell : Cell) (cells : List Cell) → 0 < port.0 → length (s.end role).switch.crossbar.queues ≡ 9 → (link.port role).0 ≤ 8
      → queue_of (s.end role).switch.crossbar port ≡ cell ∷ cells
      → Goes link like (pieces_of (lost_at (Out node port) (s.end role) cell cells) link (put_at role (with_queue_in (s.end role) (Out node port) cells) s.end)) idle line
  out_loses role node port cell cells above nine low front = by_eq port.0 (link.port role).0
      (λ same t.
      let is : port ≡ link.port role = ap (λ (n : ℕ). record { 0 = n }) same in
      subst (λ (q : PortNo). Goes link like (pieces_of (lost_at (Out node q) (s.end role) cell cells) link (put_at role (with_queue_in (s.end role) (Out node q) cells) s.end)) idle line) (sym is)
      (alike_goes link like (crossed role pieces cells (pieces.waiting (other role)))
      (pieces_of (lost_at (Out node (link.port role)) (s.end role) cell cells) link (put_at role (with_queue_in (s.end role) (Out node (link.port role)) cells) s.end)) line
      (own_alike role node cell cells (omega (arith, nine, low)))
      (crossed_net link like role pieces line cell cells (pieces.waiting (other role)) (subst (λ (q : PortNo). queue_of (s.end role).switch.crossbar q ≡ cell ∷ cells) is front) s.net (lost refl))))
      (λ n t. alike_goes link like pieces (pieces_of (lost_at (Out node port) (s.end role) cell cells) link (put_at role (with_queue_in (s.end role) (Out node port) cells) s.end)) line
      (other_alike role node port cell cells above n) (goes_still link like pieces line s.net))

  -- *At any place* of a link
  key_kept : (site : Site) (place : Place) (cells : List Cell) → site_key (with_queue_in site place cells) ≡ site_key site
  key_kept site (Down node) cells = refl
  key_kept site (Up node) cells = refl
  key_kept site (Out node port) cells = refl

  at_end : (role : Role) (place : Place) (cell : Cell) (cells : List Cell) → HasQueues (s.end role) → IsLinkPlace place → (link.port role).0 ≤ 8 → queue_in (s.end role) place ≡ cell ∷ cells
      → Goes link like (pieces_of (lost_at place (s.end role) cell cells) link (put_at role (with_queue_in (s.end role) place cells) s.end)) idle line
  at_end role (Down node) cell cells nine placed low front = down_loses role node cell cells front
  at_end role (Up node) cell cells nine placed low front = alike_goes link like (awaited role pieces cells)
      (pieces_of (lost_at (Up node) (s.end role) cell cells) link (put_at role (with_queue_in (s.end role) (Up node) cells) s.end)) line (up_alike role node cell cells (omega (arith, nine)))
      (lost_net link like role pieces line cell cells front s.net)
  at_end role (Out node port) cell cells nine placed low front = out_loses role node port cell cells placed nine low front

  pub lost_site : (place : Place) (cell : Cell) (cells : List Cell) (site : Site) → ((role : Role) → (link.port role).0 ≤ 8) → HasQueues site → IsLinkPlace place
      → site_at w (place_node place) ≡ Some site → queue_in site place ≡ cell ∷ cells → WorldGoes link like (lost_at place site cell cells) line
  lost_site place cell cells site low nine placed found front = by_node link like (WorldGoes link like (lost_at place site cell cells) line) (place_node place) w site line found s
      (λ role same is. subst (λ (z : Site). WorldGoes link like (lost_at place z cell cells) line) is
      (end_loses role place (s.end role) cell cells refl
      (at_end role place cell cells (subst HasQueues (sym is) nine) placed (low role) (subst (λ (z : Site). queue_in z place ≡ cell ∷ cells) (sym is) front)) (key_kept (s.end role) place cells)))
      (λ away. away_goes link like w (lost_at place site cell cells) line (with_queue_in site place cells) (λ r e. away r (sym (key_kept site place cells) ∙ e)) s refl
      (goes_still link like (pieces_of (lost_at place site cell cells) link s.end) line s.net))

  pub loses_goes : (place : Place) → ((role : Role) → (link.port role).0 ≤ 8) → ((site : Site) → site_at w (place_node place) ≡ Some site → HasQueues site) → IsLinkPlace place
      → WorldGoes link like (loses_head w place (queue_at w place)) line
  loses_goes place low nine placed = by (site_at w (place_node place)) refl
    where
      by_cells : (site : Site) → site_at w (place_node place) ≡ Some site → (cells : List Cell) → queue_in site place ≡ cells → WorldGoes link like (loses_head w place cells) line
      by_cells site found [] front = goes_self link like w line s
      by_cells site found (cell ∷ cells) front = subst (λ (o : Option Site). WorldGoes link like (note (with_queue_of w place cells o) (Loss cell.mark Lost)) line) (sym found)
          (lost_site place cell cells site low (nine site found) placed found front)

      by : (o : Option Site) → site_at w (place_node place) ≡ o → WorldGoes link like (loses_head w place (option_map_or (λ site. queue_in site place) o [])) line
      by None found = goes_self link like w line s
      by (Some site) found = by_cells site found (queue_in site place) refl
