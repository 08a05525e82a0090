-- a packet that comes to a controller out of a frame is sent on, where nothing is entered by that, or delivered

use Rattle.std.proofs.Common.{◌≡◌, ℕ, ◌<◌, Bool, List, [], ◌∷◌, Some, refl, sym, ◌∙◌, ap, subst, arith, drop, if◌then◌else◌}
use Rattle.std.specs.Prelude.{Contains}
use Rattle.std.specs.Option.{option_and_then}
use Rattle.std.proofs.lemmas.List.Elements.{Contains-append_right}
use Rattle.world_model.specs.Words.{NodeId, PortNo, Up, Down, Delivered, Channel, Mark, Cell, Record, Journal, Here, next_mark, default_payload, labelled_payload, kind_of, onward, hop_of, at, Grant, control_end, default_home, Linked, port_key, with_linked, grant_matching, grant_by, forwards_packet, Topology, World, Site, site_key, site_at, queue_at, next}
use Rattle.world_model.specs.port_model.Port.{Port}
use Rattle.world_model.specs.Controller.{Acted, note}
use Rattle.world_model.specs.Cells.{cell_comes}
use Rattle.world_model.specs.Sending.{sends}
use Rattle.world_model.specs.network_model.declared.event.Event.TheVariants.{Carry}
use Rattle.world_model.proofs.Lists.{at_key}
use Rattle.law_live_ease.proofs.law_causes.Ends.{put_same}
use Rattle.law_live_ease.specs.law_passing.telling_model.Passing.{left}
use Rattle.law_live_ease.specs.law_live_hearing.Law.{acting}
use Rattle.law_live_ease.proofs.law_live_hearing.Sites.{up_now, up_notes, up_site, queue_of_site}
use Rattle.law_live_ease.proofs.law_live_orders.Hops.{numbers_apart}
use Rattle.law_live_ease.specs.law_live_journeys.Law.{IsRouted}
use Rattle.law_live_ease.proofs.law_live_journeys.Sending.{delivers}
use Rattle.law_live_cut_through.specs.Under.{IsGranted, EntersNothing}
use Rattle.law_live_cut_through.proofs.UnderGrowing.{Follows}
use Rattle.law_live_cut_through.proofs.UnderSending.{by_default, by_grant, is_sent, GoesOut, goes_out}

-- a port is put in its place, with the same port but for its chains
module _ (topology : Topology) (w : World) (node : NodeId) (site : Site) (there : site_at w node ≡ Some site) (cell : Cell) (cells : List Cell)
    (queue : queue_at w (Up node) ≡ cell ∷ cells) (new old : Linked) (found : at port_key (port_key new) site.controller.ports ≡ Some old) (same_port : new.port ≡ old.port)
    (mark : Mark) (packet : List ℕ) (b : Acted) (acted : cell_comes (acting w site) cell ≡ b) (follows : Follows (forwards_packet (with_linked (acting w site) new) mark packet) b) where
  abbrev heard : Acted
  heard = with_linked (acting w site) new

  grants_stay : (port : PortNo) → grant_by heard.controller port (onward packet) ≡ grant_by site.controller port (onward packet)
  grants_stay port = put_same new old site.controller.ports found (option_and_then (λ (l : Linked). grant_matching l.port.grants (onward packet))) port.0
      (λ e. ap (λ (p : Port). grant_matching p.grants (onward packet)) same_port)

  notes_are : (next topology w (Carry (Up node))).notes ≡ b.notes
  notes_are = up_notes topology w node site there cell cells queue ∙ ap (λ (x : Acted). x.notes) acted

  queue_is : queue_at (next topology w (Carry (Up node))) (Down node) ≡ b.controller.queue
  queue_is = queue_of_site (next topology w (Carry (Up node))) node (up_now topology w node site there cell cells) (Down node) (up_site topology w node site there cell cells queue)
      ∙ ap (λ (x : Acted). x.controller.queue) acted

  stays : left w (Carry (Up node)) (Down node) ≡ heard.controller.queue
  stays = ap (λ (s : Bool). if s then drop 1 (queue_at w (Down node)) else queue_at w (Down node)) (numbers_apart (Up node) (Down node) (λ e. absurd (omega (arith, e))))
      ∙ queue_of_site w node site (Down node) there

  module _ (some : 0 < mark.packet) (none : EntersNothing topology w (Carry (Up node))) where
    -- *One frame* goes out
    out : (channel : Channel) (payload : List ℕ) → forwards_packet heard mark packet ≡ sends heard channel (next_mark mark) payload
        → GoesOut topology w (Carry (Up node)) node channel (next_mark mark) payload
    out channel payload goes = goes_out topology w (Carry (Up node)) node channel (next_mark mark) payload heard b notes_are queue_is stays
        (is_sent heard channel (next_mark mark) payload some b (subst (λ (x : Acted). Follows x b) goes follows) (ap (λ (n : Journal). n.entries) (sym notes_are) ∙ none))

    pub routed : (port : PortNo) → IsRouted site.controller port packet
        → GoesOut topology w (Carry (Up node)) node (default_home port).channel (next_mark mark) (default_payload (onward packet))
    routed port r = out (default_home port).channel (default_payload (onward packet)) (by_default heard mark packet some port r.route (grants_stay port ∙ r.ungranted))

    pub granted : (port : PortNo) (grant : Grant) → IsGranted site.controller port packet grant
        → GoesOut topology w (Carry (Up node)) node (control_end port grant.label).channel (next_mark mark) (labelled_payload (kind_of grant.flow) (onward packet))
    granted port grant g = out (control_end port grant.label).channel (labelled_payload (kind_of grant.flow) (onward packet)) (by_grant heard mark packet some port g.route grant (grants_stay port ∙ g.granted))

  pub delivered : hop_of site.controller.table packet ≡ Here → Contains (next topology w (Carry (Up node))).notes.records (Delivered node mark.packet packet)
  delivered here = subst (λ (n : Journal). Contains n.records (Delivered node mark.packet packet)) (sym notes_are)
      (follows.later.records (Delivered node mark.packet packet)
      (subst (λ (x : Acted). Contains x.notes.records (Delivered node mark.packet packet)) (sym (delivers heard mark packet here))
      (subst (λ (n : NodeId). Contains (note heard (Delivered n mark.packet packet)).notes.records (Delivered node mark.packet packet)) (sym own_node)
      (Contains-append_right heard.notes.records (Delivered node mark.packet packet ∷ []) (Delivered node mark.packet packet) (alone (Delivered node mark.packet packet))))))
    where
      own_node : site.controller.node ≡ node
      own_node = λ i. record { 0 = at_key site_key node.0 w.sites site there i }

      alone : (item : Record) → Contains (item ∷ []) item
      alone item = (0, omega arith, refl)
