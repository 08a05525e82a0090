-- a node that has more cells that wait, none of them on the GSMP channel, stays mirrored and goes steadily

use Rattle.std.proofs.Common.{◌≡◌, ◌&&◌, Bool, true, false, true≢false, List, [], ◌∷◌, ◌++◌, append-nil, Some, refl, sym, ◌∙◌, subst}
use Rattle.world_model.specs.Words.{NodeId, Down, Cell, Frame, Mark, Request, Standing, default_channel, same_channel, Controller, World, Site, site_at}
use Rattle.world_model.specs.Sending.{with_cells}
use Rattle.world_model.specs.gsmp_wire.declared.message.Message.{Message}
use Rattle.law_live_journeys.specs.law_run_facts.ordered_lists.Ordered.{Every}
use Rattle.law_live_journeys.proofs.law_run_facts.ordered_lists.Every.{every_map, every_join}
use Rattle.law_live_journeys.specs.law_run_facts.law_shown_cells.Seen.{Extends}
use Rattle.law_live_journeys.proofs.law_live_hearing.Sites.{queue_of_site}
use Rattle.law_live_journeys.specs.law_live_orders.Law.{last_marks}
use Rattle.law_live_journeys.proofs.law_live_orders.Marks.{marks_there}
use Rattle.law_live_journeys.specs.law_live_control.Calm.{IsCalmDown, IsOfCalm, IsCalmCell}
use Rattle.law_live_journeys.specs.law_live_control_links.Law.{IsCalmLink}
use Rattle.law_live_journeys.proofs.law_live_control_links.Sides.{still_same}
use Rattle.law_live_journeys.proofs.law_live_control_links.Sites.{controller_site}
use Rattle.law_live_journeys.specs.law_live_ways.Deleting.{DeletesNone}
use Rattle.law_live_journeys.specs.law_live_ways.Links.{ComesNone}
use Rattle.law_live_journeys.specs.law_live_mirrored_worlds.Way.{AreAsked, none, IsMirroredIn}
use Rattle.law_live_journeys.proofs.law_live_mirrored_worlds.Switches.{parts_lead}
use Rattle.law_live_journeys.proofs.law_live_mirrored_worlds.Sites.{asks_mirrored}
use Rattle.law_live_ease.specs.Law.{IsTied, wires, starts, joins, AreTied, IsSteadyNode}
use Rattle.law_live_ease.proofs.EntriesForwarding.{IsAway}
use Rattle.law_live_ease.proofs.EntriesEntering.{with_more, HasMore}

-- *Cells of other channels* are of calm messages, whatever these are, and end no frame on the GSMP channel
away_calm : (Calm : Message → Type 0) (frames : List Frame) (cells : List Cell) → Every IsAway cells → Every (IsCalmCell Calm frames) cells
away_calm Calm frames cells = every_map IsAway (IsCalmCell Calm frames) cells (λ cell away on. absurd (true≢false (sym on ∙ away)))

none_and : (x y : Bool) → y ≡ false → (x && y) ≡ false
none_and true y e = e
none_and false y e = refl

away_none : (cells : List Cell) → Every IsAway cells → last_marks default_channel cells ≡ []
away_none [] h = refl
away_none (cell ∷ cells) h = marks_there default_channel cell cells (none_and cell.header.last (same_channel cell.header.channel default_channel) h.0) ∙ away_none cells h.1

-- *What was made stays*
later_calm : (Calm : Message → Type 0) (old new : List Frame) → Extends old new → (cells : List Cell) → Every (IsCalmCell Calm old) cells → Every (IsCalmCell Calm new) cells
later_calm Calm old new stays cells = every_map (IsCalmCell Calm old) (IsCalmCell Calm new) cells
    (λ cell calm on. (let k : IsOfCalm Calm old cell = calm on in record { message = k.message; calm = k.calm; made = stays.kept cell.mark _ k.made }))

module _ (w v : World) (stays : Extends w.notes.frames v.notes.frames) (here : NodeId) where
  -- *Its control link* stays calm
  pub calm_on : (link : IsCalmLink w here) → HasMore link.site (site_at v here) → IsCalmLink v here
  calm_on link m = record {
    site = with_more link.site m.put;
    found = m.there;
    calm = controller_site w.notes.frames v.notes.frames stays link.site link.calm (with_cells link.site.controller m.put) (still_same link.site.controller.adjacency) m.put refl
        (away_calm (IsCalmDown link.site.controller.adjacency.own link.site.switch.adjacency.own) v.notes.frames m.put m.away);
  }

  -- *It stays mirrored*: nothing is asked
  pub mirrored_on : (is : IsMirroredIn w here) → HasMore is.by.site (site_at v here) → IsMirroredIn v here
  mirrored_on is m = record {
    way = is.way ++ [];
    by = asks_mirrored w v here site (with_more site m.put) stays m.there (parts_lead site.switch site.switch refl refl refl) is.way [] m.put refl
        (subst (λ (marks : List Mark). AreAsked v.notes.frames marks []) (sym (away_none m.put m.away)) none) tt (λ branches way input h. rw (append-nil way) h) is.by.mirrored;
  }
    where
      site : Site
      site = is.by.site

  -- *No Delete All* comes
  pub none_on : (site : Site) → site_at w here ≡ Some site → HasMore site (site_at v here) → ComesNone w here → ComesNone v here
  none_on site found m comes = subst (Every (IsCalmCell DeletesNone v.notes.frames)) (sym (queue_of_site v here (with_more site m.put) (Down here) m.there))
      (every_join (IsCalmCell DeletesNone v.notes.frames) site.controller.queue m.put
      (later_calm DeletesNone w.notes.frames v.notes.frames stays site.controller.queue (subst (Every (IsCalmCell DeletesNone w.notes.frames)) (queue_of_site w here site (Down here) found) comes))
      (away_calm DeletesNone v.notes.frames m.put m.away))

-- *It goes steadily*, since ports, desk, changes of routes and the switch are as they were
tied_on : (c : Controller) (put : List Cell) (request : Request) → IsTied c request → IsTied (with_cells c put) request
tied_on c put _ (wires linked label found held wiring) = wires linked label found held wiring
tied_on c put _ (starts linked grant found held idle) = starts linked grant found held idle
tied_on c put _ (joins input from to away) = joins input from to away

ties_on : (c : Controller) (put : List Cell) → AreTied c → AreTied (with_cells c put)
ties_on c put t = record {
  standing = every_map (λ (s : Standing). IsTied c s.request) (λ (s : Standing). IsTied (with_cells c put) s.request) c.desk.standing (λ s is. tied_on c put s.request is) t.standing;
  wiring = t.wiring;
  idle = t.idle;
}

pub steady_on : (site : Site) (put : List Cell) → IsSteadyNode site → IsSteadyNode (with_more site put)
steady_on site put s = record { known = s.known; none_waits = s.none_waits; ties = ties_on site.controller put s.ties }
