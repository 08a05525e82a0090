-- the controller of any node of a network ticks, and joins are entered

use Rattle.std.proofs.Common.{◌≡◌, ◌≢◌, ◌<◌, List, [], Option, None, Some, refl, sym, ◌∙◌, ap, subst, ◌⊎◌, inl, inr}
use Rattle.std.specs.Prelude.{◌^◌}
use Rattle.world_model.specs.Words.{NodeId, Setup, label_end, Controller, World, Site, site_key, site_at, controller_acts}
use Rattle.law_label_events.proofs.law_port_facts.Keyed.{by_eq, at_key}
use Rattle.law_label_events.specs.law_label_line.Cells.{Role, Downstream, Upstream}
use Rattle.law_label_events.specs.law_label_line.Line.{Line}
use Rattle.world_model.specs.Controller.{Acted}
use Rattle.world_model.specs.Ticks.{ticks}
use Rattle.law_label_events.proofs.law_controller_facts.Laws.{has_ports}
use Rattle.law_label_events.specs.law_port_views.Link.{LinkLabel, other}
use Rattle.law_label_events.specs.law_shown_cells.Label.{OnLink, OnControl, ShowsCells}
use Rattle.law_label_events.proofs.law_shown_cells.Made.{shows_more}
use Rattle.law_label_events.specs.law_controller_views.Ends.{End, Pieces, Net, EndGoes, asking, idle, placed, put_at}
use Rattle.law_label_events.specs.law_controller_views.Lifted.{IsProper}
use Rattle.law_label_events.proofs.law_controller_views.Parts.{both, kept_waiting, kept_output, end_drawn, end_kept}
use Rattle.law_label_events.specs.law_controller_views.Ready.{IsReady, FitsLink}
use Rattle.law_label_events.proofs.law_controller_lifts.Ticking.{ticks_grow, ticks_node}
use Rattle.world_model.specs.World.{at_controller}
use Rattle.law_label_events.specs.law_world_views.Shown.{pieces_of, WorldShows, WorldGoes, AreApart, acting}
use Rattle.law_label_events.proofs.law_world_views.Sites.{acted, found_after, goes_self, enters, site_same, controller_goes, world_less}
use Rattle.law_label_worlds.specs.Enters.{TickEntersTo, IsTickJoin}
use Rattle.law_label_worlds.proofs.Joined.{Turns}
use Rattle.law_label_worlds.proofs.Ticked.{tick_leads, tick_turns}

module _ (link : LinkLabel) (like more : Type 0) where
  -- the end that hands the label out says nothing of joins
  down_more : (pieces : Pieces) (line : Line) → End link like Downstream pieces.frames pieces.numbers.instances (pieces.controller Downstream) [] line
      → End link more Downstream pieces.frames pieces.numbers.instances (pieces.controller Downstream) [] line
  down_more pieces line e = record {
    linked = e.linked;
    found = e.found;
    port = e.port;
    address = e.address;
    port_address = e.port_address;
    queued = e.queued;
    queue = e.queue;
    shown = e.shown;
    taken = e.taken;
  }

  -- *The whole link* behind a turn of the end that may send under it
  turned_net : (pieces : Pieces) (a b : Acted) (line : Line) → Net link like (placed Upstream pieces a) (asking Upstream []) line
      → (g : EndGoes link more Upstream a b [] line) → Net link more (placed Upstream pieces b) (asking Upstream []) g.after
  turned_net pieces a b line n g = record {
    end = both (λ r. End link more r b.notes.frames b.numbers.instances ((placed Upstream pieces b).controller r) (asking Upstream [] r) g.after)
        (end_kept link more Downstream line g.after g.grows.extends (end_drawn link more Upstream g.after g.end) g.rest (down_more (placed Upstream pieces a) line (n.end Downstream))) g.end;
    waiting = λ r. subst (ShowsCells (OnControl (link.port r)) (other r) link b.notes.frames (pieces.waiting r)) (sym (kept_waiting Upstream r g.after line g.rest))
        (shows_more (OnControl (link.port r)) (other r) link g.grows.extends (n.waiting r));
    output = λ r. subst (ShowsCells OnLink r link b.notes.frames (pieces.output r)) (sym (kept_output Upstream (other r) g.after line g.rest))
        (shows_more OnLink r link g.grows.extends (n.output r));
    unmade = g.grows.unmade n.unmade;
  }

  abbrev with_end : (Role → Site) → Controller → Role → Site
  with_end end c = put_at Upstream (record (end Upstream) { controller = c }) end

  left_net : (w : World) (end : Role → Site) (b : Acted) (line : Line) → Net link more (placed Upstream (pieces_of w link end) b) (asking Upstream []) line
      → Net link more (pieces_of (acted w (end Upstream) b) link (with_end end b.controller)) idle line
  left_net w end b line n = record {
    end = both _ (n.end Downstream) (n.end Upstream);
    waiting = both _ (n.waiting Downstream) (n.waiting Upstream);
    output = both _ (n.output Downstream) (n.output Upstream);
    unmade = n.unmade;
  }

  turned_world : (w : World) (line : Line) (b : Acted) → AreApart link → (s : WorldShows link like w line) → b.controller.node ≡ (s.end Upstream).controller.node
      → Turns link like more Upstream (acting w (s.end Upstream)) b → WorldGoes link more (acted w (s.end Upstream) b) line
  turned_world w line b apart s keeps turns =
      let n : Net link like (placed Upstream (pieces_of w link s.end) (acting w (s.end Upstream))) (asking Upstream []) line = enters link like Upstream w s.end line s.net in
      let g : EndGoes link more Upstream (acting w (s.end Upstream)) b [] line = turns n.unmade line (n.end Upstream) in
      record {
        moves = g.moves;
        after = g.after;
        is = g.is;
        shows = record {
          end = with_end s.end b.controller;
          found = found_after link Upstream w s.end (record (s.end Upstream) { controller = b.controller }) apart s.found
              (ap (λ (n : NodeId). n.0) keeps ∙ at_key site_key (link.node Upstream).0 w.sites (s.end Upstream) (s.found Upstream));
          net = left_net w s.end b g.after (turned_net (pieces_of w link s.end) (acting w (s.end Upstream)) b line n g);
        };
      }

  less_goes : (w : World) (line : Line) → (more → like) → WorldGoes link like w line → WorldGoes link more w line
  less_goes w line f g = record { moves = g.moves; after = g.after; is = g.is; shows = world_less link more like w g.after f g.shows }

-- what is asked of the controller that ticks
pub record Ticks (w : World) (site : Site) : Type 0 where
  pub setups : List Setup
  pub ready : IsReady setups site.controller
  pub small : (ticks (acting w site)).numbers.instances < 2 ^ 32

module _ (link : LinkLabel) (proper : IsProper link) (fit : FitsLink link) (apart : AreApart link) (like more : Type 0) (w : World) (line : Line) (s : WorldShows link like w line) where
  pub tick_goes : (node : NodeId) → ((site : Site) → site_at w node ≡ Some site → Ticks w site) → (more → like ⊎ IsTickJoin link w node) → WorldGoes link more (at_controller w node ticks) line
  tick_goes node can f = by (site_at w node) refl
    where
      none_here : (o : Option Site) → site_at w node ≡ o → o ≡ None → like ⊎ IsTickJoin link w node → like
      none_here o found none (inl l) = l
      none_here o found none (inr e) = absurd (cc (sym e.found ∙ (found ∙ none)))

      elsewhere : (node.0 ≢ (link.node Upstream).0) → like ⊎ IsTickJoin link w node → like
      elsewhere other (inl l) = l
      elsewhere other (inr e) = absurd (other e.here)

      same_join : (site : Site) → site_at w node ≡ Some site → like ⊎ IsTickJoin link w node → like ⊎ TickEntersTo (label_end (link.port Upstream) link.label) (acting w site)
      same_join site found (inl l) = inl l
      same_join site found (inr e) = inr (subst (λ (z : Site). TickEntersTo (label_end (link.port Upstream) link.label) (acting w z)) (same_site e.site site (sym e.found ∙ found)) e.enters)
        where
          same_site : (x y : Site) → ◌≡◌ {A = Option Site} (Some x) (Some y) → x ≡ y
          same_site x y e = cc

      by : (o : Option Site) → site_at w node ≡ o → WorldGoes link more (controller_acts w o ticks) line
      by None found = less_goes link like more w line (λ m. none_here None found refl (f m)) (goes_self link like w line s)
      by (Some site) found = by_eq node.0 (link.node Upstream).0
          (λ same t.
          let is : s.end Upstream ≡ site = site_same link like w Upstream node site (s.end Upstream) same found (s.found Upstream) in
          let c : Ticks w site = can site found in
          subst (λ (z : Site). WorldGoes link more (acted w z (ticks (acting w z))) line) is
          (turned_world link like more w line (ticks (acting w (s.end Upstream))) apart s
          (subst (λ (z : Site). (ticks (acting w z)).controller.node ≡ z.controller.node) (sym is) (ticks_node c.setups (acting w site) (has_ports c.setups (acting w site) c.ready.sound)))
          (subst (λ (z : Site). Turns link like more Upstream (acting w z) (ticks (acting w z))) (sym is)
          (tick_turns c.setups link proper fit like more (acting w site) c.ready c.small (λ m. same_join site found (f m))))))
          (λ differ t. less_goes link like more (acted w site (ticks (acting w site))) line (λ m. elsewhere differ (f m))
          (subst (λ (o : Option Site). WorldGoes link like (controller_acts w o ticks) line) found
          (controller_goes link like w line node ticks apart
          (λ other there. ticks_node (can other there).setups (acting w other) (has_ports (can other there).setups (acting w other) (can other there).ready.sound))
          (λ other there. ticks_grow (can other there).setups (acting w other) (has_ports (can other there).setups (acting w other) (can other there).ready.sound))
          (λ role other there same. tick_leads (can other there).setups link proper fit like role (acting w other) (can other there).ready (can other there).small) s)))
