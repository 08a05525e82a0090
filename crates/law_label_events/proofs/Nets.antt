-- the network as its pieces at a link are: another network that has the same pieces shows the same line

use Rattle.std.proofs.Common.{◌≡◌, ◌≢◌, List, [], Some, refl, sym, ◌∙◌, ap, subst}
use Rattle.world_model.specs.Words.{NodeId, GivenOut, Cell, Frame, at, put, Controller, World, Site, site_key, site_at, with_site}
use Rattle.law_controller_lifts.proofs.law_port_facts.Keyed.{by_eq, at_key}
use Rattle.law_controller_lifts.specs.law_label_line.Cells.{Role, Downstream, Upstream}
use Rattle.law_controller_lifts.specs.law_label_line.Line.{Line}
use Rattle.law_controller_lifts.specs.law_port_views.Link.{LinkLabel, other}
use Rattle.law_controller_lifts.specs.law_shown_cells.Seen.{IsUnmade}
use Rattle.law_controller_lifts.specs.law_shown_cells.Label.{OnLink, OnControl, ShowsCells}
use Rattle.law_controller_lifts.specs.law_controller_views.Ends.{way_to, End, Pieces, Net, Goes, idle, put_at}
use Rattle.law_controller_lifts.proofs.law_controller_views.Parts.{both}
use Rattle.law_world_views.specs.Shown.{pieces_of, WorldShows, WorldGoes, AreApart}
use Rattle.law_world_views.proofs.Sites.{found_after, found_away, site_same}

-- *The same pieces*
pub record Alike (p q : Pieces) : Type 0 where
  pub controller : (role : Role) → q.controller role ≡ p.controller role
  pub waiting : (role : Role) → q.waiting role ≡ p.waiting role
  pub output : (role : Role) → q.output role ≡ p.output role
  pub frames : q.frames ≡ p.frames
  pub numbers : q.numbers ≡ p.numbers

module _ (link : LinkLabel) (like : Type 0) where
  alike_end : (r : Role) (p q : Pieces) (line : Line) → Alike p q → End link like r p.frames p.numbers.instances (p.controller r) [] line
      → End link like r q.frames q.numbers.instances (q.controller r) [] line
  alike_end r p q line same e =
      subst (λ (frames : List Frame). End link like r frames q.numbers.instances (q.controller r) [] line) (sym same.frames)
      (subst (λ (numbers : GivenOut). End link like r p.frames numbers.instances (q.controller r) [] line) (sym same.numbers)
      (subst (λ (c : Controller). End link like r p.frames p.numbers.instances c [] line) (sym (same.controller r)) e))

  pub alike_net : (p q : Pieces) (line : Line) → Alike p q → Net link like p idle line → Net link like q idle line
  alike_net p q line same n = record {
    end = λ r. alike_end r p q line same (n.end r);
    waiting = λ r. subst (λ (frames : List Frame). ShowsCells (OnControl (link.port r)) (other r) link frames (q.waiting r) (way_to r line).to_controller) (sym same.frames)
        (subst (λ (cells : List Cell). ShowsCells (OnControl (link.port r)) (other r) link p.frames cells (way_to r line).to_controller) (sym (same.waiting r)) (n.waiting r));
    output = λ r. subst (λ (frames : List Frame). ShowsCells OnLink r link frames (q.output r) (way_to (other r) line).output) (sym same.frames)
        (subst (λ (cells : List Cell). ShowsCells OnLink r link p.frames cells (way_to (other r) line).output) (sym (same.output r)) (n.output r));
    unmade = subst (λ (numbers : GivenOut). IsUnmade numbers.controls q.frames) (sym same.numbers)
        (subst (λ (frames : List Frame). IsUnmade p.numbers.controls frames) (sym same.frames) n.unmade);
  }

  pub alike_goes : (p q : Pieces) (line : Line) → Alike p q → Goes link like p idle line → Goes link like q idle line
  alike_goes p q line same g = record { moves = g.moves; after = g.after; is = g.is; net = alike_net p q g.after same g.net }

  -- *One site is another*, at an end of the link: where the pieces with it go on from the line, so does the network
  pub site_goes : (role : Role) (w after : World) (line : Line) (site new : Site) → AreApart link → (s : WorldShows link like w line) → s.end role ≡ site → site_key new ≡ site_key site
      → after.sites ≡ put site_key new w.sites → Goes link like (pieces_of after link (put_at role new s.end)) idle line → WorldGoes link like after line
  site_goes role w after line site new apart s is same sites g = record {
    moves = g.moves;
    after = g.after;
    is = g.is;
    shows = record {
      end = put_at role new s.end;
      found = λ r. ap (λ (xs : List Site). at site_key (link.node r).0 xs) sites
          ∙ found_after link role w s.end new apart s.found (same ∙ (ap site_key (sym is) ∙ at_key site_key (link.node role).0 w.sites (s.end role) (s.found role))) r;
      net = g.net;
    };
  }

  -- and another once more
  pub site_goes_twice : (role : Role) (w after : World) (line : Line) (site mid new : Site) → AreApart link → (s : WorldShows link like w line) → s.end role ≡ site
      → site_key mid ≡ site_key site → site_key new ≡ site_key site → after.sites ≡ put site_key new (put site_key mid w.sites)
      → Goes link like (pieces_of after link (put_at role new (put_at role mid s.end))) idle line → WorldGoes link like after line
  site_goes_twice role w after line site mid new apart s is first same sites g =
      let key : site_key site ≡ (link.node role).0 = ap site_key (sym is) ∙ at_key site_key (link.node role).0 w.sites (s.end role) (s.found role) in
      record {
        moves = g.moves;
        after = g.after;
        is = g.is;
        shows = record {
          end = put_at role new (put_at role mid s.end);
          found = λ r. ap (λ (xs : List Site). at site_key (link.node r).0 xs) sites
              ∙ found_after link role (with_site w mid) (put_at role mid s.end) new apart (λ q. found_after link role w s.end mid apart s.found (first ∙ key) q) (same ∙ key) r;
          net = g.net;
        };
      }

  -- and at no end
  pub away_goes : (w after : World) (line : Line) (new : Site) → ((r : Role) → site_key new ≢ (link.node r).0) → (s : WorldShows link like w line)
      → after.sites ≡ put site_key new w.sites → Goes link like (pieces_of after link s.end) idle line → WorldGoes link like after line
  away_goes w after line new n s sites g = record {
    moves = g.moves;
    after = g.after;
    is = g.is;
    shows = record {
      end = s.end;
      found = λ r. ap (λ (xs : List Site). at site_key (link.node r).0 xs) sites ∙ found_away link w s.end new n s.found r;
      net = g.net;
    };
  }

  pub goes_still : (p : Pieces) (line : Line) → Net link like p idle line → Goes link like p idle line
  goes_still p line n = record { moves = []; after = line; is = refl; net = n }

  -- *Which node it is*
  pub by_node : (P : Type 0) (node : NodeId) (w : World) (site : Site) (line : Line) → site_at w node ≡ Some site → (s : WorldShows link like w line)
      → ((role : Role) → node.0 ≡ (link.node role).0 → s.end role ≡ site → P) → (((r : Role) → site_key site ≢ (link.node r).0) → P) → P
  by_node P node w site line found s ends away =
      by_eq node.0 (link.node Downstream).0 (λ same t. ends Downstream same (site_same link like w Downstream node site (s.end Downstream) same found (s.found Downstream)))
      (λ d t. by_eq node.0 (link.node Upstream).0 (λ same v. ends Upstream same (site_same link like w Upstream node site (s.end Upstream) same found (s.found Upstream)))
      (λ u v. away (both _ (λ e. d (sym (at_key site_key node.0 w.sites site found) ∙ e)) (λ e. u (sym (at_key site_key node.0 w.sites site found) ∙ e)))))
