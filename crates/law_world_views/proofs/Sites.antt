-- the whole network: its sites in a list, of which two are the ends of a link, or act for others

use Rattle.std.proofs.Common.{◌≡◌, ◌≢◌, ℕ, [], ◌++◌, Option, None, Some, refl, sym, ◌∙◌, ap, subst}
use Rattle.law_controller_views.specs.world_model.Words.{NodeId, at, put, Controller, World, Site, site_key, site_at, with_site, controller_acts}
use Rattle.law_controller_views.proofs.law_port_facts.Keyed.{by_eq, at_key, at_put_same, at_put_other}
use Rattle.law_controller_views.specs.law_label_line.Cells.{Role, Downstream, Upstream}
use Rattle.law_controller_views.specs.law_label_line.Line.{Line}
use Rattle.law_controller_views.specs.law_label_line.Moves.{run}
use Rattle.law_controller_views.specs.world_model.Controller.{Acted}
use Rattle.law_controller_views.specs.world_model.World.{at_controller}
use Rattle.law_controller_views.specs.law_port_views.Link.{LinkLabel, other}
use Rattle.law_controller_views.proofs.law_port_views.Reach.{run_join}
use Rattle.law_controller_views.specs.law_shown_cells.Label.{OnLink, OnControl}
use Rattle.law_controller_views.proofs.law_shown_cells.Made.{shows_more}
use Rattle.law_controller_views.specs.Ends.{Pieces, Net, Goes, EndLeads, Grows, idle, put_at, asking, placed}
use Rattle.law_controller_views.proofs.Parts.{both, end_later, net_goes, net_less}
use Rattle.law_controller_views.specs.Lifted.{Growing}
use Rattle.law_world_views.specs.Shown.{pieces_of, WorldShows, WorldGoes, AreApart, acting}

-- the network once a controller acted
abbrev pub acted : World → Site → Acted → World
acted w site a = record (with_site w (record site { controller = a.controller })) { notes = a.notes; numbers = a.numbers }

pub site_is : (x y : Site) → Some x ≡ Some y → x ≡ y
site_is x y e = cc

-- *One site is another*: that of an end, or of no end
pub found_after : (link : LinkLabel) (role : Role) (w : World) (end : Role → Site) (site : Site) → AreApart link
    → ((r : Role) → site_at w (link.node r) ≡ Some (end r)) → site_key site ≡ (link.node role).0
    → (r : Role) → at site_key (link.node r).0 (put site_key site w.sites) ≡ Some (put_at role site end r)
found_after link Downstream w end site differ found e Downstream = subst (λ (j : ℕ). at site_key j (put site_key site w.sites) ≡ Some site) e
    (at_put_same site_key site w.sites (end Downstream) (subst (λ (j : ℕ). at site_key j w.sites ≡ Some (end Downstream)) (sym e) (found Downstream)))
found_after link Downstream w end site differ found e Upstream = at_put_other site_key site (link.node Upstream).0 w.sites (λ h. differ (sym e ∙ h)) ∙ found Upstream
found_after link Upstream w end site differ found e Downstream = at_put_other site_key site (link.node Downstream).0 w.sites (λ h. differ (sym h ∙ e)) ∙ found Downstream
found_after link Upstream w end site differ found e Upstream = subst (λ (j : ℕ). at site_key j (put site_key site w.sites) ≡ Some site) e
    (at_put_same site_key site w.sites (end Upstream) (subst (λ (j : ℕ). at site_key j w.sites ≡ Some (end Upstream)) (sym e) (found Upstream)))

pub found_away : (link : LinkLabel) (w : World) (end : Role → Site) (site : Site) → ((r : Role) → site_key site ≢ (link.node r).0)
    → ((r : Role) → site_at w (link.node r) ≡ Some (end r)) → (r : Role) → at site_key (link.node r).0 (put site_key site w.sites) ≡ Some (end r)
found_away link w end site n found r = at_put_other site_key site (link.node r).0 w.sites (n r) ∙ found r

module _ (link : LinkLabel) (like : Type 0) where
  pub goes_self : (w : World) (line : Line) → WorldShows link like w line → WorldGoes link like w line
  goes_self w line s = record { moves = []; after = line; is = refl; shows = s }

  pub goes_then : (v w : World) (line : Line) → WorldGoes link like v line → ((z : Line) → WorldShows link like v z → WorldGoes link like w z) → WorldGoes link like w line
  goes_then v w line g f =
      let h : WorldGoes link like w g.after = f g.after g.shows in
      record { moves = g.moves ++ h.moves; after = h.after; is = run_join line g.moves h.moves ∙ (ap (λ (z : Line). run z h.moves) g.is ∙ h.is); shows = h.shows }

  -- *A controller at an end* acts
  pub enters : (role : Role) (w : World) (end : Role → Site) (line : Line) → Net link like (pieces_of w link end) idle line
      → Net link like (placed role (pieces_of w link end) (acting w (end role))) (asking role []) line
  enters Downstream w end line n = record { end = both _ (n.end Downstream) (n.end Upstream); waiting = n.waiting; output = n.output; unmade = n.unmade }
  enters Upstream w end line n = record { end = both _ (n.end Downstream) (n.end Upstream); waiting = n.waiting; output = n.output; unmade = n.unmade }

  abbrev with_end : Role → (Role → Site) → Controller → Role → Site
  with_end role end c = put_at role (record (end role) { controller = c }) end

  leaves : (role : Role) (w : World) (end : Role → Site) (b : Acted) (line : Line) → Net link like (placed role (pieces_of w link end) b) (asking role []) line
      → Net link like (pieces_of (acted w (end role) b) link (with_end role end b.controller)) idle line
  leaves Downstream w end b line n = record {
    end = both _ (n.end Downstream) (n.end Upstream);
    waiting = both _ (n.waiting Downstream) (n.waiting Upstream);
    output = both _ (n.output Downstream) (n.output Upstream);
    unmade = n.unmade;
  }
  leaves Upstream w end b line n = record {
    end = both _ (n.end Downstream) (n.end Upstream);
    waiting = both _ (n.waiting Downstream) (n.waiting Upstream);
    output = both _ (n.output Downstream) (n.output Upstream);
    unmade = n.unmade;
  }

  -- where the pieces with it go on from the line, so does the network
  pub net_at_end : (role : Role) (w : World) (line : Line) (b : Acted) → AreApart link → (s : WorldShows link like w line)
      → b.controller.node ≡ (s.end role).controller.node → Goes link like (placed role (pieces_of w link s.end) b) (asking role []) line
      → WorldGoes link like (acted w (s.end role) b) line
  net_at_end role w line b differ s keeps g = record {
    moves = g.moves;
    after = g.after;
    is = g.is;
    shows = record {
      end = with_end role s.end b.controller;
      found = found_after link role w s.end (record (s.end role) { controller = b.controller }) differ s.found
          (ap (λ (n : NodeId). n.0) keeps ∙ at_key site_key (link.node role).0 w.sites (s.end role) (s.found role));
      net = leaves role w s.end b g.after g.net;
    };
  }

  -- *Of no end*: frames are made and numbers given out
  pub away_net : (w : World) (end : Role → Site) (site : Site) (line : Line) (b : Acted) → Growing (acting w site) b
      → Net link like (pieces_of w link end) idle line → Net link like (pieces_of (acted w site b) link end) idle line
  away_net w end site line b grows n =
      let g : Grows (acting w site) b = grows n.unmade in
      record {
        end = λ r. end_later link like r line g.extends g.instances (n.end r);
        waiting = λ r. shows_more (OnControl (link.port r)) (other r) link g.extends (n.waiting r);
        output = λ r. shows_more OnLink r link g.extends (n.output r);
        unmade = g.unmade n.unmade;
      }

  pub acts_away : (w : World) (line : Line) (site : Site) (b : Acted) → ((r : Role) → site_key site ≢ (link.node r).0) → b.controller.node ≡ site.controller.node
      → Growing (acting w site) b → WorldShows link like w line → WorldGoes link like (acted w site b) line
  acts_away w line site b n keeps grows s = goes_self (acted w site b) line (record {
    end = s.end;
    found = found_away link w s.end (record site { controller = b.controller }) (λ r e. n r (ap (λ (z : NodeId). z.0) (sym keeps) ∙ e)) s.found;
    net = away_net w s.end site line b grows s.net;
  })

  pub site_same : (w : World) (r : Role) (node : NodeId) (site end : Site) → node.0 ≡ (link.node r).0 → site_at w node ≡ Some site → site_at w (link.node r) ≡ Some end → end ≡ site
  site_same w r node site end same e f = site_is end site (sym f ∙ (ap (λ (j : ℕ). at site_key j w.sites) (sym same) ∙ e))

  -- *The controller of any node* acts: at an end by what the pieces go on to, elsewhere by what grows
  pub controller_goes_by : (w : World) (line : Line) (node : NodeId) (act : Acted → Acted) → AreApart link
      → ((site : Site) → site_at w node ≡ Some site → (act (acting w site)).controller.node ≡ site.controller.node)
      → ((site : Site) → site_at w node ≡ Some site → Growing (acting w site) (act (acting w site)))
      → ((role : Role) (site : Site) (pieces : Pieces) → site_at w node ≡ Some site → node.0 ≡ (link.node role).0
      → Net link like (placed role pieces (acting w site)) (asking role []) line → Goes link like (placed role pieces (act (acting w site))) (asking role []) line)
      → WorldShows link like w line → WorldGoes link like (at_controller w node act) line
  controller_goes_by w line node act differ keeps grows goes s = by (site_at w node) refl
    where
      by : (o : Option Site) → site_at w node ≡ o → WorldGoes link like (controller_acts w o act) line
      by None found = goes_self w line s
      by (Some site) found = by_eq node.0 (link.node Downstream).0 (λ same t. at_end Downstream same)
          (λ d t. by_eq node.0 (link.node Upstream).0 (λ same v. at_end Upstream same)
          (λ u v. acts_away w line site (act (acting w site))
          (both _ (λ e. d (sym (at_key site_key node.0 w.sites site found) ∙ e)) (λ e. u (sym (at_key site_key node.0 w.sites site found) ∙ e)))
          (keeps site found) (grows site found) s))
        where
          at_end : (r : Role) → node.0 ≡ (link.node r).0 → WorldGoes link like (acted w site (act (acting w site))) line
          at_end r same =
              let is : s.end r ≡ site = site_same w r node site (s.end r) same found (s.found r) in
              subst (λ (z : Site). WorldGoes link like (acted w z (act (acting w z))) line) is
              (net_at_end r w line (act (acting w (s.end r))) differ s
              (subst (λ (z : Site). (act (acting w z)).controller.node ≡ z.controller.node) (sym is) (keeps site found))
              (subst (λ (z : Site). Net link like (placed r (pieces_of w link s.end) (acting w z)) (asking r []) line → Goes link like (placed r (pieces_of w link s.end) (act (acting w z))) (asking r []) line) (sym is)
              (goes r site (pieces_of w link s.end) found same) (enters r w s.end line s.net)))

  -- by what leads there
  pub controller_goes : (w : World) (line : Line) (node : NodeId) (act : Acted → Acted) → AreApart link
      → ((site : Site) → site_at w node ≡ Some site → (act (acting w site)).controller.node ≡ site.controller.node)
      → ((site : Site) → site_at w node ≡ Some site → Growing (acting w site) (act (acting w site)))
      → ((role : Role) (site : Site) → site_at w node ≡ Some site → node.0 ≡ (link.node role).0 → EndLeads link like role (acting w site) [] (act (acting w site)) [])
      → WorldShows link like w line → WorldGoes link like (at_controller w node act) line
  controller_goes w line node act differ keeps grows leads s = controller_goes_by w line node act differ keeps grows
      (λ role site pieces found same n. net_goes link like role pieces (acting w site) (act (acting w site)) [] [] line (leads role site found same) n) s

-- *Less may be joined* than before
pub world_less : (link : LinkLabel) (less like : Type 0) (w : World) (line : Line) → (less → like) → WorldShows link like w line → WorldShows link less w line
world_less link less like w line f s = record { end = s.end; found = s.found; net = net_less link less like (pieces_of w link s.end) idle line f s.net }
