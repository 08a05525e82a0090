-- a controller ticks, and a change of routes comes to it

use Rattle.std.proofs.Common.{◌≡◌, [], Some}
use Rattle.world_model.specs.Words.{NodeId, RouteChange, change_comes, World, Site, site_at, tallied, put_away}
use Rattle.law_controller_lifts.specs.law_label_line.Line.{Line}
use Rattle.world_model.specs.Ticks.{ticks}
use Rattle.law_controller_lifts.proofs.law_controller_facts.Laws.{has_ports}
use Rattle.world_model.specs.World.{at_controller}
use Rattle.law_controller_lifts.specs.law_port_views.Link.{LinkLabel}
use Rattle.law_controller_lifts.specs.law_controller_views.Ends.{EndLeads}
use Rattle.law_controller_lifts.specs.law_controller_views.Lifted.{IsProper, Growing}
use Rattle.law_controller_lifts.specs.law_controller_views.Ready.{FitsLink}
use Rattle.law_controller_lifts.proofs.Follow.{change_follows}
use Rattle.law_controller_lifts.proofs.Ways.{leads_followed, growing_followed, SameNode, node_followed}
use Rattle.law_controller_lifts.proofs.Ticking.{ticks_lead, ticks_grow, ticks_node}
use Rattle.law_world_views.specs.Shown.{WorldShows, WorldGoes, AreApart, acting}
use Rattle.law_world_views.proofs.Sites.{controller_goes}
use Rattle.law_label_events.specs.Acts.{CanTick}

module _ (link : LinkLabel) (proper : IsProper link) (like : Type 0) (apart : AreApart link) (w : World) (line : Line) (s : WorldShows link like w line) where
  pub tick_goes : (node : NodeId) → FitsLink link → ((site : Site) → site_at w node ≡ Some site → CanTick w site) → WorldGoes link like (at_controller w node ticks) line
  tick_goes node fit can = controller_goes link like w line node ticks apart
      (λ site found. ticks_node (can site found).setups (acting w site) (has_ports (can site found).setups (acting w site) (can site found).ready.sound))
      (λ site found. ticks_grow (can site found).setups (acting w site) (has_ports (can site found).setups (acting w site) (can site found).ready.sound))
      (λ role site found same. ticks_lead (can site found).setups link proper fit like role (acting w site) (can site found).ready (can site found).fits) s

  pub change_goes : (node : NodeId) (change : RouteChange) → WorldGoes link like (at_controller w node (λ a. change_comes a change)) line
  change_goes node change = controller_goes link like w line node (λ a. change_comes a change) apart
      (λ site found. change_follows SameNode node_followed (acting w site) change)
      (λ site found. change_follows Growing growing_followed (acting w site) change)
      (λ role site found same. change_follows (λ a b. EndLeads link like role a [] b []) (leads_followed link proper like role) (acting w site) change) s

-- *An event* is tallied, and the records of earlier ones are put away
pub away_shows : (link : LinkLabel) (like : Type 0) (w : World) (line : Line) → WorldShows link like w line → WorldShows link like (put_away w) line
away_shows link like w line s = record { end = s.end; found = s.found; net = s.net }

pub tallied_goes : (link : LinkLabel) (like : Type 0) (before after : World) (line : Line) → WorldGoes link like after line → WorldGoes link like (tallied before after) line
tallied_goes link like before after line g = record {
  moves = g.moves;
  after = g.after;
  is = g.is;
  shows = record { end = g.shows.end; found = g.shows.found; net = g.shows.net };
}
