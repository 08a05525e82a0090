-- What a network shows of the line of a label of a link

use Rattle.std.specs.Prelude.{◌≡◌, ◌≢◌, List, Some}
use Rattle.law_controller_views.specs.world_model.Words.{queue_of, control_port, World, Site, site_at, Way}
use Rattle.law_controller_views.specs.law_label_line.Cells.{Role, Downstream, Upstream}
use Rattle.law_controller_views.specs.law_label_line.Line.{Line}
use Rattle.law_controller_views.specs.law_label_line.Moves.{Move, run}
use Rattle.law_controller_views.specs.world_model.Controller.{Acted}
use Rattle.law_controller_views.specs.world_model.network_model.declared.link.LinkEnd.{LinkEnd}
use Rattle.law_controller_views.specs.law_port_views.Link.{LinkLabel}
use Rattle.law_controller_views.specs.Ends.{Pieces, Net, idle}

abbrev pub end_of : Role → LinkLabel → LinkEnd
end_of role link = record { node = link.node role; port = link.port role }

abbrev pub way_of : LinkLabel → Way
way_of link = record { down = end_of Downstream link; up = end_of Upstream link }

-- the pieces of a network that bear on the link, at the sites of its ends
abbrev pub pieces_of : World → LinkLabel → (Role → Site) → Pieces
pieces_of w link end = record {
  controller = λ role. (end role).controller;
  waiting = λ role. queue_of (end role).switch.crossbar control_port;
  output = λ role. queue_of (end role).switch.crossbar (link.port role);
  frames = w.notes.frames;
  numbers = w.numbers;
}

pub record WorldShows (link : LinkLabel) (like : Type 0) (w : World) (line : Line) : Type 0 where
  pub end : Role → Site
  pub found : (role : Role) → site_at w (link.node role) ≡ Some (end role)
  pub net : Net link like (pieces_of w link end) idle line

-- moves of the line lead to one that the network shows
pub record WorldGoes (link : LinkLabel) (like : Type 0) (w : World) (line : Line) : Type 0 where
  pub moves : List Move
  pub after : Line
  pub is : run line moves ≡ after
  pub shows : WorldShows link like w after

-- the two ends are at two nodes
abbrev pub AreApart : LinkLabel → Type 0
AreApart link = (link.node Downstream).0 ≢ (link.node Upstream).0

-- *A controller at a site*
abbrev pub acting : World → Site → Acted
acting w site = record { controller = site.controller; notes = w.notes; numbers = w.numbers }
