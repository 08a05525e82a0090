-- What a switch does with the first cell of a queue between the two controllers, as the line sees it

use Rattle.std.specs.Prelude.{◌≡◌, List, [], ◌∷◌, ◌++◌}
use Rattle.law_controller_facts.specs.world_model.Words.{Cell}
use Rattle.law_shown_cells.specs.law_label_line.Cells.{Role}
use Rattle.law_shown_cells.specs.law_port_views.Link.{LinkLabel, other}
use Rattle.law_shown_cells.specs.Label.{OnLink, OnControl, seen}
use Rattle.law_controller_views.specs.Ends.{Pieces, put_at}

-- the pieces with other queues: of a controller and of its switch's port; of that port and in front of the other
-- controller; in front of a controller
abbrev pub carried : Role → Pieces → (queue output : List Cell) → Pieces
carried role pieces queue output = record pieces {
  controller = put_at role (record (pieces.controller role) { queue = queue }) pieces.controller;
  output = put_at role output pieces.output;
}

abbrev pub crossed : Role → Pieces → (output waiting : List Cell) → Pieces
crossed role pieces output waiting = record pieces {
  output = put_at role output pieces.output;
  waiting = put_at (other role) waiting pieces.waiting;
}

abbrev pub awaited : Role → Pieces → (waiting : List Cell) → Pieces
awaited role pieces waiting = record pieces { waiting = put_at role waiting pieces.waiting }

-- *From a controller*: the cell is put out to the link as this one, or it is gone, by a loss or to another port
pub data Outcome (link : LinkLabel) (role : Role) (pieces : Pieces) (c : Cell) (os : List Cell) : Type 0 where
  put_out : (d : Cell) → os ≡ pieces.output role ++ d ∷ [] → seen OnLink role link pieces.frames d ≡ seen (OnControl (link.port role)) role link pieces.frames c
      → Outcome link role pieces c os
  gone : os ≡ pieces.output role → Outcome link role pieces c os

-- *From the link*: the cell is passed to the controller as this one, or it is gone
pub data Passage (link : LinkLabel) (role : Role) (pieces : Pieces) (c : Cell) (ws : List Cell) : Type 0 where
  passed : (d : Cell) → ws ≡ pieces.waiting (other role) ++ d ∷ []
      → seen (OnControl (link.port (other role))) role link pieces.frames d ≡ seen OnLink role link pieces.frames c → Passage link role pieces c ws
  lost : ws ≡ pieces.waiting (other role) → Passage link role pieces c ws
