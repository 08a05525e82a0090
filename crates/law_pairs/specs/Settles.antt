-- What may be joined to a label behind an answer of the switch: what the line of the label has to be told of joins, where an
-- answer releases them

use Rattle.std.specs.Prelude.{◌≡◌, true, false, List, Some}
use Rattle.law_causes.specs.world_model.Words.{End, Cell, Frame, leads_home, Standing, Done, answered, after_answer, home_of, label_end, Controller, ForGsmp, taker_of, is_deleting, has_emptied, gsmp_under}
use Rattle.law_causes.specs.world_model.gsmp_wire.declared.message.Message.{Message}
use Rattle.law_world_views.specs.law_label_line.Cells.{Upstream}
use Rattle.law_world_views.specs.law_port_views.Link.{LinkLabel}
use Rattle.law_world_views.specs.Pairs.{IsJoin}

-- an input is joined to the label, and a request that is answered doesn't lead it to the control link
pub record StaysJoined (link : LinkLabel) (c : Controller) (s : Standing) : Type 0 where
  pub input : End
  pub join : IsJoin c input (label_end (link.port Upstream) link.label)
  pub unled : leads_home input (home_of input) s.request ≡ false

-- *A success*: while the switch is met, what may be joined to the label behind the event is so joined; and nothing may be
-- joined where the answer ends the meeting
pub record Settles (link : LinkLabel) (like : Type 0) (c : Controller) (s : Standing) : Type 0 where
  pub joined : c.has_met ≡ true → like → StaysJoined link c s
  pub emptied : c.has_met ≡ false → is_deleting s.request ≡ true → has_emptied (record c { desk = after_answer c.desk (Done s) }) ≡ true → like → ⊥

-- whatever the frame of a cell's mark answers, where the cell is a last one of the GSMP channel
abbrev pub SettlesAt : LinkLabel → (like : Type 0) → List Frame → Controller → Cell → Type 0
SettlesAt link like frames c cell = taker_of c cell.header.channel ≡ Some ForGsmp → cell.header.last ≡ true
    → (message : Message) (s : Standing) → gsmp_under frames cell.mark ≡ Some message
    → answered c.desk message ≡ Done s → Settles link like c s
