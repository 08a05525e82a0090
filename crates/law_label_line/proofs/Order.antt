-- what the law says of the order of cells, of a line that is kept

use Rattle.std.proofs.Common.{◌≡◌, ℕ, List, ◌∷◌, ◌++◌, arith}
use Rattle.adjacency_table.specs.declared.State.{State}
use Rattle.adjacency_table.specs.declared.State.TheVariants.{Clearing, SynSent, SynRcvd, Estab}
use Rattle.ordered_lists.specs.Ordered.{Every, InOrder}
use Rattle.ordered_lists.proofs.Every.{every_left, every_right, every_map}
use Rattle.ordered_lists.proofs.InOrder.{order_left, order_right, order_across, order_map}
use Rattle.law_label_line.specs.Cells.{Cell, cells}
use Rattle.law_label_line.specs.Line.{Label, Line}
use Rattle.law_label_line.specs.Law.{Rises, IsFrom, IsFromSaid, NumbersAreInOrder, Leads, OldCellsLead}
use Rattle.law_label_line.proofs.Tables.{up_ack, Closed, IsOpened, Side, Fits, Before}
use Rattle.law_label_line.proofs.Trip.{standing, hello_of, grant_of, binding_of, side_of, IsKept}
use Rattle.law_label_line.proofs.Read.{behind}

-- of two cells, or of one
rises_of : (a : Side) (z w : Cell) → Before a z w → Rises z w
rises_of a z w h = grind arith

from_known : (a : Side) → IsOpened a.binding → (z : Cell) → Fits a z → IsFrom a.own a.peer a.known z
from_known a is z h = grind arith

from_said : (a : Side) (z w : Cell) → Before a z w → IsFromSaid z w
from_said a z w h = grind arith

from_expected : (a : Side) (u x e : ℕ) (z : Cell) → Before a (up_ack u x e) z → IsFrom x u e z
from_expected a u x e z h = grind arith

leads_of : (a : Side) → a.binding ≡ Closed → (z w : Cell) → Before a z w → Leads a.own z w
leads_of a is z w h = grind arith

-- the pool is open, or it is closed
opened : (state : State) (label : Label) → state ≡ Estab → IsOpened (binding_of state label)
opened state label estab = grind arith

closed : (state : State) (label : Label) → (state ≡ Estab → ⊥) → binding_of state label ≡ Closed
closed state label shut = grind arith

-- each way of a line
module _ (line : Line) (k : IsKept line) where
  abbrev a : Side
  a = side_of line k.late

  abbrev rest : List Cell
  rest = hello_of line ∷ (grant_of line ++ cells line.to_upstream)

  rest_ordered : InOrder (Before a) rest
  rest_ordered = order_right (Before a) (cells line.to_downstream) rest k.good.order

  each_up : Every (Fits a) (cells line.to_upstream)
  each_up = every_right (Fits a) (grant_of line) (cells line.to_upstream) (behind (Fits a) line k.good.each).1

  each_down : Every (Fits a) (cells line.to_downstream)
  each_down = every_left (Fits a) (cells line.to_downstream) rest k.good.each

  order_up : InOrder (Before a) (cells line.to_upstream)
  order_up = order_right (Before a) (grant_of line) (cells line.to_upstream) rest_ordered.1

  across : Every (λ ack. Every (Before a ack) (cells line.to_upstream)) (cells line.to_downstream)
  across = every_map (λ ack. Every (Before a ack) rest) (λ ack. Every (Before a ack) (cells line.to_upstream)) (cells line.to_downstream)
      (λ ack h. every_right (Before a ack) (grant_of line) (cells line.to_upstream) h.1)
      (order_across (Before a) (cells line.to_downstream) rest k.good.order)

  pub numbers_in_order : NumbersAreInOrder line
  numbers_in_order = record {
    rise = order_map (Before a) Rises (Fits a) (cells line.to_upstream) (λ z w p q h. rises_of a z w h) each_up order_up;
    expected = λ estab. every_map (Before a (hello_of line)) (IsFrom line.upstream.stored line.upstream.own line.expected) (cells line.to_upstream)
        (λ z h. said_in line.upstream.state estab z h)
        (every_right (Before a (hello_of line)) (grant_of line) (cells line.to_upstream) rest_ordered.0);
    known = λ estab. every_map (Fits a) (IsFrom line.downstream.own line.downstream.stored line.known) (cells line.to_upstream)
        (from_known a (opened line.downstream.state line.label estab)) each_up;
    said = every_map (λ ack. Every (Before a ack) (cells line.to_upstream)) (λ ack. Every (IsFromSaid ack) (cells line.to_upstream)) (cells line.to_downstream)
        (λ ack h. every_map (Before a ack) (IsFromSaid ack) (cells line.to_upstream) (λ z b. from_said a ack z b) h) across;
  }
    where
      said_in : (state : State) → state ≡ Estab → (z : Cell) → Before a (standing state line.upstream.own line.upstream.stored line.expected) z
          → IsFrom line.upstream.stored line.upstream.own line.expected z
      said_in Clearing estab z h = absurd cc
      said_in SynSent estab z h = absurd cc
      said_in SynRcvd estab z h = absurd cc
      said_in Estab estab z h = from_expected a line.upstream.own line.upstream.stored line.expected z h

  pub old_cells_lead : OldCellsLead line
  old_cells_lead shut = order_map (Before a) (Leads line.downstream.own) (Fits a) (cells line.to_downstream)
      (λ z w p q h. leads_of a (closed line.downstream.state line.label shut) z w h) each_down
      (order_left (Before a) (cells line.to_downstream) rest k.good.order)
