-- cells pass from queue to queue, are reassembled or are lost

use Rattle.std.proofs.Common.{◌≡◌, ℕ, zero, suc, true, false, List, [], ◌∷◌, ◌++◌, append_assoc, append-nil, refl, sym, subst}
use Rattle.std.specs.Prelude.{if◌then◌else◌}
use Rattle.adjacency_table.specs.declared.State.{State}
use Rattle.adjacency_table.specs.declared.State.TheVariants.{Clearing, SynSent, SynRcvd, Estab}
use Rattle.ordered_lists.specs.Ordered.{Every}
use Rattle.ordered_lists.proofs.Every.{every_left, every_right, every_join}
use Rattle.ordered_lists.proofs.Parts.{IsPart, none, kept, left, part_whole, part_join, part_removed, holds_part}
use Rattle.law_label_line.specs.Cells.{Cell, Labelled, Default, Way, cells, preceded, split, switched, linked, chained, Place, InChain, ToController, InOutput, ToSwitch, lost, from_last}
use Rattle.law_label_line.specs.Line.{Label, Spare, Wiring, Offered, Recalled, Wired, is_bound, Line}
use Rattle.law_label_line.specs.Downstream.{takes_cell}
use Rattle.law_label_line.specs.Moves.{reassembles_upstream}
use Rattle.law_label_line.proofs.Tables.{Side, Fits, Before, Good}
use Rattle.law_label_line.proofs.Trip.{hello_of, grant_of, side_of, binding_of, LabelFits, ReassemblyFits, IsKept, framed, chain_down, chain_up}

-- other queues, and the same list of cells
moved_down : (line : Line) (way : Way) → cells way ≡ cells line.to_downstream → IsKept line
    → IsKept (record line { to_downstream = way })
moved_down line way e k = record {
  late = k.late;
  good = subst (λ (z : List Cell). Good (side_of line k.late)
      (z ++ (hello_of line ∷ (grant_of line ++ cells line.to_upstream)))) (sym e) k.good;
  end = k.end;
  grant = k.grant;
}

moved_up : (line : Line) (way : Way) → cells way ≡ cells line.to_upstream → IsKept line
    → IsKept (record line { to_upstream = way })
moved_up line way e k = record {
  late = k.late;
  good = subst (λ (z : List Cell). Good (side_of line k.late)
      (cells line.to_downstream ++ (hello_of line ∷ (grant_of line ++ z)))) (sym e) k.good;
  end = k.end;
  grant = k.grant;
}

-- a part of the list
pub parted_down : (line : Line) (way : Way) → IsPart (cells way) (cells line.to_downstream) → IsKept line
    → IsKept (record line { to_downstream = way })
parted_down line way p k = record {
  late = k.late;
  good = holds_part (Fits (side_of line k.late)) (Before (side_of line k.late))
      (part_join p (part_whole (hello_of line ∷ (grant_of line ++ cells line.to_upstream)))) k.good;
  end = k.end;
  grant = k.grant;
}

pub parted_up : (line : Line) (way : Way) → IsPart (cells way) (cells line.to_upstream) → IsKept line
    → IsKept (record line { to_upstream = way })
parted_up line way p k = record {
  late = k.late;
  good = holds_part (Fits (side_of line k.late)) (Before (side_of line k.late))
      (part_join (part_whole (cells line.to_downstream)) (kept (part_join (part_whole (grant_of line)) p))) k.good;
  end = k.end;
  grant = k.grant;
}

-- the front of a chain goes
pub dropped_down : (line : Line) (cell : Cell) (rest : List Cell) → IsKept (chain_down line (cell ∷ rest))
    → IsKept (chain_down line rest)
dropped_down line cell rest k = parted_down (chain_down line (cell ∷ rest))
    (record (line.to_downstream) { chain = rest })
    (left (part_whole (cells (record (line.to_downstream) { chain = rest })))) k

pub dropped_up : (line : Line) (cell : Cell) (rest : List Cell) → IsKept (chain_up line (cell ∷ rest))
    → IsKept (chain_up line rest)
dropped_up line cell rest k = parted_up (chain_up line (cell ∷ rest)) (record (line.to_upstream) { chain = rest })
    (left (part_whole (cells (record (line.to_upstream) { chain = rest })))) k

cells_switched : (way : Way) (xs : List Cell)
    → cells (switched (record way { to_switch = xs }) xs) ≡ cells (record way { to_switch = xs })
cells_switched way [] = refl
cells_switched way (x ∷ xs) = simp append_assoc

cells_linked : (way : Way) (xs : List Cell)
    → cells (linked (record way { output = xs }) xs) ≡ cells (record way { output = xs })
cells_linked way [] = refl
cells_linked way (x ∷ xs) = simp append_assoc

cells_chained : (way : Way) (x : Cell) (xs : List Cell)
    → cells (chained way x xs) ≡ cells (record way { to_controller = x ∷ xs })
cells_chained way x xs = simp append_assoc

pub switched_down : (line : Line) → IsKept line
    → IsKept (record line { to_downstream = switched line.to_downstream line.to_downstream.to_switch })
switched_down line k = moved_down line (switched line.to_downstream line.to_downstream.to_switch)
    (cells_switched line.to_downstream line.to_downstream.to_switch) k

pub switched_up : (line : Line) → IsKept line
    → IsKept (record line { to_upstream = switched line.to_upstream line.to_upstream.to_switch })
switched_up line k = moved_up line (switched line.to_upstream line.to_upstream.to_switch)
    (cells_switched line.to_upstream line.to_upstream.to_switch) k

pub linked_down : (line : Line) → IsKept line
    → IsKept (record line { to_downstream = linked line.to_downstream line.to_downstream.output })
linked_down line k = moved_down line (linked line.to_downstream line.to_downstream.output)
    (cells_linked line.to_downstream line.to_downstream.output) k

pub linked_up : (line : Line) → IsKept line
    → IsKept (record line { to_upstream = linked line.to_upstream line.to_upstream.output })
linked_up line k = moved_up line (linked line.to_upstream line.to_upstream.output)
    (cells_linked line.to_upstream line.to_upstream.output) k

-- the line with another queue to the downstream controller, or to the upstream one
abbrev coming_down : Line → List Cell → Line
coming_down line xs = record line { to_downstream = record (line.to_downstream) { to_controller = xs } }

abbrev coming_up : Line → List Cell → Line
coming_up line xs = record line { to_upstream = record (line.to_upstream) { to_controller = xs } }

pub reassembled_up : (line : Line) (xs : List Cell) → IsKept (coming_up line xs)
    → IsKept (reassembles_upstream (coming_up line xs) xs)
reassembled_up line [] k = k
reassembled_up line (x ∷ xs) k = moved_up (coming_up line (x ∷ xs)) (chained line.to_upstream x xs)
    (cells_chained line.to_upstream x xs) k

-- a cell of the label is reassembled where the label is bound
taken_fits : (state : State) (label : Label) (flow : ℕ) (taken : List ℕ) (f : ℕ) → LabelFits state label
    → f ≡ flow → ReassemblyFits (binding_of state label) flow taken
    → ReassemblyFits (binding_of state label) flow (if is_bound label then taken ++ (f ∷ []) else taken)
taken_fits Clearing label flow taken f l e h = rw l h
taken_fits SynSent label flow taken f l e h = rw l h
taken_fits SynRcvd label flow taken f l e h = rw l h
taken_fits Estab Spare flow taken f l e h = h
taken_fits Estab (Wiring g) flow taken f l e h = h
taken_fits Estab Offered flow taken f l e h = every_join (λ sent. sent ≡ flow) taken (f ∷ []) h (e, tt)
taken_fits Estab (Recalled last acknowledged) flow taken f l e h = every_join (λ sent. sent ≡ flow) taken (f ∷ []) h
    (e, tt)
taken_fits Estab Wired flow taken f l e h = h

pub reassembled_down : (line : Line) (xs : List Cell) → IsKept (coming_down line xs)
    → IsKept (takes_cell (coming_down line xs) xs)
reassembled_down line [] k = k
reassembled_down line (Default last m ∷ xs) k = moved_down (coming_down line (Default last m ∷ xs))
    (chained line.to_downstream (Default last m) xs) (cells_chained line.to_downstream (Default last m) xs) k
reassembled_down line (Labelled f ∷ xs) k =
    let way : Way = line.to_downstream in
    let rest : List Cell = way.output ++ way.to_switch in
    let a : Side = side_of line k.late in
    let fits : Every (Fits a) (way.chain ++ ((Labelled f ∷ xs) ++ rest)) = every_left (Fits a)
    (way.chain ++ ((Labelled f ∷ xs) ++ rest)) (hello_of line ∷ (grant_of line ++ cells line.to_upstream))
    k.good.each in
    let this : Every (Fits a) ((Labelled f ∷ xs) ++ rest) = every_right (Fits a) way.chain
    ((Labelled f ∷ xs) ++ rest) fits in
    let less : IsKept (coming_down line xs) = parted_down (coming_down line (Labelled f ∷ xs))
    (record way { to_controller = xs }) (part_join (part_whole way.chain) (left (part_whole (xs ++ rest)))) k in
    record {
      late = less.late;
      good = less.good;
      end = record {
        drawn = k.end.drawn;
        positive = k.end.positive;
        told = k.end.told;
        names = k.end.names;
        label_fits = k.end.label_fits;
        reassembled = taken_fits line.downstream.state line.label line.flow line.reassembly f k.end.label_fits
            this.0.0 k.end.reassembled;
      };
      grant = k.grant;
    }

pub part_lost : (place : Place) (at : ℕ) (way : Way) → IsPart (cells (lost place at way)) (cells way)
part_lost InChain at way = part_join (part_removed way.chain at)
    (part_whole (way.to_controller ++ (way.output ++ way.to_switch)))
part_lost ToController at way = part_join (part_whole way.chain)
    (part_join (part_removed way.to_controller at) (part_whole (way.output ++ way.to_switch)))
part_lost InOutput at way = part_join (part_whole way.chain)
    (part_join (part_whole way.to_controller) (part_join (part_removed way.output at) (part_whole way.to_switch)))
part_lost ToSwitch at way = part_join (part_whole way.chain)
    (part_join (part_whole way.to_controller) (part_join (part_whole way.output) (part_removed way.to_switch at)))

part_from_last : (xs : List Cell) → IsPart (from_last xs) xs
part_from_last [] = none
part_from_last (Labelled f ∷ xs) = left (part_from_last xs)
part_from_last (Default false m ∷ xs) = left (part_from_last xs)
part_from_last (Default true m ∷ xs) = part_whole (Default true m ∷ xs)

-- the cells before the first last cell are dropped
pub part_chain : (way : Way) → IsPart (cells (record way { chain = from_last way.chain })) (cells way)
part_chain way = part_join (part_from_last way.chain)
    (part_whole (way.to_controller ++ (way.output ++ way.to_switch)))

-- one more cell of a frame
preceded_good : (a : Side) (place : ℕ) (front xs rest : List Cell) → Good a (front ++ (xs ++ rest))
    → Good a (front ++ (preceded place xs ++ rest))
preceded_good a place front [] rest h = h
preceded_good a zero front (Default true m ∷ xs) rest h = framed a m front (xs ++ rest) h
preceded_good a zero front (Default false m ∷ xs) rest h = h
preceded_good a zero front (Labelled f ∷ xs) rest h = h
preceded_good a (suc place) front (x ∷ xs) rest h =
    subst (λ (z : List Cell). Good a z) (append_assoc front (x ∷ []) (preceded place xs ++ rest))
    (preceded_good a place (front ++ (x ∷ [])) xs rest
    (subst (λ (z : List Cell). Good a z) (sym (append_assoc front (x ∷ []) (xs ++ rest))) h))

fronts : (chain controller output switch rest : List Cell)
    → (chain ++ (controller ++ (output ++ switch))) ++ rest ≡ (chain ++ (controller ++ output)) ++ (switch ++ rest)
fronts chain controller output switch rest = simp append_assoc

pub split_down : (line : Line) (place : ℕ) → IsKept line
    → IsKept (record line { to_downstream = split place line.to_downstream })
split_down line place k =
    let way : Way = line.to_downstream in
    let a : Side = side_of line k.late in
    let front : List Cell = way.chain ++ (way.to_controller ++ way.output) in
    let rest : List Cell = hello_of line ∷ (grant_of line ++ cells line.to_upstream) in
    record {
      late = k.late;
      good = subst (λ (z : List Cell). Good a z)
          (sym (fronts way.chain way.to_controller way.output (preceded place way.to_switch) rest))
          (preceded_good a place front way.to_switch rest
          (subst (λ (z : List Cell). Good a z) (fronts way.chain way.to_controller way.output way.to_switch rest) k.good));
      end = k.end;
      grant = k.grant;
    }

backs : (before : List Cell) (hello : Cell) (grant chain controller output switch : List Cell)
    → before ++ (hello ∷ (grant ++ (chain ++ (controller ++ (output ++ switch)))))
    ≡ (before ++ (hello ∷ (grant ++ (chain ++ (controller ++ output))))) ++ (switch ++ [])
backs before hello grant chain controller output switch = simp (append_assoc, append-nil)

pub split_up : (line : Line) (place : ℕ) → IsKept line
    → IsKept (record line { to_upstream = split place line.to_upstream })
split_up line place k =
    let way : Way = line.to_upstream in
    let a : Side = side_of line k.late in
    let before : List Cell = cells line.to_downstream in
    let front : List Cell = before ++ (hello_of line ∷ (grant_of line ++ (way.chain ++ (way.to_controller ++ way.output)))) in
    record {
      late = k.late;
      good = subst (λ (z : List Cell). Good a z)
          (sym (backs before (hello_of line) (grant_of line) way.chain way.to_controller way.output (preceded place way.to_switch)))
          (preceded_good a place front way.to_switch []
          (subst (λ (z : List Cell). Good a z)
          (backs before (hello_of line) (grant_of line) way.chain way.to_controller way.output way.to_switch) k.good));
      end = k.end;
      grant = k.grant;
    }
