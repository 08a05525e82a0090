-- what the controller does at a greeting keeps the invariant, and so does all that it takes

use Rattle.std.proofs.Common.{◌≡◌, ℕ, ◌==◌, Bool, true, false, List, [], ◌∷◌, arith, if◌then◌else◌}
use Rattle.std.proofs.lemmas.Bool.{eqb-true}
use Rattle.net_types.specs.declared.adjacency.HelloKind.{HelloKind}
use Rattle.adjacency_table.specs.declared.State.{State}
use Rattle.adjacency_table.specs.declared.State.TheVariants.{Estab}
use Rattle.adjacency_table.specs.Side.{is_entry}
use Rattle.adjacency_table.specs.Table.{Row, Reply, row}
use Rattle.adjacency_table.specs.Instances.{row_for, enters, is_reset}
use Rattle.law_branch_line.specs.Words.{Elsewhere, all_ports, ControllerGreets, ToController, SwitchGreets, Answer}
use Rattle.law_branch_line.specs.Line.{spoken, Asked, Apart, Unasked, Listing, Line}
use Rattle.law_branch_line.specs.Asking.{say}
use Rattle.law_branch_line.specs.Controller.{meet, meet_on_entering, reset_node, follow, hear_switch, controller_takes}
use Rattle.law_branch_line.proofs.Trip.{Up, Good, trip}
use Rattle.law_branch_line.proofs.Kept.{InStep, IsKept, with_trip, with_adjacency}
use Rattle.law_branch_line.proofs.Exchanges.{MayOpen, enters_by}
use Rattle.law_branch_line.proofs.Stretches.{at_head}
use Rattle.law_branch_line.proofs.ControllerSteps.{spoken_kept, reset_node_kept, ask_kept}
use Rattle.law_branch_line.proofs.AnswerSteps.{IsKeptBefore, ignored, hear_answer_kept}

-- what entering Estab, or not, asks of a row of the table
abbrev pub EntryFits : (entering : Bool) → HelloKind → (meant : Bool) → (next : State) → Asked → Type 0
EntryFits true kind meant next a = MayOpen kind × (meant ≡ true) × (next ≡ Estab) × (a ≡ Apart)
EntryFits false kind meant next a = InStep next a

abbrev pub IsRowFor : State → HelloKind → (meant : Bool) → Asked → Row → Type 0
IsRowFor st kind meant a found = InStep st a → EntryFits (is_entry st found.next) kind meant found.next a

row_fits : (st : State) (kind : HelloKind) (meant known : Bool) (a : Asked)
    → IsRowFor st kind meant a (row st kind meant known)
row_fits st kind meant known a h = grind arith

-- the line once the controller's adjacency has gone on, and as it begins to meet the switch
abbrev pub moved : Line → (next : State) → (stored : ℕ) → Line
moved w next stored = record w {
  controller = record w.controller {
    adjacency = record w.controller.adjacency { state = next; stored = stored };
  };
}

abbrev pub beginning : Line → (stored : ℕ) → Line
beginning w stored = record w {
  controller = record {
    adjacency = record w.controller.adjacency { state = Estab; stored = stored };
    next = 1;
    asked = Unasked;
    others = [];
    meeting = Listing;
  };
}

-- what it says by the table
abbrev pub telling : Line → Reply → (sender receiver : ℕ) → Line
telling w answer s r = say w (spoken ControllerGreets answer w.controller.adjacency s r)

begins : (w : Line) (stored : ℕ) → IsKept w → Good w.controller.adjacency.own 1 Unasked (trip w)
    → IsKept (beginning w stored)
begins w stored kept good = record {
  good = good;
  sound = record {
    others = tt;
    own = kept.sound.own;
    drawn = kept.sound.drawn;
    in_step = tt;
    numbered = tt;
    meeting = tt;
  };
}

meets : (w : Line) (stored : ℕ) (answer : Reply) (s r : ℕ) → IsKept (beginning w stored)
    → IsKept (meet (telling (moved w Estab stored) answer s r))
meets w stored answer s r kept =
    ask_kept (telling (beginning w stored) answer s r) (Elsewhere all_ports) tt tt
    (spoken_kept (beginning w stored) answer s r kept)

-- Estab is entered by a greeting that names the own instance
entered : (w : Line) (next : State) (stored : ℕ) (answer : Reply) (kind : HelloKind) (s r : ℕ)
    → EntryFits true kind (r == w.controller.adjacency.own) next w.controller.asked
    → IsKeptBefore (SwitchGreets kind s r) w → IsKept (meet (telling (moved w next stored) answer s r))
entered w next stored answer kind s r fits kept =
    let meant : r ≡ w.controller.adjacency.own = eqb-true r w.controller.adjacency.own fits.1 in
    let apart : Good w.controller.adjacency.own w.controller.next Apart (Up (SwitchGreets kind s r) ∷ trip w) =
    rw fits.3 at kept.good in
    let good : Good w.controller.adjacency.own 1 Unasked (trip w) =
    at_head w.controller.adjacency.own w.controller.next Apart 1 Unasked (SwitchGreets kind s r)
    (trip w) (enters_by w.controller.adjacency.own w.controller.next kind s r fits.0 meant) apart in
    rw fits.2 (meets w stored answer s r (begins w stored (ignored w (SwitchGreets kind s r) kept) good))

followed : (w : Line) (next : State) (stored : ℕ) (entering : Bool) (answer : Reply) (kind : HelloKind)
    (s r : ℕ)
    → EntryFits entering kind (r == w.controller.adjacency.own) next w.controller.asked
    → IsKeptBefore (SwitchGreets kind s r) w
    → IsKept (meet_on_entering entering (telling (moved w next stored) answer s r))
followed w next stored true answer kind s r fits kept = entered w next stored answer kind s r fits kept
followed w next stored false answer kind s r fits kept =
    let before : IsKept w = ignored w (SwitchGreets kind s r) kept in
    spoken_kept (moved w next stored) answer s r (record
    { good = before.good; sound = with_adjacency w.controller w.fresh next stored fits before.sound })

-- the node is reset by a row, or follows it
reset_or_followed : (w : Line) (found : Row) (kind : HelloKind) (s r : ℕ)
    → EntryFits (enters w.controller.adjacency found) kind (r == w.controller.adjacency.own) found.next
    w.controller.asked
    → IsKeptBefore (SwitchGreets kind s r) w
    → IsKept (if is_reset found.reply then reset_node w else follow w found s r)
reset_or_followed w found kind s r fits kept = elim (is_reset found.reply)
    as (λ resets. IsKept (if resets then reset_node w else follow w found s r)) [
      | true ↦ reset_node_kept w (ignored w (SwitchGreets kind s r) kept)
      | false ↦ followed w found.next (if found.stores then s else w.controller.adjacency.stored)
          (enters w.controller.adjacency found) found.reply kind s r fits kept
    ]

hear_switch_kept : (w : Line) (kind : HelloKind) (s r : ℕ) → IsKeptBefore (SwitchGreets kind s r) w
    → IsKept (hear_switch w kind s r)
hear_switch_kept w kind s r kept =
    reset_or_followed w (row_for w.controller.adjacency kind s r) kind s r
    (row_fits w.controller.adjacency.state kind (r == w.controller.adjacency.own)
    (s == w.controller.adjacency.stored) w.controller.asked kept.sound.in_step) kept

pub controller_takes_kept : (w : Line) (messages : List ToController) → w.at_controller ≡ messages
    → IsKept w → IsKept (controller_takes w messages)
controller_takes_kept w [] e kept = kept
controller_takes_kept w (SwitchGreets kind s r ∷ rest) e kept =
    hear_switch_kept (record w { at_controller = rest }) kind s r
    (with_trip w.controller w.fresh _ _ kept (rw e at kept.good))
controller_takes_kept w (Answer x n q outcome ∷ rest) e kept =
    hear_answer_kept (record w { at_controller = rest }) x n q outcome
    (with_trip w.controller w.fresh _ _ kept (rw e at kept.good))
