-- each thing that the switch does keeps the invariant

use Rattle.std.proofs.Common.{◌≡◌, ℕ, ◌==◌, Bool, true, false, None, List, [], ◌∷◌, map, refl, append-nil, arith, if◌then◌else◌}
use Rattle.net_types.specs.declared.adjacency.HelloKind.{HelloKind}
use Rattle.net_types.specs.declared.adjacency.HelloKind.TheVariants.{Syn, Synack, Rstack, Ack}
use Rattle.adjacency_table.specs.declared.State.{State}
use Rattle.adjacency_table.specs.Table.{Row, Reply, Silent, Says, Resets, row}
use Rattle.adjacency_table.specs.Instances.{row_for, is_reset}
use Rattle.ordered_lists.proofs.Every.{every_right}
use Rattle.ordered_lists.proofs.Parts.{part_whole, part_none, part_join}
use Rattle.law_branch_line.specs.Words.{Request, Outcome, Success, Failure, ToSwitch, ControllerGreets, Copy, ToController, SwitchGreets, Answer}
use Rattle.law_branch_line.specs.Line.{spoken, Switch, Line, way_to_controller}
use Rattle.law_branch_line.specs.Switch.{reply, reset_switch, restart_switch, obey, hear_controller, tick_switch, takes_requests, branch_after, handle, switch_takes}
use Rattle.law_branch_line.proofs.Trip.{Up, Down, HasStored, here, trip_after}
use Rattle.law_branch_line.proofs.Kept.{FitsFor, IsKeptAs, IsKept, with_trip, drawn_later}
use Rattle.law_branch_line.proofs.Exchanges.{NamesStored, MayBeStored, switch_greets, switch_stores, switch_goes_on, switch_resets, branch_ends, request_succeeds, request_fails}
use Rattle.law_branch_line.proofs.Stretches.{KeepsFor, at_switch, from_switch, on_the_way}

-- the invariant of a line whose switch takes this message next
abbrev pub IsKeptBefore : ToSwitch → Line → Type 0
IsKeptBefore m w = IsKeptAs w.controller w.fresh (trip_after (m ∷ []) w)

-- the switch changes, and says nothing or something
switched : (w : Line) (s : Switch) (taken : List ToSwitch)
    → KeepsFor w.controller (here w.switch ∷ map Down taken) (here s ∷ [])
    → IsKeptAs w.controller w.fresh (trip_after taken w) → IsKept (record w { switch = s })
switched w s taken change kept =
    with_trip w.controller w.fresh _ _ kept (at_switch w.controller w s taken change kept.good)

replied : (w : Line) (s : Switch) (taken : List ToSwitch) (m : ToController)
    → KeepsFor w.controller (here w.switch ∷ map Down taken) (Up m ∷ here s ∷ [])
    → IsKeptAs w.controller w.fresh (trip_after taken w) → IsKept (reply (record w { switch = s }) (m ∷ []))
replied w s taken m change kept =
    with_trip w.controller w.fresh _ _ kept (from_switch w.controller w s taken m change kept.good)

-- what it says by the table
greeted : (w : Line) (kind : HelloKind) (s r : ℕ) → NamesStored kind w.switch.adjacency.stored r → IsKept w
    → IsKept (reply w (SwitchGreets kind s r ∷ []))
greeted w kind s r o kept =
    replied w w.switch [] (SwitchGreets kind s r) (switch_greets _ _ _ _ _ _ kind s r o) kept

silent : (w : Line) → IsKept w → IsKept (reply w [])
silent w kept = with_trip w.controller w.fresh _ _ kept (rw append-nil kept.good)

spoken_kept : (w : Line) (answer : Reply) (s r : ℕ) → IsKept w
    → IsKept (reply w (spoken SwitchGreets answer w.switch.adjacency s r))
spoken_kept w Silent s r kept = silent w kept
spoken_kept w Resets s r kept = silent w kept
spoken_kept w (Says Syn) s r kept = greeted w Syn w.switch.adjacency.own 0 tt kept
spoken_kept w (Says Synack) s r kept =
    greeted w Synack w.switch.adjacency.own w.switch.adjacency.stored refl kept
spoken_kept w (Says Ack) s r kept = greeted w Ack w.switch.adjacency.own w.switch.adjacency.stored refl kept
spoken_kept w (Says Rstack) s r kept = greeted w Rstack r s tt kept

-- a message is taken and ignored
ignored : (w : Line) (m : ToSwitch) → IsKeptBefore m w → IsKept w
ignored w m kept =
    switched w w.switch (m ∷ []) (switch_goes_on _ _ _ _ _ _ _ m (λ stored. stored)) kept

pub reset_switch_kept : (w : Line) → IsKept w → IsKept (reset_switch w)
reset_switch_kept w kept =
    drawn_later w.controller w.fresh _ (switched w (reset_switch w).switch [] (switch_resets _ _ _ _ _ _)
    kept)

-- a restart: what was gathered goes, then the branch, then the adjacency begins anew
pub restart_switch_kept : (w : Line) → IsKept w → IsKept (restart_switch w)
restart_switch_kept w kept =
    let emptied : Line = record w { at_switch = [] } in
    let bare : Switch = record w.switch { branch = None } in
    let cut : IsKept emptied =
    with_trip w.controller w.fresh _ _ kept (on_the_way w.controller w _ w.to_switch
    (part_whole (way_to_controller w)) (part_join (part_none w.at_switch) (part_whole w.to_switch)) kept.good) in
    reset_switch_kept (record emptied { switch = bare })
    (switched emptied bare [] (branch_ends _ _ _ _ _ _) cut)

-- what a row of the table is: it stores the sender of a SYN or a SYNACK alone, and where it doesn't,
-- the state that follows suits what is stored
abbrev pub RowFits : (stores : Bool) → HelloKind → (next : State) → (stored : ℕ) → Type 0
RowFits true kind next y = MayBeStored kind
RowFits false kind next y = HasStored next y

abbrev pub IsRowFor : State → HelloKind → (stored : ℕ) → Row → Type 0
IsRowFor st kind y found = HasStored st y → RowFits found.stores kind found.next y

row_fits : (st : State) (kind : HelloKind) (meant known : Bool) (y : ℕ)
    → IsRowFor st kind y (row st kind meant known)
row_fits st kind meant known y h = grind arith

-- the line whose switch's adjacency has changed by a row
abbrev pub heard_line : Line → (next : State) → (stores : Bool) → (sender : ℕ) → Line
heard_line w next stores s = record w {
  switch = record w.switch {
    adjacency = record w.switch.adjacency {
      state = next;
      stored = (if stores then s else w.switch.adjacency.stored);
    };
  };
}

heard : (w : Line) (next : State) (stores : Bool) (kind : HelloKind) (s r : ℕ)
    → RowFits stores kind next w.switch.adjacency.stored → IsKeptBefore (ControllerGreets kind s r) w
    → IsKept (heard_line w next stores s)
heard w next true kind s r fits kept =
    switched w (heard_line w next true s).switch (ControllerGreets kind s r ∷ [])
    (switch_stores _ _ _ _ _ _ _ kind s r fits) kept
heard w next false kind s r fits kept =
    switched w (heard_line w next false s).switch (ControllerGreets kind s r ∷ [])
    (switch_goes_on _ _ _ _ _ _ _ (ControllerGreets kind s r) (λ stored. fits)) kept

-- the switch is reset by a row, or obeys it
reset_or_obeyed : (w : Line) (found : Row) (kind : HelloKind) (s r : ℕ)
    → RowFits found.stores kind found.next w.switch.adjacency.stored
    → IsKeptBefore (ControllerGreets kind s r) w
    → IsKept (if is_reset found.reply then reset_switch w else obey w found s r)
reset_or_obeyed w found kind s r fits kept = elim (is_reset found.reply)
    as (λ resets. IsKept (if resets then reset_switch w else obey w found s r)) [
      | true ↦ reset_switch_kept w (ignored w (ControllerGreets kind s r) kept)
      | false ↦ spoken_kept (heard_line w found.next found.stores s) found.reply s r
          (heard w found.next found.stores kind s r fits kept)
    ]

-- what the switch has stored suits its state
stored_here : (w : Line) (m : ToSwitch) → IsKeptBefore m w
    → HasStored w.switch.adjacency.state w.switch.adjacency.stored
stored_here w m kept =
    (every_right (FitsFor w.controller) (map Up (way_to_controller w)) _ kept.good.each).0.1

hear_controller_kept : (w : Line) (kind : HelloKind) (s r : ℕ) → IsKeptBefore (ControllerGreets kind s r) w
    → IsKept (hear_controller w kind s r)
hear_controller_kept w kind s r kept =
    reset_or_obeyed w (row_for w.switch.adjacency kind s r) kind s r (row_fits w.switch.adjacency.state kind
    (r == w.switch.adjacency.own) (s == w.switch.adjacency.stored) w.switch.adjacency.stored
    (stored_here w (ControllerGreets kind s r) kept)) kept

handle_kept : (w : Line) (x n : ℕ) (q : Request) (outcome : Outcome) → IsKeptBefore (Copy x n q) w
    → IsKept (handle w x n q outcome)
handle_kept w x n q Success kept =
    replied w (record w.switch { branch = branch_after q w.switch.branch }) (Copy x n q ∷ [])
    (Answer x n q Success) (request_succeeds _ _ _ _ _ _ x n q) kept
handle_kept w x n q Failure kept =
    replied w w.switch (Copy x n q ∷ []) (Answer x n q Failure) (request_fails _ _ _ _ _ _ x n q) kept

-- a request is taken, or ignored
copy_kept : (w : Line) (taken : Bool) (x n : ℕ) (q : Request) (outcome : Outcome)
    → IsKeptBefore (Copy x n q) w → IsKept (if taken then handle w x n q outcome else w)
copy_kept w true x n q outcome kept = handle_kept w x n q outcome kept
copy_kept w false x n q outcome kept = ignored w (Copy x n q) kept

pub switch_takes_kept : (w : Line) (messages : List ToSwitch) (outcome : Outcome) → w.at_switch ≡ messages
    → IsKept w → IsKept (switch_takes w messages outcome)
switch_takes_kept w [] outcome e kept = kept
switch_takes_kept w (ControllerGreets kind s r ∷ rest) outcome e kept =
    hear_controller_kept (record w { at_switch = rest }) kind s r
    (with_trip w.controller w.fresh _ _ kept (rw e at kept.good))
switch_takes_kept w (Copy x n q ∷ rest) outcome e kept =
    copy_kept (record w { at_switch = rest }) (takes_requests w.switch.adjacency.state) x n q outcome
    (with_trip w.controller w.fresh _ _ kept (rw e at kept.good))

pub tick_switch_kept : (w : Line) (answer : Reply) → IsKept w → IsKept (tick_switch w answer)
tick_switch_kept w Resets kept = reset_switch_kept w kept
tick_switch_kept w Silent kept = spoken_kept w Silent 0 0 kept
tick_switch_kept w (Says said) kept = spoken_kept w (Says said) 0 0 kept
