-- moves that lead from a line to another: draws, losses, withdrawals

use Rattle.std.proofs.Common.{◌≡◌, ℕ, suc, ◌-◌, ◌<◌, ◌≤◌, Bool, true, false, not, List, [], ◌∷◌, ◌++◌, Some, refl, sym, ◌∙◌, ap, subst, remove, replicate, append_assoc, append-nil, filter, if◌then◌else◌, arith}
use Rattle.std.specs.Prelude.{find, ◌==◌}
use Rattle.std.proofs.lemmas.Bool.Decides.{nat_tests}
use Rattle.law_input_views.specs.ordered_lists.Ordered.{Every, InOrder}
use Rattle.law_input_views.proofs.ordered_lists.Every.{every_map}
use Rattle.law_input_views.proofs.ordered_lists.InOrder.{order_right, order_across}
use Rattle.law_input_views.proofs.ordered_lists.Parts.{IsPart, none, kept, left, order_part, part_join, part_whole, part_none}
use Rattle.law_input_views.specs.law_branch_line.Words.{ToSwitch, Copy, Elsewhere, ToController}
use Rattle.law_input_views.specs.law_branch_line.Line.{Line, Other}
use Rattle.law_input_views.specs.law_branch_line.Asking.{has_met, ask_other_again, is_numbered, say}
use Rattle.law_input_views.specs.law_branch_line.Moves.{Move, DrawElsewhere, LoseToSwitch, LoseAtSwitch, LoseToController, WithdrawOther, AskOtherAgain, step, run}
use Rattle.law_input_views.proofs.Follow.{run_join, drawn}

pub record Goes (line after : Line) : Type 0 where
  pub moves : List Move
  pub is : run line moves ≡ after

pub stays : (line : Line) → Goes line line
stays line = record { moves = []; is = refl }

pub goes_to : (line a b : Line) → Goes line a → a ≡ b → Goes line b
goes_to line a b g e = record { moves = g.moves; is = g.is ∙ e }

pub goes_next : (line a b : Line) → Goes line a → Goes a b → Goes line b
goes_next line a b f g = record {
  moves = f.moves ++ g.moves;
  is = run_join line f.moves g.moves ∙ (ap (λ (z : Line). run z g.moves) f.is ∙ g.is);
}

pub by_move : (line : Line) (m : Move) (after : Line) → step line m ≡ after → Goes line after
by_move line m after e = record { moves = m ∷ []; is = e }

-- instances are drawn elsewhere
pub draw_to : (n : ℕ) (line : Line) → line.fresh ≤ n → Goes line (record line { fresh = n })
draw_to n line le = record {
  moves = replicate (n - line.fresh) DrawElsewhere;
  is = drawn line (n - line.fresh) ∙ ap (λ (m : ℕ). record line { fresh = m }) (omega (arith, le));
}

-- the place of an element
pub record Place {A : Type 0} (xs : List A) (x : A) (ys : List A) : Type 0 where
  pub place : ℕ
  pub away : remove (xs ++ x ∷ ys) place ≡ xs ++ ys

pub place_of : {A : Type 0} (xs : List A) (x : A) (ys : List A) → Place xs x ys
place_of [] x ys = record { place = 0; away = refl }
place_of (z ∷ zs) x ys =
    let p : Place zs x ys = place_of zs x ys in
    record { place = suc p.place; away = ap (λ (l : List _). z ∷ l) p.away }

-- *Any part of a queue* is reached by losses, where each loss is a move of the line
module _ {A : Type 0} (with : List A → Line) (loses : (xs : List A) (x : A) (ys : List A) → Goes (with (xs ++ x ∷ ys)) (with (xs ++ ys))) where
  lose_parts : (ps : List A) {xs ys : List A} → IsPart xs ys → Goes (with (ps ++ ys)) (with (ps ++ xs))
  lose_parts ps none = stays (with (ps ++ []))
  lose_parts ps (kept {x} {xs} {ys} p) =
      goes_to (with (ps ++ x ∷ ys)) (with ((ps ++ x ∷ []) ++ xs)) (with (ps ++ x ∷ xs))
      (goes_next (with (ps ++ x ∷ ys)) (with ((ps ++ x ∷ []) ++ ys)) (with ((ps ++ x ∷ []) ++ xs))
      (goes_to (with (ps ++ x ∷ ys)) (with (ps ++ x ∷ ys)) (with ((ps ++ x ∷ []) ++ ys)) (stays (with (ps ++ x ∷ ys))) (sym (ap with (append_assoc ps (x ∷ []) ys))))
      (lose_parts (ps ++ x ∷ []) p))
      (ap with (append_assoc ps (x ∷ []) xs))
  lose_parts ps (left {x} {xs} {ys} p) = goes_next (with (ps ++ x ∷ ys)) (with (ps ++ ys)) (with (ps ++ xs)) (loses ps x ys) (lose_parts ps p)

  pub lose_all_but : {xs ys : List A} → IsPart xs ys → Goes (with ys) (with xs)
  lose_all_but p = lose_parts [] p

pub lose_to_switch : (line : Line) {xs ys : List ToSwitch} → IsPart xs ys → Goes (record line { to_switch = ys }) (record line { to_switch = xs })
lose_to_switch line p = lose_all_but (λ (z : List ToSwitch). record line { to_switch = z })
    (λ xs x ys. by_move (record line { to_switch = xs ++ x ∷ ys }) (LoseToSwitch (place_of xs x ys).place) (record line { to_switch = xs ++ ys })
    (ap (λ (z : List ToSwitch). record line { to_switch = z }) (place_of xs x ys).away)) p

pub lose_at_switch : (line : Line) {xs ys : List ToSwitch} → IsPart xs ys → Goes (record line { at_switch = ys }) (record line { at_switch = xs })
lose_at_switch line p = lose_all_but (λ (z : List ToSwitch). record line { at_switch = z })
    (λ xs x ys. by_move (record line { at_switch = xs ++ x ∷ ys }) (LoseAtSwitch (place_of xs x ys).place) (record line { at_switch = xs ++ ys })
    (ap (λ (z : List ToSwitch). record line { at_switch = z }) (place_of xs x ys).away)) p

pub lose_to_controller : (line : Line) {xs ys : List ToController} → IsPart xs ys → Goes (record line { to_controller = ys }) (record line { to_controller = xs })
lose_to_controller line p = lose_all_but (λ (z : List ToController). record line { to_controller = z })
    (λ xs x ys. by_move (record line { to_controller = xs ++ x ∷ ys }) (LoseToController (place_of xs x ys).place) (record line { to_controller = xs ++ ys })
    (ap (λ (z : List ToController). record line { to_controller = z }) (place_of xs x ys).away)) p

-- the front stays, what stands behind it is lost
pub front_part : {A : Type 0} (xs ys : List A) → IsPart xs (xs ++ ys)
front_part xs ys = subst (λ (z : List _). IsPart z (xs ++ ys)) (append-nil xs) (part_join (part_whole xs) (part_none ys))

pub behind_part : {A : Type 0} (xs ys : List A) → IsPart ys (xs ++ ys)
behind_part xs ys = part_join (part_none xs) (part_whole ys)

-- *Others by number*: their numbers rise
abbrev pub Rise : Other → Other → Type 0
Rise x y = x.number < y.number

is_same : (n : ℕ) → (n == n) ≡ true
is_same n = grind (arith, nat_tests)

is_lower : (m n : ℕ) → m < n → (m == n) ≡ false
is_lower m n less = grind (arith, nat_tests)

is_higher : (m n : ℕ) → n < m → (m == n) ≡ false
is_higher m n less = grind (arith, nat_tests)

other_numbers : (n : ℕ) (xs : List Other) → Every (λ (x : Other). (x.number == n) ≡ false) xs → filter (λ x. not (is_numbered n x)) xs ≡ xs
other_numbers n [] h = refl
other_numbers n (x ∷ xs) h = ap (λ (b : Bool). if not b then x ∷ filter (λ y. not (is_numbered n y)) xs else filter (λ y. not (is_numbered n y)) xs) h.0 ∙ ap (λ (z : List Other). x ∷ z) (other_numbers n xs h.1)

one_number : (ps : List Other) (x : Other) (ys : List Other) → Every (λ (p : Other). (p.number == x.number) ≡ false) ps → Every (λ (y : Other). (y.number == x.number) ≡ false) ys
    → filter (λ y. not (is_numbered x.number y)) (ps ++ x ∷ ys) ≡ ps ++ ys
one_number [] x ys h k = ap (λ (b : Bool). if not b then x ∷ filter (λ y. not (is_numbered x.number y)) ys else filter (λ y. not (is_numbered x.number y)) ys) (is_same x.number) ∙ other_numbers x.number ys k
one_number (p ∷ ps) x ys h k = ap (λ (b : Bool). if not b then p ∷ filter (λ y. not (is_numbered x.number y)) (ps ++ x ∷ ys) else filter (λ y. not (is_numbered x.number y)) (ps ++ x ∷ ys)) h.0
    ∙ ap (λ (z : List Other). p ∷ z) (one_number ps x ys h.1 k)

lower_numbers : (ps : List Other) (x : Other) (ys : List Other) → InOrder Rise (ps ++ x ∷ ys) → Every (λ (p : Other). (p.number == x.number) ≡ false) ps
lower_numbers ps x ys h = every_map (λ (p : Other). Every (Rise p) (x ∷ ys)) (λ (p : Other). (p.number == x.number) ≡ false) ps
    (λ p k. is_lower p.number x.number k.0) (order_across Rise ps (x ∷ ys) h)

higher_numbers : (ps : List Other) (x : Other) (ys : List Other) → InOrder Rise (ps ++ x ∷ ys) → Every (λ (y : Other). (y.number == x.number) ≡ false) ys
higher_numbers ps x ys h = every_map (Rise x) (λ (y : Other). (y.number == x.number) ≡ false) ys (λ y k. is_higher y.number x.number k) (order_right Rise ps (x ∷ ys) h).0

abbrev pub with_others : Line → List Other → Line
with_others line others = record line { controller = record line.controller { others = others } }

withdraw_one : (line : Line) (ps : List Other) (x : Other) (ys : List Other) → has_met line.controller.meeting ≡ true → InOrder Rise (ps ++ x ∷ ys)
    → Goes (with_others line (ps ++ x ∷ ys)) (with_others line (ps ++ ys))
withdraw_one line ps x ys met rise = by_move (with_others line (ps ++ x ∷ ys)) (WithdrawOther x.number) (with_others line (ps ++ ys))
    (ap (λ (b : Bool). if b then with_others line (filter (λ y. not (is_numbered x.number y)) (ps ++ x ∷ ys)) else with_others line (ps ++ x ∷ ys)) met
    ∙ ap (with_others line) (one_number ps x ys (lower_numbers ps x ys rise) (higher_numbers ps x ys rise)))

withdraw_behind : (line : Line) (ps : List Other) {xs ys : List Other} → has_met line.controller.meeting ≡ true → IsPart xs ys → InOrder Rise (ps ++ ys)
    → Goes (with_others line (ps ++ ys)) (with_others line (ps ++ xs))
withdraw_behind line ps met none rise = stays (with_others line (ps ++ []))
withdraw_behind line ps met (kept {x} {xs} {ys} p) rise =
    goes_to (with_others line (ps ++ x ∷ ys)) (with_others line ((ps ++ x ∷ []) ++ xs)) (with_others line (ps ++ x ∷ xs))
    (goes_next (with_others line (ps ++ x ∷ ys)) (with_others line ((ps ++ x ∷ []) ++ ys)) (with_others line ((ps ++ x ∷ []) ++ xs))
    (goes_to (with_others line (ps ++ x ∷ ys)) (with_others line (ps ++ x ∷ ys)) (with_others line ((ps ++ x ∷ []) ++ ys)) (stays (with_others line (ps ++ x ∷ ys))) (sym (ap (with_others line) (append_assoc ps (x ∷ []) ys))))
    (withdraw_behind line (ps ++ x ∷ []) met p (subst (InOrder Rise) (sym (append_assoc ps (x ∷ []) ys)) rise)))
    (ap (with_others line) (append_assoc ps (x ∷ []) xs))
withdraw_behind line ps met (left {x} {xs} {ys} p) rise = goes_next (with_others line (ps ++ x ∷ ys)) (with_others line (ps ++ ys)) (with_others line (ps ++ xs))
    (withdraw_one line ps x ys met rise) (withdraw_behind line ps met p (order_part Rise (part_join (part_whole ps) (left (part_whole ys))) rise))

-- others are withdrawn, where the switch is met
pub withdraw_part : (line : Line) (xs : List Other) → has_met line.controller.meeting ≡ true → InOrder Rise line.controller.others → IsPart xs line.controller.others → Goes line (with_others line xs)
withdraw_part line xs met rise p = withdraw_behind line [] met p rise

-- another that stands is sent again
find_one : (ps : List Other) (x : Other) (ys : List Other) → Every (λ (p : Other). (p.number == x.number) ≡ false) ps → find (is_numbered x.number) (ps ++ x ∷ ys) ≡ Some x
find_one [] x ys h = ap (λ (b : Bool). if b then Some x else find (is_numbered x.number) ys) (is_same x.number)
find_one (p ∷ ps) x ys h = ap (λ (b : Bool). if b then Some p else find (is_numbered x.number) (ps ++ x ∷ ys)) h.0 ∙ find_one ps x ys h.1

pub again_is : (line : Line) (xs : List Other) (x : Other) (ys : List Other) → line.controller.others ≡ xs ++ x ∷ ys → InOrder Rise line.controller.others
    → step line (AskOtherAgain x.number) ≡ say line (Copy line.controller.adjacency.own x.number (Elsewhere x.message_type) ∷ [])
again_is line xs x ys is rise =
    ap (ask_other_again line) (ap (find (is_numbered x.number)) is ∙ find_one xs x ys (lower_numbers xs x ys (subst (InOrder Rise) is rise)))
