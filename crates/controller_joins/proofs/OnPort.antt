-- The first join whose input doesn't come before an end, and the first on a port.

use Rattle.std.proofs.Common.{◌≡◌, ◌≢◌, ℕ, ◌<◌, ◌≤◌, ◌==◌, ◌⊎◌, nat_lt, nat_eq, Bool, true, false, cond, List, length, get_or, Some, None, find, refl, sym, ap, ◌∙◌, arith, inl, inr}
use Rattle.std.proofs.lemmas.Bool.{cases_lt, cases_eq}
use Rattle.std.proofs.lemmas.Bool.Decides.{nat_tests}
use Rattle.std.specs.declared.cmp.Ordering.{Ordering}
use Rattle.std.specs.declared.cmp.Ordering.TheVariants.{Less, Equal, Greater}
use Rattle.std.specs.Ordering.{nat_cmp, ordering_reverse, ordering_then}
use Rattle.std.specs.Cmp.{tied_itself}
use Rattle.net_types.specs.declared.node.PortNo.{PortNo}
use Rattle.net_types.specs.declared.channel.End.{End}
use Rattle.crossbar_model.specs.Channels.{end_cmp}
use Rattle.branch_desk.proofs.Ends.{end_cmp_total}
use Rattle.controller_joins.specs.declared.places.Joined.{Joined}
use Rattle.controller_joins.specs.Joined.{AreInOrder, IsPlaceOf, IsGapFor, IsFirstFrom}
use Rattle.controller_joins.proofs.Found.{find_at, find_none_at, find_none}

not_both : (a b : End) (x y : Ordering) → end_cmp a b ≡ x → end_cmp a b ≡ y → x ≡ y
not_both a b x y p q = sym p ∙ q

pub first_from_place : (joins : List Joined) (end : End) (i : ℕ) → AreInOrder joins → IsPlaceOf joins end i → IsFirstFrom joins end i
first_from_place joins end i order at = record {
  within = omega (arith, at.within);
  before = λ j d lt. rw (at.here d) at (order.ascending j i d lt at.within);
  behind = λ j d le within less. elim (cases_eq j i) [
    | inl same ↦ (let here : (get_or joins j d).input ≡ end = rw same (at.here d) in
        absurd (cc (not_both (get_or joins j d).input end Less Equal less (ap (λ e. end_cmp e end) here ∙ tied_itself end_cmp_total end))))
    | inr ne ↦ (let lt : i < j = omega (arith, le, ne) in
        let above : end_cmp end (get_or joins j d).input ≡ Less = rw (at.here d) at (order.ascending i j d lt within) in
        absurd (cc (not_both (get_or joins j d).input end Less Greater less (end_cmp_total.antisymm (get_or joins j d).input end ∙ ap ordering_reverse above))))
  ];
}

pub first_from_gap : (joins : List Joined) (end : End) (i : ℕ) → IsGapFor joins end i → IsFirstFrom joins end i
first_from_gap joins end i gap = record {
  within = gap.within;
  before = gap.before;
  behind = λ j d le within less. absurd (cc (not_both (get_or joins j d).input end Less Greater less (gap.after j d le within)));
}

-- *By port*: what comes before another is on a lower port, or on the same one
abbrev pub least_of : PortNo → End
least_of port = record { port = port; channel = record { vpi = 0; vci = 0 } }

level : (x y : ℕ) (rest : Ordering) → ordering_then (nat_cmp x y) rest ≡ Less → (x < y) ⊎ ((x ≡ y) × (rest ≡ Less))
level x y rest h = by (nat_lt x y) (x == y) refl refl h where
  by : (lt eq : Bool) → nat_lt x y ≡ lt → (x == y) ≡ eq → ordering_then (cond lt Less (cond eq Equal Greater)) rest ≡ Less → (x < y) ⊎ ((x ≡ y) × (rest ≡ Less))
  by true eq p q h = inl (grind (arith, nat_tests))
  by false true p q h = inr (grind (arith, nat_tests), h)
  by false false p q h = absurd (cc h)

less_port : (e f : End) → end_cmp e f ≡ Less → e.port.0 ≤ f.port.0
less_port e f h = elim (level e.port.0 f.port.0 _ h) [ inl lt ↦ omega (arith, lt) | inr both ↦ omega (arith, both.0) ]

last_zero : (x : ℕ) → nat_cmp x 0 ≡ Less → ⊥
last_zero x h = grind (arith, nat_tests)

below_least : (e : End) (port : PortNo) → end_cmp e (least_of port) ≡ Less → e.port.0 < port.0
below_least e port h = elim (level e.port.0 port.0 _ h) [
  | inl lt ↦ lt
  | inr both ↦ elim (level e.channel.vpi 0 _ both.1) [
    | inl lt ↦ absurd (omega (arith, lt))
    | inr deeper ↦ absurd (last_zero e.channel.vci deeper.1)
  ]
]

lower_first : (x y : ℕ) (rest : Ordering) → x < y → ordering_then (nat_cmp x y) rest ≡ Less
lower_first x y rest lt = (let test : nat_lt x y ≡ true = grind (arith, nat_tests) in rw test refl)

from_least : (e : End) (port : PortNo) → end_cmp e (least_of port) ≢ Less → port.0 ≤ e.port.0
from_least e port h = elim (cases_lt e.port.0 port.0) [ inl lt ↦ absurd (h (lower_first e.port.0 port.0 _ lt)) | inr ge ↦ ge ]

other_port : (x y : ℕ) → x < y → nat_eq x y ≡ false
other_port x y h = grind (arith, nat_tests)

above_port : (x y : ℕ) → y < x → nat_eq x y ≡ false
above_port x y h = grind (arith, nat_tests)

higher : (x y : ℕ) → y ≤ x → nat_eq x y ≡ false → y < x
higher x y le ne = grind (arith, nat_tests)

pub differ : (x y : ℕ) → (x ≡ y → ⊥) → nat_eq x y ≡ false
differ x y h = grind (arith, nat_tests)

before_port : (joins : List Joined) (port : PortNo) (i j : ℕ) (d : Joined) → IsFirstFrom joins (least_of port) i → j < i → nat_eq (get_or joins j d).input.port.0 port.0 ≡ false
before_port joins port i j d first lt = other_port _ _ (below_least (get_or joins j d).input port (first.before j d lt))

pub found_on_port : (joins : List Joined) (port : PortNo) (i : ℕ) (d : Joined) → IsFirstFrom joins (least_of port) i → i < length joins → nat_eq (get_or joins i d).input.port.0 port.0 ≡ true
    → find (λ j. j.input.port.0 == port.0) joins ≡ Some (get_or joins i d)
found_on_port joins port i d first within here =
    find_at (λ j. j.input.port.0 == port.0) joins i d within here (λ j lt. before_port joins port i j d first lt)

pub none_behind : (joins : List Joined) (port : PortNo) (i : ℕ) → IsFirstFrom joins (least_of port) i → i ≡ length joins → find (λ j. j.input.port.0 == port.0) joins ≡ None
none_behind joins port i first end = find_none (λ j. j.input.port.0 == port.0) joins (λ j d lt. before_port joins port i j d first (omega (arith, lt, end)))

pub none_on_port : (joins : List Joined) (port : PortNo) (i : ℕ) (d : Joined) → AreInOrder joins → IsFirstFrom joins (least_of port) i → i < length joins → nat_eq (get_or joins i d).input.port.0 port.0 ≡ false
    → find (λ j. j.input.port.0 == port.0) joins ≡ None
none_on_port joins port i d order first within here = find_none_at (λ j. j.input.port.0 == port.0) joins d each where
  above : port.0 < (get_or joins i d).input.port.0
  above = higher _ _ (from_least (get_or joins i d).input port (first.behind i d (omega arith) within)) here

  each : (j : ℕ) → j < length joins → nat_eq (get_or joins j d).input.port.0 port.0 ≡ false
  each j inside = elim (cases_lt j i) [
    | inl lt ↦ before_port joins port i j d first lt
    | inr ge ↦ elim (cases_eq j i) [
      | inl same ↦ rw same here
      | inr ne ↦ (let lt : i < j = omega (arith, ge, ne) in
          let le : (get_or joins i d).input.port.0 ≤ (get_or joins j d).input.port.0 = less_port (get_or joins i d).input (get_or joins j d).input (order.ascending i j d lt inside) in
          above_port _ _ (omega (arith, le, above)))
    ]
  ]
