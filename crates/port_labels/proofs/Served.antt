-- the label that serves a flow, and what a change of a label makes of it

use Rattle.std.proofs.Common.{◌≡◌, ◌≢◌, ℕ, ◌&&◌, Bool, true, false, List, [], ◌∷◌, Option, None, Some, refl, sym, ap, ◌∙◌, inl, inr}
use Rattle.std.specs.Prelude.{option_map, if◌then◌else◌}
use Rattle.std.proofs.lemmas.Bool.{cases_Bool, cases_eq, cases_lt, eq-eqb, ne_eqb, le-leb, lt-leb, true≢false}
use Rattle.keyed_lists.specs.Keyed.{at, put, without, entered, key_le}
use Rattle.ipv4_packet.specs.declared.flow.FlowId.{FlowId}
use Rattle.ipv4_packet.specs.Parts.{same_flow}
use Rattle.flow_classifier.proofs.Flows.{flow_from_same, same_itself}
use Rattle.branch_desk.specs.port_model.Labels.{Label, label_number, label_for, serves}
use Rattle.port_labels.specs.Book.{Rises, ServesOnce}
use Rattle.port_labels.proofs.Numbered.{at_here, at_there, without_above}

-- a label serves a flow
abbrev pub is_for : FlowId → Label → Bool
is_for flow label = serves label.state && same_flow label.flow flow

abbrev pub serving : List Label → FlowId → Option ℕ
serving labels flow = option_map label_number (label_for labels flow)

then_is : {A : Type 0} (b : Bool) (x y : A) → b ≡ true → (if b then x else y) ≡ x
then_is b x y e = rw e refl

else_is : {A : Type 0} (b : Bool) (x y : A) → b ≡ false → (if b then x else y) ≡ y
else_is b x y e = rw e refl

both : (a b : Bool) → (a && b) ≡ true → (a ≡ true) × (b ≡ true)
both true b h = (refl, h)
both false b h = absurd (cc h)

pub first_serves : (x : Label) (xs : List Label) (f : FlowId) → is_for f x ≡ true → label_for (x ∷ xs) f ≡ Some x
first_serves x xs f on = rw on refl

pub later_serves : (x : Label) (xs : List Label) (f : FlowId) → is_for f x ≡ false → label_for (x ∷ xs) f ≡ label_for xs f
later_serves x xs f off = rw off refl

-- no label serves a flow
pub none_serves : (xs : List Label) (f : FlowId) → serving xs f ≡ None → label_for xs f ≡ None
none_serves xs f none = by (label_for xs f) none where
  by : (o : Option Label) → option_map label_number o ≡ None → o ≡ None
  by None e = refl
  by (Some x) e = absurd (cc e)

none_first : (x : Label) (xs : List Label) (f : FlowId) → label_for (x ∷ xs) f ≡ None → (is_for f x ≡ false) × (label_for xs f ≡ None)
none_first x xs f none = elim (cases_Bool (is_for f x)) [
  | inl on ↦ absurd (cc (sym (first_serves x xs f on) ∙ none))
  | inr off ↦ (off, sym (later_serves x xs f off) ∙ none)
]

none_cons : (x : Label) (xs : List Label) (f : FlowId) → is_for f x ≡ false → label_for xs f ≡ None → label_for (x ∷ xs) f ≡ None
none_cons x xs f off none = later_serves x xs f off ∙ none

-- the label of a number that serves a flow is found, if no other one is
pub some_serves : (n : ℕ) (x : Label) (xs : List Label) (f : FlowId) → at label_number n xs ≡ Some x → is_for f x ≡ true → label_for xs f ≢ None
some_serves n x [] f there on none = absurd (cc there)
some_serves n x (y ∷ ys) f there on none = elim (cases_eq y.number n) [
  | inl same ↦ (
      let is : Some y ≡ Some x = sym (at_here n y ys same) ∙ there in
      let it : y ≡ x = cc in
      let off : is_for f x ≡ false = rw it at (none_first y ys f none).0 in
      true≢false (sym on ∙ off))
  | inr other ↦ some_serves n x ys f (sym (at_there n y ys other) ∙ there) on (none_first y ys f none).1
]

-- *A label stays with its flow*
first_stays : (l x : Label) (xs : List Label) (f : FlowId) → l.number ≡ x.number → serves l.state ≡ serves x.state → l.flow ≡ x.flow
    → serving (l ∷ xs) f ≡ serving (x ∷ xs) f
first_stays l x xs f number state flow =
    let test : is_for f l ≡ is_for f x = rw (state, flow) refl in
    elim (cases_Bool (is_for f x)) [
      | inl on ↦ ap (option_map label_number) (first_serves l xs f (test ∙ on)) ∙ (ap Some number ∙ sym (ap (option_map label_number) (first_serves x xs f on)))
      | inr off ↦ ap (option_map label_number) (later_serves l xs f (test ∙ off)) ∙ sym (ap (option_map label_number) (later_serves x xs f off))
    ]

under : (x : Label) (xs ys : List Label) (f : FlowId) → serving xs f ≡ serving ys f → serving (x ∷ xs) f ≡ serving (x ∷ ys) f
under x xs ys f same = elim (cases_Bool (is_for f x)) [
  | inl on ↦ ap (option_map label_number) (first_serves x xs f on) ∙ sym (ap (option_map label_number) (first_serves x ys f on))
  | inr off ↦ ap (option_map label_number) (later_serves x xs f off) ∙ (same ∙ sym (ap (option_map label_number) (later_serves x ys f off)))
]

pub serving_put : (l x : Label) (xs : List Label) (f : FlowId) → at label_number l.number xs ≡ Some x → serves l.state ≡ serves x.state → l.flow ≡ x.flow
    → serving (put label_number l xs) f ≡ serving xs f
serving_put l x [] f there state flow = refl
serving_put l x (y ∷ ys) f there state flow = elim (cases_eq y.number l.number) [
  | inl same ↦ (
      let is : Some y ≡ Some x = sym (at_here l.number y ys same) ∙ there in
      let it : x ≡ y = cc in
      rw (eq-eqb y.number l.number same) (first_stays l y ys f (sym same) (rw it at state) (rw it at flow)))
  | inr other ↦ rw (ne_eqb y.number l.number other)
      (under y (put label_number l ys) ys f (serving_put l x ys f (sym (at_there l.number y ys other) ∙ there) state flow))
]

pub once_put : (l x : Label) (xs : List Label) → at label_number l.number xs ≡ Some x → serves l.state ≡ serves x.state → l.flow ≡ x.flow
    → ServesOnce xs → ServesOnce (put label_number l xs)
once_put l x [] there state flow once = once
once_put l x (y ∷ ys) there state flow once = elim (cases_eq y.number l.number) [
  | inl same ↦ (
      let is : Some y ≡ Some x = sym (at_here l.number y ys same) ∙ there in
      let it : x ≡ y = cc in
      rw (eq-eqb y.number l.number same) (rw (flow, state, it) once.0, once.1))
  | inr other ↦ (
      let later : at label_number l.number ys ≡ Some x = sym (at_there l.number y ys other) ∙ there in
      rw (ne_eqb y.number l.number other) (
        λ on. none_serves (put label_number l ys) y.flow (serving_put l x ys y.flow later state flow ∙ ap (option_map label_number) (once.0 on)),
        once_put l x ys later state flow once.1,
      ))
]

-- *A label comes to a flow that none serves*
flow_same : (l y : Label) (f : FlowId) → same_flow l.flow f ≡ true → is_for f y ≡ is_for l.flow y
flow_same l y f same = let e : l.flow ≡ f = flow_from_same l.flow f same in rw e refl

pub serving_entered : (l : Label) (xs : List Label) (f : FlowId) → serves l.state ≡ true → label_for xs l.flow ≡ None
    → serving (entered (key_le label_number) l xs) f ≡ (if same_flow l.flow f then Some l.number else serving xs f)
serving_entered l [] f on none = elim (cases_Bool (same_flow l.flow f)) [
  | inl same ↦ rw (on, same) refl
  | inr other ↦ rw (on, other) refl
]
serving_entered l (y ∷ ys) f on none = elim (cases_lt y.number l.number) [
  | inl below ↦ rw (lt-leb l.number y.number below) (elim (cases_Bool (is_for f y)) [
    | inl first ↦ elim (cases_Bool (same_flow l.flow f)) [
      | inl same ↦ absurd (true≢false (sym first ∙ (flow_same l y f same ∙ (none_first y ys l.flow none).0)))
      | inr other ↦ ap (option_map label_number) (first_serves y (entered (key_le label_number) l ys) f first)
          ∙ (sym (ap (option_map label_number) (first_serves y ys f first)) ∙ sym (else_is (same_flow l.flow f) (Some l.number) (serving (y ∷ ys) f) other))
    ]
    | inr later ↦ (
        let rest = serving_entered l ys f on (none_first y ys l.flow none).1 in
        ap (option_map label_number) (later_serves y (entered (key_le label_number) l ys) f later)
        ∙ (rest ∙ ap (λ (o : Option ℕ). if same_flow l.flow f then Some l.number else o) (sym (ap (option_map label_number) (later_serves y ys f later)))))
  ])
  | inr above ↦ rw (le-leb l.number y.number above) (elim (cases_Bool (same_flow l.flow f)) [
    | inl same ↦ rw (on, same) refl
    | inr other ↦ rw (on, other) refl
  ])
]

missed : (l y : Label) (ys : List Label) → serves y.state ≡ true → is_for l.flow y ≡ false → label_for ys y.flow ≡ None
    → (if same_flow l.flow y.flow then Some l.number else serving ys y.flow) ≡ None
missed l y ys on off none = elim (cases_Bool (same_flow l.flow y.flow)) [
  | inl same ↦ (
      let e : l.flow ≡ y.flow = flow_from_same l.flow y.flow same in
      let it : is_for l.flow y ≡ true = rw (on, e, same_itself y.flow) refl in
      absurd (true≢false (sym it ∙ off)))
  | inr other ↦ else_is (same_flow l.flow y.flow) (Some l.number) (serving ys y.flow) other ∙ ap (option_map label_number) none
]

pub once_entered : (l : Label) (xs : List Label) → serves l.state ≡ true → label_for xs l.flow ≡ None → ServesOnce xs → ServesOnce (entered (key_le label_number) l xs)
once_entered l [] on none once = ((λ is. refl), tt)
once_entered l (y ∷ ys) on none once = elim (cases_lt y.number l.number) [
  | inl below ↦ (
      let rest = none_first y ys l.flow none in
      rw (lt-leb l.number y.number below) (
        (λ on_y. none_serves (entered (key_le label_number) l ys) y.flow (serving_entered l ys y.flow on rest.1 ∙ missed l y ys on_y rest.0 (once.0 on_y))),
        once_entered l ys on rest.1 once.1,
      ))
  | inr above ↦ rw (le-leb l.number y.number above) ((λ is. none), once)
]

-- *A label leaves its flow*
none_put : (l : Label) (xs : List Label) (f : FlowId) → serves l.state ≡ false → label_for xs f ≡ None → label_for (put label_number l xs) f ≡ None
none_put l [] f off none = refl
none_put l (y ∷ ys) f off none =
    let parts = none_first y ys f none in
    elim (cases_eq y.number l.number) [
      | inl same ↦ rw (eq-eqb y.number l.number same) (none_cons l ys f (rw off refl) parts.1)
      | inr other ↦ rw (ne_eqb y.number l.number other) (none_cons y (put label_number l ys) f parts.0 (none_put l ys f off parts.1))
    ]

pub serving_quit : (l x : Label) (xs : List Label) (f : FlowId) → at label_number l.number xs ≡ Some x → serves l.state ≡ false → serves x.state ≡ true → ServesOnce xs
    → serving (put label_number l xs) f ≡ (if same_flow x.flow f then None else serving xs f)
serving_quit l x [] f there off on once = absurd (cc there)
serving_quit l x (y ∷ ys) f there off on once = elim (cases_eq y.number l.number) [
  | inl same ↦ (
      let is : Some y ≡ Some x = sym (at_here l.number y ys same) ∙ there in
      let it : x ≡ y = cc in
      let gone : is_for f l ≡ false = rw off refl in
      rw (eq-eqb y.number l.number same, it) (elim (cases_Bool (same_flow y.flow f)) [
        | inl its ↦ (
            let e : y.flow ≡ f = flow_from_same y.flow f its in
            let none : label_for ys f ≡ None = (rw e at once.0) (rw it at on) in
            ap (option_map label_number) (later_serves l ys f gone ∙ none) ∙ sym (then_is (same_flow y.flow f) None (serving (y ∷ ys) f) its))
        | inr another ↦ (
            let not_its : is_for f y ≡ false = rw (rw it at on, another) refl in
            ap (option_map label_number) (later_serves l ys f gone)
            ∙ (sym (ap (option_map label_number) (later_serves y ys f not_its)) ∙ sym (else_is (same_flow y.flow f) None (serving (y ∷ ys) f) another)))
      ]))
  | inr other ↦ (
      let later : at label_number l.number ys ≡ Some x = sym (at_there l.number y ys other) ∙ there in
      let rest = serving_quit l x ys f later off on once.1 in
      rw (ne_eqb y.number l.number other) (elim (cases_Bool (is_for f y)) [
        | inl first ↦ elim (cases_Bool (same_flow x.flow f)) [
          | inl its ↦ (
              let parts = both (serves y.state) (same_flow y.flow f) first in
              let e : y.flow ≡ f = flow_from_same y.flow f parts.1 in
              let none : label_for ys f ≡ None = (rw e at once.0) parts.0 in
              absurd (some_serves l.number x ys f later (rw (on, its) refl) none))
          | inr another ↦ ap (option_map label_number) (first_serves y (put label_number l ys) f first)
              ∙ (sym (ap (option_map label_number) (first_serves y ys f first)) ∙ sym (else_is (same_flow x.flow f) None (serving (y ∷ ys) f) another))
        ]
        | inr next ↦ ap (option_map label_number) (later_serves y (put label_number l ys) f next)
            ∙ (rest ∙ ap (λ (o : Option ℕ). if same_flow x.flow f then None else o) (sym (ap (option_map label_number) (later_serves y ys f next))))
      ]))
]

pub once_quit : (l : Label) (xs : List Label) → serves l.state ≡ false → ServesOnce xs → ServesOnce (put label_number l xs)
once_quit l [] off once = once
once_quit l (y ∷ ys) off once = elim (cases_eq y.number l.number) [
  | inl same ↦ rw (eq-eqb y.number l.number same) ((λ on. absurd (true≢false (sym on ∙ off))), once.1)
  | inr other ↦ rw (ne_eqb y.number l.number other) ((λ on. none_put l ys y.flow off (once.0 on)), once_quit l ys off once.1)
]

-- *A label that serves no flow goes*
pub serving_without : (n : ℕ) (x : Label) (xs : List Label) (f : FlowId) → Rises xs → at label_number n xs ≡ Some x → serves x.state ≡ false
    → serving (without label_number n xs) f ≡ serving xs f
serving_without n x [] f up there off = refl
serving_without n x (y ∷ ys) f up there off = elim (cases_eq y.number n) [
  | inl same ↦ (
      let is : Some y ≡ Some x = sym (at_here n y ys same) ∙ there in
      let it : x ≡ y = cc in
      let gone : is_for f y ≡ false = rw (rw it at off) refl in
      let left : without label_number n ys ≡ ys = (rw same at (without_above y.number ys up.0)) in
      rw (eq-eqb y.number n same, left) (sym (ap (option_map label_number) (later_serves y ys f gone))))
  | inr other ↦ rw (ne_eqb y.number n other)
      (under y (without label_number n ys) ys f (serving_without n x ys f up.1 (sym (at_there n y ys other) ∙ there) off))
]

none_without : (n : ℕ) (xs : List Label) (f : FlowId) → label_for xs f ≡ None → label_for (without label_number n xs) f ≡ None
none_without n [] f none = refl
none_without n (y ∷ ys) f none =
    let parts = none_first y ys f none in
    elim (cases_eq y.number n) [
      | inl same ↦ rw (eq-eqb y.number n same) (none_without n ys f parts.1)
      | inr other ↦ rw (ne_eqb y.number n other) (none_cons y (without label_number n ys) f parts.0 (none_without n ys f parts.1))
    ]

pub once_without : (n : ℕ) (xs : List Label) → ServesOnce xs → ServesOnce (without label_number n xs)
once_without n [] once = once
once_without n (y ∷ ys) once = elim (cases_eq y.number n) [
  | inl same ↦ rw (eq-eqb y.number n same) (once_without n ys once.1)
  | inr other ↦ rw (ne_eqb y.number n other) ((λ on. none_without n ys y.flow (once.0 on)), once_without n ys once.1)
]
