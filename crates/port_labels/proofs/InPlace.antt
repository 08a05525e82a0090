-- labels at the places of their numbers: how one is found, and what a change of a place makes of them

use Rattle.std.proofs.Common.{◌≡◌, ◌≢◌, ℕ, zero, suc, ◌+◌, ◌-◌, ◌<◌, ◌≤◌, List, [], ◌∷◌, length, Option, None, Some, refl, sym, ap, ◌∙◌, arith, inl, inr}
use Rattle.std.specs.Prelude.{slice_get, slice_set, option_map, replicate, IsTrue, IsSome}
use Rattle.std.specs.List.{AllByRecursion}
use Rattle.std.proofs.lemmas.Bool.{cases_lt, eq-eqb, ne_eqb, lt-leb}
use Rattle.std.proofs.lemmas.Option.{slice_get_cases}
use Rattle.net_types.specs.declared.number.Instance.{Instance}
use Rattle.net_types.specs.Label.{is_label_number}
use Rattle.keyed_lists.specs.Keyed.{at, without, entered, key_le}
use Rattle.branch_desk.specs.port_model.Labels.{Label, label_number}
use Rattle.port_labels.specs.Book.{IsInRange, Rises}
use Rattle.port_labels.specs.Held.{shown, labels_in, number_in, instance_in, AreInPlace}
use Rattle.port_labels.specs.declared.held.Held.{Held}
use Rattle.port_labels.proofs.Numbered.{at_here, at_there, absent_above, without_above, entered_above}

-- all of them come behind a lower number
pub above_first : (i : Instance) (n f : ℕ) (ps : List (Option Held)) → n < f → AreInPlace i f ps → AllByRecursion (λ x. n < x.number) (labels_in ps)
above_first i n f [] below are = tt
above_first i n f (None ∷ ps) below are = above_first i n (f + 1) ps (omega arith) are
above_first i n f (Some h ∷ ps) below are = (omega (arith, are.0), above_first i n (f + 1) ps (omega arith) are.3)

pub rises : (i : Instance) (f : ℕ) (ps : List (Option Held)) → AreInPlace i f ps → Rises (labels_in ps)
rises i f [] are = tt
rises i f (None ∷ ps) are = rises i (f + 1) ps are
rises i f (Some h ∷ ps) are =
    (above_first i (number_in h.stage) (f + 1) ps (omega (arith, are.0)) are.3, rises i (f + 1) ps are.3)

pub fewer : (ps : List (Option Held)) → length (labels_in ps) ≤ length ps
fewer [] = omega arith
fewer (None ∷ ps) = omega (arith, fewer ps)
fewer (Some h ∷ ps) = omega (arith, fewer ps)

-- what is found of a number
pub found_in : (i : Instance) (f n k : ℕ) (ps : List (Option Held)) (p : Option Held) → AreInPlace i f ps → n ≡ f + k → slice_get ps k ≡ Some p
    → at label_number n (labels_in ps) ≡ option_map shown p
found_in i f n k [] p are e is = absurd (cc is)
found_in i f n zero (None ∷ ps) p are e is =
    let it : None ≡ p = cc in rw (← it) (absent_above n (labels_in ps) (above_first i n (f + 1) ps (omega arith) are))
found_in i f n zero (Some h ∷ ps) p are e is =
    let it : Some h ≡ p = cc in rw (← it) (at_here n (shown h) (labels_in ps) (omega (arith, are.0)))
found_in i f n (suc k) (None ∷ ps) p are e is = found_in i (f + 1) n k ps p are (omega arith) is
found_in i f n (suc k) (Some h ∷ ps) p are e is =
    at_there n (shown h) (labels_in ps) (λ same. absurd (omega (arith, are.0, same))) ∙ found_in i (f + 1) n k ps p are.3 (omega arith) is

-- none is found outside the range
pub absent_below : (i : Instance) (f n : ℕ) (ps : List (Option Held)) → AreInPlace i f ps → n < f → at label_number n (labels_in ps) ≡ None
absent_below i f n ps are below = absent_above n (labels_in ps) (above_first i n f ps below are)

pub absent_past : (i : Instance) (f n : ℕ) (ps : List (Option Held)) → AreInPlace i f ps → f + length ps ≤ n → at label_number n (labels_in ps) ≡ None
absent_past i f n [] are past = refl
absent_past i f n (None ∷ ps) are past = absent_past i (f + 1) n ps are (omega arith)
absent_past i f n (Some h ∷ ps) are past =
    at_there n (shown h) (labels_in ps) (λ same. absurd (omega (arith, are.0, same))) ∙ absent_past i (f + 1) n ps are.3 (omega arith)

-- a place is emptied
pub emptied : (i : Instance) (f n k : ℕ) (ps : List (Option Held)) → AreInPlace i f ps → n ≡ f + k → labels_in (slice_set ps k None) ≡ without label_number n (labels_in ps)
emptied i f n k [] are e = refl
emptied i f n zero (None ∷ ps) are e = sym (without_above n (labels_in ps) (above_first i n (f + 1) ps (omega arith) are))
emptied i f n zero (Some h ∷ ps) are e =
    rw (eq-eqb (number_in h.stage) n (omega (arith, are.0))) (sym (without_above n (labels_in ps) (above_first i n (f + 1) ps (omega arith) are.3)))
emptied i f n (suc k) (None ∷ ps) are e = emptied i (f + 1) n k ps are (omega arith)
emptied i f n (suc k) (Some h ∷ ps) are e =
    rw (ne_eqb (number_in h.stage) n (λ same. absurd (omega (arith, are.0, same))))
    (ap (λ (t : List Label). shown h ∷ t) (emptied i (f + 1) n k ps are.3 (omega arith)))

pub emptied_in_place : (i : Instance) (f k : ℕ) (ps : List (Option Held)) → AreInPlace i f ps → AreInPlace i f (slice_set ps k None)
emptied_in_place i f k [] are = are
emptied_in_place i f zero (None ∷ ps) are = are
emptied_in_place i f zero (Some h ∷ ps) are = are.3
emptied_in_place i f (suc k) (None ∷ ps) are = emptied_in_place i (f + 1) k ps are
emptied_in_place i f (suc k) (Some h ∷ ps) are = (are.0, are.1, are.2, emptied_in_place i (f + 1) k ps are.3)

-- a label comes to its place
pub filled : (i : Instance) (f k : ℕ) (h : Held) (ps : List (Option Held)) → AreInPlace i f ps → number_in h.stage ≡ f + k → slice_get ps k ≡ Some None
    → labels_in (slice_set ps k (Some h)) ≡ entered (key_le label_number) (shown h) (labels_in ps)
filled i f k h [] are e is = absurd (cc is)
filled i f zero h (None ∷ ps) are e is =
    sym (entered_above (shown h) (labels_in ps) (above_first i (number_in h.stage) (f + 1) ps (omega (arith, e)) are))
filled i f zero h (Some g ∷ ps) are e is = absurd (cc is)
filled i f (suc k) h (None ∷ ps) are e is = filled i (f + 1) k h ps are (omega (arith, e)) is
filled i f (suc k) h (Some g ∷ ps) are e is =
    rw (lt-leb (number_in h.stage) (number_in g.stage) (omega (arith, e, are.0)))
    (ap (λ (t : List Label). shown g ∷ t) (filled i (f + 1) k h ps are.3 (omega (arith, e)) is))

pub filled_in_place : (i : Instance) (f k : ℕ) (h : Held) (ps : List (Option Held)) → AreInPlace i f ps → number_in h.stage ≡ f + k
    → instance_in h.stage ≡ i → IsTrue (is_label_number (number_in h.stage)) → slice_get ps k ≡ Some None → AreInPlace i f (slice_set ps k (Some h))
filled_in_place i f k h [] are e of label is = absurd (cc is)
filled_in_place i f zero h (None ∷ ps) are e of label is = (
  let at : number_in h.stage ≡ f = omega (arith, e) in at,
  of,
  let at : number_in h.stage ≡ f = omega (arith, e) in rw at at label,
  are,
)
filled_in_place i f zero h (Some g ∷ ps) are e of label is = absurd (cc is)
filled_in_place i f (suc k) h (None ∷ ps) are e of label is = filled_in_place i (f + 1) k h ps are (omega (arith, e)) of label is
filled_in_place i f (suc k) h (Some g ∷ ps) are e of label is =
    (are.0, are.1, are.2, filled_in_place i (f + 1) k h ps are.3 (omega (arith, e)) of label is)

-- what is known of the label at a place
pub placed : (i : Instance) (f k : ℕ) (ps : List (Option Held)) (h : Held) → AreInPlace i f ps → slice_get ps k ≡ Some (Some h)
    → (number_in h.stage ≡ f + k) × (instance_in h.stage ≡ i) × IsTrue (is_label_number (number_in h.stage))
placed i f k [] h are is = absurd (cc is)
placed i f zero (None ∷ ps) h are is = absurd (cc is)
placed i f zero (Some g ∷ ps) h are is = let it : g ≡ h = cc in rw (← it) (omega (arith, are.0), are.1, rw (← are.0) at are.2)
placed i f (suc k) (None ∷ ps) h are is = let p = placed i (f + 1) k ps h are is in (omega (arith, p.0), p.1, p.2)
placed i f (suc k) (Some g ∷ ps) h are is = let p = placed i (f + 1) k ps h are.3 is in (omega (arith, p.0), p.1, p.2)

-- the labels at empty places
pub none_held : (i : Instance) (f n : ℕ) → (labels_in (replicate n None) ≡ []) × AreInPlace i f (replicate n None)
none_held i f zero = (refl, tt)
none_held i f (suc n) = none_held i (f + 1) n

pub inside : (i : Instance) (least greatest f : ℕ) (all : List Label) (ps : List (Option Held)) → AreInPlace i f ps → least ≤ f → f + length ps ≤ greatest + 1
    → AllByRecursion (IsInRange (record { instance = i; least = least; greatest = greatest; labels = all })) (labels_in ps)
inside i least greatest f all [] are low high = tt
inside i least greatest f all (None ∷ ps) are low high = inside i least greatest (f + 1) all ps are (omega arith) (omega arith)
inside i least greatest f all (Some h ∷ ps) are low high = (
  (omega (arith, are.0), omega (arith, are.0), rw (← are.0) at are.2),
  inside i least greatest (f + 1) all ps are.3 (omega arith) (omega arith),
)

-- a label that is held lies in the range
pub range_of : (i : Instance) (f n : ℕ) (ps : List (Option Held)) → AreInPlace i f ps → at label_number n (labels_in ps) ≢ None
    → (f ≤ n) × (n < f + length ps)
range_of i f n ps are there = elim (cases_lt n f) [
  | inl below ↦ absurd (there (absent_below i f n ps are below))
  | inr above ↦ elim (cases_lt n (f + length ps)) [
    | inl inner ↦ (above, inner)
    | inr past ↦ absurd (there (absent_past i f n ps are past))
  ]
]

pub some_is : {A : Type 0} (o : Option A) → IsSome o → o ≢ None
some_is None some = absurd (cc some)
some_is (Some x) some = λ e. absurd (cc e)

-- what is known of a label that is taken out
pub record IsTaken (i : Instance) (f n : ℕ) (ps : List (Option Held)) (h : Held) : Type 0 where
  pub low : f ≤ n
  pub high : n < f + length ps
  pub found : at label_number n (labels_in ps) ≡ Some (shown h)
  pub number : number_in h.stage ≡ n
  pub instance : instance_in h.stage ≡ i
  pub label : IsTrue (is_label_number (number_in h.stage))

pub taken : (i : Instance) (f n : ℕ) (ps : List (Option Held)) (p : Option Held) (h : Held) → AreInPlace i f ps
    → IsSome (at label_number n (labels_in ps)) → slice_get ps (n - f) ≡ Some p → p ≡ Some h → IsTaken i f n ps h
taken i f n ps p h are there is it =
    let within = range_of i f n ps are (some_is _ there) in
    let at_place = placed i f (n - f) ps h are (is ∙ ap Some it) in
    record {
      low = within.0;
      high = within.1;
      found = found_in i f n (n - f) ps p are (omega (arith, within.0)) is ∙ ap (option_map shown) it;
      number = omega (arith, at_place.0, within.0);
      instance = at_place.1;
      label = at_place.2;
    }

-- a place of the range where no label is held
pub is_empty : (i : Instance) (f n : ℕ) (ps : List (Option Held)) → AreInPlace i f ps → f ≤ n → n < f + length ps → at label_number n (labels_in ps) ≡ None
    → slice_get ps (n - f) ≡ Some None
is_empty i f n ps are low high absent =
    let there = slice_get_cases ps (n - f) in
    elim there.1 [
      | inl here ↦ by here.0 here.2 (found_in i f n (n - f) ps here.0 are (omega arith) here.2)
      | inr past ↦ absurd (omega (arith, past.0))
    ]
  where
    by : (p : Option Held) → slice_get ps (n - f) ≡ Some p → at label_number n (labels_in ps) ≡ option_map shown p → slice_get ps (n - f) ≡ Some None
    by None is found = is
    by (Some h) is found = absurd (cc (sym absent ∙ found))
