-- what a change of a pool's marks makes of them

use Rattle.std.proofs.Common.{◌≡◌, ◌≢◌, ℕ, ◌+◌, ◌-◌, ◌<◌, ◌≤◌, Bool, true, false, List, length, None, Some, refl, sym, ◌∙◌, arith, inl, inr}
use Rattle.std.specs.Prelude.{slice_index_or, slice_set, find, IsTrue, nat_eq, nat_le, map}
use Rattle.std.specs.List.{list_any, range_with_len}
use Rattle.std.proofs.lemmas.Bool.{cases_lt, cases_eq, cases_Bool, and_left, and_right, and_cases, and_parts, true≢false}
use Rattle.std.proofs.lemmas.List.FromFn.{length-map-range_with_len}
use Rattle.keyed_lists.specs.Keyed.{entered}
use Rattle.std.proofs.lemmas.List.{length-set, get_or-set_same, get_or-set_other}
use Rattle.net_types.specs.declared.channel.Channel.{Channel}
use Rattle.net_types.specs.Label.{is_label_number, label_channel_of}
use Rattle.branch_desk.specs.port_model.Setup.{is_between}
use Rattle.branch_desk.specs.port_model.Reclaiming.{greater_of, lesser_of}
use Rattle.label_pool.specs.declared.between.Between.{Between}
use Rattle.label_pool.specs.Marks.{marked, is_open, AreMarks}
use Rattle.label_pool.proofs.Marked.{NonePasses, find_first, find_none, length_off, length_on, marked_any, marked_on, marks_pass}
use Rattle.label_pool.proofs.Channels.{narrower}

-- no label below a place can be handed out
abbrev Closed : (least : ℕ) → Between → List Bool → (end : ℕ) → Type 0
Closed least b marks end = (k : ℕ) → k < end → is_open least b marks k ≡ false

pub closed_up_to : (least : ℕ) (b : Between) (marks : List Bool) (low end : ℕ) → Closed least b marks low
    → ((k : ℕ) → low ≤ k → k < end → is_open least b marks k ≡ false) → Closed least b marks end
closed_up_to least b marks low end before later k below = elim (cases_lt k low) [
  | inl under ↦ before k under
  | inr over ↦ later k over below
]

none_passes : (least : ℕ) (b : Between) (marks : List Bool) (end : ℕ) → Closed least b marks end
    → NonePasses (λ n. is_between b.from b.to (label_channel_of n)) least marks end
none_passes least b marks end closed k n e below = rw e (closed k below)

pub lowest_found : (least : ℕ) (b : Between) (marks : List Bool) (place : ℕ) → Closed least b marks place → is_open least b marks place ≡ true
    → find (λ n. is_between b.from b.to (label_channel_of n)) (marked least marks) ≡ Some (least + place)
lowest_found least b marks place closed is =
    find_first (λ n. is_between b.from b.to (label_channel_of n)) least marks place (least + place) refl (none_passes least b marks place closed) is

pub lowest_none : (least : ℕ) (b : Between) (marks : List Bool) → Closed least b marks (length marks)
    → find (λ n. is_between b.from b.to (label_channel_of n)) (marked least marks) ≡ None
lowest_none least b marks closed =
    find_none (λ n. is_between b.from b.to (label_channel_of n)) least marks (none_passes least b marks (length marks) closed)

-- a mark elsewhere stays
still : (marks : List Bool) (place k : ℕ) (m : Bool) → k ≢ place → slice_index_or (slice_set marks place m) k false ≡ slice_index_or marks k false
still marks place k m other = get_or-set_other marks place k m false other

open_off : (least : ℕ) (b : Between) (marks : List Bool) (place k : ℕ) → place < length marks → is_open least b marks k ≡ false
    → is_open least b (slice_set marks place false) k ≡ false
open_off least b marks place k inside none = elim (cases_eq k place) [
  | inl same ↦ rw (same, get_or-set_same marks place false false inside) refl
  | inr other ↦ rw (still marks place k false other) none
]

-- the label of a place is handed out
pub marks_taken : (least greatest : ℕ) (b : Between) (marks : List Bool) (count low place : ℕ) → AreMarks least greatest b marks count low
    → Closed least b marks place → place < length marks → slice_index_or marks place false ≡ true
    → AreMarks least greatest b (slice_set marks place false) (count - 1) (place + 1)
marks_taken least greatest b marks count low place are closed inside on = record {
  sized = length-set marks place false ∙ are.sized;
  labels = λ k marked_still. elim (cases_eq k place) [
    | inl same ↦ (
        let off : slice_index_or (slice_set marks place false) k false ≡ false = rw (same, get_or-set_same marks place false false inside) refl in
        absurd (true≢false (sym marked_still ∙ off)))
    | inr other ↦ are.labels k (sym (still marks place k false other) ∙ marked_still)
  ];
  counted = omega (arith, length_off least marks place on, are.counted);
  inside = omega (arith, inside, length-set marks place false);
  closed = λ k below. elim (cases_eq k place) [
    | inl same ↦ rw (same, get_or-set_same marks place false false inside) refl
    | inr other ↦ open_off least b marks place k inside (closed k (omega (arith, below, other)))
  ];
}

-- the label of a place is put back
pub marks_put : (least greatest : ℕ) (b : Between) (marks : List Bool) (count low place next : ℕ) → AreMarks least greatest b marks count low
    → place < length marks → slice_index_or marks place false ≡ false → IsTrue (is_label_number (least + place))
    → next ≤ low → next ≤ place → AreMarks least greatest b (slice_set marks place true) (count + 1) next
marks_put least greatest b marks count low place next are inside off label below_low below_place = record {
  sized = length-set marks place true ∙ are.sized;
  labels = λ k marked_now. elim (cases_eq k place) [
    | inl same ↦ rw same label
    | inr other ↦ are.labels k (sym (still marks place k true other) ∙ marked_now)
  ];
  counted = omega (arith, length_on least marks place inside off, are.counted);
  inside = omega (arith, inside, length-set marks place true, below_place);
  closed = λ k below. rw (still marks place k true (λ same. absurd (omega (arith, below, below_place, same)))) (are.closed k (omega (arith, below, below_low)));
}

-- the channels are narrowed
pub marks_narrowed : (least greatest : ℕ) (b c : Between) (from to : Channel) (marks : List Bool) (count low : ℕ)
    → c.from ≡ greater_of b.from from → c.to ≡ lesser_of b.to to
    → AreMarks least greatest b marks count low → AreMarks least greatest c marks count low
marks_narrowed least greatest b c from to marks count low is_from is_to are = record {
  sized = are.sized;
  labels = are.labels;
  counted = are.counted;
  inside = are.inside;
  closed = λ k below. elim (and_cases (slice_index_or marks k false) (is_between b.from b.to (label_channel_of (least + k))) (are.closed k below)) [
    | inl off ↦ and_left (slice_index_or marks k false) (is_between c.from c.to (label_channel_of (least + k))) off
    | inr outside ↦ and_right (slice_index_or marks k false) (is_between c.from c.to (label_channel_of (least + k)))
        (rw (is_from, is_to) (narrower b.from b.to from to (label_channel_of (least + k)) outside))
  ];
}

-- a label that isn't among the spare ones has no mark
pub unmarked : (least : ℕ) (marks : List Bool) (place number : ℕ) → number ≡ least + place → list_any (nat_eq number) (marked least marks) ≡ false
    → slice_index_or marks place false ≡ false
unmarked least marks place number e absent = elim (cases_Bool (slice_index_or marks place false)) [
  | inl on ↦ absurd (true≢false (sym (marked_any least marks place number e on) ∙ absent))
  | inr off ↦ off
]

-- the marks of a new pool
pub marks_new : (least greatest : ℕ) (b : Between) (marks : List Bool) (count : ℕ)
    → marks ≡ map is_label_number (range_with_len least (greatest + 1 - least)) → count ≡ length (marked least marks)
    → AreMarks least greatest b marks count 0
marks_new least greatest b marks count is counted = record {
  sized = rw is (length-map-range_with_len is_label_number least (greatest + 1 - least));
  labels = λ k on. marks_pass is_label_number least (greatest + 1 - least) k (least + k) refl (rw is at on);
  counted = sym counted;
  inside = omega arith;
  closed = λ k below. absurd (omega (arith, below));
}

-- the place at which a search ends before the marks do
pub record IsFirstOpen (least : ℕ) (b : Between) (marks : List Bool) (place : ℕ) : Type 0 where
  pub inside : place < length marks
  pub on : slice_index_or marks place false ≡ true
  pub is : is_open least b marks place ≡ true
  pub closed : Closed least b marks place

pub first_place : (least : ℕ) (b : Between) (marks seen : List Bool) (low place len : ℕ) → seen ≡ marks → Closed least b marks low
    → (low ≤ place) × (place ≤ length seen) → ((k : ℕ) → low ≤ k → k < place → is_open least b seen k ≡ false)
    → (place < length seen → is_open least b seen place ≡ true) → len ≡ length marks → place ≢ len → IsFirstOpen least b marks place
first_place least b marks seen low place len same before within later open_there size other =
    let seen_within : place ≤ length marks = rw same at within.1 in
    let inside : place < length marks = omega (arith, seen_within, size, other) in
    let is : is_open least b marks place ≡ true = (rw same at open_there) inside in
    record {
      inside = inside;
      on = (and_parts (slice_index_or marks place false) (is_between b.from b.to (label_channel_of (least + place))) is).0;
      is = is;
      closed = closed_up_to least b marks low place before (rw same at later);
    }

-- the place of a label that is put back
place_of : (least greatest n : ℕ) (marks : List Bool) → length marks ≡ greatest + 1 - least → least ≤ n → n ≤ greatest
    → list_any (nat_eq n) (marked least marks) ≡ false → (n - least < length marks) × (slice_index_or marks (n - least) false ≡ false)
place_of least greatest n marks sized low high absent =
    (omega arith, unmarked least marks (n - least) n (omega arith) absent)

pub marks_put_back : (least greatest : ℕ) (b : Between) (marks : List Bool) (count low n next : ℕ) → AreMarks least greatest b marks count low
    → least ≤ n → n ≤ greatest → list_any (nat_eq n) (marked least marks) ≡ false → IsTrue (is_label_number n)
    → next ≤ low → next ≤ n - least → AreMarks least greatest b (slice_set marks (n - least) true) (count + 1) next
marks_put_back least greatest b marks count low n next are above below absent label first second =
    let there = place_of least greatest n marks are.sized above below absent in
    let e : n ≡ least + (n - least) = omega arith in
    marks_put least greatest b marks count low (n - least) next are there.0 there.1 (rw e at label) first second

pub marked_put_back : (least greatest : ℕ) (b : Between) (marks : List Bool) (count low n : ℕ) → AreMarks least greatest b marks count low
    → least ≤ n → n ≤ greatest → list_any (nat_eq n) (marked least marks) ≡ false
    → marked least (slice_set marks (n - least) true) ≡ entered nat_le n (marked least marks)
marked_put_back least greatest b marks count low n are above below absent =
    let there = place_of least greatest n marks are.sized above below absent in
    marked_on least marks (n - least) n (omega arith) there.0 there.1
