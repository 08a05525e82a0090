-- A desk and its tickets, as requests are asked and stand no longer.

use Rattle.std.proofs.Common.{◌≡◌, ℕ, ◌+◌, ◌<◌, ◌≤◌, Bool, true, false, not, List, [], ◌∷◌, ◌++◌, length, get_or, filter, find, refl, sym, ap, ◌∙◌, arith, Option, Some, None, is_some, option_map, Contains, inl, inr}
use Rattle.std.specs.List.{list_any, remove}
use Rattle.std.proofs.lemmas.Bool.{cases_lt, eqb-true}
use Rattle.std.proofs.lemmas.List.{get_or_default}
use Rattle.std.proofs.lemmas.List.Elements.{All-filter, All-push}
use Rattle.std.proofs.lemmas.List.Kept.{AllPairs-filter}
use Rattle.std.proofs.lemmas.List.Quantifiers.{all_pairs_push}
use Rattle.net_types.specs.declared.channel.End.{End}
use Rattle.gsmp_wire.specs.declared.request.Request.{Request}
use Rattle.branch_desk.specs.port_model.Desk.{Desk, Standing}
use Rattle.branch_desk.specs.port_model.Requests.{is_on, withdraws}
use Rattle.branch_desk.specs.Requests.{AreApart, AreRising}
use Rattle.branch_desk.proofs.Apart.{apart_inputs, found_any_mapped}
use Rattle.branch_desk.proofs.Keys.{none_passes}
use Rattle.branch_desk.proofs.Numbers.{find_passes, found_number, has, left_at, none_left, not_true}
use Rattle.controller_requests.specs.Book.{IsBook}
use Rattle.controller_requests.proofs.Lists.{filter_twice, found_contains, number_there, only_taken}

-- *Some stand no longer*

pub book_filter : (p : Standing → Bool) (old new : Desk) (tickets left : List Standing) → IsBook old tickets → new.next ≡ old.next → new.standing ≡ filter p old.standing → left ≡ filter p tickets → IsBook new left
book_filter p old new tickets left book next standing rest = record {
  same = rest ∙ ap (filter p) book.same ∙ sym standing;
  given = rw (rest, next) (All-filter p (λ (s : Standing). s.number < old.next) tickets book.given);
  rising = rw rest (AllPairs-filter (λ (a b : Standing). a.number < b.number) p tickets book.rising);
  apart = rw rest (AllPairs-filter (λ (a b : Standing). withdraws b.request a.request ≡ false) p tickets book.apart);
}

-- the one at a place
pub book_remove : (old new : Desk) (tickets left : List Standing) (place : ℕ) (s : Standing) → IsBook old tickets → place < length tickets → s ≡ get_or tickets place s → new.next ≡ old.next → new.standing ≡ filter (λ x. not (has s.number x)) old.standing → left ≡ remove tickets place → IsBook new left
book_remove old new tickets left place s book within is next standing rest =
    let number : (get_or tickets place s).number ≡ s.number = ap (λ (x : Standing). x.number) (sym is) in
    book_filter (λ (x : Standing). not (has s.number x)) old new tickets left book next standing (rest ∙ sym (left_at s.number tickets place s book.rising within number))

pub standing_removed : (old : Desk) (tickets : List Standing) (place : ℕ) (s : Standing) → IsBook old tickets → place < length tickets → s ≡ get_or tickets place s → filter (λ x. not (has s.number x)) old.standing ≡ remove old.standing place
standing_removed old tickets place s book within is =
    let number : (get_or tickets place s).number ≡ s.number = ap (λ (x : Standing). x.number) (sym is) in
    rw (← book.same) (left_at s.number tickets place s book.rising within number)

-- *One is asked*

pub book_push : (old new : Desk) (tickets : List Standing) (request : Request) → IsBook old tickets → list_any (λ s. withdraws request s.request) old.standing ≡ false → new.next ≡ old.next + 1 → new.standing ≡ old.standing ++ record { number = old.next; request = request } ∷ []
    → IsBook new (tickets ++ record { number = old.next; request = request } ∷ [])
book_push old new tickets request book free next standing =
    let s : Standing = record { number = old.next; request = request } in
    record {
      same = ap (λ (xs : List Standing). xs ++ s ∷ []) book.same ∙ sym standing;
      given = rw next (All-push (λ (x : Standing). x.number < old.next + 1) tickets s (λ k d w. (let low = book.given k d w in omega (arith, low))) (omega arith));
      rising = all_pairs_push (λ (a b : Standing). a.number < b.number) tickets s book.rising (λ k d w. book.given k d w);
      apart = all_pairs_push (λ (a b : Standing). withdraws b.request a.request ≡ false) tickets s book.apart (λ k d w. none_passes (λ (x : Standing). withdraws request x.request) tickets k d (rw (← book.same) at free) w);
    }

-- *The one on an input*

-- the number of the one that is found
pub record IsFound (input : End) (standing : List Standing) (n : ℕ) : Type 0 where
  pub request : Standing
  pub number : request.number ≡ n
  pub on : is_on input request.request ≡ true
  pub there : Contains standing request

pub found_on : (input : End) (standing : List Standing) (n : ℕ) → Some n ≡ option_map (λ (s : Standing). s.number) (find (λ s. is_on input s.request) standing) → IsFound input standing n
found_on input standing n h = by (find (λ s. is_on input s.request) standing) refl h where
  by : (o : Option Standing) → find (λ s. is_on input s.request) standing ≡ o → Some n ≡ option_map (λ (s : Standing). s.number) o → IsFound input standing n
  by None e h = absurd (cc h)
  by (Some s) e h = record {
    request = s;
    number = cc h;
    on = find_passes (λ (x : Standing). is_on input x.request) standing s e;
    there = found_contains (λ (x : Standing). is_on input x.request) standing s e;
  }

pub found_number_there : (input : End) (standing : List Standing) (n : ℕ) → IsFound input standing n → list_any (has n) standing ≡ true
found_number_there input standing n found = rw (← found.number) (number_there standing found.request found.there)

above : (k i : ℕ) → i ≤ k → (k ≡ i → ⊥) → i < k
above k i le differ = elim (cases_lt i k) [ inl low ↦ low | inr ge ↦ absurd (differ (omega (arith, le, ge))) ]

same_place : (standing : List Standing) (i j : ℕ) (d : Standing) → AreRising standing → i < length standing → j < length standing → (get_or standing i d).number ≡ (get_or standing j d).number → i ≡ j
same_place standing i j d rising wi wj same =
    elim (cases_lt i j) [
      | inl low ↦ absurd (let pair = rising i j d low wj in omega (arith, pair, same))
      | inr ge ↦ elim (cases_lt j i) [
        | inl high ↦ absurd (let pair = rising j i d high wi in omega (arith, pair, same))
        | inr le ↦ omega (arith, ge, le)
      ]
    ]

-- what stands on the input is the one with the number
pub on_taken : (input : End) (standing : List Standing) (n i : ℕ) → AreRising standing → AreApart standing → IsFound input standing n → i < length standing → ((d : Standing) → (get_or standing i d).number ≡ n) → filter (λ s. not (is_on input s.request)) standing ≡ remove standing i
on_taken input standing n i rising apart found within numbered =
    let by_input = apart_inputs standing apart in
    let there = found.there in
    let here = λ (d : Standing). same_place standing i there.0 d rising within there.1 (numbered d ∙ sym found.number ∙ ap (λ (x : Standing). x.number) (sym (get_or_default standing there.0 d found.request there.1 ∙ there.2))) in
    let on = λ (d : Standing). (let at : get_or standing i d ≡ found.request = ap (λ k. get_or standing k d) (here d) ∙ get_or_default standing there.0 d found.request there.1 ∙ there.2 in
    let is : is_on input (get_or standing i d).request ≡ true = ap (λ (x : Standing). is_on input x.request) at ∙ found.on in is) in
    only_taken (λ (s : Standing). is_on input s.request) standing i (record {
      within = within;
      here = on;
      others = λ k d w differ.
          not_true (is_on input (get_or standing k d).request) (λ h.
          elim (cases_lt k i) [
            | inl low ↦ by_input.pairs k i d input low within h (on d)
            | inr ge ↦ by_input.pairs i k d input (above k i ge differ) w (on d) h
          ]);
    })

-- *The ticket of a number*

pub ticket_is : (desk : Desk) (tickets : List Standing) (s ticket : Standing) (n : ℕ) → IsBook desk tickets → Contains desk.standing s → n ≡ s.number → find (has n) tickets ≡ Some ticket → ticket ≡ s
ticket_is desk tickets s ticket n book there number found =
    let held : Contains tickets s = rw book.same there in
    let at : find (has n) tickets ≡ Some (get_or tickets held.0 s) = found_number n tickets held.0 s book.rising held.1 (ap (λ (x : Standing). x.number) held.2 ∙ sym number) in
    let same : Some ticket ≡ Some s = sym found ∙ at ∙ ap Some held.2 in
    cc same

pub ticket_number : (tickets : List Standing) (ticket : Standing) (n : ℕ) → find (has n) tickets ≡ Some ticket → ticket.number ≡ n
ticket_number tickets ticket n found = eqb-true ticket.number n (find_passes (has n) tickets ticket found)

-- what failed stands no longer, and its ticket is spent
pub failed_left : (old answered left : Desk) (s ticket : Standing) (n : ℕ) → answered ≡ record old { standing = filter (λ x. not (has s.number x)) old.standing } → s.number ≡ n → ticket.number ≡ n
    → left ≡ record answered { standing = filter (λ x. not (has ticket.number x)) answered.standing } → left ≡ record old { standing = filter (λ x. not (has n x)) old.standing }
failed_left old answered left s ticket n is number spent after =
    after ∙ (rw (is, spent, number) (ap (λ (xs : List Standing). let d : Desk = record old { standing = xs } in d) (filter_twice (has n) old.standing)))

pub none_on : (input : End) (standing : List Standing) → None ≡ option_map (λ (s : Standing). s.number) (find (λ s. is_on input s.request) standing) → filter (λ s. not (is_on input s.request)) standing ≡ standing
none_on input standing none =
    let absent : list_any (λ (s : Standing). is_on input s.request) standing ≡ false =
    sym (found_any_mapped (λ (s : Standing). s.number) (λ (s : Standing). is_on input s.request) standing) ∙ ap (λ o. is_some o) (sym none) in
    none_left (λ (s : Standing). is_on input s.request) standing absent
