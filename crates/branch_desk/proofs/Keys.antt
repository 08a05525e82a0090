-- The numbers by end, and the requests that have a key.

use Rattle.std.proofs.Common.{◌≡◌, ℕ, ◌+◌, ◌<◌, ◌≤◌, ◌==◌, ◌&&◌, ◌||◌, Bool, true, false, not, cond, nat_lt, List, [], ◌∷◌, ◌++◌, length, get_or, find, refl, sym, ap, ◌∙◌, arith, Option, Some, None, is_some, option_map, inl, inr, Result, Ok, Err, IfErr, IfNone, IfSome}
use Rattle.std.specs.declared.cmp.Ordering.{Ordering}
use Rattle.std.specs.declared.cmp.Ordering.TheVariants.{Less, Equal, Greater}
use Rattle.std.specs.Cmp.{tied_itself}
use Rattle.std.specs.Option.{option_map_or}
use Rattle.std.proofs.lemmas.Bool.{cases_lt, eqb-true, eq-eqb}
use Rattle.std.proofs.lemmas.Bool.Decides.{nat_tests}
use Rattle.std.specs.List.{sum_by, list_any, insert, remove}
use Rattle.std.proofs.lemmas.List.Edits.{length-insert, length-remove}
use Rattle.std.proofs.lemmas.List.Folds.{Any-from_list_any, list_any_at, list_any_none}
use Rattle.std.proofs.lemmas.List.Sums.{sum_by-cons, sum_by-remove, sum_by_push}
use Rattle.std.proofs.lemmas.List.Sorted.{IsPermutation-insert, sum_by-IsPermutation}
use Rattle.net_types.specs.declared.channel.End.{End}
use Rattle.gsmp_wire.specs.declared.request.Request.{Request}
use Rattle.port_model.specs.crossbar_model.Channels.{end_cmp}
use Rattle.port_model.specs.crossbar_model.Crossbar.{same_end}
use Rattle.net_types.specs.declared.node.PortNo.{PortNo}
use Rattle.port_model.specs.Desk.{Standing}
use Rattle.port_model.specs.Messages.{all_of}
use Rattle.port_model.specs.Requests.{is_delete_all}
use Rattle.branch_desk.specs.declared.by_end.Numbered.{Numbered}
use Rattle.branch_desk.specs.ByEnd.{IsPlaceOf, IsGapFor, IsEntered, entry_of, has_end, has_other, is_entry}
use Rattle.branch_desk.specs.Requests.{AreRising, deleted_of}
use Rattle.branch_desk.specs.ByEnd.{AreKeysOf, numbered_by}
use Rattle.branch_desk.proofs.Apart.{IsApartBy, any_agree, delete_is_key, find_agree, found_key, has_key, none_beside}
use Rattle.branch_desk.proofs.Ends.{end_cmp_total, end_from_same, same_itself}
use Rattle.branch_desk.proofs.Numbers.{found_number, has, not_true}

-- elements that pass a test are counted exactly where there is one
pub any_is_counted : {X : Type 0} (p : X → Bool) (xs : List X) → list_any p xs ≡ nat_lt 0 (sum_by (λ x. cond (p x) 1 0) xs)
any_is_counted p [] = refl
any_is_counted p (x ∷ xs) =
    rw (sum_by-cons (λ y. cond (p y) 1 0) x xs)
    (let by : (b : Bool) (n : ℕ) (r : Bool) → r ≡ nat_lt 0 n → (b || r) ≡ nat_lt 0 (cond b 1 0 + n) = λ b n r e.
    elim b as (λ v. (v || r) ≡ nat_lt 0 (cond v 1 0 + n)) [
      | true ↦ grind (arith)
      | false ↦ grind (arith, e)
    ] in
    by (p x) _ _ (any_is_counted p xs))

pub count-le : {X : Type 0} (p : X → Bool) (xs : List X) → sum_by (λ x. cond (p x) 1 0) xs ≤ length xs
count-le p [] = omega arith
count-le p (x ∷ xs) =
    rw (sum_by-cons (λ y. cond (p y) 1 0) x xs)
    (let by : (b : Bool) → cond b 1 0 ≤ 1 = λ b. elim b as (λ v. cond v 1 0 ≤ 1) [ true ↦ omega arith | false ↦ omega arith ] in
    omega (arith, by (p x), count-le p xs))

-- *Places*

differ : (end : End) (entry : Numbered) (r : Ordering) → end_cmp entry.end end ≡ r → (r ≡ Equal → ⊥) → has_end end entry ≡ false
differ end entry r is apart =
    not_true (has_end end entry) (λ h. apart (sym is ∙ ap (λ x. end_cmp entry.end x) (end_from_same end entry.end h) ∙ tied_itself end_cmp_total entry.end))

pub any_at : (numbers : List Numbered) (end : End) (i : ℕ) (d : Numbered) → IsPlaceOf numbers end i → list_any (is_entry end (get_or numbers i d).number) numbers ≡ true
any_at numbers end i d at =
    let here : (get_or numbers i d).end ≡ end = at.here d in
    let same : same_end end (get_or numbers i d).end ≡ true = rw here (same_itself end) in
    list_any_at (is_entry end (get_or numbers i d).number) numbers i d at.within
    (rw (same, eq-eqb (get_or numbers i d).number (get_or numbers i d).number refl) refl)

pub none_at_gap : (numbers : List Numbered) (end : End) (i : ℕ) → IsGapFor numbers end i → list_any (has_end end) numbers ≡ false
none_at_gap numbers end i gap =
    list_any_none (has_end end) numbers (λ k d within.
    elim (cases_lt k i) [
      | inl lt ↦ differ end (get_or numbers k d) Less (gap.before k d lt) (λ e. cc e)
      | inr ge ↦ differ end (get_or numbers k d) Greater (gap.after k d ge within) (λ e. cc e)
    ])

pub gap_from_not : (numbers : List Numbered) (end : End) (r : Result ℕ ℕ) → IfErr r (IsGapFor numbers end) → ((i : ℕ) → r ≡ Ok i → ⊥) → list_any (has_end end) numbers ≡ false
gap_from_not numbers end (Ok i) absent not_ok = absurd (not_ok i refl)
gap_from_not numbers end (Err i) absent not_ok = none_at_gap numbers end i absent

-- *Entries*

pub entered : (numbers : List Numbered) (i : ℕ) (entry : Numbered) → i ≤ length numbers → IsEntered numbers (insert numbers i entry) (Some entry)
entered numbers i entry within = record {
  longer = length-insert numbers i entry within;
  counted = λ test.
      let f : Numbered → ℕ = λ e. cond (test e) 1 0 in
      let whole : sum_by f (insert numbers i entry) ≡ sum_by f (entry ∷ numbers) = sum_by-IsPermutation f (entry ∷ numbers) (insert numbers i entry) (IsPermutation-insert numbers i entry) in
      omega (arith, whole, sum_by-cons f entry numbers);
}

pub nothing_entered : (numbers : List Numbered) → IsEntered numbers numbers None
nothing_entered numbers = record { longer = omega arith; counted = λ test. omega arith }

-- the only one of the end is the one with the number
only_entry : (end : End) (number : ℕ) (entry : Numbered) → entry.end ≡ end → has_other end number entry ≡ false → entry ≡ record { end = end; number = number }
only_entry end number entry at other = λ i. record { end = at i; number = number_is i } where
  same : same_end end entry.end ≡ true
  same = rw at (same_itself end)

  by : (b : Bool) → (entry.number == number) ≡ b → (same_end end entry.end && not b) ≡ false → entry.number ≡ number
  by true e h = eqb-true entry.number number e
  by false e h = absurd (cc (sym (ap (λ b. b && true) same) ∙ h))

  number_is : entry.number ≡ number
  number_is = by (entry.number == number) refl other

pub none_passes : {X : Type 0} (p : X → Bool) (xs : List X) (k : ℕ) (d : X) → list_any p xs ≡ false → k < length xs → p (get_or xs k d) ≡ false
none_passes p xs k d none within = not_true (p (get_or xs k d)) (λ h. cc (sym (list_any_at p xs k d within h) ∙ none))

pub taken : (numbers : List Numbered) (i : ℕ) (end : End) (number : ℕ) → IsPlaceOf numbers end i → list_any (has_other end number) numbers ≡ false → IsEntered (remove numbers i) numbers (Some (record { end = end; number = number }))
taken numbers i end number at alone =
    let entry : Numbered = record { end = end; number = number } in
    let is : get_or numbers i entry ≡ entry = only_entry end number (get_or numbers i entry) (at.here entry) (none_passes (has_other end number) numbers i entry alone at.within) in
    record {
      longer = sym (length-remove numbers i at.within);
      counted = λ test. (let whole = sum_by-remove (λ (e : Numbered). cond (test e) 1 0) numbers i entry at.within in sym (rw is at whole));
    }

-- *The index of a key*

module _ (key : Request → Option End) where
  pub any_by_key : (xs : List Standing) (numbers : List Numbered) (test : Numbered → Bool) (p : Standing → Bool) → AreKeysOf key xs numbers → ((s : Standing) → option_map_or test (numbered_by key s) false ≡ p s) → list_any test numbers ≡ list_any p xs
  any_by_key xs numbers test p keys same =
      any_is_counted test numbers ∙ ap (nat_lt 0) (keys.counted test)
      ∙ sym (any_is_counted (λ s. option_map_or test (numbered_by key s) false) xs)
      ∙ any_agree (λ s. option_map_or test (numbered_by key s) false) p same xs

  pub keys-le : (xs : List Standing) (numbers : List Numbered) → AreKeysOf key xs numbers → length numbers ≤ length xs
  keys-le xs numbers keys = omega (arith, keys.many, count-le (λ s. is_some (key s.request)) xs)

  entry_there : (n : ℕ) (o : Option End) → is_some (entry_of n o) ≡ is_some o
  entry_there n None = refl
  entry_there n (Some end) = refl

  pub keys_push : (xs : List Standing) (s : Standing) (old new : List Numbered) → AreKeysOf key xs old → IsEntered old new (numbered_by key s) → AreKeysOf key (xs ++ s ∷ []) new
  keys_push xs s old new keys entry = record {
    many = omega (arith, keys.many, rw (entry_there s.number (key s.request)) at entry.longer, sum_by_push (λ (x : Standing). cond (is_some (key x.request)) 1 0) xs s);
    counted = λ test. omega (arith, keys.counted test, entry.counted test, sum_by_push (λ (x : Standing). cond (option_map_or test (numbered_by key x) false) 1 0) xs s);
  }

  pub keys_remove : (xs : List Standing) (i : ℕ) (s : Standing) (old new : List Numbered) → i < length xs → s ≡ get_or xs i s → AreKeysOf key xs old → IsEntered new old (numbered_by key s) → AreKeysOf key (remove xs i) new
  keys_remove xs i s old new within here keys entry =
      let many = sum_by-remove (λ (x : Standing). cond (is_some (key x.request)) 1 0) xs i s within in
      let counted = λ (test : Numbered → Bool). sum_by-remove (λ (x : Standing). cond (option_map_or test (numbered_by key x) false) 1 0) xs i s within in
      let here' : get_or xs i s ≡ s = sym here in
      record {
        many = omega (arith, keys.many, rw (entry_there s.number (key s.request)) at entry.longer, rw here' at many);
        counted = λ test. omega (arith, keys.counted test, entry.counted test, rw here' at (counted test));
      }

  on_end : (end : End) (s : Standing) → option_map_or (has_end end) (numbered_by key s) false ≡ has_key key end s.request
  on_end end s = by (key s.request) where
    by : (o : Option End) → option_map_or (has_end end) (entry_of s.number o) false ≡ option_map_or (same_end end) o false
    by None = refl
    by (Some e) = refl

  other_on : (end : End) (n : ℕ) (s : Standing) → option_map_or (has_other end n) (numbered_by key s) false ≡ (has_key key end s.request && not (s.number == n))
  other_on end n s = by (key s.request) where
    by : (o : Option End) → option_map_or (has_other end n) (entry_of s.number o) false ≡ (option_map_or (same_end end) o false && not (s.number == n))
    by None = refl
    by (Some e) = refl

  entry_on : (end : End) (n : ℕ) (s : Standing) → option_map_or (is_entry end n) (numbered_by key s) false ≡ (has_key key end s.request && has n s)
  entry_on end n s = by (key s.request) where
    by : (o : Option End) → option_map_or (is_entry end n) (entry_of s.number o) false ≡ (option_map_or (same_end end) o false && has n s)
    by None = refl
    by (Some e) = refl

  -- the key of a request that stands is there, and no other number has it
  pub key_there : (xs : List Standing) (i : ℕ) (s : Standing) (numbers : List Numbered) → i < length xs → s ≡ get_or xs i s → AreKeysOf key xs numbers → IfSome (key s.request) (λ end. list_any (has_end end) numbers ≡ true)
  key_there xs i s numbers within here keys = by (key s.request) refl where
    by : (o : Option End) → key s.request ≡ o → IfSome o (λ end. list_any (has_end end) numbers ≡ true)
    by None e = tt
    by (Some end) e =
        any_by_key xs numbers (has_end end) (λ x. has_key key end x.request) keys (on_end end)
        ∙ list_any_at (λ x. has_key key end x.request) xs i s within (rw (sym here, e) (same_itself end))

  pub key_alone : (xs : List Standing) (i : ℕ) (s : Standing) (numbers : List Numbered) → i < length xs → s ≡ get_or xs i s → AreKeysOf key xs numbers → IsApartBy key xs → IfSome (key s.request) (λ end. list_any (has_other end s.number) numbers ≡ false)
  key_alone xs i s numbers within here keys apart = by (key s.request) refl where
    by : (o : Option End) → key s.request ≡ o → IfSome o (λ end. list_any (has_other end s.number) numbers ≡ false)
    by None e = tt
    by (Some end) e =
        any_by_key xs numbers (has_other end s.number) (λ x. has_key key end x.request && not (x.number == s.number)) keys (other_on end s.number)
        ∙ none_beside key xs i s end apart within here (rw e (same_itself end))

  -- *What a look-up tells*

  none_found : {X : Type 0} (p : X → Bool) (xs : List X) → list_any p xs ≡ false → find p xs ≡ None
  none_found p [] h = refl
  none_found p (x ∷ xs) h = by (none_found p xs) (p x) h where
    by : (list_any p xs ≡ false → find p xs ≡ None) → (b : Bool) → (b || list_any p xs) ≡ false → cond b (Some x) (find p xs) ≡ None
    by rest true h = absurd (cc h)
    by rest false h = rest h

  pub absent_key : (xs : List Standing) (numbers : List Numbered) (end : End) → AreKeysOf key xs numbers → list_any (has_end end) numbers ≡ false → find (λ s. has_key key end s.request) xs ≡ None
  absent_key xs numbers end keys none =
      none_found (λ (s : Standing). has_key key end s.request) xs (sym (any_by_key xs numbers (has_end end) (λ s. has_key key end s.request) keys (on_end end)) ∙ none)

  left : (a b : Bool) → (a && b) ≡ true → a ≡ true
  left true b h = refl
  left false b h = h

  right : (a b : Bool) → (a && b) ≡ true → b ≡ true
  right true b h = h
  right false b h = absurd (cc h)

  -- the one with the key is the one with the number
  pub record IsKeyed (xs : List Standing) (end : End) (n : ℕ) : Type 0 where
    pub there : list_any (has n) xs ≡ true
    pub same : find (λ s. has_key key end s.request) xs ≡ find (has n) xs
    pub number : option_map (λ (s : Standing). s.number) (find (λ s. has_key key end s.request) xs) ≡ Some n

  pub keyed_number : (xs : List Standing) (numbers : List Numbered) (end : End) (n : ℕ) → AreKeysOf key xs numbers → IsApartBy key xs → AreRising xs → list_any (is_entry end n) numbers ≡ true → IsKeyed xs end n
  keyed_number xs numbers end n keys apart rising there =
      let any = Any-from_list_any (λ (s : Standing). has_key key end s.request && has n s) xs (sym (any_by_key xs numbers (is_entry end n) (λ s. has_key key end s.request && has n s) keys (entry_on end n)) ∙ there) in
      shown xs end n any.0 any.1 apart rising any.2 any.3 any.4
    where
      shown : (xs : List Standing) (end : End) (n : ℕ) (k : ℕ) (s : Standing) → IsApartBy key xs → AreRising xs → k < length xs → get_or xs k s ≡ s → (has_key key end s.request && has n s) ≡ true → IsKeyed xs end n
      shown xs end n k s apart rising within at both =
          let keyed : has_key key end (get_or xs k s).request ≡ true = rw at (left (has_key key end s.request) (has n s) both) in
          let numbered : s.number ≡ n = eqb-true s.number n (right (has_key key end s.request) (has n s) both) in
          let by_key : find (λ x. has_key key end x.request) xs ≡ Some s = found_key key xs k s end apart within keyed ∙ ap Some at in
          let by_number : find (has n) xs ≡ Some s = found_number n xs k s rising within (ap (λ (x : Standing). x.number) at ∙ numbered) ∙ ap Some at in
          record {
            there = list_any_at (has n) xs k s within (rw at (eq-eqb s.number n numbered));
            same = by_key ∙ sym by_number;
            number = rw by_key (ap Some numbered);
          }

  pub told_number : (xs : List Standing) (numbers : List Numbered) (end : End) (r : Option ℕ) → AreKeysOf key xs numbers → IsApartBy key xs → AreRising xs → IfSome r (λ n. list_any (is_entry end n) numbers ≡ true) → IfNone r (list_any (has_end end) numbers ≡ false) → r ≡ option_map (λ (s : Standing). s.number) (find (λ s. has_key key end s.request) xs)
  told_number xs numbers end None keys apart rising some none = sym (ap (λ o. option_map (λ (s : Standing). s.number) o) (absent_key xs numbers end keys none))
  told_number xs numbers end (Some n) keys apart rising some none = sym (keyed_number xs numbers end n keys apart rising some).number

  pub some_keyed : (xs : List Standing) (numbers : List Numbered) → AreKeysOf key xs numbers → list_any (λ s. is_some (key s.request)) xs ≡ not (length numbers == 0)
  some_keyed xs numbers keys =
      any_is_counted (λ (s : Standing). is_some (key s.request)) xs ∙ ap (nat_lt 0) (sym keys.many) ∙ above (length numbers) where
        above : (n : ℕ) → nat_lt 0 n ≡ not (n == 0)
        above n = grind (arith, nat_tests)

pub deletes_told : (port : PortNo) (xs : List Standing) → find (λ s. is_delete_all port s.request) xs ≡ find (λ s. has_key deleted_of (all_of port) s.request) xs
deletes_told port xs = find_agree (λ (s : Standing). is_delete_all port s.request) (λ (s : Standing). has_key deleted_of (all_of port) s.request) (λ s. delete_is_key port s.request) xs
