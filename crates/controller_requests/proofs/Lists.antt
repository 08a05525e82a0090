-- Lists of requests: what a removal by a test leaves.

use Rattle.std.proofs.Common.{◌≡◌, ℕ, suc, zero, ◌+◌, ◌<◌, ◌≤◌, Bool, true, false, not, cond, List, [], ◌∷◌, ◌++◌, length, get_or, take, drop, filter, append-nil, append_assoc, length-append, refl, sym, ap, ◌∙◌, arith, Some, find, option_map, slice_get, Contains}
use Rattle.std.specs.List.{list_any, remove}
use Rattle.std.proofs.lemmas.Bool.{eqb-true, eq-eqb}
use Rattle.std.proofs.lemmas.List.{drop_all, drop_more, get_or-take, get_or_append_left, get_or_at, length-take-le, take_all, take_more}
use Rattle.std.proofs.lemmas.List.Elements.{filter-append}
use Rattle.std.proofs.lemmas.List.Edits.{remove-append_left}
use Rattle.std.proofs.lemmas.List.Folds.{list_any_at}
use Rattle.std.proofs.lemmas.Option.{slice_get-get_or}
use Rattle.gsmp_wire.specs.declared.request.Request.{Request}
use Rattle.branch_desk.specs.port_model.Desk.{Standing}
use Rattle.branch_desk.specs.Requests.{AreRising}
use Rattle.branch_desk.proofs.Numbers.{has, none_left, not_true}

-- the test fails at each place but one
pub record IsOnly {X : Type 0} (p : X → Bool) (xs : List X) (i : ℕ) : Type 0 where
  pub within : i < length xs
  pub here : (d : X) → p (get_or xs i d) ≡ true
  pub others : (k : ℕ) (d : X) → k < length xs → (k ≡ i → ⊥) → p (get_or xs k d) ≡ false

rest_only : {X : Type 0} (p : X → Bool) (x : X) (xs : List X) (i : ℕ) → IsOnly p (x ∷ xs) (suc i) → IsOnly p xs i
rest_only p x xs i only = record {
  within = omega (arith, only.within);
  here = λ d. only.here d;
  others = λ k d w differ. only.others (suc k) d (omega (arith, w)) (λ e. differ (omega (arith, e)));
}

none_taken : {X : Type 0} (p : X → Bool) (xs : List X) → ((k : ℕ) (d : X) → k < length xs → p (get_or xs k d) ≡ false) → filter (λ x. not (p x)) xs ≡ xs
none_taken p [] fails = refl
none_taken p (x ∷ xs) fails = rw (fails zero x (omega arith)) (ap (λ ys. x ∷ ys) (none_taken p xs (λ k d w. fails (suc k) d (omega (arith, w)))))

pub only_taken : {X : Type 0} (p : X → Bool) (xs : List X) (i : ℕ) → IsOnly p xs i → filter (λ x. not (p x)) xs ≡ remove xs i
only_taken p [] i only = absurd (omega (arith, only.within))
only_taken p (x ∷ xs) zero only =
    rw (only.here x)
    (none_taken p xs (λ k d w. only.others (suc k) d (omega (arith, w)) (λ e. omega (arith, e))))
only_taken p (x ∷ xs) (suc i) only =
    rw (only.others zero x (omega arith) (λ e. omega (arith, e)))
    (ap (λ ys. x ∷ ys) (only_taken p xs i (rest_only p x xs i only)))

pub all_kept : {X : Type 0} (p : X → Bool) (xs : List X) → ((x : X) → p x ≡ false) → filter (λ x. not (p x)) xs ≡ xs
all_kept p [] fails = refl
all_kept p (x ∷ xs) fails = rw (fails x) (ap (λ ys. x ∷ ys) (all_kept p xs fails))

-- a test that nothing passes behind its own filter
pub none_behind : {X : Type 0} (p : X → Bool) (xs : List X) → list_any p (filter (λ x. not (p x)) xs) ≡ false
none_behind p [] = refl
none_behind {X} p (x ∷ xs) = by (none_behind p xs) (p x) refl where
  by : list_any p (filter (λ y. not (p y)) xs) ≡ false → (b : Bool) → p x ≡ b → list_any p (cond (not b) (x ∷ filter (λ y. not (p y)) xs) (filter (λ y. not (p y)) xs)) ≡ false
  by rest true e = rest
  by rest false e = rw e rest

pub filter_twice : {X : Type 0} (p : X → Bool) (xs : List X) → filter (λ x. not (p x)) (filter (λ x. not (p x)) xs) ≡ filter (λ x. not (p x)) xs
filter_twice p xs = none_left p (filter (λ x. not (p x)) xs) (none_behind p xs)

pub length-filter-le : {X : Type 0} (p : X → Bool) (xs : List X) → length (filter p xs) ≤ length xs
length-filter-le p [] = omega arith
length-filter-le {X} p (x ∷ xs) = by (length-filter-le p xs) (p x) where
  by : length (filter p xs) ≤ length xs → (b : Bool) → length (cond b (x ∷ filter p xs) (filter p xs)) ≤ length (x ∷ xs)
  by le true = omega (arith, le)
  by le false = omega (arith, le)

-- *What is found is there*

pub found_contains : {X : Type 0} (p : X → Bool) (xs : List X) (x : X) → find p xs ≡ Some x → Contains xs x
found_contains p [] x h = absurd (cc h)
found_contains {X} p (y ∷ ys) x h = by (found_contains p ys x) (p y) h where
  by : (find p ys ≡ Some x → Contains ys x) → (b : Bool) → cond b (Some y) (find p ys) ≡ Some x → Contains (y ∷ ys) x
  by rest true h = let same : y ≡ x = cc h in (zero, omega arith, same)
  by rest false h = let there = rest h in (suc there.0, omega (arith, there.1), there.2)

pub number_there : (xs : List Standing) (s : Standing) → Contains xs s → list_any (has s.number) xs ≡ true
number_there xs s there = list_any_at (has s.number) xs there.0 s there.1 (eq-eqb _ _ (ap (λ (x : Standing). x.number) there.2))

-- *The last one*

pub rising_front : (xs : List Standing) (s : Standing) → AreRising (xs ++ s ∷ []) → AreRising xs
rising_front xs s rising = λ i j d low within.
    let size = length-append xs (s ∷ []) in
    let pair = rising i j d low (omega (arith, within, size)) in
    rw (get_or_append_left xs (s ∷ []) d i (omega (arith, low, within)), get_or_append_left xs (s ∷ []) d j within) at pair

pub last_left : (xs : List Standing) (s : Standing) → AreRising (xs ++ s ∷ []) → filter (λ x. not (has s.number x)) (xs ++ s ∷ []) ≡ xs
last_left xs s rising =
    let size = length-append xs (s ∷ []) in
    let front : filter (λ x. not (has s.number x)) xs ≡ xs = none_taken (has s.number) xs (λ k d w.
    let pair = rising k (length xs) d w (omega (arith, size)) in
    let low : (get_or xs k d).number < s.number = rw (get_or_append_left xs (s ∷ []) d k w, get_or_at xs s [] d (length xs) refl) at pair in
    not_true (has s.number (get_or xs k d)) (λ h. absurd (omega (arith, low, eqb-true (get_or xs k d).number s.number h)))) in
    filter-append (λ (x : Standing). not (has s.number x)) xs (s ∷ [])
    ∙ (rw (front, eq-eqb s.number s.number refl) (append-nil xs))

-- *From the last one to the first*: those from a place on are filtered

pub record IsSwept (p : Standing → Bool) (old now : List Standing) (place : ℕ) : Type 0 where
  pub within : place ≤ length old
  pub swept : now ≡ take place old ++ filter (λ s. not (p s)) (drop place old)

pub sweep_start : (p : Standing → Bool) (old : List Standing) → IsSwept p old old (length old)
sweep_start p old = record {
  within = omega arith;
  swept = sym (rw (take_all (length old) old (omega arith), drop_all (length old) old (omega arith)) (append-nil old));
}

pub sweep_end : (p : Standing → Bool) (old now : List Standing) (place : ℕ) → IsSwept p old now place → place ≡ 0 → now ≡ filter (λ s. not (p s)) old
sweep_end p old now place swept e = rw e at swept.swept

-- at a place in front of those that were swept stands what stood there
pub swept_at : (p : Standing → Bool) (old now : List Standing) (place : ℕ) (d : Standing) → IsSwept p old now (place + 1) → get_or now place d ≡ get_or old place d
swept_at p old now place d swept =
    let size : length (take (place + 1) old) ≡ place + 1 = length-take-le (place + 1) old swept.within in
    rw (swept.swept, get_or_append_left (take (place + 1) old) (filter (λ s. not (p s)) (drop (place + 1) old)) d place (omega (arith, size))) (get_or-take (place + 1) old place d (omega arith))

pub swept_within : (p : Standing → Bool) (old now : List Standing) (place : ℕ) → IsSwept p old now (place + 1) → place < length now
swept_within p old now place swept =
    let size : length (take (place + 1) old) ≡ place + 1 = length-take-le (place + 1) old swept.within in
    let whole = ap (λ (xs : List Standing). length xs) swept.swept in
    omega (arith, whole, size, length-append (take (place + 1) old) (filter (λ s. not (p s)) (drop (place + 1) old)))

pub sweep_kept : (p : Standing → Bool) (old now : List Standing) (place : ℕ) (d : Standing) → IsSwept p old now (place + 1) → p (get_or old place d) ≡ false → IsSwept p old now place
sweep_kept p old now place d swept fails =
    let within : place < length old = omega (arith, swept.within) in
    record {
      within = omega (arith, within);
      swept =
          swept.swept
          ∙ (rw (take_more old place d within, drop_more old place d within, fails) (append_assoc (take place old) (get_or old place d ∷ []) (filter (λ s. not (p s)) (drop (place + 1) old))));
    }

removed : (xs : List Standing) (x : Standing) → remove (xs ++ x ∷ []) (length xs) ≡ xs
removed [] x = refl
removed (y ∷ xs) x = ap (λ (ys : List Standing). y ∷ ys) (removed xs x)

removed_last : (xs : List Standing) (x : Standing) (n : ℕ) → length xs ≡ n → remove (xs ++ x ∷ []) n ≡ xs
removed_last xs x n size = rw (← size) (removed xs x)

pub sweep_taken : (p : Standing → Bool) (old now : List Standing) (place : ℕ) (d : Standing) → IsSwept p old now (place + 1) → p (get_or old place d) ≡ true → IsSwept p old (remove now place) place
sweep_taken p old now place d swept passes =
    let within : place < length old = omega (arith, swept.within) in
    let rest : List Standing = filter (λ s. not (p s)) (drop (place + 1) old) in
    let size : length (take place old) ≡ place = length-take-le place old (omega (arith, within)) in
    let front : remove (take place old ++ get_or old place d ∷ []) place ≡ take place old = removed_last (take place old) (get_or old place d) place size in
    let long : place < length (take place old ++ get_or old place d ∷ []) = omega (arith, size, length-append (take place old) (get_or old place d ∷ [])) in
    record {
      within = omega (arith, within);
      swept =
          ap (λ (xs : List Standing). remove xs place) (swept.swept ∙ ap (λ (xs : List Standing). xs ++ rest) (take_more old place d within))
          ∙ remove-append_left (take place old ++ get_or old place d ∷ []) rest place long
          ∙ (rw (front, drop_more old place d within, passes) refl);
    }

-- the request that is read at a place in front of those that were swept
pub swept_request : (p : Standing → Bool) (old now : List Standing) (place : ℕ) (d : Standing) (request : Request) → IsSwept p old now (place + 1) → option_map (λ (s : Standing). s.request) (slice_get now place) ≡ Some request → (get_or old place d).request ≡ request
swept_request p old now place d request swept read =
    let here : slice_get now place ≡ Some (get_or now place d) = slice_get-get_or now place d (swept_within p old now place swept) in
    let same : Some (get_or now place d).request ≡ Some request = ap (λ o. option_map (λ (s : Standing). s.request) o) (sym here) ∙ read in
    let is : (get_or now place d).request ≡ request = cc same in
    ap (λ (s : Standing). s.request) (sym (swept_at p old now place d swept)) ∙ is
