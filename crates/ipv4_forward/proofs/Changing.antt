-- a change at one place of distinct routes, and a pass over the changed ones

use Rattle.std.proofs.Common.{◌≡◌, ℕ, ◌+◌, ◌<◌, ◌≤◌, Bool, true, false, not, cond, ◌||◌, nat_lt, List, [], ◌∷◌, ◌++◌, None, Some, refl, sym, ◌∙◌, ap, arith, suc, zero, length, take, map, filter, get_or, inl, inr}
use Rattle.std.proofs.Math.ListN.{set}
use Rattle.std.specs.List.{list_any, position, position_or_len, remove, AllPairs}
use Rattle.std.proofs.lemmas.List.{length-take-le, get_or-take, get_or-map, length-map, map-append}
use Rattle.std.proofs.lemmas.List.Elements.{All-filter, filter-append}
use Rattle.std.proofs.lemmas.List.Folds.{list_any_at, list_any_none}
use Rattle.std.proofs.lemmas.List.Kept.{AllPairs-filter}
use Rattle.std.proofs.lemmas.List.Quantifiers.{position-Some}
use Rattle.std.proofs.lemmas.Option.{slice_get-get_or, slice_get_within, get_or_from_slice_get}
use Rattle.std.proofs.lemmas.Bool.{cases_lt}
use Rattle.std.proofs.lemmas.Bool.Decides.{nat_tests}
use Rattle.net_types.specs.Prefix.{Network}
use Rattle.ipv4_forward.specs.declared.table.Next.{Next}
use Rattle.ipv4_forward.specs.declared.table.Next.TheVariants.{Local}
use Rattle.ipv4_forward.specs.declared.table.Route.{Route}
use Rattle.ipv4_forward.specs.declared.table.AddFault.{AddFault}
use Rattle.ipv4_forward.specs.declared.table.AddFault.TheVariants as faults
use Rattle.ipv4_forward.specs.declared.change.ChangeFault.TheVariants.{TableFull}
use Rattle.ipv4_forward.specs.Best.{add_fault, is_same, has_prefix}
use Rattle.ipv4_forward.specs.Change.{change_fault_by, renewed}
use Rattle.ipv4_forward.specs.Room.{AreDistinct}
use Rattle.ipv4_forward.proofs.Passing.{one_more}

-- one place alone passes
pub record IsOnly {X : Type 0} (p : X → Bool) (xs : List X) (i : ℕ) : Type 0 where
  pub within : i < length xs
  pub here : (d : X) → p (get_or xs i d) ≡ true
  pub others : (k : ℕ) (d : X) → k < length xs → (k ≡ i → ⊥) → p (get_or xs k d) ≡ false

rest_only : {X : Type 0} (p : X → Bool) (x : X) (xs : List X) (i : ℕ) → IsOnly p (x ∷ xs) (suc i) → IsOnly p xs i
rest_only p x xs i only = record {
  within = omega (arith, only.within);
  here = λ d. only.here d;
  others = λ k d w differ. only.others (suc k) d (omega (arith, w)) (λ e. differ (omega (arith, e)));
}

rest_fails : {X : Type 0} (p : X → Bool) (x : X) (xs : List X) → IsOnly p (x ∷ xs) zero → (k : ℕ) (d : X) → k < length xs → p (get_or xs k d) ≡ false
rest_fails p x xs only k d w = only.others (suc k) d (omega (arith, w)) (λ e. omega (arith, e))

none_taken : {X : Type 0} (p : X → Bool) (xs : List X) → ((k : ℕ) (d : X) → k < length xs → p (get_or xs k d) ≡ false) → filter (λ x. not (p x)) xs ≡ xs
none_taken p [] fails = refl
none_taken p (x ∷ xs) fails = rw (fails zero x (omega arith)) (ap (λ ys. x ∷ ys) (none_taken p xs (λ k d w. fails (suc k) d (omega (arith, w)))))

pub only_taken : {X : Type 0} (p : X → Bool) (xs : List X) (i : ℕ) → IsOnly p xs i → filter (λ x. not (p x)) xs ≡ remove xs i
only_taken p [] i only = absurd (omega (arith, only.within))
only_taken p (x ∷ xs) zero only = rw (only.here x) (none_taken p xs (rest_fails p x xs only))
only_taken p (x ∷ xs) (suc i) only =
    rw (only.others zero x (omega arith) (λ e. omega (arith, e)))
    (ap (λ ys. x ∷ ys) (only_taken p xs i (rest_only p x xs i only)))

pub none_changed : {X : Type 0} (p : X → Bool) (f : X → X) (xs : List X) → ((k : ℕ) (d : X) → k < length xs → p (get_or xs k d) ≡ false) → map (λ x. cond (p x) (f x) x) xs ≡ xs
none_changed p f [] fails = refl
none_changed p f (x ∷ xs) fails = rw (fails zero x (omega arith)) (ap (λ ys. x ∷ ys) (none_changed p f xs (λ k d w. fails (suc k) d (omega (arith, w)))))

pub only_changed : {X : Type 0} (p : X → Bool) (f : X → X) (xs : List X) (i : ℕ) (y : X) → IsOnly p xs i → y ≡ get_or xs i y → map (λ x. cond (p x) (f x) x) xs ≡ set xs i (f y)
only_changed p f [] i y only is = absurd (omega (arith, only.within))
only_changed p f (x ∷ xs) zero y only is =
    rw (only.here x) (rw (none_changed p f xs (rest_fails p x xs only)) (ap (λ z. f z ∷ xs) (sym is)))
only_changed p f (x ∷ xs) (suc i) y only is =
    rw (only.others zero x (omega arith) (λ e. omega (arith, e)))
    (ap (λ ys. x ∷ ys) (only_changed p f xs i y (rest_only p x xs i only) is))

pub none_passes : {X : Type 0} (p : X → Bool) (xs : List X) → list_any p xs ≡ false → (k : ℕ) (d : X) → k < length xs → p (get_or xs k d) ≡ false
none_passes {X} p xs none k d w =
    let by : (b : Bool) → p (get_or xs k d) ≡ b → p (get_or xs k d) ≡ false = λ b eb.
    elim b as (λ v. p (get_or xs k d) ≡ v → p (get_or xs k d) ≡ false) [
      | true ↦ λ e. absurd (let some = list_any_at p xs k d w e in cc (sym some ∙ none))
      | false ↦ λ e. e
    ] eb in
    by _ refl

-- no two routes of a pair have one prefix
abbrev pub ArePairs : List Route → Type 0
ArePairs routes = AllPairs (λ a b. is_same a.prefix b.prefix ≡ false) routes

pub pairs_from_distinct : (routes : List Route) → AreDistinct routes → ArePairs routes
pairs_from_distinct routes distinct = λ i j d low high.
    let none = distinct j (get_or routes j d) (slice_get-get_or routes j d high) in
    let at : get_or (take j routes) i d ≡ get_or routes i d = get_or-take j routes i d low in
    let size : length (take j routes) ≡ j = length-take-le j routes (omega (arith, high)) in
    rw (← at) (none_passes (λ (o : Route). is_same o.prefix (get_or routes j d).prefix) (take j routes) none i d (omega (arith, low, size)))

pub distinct_from_pairs : (routes : List Route) → ArePairs routes → AreDistinct routes
distinct_from_pairs routes pairs = λ place route is.
    let within : place < length routes = slice_get_within routes place route is in
    let size : length (take place routes) ≡ place = length-take-le place routes (omega (arith, within)) in
    list_any_none (λ (o : Route). is_same o.prefix route.prefix) (take place routes) (λ k d w.
    let low : k < place = omega (arith, w, size) in
    let at : get_or routes place d ≡ route = get_or_from_slice_get routes place route d is in
    let pair : is_same (get_or routes k d).prefix (get_or routes place d).prefix ≡ false = pairs k place d low within in
    rw (get_or-take place routes k d low) (rw at at pair))

pub distinct-filter : (p : Route → Bool) (routes : List Route) → AreDistinct routes → AreDistinct (filter p routes)
distinct-filter p routes distinct =
    distinct_from_pairs (filter p routes) (AllPairs-filter (λ (a b : Route). is_same a.prefix b.prefix ≡ false) p routes (pairs_from_distinct routes distinct))

-- a route keeps its prefix
pub renewed_prefix : (prefix : Network) (next : Next) (route : Route) → (renewed prefix next route).prefix ≡ route.prefix
renewed_prefix prefix next route = by (is_same route.prefix prefix) where
  by : (b : Bool) → (cond b (record route { next = next }) route).prefix ≡ route.prefix
  by true = refl
  by false = refl

pub distinct-renewed : (prefix : Network) (next : Next) (routes : List Route) → AreDistinct routes → AreDistinct (map (renewed prefix next) routes)
distinct-renewed prefix next routes distinct =
    distinct_from_pairs (map (renewed prefix next) routes) (λ i j d low high.
    let f = renewed prefix next in
    let size : length (map f routes) ≡ length routes = length-map routes f in
    let first : get_or (map f routes) i d ≡ f (get_or routes i d) = get_or-map f routes i d d (omega (arith, low, high, size)) in
    let second : get_or (map f routes) j d ≡ f (get_or routes j d) = get_or-map f routes j d d (omega (arith, high, size)) in
    let pair : is_same (get_or routes i d).prefix (get_or routes j d).prefix ≡ false = pairs_from_distinct routes distinct i j d low (omega (arith, high, size)) in
    rw (first, second, renewed_prefix prefix next (get_or routes i d), renewed_prefix prefix next (get_or routes j d)) pair)

pub prefixes-renewed : (prefix : Network) (next : Next) (routes : List Route) (other : Network) → has_prefix (map (renewed prefix next) routes) other ≡ has_prefix routes other
prefixes-renewed prefix next [] other = refl
prefixes-renewed prefix next (route ∷ routes) other =
    rw (renewed_prefix prefix next route, prefixes-renewed prefix next routes other) refl

pub prefixes-filter : (p : Route → Bool) (routes : List Route) (other : Network) → has_prefix routes other ≡ false → has_prefix (filter p routes) other ≡ false
prefixes-filter p routes other none =
    list_any_none (λ (o : Route). is_same o.prefix other) (filter p routes) (All-filter p (λ (o : Route). is_same o.prefix other ≡ false) routes (none_passes (λ (o : Route). is_same o.prefix other) routes none))

-- the place of a prefix is the only one of it
same_as_both : (a b p : Network) → is_same a p ≡ true → is_same b p ≡ true → is_same a b ≡ true
same_as_both a b p ea eb = grind (arith, nat_tests)

not_true : (b : Bool) → (b ≡ true → ⊥) → b ≡ false
not_true true h = absurd (h refl)
not_true false h = refl

pub only_of_prefix : (routes : List Route) (prefix : Network) (i : ℕ) → AreDistinct routes → position (λ (route : Route). is_same route.prefix prefix) routes ≡ Some i → IsOnly (λ (route : Route). is_same route.prefix prefix) routes i
only_of_prefix routes prefix i distinct at =
    let p : Route → Bool = λ route. is_same route.prefix prefix in
    let pairs = pairs_from_distinct routes distinct in
    record {
      within = (position-Some p routes i (record { prefix = prefix; next = Local }) at).0;
      here = λ d. (position-Some p routes i d at).1;
      others = λ k d w differ.
          let here : is_same (get_or routes i d).prefix prefix ≡ true = (position-Some p routes i d at).1 in
          not_true (is_same (get_or routes k d).prefix prefix) (λ there.
          elim (cases_lt k i) [
            | inl low ↦ (let no : is_same (get_or routes k d).prefix (get_or routes i d).prefix ≡ false = pairs k i d low (position-Some p routes i d at).0 in
                cc (sym no ∙ same_as_both (get_or routes k d).prefix (get_or routes i d).prefix prefix there here))
            | inr high ↦ (let no : is_same (get_or routes i d).prefix (get_or routes k d).prefix ≡ false = pairs i k d (above k i high differ) w in
                cc (sym no ∙ same_as_both (get_or routes i d).prefix (get_or routes k d).prefix prefix here there))
          ]);
    }
  where
    above : (k i : ℕ) → i ≤ k → (k ≡ i → ⊥) → i < k
    above k i le differ = elim (cases_lt i k) [ inl low ↦ low | inr ge ↦ absurd (differ (omega (arith, le, ge))) ]

pub prefix_there : (routes : List Route) (prefix : Network) (i : ℕ) → position (λ (route : Route). is_same route.prefix prefix) routes ≡ Some i → has_prefix routes prefix ≡ true
prefix_there routes prefix i at =
    let p : Route → Bool = λ route. is_same route.prefix prefix in
    let d : Route = record { prefix = prefix; next = Local } in
    let facts = position-Some p routes i d at in
    list_any_at p routes i d facts.0 facts.1

later : (n m : ℕ) → nat_lt (1 + n) (suc m) ≡ false → nat_lt n m ≡ false
later n m h = grind (arith, nat_tests, h)

first_within : (m : ℕ) → nat_lt 0 (suc m) ≡ true
first_within m = grind (arith, nat_tests)

none_before : {X : Type 0} (p : X → Bool) (xs : List X) → nat_lt (position_or_len p xs) (length xs) ≡ false → list_any p xs ≡ false
none_before p [] h = refl
none_before {X} p (x ∷ xs) h = by (none_before p xs) (p x) h where
  by : (nat_lt (position_or_len p xs) (length xs) ≡ false → list_any p xs ≡ false) → (b : Bool) → nat_lt (cond (not b) (1 + position_or_len p xs) 0) (suc (length xs)) ≡ false → (b || list_any p xs) ≡ false
  by rest true h = cc (sym (first_within (length xs)) ∙ h)
  by rest false h = rest (later (position_or_len p xs) (length xs) h)

pub prefix_absent : (routes : List Route) (prefix : Network) → position (λ (route : Route). is_same route.prefix prefix) routes ≡ None → has_prefix routes prefix ≡ false
prefix_absent routes prefix at = by (nat_lt (position_or_len (λ (route : Route). is_same route.prefix prefix) routes) (length routes)) refl at where
  by : (b : Bool) → nat_lt (position_or_len (λ (route : Route). is_same route.prefix prefix) routes) (length routes) ≡ b → cond b (Some (position_or_len (λ (route : Route). is_same route.prefix prefix) routes)) None ≡ None → has_prefix routes prefix ≡ false
  by true e h = absurd (cc h)
  by false e h = none_before (λ (route : Route). is_same route.prefix prefix) routes e

-- one more route of a pass
pub one_renewed : (prefix : Network) (next : Next) (routes : List Route) (i : ℕ) (route : Route) → i < length routes → route ≡ get_or routes i route → map (renewed prefix next) (take (i + 1) routes) ≡ map (renewed prefix next) (take i routes) ++ renewed prefix next route ∷ []
one_renewed prefix next routes i route within is =
    ap (map (renewed prefix next)) (one_more routes i route within is) ∙ map-append (renewed prefix next) (take i routes) (route ∷ [])

pub one_filtered : (p : Route → Bool) (routes : List Route) (i : ℕ) (route : Route) → i < length routes → route ≡ get_or routes i route → filter p (take (i + 1) routes) ≡ filter p (take i routes) ++ cond (p route) (route ∷ []) []
one_filtered p routes i route within is =
    ap (filter p) (one_more routes i route within is) ∙ filter-append p (take i routes) (route ∷ [])

-- a prefix that isn't there: nothing is renewed, and only room is wanting
pub none_renewed : (prefix : Network) (next : Next) (routes : List Route) → has_prefix routes prefix ≡ false → map (renewed prefix next) routes ≡ routes
none_renewed prefix next routes absent =
    none_changed (λ (route : Route). is_same route.prefix prefix) (λ route. record route { next = next }) routes (none_passes (λ (route : Route). is_same route.prefix prefix) routes absent)

pub full_told : (routes : List Route) (prefix : Network) (next : Next) (fault : AddFault) → has_prefix routes prefix ≡ false → Some fault ≡ add_fault routes prefix → Some TableFull ≡ change_fault_by routes prefix (Some next)
full_told routes prefix next fault absent told = rw absent (by (nat_lt (length routes) 256) (rw absent at told)) where
  by : (b : Bool) → Some fault ≡ cond b None (Some faults.TableFull) → Some TableFull ≡ cond b None (Some TableFull)
  by true h = cc h
  by false h = refl
