-- one pass over distinct routes finds the best

use Rattle.std.proofs.Common.{◌≡◌, ℕ, ◌<◌, ◌≤◌, ◌+◌, ◌-◌, ◌*◌, ◌/◌, ◌%◌, ◌^◌, Bool, true, false, not, ◌&&◌, ◌||◌, nat_lt, List, [], ◌∷◌, ◌++◌, Option, None, Some, refl, sym, ◌∙◌, ap, arith, suc, zero, length, take, get_or, slice_get, add-one, ◌⊎◌, inl, inr, length-append}
use Rattle.std.proofs.Math.Seq.{take-suc, take-append_seam}
use Rattle.std.proofs.lemmas.List.{take-append-le}
use Rattle.std.proofs.lemmas.Option.{slice_get_within}
use Rattle.ipv4_forward.specs.Room.{AreDistinct}
use Rattle.std.specs.List.{list_all, find}
use Rattle.std.proofs.lemmas.List.Folds.{list_all-append, find-append}
use Rattle.std.proofs.lemmas.Bool.Decides.{nat_tests}
use Rattle.std.proofs.lemmas.Nat.{pow_pos}
use Rattle.net_types.specs.declared.prefix.Addr.{Addr}
use Rattle.net_types.specs.Prefix.{Network, covers, IsNetwork}
use Rattle.ipv4_forward.specs.declared.table.Route.{Route}
use Rattle.ipv4_forward.specs.Best.{is_same, has_prefix, is_best}
use Rattle.ipv4_forward.specs.Longest.{is_below, IsFound, IsLongest}
use Rattle.ipv4_forward.proofs.Tests.{passes_found, all_pass, find_agreed, find_nothing, find_absent}

pub and_true : (a b : Bool) → a ≡ true → b ≡ true → a && b ≡ true
and_true a b ea eb = rw ea eb

or_true : (b : Bool) → b || true ≡ true
or_true b = elim b as (λ v. v || true ≡ true) [ true ↦ refl | false ↦ refl ]

or_or_true : (a b : Bool) → a || (b || true) ≡ true
or_or_true a b = rw (or_true b) (or_true a)

pub single : {X : Type 0} (p : X → Bool) (x : X) → p x ≡ true → list_all p (x ∷ []) ≡ true
single p x e = rw e refl

same_covers : (p q : Network) (addr : Addr) → is_same p q ≡ true → covers p addr ≡ covers q addr
same_covers p q addr e = grind (arith, nat_tests)

same_len : (p q : Network) → is_same p q ≡ true → p.len ≡ q.len
same_len p q e = grind (arith, nat_tests)

is_same-refl : (p : Network) → is_same p p ≡ true
is_same-refl p = grind (arith, nat_tests)

is_same_from_parts : (p q : Network) → p.addr.0 ≡ q.addr.0 → p.len ≡ q.len → is_same p q ≡ true
is_same_from_parts p q a l = grind (arith, nat_tests)

same_multiple : (a b m : ℕ) → 0 < m → a % m ≡ 0 → b % m ≡ 0 → a / m ≡ b / m → a ≡ b
same_multiple a b m pos za zb e =
    let times : m * (a / m) ≡ m * (b / m) = ap (λ n. m * n) e in
    omega (arith, times)

-- the same first bits and no others: the same prefix
pub is_same_from_covers : (p q : Network) (addr : Addr) → IsNetwork p.addr.0 p.len → IsNetwork q.addr.0 q.len → covers p addr ≡ true → covers q addr ≡ true → p.len ≡ q.len → is_same p q ≡ true
is_same_from_covers p q addr np nq cp cq e =
    let share : p.addr.0 / 2 ^ (32 - p.len) ≡ q.addr.0 / 2 ^ (32 - p.len) = grind (arith, nat_tests) in
    let none_p : p.addr.0 % 2 ^ (32 - p.len) ≡ 0 = np.no_host_bits in
    let none_q : q.addr.0 % 2 ^ (32 - p.len) ≡ 0 = rw e nq.no_host_bits in
    let same : p.addr.0 ≡ q.addr.0 = same_multiple _ _ (2 ^ (32 - p.len)) (pow_pos (32 - p.len)) none_p none_q share in
    is_same_from_parts p q same e

below_miss : (addr : Addr) (route other : Route) → covers other.prefix addr ≡ false → is_below addr route other ≡ true
below_miss addr route other e = rw e (or_true (is_same other.prefix route.prefix))

below_self : (addr : Addr) (route : Route) → is_below addr route route ≡ true
below_self addr route = rw (is_same-refl route.prefix) refl

below_uncovered : (addr : Addr) (route other : Route) → not (covers other.prefix addr) ≡ true → is_below addr route other ≡ true
below_uncovered addr route other e = rw e (or_true (is_same other.prefix route.prefix))

below_shorter : (addr : Addr) (route other : Route) → other.prefix.len < route.prefix.len → is_below addr route other ≡ true
below_shorter addr route other low =
    let less : nat_lt other.prefix.len route.prefix.len ≡ true = grind (arith, nat_tests) in
    rw less (or_or_true (is_same other.prefix route.prefix) (not (covers other.prefix addr)))

-- below the one that is shorter, below the longer one
below_longer : (addr : Addr) (before route other : Route) → before.prefix.len < route.prefix.len → is_below addr before other ≡ true → is_below addr route other ≡ true
below_longer addr before route other longer e =
    let by : (a b : Bool) → is_same other.prefix before.prefix ≡ a → covers other.prefix addr ≡ b → is_below addr route other ≡ true = λ a b ea eb.
    elim b as (λ w. covers other.prefix addr ≡ w → is_below addr route other ≡ true) [
      | false ↦ λ f. below_miss addr route other f
      | true ↦ λ f. elim a as (λ v. is_same other.prefix before.prefix ≡ v → is_below addr route other ≡ true) [
        | true ↦ λ g. below_shorter addr route other (let same = same_len other.prefix before.prefix g in omega arith)
        | false ↦ λ g. below_shorter addr route other (let low : nat_lt other.prefix.len before.prefix.len ≡ true = rw (g, f) at e in grind (arith, nat_tests))
      ] ea
    ] eb in
    by _ _ refl refl

below_kept : (addr : Addr) (before route : Route) → IsNetwork before.prefix.addr.0 before.prefix.len → IsNetwork route.prefix.addr.0 route.prefix.len → covers before.prefix addr ≡ true → covers route.prefix addr ≡ true → route.prefix.len ≤ before.prefix.len → is_below addr before route ≡ true
below_kept addr before route nb nr cb cr low =
    let by : (a : Bool) → nat_lt route.prefix.len before.prefix.len ≡ a → is_below addr before route ≡ true = λ a ea.
    elim a as (λ v. nat_lt route.prefix.len before.prefix.len ≡ v → is_below addr before route ≡ true) [
      | true ↦ λ e. below_shorter addr before route (grind (arith, nat_tests))
      | false ↦ λ e. (let same : route.prefix.len ≡ before.prefix.len = grind (arith, nat_tests) in
          rw (is_same_from_covers route.prefix before.prefix addr nr nb cr cb same) refl)
    ] ea in
    by _ refl

below_same : (addr : Addr) (route other third : Route) → is_same other.prefix route.prefix ≡ true → is_below addr route third ≡ true → is_below addr other third ≡ true
below_same addr route other third e low = grind (arith, nat_tests)

-- a route that doesn't cover the address changes nothing
pub missed : (routes : List Route) (addr : Addr) (found : Option Route) (route : Route) → covers route.prefix addr ≡ false → IsLongest routes addr found → IsLongest (routes ++ route ∷ []) addr found
missed routes addr None route miss longest = rw list_all-append (and_true _ _ longest (rw miss refl))
missed routes addr (Some before) route miss longest = record {
  covering = longest.covering;
  longest = rw list_all-append (and_true _ _ longest.longest (single (is_below addr before) route (below_miss addr before route miss)));
  among = rw find-append (rw longest.among refl);
}

found_last : (routes : List Route) (route : Route) → has_prefix routes route.prefix ≡ false → find (λ (other : Route). is_same other.prefix route.prefix) (routes ++ route ∷ []) ≡ Some route
found_last routes route fresh = rw find-append (rw (find_absent _ routes fresh) (rw (is_same-refl route.prefix) refl))

-- the first route that covers it
pub first : (routes : List Route) (addr : Addr) (route : Route) → covers route.prefix addr ≡ true → has_prefix routes route.prefix ≡ false → list_all (λ (other : Route). not (covers other.prefix addr)) routes ≡ true → IsFound (routes ++ route ∷ []) addr route
first routes addr route hit fresh none = record {
  covering = hit;
  longest = rw list_all-append (and_true _ _ (all_pass _ _ routes (below_uncovered addr route) none) (single (is_below addr route) route (below_self addr route)));
  among = found_last routes route fresh;
}

-- a longer one
pub longer_one : (routes : List Route) (addr : Addr) (before route : Route) → covers route.prefix addr ≡ true → has_prefix routes route.prefix ≡ false → before.prefix.len < route.prefix.len → IsFound routes addr before → IsFound (routes ++ route ∷ []) addr route
longer_one routes addr before route hit fresh longer found = record {
  covering = hit;
  longest = rw list_all-append (and_true _ _ (all_pass _ _ routes (λ other. below_longer addr before route other longer) found.longest) (single (is_below addr route) route (below_self addr route)));
  among = found_last routes route fresh;
}

-- one that is no longer
pub kept : (routes : List Route) (addr : Addr) (before route : Route) → IsNetwork before.prefix.addr.0 before.prefix.len → IsNetwork route.prefix.addr.0 route.prefix.len → covers route.prefix addr ≡ true → route.prefix.len ≤ before.prefix.len → IsFound routes addr before → IsFound (routes ++ route ∷ []) addr before
kept routes addr before route nb nr hit shorter found = record {
  covering = found.covering;
  longest = rw list_all-append (and_true _ _ found.longest (single (is_below addr before) route (below_kept addr before route nb nr found.covering hit shorter)));
  among = rw find-append (rw found.among refl);
}

uncovered_worse : (routes : List Route) (addr : Addr) (route : Route) → not (covers route.prefix addr) ≡ true → is_best routes addr route ≡ false
uncovered_worse routes addr route miss =
    let none : covers route.prefix addr ≡ false = grind (arith, nat_tests) in rw none refl

not_below : (addr : Addr) (route other : Route) → is_same other.prefix route.prefix ≡ false → covers other.prefix addr ≡ true → covers route.prefix addr ≡ true → is_below addr route other ≡ true → is_below addr other route ≡ true → ⊥
not_below addr route other differs hit hit_route low high = grind (arith, nat_tests)

-- a shorter one isn't best, since the one that was found isn't below it
beaten : (routes : List Route) (addr : Addr) (route other : Route) → IsFound routes addr route → is_same other.prefix route.prefix ≡ false → covers other.prefix addr ≡ true → is_below addr route other ≡ true → is_best routes addr other ≡ false
beaten routes addr route other found differs hit low =
    let by : (a : Bool) → list_all (is_below addr other) routes ≡ a → is_best routes addr other ≡ false = λ a ea.
    elim a as (λ v. list_all (is_below addr other) routes ≡ v → is_best routes addr other ≡ false) [
      | true ↦ λ e. absurd (not_below addr route other differs hit found.covering low (passes_found _ _ routes route e found.among))
      | false ↦ λ e. rw (hit, e) refl
    ] ea in
    by _ refl

-- below the route that was found, only the same prefix is best
best_is_same : (routes : List Route) (addr : Addr) (route other : Route) → IsFound routes addr route → is_below addr route other ≡ true → is_best routes addr other ≡ is_same other.prefix route.prefix
best_is_same routes addr route other found low =
    let by : (a b : Bool) → is_same other.prefix route.prefix ≡ a → covers other.prefix addr ≡ b → is_best routes addr other ≡ a = λ a b ea eb.
    elim a as (λ v. is_same other.prefix route.prefix ≡ v → is_best routes addr other ≡ v) [
      | true ↦ λ e. and_true _ _ (same_covers other.prefix route.prefix addr e ∙ found.covering) (all_pass _ _ routes (λ third. below_same addr route other third e) found.longest)
      | false ↦ λ e. elim b as (λ w. covers other.prefix addr ≡ w → is_best routes addr other ≡ false) [
        | false ↦ λ f. rw f refl
        | true ↦ λ f. beaten routes addr route other found e f low
      ] eb
    ] ea in
    by _ _ refl refl

-- what a pass over all routes found is the best
pub longest_is_best : (routes : List Route) (addr : Addr) (found : Option Route) → IsLongest routes addr found → found ≡ find (is_best routes addr) routes
longest_is_best routes addr None none =
    sym (find_nothing _ _ routes (λ route miss. uncovered_worse routes addr route miss) none)
longest_is_best routes addr (Some route) found =
    sym (find_agreed (is_below addr route) _ _ routes (λ other low. best_is_same routes addr route other found low) found.longest ∙ found.among)

pub one_more : {X : Type 0} (xs : List X) (i : ℕ) (x : X) → i < length xs → x ≡ get_or xs i x → take (i + 1) xs ≡ take i xs ++ x ∷ []
one_more xs i x within is = rw add-one (take-suc xs i x within ∙ ap (λ y. take i xs ++ y ∷ []) (sym is))

low_or_at : (i n : ℕ) → i < n + 1 → (i < n) ⊎ (n ≡ i)
low_or_at zero zero h = inr refl
low_or_at zero (suc n) h = inl (omega arith)
low_or_at (suc i) zero h = absurd (omega arith)
low_or_at (suc i) (suc n) h =
    elim (low_or_at i n (omega arith)) [ inl low ↦ inl (omega arith) | inr at ↦ inr (omega arith) ]

slice_get-front : {X : Type 0} (xs ys : List X) (i : ℕ) (x : X) → i < length xs → slice_get (xs ++ ys) i ≡ Some x → slice_get xs i ≡ Some x
slice_get-front [] ys i x low is = absurd (omega arith)
slice_get-front (y ∷ xs) ys zero x low is = is
slice_get-front (y ∷ xs) ys (suc i) x low is = slice_get-front xs ys i x (omega arith) is

slice_get-last : {X : Type 0} (xs : List X) (x y : X) → slice_get (xs ++ x ∷ []) (length xs) ≡ Some y → y ≡ x
slice_get-last [] x y is = cc
slice_get-last (z ∷ xs) x y is = slice_get-last xs x y is

-- a route whose prefix no other has keeps the routes distinct
pub distinct_push : (routes : List Route) (route : Route) → AreDistinct routes → has_prefix routes route.prefix ≡ false → AreDistinct (routes ++ route ∷ [])
distinct_push routes route distinct fresh = λ place other is.
    let within : place < length (routes ++ route ∷ []) = slice_get_within _ place other is in
    let size : length (routes ++ route ∷ []) ≡ length routes + 1 = length-append routes (route ∷ []) in
    let by : (place < length routes) ⊎ (length routes ≡ place) → has_prefix (take place (routes ++ route ∷ [])) other.prefix ≡ false = λ h.
    elim h [
      | inl low ↦ rw (take-append-le place routes (route ∷ []) (omega (arith, low)))
          (distinct place other (slice_get-front routes (route ∷ []) place other low is))
      | inr at ↦ rw (← at) (rw take-append_seam (let same : other ≡ route = slice_get-last routes route other (rw (← at) at is) in rw same fresh))
    ] in
    by (low_or_at place (length routes) (omega (arith, within, size)))
