-- the least earlier rule that covers a rule of a list

use Rattle.std.proofs.Common.{◌≡◌, ◌∙◌, ℕ, zero, suc, ◌<◌, ◌≤◌, Bool, true, false, cond, nat_lt, List, [], ◌∷◌, length, take, get_or, slice_get, Option, None, Some, IfSome, IfNone, ◌↔◌, refl, sym, ap, subst, arith}
use Rattle.std.specs.Prelude.{position}
use Rattle.std.specs.List.{position_or_len}
use Rattle.std.proofs.lemmas.Bool.Decides.{nat_tests}
use Rattle.std.proofs.lemmas.List.{get_or-take, length-take-le}
use Rattle.std.proofs.lemmas.List.Quantifiers.{position-Some}
use Rattle.std.proofs.lemmas.List.Sums.{fails_before_first}
use Rattle.std.proofs.lemmas.Option.{slice_get_within, slice_get-get_or, slice_get_read, same_Some}
use Rattle.ordered_lists.specs.Ordered.{Every}
use Rattle.ipv4_packet.specs.declared.flow.FlowId.{FlowId}
use Rattle.ipv4_packet.specs.Identifier.{FitsFields}
use Rattle.rule_model.specs.declared.rule.Rule.{Rule}
use Rattle.rule_model.specs.Matching.{matches}
use Rattle.rule_model.specs.Covering.{Covers, CoversAt, TellsApart, IsLeastCover, IsRule, covers, covered, matched_at}
use Rattle.flow_policy.proofs.Covering.{covers_all, all_covers}

pub every_at : {A : Type 0} (P : A → Type 0) (xs : List A) (k : ℕ) (x : A) → Every P xs → slice_get xs k ≡ Some x → P x
every_at P [] k x h e = absurd (cc e)
every_at P (y ∷ xs) zero x h e = subst P (same_Some y x e) h.0
every_at P (y ∷ xs) (suc k) x h e = every_at P xs k x h.1 e

-- *Rules by their places*
pub at_is : (rules : List Rule) (n : ℕ) (rule : Rule) (flow : FlowId) → slice_get rules n ≡ Some rule → matched_at rules n flow ≡ matches rule flow
at_is rules n rule flow e = rw e

pub covers_there : (rules : List Rule) (m n : ℕ) (one other : Rule) → slice_get rules m ≡ Some one → slice_get rules n ≡ Some other → Covers one other → CoversAt rules m n
covers_there rules m n one other first second all = λ flow fits there.
    at_is rules m one flow first ∙ all flow fits (sym (at_is rules n other flow second) ∙ there)

pub covers_here : (rules : List Rule) (m n : ℕ) (one other : Rule) → slice_get rules m ≡ Some one → slice_get rules n ≡ Some other → CoversAt rules m n → Covers one other
covers_here rules m n one other first second all = λ flow fits there.
    sym (at_is rules m one flow first) ∙ all flow fits (at_is rules n other flow second ∙ there)

-- *No place passes* where none is found
past_all : (b : Bool) (place : ℕ) → cond b (Some place) None ≡ None → b ≡ false
past_all true place e = absurd (cc e)
past_all false place e = refl

none_passes : {X : Type 0} (p : X → Bool) (xs : List X) (k : ℕ) (d : X) → position p xs ≡ None → k < length xs → p (get_or xs k d) ≡ false
none_passes p xs k d none low =
    let past : nat_lt (position_or_len p xs) (length xs) ≡ false = past_all (nat_lt (position_or_len p xs) (length xs)) (position_or_len p xs) none in
    let all : length xs ≤ position_or_len p xs = grind (arith, nat_tests, past) in
    fails_before_first p xs k d (omega (arith, low, all))

both_ways : (b : Bool) → b ≡ true → b ≡ false → ⊥
both_ways b is is_not = (let never : true ≡ false = sym is ∙ is_not in cc never)

module _ (rules : List Rule) (n : ℕ) (rule : Rule) (are : Every IsRule rules) (here : slice_get rules n ≡ Some rule) where
  abbrev test : Rule → Bool
  test earlier = covers earlier rule

  within : n < length rules
  within = slice_get_within rules n rule here

  size : length (take n rules) ≡ n
  size = length-take-le n rules (let low : n < length rules = within in omega (arith, low))

  at_place : (k : ℕ) → k < n → slice_get rules k ≡ Some (get_or rules k rule)
  at_place k low = slice_get-get_or rules k rule (let all : n < length rules = within in omega (arith, low, all))

  taken : (k : ℕ) → k < n → get_or (take n rules) k rule ≡ get_or rules k rule
  taken k low = get_or-take n rules k rule low

  -- an earlier rule that isn't told to cover it doesn't
  uncovered : (k : ℕ) → k < n → test (get_or (take n rules) k rule) ≡ false → ¬ CoversAt rules k n
  uncovered k low fails all =
      let one = get_or rules k rule in
      let is_covered : covers one rule ≡ true = all_covers one rule (every_at IsRule rules n rule are here) (covers_here rules k n one rule (at_place k low) here all) in
      both_ways (covers one rule) is_covered (subst (λ (r : Rule). covers r rule ≡ false) (taken k low) fails)

  least_by : (found : Option ℕ) → position test (take n rules) ≡ found → IsLeastCover rules n found
  least_by None e = λ m low. uncovered m low (none_passes test (take n rules) m rule e (let s : length (take n rules) ≡ n = size in omega (arith, low, s)))
  least_by (Some m) e =
      let (inside, passes, before) = position-Some test (take n rules) m rule e in
      let low : m < n = let s : length (take n rules) ≡ n = size in omega (arith, inside, s) in
      let one = get_or rules m rule in
      let is_covered : covers one rule ≡ true = subst (λ (r : Rule). covers r rule ≡ true) (taken m low) passes in (
        low,
        covers_there rules m n one rule (at_place m low) here (covers_all one rule (every_at IsRule rules n rule are here) is_covered),
        λ earlier less. uncovered earlier (omega (arith, less, low)) (before earlier less),
      )

  pub least_is : IsLeastCover rules n (covered rules n)
  least_is = rw here (least_by (position test (take n rules)) refl)

some_at : {A : Type 0} (xs : List A) (n : ℕ) → n < length xs → slice_get xs n ≡ None → ⊥
some_at [] n low none = omega (arith, low)
some_at (x ∷ xs) zero low none = cc none
some_at (x ∷ xs) (suc n) low none = some_at xs n (omega (arith, low)) none

pub least_cover : (rules : List Rule) (n : ℕ) → Every IsRule rules → n < length rules → IsLeastCover rules n (covered rules n)
least_cover rules n are low = by (slice_get rules n) refl
  where
    by : (o : Option Rule) → slice_get rules n ≡ o → IsLeastCover rules n (covered rules n)
    by (Some rule) e = least_is rules n rule are e
    by None e = absurd (some_at rules n low e)

-- *A flow that tells two rules apart*
pub told_apart : (rules : List Rule) (m n : ℕ) (one other : Rule) (flow : FlowId) → slice_get rules m ≡ Some one → slice_get rules n ≡ Some other → FitsFields flow → matches other flow ≡ true → matches one flow ≡ false
    → TellsApart rules m n flow
told_apart rules m n one other flow first second fits there here = record {
  in_range = fits;
  matched = at_is rules n other flow second ∙ there;
  missed = at_is rules m one flow first ∙ here;
}

-- *An answer* of what tells one rule from another, for rules by their places
pub none_covers : (rules : List Rule) (m n : ℕ) (one other : Rule) (found : Option FlowId) → Every IsRule rules → slice_get rules m ≡ Some one → slice_get rules n ≡ Some other
    → IfNone found (covers one other ≡ true) → IfSome found (λ flow. covers one other ≡ false) → (found ≡ None) ↔ CoversAt rules m n
none_covers rules m n one other None are first second none some =
    (λ is. covers_there rules m n one other first second (covers_all one other (every_at IsRule rules n other are second) none), λ all. refl)
none_covers rules m n one other (Some flow) are first second none some = (
  λ is. absurd (cc is),
  λ all. absurd (both_ways (covers one other) (all_covers one other (every_at IsRule rules n other are second) (covers_here rules m n one other first second all)) some),
)

pub some_apart : (rules : List Rule) (m n : ℕ) (one other : Rule) (found : Option FlowId) → Every IsRule rules → slice_get rules m ≡ Some one → slice_get rules n ≡ Some other
    → IfSome found FitsFields → (IsRule other → IfSome found (λ flow. matches other flow ≡ true)) → IfSome found (λ flow. matches one flow ≡ false)
    → IfSome found (TellsApart rules m n)
some_apart rules m n one other None are first second fits there here = tt
some_apart rules m n one other (Some flow) are first second fits there here =
    told_apart rules m n one other flow first second fits (there (every_at IsRule rules n other are second)) here

-- *The places of a slice*
pub rule_at : (rules items : List Rule) (place : ℕ) (rule : Rule) → rules ≡ items → place < length rules → rule ≡ get_or items place rule → slice_get rules place ≡ Some rule
rule_at rules items place rule view low at =
    let inside : place < length items = subst (λ (xs : List Rule). place < length xs) view low in
    subst (λ (xs : List Rule). slice_get xs place ≡ Some rule) (sym view) (slice_get_read items (length items) place rule refl inside at)

pub covered_by : (rules : List Rule) (n : ℕ) (rule : Rule) (found : Option ℕ) → slice_get rules n ≡ Some rule → found ≡ position (λ (earlier : Rule). covers earlier rule) (take n rules) → found ≡ covered rules n
covered_by rules n rule found here e = rw here e

pub cover_told : (rules : List Rule) (n : ℕ) (found : Option ℕ) → Every IsRule rules → n < length rules → found ≡ covered rules n → IsLeastCover rules n found
cover_told rules n found are low e = subst (IsLeastCover rules n) (sym e) (least_cover rules n are low)
