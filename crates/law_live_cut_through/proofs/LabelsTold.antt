-- what is told of an item of a list, before and behind a change: what is held stays, and nothing is joined

use Rattle.std.proofs.Common.{◌≡◌, ◌≢◌, ℕ, List, Option, None, Some, sym, ◌∙◌, subst}
use Rattle.std.specs.Option.{option_and_then}
use Rattle.world_model.specs.Words.{at, put}
use Rattle.law_live_ease.proofs.law_port_facts.Keyed.{by_eq, at_put_same, at_put_other}

none_some : {B : Type 0} (what : B) → None ≡ Some what → ⊥
none_some what e = cc e

module _ {A B C : Type 0} (held : A → Option B) (joined : A → Option C) where
  -- *One item*, that may be there or not
  pub record Goes (before after : Option A) : Type 0 where
    pub kept : (what : B) → option_and_then held before ≡ Some what → option_and_then held after ≡ Some what
    pub none_new : (what : C) → option_and_then joined after ≡ Some what → option_and_then joined before ≡ Some what

  pub goes_itself : (o : Option A) → Goes o o
  goes_itself o = record { kept = λ what h. h; none_new = λ what h. h }

  pub goes_then : (o p q : Option A) → Goes o p → Goes p q → Goes o q
  goes_then o p q one next = record { kept = λ what h. next.kept what (one.kept what h); none_new = λ what h. one.none_new what (next.none_new what h) }

  -- where as much is told of it
  pub goes_like : (old new : A) → held new ≡ held old → joined new ≡ joined old → Goes (Some old) (Some new)
  goes_like old new same alike = record { kept = λ what h. same ∙ h; none_new = λ what h. sym alike ∙ h }

  -- where nothing was held, one that isn't joined may come
  pub goes_fresh : (o : Option A) (new : A) → option_and_then held o ≡ None → joined new ≡ None → Goes o (Some new)
  goes_fresh o new none unjoined = record {
    kept = λ what h. absurd (none_some what (sym none ∙ h));
    none_new = λ what h. absurd (none_some what (sym unjoined ∙ h));
  }

  pub goes_by : (o p before after : Option A) → before ≡ o → after ≡ p → Goes o p → Goes before after
  goes_by o p before after is now goes = subst (λ (x : Option A). Goes x after) (sym is) (subst (λ (x : Option A). Goes o x) (sym now) goes)

  -- *All items* of a list, by their keys
  module _ (key : A → ℕ) where
    abbrev pub AllGo : List A → List A → Type 0
    AllGo xs ys = (k : ℕ) → Goes (at key k xs) (at key k ys)

    pub all_same : (xs ys : List A) → ys ≡ xs → AllGo xs ys
    all_same xs ys same k = subst (λ (zs : List A). Goes (at key k xs) (at key k zs)) (sym same) (goes_itself (at key k xs))

    pub all_then : (xs ys zs : List A) → AllGo xs ys → AllGo ys zs → AllGo xs zs
    all_then xs ys zs one next k = goes_then (at key k xs) (at key k ys) (at key k zs) (one k) (next k)

    -- where one is put in the place of another, and where one comes that wasn't there
    pub all_put : (xs : List A) (old new : A) → at key (key new) xs ≡ Some old → Goes (Some old) (Some new) → AllGo xs (put key new xs)
    all_put xs old new there goes k = by_eq (key new) k
        (λ own t. subst (λ n. Goes (at key n xs) (at key n (put key new xs))) own
        (goes_by (Some old) (Some new) (at key (key new) xs) (at key (key new) (put key new xs)) there (at_put_same key new xs old there) goes))
        (λ differs t. subst (λ (o : Option A). Goes (at key k xs) o) (sym (at_put_other key new k xs differs)) (goes_itself (at key k xs)))

    pub all_more : (xs ys : List A) (new : A) → at key (key new) xs ≡ None → at key (key new) ys ≡ Some new → ((k : ℕ) → key new ≢ k → at key k ys ≡ at key k xs)
        → Goes None (Some new) → AllGo xs ys
    all_more xs ys new spare there others goes k = by_eq (key new) k
        (λ own t. subst (λ n. Goes (at key n xs) (at key n ys)) own (goes_by None (Some new) (at key (key new) xs) (at key (key new) ys) spare there goes))
        (λ differs t. subst (λ (o : Option A). Goes (at key k xs) o) (sym (others k differs)) (goes_itself (at key k xs)))
