-- what is owed to a port as one of its labels or grants is put in its place, and as one more is held

use Rattle.std.proofs.Common.{◌≡◌, ◌≢◌, ◌⊎◌, inl, inr, ℕ, List, None, Some, sym, ◌∙◌, subst}
use Rattle.world_model.specs.Words.{Request, at, put, Setup, Label, label_number, Grant, grant_label}
use Rattle.law_live_journeys.proofs.law_port_facts.Keyed.{by_eq, at_put_same, at_put_other}
use Rattle.law_live_journeys.specs.law_live_bindings.Law.{label_branch, grant_branch}
use Rattle.law_live_ease.proofs.ComingOwed.{Has, Wires, Idles, IsOwed, of_label, of_grant, same_labels, same_grants, label_not_grant, grant_not_label}

module _ {A : Type 0} (key : A → ℕ) (Such : A → Type 0) where
  one_item : (x y : A) → Some x ≡ Some y → x ≡ y
  one_item x y e = cc

  -- *One is put in the place* of another
  module _ (y : A) (xs : List A) (x : A) (there : at key (key y) xs ≡ Some x) where
    at_place : (k : ℕ) → k ≡ key y → at key k (put key y xs) ≡ Some y
    at_place k same = subst (λ n. at key n (put key y xs) ≡ Some y) (sym same) (at_put_same key y xs x there)

    was_at : (k : ℕ) → k ≡ key y → at key k xs ≡ Some x
    was_at k same = subst (λ n. at key n xs ≡ Some x) (sym same) there

    elsewhere : (k : ℕ) → k ≢ key y → at key k (put key y xs) ≡ at key k xs
    elsewhere k differs = at_put_other key y k xs (λ e. differs (sym e))

    pub has_put : (Such x → Such y) → (k : ℕ) → Has key Such xs k → Has key Such (put key y xs) k
    has_put like k has = by_eq k (key y)
        (λ same t. record { item = y; held = at_place k same; is = like (subst Such (one_item has.item x (sym has.held ∙ was_at k same)) has.is) })
        (λ differs t. record { item = has.item; held = elsewhere k differs ∙ has.held; is = has.is })

    pub had_put : (Such y → Such x) → (k : ℕ) → Has key Such (put key y xs) k → Has key Such xs k
    had_put like k has = by_eq k (key y)
        (λ same t. record { item = x; held = was_at k same; is = like (subst Such (one_item has.item y (sym has.held ∙ at_place k same)) has.is) })
        (λ differs t. record { item = has.item; held = sym (elsewhere k differs) ∙ has.held; is = has.is })

    -- which is such a one no longer
    pub has_gone : (k : ℕ) → Has key Such xs k → Has key Such (put key y xs) k ⊎ (k ≡ key y)
    has_gone k has = by_eq k (key y) (λ same t. inr same) (λ differs t. inl (record { item = has.item; held = elsewhere k differs ∙ has.held; is = has.is }))

    pub had_gone : (Such y → ⊥) → (k : ℕ) → Has key Such (put key y xs) k → Has key Such xs k × (k ≢ key y)
    had_gone never k has = by_eq k (key y)
        (λ same t. absurd (never (subst Such (one_item has.item y (sym has.held ∙ at_place k same)) has.is)))
        (λ differs t. (record { item = has.item; held = sym (elsewhere k differs) ∙ has.held; is = has.is }, differs))

  -- *One more is held*
  module _ (y : A) (xs after : List A) (spare : at key (key y) xs ≡ None) (now : at key (key y) after ≡ Some y) (others : (k : ℕ) → key y ≢ k → at key k after ≡ at key k xs) where
    pub has_more : (k : ℕ) → Has key Such xs k → Has key Such after k
    has_more k has = by_eq k (key y)
        (λ same t. absurd (cc (sym has.held ∙ subst (λ n. at key n xs ≡ None) (sym same) spare)))
        (λ differs t. record { item = has.item; held = others k (λ e. differs (sym e)) ∙ has.held; is = has.is })

    pub had_more : (k : ℕ) → Has key Such after k → Has key Such xs k ⊎ (k ≡ key y)
    had_more k has = by_eq k (key y) (λ same t. inr same) (λ differs t. inl (record { item = has.item; held = sym (others k (λ e. differs (sym e))) ∙ has.held; is = has.is }))

-- *What is owed* by what is held
module _ (setup : Setup) (labels after : List Label) (grants then_granted : List Grant) where
  pub owed_alike : ((k : ℕ) → Has label_number Wires labels k → Has label_number Wires after k) → ((k : ℕ) → Has grant_label Idles grants k → Has grant_label Idles then_granted k)
      → (request : Request) → IsOwed setup labels grants request → IsOwed setup after then_granted request
  owed_alike by_label by_grant _ (of_label number has) = of_label number (by_label number has)
  owed_alike by_label by_grant _ (of_grant number has) = of_grant number (by_grant number has)

  -- but for one
  pub owed_or : (other : Request) → ((k : ℕ) → Has label_number Wires labels k → Has label_number Wires after k ⊎ (label_branch setup k ≡ other))
      → ((k : ℕ) → Has grant_label Idles grants k → Has grant_label Idles then_granted k ⊎ (grant_branch setup k ≡ other))
      → (request : Request) → IsOwed setup labels grants request → IsOwed setup after then_granted request ⊎ (request ≡ other)
  owed_or other by_label by_grant _ (of_label number has) = elim (by_label number has) [ inl it ↦ inl (of_label number it) | inr same ↦ inr same ]
  owed_or other by_label by_grant _ (of_grant number has) = elim (by_grant number has) [ inl it ↦ inl (of_grant number it) | inr same ↦ inr same ]

  pub owed_apart : (other : Request) → ((k : ℕ) → Has label_number Wires labels k → Has label_number Wires after k × (label_branch setup k ≡ other → ⊥))
      → ((k : ℕ) → Has grant_label Idles grants k → Has grant_label Idles then_granted k × (grant_branch setup k ≡ other → ⊥))
      → (request : Request) → IsOwed setup labels grants request → IsOwed setup after then_granted request × (request ≡ other → ⊥)
  owed_apart other by_label by_grant _ (of_label number has) = (of_label number (by_label number has).0, (by_label number has).1)
  owed_apart other by_label by_grant _ (of_grant number has) = (of_grant number (by_grant number has).0, (by_grant number has).1)

-- *A port of another number* is owed no branch of this one's
module _ (x y : Setup) (apart : x.port.0 ≢ y.port.0) (link : y.port.0 ≢ 0) (labels : List Label) (grants : List Grant) where
  pub other_label : (n : ℕ) (request : Request) → IsOwed x labels grants request → request ≡ label_branch y n → ⊥
  other_label n _ (of_label number has) e = apart (same_labels x y number n e).port
  other_label n _ (of_grant number has) e = grant_not_label x y number n link e

  pub other_grant : (n : ℕ) (request : Request) → IsOwed x labels grants request → request ≡ grant_branch y n → ⊥
  other_grant n _ (of_label number has) e = label_not_grant x y number n link e
  other_grant n _ (of_grant number has) e = apart (same_grants x y number n e).port
