-- finite maps from ends: what a change leaves at each input

use Rattle.std.proofs.Common.{◌≡◌, ◌≢◌, Bool, true, false, cond, None, Some, refl, sym, ◌∙◌, ap, ◌⊎◌, inl, inr, arith}
use Rattle.std.specs.declared.cmp.Ordering.{Ordering}
use Rattle.std.specs.declared.cmp.Ordering.TheVariants.{Less, Equal, Greater}
use Rattle.std.specs.Ordering.{nat_cmp, ordering_then, eq_by_cmp, is_eq}
use Rattle.std.specs.Cmp.{IsTotalOrder, then_total, on_total, nat_cmp_total, tied_itself}
use Rattle.std.specs.FinMap.{FinMap, get, insert, remove, retain_keys, get-insert, get-remove, get-retain_keys, nat_cmp-IsAntisymmetric}
use Rattle.std.proofs.lemmas.Bool.Decides.{nat_tests}
use Rattle.world_model.specs.Words.{End, end_cmp, same_end}

-- *The order of ends* tells them apart
end_cmp_total : IsTotalOrder end_cmp
end_cmp_total =
    then_total (on_total (λ (e : End). e.port.0) nat_cmp_total) (then_total (on_total (λ (e : End). e.channel.vpi) nat_cmp_total) (on_total (λ (e : End). e.channel.vci) nat_cmp_total))

first_tied : (r s : Ordering) → ordering_then r s ≡ Equal → r ≡ Equal
first_tied Less s e = absurd (cc e)
first_tied Equal s e = refl
first_tied Greater s e = absurd (cc e)

then_tied : (r s : Ordering) → ordering_then r s ≡ Equal → s ≡ Equal
then_tied Less s e = absurd (cc e)
then_tied Equal s e = e
then_tied Greater s e = absurd (cc e)

pub end_from_tie : (x y : End) → end_cmp x y ≡ Equal → x ≡ y
end_from_tie x y e =
    let rest : ordering_then (nat_cmp x.channel.vpi y.channel.vpi) (nat_cmp x.channel.vci y.channel.vci) ≡ Equal = then_tied _ _ e in
    λ i. record {
      port = record { 0 = nat_cmp-IsAntisymmetric x.port.0 y.port.0 (first_tied _ _ e) i };
      channel = record { vpi = nat_cmp-IsAntisymmetric x.channel.vpi y.channel.vpi (first_tied _ _ rest) i; vci = nat_cmp-IsAntisymmetric x.channel.vci y.channel.vci (then_tied _ _ rest) i };
    }

tied : (x : End) → eq_by_cmp end_cmp x x ≡ true
tied x = ap is_eq (tied_itself end_cmp_total x)

untied : (x y : End) → x ≢ y → eq_by_cmp end_cmp x y ≡ false
untied x y d = by (end_cmp x y) refl
  where
    by : (r : Ordering) → end_cmp x y ≡ r → is_eq r ≡ false
    by Less e = refl
    by Equal e = absurd (d (end_from_tie x y e))
    by Greater e = refl

pub same_input : (x y : End) → (x ≡ y) ⊎ (x ≢ y)
same_input x y = by (end_cmp x y) refl
  where
    by : (r : Ordering) → end_cmp x y ≡ r → (x ≡ y) ⊎ (x ≢ y)
    by Equal e = inl (end_from_tie x y e)
    by Less e = inr (λ s. (let clash : Less ≡ Equal = sym e ∙ ap (end_cmp x) (sym s) ∙ tied_itself end_cmp_total x in cc clash))
    by Greater e = inr (λ s. (let clash : Greater ≡ Equal = sym e ∙ ap (end_cmp x) (sym s) ∙ tied_itself end_cmp_total x in cc clash))

pub same_self : (a : End) → same_end a a ≡ true
same_self a = grind (arith, nat_tests)

pub same_is : (a b : End) → same_end a b ≡ true → a ≡ b
same_is a b e = λ i. record { port = record { 0 = port i }; channel = record { vpi = vpi i; vci = vci i } }
  where
    port : a.port.0 ≡ b.port.0
    port = grind (arith, nat_tests)

    vpi : a.channel.vpi ≡ b.channel.vpi
    vpi = grind (arith, nat_tests)

    vci : a.channel.vci ≡ b.channel.vci
    vci = grind (arith, nat_tests)

module _ {X : Type 0} (m : FinMap end_cmp X) where
  pub insert_here : (k : End) (v : X) → get (insert m k v) k ≡ Some v
  insert_here k v = get-insert end_cmp_total m k v k ∙ ap (λ (b : Bool). cond b (Some v) (get m k)) (tied k)

  pub insert_away : (k q : End) (v : X) → q ≢ k → get (insert m k v) q ≡ get m q
  insert_away k q v d = get-insert end_cmp_total m k v q ∙ ap (λ (b : Bool). cond b (Some v) (get m q)) (untied q k d)

  pub remove_here : (k : End) → get (remove m k) k ≡ None
  remove_here k = get-remove end_cmp_total m k k ∙ ap (λ (b : Bool). cond b None (get m k)) (tied k)

  pub remove_away : (k q : End) → q ≢ k → get (remove m k) q ≡ get m q
  remove_away k q d = get-remove end_cmp_total m k q ∙ ap (λ (b : Bool). cond b None (get m q)) (untied q k d)

  pub retained : (p : End → Bool) (q : End) → get (retain_keys m p) q ≡ cond (p q) (get m q) None
  retained p q = get-retain_keys m p q (λ x e. ap p (sym (end_from_tie q x e)))
