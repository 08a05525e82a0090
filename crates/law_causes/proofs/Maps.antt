-- the branches of a switch, one by one

use Rattle.std.proofs.Common.{◌≡◌, ◌≢◌, Bool, true, false, cond, None, Some, refl, sym, ◌∙◌, ap, ◌⊎◌, inl, inr}
use Rattle.std.specs.declared.cmp.Ordering.{Ordering}
use Rattle.std.specs.declared.cmp.Ordering.TheVariants.{Less, Equal, Greater}
use Rattle.std.specs.Ordering.{nat_cmp, ordering_then, eq_by_cmp, is_eq}
use Rattle.std.specs.Cmp.{IsTotalOrder, then_total, on_total, nat_cmp_total, tied_itself}
use Rattle.std.specs.FinMap.{get, insert, remove, get-insert, get-remove, nat_cmp-IsAntisymmetric}
use Rattle.law_cell_lists.specs.world_model.Words.{End, end_cmp, Branches}
use Rattle.law_cell_lists.specs.world_model.crossbar_model.declared.branch.Branch.{Branch}

end_cmp_total : IsTotalOrder end_cmp
end_cmp_total =
    then_total (on_total (λ (e : End). e.port.0) nat_cmp_total) (then_total (on_total (λ (e : End). e.channel.vpi) nat_cmp_total) (on_total (λ (e : End). e.channel.vci) nat_cmp_total))

first_tied : (r s : Ordering) → ordering_then r s ≡ Equal → r ≡ Equal
first_tied Less s e = absurd (cc e)
first_tied Equal s e = refl
first_tied Greater s e = absurd (cc e)

then_tied : (r s : Ordering) → ordering_then r s ≡ Equal → s ≡ Equal
then_tied Less s e = absurd (cc e)
then_tied Equal s e = e
then_tied Greater s e = absurd (cc e)

end_from_tie : (x y : End) → end_cmp x y ≡ Equal → x ≡ y
end_from_tie x y e =
    let rest : ordering_then (nat_cmp x.channel.vpi y.channel.vpi) (nat_cmp x.channel.vci y.channel.vci) ≡ Equal = then_tied _ _ e in
    λ i. record {
      port = record { 0 = nat_cmp-IsAntisymmetric x.port.0 y.port.0 (first_tied _ _ e) i };
      channel = record { vpi = nat_cmp-IsAntisymmetric x.channel.vpi y.channel.vpi (first_tied _ _ rest) i; vci = nat_cmp-IsAntisymmetric x.channel.vci y.channel.vci (then_tied _ _ rest) i };
    }

tied : (x : End) → eq_by_cmp end_cmp x x ≡ true
tied x = by (end_cmp x x) (tied_itself end_cmp_total x)
  where
    by : (r : Ordering) → r ≡ Equal → is_eq r ≡ true
    by Less e = absurd (cc e)
    by Equal e = refl
    by Greater e = absurd (cc e)

untied : (x y : End) → x ≢ y → eq_by_cmp end_cmp x y ≡ false
untied x y d = by (end_cmp x y) refl
  where
    by : (r : Ordering) → end_cmp x y ≡ r → is_eq r ≡ false
    by Less e = refl
    by Equal e = absurd (d (end_from_tie x y e))
    by Greater e = refl

pub same_input : (x y : End) → (x ≡ y) ⊎ (x ≢ y)
same_input x y = by (end_cmp x y) refl
  where
    by : (r : Ordering) → end_cmp x y ≡ r → (x ≡ y) ⊎ (x ≢ y)
    by Equal e = inl (end_from_tie x y e)
    by Less e = inr (λ s. (let clash : Less ≡ Equal = sym e ∙ ap (end_cmp x) (sym s) ∙ tied_itself end_cmp_total x in cc clash))
    by Greater e = inr (λ s. (let clash : Greater ≡ Equal = sym e ∙ ap (end_cmp x) (sym s) ∙ tied_itself end_cmp_total x in cc clash))

pub insert_here : (m : Branches) (k : End) (v : Branch) → get (insert m k v) k ≡ Some v
insert_here m k v = get-insert end_cmp_total m k v k ∙ ap (λ (b : Bool). cond b (Some v) (get m k)) (tied k)

pub insert_away : (m : Branches) (k q : End) (v : Branch) → q ≢ k → get (insert m k v) q ≡ get m q
insert_away m k q v d = get-insert end_cmp_total m k v q ∙ ap (λ (b : Bool). cond b (Some v) (get m q)) (untied q k d)

pub remove_here : (m : Branches) (k : End) → get (remove m k) k ≡ None
remove_here m k = get-remove end_cmp_total m k k ∙ ap (λ (b : Bool). cond b None (get m k)) (tied k)

pub remove_away : (m : Branches) (k q : End) → q ≢ k → get (remove m k) q ≡ get m q
remove_away m k q d = get-remove end_cmp_total m k q ∙ ap (λ (b : Bool). cond b None (get m q)) (untied q k d)
