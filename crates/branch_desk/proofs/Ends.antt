-- Ends: two tie in their order exactly where they are one.

use Rattle.std.proofs.Common.{◌≡◌, Bool, true, false, ◌&&◌, refl, nat_eq}
use Rattle.std.specs.declared.cmp.Ordering.{Ordering}
use Rattle.std.specs.declared.cmp.Ordering.TheVariants.{Less, Equal, Greater}
use Rattle.std.specs.Ordering.{nat_cmp, ordering_then}
use Rattle.std.specs.Cmp.{IsTotalOrder, then_total, on_total, nat_cmp_total}
use Rattle.std.specs.FinMap.{nat_cmp-IsAntisymmetric}
use Rattle.std.proofs.lemmas.Bool.{eqb-true, eq-eqb}
use Rattle.net_types.specs.declared.channel.End.{End}
use Rattle.port_model.specs.crossbar_model.Channels.{end_cmp}
use Rattle.port_model.specs.crossbar_model.Crossbar.{same_end}

pub end_cmp_total : IsTotalOrder end_cmp
end_cmp_total =
    then_total (on_total (λ (e : End). e.port.0) nat_cmp_total) (then_total (on_total (λ (e : End). e.channel.vpi) nat_cmp_total) (on_total (λ (e : End). e.channel.vci) nat_cmp_total))

first_tied : (r s : Ordering) → ordering_then r s ≡ Equal → r ≡ Equal
first_tied Less s e = absurd (cc e)
first_tied Equal s e = refl
first_tied Greater s e = absurd (cc e)

then_tied : (r s : Ordering) → ordering_then r s ≡ Equal → s ≡ Equal
then_tied Less s e = absurd (cc e)
then_tied Equal s e = e
then_tied Greater s e = absurd (cc e)

end_is : (x y : End) → x.port.0 ≡ y.port.0 → x.channel.vpi ≡ y.channel.vpi → x.channel.vci ≡ y.channel.vci → x ≡ y
end_is x y ports paths channels = λ i. record { port = record { 0 = ports i }; channel = record { vpi = paths i; vci = channels i } }

pub end_from_tie : (x y : End) → end_cmp x y ≡ Equal → x ≡ y
end_from_tie x y e =
    let rest : ordering_then (nat_cmp x.channel.vpi y.channel.vpi) (nat_cmp x.channel.vci y.channel.vci) ≡ Equal = then_tied _ _ e in
    end_is x y (nat_cmp-IsAntisymmetric x.port.0 y.port.0 (first_tied _ _ e)) (nat_cmp-IsAntisymmetric x.channel.vpi y.channel.vpi (first_tied _ _ rest)) (nat_cmp-IsAntisymmetric x.channel.vci y.channel.vci (then_tied _ _ rest))

left : (a b : Bool) → (a && b) ≡ true → a ≡ true
left true b h = refl
left false b h = h

right : (a b : Bool) → (a && b) ≡ true → b ≡ true
right true b h = h
right false b h = absurd (cc h)

pub end_from_same : (x y : End) → same_end x y ≡ true → x ≡ y
end_from_same x y h =
    let rest = right (nat_eq x.port.0 y.port.0) _ h in
    end_is x y (eqb-true _ _ (left (nat_eq x.port.0 y.port.0) _ h)) (eqb-true _ _ (left (nat_eq x.channel.vpi y.channel.vpi) _ rest)) (eqb-true _ _ (right (nat_eq x.channel.vpi y.channel.vpi) _ rest))

pub same_itself : (x : End) → same_end x x ≡ true
same_itself x = rw (eq-eqb x.port.0 x.port.0 refl, eq-eqb x.channel.vpi x.channel.vpi refl, eq-eqb x.channel.vci x.channel.vci refl) refl
