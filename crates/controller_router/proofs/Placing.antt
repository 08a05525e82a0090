-- The places of ports, one port after the other.

use Rattle.std.proofs.Common.{◌≡◌, ℕ, ◌+◌, ◌<◌, ◌≤◌, ◌==◌, ◌||◌, nat_eq, Bool, true, false, List, [], ◌∷◌, ◌++◌, length, get_or, set, take, Option, Some, None, refl, sym, subst, ◌⊎◌, ap, ◌∙◌, arith, inl, inr, replicate, length-append, get_or-set_other, get_or-set_same}
use Rattle.std.proofs.Math.ListN.{get_or-append}
use Rattle.std.proofs.Math.Seq.{get_or-append_seam}
use Rattle.std.proofs.lemmas.Bool.{cases_eq}
use Rattle.std.proofs.lemmas.Bool.Decides.{nat_tests}
use Rattle.std.proofs.lemmas.List.{get_or-replicate, length-take-le, take_more}
use Rattle.std.proofs.lemmas.List.Folds.{list_any-append}
use Rattle.std.specs.List.{list_any}
use Rattle.net_types.specs.declared.node.PortNo.{PortNo}
use Rattle.controller_router.specs.Node.{ArePlaces, IsNowhere, IsPlaceOf}

pub no_places : ArePlaces [] (replicate 9 None)
no_places = record {
  some = λ port k d low e. absurd (cc (sym (get_or-replicate 9 port.0 None d (omega (arith, low))) ∙ e));
  none = λ port d low e. refl;
}

differ : (x y : ℕ) → (x ≡ y → ⊥) → nat_eq x y ≡ false
differ x y h = grind (arith, nat_tests)

more_place : (front : List PortNo) (p port : PortNo) (j : ℕ) → IsPlaceOf front port j → IsPlaceOf (front ++ p ∷ []) port j
more_place front p port j at = record {
  within = omega (arith, at.within, length-append front (p ∷ []));
  here = λ d. ap (λ (q : PortNo). q.0) (get_or-append front (p ∷ []) d j at.within) ∙ at.here d;
}

last_place : (front : List PortNo) (p port : PortNo) → p.0 ≡ port.0 → IsPlaceOf (front ++ p ∷ []) port (length front)
last_place front p port same = record {
  within = omega (arith, length-append front (p ∷ []));
  here = λ d. ap (λ (q : PortNo). q.0) (get_or-append_seam front p [] d) ∙ same;
}

none_more : (a b : Bool) → a ≡ false → b ≡ false → (a || (b || false)) ≡ false
none_more true b h k = absurd (cc h)
none_more false true h k = absurd (cc k)
none_more false false h k = refl

pub one_more : (front : List PortNo) (places : List (Option ℕ)) (p : PortNo) (k : ℕ) → k ≡ length front → p.0 < length places → ArePlaces front places → ArePlaces (front ++ p ∷ []) (set places p.0 (Some k))
one_more front places p k count inside kept = record {
  some = λ port j d low e. some port j d low e (cases_eq p.0 port.0);
  none = λ port d low e. none port d low e (cases_eq p.0 port.0);
} where
  here : (port : PortNo) (d : Option ℕ) → p.0 ≡ port.0 → get_or (set places p.0 (Some k)) port.0 d ≡ Some k
  here port d same = ap (λ n. get_or (set places p.0 (Some k)) n d) (sym same) ∙ get_or-set_same places p.0 (Some k) d inside

  there : (port : PortNo) (d : Option ℕ) → (p.0 ≡ port.0 → ⊥) → get_or (set places p.0 (Some k)) port.0 d ≡ get_or places port.0 d
  there port d other = get_or-set_other places p.0 port.0 (Some k) d (λ e. other (sym e))

  some : (port : PortNo) (j : ℕ) (d : Option ℕ) → port.0 ≤ 8 → get_or (set places p.0 (Some k)) port.0 d ≡ Some j → (p.0 ≡ port.0) ⊎ (p.0 ≡ port.0 → ⊥) → IsPlaceOf (front ++ p ∷ []) port j
  some port j d low e (inl same) =
      (let both : Some k ≡ Some j = sym (here port d same) ∙ e in
      let mine : length front ≡ j = sym count ∙ cc both in
      subst (λ m. IsPlaceOf (front ++ p ∷ []) port m) mine (last_place front p port same))
  some port j d low e (inr other) = more_place front p port j (kept.some port j d low (sym (there port d other) ∙ e))

  none : (port : PortNo) (d : Option ℕ) → port.0 ≤ 8 → get_or (set places p.0 (Some k)) port.0 d ≡ None → (p.0 ≡ port.0) ⊎ (p.0 ≡ port.0 → ⊥) → IsNowhere (front ++ p ∷ []) port
  none port d low e (inl same) = absurd (cc (sym (here port d same) ∙ e))
  none port d low e (inr other) =
      list_any-append (λ q. q.0 == port.0) front (p ∷ [])
      ∙ none_more (list_any (λ q. q.0 == port.0) front) (p.0 == port.0) (kept.none port d low (sym (there port d other) ∙ e)) (differ p.0 port.0 other)

pub next_place : (ports : List PortNo) (places : List (Option ℕ)) (p : PortNo) (k : ℕ) → k < length ports → p ≡ get_or ports k p → p.0 < length places → ArePlaces (take k ports) places → ArePlaces (take (k + 1) ports) (set places p.0 (Some k))
next_place ports places p k within here inside kept =
    let more : take (k + 1) ports ≡ take k ports ++ p ∷ [] = take_more ports k p within ∙ ap (λ q. take k ports ++ q ∷ []) (sym here) in
    subst (λ front. ArePlaces front (set places p.0 (Some k))) (sym more) (one_more (take k ports) places p k (sym (length-take-le k ports (omega (arith, within)))) inside kept)
