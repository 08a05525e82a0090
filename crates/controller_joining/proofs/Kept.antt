-- The list of the joins, where the node may have been reset.

use Rattle.std.proofs.Common.{◌≡◌, ℕ, ◌<◌, suc, Bool, true, false, not, List, [], ◌∷◌, map, length, get_or, Result, Ok, Err, OnOk, refl, sym, ap, subst, ◌∙◌, ◌&&◌, inl, inr, arith, if◌then◌else◌}
use Rattle.std.proofs.lemmas.List.Kept.{AllPairs-from_increasing}
use Rattle.net_types.specs.declared.node.PortNo.{PortNo}
use Rattle.ordered_lists.specs.Ordered.{Every, InOrder}
use Rattle.keyed_lists.specs.Keyed.{in_order}
use Rattle.crossbar_model.specs.Channels.{ArePorts}
use Rattle.controller_joins.specs.world_model.Controller.{Acted, Controller, ports_of}
use Rattle.controller_joins.specs.declared.places.Joined.{Joined}
use Rattle.law_join_facts.specs.Joins.{Differ, HaveNumbers, joined_in}
use Rattle.law_join_facts.proofs.Comes.{le}
use Rattle.law_join_facts.proofs.Flat.{joined_is}
use Rattle.law_join_facts.proofs.Lasts.{Lasts, Stays, stands}

-- *The ports* have different numbers
differ_from : (port : PortNo) (ports : List PortNo) → ((j : ℕ) → j < length ports → port.0 < get_or (map (λ (p : PortNo). p.0) ports) j 0) → Every (Differ port) ports
differ_from port [] h = tt
differ_from port (q ∷ ports) h = ((λ e. absurd (omega (arith, h 0 (omega arith), e))), differ_from port ports (λ j low. h (suc j) (omega (arith, low))))

pub numbers_differ : (ports : List PortNo) → ((i j : ℕ) → i < j → j < length ports → get_or (map (λ (p : PortNo). p.0) ports) i 0 < get_or (map (λ (p : PortNo). p.0) ports) j 0) → InOrder Differ ports
numbers_differ [] h = tt
numbers_differ (port ∷ ports) h = (differ_from port ports (λ j low. h 0 (suc j) (omega arith) (omega (arith, low))), numbers_differ ports (λ i j lt low. h (suc i) (suc j) (omega (arith, lt)) (omega (arith, low))))

length-numbers : (ports : List PortNo) → length (map (λ (p : PortNo). p.0) ports) ≡ length ports
length-numbers [] = refl
length-numbers (port ∷ ports) = ap suc (length-numbers ports)

pub have_numbers : (c : Controller) (ports : List PortNo) → ports_of c ≡ ports → ArePorts ports → HaveNumbers c
have_numbers c ports is are = subst (InOrder Differ) (sym is) (numbers_differ ports (λ i j lt low. AllPairs-from_increasing (map (λ (p : PortNo). p.0) ports) are.ascending i j 0 lt (omega (arith, low, length-numbers ports))))

-- *Behind a call*
cleared : Bool → Bool → List Joined → List Joined
cleared stood still joins = if stood && not still then [] else joins

pub settled : (a b : Acted) (joins after : List Joined) → Lasts a b → joined_in a.controller ≡ joins → after ≡ (if stands a && not (stands b) then [] else joins) → joined_in b.controller ≡ after
settled a b joins after l joined is = elim l.either [
  | inl s ↦ (let same : (stands a && not (stands b)) ≡ false = ap (λ t. stands a && not t) s.estab ∙ never (stands a) in
      joined_is b.controller ∙ ap (in_order le) s.joined ∙ sym (joined_is a.controller) ∙ joined ∙ sym (is ∙ ap (λ (t : Bool). if t then [] else joins) same))
  | inr e ↦ (let gone : (stands a && not (stands b)) ≡ true = λ i. e.was i && not (e.is i) in
      joined_is b.controller ∙ ap (in_order le) e.joined ∙ sym (is ∙ ap (λ (t : Bool). if t then [] else joins) gone))
] where
  never : (t : Bool) → (t && not t) ≡ false
  never true = refl
  never false = refl

pub settled_by : (a b : Acted) (joins before after : List Joined) (stood still : Bool) → Lasts a b → joined_in a.controller ≡ joins → stood ≡ stands a → still ≡ stands b → before ≡ joins → after ≡ (if stood && not still then [] else before) → joined_in b.controller ≡ after
settled_by a b joins before after stood still l joined p q r is = settled a b joins after l joined (is ∙ (λ i. if p i && not (q i) then [] else r i))

pub stayed : (a b : Acted) (joins : List Joined) → Stays a b → joined_in a.controller ≡ joins → joined_in b.controller ≡ joins
stayed a b joins s joined = joined_is b.controller ∙ ap (in_order le) s.steady.joined ∙ sym (joined_is a.controller) ∙ joined

-- *What follows where a call is done*
pub ok_onward : {V F X : Type 0} (r : Result V F) (x y z : X) → y ≡ z → OnOk r (x ≡ y) → OnOk r (x ≡ z)
ok_onward (Ok v) x y z q e = e ∙ q
ok_onward (Err f) x y z q e = e

pub ok_joined : {V F : Type 0} (r : Result V F) (d y : Acted) (joins : List Joined) → joined_in y.controller ≡ joins → OnOk r (d ≡ y) → OnOk r (joined_in d.controller ≡ joins)
ok_joined (Ok v) d y joins q e = ap (λ (x : Acted). joined_in x.controller) e ∙ q
ok_joined (Err f) d y joins q e = e
