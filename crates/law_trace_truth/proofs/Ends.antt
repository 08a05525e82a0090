-- the ports that a trace names: nodes of a topology have different names, also with zeros behind them

use Rattle.std.proofs.Common.{◌≡◌, ◌≢◌, ℕ, zero, suc, ◌+◌, ◌<◌, ◌≤◌, ◌==◌, ◌&&◌, Bool, true, false, List, [], ◌∷◌, ◌++◌, length, drop, All, Option, None, Some, refl, sym, ◌∙◌, ap, subst, arith, eqb-true, eq-eqb, if◌then◌else◌}
use Rattle.std.specs.Prelude.{slice_get, nat_le}
use Rattle.std.specs.List.{list_all, repeat}
use Rattle.std.specs.Option.{option_map_or}
use Rattle.std.proofs.lemmas.Bool.{and_parts, and_from}
use Rattle.std.proofs.lemmas.Bool.Decides.{nat_tests}
use Rattle.std.proofs.lemmas.Slice.Eq.{bytes_eq-Decides}
use Rattle.world_model.specs.Words.{NodeId, IsTopology, IsNode, node_named, Topology, Node, node_in, same_link_end}
use Rattle.lab_text.specs.Forms.{is_name, is_name_octet}
use Rattle.law_run_facts.proofs.law_port_facts.Keyed.{by_eq}
use Rattle.script_model.specs.Texts.{name_of}
use Rattle.trace_model.specs.Ends.{same_node, same_end}
use Rattle.trace_model.specs.Forms.{padded_name as padded}
use Rattle.trace_model.proofs.Same.{same_node-is}
use Rattle.world_model.specs.network_model.declared.link.LinkEnd.{LinkEnd}
use Rattle.tell_trace.specs.Passages.{end_said}
use Rattle.law_trace_truth.specs.Law.{HasNames}

-- *A name* is what stands in front of the first zero
cut : List ℕ → List ℕ
cut [] = []
cut (x ∷ xs) = if x == 0 then [] else x ∷ cut xs

abbrev AreZeros : List ℕ → Type 0
AreZeros [] = Unit {0}
AreZeros (x ∷ xs) = (x ≡ 0) × AreZeros xs

cut_zeros : (k : ℕ) (zeros : List ℕ) → AreZeros zeros → cut (drop k zeros) ≡ []
unfolding cut
cut_zeros zero [] z = refl
cut_zeros (suc k) [] z = refl
cut_zeros zero (x ∷ zeros) z = ap (λ (n : ℕ). if n == 0 then [] else n ∷ cut zeros) z.0
cut_zeros (suc k) (x ∷ zeros) z = cut_zeros k zeros z.1

sixteen : AreZeros (repeat 16 (0 ∷ []))
sixteen = (refl, (refl, (refl, (refl, (refl, (refl, (refl, (refl, (refl, (refl, (refl, (refl, (refl, (refl, (refl, (refl, tt))))))))))))))))

not_zero : (octet : ℕ) → is_name_octet octet ≡ true → (octet == 0) ≡ false
not_zero zero e = absurd (cc e)
not_zero (suc n) e = grind (arith, nat_tests)

cut_name : (name zeros : List ℕ) → list_all is_name_octet name ≡ true → cut zeros ≡ [] → cut (name ++ zeros) ≡ name
unfolding cut
cut_name [] zeros all none = none
cut_name (x ∷ name) zeros all none =
    let parts = and_parts (is_name_octet x) (list_all is_name_octet name) all in
    ap (λ (b : Bool). if b then [] else x ∷ cut (name ++ zeros)) (not_zero x parts.0) ∙ ap (λ (l : List ℕ). x ∷ l) (cut_name name zeros parts.1 none)

name_octets : (name : List ℕ) → is_name name ≡ true → list_all is_name_octet name ≡ true
name_octets name e =
    let some = and_parts (nat_le 1 (length name)) _ e in
    let few = and_parts (nat_le (length name) 16) _ some.1 in
    (and_parts _ (list_all is_name_octet name) few.1).1

cut_padded : (name : List ℕ) → is_name name ≡ true → cut (padded name).0 ≡ name
cut_padded name e = cut_name name (drop (length name) (repeat 16 (0 ∷ []))) (name_octets name e) (cut_zeros (length name) (repeat 16 (0 ∷ [])) sixteen)

one_name : (a b : List ℕ) → is_name a ≡ true → is_name b ≡ true → (padded a).0 ≡ (padded b).0 → a ≡ b
one_name a b na nb e = sym (cut_padded a na) ∙ ap cut e ∙ cut_padded b nb

-- *Elements*
pub all_got : {A : Type 0} (P : A → Type 0) (xs : List A) (k : ℕ) (x : A) → All P xs → slice_get xs k ≡ Some x → P x
all_got P [] k x all e = absurd (cc e)
all_got P (y ∷ xs) zero x all e = (let same : y ≡ x = cc in subst P same (all 0 y (omega arith)))
all_got P (y ∷ xs) (suc k) x all e = all_got P xs k x (λ i d low. all (suc i) d (omega (arith, low))) e

got_at : {A : Type 0} (xs : List A) (k : ℕ) → k < length xs → (x : A) × (slice_get xs k ≡ Some x)
got_at [] k low = absurd (omega (arith, low))
got_at (x ∷ xs) zero low = (x, refl)
got_at (x ∷ xs) (suc k) low = got_at xs k (omega (arith, low))

-- ends of the same numbers are one
pub ends_are : (a b : LinkEnd) → same_link_end a b ≡ true → a ≡ b
ends_are a b t =
    let parts = and_parts (a.node.0 == b.node.0) (a.port.0 == b.port.0) t in
    let node = eqb-true a.node.0 b.node.0 parts.0 in
    let port = eqb-true a.port.0 b.port.0 parts.1 in
    λ i. record { node = record { 0 = node i }; port = record { 0 = port i } }

pub ends_alike : (a : LinkEnd) → same_link_end a a ≡ true
ends_alike a = and_from (a.node.0 == a.node.0) (a.port.0 == a.port.0) (eq-eqb a.node.0 a.node.0 refl) (eq-eqb a.port.0 a.port.0 refl)

module _ (topology : Topology) (is : IsTopology topology) (names : HasNames topology) where
  -- *The nodes of a topology* have different names

  pub named : (n : ℕ) → (1 ≤ n) × (n ≤ length topology.nodes) → (found : Node) × (node_in topology.nodes n ≡ Some found)
  named zero low = absurd (omega (arith, low.0))
  named (suc place) low = got_at topology.nodes place (omega (arith, low.1))

  numbered : (n : ℕ) (node : Node) → node_in topology.nodes n ≡ Some node → (is_name node.name ≡ true) × ((m : ℕ) (other : Node) → node_in topology.nodes m ≡ Some other → node.name ≡ other.name → n ≡ m)
  numbered zero node e = absurd (cc e)
  numbered (suc place) node e = (all_got (λ (x : Node). is_name x.name ≡ true) topology.nodes place node names e, other_number)
    where
      other_number : (m : ℕ) (other : Node) → node_in topology.nodes m ≡ Some other → node.name ≡ other.name → suc place ≡ m
      other_number zero other f same = absurd (cc f)
      other_number (suc k) other f same =
          let one = (is.nodes place node e).named in
          let two = (is.nodes k other f).named in
          let both : Some (let n : NodeId = record { 0 = place + 1 } in n) ≡ Some (let n : NodeId = record { 0 = k + 1 } in n) =
          sym one ∙ ap (λ (name : List ℕ). node_named topology name) same ∙ two in
          same_number place k both
        where
          same_number : (p k : ℕ) → Some (let n : NodeId = record { 0 = p + 1 } in n) ≡ Some (let n : NodeId = record { 0 = k + 1 } in n) → suc p ≡ suc k
          same_number p k e = (let n : p + 1 ≡ k + 1 = ap (λ (o : Option NodeId). number_in_option o) e in omega (arith, n))
            where
              number_in_option : Option NodeId → ℕ
              number_in_option None = 0
              number_in_option (Some n) = n.0

  same_node_said : (m n : NodeId) → IsNode topology m → IsNode topology n → same_node (padded (name_of topology m)) (padded (name_of topology n)) ≡ (m.0 == n.0)
  same_node_said m n there here = by_eq m.0 n.0
      (λ same t. same_node-is (padded (name_of topology m)) (padded (name_of topology n)) (ap (λ (k : ℕ). padded (name_of topology (record { 0 = k }))) same) ∙ sym t)
      (λ away t. other (same_node (padded (name_of topology m)) (padded (name_of topology n))) refl away ∙ sym t)
    where
      name_is : (k : NodeId) (node : Node) → node_in topology.nodes k.0 ≡ Some node → name_of topology k ≡ node.name
      name_is k node e = ap (λ (o : Option Node). option_map_or (λ (found : Node). found.name) o []) e

      other : (b : Bool) → same_node (padded (name_of topology m)) (padded (name_of topology n)) ≡ b → m.0 ≢ n.0 → b ≡ false
      other false e away = refl
      other true e away =
          let one = named m.0 there in
          let two = named n.0 here in
          let of_one = numbered m.0 one.0 one.1 in
          let of_two = numbered n.0 two.0 two.1 in
          let octets = (bytes_eq-Decides (padded (name_of topology m)).0 (padded (name_of topology n)).0).0 e in
          let first = name_is m one.0 one.1 in
          let second = name_is n two.0 two.1 in
          let same : one.0.name ≡ two.0.name = one_name one.0.name two.0.name of_one.0 of_two.0
          (sym (ap (λ (name : List ℕ). (padded name).0) first) ∙ octets ∙ ap (λ (name : List ℕ). (padded name).0) second) in
          absurd (away (of_one.1 n.0 two.0 two.1 same))

  -- so ends are the same where what is said of them is
  pub same_said : (one other : LinkEnd) → IsNode topology one.node → IsNode topology other.node
      → same_end (end_said topology one) (end_said topology other) ≡ same_link_end one other
  same_said one other there here = ap (λ (b : Bool). b && (one.port.0 == other.port.0)) (same_node_said one.node other.node there here)
