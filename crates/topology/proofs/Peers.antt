-- each end of a link leads to the other

use Rattle.std.proofs.Common.{◌≡◌, ℕ, Bool, true, false, ◌&&◌, ◌==◌, cond, List, [], ◌∷◌, ◌++◌, Option, None, Some, refl, sym, ap, ap₂, ◌∙◌}
use Rattle.std.proofs.lemmas.Bool.{eqb-true, eqb-false}
use Rattle.std.specs.Map.{lookup}
use Rattle.std.specs.Option.{option_or}
use Rattle.world_model.specs.network_model.declared.link.LinkEnd.{LinkEnd}
use Rattle.world_model.specs.Topology.{Link, same_link_end, peer_among, peer_on}
use Rattle.topology.specs.Indexes.{LeadAcross}

-- numbers are compared either way
eq-sym : (a b : ℕ) → (a == b) ≡ (b == a)
eq-sym a b = by (a == b) (b == a) refl refl where
  by : (x y : Bool) → (a == b) ≡ x → (b == a) ≡ y → x ≡ y
  by true true p q = refl
  by false false p q = refl
  by true false p q = absurd (eqb-false b a q (sym (eqb-true a b p)))
  by false true p q = absurd (eqb-false a b p (sym (eqb-true b a q)))

same_link_end-sym : (a b : LinkEnd) → same_link_end a b ≡ same_link_end b a
same_link_end-sym a b = ap₂ (λ x y. x && y) (eq-sym a.node.0 b.node.0) (eq-sym a.port.0 b.port.0)

ends_are : (a b : LinkEnd) → same_link_end a b ≡ true → a ≡ b
ends_are a b same = by (a.node.0 == b.node.0) (a.port.0 == b.port.0) refl refl same where
  by : (x y : Bool) → (a.node.0 == b.node.0) ≡ x → (a.port.0 == b.port.0) ≡ y → (x && y) ≡ true → a ≡ b
  by true true p q h = ap₂ (λ (m n : ℕ). record { node = record { 0 = m }; port = record { 0 = n } }) (eqb-true a.node.0 b.node.0 p) (eqb-true a.port.0 b.port.0 q)
  by true false p q h = absurd (cc h)
  by false y p q h = absurd (cc h)

-- the ends of the last link are looked up after those of the others
peer_among-push : (end : LinkEnd) (links : List Link) (link : Link) → peer_among end (links ++ link ∷ []) ≡ option_or (peer_among end links) (peer_on end link)
peer_among-push end [] link = by (peer_on end link) where
  by : (o : Option LinkEnd) → option_or o None ≡ o
  by None = refl
  by (Some far) = refl
peer_among-push end (first ∷ links) link = by (peer_on end first) (peer_among-push end links link) where
  by : (o : Option LinkEnd) → peer_among end (links ++ link ∷ []) ≡ option_or (peer_among end links) (peer_on end link)
      → option_or o (peer_among end (links ++ link ∷ [])) ≡ option_or (option_or o (peer_among end links)) (peer_on end link)
  by None h = h
  by (Some far) h = refl

-- what both ends lead to, whichever is put first
put_either : (x y : Bool) (first second : LinkEnd) (others : Option LinkEnd) → (x ≡ true → y ≡ false) → (x ≡ true → others ≡ None) → (y ≡ true → others ≡ None)
    → cond y (Some first) (cond x (Some second) others) ≡ option_or others (cond x (Some second) (cond y (Some first) None))
put_either true true first second others apart free open_second = absurd (cc (apart refl))
put_either true false first second others apart free open_second = rw (free refl) refl
put_either false true first second others apart free open_second = rw (open_second refl) refl
put_either false false first second None apart free open_second = refl
put_either false false first second (Some far) apart free open_second = refl

-- a link more between ports that aren't linked
pub lead-push : (peers now : List (LinkEnd × LinkEnd)) (links : List Link) (first second : LinkEnd) → LeadAcross peers links
    → peer_among first links ≡ None → peer_among second links ≡ None → same_link_end first second ≡ false
    → ((end : LinkEnd) → lookup (same_link_end end) now ≡ cond (same_link_end second end) (Some first) (cond (same_link_end first end) (Some second) (lookup (same_link_end end) peers)))
    → LeadAcross now (links ++ record { first = first; second = second } ∷ [])
lead-push peers now links first second lead free open_second apart put end =
    let link : Link = record { first = first; second = second } in
    let others = peer_among end links in
    put end
    ∙ ap (λ (o : Option LinkEnd). cond (same_link_end second end) (Some first) (cond (same_link_end first end) (Some second) o)) (lead end)
    ∙ put_either (same_link_end first end) (same_link_end second end) first second others
    (λ e. ap (same_link_end second) (sym (ends_are first end e)) ∙ same_link_end-sym second first ∙ apart)
    (λ e. ap (λ (z : LinkEnd). peer_among z links) (sym (ends_are first end e)) ∙ free)
    (λ e. ap (λ (z : LinkEnd). peer_among z links) (sym (ends_are second end e)) ∙ open_second)
    ∙ sym (peer_among-push end links link)
