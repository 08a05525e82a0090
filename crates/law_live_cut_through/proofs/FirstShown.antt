-- the port that shows at an end of a link, and what it holds of a flow that is new there

use Rattle.std.proofs.Common.{◌≡◌, ℕ, suc, nat_eq, Bool, true, false, List, [], ◌∷◌, Contains, Option, None, Some, refl, sym, ◌∙◌, ap, subst, arith, if◌then◌else◌}
use Rattle.std.specs.Option.{option_map, option_map_or, option_and_then}
use Rattle.world_model.specs.Words.{End, FlowId, at, label_number, labels_of, Grant, ByInput, grant_label, grants_at, Controller, Linked, linked_at, linked_end, World, Site, site_at}
use Rattle.world_model.specs.network_model.declared.link.LinkEnd.{LinkEnd}
use Rattle.calm_model.specs.Served.{IsNewLink}
use Rattle.law_live_ease.specs.law_live_worlds.Law.{Shows}
use Rattle.law_live_cut_through.specs.Law.{HoldsLabel, HoldsGrant}

-- *It is its node's*
pub record IsThere (w : World) (end : LinkEnd) (linked : Linked) : Type 0 where
  pub site : Site
  pub there : site_at w end.node ≡ Some site
  pub of_port : linked_at site.controller end.port ≡ Some linked

pub is_there : (w : World) (end : LinkEnd) (linked : Linked) → linked_end w end ≡ Some linked → IsThere w end linked
is_there w end linked e = by (site_at w end.node) refl e
  where
    by : (o : Option Site) → site_at w end.node ≡ o → option_and_then (λ (c : Controller). linked_at c end.port) (option_map (λ (s : Site). s.controller) o) ≡ Some linked
        → IsThere w end linked
    by None t e = absurd (cc e)
    by (Some site) t e = record { site = site; there = t; of_port = e }

pub end_shows : (w : World) (end : LinkEnd) (linked : Linked) → Shows w end linked → linked_end w end ≡ Some linked
end_shows w end linked shows =
    ap (λ (o : Option Site). option_and_then (λ (c : Controller). linked_at c end.port) (option_map (λ (s : Site). s.controller) o)) shows.there ∙ shows.of_port

pub one_linked : (w : World) (end : LinkEnd) (a b : Linked) → linked_end w end ≡ Some a → linked_end w end ≡ Some b → a ≡ b
one_linked w end a b e f = (let both : Some a ≡ Some b = sym e ∙ f in cc)

pub one_site : (w : World) (end : LinkEnd) (a b : Site) → site_at w end.node ≡ Some a → site_at w end.node ≡ Some b → a ≡ b
one_site w end a b e f = (let both : Some a ≡ Some b = sym e ∙ f in cc)

-- *Lists*: what is found by its key is among them
module _ {A : Type 0} where
  pub first_of : (x : A) (xs : List A) → Contains (x ∷ xs) x
  first_of x xs = (0, omega arith, refl)

  pub behind_first : (x : A) (xs : List A) (y : A) → Contains xs y → Contains (x ∷ xs) y
  behind_first x xs y c = (suc c.0, omega (arith, c.1), c.2)

  pub among : (key : A → ℕ) (k : ℕ) (xs : List A) (x : A) → at key k xs ≡ Some x → Contains xs x
  among key k [] x e = absurd (cc e)
  among key k (z ∷ xs) x e = by (nat_eq (key z) k) e (λ found. among key k xs x found)
    where
      by : (t : Bool) → (if t then Some z else at key k xs) ≡ Some x → (at key k xs ≡ Some x → Contains xs x) → Contains (z ∷ xs) x
      by true e later = (let same : z ≡ x = cc in subst (λ (w : A). Contains (z ∷ xs) w) same (first_of z xs))
      by false e later = behind_first z xs x (later e)

-- *Where a flow is new* no label of it is held at the one end of the link, and no grant at the other
module _ (w : World) (one far : LinkEnd) (flow : FlowId) (new : IsNewLink w one far flow) where
  pub no_label : (number : ℕ) (join : Option End) → HoldsLabel w far number flow join → ⊥
  no_label number join h = new.labels h.linked h.label h.shown (among label_number number (labels_of h.linked.port) h.label h.held) h.of_flow

  pub no_grant : (number : ℕ) (input : End) → HoldsGrant w one number flow (ByInput input) → ⊥
  no_grant number input h =
      let own : Contains h.linked.port.grants h.grant = among grant_label number h.linked.port.grants h.grant h.held in
      let are : grants_at w one ≡ h.linked.port.grants = ap (λ (o : Option Linked). option_map_or (λ (l : Linked). l.port.grants) o []) h.shown in
      new.grants h.grant (subst (λ (grants : List Grant). Contains grants h.grant) (sym are) own) h.of_flow
