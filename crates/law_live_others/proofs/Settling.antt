-- settled ports, and the ends of a link that agree

use Rattle.std.proofs.Common.{◌≡◌, ◌≢◌, ℕ, ◌≤◌, ◌<◌, Bool, true, false, List, [], ◌∷◌, Option, None, Some, refl, sym, ◌∙◌, ap, subst, arith, map}
use Rattle.std.specs.Prelude.{nat_lt, is_some}
use Rattle.std.specs.Option.{option_map_or}
use Rattle.std.proofs.lemmas.Bool.Decides.{nat_tests}
use Rattle.world_model.specs.Words.{PortNo, Peer, Side, at, put, is_clearing, is_spent, last_number, Label, LabelState, Offered, label_number, labels_of, Grant, grant_label, is_leaving, Session, Linked, port_key}
use Rattle.world_model.specs.port_model.Port.{Port}
use Rattle.law_port_facts.specs.ordered_lists.Ordered.{Every, InOrder}
use Rattle.law_port_facts.proofs.ordered_lists.Every.{every_map, every_mapped, every_unmapped}
use Rattle.law_port_facts.proofs.ordered_lists.InOrder.{order_mapped, order_unmapped}
use Rattle.law_port_facts.proofs.Keyed.{at_every, at_key, put_order, each_found}
use Rattle.law_live_links.specs.Law.{EndOfLink, number_of, IsHeld, AreAgreed}
use Rattle.law_live_unseen.specs.Law.{SeenLabel, seen_label, SeenGrant, seen_grant, AreAlike}
use Rattle.law_live_others.specs.Law.{IsSettled, AgreedEndsAreSettled}
use Rattle.law_live_others.proofs.Leaving.{Terms}

-- *A port stays settled* that is left alike
like_every : {A S : Type 0} (seen : A → S) (P : S → Type 0) (xs ys : List A) → map seen ys ≡ map seen xs → Every (λ x. P (seen x)) xs → Every (λ y. P (seen y)) ys
like_every seen P xs ys same h = every_unmapped seen P ys (subst (Every P) (sym same) (every_mapped seen P xs h))

like_order : {A S : Type 0} (seen : A → S) (R : S → S → Type 0) (xs ys : List A) → map seen ys ≡ map seen xs → InOrder (λ a b. R (seen a) (seen b)) xs → InOrder (λ a b. R (seen a) (seen b)) ys
like_order seen R xs ys same h = order_unmapped seen R ys (subst (InOrder R) (sym same) (order_mapped seen R xs h))

-- the numbers of a session, which are spent where they are above the last
spent_by : (port : Port) → is_spent port.session ≡ nat_lt last_number (number_of port)
spent_by port = by port.session
  where
    by : (o : Option Session) → is_spent o ≡ nat_lt last_number (option_map_or (λ (s : Session). s.number) o 0)
    by None = grind (arith, nat_tests)
    by (Some s) = refl

pub settled_alike : (one next : Port) → AreAlike one next → IsSettled one → IsSettled next
settled_alike one next alike is = record {
  clear = ap (λ (side : Side Peer). is_clearing side.state) alike.adjacency ∙ is.clear;
  unspent = spent_by next ∙ (ap (nat_lt last_number) alike.number ∙ (sym (spent_by one) ∙ is.unspent));
  labels = like_every seen_label (λ (s : SeenLabel). s.state ≡ Offered) (labels_of one) (labels_of next) alike.labels is.labels;
  grants = like_every seen_grant (λ (s : SeenGrant). s.leaving ≡ false) one.grants next.grants alike.grants is.grants;
  apart = like_order seen_grant (λ (a b : SeenGrant). a.label ≡ b.label → ⊥) one.grants next.grants alike.grants is.apart;
}

-- *The terms*: a settled port, of ports in order
abbrev pub ArePlaced : List Linked → Type 0
ArePlaced ports = InOrder (λ (x y : Linked). port_key x < port_key y) ports

abbrev pub settled : PortNo → Terms
settled port = record {
  port = port;
  is = IsSettled;
  has = ArePlaced;
  stays = settled_alike;
  placed = λ new ports order. put_order port_key (λ m n. m < n) new ports order;
}

-- and any port, of any ports
abbrev pub anyhow : PortNo → Terms
anyhow port = record { port = port; is = λ p. Unit {0}; has = λ ports. Unit {0}; stays = λ one next alike is. tt; placed = λ new ports has. tt }

-- *Ends that agree* are settled
module _ (one other : EndOfLink) (agreed : AreAgreed one other) where
  one_grant : (x y : Grant) → Some x ≡ Some y → x ≡ y
  one_grant x y e = cc

  offered : Every (λ (label : Label). label.state ≡ Offered) (labels_of one.port)
  offered = every_map (IsHeld one.setup.timers other.setup other.port.grants one.said) (λ (label : Label). label.state ≡ Offered) (labels_of one.port) (λ label h. h.offered) agreed.there.labels

  -- a grant is of a label of the other end, which holds it as one that isn't leaving
  grant_stays : (grant : Grant) → at grant_label (grant_label grant) one.port.grants ≡ Some grant → (o : Option Label) → at label_number grant.label (labels_of other.port) ≡ o → is_some o ≡ true → is_leaving grant.state ≡ false
  grant_stays grant found None here given = absurd (cc given)
  grant_stays grant found (Some label) here given = subst (λ (g : Grant). is_leaving g.state ≡ false) same held.stays
    where
      held : IsHeld other.setup.timers one.setup one.port.grants other.said label
      held = at_every label_number (IsHeld other.setup.timers one.setup one.port.grants other.said) grant.label (labels_of other.port) label agreed.back.labels here

      same : held.grant ≡ grant
      same = one_grant held.grant grant (sym held.granted ∙ (ap (λ n. at grant_label n one.port.grants) (at_key label_number grant.label (labels_of other.port) label here) ∙ found))

  stay : (grants : List Grant) → Every (λ (grant : Grant). at grant_label (grant_label grant) one.port.grants ≡ Some grant) grants
      → Every (λ (grant : Grant). is_some (at label_number grant.label (labels_of other.port)) ≡ true) grants → Every (λ (grant : Grant). is_leaving grant.state ≡ false) grants
  stay [] found given = tt
  stay (grant ∷ grants) found given = (grant_stays grant found.0 (at label_number grant.label (labels_of other.port)) refl given.0, stay grants found.1 given.1)

  is_settled : number_of one.port ≤ last_number → IsSettled one.port
  is_settled low = record {
    clear = ap is_clearing agreed.met.one_is_up;
    unspent = spent_by one.port ∙ below (number_of one.port) last_number low;
    labels = offered;
    grants = stay one.port.grants (each_found grant_label one.port.grants agreed.one_end.grants_apart) agreed.back.grants;
    apart = agreed.one_end.grants_apart;
  }
    where
      below : (n last : ℕ) → n ≤ last → nat_lt last n ≡ false
      below n last low = grind (arith, nat_tests)

pub agreed_ends_are_settled : AgreedEndsAreSettled
agreed_ends_are_settled one other agreed low = is_settled one other agreed low
