-- two ends that are alike to the other end of their link agree with it alike

use Rattle.std.proofs.Common.{◌≡◌, ℕ, ◌≤◌, ◌<◌, ◌+◌, true, List, [], ◌∷◌, Option, None, Some, refl, sym, ◌∙◌, ap, subst, ◌⊎◌, inl, inr, map}
use Rattle.std.specs.Prelude.{is_some}
use Rattle.std.specs.Option.{option_map}
use Rattle.live_model.specs.world_model.Words.{Peer, Side, Timers, label_channel_of, at, Redirect, Setup, Label, label_number, labels_of, Grant, grant_label}
use Rattle.live_model.specs.world_model.ifmp_wire.declared.message.Message.{Message}
use Rattle.live_model.specs.world_model.port_model.Port.{Port}
use Rattle.law_port_facts.specs.ordered_lists.Ordered.{Every, InOrder}
use Rattle.law_port_facts.proofs.ordered_lists.Every.{every_map, every_mapped, every_unmapped}
use Rattle.law_port_facts.proofs.ordered_lists.InOrder.{order_mapped, order_unmapped}
use Rattle.law_port_facts.proofs.Keyed.{at_map}
use Rattle.law_live_links.specs.Law.{EndOfLink, number_of, expected_of, IsRefresh, LeadOn, IsToldAnew, IsHeld, AreAgreed}
use Rattle.law_live_unseen.specs.Law.{SeenLabel, seen_label, SeenGrant, seen_grant, AreAlike, LikePortsAgree}

-- *What holds of all that is seen* holds of both
pub like_every : {A S : Type 0} (seen : A → S) (P : S → Type 0) (xs ys : List A) → map seen ys ≡ map seen xs → Every (λ x. P (seen x)) xs → Every (λ y. P (seen y)) ys
like_every seen P xs ys same h = every_unmapped seen P ys (subst (Every P) (sym same) (every_mapped seen P xs h))

pub like_order : {A S : Type 0} (seen : A → S) (R : S → S → Type 0) (xs ys : List A) → map seen ys ≡ map seen xs → InOrder (λ a b. R (seen a) (seen b)) xs → InOrder (λ a b. R (seen a) (seen b)) ys
like_order seen R xs ys same h = order_unmapped seen R ys (subst (InOrder R) (sym same) (order_mapped seen R xs h))

-- *What is found* by a key is found alike
pub record FoundAlike {A S : Type 0} (seen : A → S) (key : A → ℕ) (n : ℕ) (ys : List A) (x : A) : Type 0 where
  pub found : A
  pub there : at key n ys ≡ Some found
  pub same : seen found ≡ seen x

pub like_found : {A S : Type 0} (seen : A → S) (key : A → ℕ) (seen_key : S → ℕ) → ((x : A) → seen_key (seen x) ≡ key x) → (n : ℕ) (xs ys : List A) (x : A)
    → map seen ys ≡ map seen xs → at key n xs ≡ Some x → FoundAlike seen key n ys x
like_found {A} {S} seen key seen_key keys n xs ys x same there = by (at key n ys) refl
  where
    mapped : option_map seen (at key n ys) ≡ Some (seen x)
    mapped = sym (at_map key seen_key seen keys n ys) ∙ (ap (at seen_key n) same ∙ (at_map key seen_key seen keys n xs ∙ ap (option_map seen) there))

    one : (s t : S) → Some s ≡ Some t → s ≡ t
    one s t e = cc

    by : (o : Option A) → at key n ys ≡ o → FoundAlike seen key n ys x
    by None is = absurd (cc (sym mapped ∙ ap (option_map seen) is))
    by (Some y) is = record { found = y; there = is; same = one (seen y) (seen x) (sym (ap (option_map seen) is) ∙ mapped) }

pub like_some : {A S : Type 0} (seen : A → S) (key : A → ℕ) (seen_key : S → ℕ) → ((x : A) → seen_key (seen x) ≡ key x) → (n : ℕ) (xs ys : List A)
    → map seen ys ≡ map seen xs → is_some (at key n ys) ≡ is_some (at key n xs)
like_some {A} {S} seen key seen_key keys n xs ys same =
    sym (some_map (at key n ys)) ∙ (ap (λ (o : Option S). is_some o) (sym (at_map key seen_key seen keys n ys) ∙ (ap (at seen_key n) same ∙ at_map key seen_key seen keys n xs)) ∙ some_map (at key n xs))
  where
    some_map : (o : Option A) → is_some (option_map seen o) ≡ is_some o
    some_map None = refl
    some_map (Some x) = refl

abbrev pub label_key : SeenLabel → ℕ
label_key s = s.number

abbrev pub grant_key : SeenGrant → ℕ
grant_key s = s.label

-- *With other labels*, that are seen alike
module _ (labels after : List Label) (same : map seen_label after ≡ map seen_label labels) where
  found_alike : (label : Label) (n : ℕ) → at label_number n labels ≡ Some label → FoundAlike seen_label label_number n after label
  found_alike label n there = like_found seen_label label_number label_key (λ x. refl) n labels after label same there

  pub lead_alike : (from to : Peer) (timers : Timers) (number next : ℕ) (said : List Message) → LeadOn from to timers labels number next said → LeadOn from to timers after number next said
  lead_alike from to timers number next [] leads = leads
  lead_alike from to timers number next (message ∷ said) (inl greets) = inl (greets.0, lead_alike from to timers number next said greets.1)
  lead_alike from to timers number next (message ∷ said) (inr tells) = inr (refresh, lead_alike from to timers (number + 1) next said tells.1)
    where
      old : IsRefresh from to timers labels number message
      old = tells.0

      now : FoundAlike seen_label label_number old.label.number after old.label
      now = found_alike old.label old.label.number old.held

      same_number : now.found.number ≡ old.label.number
      same_number = ap (λ (s : SeenLabel). s.number) now.same

      refresh : IsRefresh from to timers after number message
      refresh = record {
        label = now.found;
        held = ap (λ k. at label_number k after) same_number ∙ now.there;
        number_left = old.number_left;
        is = old.is ∙ (ap (λ n. Redirect from.instance to.instance number timers.lifetime (label_channel_of n) old.label.flow) (sym same_number)
            ∙ ap (λ f. Redirect from.instance to.instance number timers.lifetime (label_channel_of now.found.number) f) (sym (ap (λ (s : SeenLabel). s.flow) now.same)));
      }

  held_alike : (timers : Timers) (taker : Setup) (grants : List Grant) (said : List Message) → Every (IsHeld timers taker grants said) labels → Every (IsHeld timers taker grants said) after
  held_alike timers taker grants said held =
      every_map (λ (label : Label). Held (seen_label label)) (IsHeld timers taker grants said) after back
      (like_every seen_label Held labels after same (every_map (IsHeld timers taker grants said) (λ (label : Label). Held (seen_label label)) labels there held))
    where
      -- a label with this that is seen of it
      as_label : SeenLabel → Label
      as_label s = record { number = s.number; state = s.state; flow = s.flow; idle = 0; ticks = s.ticks; join = None }

      Held : SeenLabel → Type 0
      Held s = IsHeld timers taker grants said (as_label s)

      there : (label : Label) → IsHeld timers taker grants said label → Held (seen_label label)
      there label h = record { offered = h.offered; told = h.told; in_range = h.in_range; grant = h.grant; granted = h.granted; same_flow = h.same_flow; stays = h.stays; lives = h.lives }

      back : (label : Label) → Held (seen_label label) → IsHeld timers taker grants said label
      back label h = record { offered = h.offered; told = h.told; in_range = h.in_range; grant = h.grant; granted = h.granted; same_flow = h.same_flow; stays = h.stays; lives = h.lives }

  pub given_alike : (grants : List Grant) → Every (λ (grant : Grant). is_some (at label_number grant.label labels) ≡ true) grants → Every (λ (grant : Grant). is_some (at label_number grant.label after) ≡ true) grants
  given_alike grants given = every_map (λ (grant : Grant). is_some (at label_number grant.label labels) ≡ true) (λ (grant : Grant). is_some (at label_number grant.label after) ≡ true) grants
      (λ grant h. like_some seen_label label_number label_key (λ x. refl) grant.label labels after same ∙ h) given

-- *With other grants*
module _ (grants after : List Grant) (same : map seen_grant after ≡ map seen_grant grants) where
  pub granted_alike : (timers : Timers) (taker : Setup) (said : List Message) (label : Label) → IsHeld timers taker grants said label → IsHeld timers taker after said label
  granted_alike timers taker said label h = record {
    offered = h.offered;
    told = h.told;
    in_range = h.in_range;
    grant = now.found;
    granted = now.there;
    same_flow = ap (λ (s : SeenGrant). s.flow) now.same ∙ h.same_flow;
    stays = ap (λ (s : SeenGrant). s.leaving) now.same ∙ h.stays;
    lives = subst (λ n. (timers.lifetime ≤ n + label.ticks) ⊎ IsToldAnew label.number said) (sym (ap (λ (s : SeenGrant). s.lifetime) now.same)) h.lives;
  }
    where
      now : FoundAlike seen_grant grant_label label.number after h.grant
      now = like_found seen_grant grant_label grant_key (λ x. refl) label.number grants after h.grant same h.granted

module _ (one other : EndOfLink) (port : Port) (agreed : AreAgreed one other) (alike : AreAlike one.port port) where
  -- the port with the same adjacency
  abbrev then : EndOfLink
  then = record one { port = record port { adjacency = one.port.adjacency } }

  abbrev labels_now : List Label
  labels_now = labels_of one.port

  then_agreed : AreAgreed then other
  then_agreed = record {
    met = agreed.met;
    one_end = record {
      of_link = agreed.one_end.of_link;
      in_session = alike.in_session ∙ agreed.one_end.in_session;
      labels_apart = like_order seen_label (λ (a b : SeenLabel). a.number < b.number) labels_now (labels_of port) alike.labels agreed.one_end.labels_apart;
      grants_apart = like_order seen_grant (λ (a b : SeenGrant). a.label ≡ b.label → ⊥) one.port.grants port.grants alike.grants agreed.one_end.grants_apart;
      refreshes = agreed.one_end.refreshes;
      in_time = agreed.one_end.in_time;
      counted = agreed.one_end.counted;
    };
    other_end = agreed.other_end;
    there = record {
      numbers = subst (λ n. LeadOn one.port.adjacency.own other.port.adjacency.own one.setup.timers (labels_of port) (expected_of other.port) n one.said) (sym alike.number)
          (lead_alike labels_now (labels_of port) alike.labels one.port.adjacency.own other.port.adjacency.own one.setup.timers (expected_of other.port) (number_of one.port) one.said agreed.there.numbers);
      labels = held_alike labels_now (labels_of port) alike.labels one.setup.timers other.setup other.port.grants one.said agreed.there.labels;
      grants = given_alike labels_now (labels_of port) alike.labels other.port.grants agreed.there.grants;
      heard = agreed.there.heard;
    };
    back = record {
      numbers = subst (λ n. LeadOn other.port.adjacency.own one.port.adjacency.own other.setup.timers (labels_of other.port) n (number_of other.port) other.said) (sym alike.expected) agreed.back.numbers;
      labels = every_map (IsHeld other.setup.timers one.setup one.port.grants other.said) (IsHeld other.setup.timers one.setup port.grants other.said) (labels_of other.port)
          (granted_alike one.port.grants port.grants alike.grants other.setup.timers one.setup other.said) agreed.back.labels;
      grants = like_every seen_grant (λ (s : SeenGrant). is_some (at label_number s.label (labels_of other.port)) ≡ true) one.port.grants port.grants alike.grants agreed.back.grants;
      heard = agreed.back.heard;
    };
  }

  pub port_agrees : AreAgreed (record one { port = port }) other
  port_agrees = subst (λ (side : Side Peer). AreAgreed (record one { port = record port { adjacency = side } }) other) (sym alike.adjacency) then_agreed

pub like_ports_agree : LikePortsAgree
like_ports_agree one other port agreed alike = port_agrees one other port agreed alike
