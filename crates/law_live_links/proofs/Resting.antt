-- an end of a link taken to its parts, and what is so of two that are at rest

use Rattle.std.proofs.Common.{◌≡◌, ℕ, ◌≤◌, ◌<◌, ◌+◌, true, false, true≢false, List, [], Option, None, Some, refl, sym, ◌∙◌, ap, subst, arith, ◌⊎◌, inl, inr}
use Rattle.std.specs.Prelude.{is_some}
use Rattle.live_model.specs.world_model.Words.{Peer, Side, at, Setup, Label, label_number, labels_of, Grant, grant_label, is_leaving, Session}
use Rattle.live_model.specs.world_model.adjacency_table.Table.{silence_limit}
use Rattle.live_model.specs.world_model.ifmp_wire.declared.message.Message.{Message}
use Rattle.law_port_facts.proofs.ordered_lists.Every.{every_map, every_map2}
use Rattle.law_port_facts.proofs.Keyed.{at_key, at_every, each_found}
use Rattle.law_live_ticks.specs.Law.{IsKept, is_kept, Lasts, IsAtPeace}
use Rattle.law_live_links.specs.Law.{EndOfLink, number_of, expected_of, LeadOn, IsToldAnew, IsHeld, AreAgreed, AreAtRest, IsAgreedOn, EndsAgreeAtRest, working, MayTick, IsPeaceful, EndsAreAtPeace}

-- *An end in session*, by its parts
abbrev pub end_in : Setup → Side Peer → (redirects : ℕ) → Session → List Grant → List Message → EndOfLink
end_in setup side redirects s grants said = record {
  setup = setup;
  port = record { adjacency = side; session = Some s; grants = grants; redirects = redirects };
  said = said;
}

-- what holds of all such holds of an end in session, and of one that has said nothing
pub by_session : (P : EndOfLink → Type 0) → ((setup : Setup) (side : Side Peer) (redirects : ℕ) (s : Session) (grants : List Grant) (said : List Message) → P (end_in setup side redirects s grants said))
    → (e : EndOfLink) → is_some e.port.session ≡ true → P e
by_session P each e open_now = by e.port.session refl
  where
    by : (o : Option Session) → e.port.session ≡ o → P e
    by None is = absurd (true≢false (sym open_now ∙ ap (λ (o : Option Session). is_some o) is))
    by (Some s) is = subst P (sym parts) (each e.setup e.port.adjacency e.port.redirects s e.port.grants e.said)
      where
        parts : e ≡ end_in e.setup e.port.adjacency e.port.redirects s e.port.grants e.said
        parts = λ i. record {
          setup = e.setup;
          port = record { adjacency = e.port.adjacency; session = is i; grants = e.port.grants; redirects = e.port.redirects };
          said = e.said;
        }

pub by_rest : (P : EndOfLink → Type 0) → ((setup : Setup) (side : Side Peer) (redirects : ℕ) (s : Session) (grants : List Grant) → P (end_in setup side redirects s grants []))
    → (e : EndOfLink) → is_some e.port.session ≡ true → e.said ≡ [] → P e
by_rest P each e open_now quiet = by_session (λ (x : EndOfLink). x.said ≡ [] → P x) quieted e open_now quiet
  where
    quieted : (setup : Setup) (side : Side Peer) (redirects : ℕ) (s : Session) (grants : List Grant) (said : List Message) → said ≡ [] → P (end_in setup side redirects s grants said)
    quieted setup side redirects s grants said none = subst (λ (messages : List Message). P (end_in setup side redirects s grants messages)) (sym none) (each setup side redirects s grants)

-- *Nothing is on its way*
pub nothing_told : (P : Type 0) (number : ℕ) (said : List Message) → said ≡ [] → P ⊎ IsToldAnew number said → P
nothing_told P number said none (inl p) = p
nothing_told P number said none (inr told) = absurd (subst (IsToldAnew number) none told)

pub ends_agree_at_rest : EndsAgreeAtRest
ends_agree_at_rest one other rest = (
  every_map (IsHeld one.setup.timers other.setup other.port.grants one.said) (IsAgreedOn one other) (labels_of one.port) agreed rest.agreed.there.labels,
  subst (LeadOn one.port.adjacency.own other.port.adjacency.own one.setup.timers (labels_of one.port) (expected_of other.port) (number_of one.port)) rest.one_is_heard rest.agreed.there.numbers,
)
  where
    agreed : (label : Label) → IsHeld one.setup.timers other.setup other.port.grants one.said label → IsAgreedOn one other label
    agreed label held = record {
      offered = held.offered;
      grant = held.grant;
      granted = held.granted;
      same_flow = held.same_flow;
      stays = held.stays;
      lives = nothing_told (one.setup.timers.lifetime ≤ held.grant.lifetime + label.ticks) label.number one.said rest.one_is_heard held.lives;
    }

-- *Either way*
pub swapped : {one other : EndOfLink} → AreAgreed one other → AreAgreed other one
swapped a = record {
  met = record { one_is_up = a.met.other_is_up; other_is_up = a.met.one_is_up; one_knows = a.met.other_knows; other_knows = a.met.one_knows };
  one_end = a.other_end;
  other_end = a.one_end;
  there = a.back;
  back = a.there;
}

pub rest_swapped : {one other : EndOfLink} → AreAtRest one other → AreAtRest other one
rest_swapped rest = record { agreed = swapped rest.agreed; one_is_heard = rest.other_is_heard; other_is_heard = rest.one_is_heard }

-- *An end at peace*
module _ (instances : ℕ) (setup : Setup) (side : Side Peer) (redirects : ℕ) (s : Session) (grants : List Grant) (other : EndOfLink) where
  abbrev now : EndOfLink
  now = end_in setup side redirects s grants []

  module _ (rest : AreAtRest now other) (may : MayTick now) where
    silent : (side.silence ≡ 0) ⊎ (other.said ≡ [] → ⊥) → side.silence ≡ 0
    silent (inl none) = none
    silent (inr some) = absurd (some rest.other_is_heard)

    lasts : (grant : Grant) → is_some (at label_number grant.label (labels_of other.port)) ≡ true → at grant_label (grant_label grant) grants ≡ Some grant → Lasts grant
    lasts grant given found = by (at label_number grant.label (labels_of other.port)) refl
      where
        by : (o : Option Label) → at label_number grant.label (labels_of other.port) ≡ o → Lasts grant
        by None is = absurd (true≢false (sym given ∙ ap (λ (o : Option Label). is_some o) is))
        by (Some label) is = record {
          stays = subst (λ (g : Grant). is_leaving g.state ≡ false) (sym same) held.stays;
          left = subst (λ (g : Grant). 2 ≤ g.lifetime) (sym same)
              (two_left other.setup.timers.lifetime other.setup.timers.refresh label.ticks held.grant.lifetime
              (nothing_told (other.setup.timers.lifetime ≤ held.grant.lifetime + label.ticks) label.number other.said rest.other_is_heard held.lives) held.told rest.agreed.other_end.in_time);
        }
          where
            held : IsHeld other.setup.timers setup grants other.said label
            held = at_every label_number (IsHeld other.setup.timers setup grants other.said) grant.label (labels_of other.port) label rest.agreed.back.labels is

            same : grant ≡ held.grant
            same = one_grant grant held.grant (sym found ∙ (ap (λ k. at grant_label k grants) (sym (at_key label_number grant.label (labels_of other.port) label is)) ∙ held.granted))
              where
                one_grant : (x y : Grant) → Some x ≡ Some y → x ≡ y
                one_grant x y e = cc

            two_left : (lifetime refresh ticks left : ℕ) → lifetime ≤ left + ticks → ticks < refresh → refresh < lifetime → 2 ≤ left
            two_left lifetime refresh ticks left lives told sooner = omega (arith, lives, told, sooner)

    pub peace : IsAtPeace setup (working instances now) s
    peace = record {
      going = refl;
      up = rest.agreed.met.one_is_up;
      heard = subst (λ n. n < silence_limit) (sym (silent rest.agreed.back.heard)) (omega arith);
      is_open = refl;
      labels = every_map2 (IsHeld setup.timers other.setup other.port.grants []) (λ (label : Label). is_kept setup label ≡ true) (IsKept setup) s.labels
          (λ label held kept. record { offered = held.offered; kept = kept }) rest.agreed.there.labels may.kept;
      labels_apart = rest.agreed.one_end.labels_apart;
      grants = every_map2 (λ (grant : Grant). is_some (at label_number grant.label (labels_of other.port)) ≡ true) (λ (grant : Grant). at grant_label (grant_label grant) grants ≡ Some grant) Lasts grants
          lasts rest.agreed.back.grants (each_found grant_label grants rest.agreed.one_end.grants_apart);
      grants_apart = rest.agreed.one_end.grants_apart;
      numbers = may.numbers;
    }

pub ends_are_at_peace : EndsAreAtPeace
ends_are_at_peace instances one other rest may =
    by_rest (λ (e : EndOfLink). AreAtRest e other → MayTick e → IsPeaceful instances e)
    (λ setup side redirects s grants r m. record { session = s; peace = peace instances setup side redirects s grants other r m })
    one rest.agreed.one_end.in_session rest.one_is_heard rest may
