-- two ends that agree at rest are in touch, and two in touch agree at rest

use Rattle.std.proofs.Common.{◌≡◌, ℕ, ◌≤◌, ◌<◌, ◌+◌, Bool, false, true, true≢false, List, [], Option, None, Some, refl, sym, ◌∙◌, ap, subst, ◌⊎◌, inl, inr}
use Rattle.std.specs.Prelude.{is_some}
use Rattle.live_model.specs.world_model.Words.{Peer, Side, at, Setup, is_in_range, Label, LabelState, Wiring, Offered, Recalled, Wired, label_number, Grant, grant_label, is_leaving, Session}
use Rattle.live_model.specs.world_model.port_model.Reclaiming.{is_outside}
use Rattle.law_port_facts.specs.ordered_lists.Ordered.{Every, InOrder}
use Rattle.law_port_facts.proofs.ordered_lists.Every.{every_map, every_map2}
use Rattle.law_port_facts.proofs.Keyed.{at_key, at_every, each_found}
use Rattle.law_live_links.specs.Law.{EndOfLink, IsHeld, Agree, AreAtRest, IsAgreedOn}
use Rattle.law_live_links.proofs.Resting.{end_in, by_rest}
use Rattle.law_live_bindings.proofs.Resting.{labels_differ}
use Rattle.law_live_touch.specs.Touch.{between, IsGone, IsGranted, OwesAnswer, IsEnding, IsLate, IsAnswered, IsInState, Stands, IsInRanges, TouchOneWay, AreInTouch}
use Rattle.law_live_touch.specs.Law.{IsSettled, AgreedEndsTouch, IsStill, IsAcknowledged, IsOfOffered, AgreeAtRest, AtRestTheyAgree, NoneIsRecalled, TouchingEndsRest}
use Rattle.law_live_touch.proofs.Moves.{apart_from}
use Rattle.law_live_touch.proofs.Lists.{one_grant}

module _ (setup : Setup) (side : Side Peer) (tally : ℕ) (s : Session) (grants : List Grant) (far_setup : Setup) (far_side : Side Peer) (far_tally : ℕ) (t : Session) (far_grants : List Grant) where
  abbrev giver : EndOfLink
  giver = end_in setup side tally s grants []

  abbrev taker : EndOfLink
  taker = end_in far_setup far_side far_tally t far_grants []

  -- *One way*, from rest
  module _ (agree : Agree giver taker) (settled : IsSettled giver) where
    gone : (k : ℕ) → at label_number k s.labels ≡ None → IsGone k (between giver taker k)
    gone k spare = record { ungranted = by (at grant_label k far_grants) refl; there_none = tt; back_none = tt }
      where
        by : (o : Option Grant) → at grant_label k far_grants ≡ o → o ≡ None
        by None is = refl
        by (Some grant) is = absurd (true≢false (sym given ∙ ap (λ (o : Option Label). is_some o) spare))
          where
            given : is_some (at label_number k s.labels) ≡ true
            given = ap (λ n. is_some (at label_number n s.labels)) (sym (at_key grant_label k far_grants grant is))
                ∙ at_every grant_label (λ (g : Grant). is_some (at label_number g.label s.labels) ≡ true) k far_grants grant agree.grants is

    offered : (label : Label) → IsHeld setup.timers far_setup far_grants [] label → Stands setup.timers label.number (between giver taker label.number) (Some label)
    offered label held = subst (IsInState setup.timers label.number label.flow label.ticks (between giver taker label.number)) (sym held.offered) (record {
      young = held.told;
      told = tt;
      back_none = tt;
      held_or_new = inl (record { grant = held.grant; granted = held.granted; same_flow = held.same_flow; stays = held.stays; lives = held.lives });
    })

    pub one_way : TouchOneWay giver taker
    one_way = record {
      numbers = agree.numbers;
      named = tt;
      known = subst (λ n. s.known ≤ n) (sym agree.numbers) settled.known;
      ranges = every_map2 (IsHeld setup.timers far_setup far_grants []) (λ (label : Label). is_outside (Some s) label.number ≡ false) (IsInRanges far_setup (Some s)) s.labels
          (λ label held inside. record { in_range = held.in_range; inside = inside }) agree.labels settled.inside;
      labels = λ k. by k (at label_number k s.labels) refl;
    }
      where
        by : (k : ℕ) (o : Option Label) → at label_number k s.labels ≡ o → Stands setup.timers k (between giver taker k) (at label_number k s.labels)
        by k None is = subst (Stands setup.timers k (between giver taker k)) (sym is) (gone k is)
        by k (Some label) is = subst (Stands setup.timers k (between giver taker k)) (sym is)
            (subst (λ n. Stands setup.timers n (between giver taker n) (Some label)) (at_key label_number k s.labels label is)
            (offered label (at_every label_number (IsHeld setup.timers far_setup far_grants []) k s.labels label agree.labels is)))

  -- *At rest again*
  module _ (way : TouchOneWay giver taker) (still : IsStill giver) (far_still : IsStill taker) (apart : InOrder (λ (a b : Label). label_number a < label_number b) s.labels)
      (grants_apart : InOrder (λ (a b : Grant). grant_label a ≡ grant_label b → ⊥) far_grants) where
    stays : (k : ℕ) (grant : Grant) → at grant_label k far_grants ≡ Some grant → is_leaving grant.state ≡ false
    stays k grant found = at_every grant_label (λ (g : Grant). is_leaving g.state ≡ false) k far_grants grant far_still.grants found

    -- each label is held, or acknowledged
    stands : (label : Label) → at label_number label.number s.labels ≡ Some label → Stands setup.timers label.number (between giver taker label.number) (Some label)
    stands label found = subst (Stands setup.timers label.number (between giver taker label.number)) found (way.labels label.number)

    not_ending : (k : ℕ) (label : Label) (last : ℕ) (acknowledged : Bool) → IsEnding k label.flow last acknowledged (between giver taker k) → ⊥
    not_ending k label last acknowledged e = by e.ends
      where
        by : OwesAnswer e.grant.state ⊎ ((is_leaving e.grant.state ≡ false) × ⊥) → ⊥
        by (inl owes) = apart_from e.grant.state (stays k e.grant e.granted) owes
        by (inr waits) = waits.1

    which : (label : Label) → at label_number label.number s.labels ≡ Some label → (label.state ≡ Wiring → ⊥) × (label.state ≡ Wired → ⊥)
        → IsHeld setup.timers far_setup far_grants [] label ⊎ IsAcknowledged giver taker label
    which label found made = by label.state refl (stands label found)
      where
        in_range : is_in_range far_setup label.number ≡ true
        in_range = (at_every label_number (IsInRanges far_setup (Some s)) label.number s.labels label way.ranges found).in_range

        by : (state : LabelState) → label.state ≡ state → IsInState setup.timers label.number label.flow label.ticks (between giver taker label.number) state
            → IsHeld setup.timers far_setup far_grants [] label ⊎ IsAcknowledged giver taker label
        by Wiring is x = absurd (made.0 is)
        by Wired is x = absurd (made.1 is)
        by Offered is o = by_grant o.held_or_new
          where
            by_grant : IsGranted setup.timers label.number label.flow label.ticks (between giver taker label.number) ⊎ ((at grant_label label.number far_grants ≡ None) × ⊥)
                → IsHeld setup.timers far_setup far_grants [] label ⊎ IsAcknowledged giver taker label
            by_grant (inl g) = inl (record {
              offered = is;
              told = o.young;
              in_range = in_range;
              grant = g.grant;
              granted = g.granted;
              same_flow = g.same_flow;
              stays = g.stays;
              lives = g.lives;
            })
            by_grant (inr new) = absurd new.1
        by (Recalled last acknowledged) is r = inr (by_stage r.stands)
          where
            passed : (last < t.expected) ⊎ ⊥ → last < t.expected
            passed (inl below) = below
            passed (inr none) = absurd none

            acked : (acknowledged ≡ true) ⊎ (⊥ ⊎ ⊥) → acknowledged ≡ true
            acked (inl so) = so
            acked (inr (inl none)) = absurd none
            acked (inr (inr none)) = absurd none

            by_stage : IsEnding label.number label.flow last acknowledged (between giver taker label.number)
                ⊎ (IsLate label.number last acknowledged (between giver taker label.number) ⊎ IsAnswered label.number last acknowledged (between giver taker label.number)) → IsAcknowledged giver taker label
            by_stage (inl e) = absurd (not_ending label.number label last acknowledged e)
            by_stage (inr (inl l)) = absurd l.once
            by_stage (inr (inr a)) = record { last = last; state = is ∙ ap (Recalled last) (acked a.comes); ungranted = a.ungranted; unpassed = a.unpassed; passed = passed r.passed }

    each : Every (λ (label : Label). IsHeld setup.timers far_setup far_grants [] label ⊎ IsAcknowledged giver taker label) s.labels
    each = every_map2 (λ (label : Label). at label_number label.number s.labels ≡ Some label) (λ (label : Label). (label.state ≡ Wiring → ⊥) × (label.state ≡ Wired → ⊥))
        (λ (label : Label). IsHeld setup.timers far_setup far_grants [] label ⊎ IsAcknowledged giver taker label) s.labels which (each_found label_number s.labels (labels_differ s.labels apart)) still.labels

    -- and each grant is of one that is offered
    of_offered : (grant : Grant) → at grant_label grant.label far_grants ≡ Some grant → IsOfOffered giver grant
    of_offered grant found = by (at label_number grant.label s.labels) refl
      where
        k : ℕ
        k = grant.label

        by : (o : Option Label) → at label_number grant.label s.labels ≡ o → IsOfOffered giver grant
        by None spare = absurd (cc (sym found ∙ (subst (Stands setup.timers grant.label (between giver taker grant.label)) spare (way.labels grant.label)).ungranted))
        by (Some label) held = by_state label.state refl (subst (Stands setup.timers grant.label (between giver taker grant.label)) held (way.labels grant.label))
          where
            by_state : (state : LabelState) → label.state ≡ state → IsInState setup.timers grant.label label.flow label.ticks (between giver taker grant.label) state → IsOfOffered giver grant
            by_state Wiring is x = absurd (cc (sym found ∙ x.1.ungranted))
            by_state Wired is x = absurd (cc (sym found ∙ x.ungranted))
            by_state Offered is o = by_grant o.held_or_new
              where
                by_grant : IsGranted setup.timers grant.label label.flow label.ticks (between giver taker grant.label) ⊎ ((at grant_label grant.label far_grants ≡ None) × ⊥) → IsOfOffered giver grant
                by_grant (inl g) = record { label = label; held = held; offered = is; same_flow = ap (λ (x : Grant). x.flow) (one_grant grant g.grant (sym found ∙ g.granted)) ∙ g.same_flow }
                by_grant (inr new) = absurd new.1
            by_state (Recalled last acknowledged) is r = by_stage r.stands
              where
                by_stage : IsEnding grant.label label.flow last acknowledged (between giver taker grant.label)
                    ⊎ (IsLate grant.label last acknowledged (between giver taker grant.label) ⊎ IsAnswered grant.label last acknowledged (between giver taker grant.label)) → IsOfOffered giver grant
                by_stage (inl e) = absurd (not_ending grant.label label last acknowledged e)
                by_stage (inr (inl l)) = absurd l.once
                by_stage (inr (inr a)) = absurd (cc (sym found ∙ a.ungranted))

    agreed_on : (label : Label) → IsHeld setup.timers far_setup far_grants [] label → IsAgreedOn giver taker label
    agreed_on label held = record { offered = held.offered; grant = held.grant; granted = held.granted; same_flow = held.same_flow; stays = held.stays; lives = by held.lives }
      where
        by : (setup.timers.lifetime ≤ held.grant.lifetime + label.ticks) ⊎ ⊥ → setup.timers.lifetime ≤ held.grant.lifetime + label.ticks
        by (inl long) = long
        by (inr none) = absurd none

    pub agree_at_rest : AgreeAtRest giver taker
    agree_at_rest = record {
      labels = every_map (λ (label : Label). IsHeld setup.timers far_setup far_grants [] label ⊎ IsAcknowledged giver taker label) (λ (label : Label). IsAgreedOn giver taker label ⊎ IsAcknowledged giver taker label) s.labels either each;
      grants = every_map (λ (grant : Grant). at grant_label grant.label far_grants ≡ Some grant) (IsOfOffered giver) far_grants of_offered (each_found grant_label far_grants grants_apart);
      numbers = way.numbers;
    }
      where
        either : (label : Label) → IsHeld setup.timers far_setup far_grants [] label ⊎ IsAcknowledged giver taker label → IsAgreedOn giver taker label ⊎ IsAcknowledged giver taker label
        either label (inl held) = inl (agreed_on label held)
        either label (inr acked) = inr acked

    pub agree_again : NoneIsRecalled giver → far_side.silence ≡ 0 → Agree giver taker
    agree_again none heard = record {
      numbers = way.numbers;
      labels = every_map2 (λ (label : Label). IsHeld setup.timers far_setup far_grants [] label ⊎ IsAcknowledged giver taker label) (λ (label : Label). (last : ℕ) → label.state ≡ Recalled last true → ⊥)
          (IsHeld setup.timers far_setup far_grants []) s.labels only_held each none;
      grants = every_map (IsOfOffered giver) (λ (grant : Grant). is_some (at label_number grant.label s.labels) ≡ true) far_grants (λ grant of_it. ap (λ (o : Option Label). is_some o) of_it.held) agree_at_rest.grants;
      heard = inl heard;
    }
      where
        only_held : (label : Label) → IsHeld setup.timers far_setup far_grants [] label ⊎ IsAcknowledged giver taker label → ((last : ℕ) → label.state ≡ Recalled last true → ⊥) → IsHeld setup.timers far_setup far_grants [] label
        only_held label (inl held) none = held
        only_held label (inr acked) none = absurd (none acked.last acked.state)

-- *Both ends* that have said nothing: what holds of all such in their parts holds of them
by_both : (P : EndOfLink → EndOfLink → Type 0)
    → ((setup : Setup) (side : Side Peer) (tally : ℕ) (s : Session) (grants : List Grant) (far_setup : Setup) (far_side : Side Peer) (far_tally : ℕ) (t : Session) (far_grants : List Grant)
    → P (end_in setup side tally s grants []) (end_in far_setup far_side far_tally t far_grants []))
    → (one other : EndOfLink) → is_some one.port.session ≡ true → one.said ≡ [] → is_some other.port.session ≡ true → other.said ≡ [] → P one other
by_both P each one other one_in one_silent other_in other_silent =
    by_rest (λ (x : EndOfLink). P x other)
    (λ setup side tally s grants. by_rest (λ (y : EndOfLink). P (end_in setup side tally s grants []) y)
    (λ far_setup far_side far_tally t far_grants. each setup side tally s grants far_setup far_side far_tally t far_grants) other other_in other_silent)
    one one_in one_silent

pub agreed_ends_touch : AgreedEndsTouch
agreed_ends_touch one other rest settled far_settled =
    by_both (λ (x y : EndOfLink). AreAtRest x y → IsSettled x → IsSettled y → AreInTouch x y)
    (λ setup side tally s grants far_setup far_side far_tally t far_grants r a b. record {
      met = r.agreed.met;
      one_end = r.agreed.one_end;
      other_end = r.agreed.other_end;
      there = one_way setup side tally s grants far_setup far_side far_tally t far_grants r.agreed.there a;
      back = one_way far_setup far_side far_tally t far_grants setup side tally s grants r.agreed.back b;
    })
    one other rest.agreed.one_end.in_session rest.one_is_heard rest.agreed.other_end.in_session rest.other_is_heard rest settled far_settled

pub at_rest_they_agree : AtRestTheyAgree
at_rest_they_agree one other touch still far_still =
    by_both (λ (x y : EndOfLink). AreInTouch x y → IsStill x → IsStill y → AgreeAtRest x y × AgreeAtRest y x)
    (λ setup side tally s grants far_setup far_side far_tally t far_grants m a b. (
      agree_at_rest setup side tally s grants far_setup far_side far_tally t far_grants m.there a b m.one_end.labels_apart m.other_end.grants_apart,
      agree_at_rest far_setup far_side far_tally t far_grants setup side tally s grants m.back b a m.other_end.labels_apart m.one_end.grants_apart,
    ))
    one other touch.one_end.in_session still.silent touch.other_end.in_session far_still.silent touch still far_still

pub touching_ends_rest : TouchingEndsRest
touching_ends_rest one other touch still far_still none far_none heard far_heard =
    by_both (λ (x y : EndOfLink). AreInTouch x y → IsStill x → IsStill y → NoneIsRecalled x → NoneIsRecalled y → x.port.adjacency.silence ≡ 0 → y.port.adjacency.silence ≡ 0 → AreAtRest x y)
    (λ setup side tally s grants far_setup far_side far_tally t far_grants m a b p q h k. record {
      agreed = record {
        met = m.met;
        one_end = m.one_end;
        other_end = m.other_end;
        there = agree_again setup side tally s grants far_setup far_side far_tally t far_grants m.there a b m.one_end.labels_apart m.other_end.grants_apart p k;
        back = agree_again far_setup far_side far_tally t far_grants setup side tally s grants m.back b a m.other_end.labels_apart m.one_end.grants_apart q h;
      };
      one_is_heard = refl;
      other_is_heard = refl;
    })
    one other touch.one_end.in_session still.silent touch.other_end.in_session far_still.silent touch still far_still none far_none heard far_heard
