-- what the first message on its way makes of the label that it is about, as it is heard

use Rattle.std.proofs.Common.{◌≡◌, ℕ, ◌≤◌, ◌<◌, ◌+◌, Bool, false, true, true≢false, List, [], ◌∷◌, ◌++◌, Option, None, Some, refl, sym, ◌∙◌, ap, arith, ◌⊎◌, inl, inr}
use Rattle.std.specs.Prelude.{max}
use Rattle.live_model.specs.world_model.Words.{End, FlowId, Peer, Timers, Setup, Label, LabelState, Wiring, Offered, Recalled, Wired, Grant, Leaving, is_leaving}
use Rattle.live_model.specs.world_model.ifmp_wire.declared.message.Message.{Message}
use Rattle.law_port_facts.specs.ordered_lists.Ordered.{Every}
use Rattle.law_port_facts.proofs.ordered_lists.Every.{every_map}
use Rattle.law_port_facts.proofs.Keyed.{every_more}
use Rattle.law_live_links.specs.Law.{IsToldAnew}
use Rattle.law_live_touch.specs.Touch.{LeadFrom, IsReclaim, IsAnswer, Comes, ComesOnce, SaysNothing, Redirects, Reclaims, AnswersNothing, Answers, NamesAtMost, Between, IsGone, IsGranted, IsOffered, IsEnding, IsLate, IsAnswered, IsReturning, IsInState, Stands}
use Rattle.law_live_touch.proofs.Lists.{comes_last, names_more, first_all, first_none, none_answers, lead_within, lead_passed, one_grant}

-- *A label that stands so* is held, in this state
pub record IsHeldSo (label : Label) (state : LabelState) (o : Option Label) : Type 0 where
  pub held : o ≡ Some label
  pub so : label.state ≡ state

module _ (timers : Timers) (label : ℕ) where
  abbrev between_them : Option Grant → (there back : List Message) → (expected known : ℕ) → Between
  between_them granted there back expected known = record { granted = granted; there = there; back = back; expected = expected; known = known }

  -- *A REDIRECT of it comes*: it is offered
  pub record IsTold (flow : FlowId) (b : Between) (o : Option Label) : Type 0 where
    pub held : Label
    pub is : o ≡ Some held
    pub offered : held.state ≡ Offered
    pub same_flow : flow ≡ held.flow
    pub stands : IsOffered timers label held.flow held.ticks b

  module _ (granted : Option Grant) (message : Message) (rest back : List Message) (expected known : ℕ) (flow : FlowId) where
    abbrev first_there : Between
    first_there = between_them granted (message ∷ rest) back expected known

    pub redirected : (SaysNothing label message → ⊥) → ((its : FlowId) → Redirects label its message → flow ≡ its) → ((its : FlowId) (last : ℕ) → Reclaims label its last message → ⊥)
        → (o : Option Label) → Stands timers label first_there o → IsTold flow first_there o
    redirected says its_flow reclaims None s = absurd (says s.there_none.0)
    redirected says its_flow reclaims (Some held) s = by held.state refl s
      where
        by : (state : LabelState) → held.state ≡ state → IsInState timers label held.flow held.ticks first_there state → IsTold flow first_there (Some held)
        by Wiring is s = absurd (says s.1.there_none.0)
        by Wired is s = absurd (says s.there_none.0)
        by Offered is s = record { held = held; is = refl; offered = is; same_flow = its_flow held.flow s.told.0; stands = s }
        by (Recalled last acknowledged) is s = absurd (reclaims held.flow last s.told.0)

    -- the taker has a grant of it then, with its whole lifetime
    pub is_granted : (ticks expected_then : ℕ) (grant : Grant) → grant.flow ≡ flow → is_leaving grant.state ≡ false → timers.lifetime ≤ grant.lifetime + ticks
        → IsOffered timers label flow ticks first_there → IsOffered timers label flow ticks (between_them (Some grant) rest back expected_then known)
    is_granted ticks expected_then grant same_flow stays lives o = record {
      young = o.young;
      told = o.told.1;
      back_none = o.back_none;
      held_or_new = inl (record { grant = grant; granted = refl; same_flow = same_flow; stays = stays; lives = inl lives });
    }

    -- *A RECLAIM of it comes*, under the number expected: it is returning
    pub record IsReclaimed (b : Between) (o : Option Label) : Type 0 where
      pub held : Label
      pub last : ℕ
      pub acknowledged : Bool
      pub is : o ≡ Some held
      pub recalled : held.state ≡ Recalled last acknowledged
      pub same_flow : flow ≡ held.flow
      pub below : expected ≤ last
      pub stands : IsReturning label held.flow last acknowledged b

    pub reclaimed : (SaysNothing label message → ⊥) → ((its : FlowId) → Redirects label its message → ⊥) → ((its : FlowId) (last : ℕ) → Reclaims label its last message → (flow ≡ its) × (expected ≤ last))
        → (o : Option Label) → Stands timers label first_there o → IsReclaimed first_there o
    reclaimed says redirects reclaims None s = absurd (says s.there_none.0)
    reclaimed says redirects reclaims (Some held) s = by held.state refl s
      where
        by : (state : LabelState) → held.state ≡ state → IsInState timers label held.flow held.ticks first_there state → IsReclaimed first_there (Some held)
        by Wiring is s = absurd (says s.1.there_none.0)
        by Wired is s = absurd (says s.there_none.0)
        by Offered is s = absurd (redirects held.flow s.told.0)
        by (Recalled last acknowledged) is s = (let of_it = reclaims held.flow last s.told.0 in record {
          held = held;
          last = last;
          acknowledged = acknowledged;
          is = refl;
          recalled = is;
          same_flow = of_it.0;
          below = of_it.1;
          stands = s;
        })

    module _ (last : ℕ) (acknowledged : Bool) (of_number : IsReclaim label last message → expected ≡ last) (r : IsReturning label flow last acknowledged first_there) where
      its_number : (last < expected + 1) ⊎ Comes (IsReclaim label last) rest
      its_number = by r.passed
        where
          next : expected ≡ last → last < expected + 1
          next same = omega (arith, same)

          by : (last < expected) ⊎ Comes (IsReclaim label last) (message ∷ rest) → (last < expected + 1) ⊎ Comes (IsReclaim label last) rest
          by (inl passed) = inl (omega (arith, passed))
          by (inr (inl is)) = inl (next (of_number is))
          by (inr (inr later)) = inr later

      -- no grant is left, and it is answered
      pub is_answered : (answer : Message) → IsAnswer label answer → Answers label flow answer → NamesAtMost last answer → expected ≤ last → known ≤ expected → Every (NamesAtMost expected) back
          → IsReturning label flow last acknowledged (between_them None rest (back ++ answer ∷ []) (expected + 1) known)
      is_answered answer of_it answers silent high low named = record {
        told = r.told.1;
        answers = every_more (Answers label flow) back answer r.answers answers;
        passed = its_number;
        stands = inr (inr (record {
          ungranted = refl;
          unpassed = omega (arith, high, low);
          first = first_all label last (back ++ answer ∷ [])
              (every_more (NamesAtMost last) back answer (every_map (NamesAtMost expected) (NamesAtMost last) back (names_more expected last high) named) silent);
          comes = inr (inl (comes_last (IsAnswer label) back answer of_it));
        }));
      }

      -- or its grant is leaving, and owes the answer
      pub is_owed : (grant : Grant) → granted ≡ Some grant → (input : End)
          → IsReturning label flow last acknowledged (between_them (Some (record grant { state = Leaving input true })) rest back (expected + 1) known)
      is_owed grant there input = record { told = r.told.1; answers = r.answers; passed = its_number; stands = by r.stands }
        where
          owing : Between
          owing = between_them (Some (record grant { state = Leaving input true })) rest back (expected + 1) known

          by : IsEnding label flow last acknowledged first_there ⊎ (IsLate label last acknowledged first_there ⊎ IsAnswered label last acknowledged first_there)
              → IsEnding label flow last acknowledged owing ⊎ (IsLate label last acknowledged owing ⊎ IsAnswered label last acknowledged owing)
          by (inl e) = inl (record {
            grant = record grant { state = Leaving input true };
            granted = refl;
            same_flow = ap (λ (x : Grant). x.flow) (one_grant grant e.grant (sym there ∙ e.granted)) ∙ e.same_flow;
            unacknowledged = e.unacknowledged;
            back_none = e.back_none;
            ends = inl refl;
          })
          by (inr (inl l)) = absurd (cc (sym there ∙ l.ungranted))
          by (inr (inr a)) = absurd (cc (sym there ∙ a.ungranted))

  module _ (granted : Option Grant) (there : List Message) (message : Message) (rest : List Message) (expected known : ℕ)
      (from to : Peer) (setup : Setup) (next : ℕ) (leads : LeadFrom from to setup expected next there) (low : known ≤ expected) where
    abbrev first_back : Between
    first_back = between_them granted there (message ∷ rest) expected known

    nothing_left : (flow : FlowId) (last : ℕ) → last < expected → Every (Reclaims label flow last) there → Every (SaysNothing label) there
    nothing_left flow last passed told = lead_passed from to setup label flow last expected next there passed leads told

    -- *A RECLAIM ACK of it comes*: it is returning
    pub record IsGivenBack (flow : FlowId) (o : Option Label) : Type 0 where
      pub held : Label
      pub last : ℕ
      pub acknowledged : Bool
      pub is : o ≡ Some held
      pub recalled : held.state ≡ Recalled last acknowledged
      pub same_flow : flow ≡ held.flow
      pub stands : IsReturning label held.flow last acknowledged first_back

    pub answered : (flow : FlowId) → (AnswersNothing label message → ⊥) → ((its : FlowId) → Answers label its message → flow ≡ its) → (o : Option Label) → Stands timers label first_back o → IsGivenBack flow o
    answered flow says its_flow None s = absurd (says s.back_none.0)
    answered flow says its_flow (Some held) s = by held.state refl s
      where
        by : (state : LabelState) → held.state ≡ state → IsInState timers label held.flow held.ticks first_back state → IsGivenBack flow (Some held)
        by Wiring is s = absurd (says s.1.back_none.0)
        by Wired is s = absurd (says s.back_none.0)
        by Offered is s = absurd (says s.back_none.0)
        by (Recalled last acknowledged) is s = record {
          held = held;
          last = last;
          acknowledged = acknowledged;
          is = refl;
          recalled = is;
          same_flow = its_flow held.flow s.answers.0;
          stands = s;
        }

    module _ (flow : FlowId) (last : ℕ) (acknowledged : Bool) (says : AnswersNothing label message → ⊥) (of_it : IsAnswer label message) (r : IsReturning label flow last acknowledged first_back) where
      none_behind : ComesOnce (IsAnswer label) (message ∷ rest) → Comes (IsAnswer label) rest → ⊥
      none_behind (inl first) comes = first.1 comes
      none_behind (inr later) comes = later.0 of_it

      -- it is acknowledged where the RECLAIM isn't known to be passed, or else nothing is left of it
      pub is_acknowledged : known ≤ last → IsReturning label flow last true (between_them granted there rest expected known)
      is_acknowledged unpassed = record { told = r.told; answers = r.answers.1; passed = r.passed; stands = inr (inr (by r.stands)) }
        where
          by : IsEnding label flow last acknowledged first_back ⊎ (IsLate label last acknowledged first_back ⊎ IsAnswered label last acknowledged first_back)
              → IsAnswered label last true (between_them granted there rest expected known)
          by (inl e) = absurd (says e.back_none.0)
          by (inr (inl l)) = record { ungranted = l.ungranted; unpassed = unpassed; first = first_none label last rest (none_behind l.once); comes = inl refl }
          by (inr (inr a)) = record { ungranted = a.ungranted; unpassed = unpassed; first = a.first.1; comes = inl refl }

      pub is_quit : last < known → IsGone label (between_them granted there rest expected known)
      is_quit passed = by r.stands
        where
          by : IsEnding label flow last acknowledged first_back ⊎ (IsLate label last acknowledged first_back ⊎ IsAnswered label last acknowledged first_back)
              → IsGone label (between_them granted there rest expected known)
          by (inl e) = absurd (says e.back_none.0)
          by (inr (inl l)) = record {
            ungranted = l.ungranted;
            there_none = nothing_left flow last l.passed r.told;
            back_none = none_answers label rest (none_behind l.once);
          }
          by (inr (inr a)) = absurd (not_both a.unpassed)
            where
              not_both : known ≤ last → ⊥
              not_both most = omega (arith, most, passed)

    -- *An ACK comes*, which names this number: the label is quit that is acknowledged, if its RECLAIM is passed
    module _ (named : ℕ) (names : (most : ℕ) → NamesAtMost most message → named ≤ most) (other : IsAnswer label message → ⊥) (high : named ≤ expected) where
      abbrev behind_it : Between
      behind_it = between_them granted there rest expected (max known named)

      pub is_passed : (flow : FlowId) (last : ℕ) → last < max known named → IsReturning label flow last true first_back → IsGone label behind_it
      is_passed flow last passed r = by r.stands
        where
          true_false : true ≡ false → ⊥
          true_false e = true≢false e

          by : IsEnding label flow last true first_back ⊎ (IsLate label last true first_back ⊎ IsAnswered label last true first_back) → IsGone label behind_it
          by (inl e) = absurd (true_false e.unacknowledged)
          by (inr (inl l)) = absurd (true_false l.unacknowledged)
          by (inr (inr a)) = record {
            ungranted = a.ungranted;
            there_none = nothing_left flow last (reached last known named expected passed low high) r.told;
            back_none = none_answers label rest (λ comes. too_great (names last (a.first.0 comes)));
          }
            where
              reached : (l k n e : ℕ) → l < max k n → k ≤ e → n ≤ e → l < e
              reached l k n e above below most = omega (arith, above, below, most)

              too_great : named ≤ last → ⊥
              too_great most = none last known named passed a.unpassed most
                where
                  none : (l k n : ℕ) → l < max k n → k ≤ l → n ≤ l → ⊥
                  none l k n above below most = omega (arith, above, below, most)

      still_gone : IsGone label first_back → IsGone label behind_it
      still_gone g = record { ungranted = g.ungranted; there_none = g.there_none; back_none = g.back_none.1 }

      stays : (flow : FlowId) (last : ℕ) (acknowledged : Bool) → (acknowledged ≡ true → max known named ≤ last) → IsReturning label flow last acknowledged first_back
          → IsReturning label flow last acknowledged behind_it
      stays flow last acknowledged unpassed r = record { told = r.told; answers = r.answers.1; passed = r.passed; stands = by r.stands }
        where
          by : IsEnding label flow last acknowledged first_back ⊎ (IsLate label last acknowledged first_back ⊎ IsAnswered label last acknowledged first_back)
              → IsEnding label flow last acknowledged behind_it ⊎ (IsLate label last acknowledged behind_it ⊎ IsAnswered label last acknowledged behind_it)
          by (inl e) = inl (record {
            grant = e.grant;
            granted = e.granted;
            same_flow = e.same_flow;
            unacknowledged = e.unacknowledged;
            back_none = e.back_none.1;
            ends = e.ends;
          })
          by (inr (inl l)) = inr (inl (record { ungranted = l.ungranted; unacknowledged = l.unacknowledged; passed = l.passed; once = once l.once }))
            where
              once : ComesOnce (IsAnswer label) (message ∷ rest) → ComesOnce (IsAnswer label) rest
              once (inl is) = absurd (other is.0)
              once (inr later) = later.1
          by (inr (inr a)) = inr (inr (record { ungranted = a.ungranted; unpassed = (which a.comes).0; first = a.first.1; comes = (which a.comes).1 }))
            where
              Waits : Type 0
              Waits = (acknowledged ≡ true) ⊎ (Comes (IsAnswer label) rest ⊎ Comes (IsReclaim label last) there)

              both_most : (l k n : ℕ) → k ≤ l → n ≤ l → max k n ≤ l
              both_most l k n below most = omega (arith, below, most)

              which : (acknowledged ≡ true) ⊎ (Comes (IsAnswer label) (message ∷ rest) ⊎ Comes (IsReclaim label last) there) → (max known named ≤ last) × Waits
              which (inl is) = (unpassed is, inl is)
              which (inr (inl (inl is))) = absurd (other is)
              which (inr (inl (inr comes))) = (both_most last known named a.unpassed (names last (a.first.0 comes)), inr (inl comes))
              which (inr (inr comes)) = (both_most last known named a.unpassed (up named expected last high (lead_within from to setup label last expected next there leads comes).0), inr (inr comes))
                where
                  up : (k m n : ℕ) → k ≤ m → m ≤ n → k ≤ n
                  up k m n low high = omega (arith, low, high)

      -- it stands as before but for that
      pub is_settled : (o : Option Label) → ((held : Label) (last : ℕ) → o ≡ Some held → held.state ≡ Recalled last true → max known named ≤ last) → Stands timers label first_back o → Stands timers label behind_it o
      is_settled None unpassed s = still_gone s
      is_settled (Some held) unpassed s = by held.state refl s
        where
          by : (state : LabelState) → held.state ≡ state → IsInState timers label held.flow held.ticks first_back state → IsInState timers label held.flow held.ticks behind_it state
          by Wiring is s = (s.0, still_gone s.1)
          by Wired is s = still_gone s
          by Offered is o = record { young = o.young; told = o.told; back_none = o.back_none.1; held_or_new = by_grant o.held_or_new }
            where
              by_grant : IsGranted timers label held.flow held.ticks first_back ⊎ ((granted ≡ None) × IsToldAnew label there) → IsGranted timers label held.flow held.ticks behind_it ⊎ ((granted ≡ None) × IsToldAnew label there)
              by_grant (inl g) = inl (record { grant = g.grant; granted = g.granted; same_flow = g.same_flow; stays = g.stays; lives = g.lives })
              by_grant (inr new) = inr new
          by (Recalled last acknowledged) is r = stays held.flow last acknowledged (λ e. unpassed held last refl (is ∙ ap (Recalled last) e)) r
