-- what each step makes of the label that it is about

use Rattle.std.proofs.Common.{◌≡◌, ℕ, ◌≤◌, ◌<◌, ◌+◌, Bool, false, true, true≢false, List, [], ◌∷◌, ◌++◌, Option, None, Some, refl, sym, ◌∙◌, ap, subst, arith, ◌⊎◌, inl, inr}
use Rattle.std.specs.Prelude.{min}
use Rattle.live_model.specs.world_model.Words.{FlowId, Peer, Timers, Setup, LabelState, Wiring, Offered, Recalled, Wired, Grant, GrantState, Idle, ByController, ByInput, Leaving, is_leaving}
use Rattle.live_model.specs.world_model.ifmp_wire.declared.message.Message.{Message}
use Rattle.live_model.specs.world_model.port_model.Counts.{greatest_count}
use Rattle.law_port_facts.specs.ordered_lists.Ordered.{Every}
use Rattle.law_port_facts.proofs.ordered_lists.Every.{every_map}
use Rattle.law_port_facts.proofs.Keyed.{every_more}
use Rattle.law_live_links.specs.Law.{IsOf, IsToldAnew}
use Rattle.law_live_bindings.proofs.Leading.{told_last}
use Rattle.law_live_touch.specs.Touch.{LeadFrom, IsReclaim, IsAnswer, Comes, SaysNothing, Redirects, Reclaims, AnswersNothing, Answers, NamesAtMost, AnswersFirst, Between, IsGone, IsGranted, IsOffered, OwesAnswer, IsEnding, IsLate, IsAnswered, IsReturning, IsInState}
use Rattle.law_live_touch.proofs.Lists.{comes_last, none_comes, once_last, names_more, first_all, nothing, no_answer, none_redirects, reclaims_more, lead_most, lead_within, one_grant}

pub apart_from : (state : GrantState) → is_leaving state ≡ false → OwesAnswer state → ⊥
apart_from Idle stays owes = owes
apart_from ByController stays owes = owes
apart_from (ByInput input) stays owes = owes
apart_from (Leaving input owed) stays owes = true≢false stays

through : (k m n : ℕ) → k ≤ m → m ≤ n → k ≤ n
through k m n low high = omega (arith, low, high)

-- *Between* them, of one label
module _ (timers : Timers) (label : ℕ) (there back : List Message) (expected known : ℕ) where
  abbrev there_with : Option Grant → List Message → List Message → (expected known : ℕ) → Between
  there_with granted going coming number told = record { granted = granted; there = going; back = coming; expected = number; known = told }

  abbrev now : Option Grant → Between
  now granted = there_with granted there back expected known

  -- *Its branch is made*: it is offered
  pub is_offered : (flow : FlowId) (ticks : ℕ) (message : Message) → ticks < timers.refresh → IsOf label message → Redirects label flow message → (granted : Option Grant) → IsGone label (now granted)
      → IsOffered timers label flow ticks (there_with granted (there ++ message ∷ []) back expected known)
  is_offered flow ticks message young of_it redirects granted gone = record {
    young = young;
    told = every_more (Redirects label flow) there message
        (every_map (SaysNothing label) (Redirects label flow) there (λ m none. (nothing label m none).redirects flow) gone.there_none) redirects;
    back_none = gone.back_none;
    held_or_new = inr (gone.ungranted, told_last label there message of_it);
  }

  -- *It is told anew*, or is a tick older
  pub is_refreshed : (flow : FlowId) (ticks : ℕ) (message : Message) → 1 ≤ timers.refresh → IsOf label message → Redirects label flow message → (granted : Option Grant)
      → IsOffered timers label flow ticks (now granted) → IsOffered timers label flow 0 (there_with granted (there ++ message ∷ []) back expected known)
  is_refreshed flow ticks message some of_it redirects granted o = record {
    young = omega (arith, some);
    told = every_more (Redirects label flow) there message o.told redirects;
    back_none = o.back_none;
    held_or_new = by o.held_or_new;
  }
    where
      by : IsGranted timers label flow ticks (now granted) ⊎ ((granted ≡ None) × IsToldAnew label there)
          → IsGranted timers label flow 0 (there_with granted (there ++ message ∷ []) back expected known) ⊎ ((granted ≡ None) × IsToldAnew label (there ++ message ∷ []))
      by (inl g) = inl (record { grant = g.grant; granted = g.granted; same_flow = g.same_flow; stays = g.stays; lives = inr (told_last label there message of_it) })
      by (inr new) = inr (new.0, told_last label there message of_it)

  pub is_older : (flow : FlowId) (ticks : ℕ) → timers.refresh ≤ greatest_count → min greatest_count (ticks + 1) < timers.refresh → (granted : Option Grant)
      → IsOffered timers label flow ticks (now granted) → IsOffered timers label flow (min greatest_count (ticks + 1)) (now granted)
  is_older flow ticks counted young granted o = record { young = young; told = o.told; back_none = o.back_none; held_or_new = by o.held_or_new }
    where
      by : IsGranted timers label flow ticks (now granted) ⊎ ((granted ≡ None) × IsToldAnew label there)
          → IsGranted timers label flow (min greatest_count (ticks + 1)) (now granted) ⊎ ((granted ≡ None) × IsToldAnew label there)
      by (inl g) = inl (record { grant = g.grant; granted = g.granted; same_flow = g.same_flow; stays = g.stays; lives = lives g.lives })
        where
          longer : (life left most old refresh : ℕ) → life ≤ left + old → old < refresh → refresh ≤ most → life ≤ left + min most (old + 1)
          longer life left most old refresh enough few much = omega (arith, enough, few, much)

          lives : (timers.lifetime ≤ g.grant.lifetime + ticks) ⊎ IsToldAnew label there → (timers.lifetime ≤ g.grant.lifetime + min greatest_count (ticks + 1)) ⊎ IsToldAnew label there
          lives (inl long) = inl (longer timers.lifetime g.grant.lifetime greatest_count ticks timers.refresh long o.young counted)
          lives (inr told) = inr told
      by (inr new) = inr new

  -- *It is recalled*
  pub is_recalled : (flow : FlowId) (ticks number : ℕ) (message : Message) → IsReclaim label number message → Reclaims label flow number message → (IsToldAnew label there → ⊥) → (granted : Option Grant)
      → IsOffered timers label flow ticks (now granted) → IsReturning label flow number false (there_with granted (there ++ message ∷ []) back expected known)
  is_recalled flow ticks number message of_it reclaims untold granted o = record {
    told = every_more (Reclaims label flow number) there message
        (every_map (SaysNothing label) (Reclaims label flow number) there (λ m none. (nothing label m none).reclaims flow number) (none_redirects label flow there o.told untold)) reclaims;
    answers = every_map (AnswersNothing label) (Answers label flow) back (λ m none. (no_answer label m none).answers flow) o.back_none;
    passed = inr (comes_last (IsReclaim label number) there message of_it);
    stands = by o.held_or_new;
  }
    where
      by : IsGranted timers label flow ticks (now granted) ⊎ ((granted ≡ None) × IsToldAnew label there)
          → IsEnding label flow number false (there_with granted (there ++ message ∷ []) back expected known)
          ⊎ (IsLate label number false (there_with granted (there ++ message ∷ []) back expected known) ⊎ IsAnswered label number false (there_with granted (there ++ message ∷ []) back expected known))
      by (inl g) = inl (record {
        grant = g.grant;
        granted = g.granted;
        same_flow = g.same_flow;
        unacknowledged = refl;
        back_none = o.back_none;
        ends = inr (g.stays, comes_last (IsReclaim label number) there message of_it);
      })
      by (inr new) = absurd (untold new.1)

  -- *The taker's grant* of it is another, that isn't leaving either
  pub is_regranted : (flow : FlowId) (ticks : ℕ) (state : LabelState) (grant : Grant) (later : GrantState) → is_leaving grant.state ≡ false → is_leaving later ≡ false
      → IsInState timers label flow ticks (now (Some grant)) state → IsInState timers label flow ticks (now (Some (record grant { state = later }))) state
  is_regranted flow ticks Wiring grant later stays still s = absurd (cc s.1.ungranted)
  is_regranted flow ticks Wired grant later stays still s = absurd (cc s.ungranted)
  is_regranted flow ticks Offered grant later stays still o = record { young = o.young; told = o.told; back_none = o.back_none; held_or_new = by o.held_or_new }
    where
      by : IsGranted timers label flow ticks (now (Some grant)) ⊎ ((Some grant ≡ None) × IsToldAnew label there)
          → IsGranted timers label flow ticks (now (Some (record grant { state = later }))) ⊎ ((Some (record grant { state = later }) ≡ None) × IsToldAnew label there)
      by (inl g) = (let same : grant ≡ g.grant = one_grant grant g.grant g.granted in inl (record {
        grant = record grant { state = later };
        granted = refl;
        same_flow = ap (λ (x : Grant). x.flow) same ∙ g.same_flow;
        stays = still;
        lives = subst (λ (x : Grant). (timers.lifetime ≤ x.lifetime + ticks) ⊎ IsToldAnew label there) (sym same) g.lives;
      }))
      by (inr new) = absurd (cc new.0)
  is_regranted flow ticks (Recalled last acknowledged) grant later stays still r = record { told = r.told; answers = r.answers; passed = r.passed; stands = by r.stands }
    where
      by : IsEnding label flow last acknowledged (now (Some grant)) ⊎ (IsLate label last acknowledged (now (Some grant)) ⊎ IsAnswered label last acknowledged (now (Some grant)))
          → IsEnding label flow last acknowledged (now (Some (record grant { state = later }))) ⊎ (IsLate label last acknowledged (now (Some (record grant { state = later })))
          ⊎ IsAnswered label last acknowledged (now (Some (record grant { state = later }))))
      by (inl e) = (let same : grant ≡ e.grant = one_grant grant e.grant e.granted in inl (record {
        grant = record grant { state = later };
        granted = refl;
        same_flow = ap (λ (x : Grant). x.flow) same ∙ e.same_flow;
        unacknowledged = e.unacknowledged;
        back_none = e.back_none;
        ends = inr (still, waits (subst (λ (x : Grant). OwesAnswer x.state ⊎ ((is_leaving x.state ≡ false) × Comes (IsReclaim label last) there)) (sym same) e.ends));
      }))
        where
          waits : OwesAnswer grant.state ⊎ ((is_leaving grant.state ≡ false) × Comes (IsReclaim label last) there) → Comes (IsReclaim label last) there
          waits (inl owes) = absurd (apart_from grant.state stays owes)
          waits (inr comes) = comes.1
      by (inr (inl l)) = absurd (cc l.ungranted)
      by (inr (inr a)) = absurd (cc a.ungranted)

  -- *Its numbers*, by what is on its way
  module _ (from to : Peer) (setup : Setup) (next : ℕ) (leads : LeadFrom from to setup expected next there) (named : Every (NamesAtMost expected) back) (low : known ≤ expected) where
    all_first : (last : ℕ) → expected ≤ last → AnswersFirst label last back
    all_first last high = first_all label last back (every_map (NamesAtMost expected) (NamesAtMost last) back (names_more expected last high) named)

    -- *It is told again*
    pub is_told_again : (flow : FlowId) (last : ℕ) (message : Message) → IsReclaim label next message → Reclaims label flow next message → (granted : Option Grant)
        → IsReturning label flow last false (now granted) → IsReturning label flow next false (there_with granted (there ++ message ∷ []) back expected known)
    is_told_again flow last message of_it reclaims granted r = record {
      told = every_more (Reclaims label flow next) there message (every_map (Reclaims label flow last) (Reclaims label flow next) there (reclaims_more label flow last next (before r.passed)) r.told) reclaims;
      answers = r.answers;
      passed = inr comes;
      stands = by r.stands;
    }
      where
        comes : Comes (IsReclaim label next) (there ++ message ∷ [])
        comes = comes_last (IsReclaim label next) there message of_it

        high : expected ≤ next
        high = lead_most from to setup expected next there leads

        before : (last < expected) ⊎ Comes (IsReclaim label last) there → last ≤ next
        before (inl passed) = below last expected next passed high
          where
            below : (k m n : ℕ) → k < m → m ≤ n → k ≤ n
            below k m n less most = omega (arith, less, most)
        before (inr reclaimed) = below last next (lead_within from to setup label last expected next there leads reclaimed).1
          where
            below : (k n : ℕ) → k < n → k ≤ n
            below k n less = omega (arith, less)

        then_answered : granted ≡ None → IsAnswered label next false (there_with granted (there ++ message ∷ []) back expected known)
        then_answered none = record { ungranted = none; unpassed = through known expected next low high; first = all_first next high; comes = inr (inr comes) }

        by : IsEnding label flow last false (now granted) ⊎ (IsLate label last false (now granted) ⊎ IsAnswered label last false (now granted))
            → IsEnding label flow next false (there_with granted (there ++ message ∷ []) back expected known)
            ⊎ (IsLate label next false (there_with granted (there ++ message ∷ []) back expected known) ⊎ IsAnswered label next false (there_with granted (there ++ message ∷ []) back expected known))
        by (inl e) = inl (record { grant = e.grant; granted = e.granted; same_flow = e.same_flow; unacknowledged = refl; back_none = e.back_none; ends = ends e.ends })
          where
            ends : OwesAnswer e.grant.state ⊎ ((is_leaving e.grant.state ≡ false) × Comes (IsReclaim label last) there)
                → OwesAnswer e.grant.state ⊎ ((is_leaving e.grant.state ≡ false) × Comes (IsReclaim label next) (there ++ message ∷ []))
            ends (inl owes) = inl owes
            ends (inr waits) = inr (waits.0, comes)
        by (inr (inl l)) = inr (inr (then_answered l.ungranted))
        by (inr (inr a)) = inr (inr (then_answered a.ungranted))

    -- *It is given back*, as its acknowledgement is owed
    module _ (flow : FlowId) (last : ℕ) (acknowledged : Bool) (answer : Message) (of_it : IsAnswer label answer) (answers : Answers label flow answer) where
      abbrev ended : Between
      ended = there_with None there (back ++ answer ∷ []) expected known

      answered_now : expected ≤ last → NamesAtMost last answer → IsAnswered label last acknowledged ended
      answered_now high silent = record {
        ungranted = refl;
        unpassed = through known expected last low high;
        first = first_all label last (back ++ answer ∷ [])
            (every_more (NamesAtMost last) back answer (every_map (NamesAtMost expected) (NamesAtMost last) back (names_more expected last high) named) silent);
        comes = inr (inl (comes_last (IsAnswer label) back answer of_it));
      }

      pub is_given_back : (grant : Grant) → is_leaving grant.state ≡ true → NamesAtMost last answer → IsReturning label flow last acknowledged (now (Some grant)) → IsReturning label flow last acknowledged ended
      is_given_back grant leaves silent r = record {
        told = r.told;
        answers = every_more (Answers label flow) back answer r.answers answers;
        passed = r.passed;
        stands = by r.stands;
      }
        where
          by : IsEnding label flow last acknowledged (now (Some grant)) ⊎ (IsLate label last acknowledged (now (Some grant)) ⊎ IsAnswered label last acknowledged (now (Some grant)))
              → IsEnding label flow last acknowledged ended ⊎ (IsLate label last acknowledged ended ⊎ IsAnswered label last acknowledged ended)
          by (inl e) = inr (by_number r.passed)
            where
              by_number : (last < expected) ⊎ Comes (IsReclaim label last) there → IsLate label last acknowledged ended ⊎ IsAnswered label last acknowledged ended
              by_number (inl passed) = inl (record {
                ungranted = refl;
                unacknowledged = e.unacknowledged;
                passed = passed;
                once = once_last (IsAnswer label) back answer (none_comes (IsAnswer label) (AnswersNothing label) back (λ m none. (no_answer label m none).answer) e.back_none) of_it;
              })
              by_number (inr reclaimed) = inr (answered_now (lead_within from to setup label last expected next there leads reclaimed).0 silent)
          by (inr (inl l)) = absurd (cc l.ungranted)
          by (inr (inr a)) = absurd (cc a.ungranted)
