-- a label stands as before where what is heard or said isn't of it

use Rattle.std.proofs.Common.{◌≡◌, ℕ, ◌≤◌, ◌<◌, ◌+◌, Bool, List, [], ◌∷◌, ◌++◌, Option, None, Some, false, true, arith, ◌⊎◌, inl, inr}
use Rattle.live_model.specs.world_model.Words.{FlowId, Timers, Label, LabelState, Wiring, Offered, Recalled, Wired, Grant, is_leaving}
use Rattle.live_model.specs.world_model.ifmp_wire.declared.message.Message.{Message}
use Rattle.law_port_facts.specs.ordered_lists.Ordered.{Every}
use Rattle.law_port_facts.proofs.Keyed.{every_more}
use Rattle.law_live_links.specs.Law.{IsToldAnew}
use Rattle.law_live_bindings.proofs.Leading.{told_more}
use Rattle.law_live_touch.specs.Touch.{IsReclaim, IsAnswer, Comes, ComesOnce, SaysNothing, Redirects, Reclaims, AnswersNothing, Answers, AnswersFirst, Between, IsGone, IsGranted, IsOffered, OwesAnswer, IsEnding, IsLate, IsAnswered, IsReturning, IsInState, Stands}
use Rattle.law_live_touch.proofs.Lists.{comes_more, once_more, first_more, nothing, no_answer}

-- *There*, and back, it goes on so
pub record GoesThere (label : ℕ) (before after : List Message) : Type 0 where
  pub none : Every (SaysNothing label) before → Every (SaysNothing label) after
  pub redirects : (flow : FlowId) → Every (Redirects label flow) before → Every (Redirects label flow) after
  pub reclaims : (flow : FlowId) (last : ℕ) → Every (Reclaims label flow last) before → Every (Reclaims label flow last) after
  pub told : IsToldAnew label before → IsToldAnew label after
  pub reclaimed : (last : ℕ) → Comes (IsReclaim label last) before → Comes (IsReclaim label last) after

pub record GoesBack (label : ℕ) (before after : List Message) : Type 0 where
  pub none : Every (AnswersNothing label) before → Every (AnswersNothing label) after
  pub answers : (flow : FlowId) → Every (Answers label flow) before → Every (Answers label flow) after
  pub once : ComesOnce (IsAnswer label) before → ComesOnce (IsAnswer label) after
  pub first : (last : ℕ) → AnswersFirst label last before → AnswersFirst label last after
  pub answered : Comes (IsAnswer label) before → Comes (IsAnswer label) after

module _ (label : ℕ) (said : List Message) where
  pub there_same : GoesThere label said said
  there_same = record { none = λ h. h; redirects = λ flow h. h; reclaims = λ flow last h. h; told = λ h. h; reclaimed = λ last h. h }

  pub back_same : GoesBack label said said
  back_same = record { none = λ h. h; answers = λ flow h. h; once = λ h. h; first = λ last h. h; answered = λ h. h }

  module _ (message : Message) where
    -- what isn't of it is said
    pub there_said : SaysNothing label message → GoesThere label said (said ++ message ∷ [])
    there_said silent = record {
      none = λ h. every_more (SaysNothing label) said message h silent;
      redirects = λ flow h. every_more (Redirects label flow) said message h ((nothing label message silent).redirects flow);
      reclaims = λ flow last h. every_more (Reclaims label flow last) said message h ((nothing label message silent).reclaims flow last);
      told = told_more label said (message ∷ []);
      reclaimed = λ last h. comes_more (IsReclaim label last) said (message ∷ []) h;
    }

    pub back_said : AnswersNothing label message → GoesBack label said (said ++ message ∷ [])
    back_said silent = record {
      none = λ h. every_more (AnswersNothing label) said message h silent;
      answers = λ flow h. every_more (Answers label flow) said message h ((no_answer label message silent).answers flow);
      once = once_more (IsAnswer label) said message (no_answer label message silent).answer;
      first = λ last h. first_more label last said message (no_answer label message silent).answer h;
      answered = comes_more (IsAnswer label) said (message ∷ []);
    }

    -- and is heard
    pub there_heard : SaysNothing label message → GoesThere label (message ∷ said) said
    there_heard silent = record { none = λ h. h.1; redirects = λ flow h. h.1; reclaims = λ flow last h. h.1; told = told; reclaimed = reclaimed }
      where
        told : IsToldAnew label (message ∷ said) → IsToldAnew label said
        told (inl is) = absurd ((nothing label message silent).redirect is)
        told (inr later) = later

        reclaimed : (last : ℕ) → Comes (IsReclaim label last) (message ∷ said) → Comes (IsReclaim label last) said
        reclaimed last (inl is) = absurd ((nothing label message silent).reclaim last is)
        reclaimed last (inr later) = later

    pub back_heard : AnswersNothing label message → GoesBack label (message ∷ said) said
    back_heard silent = record { none = λ h. h.1; answers = λ flow h. h.1; once = once; first = λ last h. h.1; answered = answered }
      where
        once : ComesOnce (IsAnswer label) (message ∷ said) → ComesOnce (IsAnswer label) said
        once (inl is) = absurd ((no_answer label message silent).answer is.0)
        once (inr later) = later.1

        answered : Comes (IsAnswer label) (message ∷ said) → Comes (IsAnswer label) said
        answered (inl is) = absurd ((no_answer label message silent).answer is)
        answered (inr later) = later

-- *A label stands on*
module _ (timers : Timers) (label : ℕ) (granted : Option Grant) (known : ℕ) (there there_then back back_then : List Message) (expected expected_then : ℕ)
    (goes : GoesThere label there there_then) (comes : GoesBack label back back_then) (most : expected ≤ expected_then) where
  abbrev before : Between
  before = record { granted = granted; there = there; back = back; expected = expected; known = known }

  abbrev after : Between
  after = record { granted = granted; there = there_then; back = back_then; expected = expected_then; known = known }

  gone : IsGone label before → IsGone label after
  gone g = record { ungranted = g.ungranted; there_none = goes.none g.there_none; back_none = comes.none g.back_none }

  offered : (flow : FlowId) (ticks : ℕ) → IsOffered timers label flow ticks before → IsOffered timers label flow ticks after
  offered flow ticks o = record { young = o.young; told = goes.redirects flow o.told; back_none = comes.none o.back_none; held_or_new = by o.held_or_new }
    where
      by : IsGranted timers label flow ticks before ⊎ ((granted ≡ None) × IsToldAnew label there) → IsGranted timers label flow ticks after ⊎ ((granted ≡ None) × IsToldAnew label there_then)
      by (inl g) = inl (record { grant = g.grant; granted = g.granted; same_flow = g.same_flow; stays = g.stays; lives = lives g.lives })
        where
          lives : (timers.lifetime ≤ g.grant.lifetime + ticks) ⊎ IsToldAnew label there → (timers.lifetime ≤ g.grant.lifetime + ticks) ⊎ IsToldAnew label there_then
          lives (inl long) = inl long
          lives (inr told) = inr (goes.told told)
      by (inr new) = inr (new.0, goes.told new.1)

  passes : (last : ℕ) → last < expected → last < expected_then
  passes last passed = omega (arith, passed, most)

  returning : (flow : FlowId) (last : ℕ) (acknowledged : Bool) → IsReturning label flow last acknowledged before → IsReturning label flow last acknowledged after
  returning flow last acknowledged r = record {
    told = goes.reclaims flow last r.told;
    answers = comes.answers flow r.answers;
    passed = by_number r.passed;
    stands = by r.stands;
  }
    where
      by_number : (last < expected) ⊎ Comes (IsReclaim label last) there → (last < expected_then) ⊎ Comes (IsReclaim label last) there_then
      by_number (inl passed) = inl (passes last passed)
      by_number (inr reclaimed) = inr (goes.reclaimed last reclaimed)

      by : IsEnding label flow last acknowledged before ⊎ (IsLate label last acknowledged before ⊎ IsAnswered label last acknowledged before)
          → IsEnding label flow last acknowledged after ⊎ (IsLate label last acknowledged after ⊎ IsAnswered label last acknowledged after)
      by (inl e) = inl (record {
        grant = e.grant;
        granted = e.granted;
        same_flow = e.same_flow;
        unacknowledged = e.unacknowledged;
        back_none = comes.none e.back_none;
        ends = ends e.ends;
      })
        where
          ends : OwesAnswer e.grant.state ⊎ ((is_leaving e.grant.state ≡ false) × Comes (IsReclaim label last) there)
              → OwesAnswer e.grant.state ⊎ ((is_leaving e.grant.state ≡ false) × Comes (IsReclaim label last) there_then)
          ends (inl owes) = inl owes
          ends (inr waits) = inr (waits.0, goes.reclaimed last waits.1)
      by (inr (inl l)) = inr (inl (record { ungranted = l.ungranted; unacknowledged = l.unacknowledged; passed = passes last l.passed; once = comes.once l.once }))
      by (inr (inr a)) = inr (inr (record { ungranted = a.ungranted; unpassed = a.unpassed; first = comes.first last a.first; comes = still a.comes }))
        where
          still : (acknowledged ≡ true) ⊎ (Comes (IsAnswer label) back ⊎ Comes (IsReclaim label last) there)
              → (acknowledged ≡ true) ⊎ (Comes (IsAnswer label) back_then ⊎ Comes (IsReclaim label last) there_then)
          still (inl is) = inl is
          still (inr (inl answered)) = inr (inl (comes.answered answered))
          still (inr (inr reclaimed)) = inr (inr (goes.reclaimed last reclaimed))

  in_state : (flow : FlowId) (ticks : ℕ) (state : LabelState) → IsInState timers label flow ticks before state → IsInState timers label flow ticks after state
  in_state flow ticks Wiring s = (s.0, gone s.1)
  in_state flow ticks Offered s = offered flow ticks s
  in_state flow ticks (Recalled last acknowledged) s = returning flow last acknowledged s
  in_state flow ticks Wired s = gone s

  pub stands_on : (o : Option Label) → Stands timers label before o → Stands timers label after o
  stands_on None s = gone s
  stands_on (Some held) s = in_state held.flow held.ticks held.state s
