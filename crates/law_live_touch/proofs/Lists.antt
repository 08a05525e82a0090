-- what is on its way, as one message more is said, or the first is heard

use Rattle.std.proofs.Common.{◌≡◌, ℕ, ◌≤◌, ◌<◌, ◌+◌, List, [], ◌∷◌, ◌++◌, Some, sym, ap, subst, arith, inl, inr}
use Rattle.live_model.specs.world_model.Words.{FlowId, Grant, Peer, Redirect, Reclaim, ReclaimAck, LabelRange, Error, Setup, last_number}
use Rattle.live_model.specs.world_model.ifmp_wire.declared.message.Message.{Message}
use Rattle.live_model.specs.world_model.ifmp_wire.declared.message.Message.TheVariants.{Adjacency}
use Rattle.law_port_facts.specs.ordered_lists.Ordered.{Every}
use Rattle.law_live_links.specs.Law.{IsGreeting, IsOf, IsToldAnew}
use Rattle.law_live_touch.specs.Touch.{IsNumbered, a_redirect, a_reclaim, an_answer, a_range, LeadFrom, IsReclaim, IsAnswer, Comes, ComesOnce, SaysNothing, Redirects, Reclaims, AnswersNothing, Answers, NamesAtMost, AnswersFirst}

pub one_grant : (x y : Grant) → Some x ≡ Some y → x ≡ y
one_grant x y e = cc

-- *One that comes*
module _ (IsSo : Message → Type 0) where
  pub comes_more : (said more : List Message) → Comes IsSo said → Comes IsSo (said ++ more)
  comes_more [] more comes = absurd comes
  comes_more (message ∷ said) more (inl is) = inl is
  comes_more (message ∷ said) more (inr comes) = inr (comes_more said more comes)

  pub comes_last : (said : List Message) (last : Message) → IsSo last → Comes IsSo (said ++ last ∷ [])
  comes_last [] last is = inl is
  comes_last (message ∷ said) last is = inr (comes_last said last is)

  pub comes_before : (said : List Message) (last : Message) → (IsSo last → ⊥) → Comes IsSo (said ++ last ∷ []) → Comes IsSo said
  comes_before [] last other (inl is) = other is
  comes_before [] last other (inr comes) = comes
  comes_before (message ∷ said) last other (inl is) = inl is
  comes_before (message ∷ said) last other (inr comes) = inr (comes_before said last other comes)

  pub none_comes : (P : Message → Type 0) (said : List Message) → ((message : Message) → P message → IsSo message → ⊥) → Every P said → Comes IsSo said → ⊥
  none_comes P [] apart h comes = comes
  none_comes P (message ∷ said) apart h (inl is) = apart message h.0 is
  none_comes P (message ∷ said) apart h (inr comes) = none_comes P said apart h.1 comes

  pub once_more : (said : List Message) (last : Message) → (IsSo last → ⊥) → ComesOnce IsSo said → ComesOnce IsSo (said ++ last ∷ [])
  once_more [] last other once = absurd once
  once_more (message ∷ said) last other (inl first) = inl (first.0, λ comes. first.1 (comes_before said last other comes))
  once_more (message ∷ said) last other (inr later) = inr (later.0, once_more said last other later.1)

  pub once_last : (said : List Message) (last : Message) → (Comes IsSo said → ⊥) → IsSo last → ComesOnce IsSo (said ++ last ∷ [])
  once_last [] last none is = inl (is, λ comes. comes)
  once_last (message ∷ said) last none is = inr (λ first. none (inl first), once_last said last (λ comes. none (inr comes)) is)

  pub once_comes : (said : List Message) → ComesOnce IsSo said → Comes IsSo said
  once_comes [] once = absurd once
  once_comes (message ∷ said) (inl first) = inl first.0
  once_comes (message ∷ said) (inr later) = inr (once_comes said later.1)

-- *A number that is named*
pub names_more : (m n : ℕ) → m ≤ n → (message : Message) → NamesAtMost m message → NamesAtMost n message
names_more m n most (Adjacency hello) names = whole hello.next names
  where
    whole : (k : ℕ) → k ≤ m → k ≤ n
    whole k below = omega (arith, most, below)
names_more m n most (Redirect sender peer own lifetime channel flow) names = tt
names_more m n most (Reclaim sender peer own channel flow) names = tt
names_more m n most (ReclaimAck sender peer own channel flow) names = tt
names_more m n most (LabelRange sender peer own least greatest) names = tt
names_more m n most (Error sender peer own code channel) names = tt

module _ (label last : ℕ) where
  pub first_more : (said : List Message) (message : Message) → (IsAnswer label message → ⊥) → AnswersFirst label last said → AnswersFirst label last (said ++ message ∷ [])
  first_more [] message other first = (λ comes. absurd comes, tt)
  first_more (one ∷ said) message other first = (λ comes. first.0 (comes_before (IsAnswer label) said message other comes), first_more said message other first.1)

  pub first_all : (said : List Message) → Every (NamesAtMost last) said → AnswersFirst label last said
  first_all [] h = tt
  first_all (one ∷ said) h = (λ comes. h.0, first_all said h.1)

  pub first_none : (said : List Message) → (Comes (IsAnswer label) said → ⊥) → AnswersFirst label last said
  first_none [] none = tt
  first_none (one ∷ said) none = (λ comes. absurd (none (inr comes)), first_none said (λ comes. none (inr comes)))

-- *What says nothing of a label*
pub record Nothing (label : ℕ) (message : Message) : Type 0 where
  pub redirect : IsOf label message → ⊥
  pub reclaim : (last : ℕ) → IsReclaim label last message → ⊥
  pub redirects : (flow : FlowId) → Redirects label flow message
  pub reclaims : (flow : FlowId) (last : ℕ) → Reclaims label flow last message

pub nothing : (label : ℕ) (message : Message) → SaysNothing label message → Nothing label message
nothing label (Adjacency hello) none = record { redirect = λ is. is; reclaim = λ last is. is; redirects = λ flow. tt; reclaims = λ flow last. tt }
nothing label (Redirect sender peer own lifetime channel flow) none = record {
  redirect = none;
  reclaim = λ last is. is;
  redirects = λ its of_it. absurd (none of_it);
  reclaims = λ its last. none;
}
nothing label (Reclaim sender peer own channel flow) none = record {
  redirect = λ is. is;
  reclaim = λ last is. none is.0;
  redirects = λ its. none;
  reclaims = λ its last of_it. absurd (none of_it);
}
nothing label (ReclaimAck sender peer own channel flow) none = record { redirect = λ is. is; reclaim = λ last is. is; redirects = λ its. tt; reclaims = λ its last. tt }
nothing label (LabelRange sender peer own least greatest) none = record { redirect = λ is. is; reclaim = λ last is. is; redirects = λ its. tt; reclaims = λ its last. tt }
nothing label (Error sender peer own code channel) none = record { redirect = λ is. is; reclaim = λ last is. is; redirects = λ its. tt; reclaims = λ its last. tt }

pub record NoAnswer (label : ℕ) (message : Message) : Type 0 where
  pub answer : IsAnswer label message → ⊥
  pub answers : (flow : FlowId) → Answers label flow message

pub no_answer : (label : ℕ) (message : Message) → AnswersNothing label message → NoAnswer label message
no_answer label (Adjacency hello) none = record { answer = λ is. is; answers = λ its. tt }
no_answer label (Redirect sender peer own lifetime channel flow) none = record { answer = λ is. is; answers = λ its. tt }
no_answer label (Reclaim sender peer own channel flow) none = record { answer = λ is. is; answers = λ its. tt }
no_answer label (ReclaimAck sender peer own channel flow) none = record { answer = none; answers = λ its of_it. absurd (none of_it) }
no_answer label (LabelRange sender peer own least greatest) none = record { answer = λ is. is; answers = λ its. tt }
no_answer label (Error sender peer own code channel) none = record { answer = λ is. is; answers = λ its. tt }

pub none_answers : (label : ℕ) (said : List Message) → (Comes (IsAnswer label) said → ⊥) → Every (AnswersNothing label) said
none_answers label [] none = tt
none_answers label (message ∷ said) none = (this message (λ is. none (inl is)), none_answers label said (λ comes. none (inr comes)))
  where
    this : (message : Message) → (IsAnswer label message → ⊥) → AnswersNothing label message
    this (Adjacency hello) not = tt
    this (Redirect sender peer own lifetime channel flow) not = tt
    this (Reclaim sender peer own channel flow) not = tt
    this (ReclaimAck sender peer own channel flow) not = not
    this (LabelRange sender peer own least greatest) not = tt
    this (Error sender peer own code channel) not = tt

pub none_redirects : (label : ℕ) (flow : FlowId) (said : List Message) → Every (Redirects label flow) said → (IsToldAnew label said → ⊥) → Every (SaysNothing label) said
none_redirects label its [] h none = tt
none_redirects label its (message ∷ said) h none = (this message h.0 (λ is. none (inl is)), none_redirects label its said h.1 (λ told. none (inr told)))
  where
    this : (message : Message) → Redirects label its message → (IsOf label message → ⊥) → SaysNothing label message
    this (Adjacency hello) is not = tt
    this (Redirect sender peer own lifetime channel flow) is not = not
    this (Reclaim sender peer own channel flow) is not = is
    this (ReclaimAck sender peer own channel flow) is not = tt
    this (LabelRange sender peer own least greatest) is not = tt
    this (Error sender peer own code channel) is not = tt

-- *RECLAIMs* go up to a greater number as well
pub reclaims_more : (label : ℕ) (flow : FlowId) (last next : ℕ) → last ≤ next → (message : Message) → Reclaims label flow last message → Reclaims label flow next message
reclaims_more label its last next most (Adjacency hello) is = tt
reclaims_more label its last next most (Redirect sender peer own lifetime channel flow) is = is
reclaims_more label its last next most (Reclaim sender peer own channel flow) is = λ of_it. ((is of_it).0, further own (is of_it).1)
  where
    further : (k : ℕ) → k ≤ last → k ≤ next
    further k below = omega (arith, most, below)
reclaims_more label its last next most (ReclaimAck sender peer own channel flow) is = tt
reclaims_more label its last next most (LabelRange sender peer own least greatest) is = tt
reclaims_more label its last next most (Error sender peer own code channel) is = tt

-- *The numbers* of what is on its way
reclaim_number : (from to : Peer) (setup : Setup) (number : ℕ) (message : Message) (label last : ℕ) → IsNumbered from to setup number message → IsReclaim label last message → number ≡ last
reclaim_number from to setup number message label last (a_redirect l flow known) is = absurd is
reclaim_number from to setup number message label last (a_reclaim l flow known) is = is.1
reclaim_number from to setup number message label last (an_answer l flow known) is = absurd is
reclaim_number from to setup number message label last a_range is = absurd is

greeting_reclaims : (from to : Peer) (message : Message) (label last : ℕ) → IsGreeting from to message → IsReclaim label last message → ⊥
greeting_reclaims from to message label last greeting is = subst (IsReclaim label last) greeting.is is

passed_nothing : (from to : Peer) (setup : Setup) (number : ℕ) (message : Message) (label : ℕ) (flow : FlowId) (last : ℕ) → last < number
    → IsNumbered from to setup number message → Reclaims label flow last message → SaysNothing label message
passed_nothing from to setup number message label its last passed (a_redirect l flow known) is = is
passed_nothing from to setup number message label its last passed (a_reclaim l flow known) is = λ of_it. not_both number (is of_it).1 passed
  where
    not_both : (k : ℕ) → k ≤ last → last < k → ⊥
    not_both k most above = omega (arith, most, above)
passed_nothing from to setup number message label its last passed (an_answer l flow known) is = tt
passed_nothing from to setup number message label its last passed a_range is = tt

module _ (from to : Peer) (setup : Setup) where
  pub lead_greeting : (number next : ℕ) (said : List Message) (message : Message) → LeadFrom from to setup number next said → IsGreeting from to message
      → LeadFrom from to setup number next (said ++ message ∷ [])
  lead_greeting number next [] message leads greeting = inl (greeting, leads)
  lead_greeting number next (first ∷ said) message (inl greets) greeting = inl (greets.0, lead_greeting number next said message greets.1 greeting)
  lead_greeting number next (first ∷ said) message (inr tells) greeting = inr (tells.0, (tells.1.0, lead_greeting (number + 1) next said message tells.1.1 greeting))

  pub lead_numbered : (number next : ℕ) (said : List Message) (message : Message) → LeadFrom from to setup number next said → IsNumbered from to setup next message → next < last_number
      → LeadFrom from to setup number (next + 1) (said ++ message ∷ [])
  lead_numbered number next [] message leads is left = inr (
    subst (λ n. IsNumbered from to setup n message) (sym leads) is,
    (subst (λ n. n < last_number) (sym leads) left, ap (λ n. n + 1) leads),
  )
  lead_numbered number next (first ∷ said) message (inl greets) is left = inl (greets.0, lead_numbered number next said message greets.1 is left)
  lead_numbered number next (first ∷ said) message (inr tells) is left = inr (tells.0, (tells.1.0, lead_numbered (number + 1) next said message tells.1.1 is left))

  pub lead_most : (number next : ℕ) (said : List Message) → LeadFrom from to setup number next said → number ≤ next
  lead_most number next [] leads = same number next leads
    where
      same : (m n : ℕ) → m ≡ n → m ≤ n
      same m n e = omega (arith, e)
  lead_most number next (first ∷ said) (inl greets) = lead_most number next said greets.1
  lead_most number next (first ∷ said) (inr tells) = before number next (lead_most (number + 1) next said tells.1.1)
    where
      before : (m n : ℕ) → m + 1 ≤ n → m ≤ n
      before m n e = omega (arith, e)

  -- a RECLAIM on its way has one of them
  pub lead_within : (label last number next : ℕ) (said : List Message) → LeadFrom from to setup number next said → Comes (IsReclaim label last) said → (number ≤ last) × (last < next)
  lead_within label last number next [] leads comes = absurd comes
  lead_within label last number next (first ∷ said) (inl greets) (inl is) = absurd (greeting_reclaims from to first label last greets.0 is)
  lead_within label last number next (first ∷ said) (inl greets) (inr comes) = lead_within label last number next said greets.1 comes
  lead_within label last number next (first ∷ said) (inr tells) (inl is) =
      this number last next (reclaim_number from to setup number first label last tells.0 is) (lead_most (number + 1) next said tells.1.1)
    where
      this : (m k n : ℕ) → m ≡ k → m + 1 ≤ n → (m ≤ k) × (k < n)
      this m k n e most = (omega (arith, e), omega (arith, e, most))
  lead_within label last number next (first ∷ said) (inr tells) (inr comes) = wider number last next (lead_within label last (number + 1) next said tells.1.1 comes)
    where
      wider : (m k n : ℕ) → (m + 1 ≤ k) × (k < n) → (m ≤ k) × (k < n)
      wider m k n h = (omega (arith, h.0), h.1)

  -- once all are passed, none is left
  pub lead_passed : (label : ℕ) (flow : FlowId) (last number next : ℕ) (said : List Message) → last < number → LeadFrom from to setup number next said
      → Every (Reclaims label flow last) said → Every (SaysNothing label) said
  lead_passed label flow last number next [] passed leads h = tt
  lead_passed label flow last number next (first ∷ said) passed (inl greets) h = (of_greeting greets.0, lead_passed label flow last number next said passed greets.1 h.1)
    where
      of_greeting : IsGreeting from to first → SaysNothing label first
      of_greeting greeting = subst (SaysNothing label) (sym greeting.is) tt
  lead_passed label flow last number next (first ∷ said) passed (inr tells) h =
      (passed_nothing from to setup number first label flow last passed tells.0 h.0, lead_passed label flow last (number + 1) next said (after last number passed) tells.1.1 h.1)
    where
      after : (k m : ℕ) → k < m → k < m + 1
      after k m e = omega (arith, e)
