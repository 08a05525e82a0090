-- the invariant of a line: its trip fits, and the controller's record is in step with its adjacency

use Rattle.std.proofs.Common.{ℕ, ◌+◌, ◌<◌, List, arith}
use Rattle.adjacency_table.specs.declared.State.{State}
use Rattle.adjacency_table.specs.declared.State.TheVariants.{Clearing, SynSent, SynRcvd, Estab}
use Rattle.ordered_lists.specs.Ordered.{Every}
use Rattle.ordered_lists.proofs.Every.{every_map}
use Rattle.law_branch_line.specs.Words.{InputRequest, DeleteAll, Elsewhere, Copy}
use Rattle.law_branch_line.specs.Line.{Asked, Apart, Unasked, Stands, Answered, Other, Meeting, Listing, Emptying, Met, MetAndAsked, Controller, Line}
use Rattle.law_branch_line.proofs.Trip.{Item, Down, Fits, Before, Good, trip}

-- requests are asked in Estab alone
abbrev pub InStep : State → Asked → Type 0
InStep Clearing Apart = Unit {0}
InStep SynSent Apart = Unit {0}
InStep SynRcvd Apart = Unit {0}
InStep Estab Unasked = Unit {0}
InStep Estab (Stands m p) = Unit {0}
InStep Estab (Answered m p) = Unit {0}
InStep state a = ⊥

abbrev pub IsIn : Asked → Type 0
IsIn Apart = ⊥
IsIn Unasked = Unit {0}
IsIn (Stands m p) = Unit {0}
IsIn (Answered m p) = Unit {0}

-- the standing request has a number below the next one
abbrev pub IsNumbered : (k : ℕ) → Asked → Type 0
IsNumbered k Apart = Unit {0}
IsNumbered k Unasked = Unit {0}
IsNumbered k (Stands m p) = m < k
IsNumbered k (Answered m p) = Unit {0}

-- while ports are emptied, and until something else is asked, the input's request is Delete All
abbrev pub IsMeeting : Meeting → Asked → Type 0
IsMeeting Listing a = Unit {0}
IsMeeting Emptying (Stands m DeleteAll) = Unit {0}
IsMeeting Emptying (Answered m DeleteAll) = Unit {0}
IsMeeting Emptying a = ⊥
IsMeeting Met (Answered m DeleteAll) = Unit {0}
IsMeeting Met a = ⊥
IsMeeting MetAndAsked a = IsIn a

-- another standing request: a copy of it may be sent
abbrev pub IsOther : (d k : ℕ) → Asked → Other → Type 0
IsOther d k a other = Fits d k a (Down (Copy d other.number (Elsewhere other.message_type)))

abbrev pub AreOthers : Controller → List Other → Type 0
AreOthers c others = Every (IsOther c.adjacency.own c.next c.asked) others

-- the controller's record, where this instance is drawn next
pub record IsSound (c : Controller) (fresh : ℕ) : Type 0 where
  pub others : AreOthers c c.others
  pub own : 0 < c.adjacency.own
  pub drawn : c.adjacency.own < fresh
  pub in_step : InStep c.adjacency.state c.asked
  pub numbered : IsNumbered c.next c.asked
  pub meeting : IsMeeting c.meeting c.asked

-- the tables at the controller's record
abbrev pub FitsFor : Controller → Item → Type 0
FitsFor c item = Fits c.adjacency.own c.next c.asked item

abbrev pub BeforeFor : Controller → Item → Item → Type 0
BeforeFor c item later = Before c.asked item later

abbrev pub GoodFor : Controller → List Item → Type 0
GoodFor c items = Good c.adjacency.own c.next c.asked items

-- the invariant, with these items for the trip
pub record IsKeptAs (c : Controller) (fresh : ℕ) (items : List Item) : Type 0 where
  pub good : GoodFor c items
  pub sound : IsSound c fresh

abbrev pub IsKept : Line → Type 0
IsKept w = IsKeptAs w.controller w.fresh (trip w)

module _ (c : Controller) (fresh : ℕ) where
  -- the trip alone changes
  pub with_trip : (items later : List Item) → IsKeptAs c fresh items → GoodFor c later
      → IsKeptAs c fresh later
  with_trip items later kept good = record { good = good; sound = kept.sound }

  -- an instance is drawn elsewhere
  pub drawn_later : (items : List Item) → IsKeptAs c fresh items → IsKeptAs c (fresh + 1) items
  drawn_later items kept = record {
    good = kept.good;
    sound = record {
      others = kept.sound.others;
      own = kept.sound.own;
      drawn = omega (arith, kept.sound.drawn);
      in_step = kept.sound.in_step;
      numbered = kept.sound.numbered;
      meeting = kept.sound.meeting;
    };
  }

  -- the meeting goes on
  pub with_meeting : (m : Meeting) → IsMeeting m c.asked → IsSound c fresh
      → IsSound (record c { meeting = m }) fresh
  with_meeting m meeting sound = record {
    others = sound.others;
    own = sound.own;
    drawn = sound.drawn;
    in_step = sound.in_step;
    numbered = sound.numbered;
    meeting = meeting;
  }

  -- others stand
  pub with_others : (others : List Other) → AreOthers c others → IsSound c fresh
      → IsSound (record c { others = others }) fresh
  with_others others are sound = record {
    others = are;
    own = sound.own;
    drawn = sound.drawn;
    in_step = sound.in_step;
    numbered = sound.numbered;
    meeting = sound.meeting;
  }

  -- the adjacency goes on under the same instance
  pub with_adjacency : (state : State) (stored : ℕ) → InStep state c.asked → IsSound c fresh
      → IsSound (record c { adjacency = record c.adjacency { state = state; stored = stored } }) fresh
  with_adjacency state stored in_step sound = record {
    others = sound.others;
    own = sound.own;
    drawn = sound.drawn;
    in_step = in_step;
    numbered = sound.numbered;
    meeting = sound.meeting;
  }

-- other standing requests stay so where the input's is asked, another is, or the input's is answered
pub others_ask : (d k : ℕ) (a : Asked) (p : InputRequest) (os : List Other) → IsIn a
    → Every (IsOther d k a) os → Every (IsOther d (k + 1) (Stands k p)) os
others_ask d k a p os i h =
    every_map (IsOther d k a) (IsOther d (k + 1) (Stands k p)) os (λ o f. grind arith) h

pub others_go_on : (d k : ℕ) (a : Asked) (os : List Other) → IsIn a → Every (IsOther d k a) os
    → Every (IsOther d (k + 1) a) os
others_go_on d k a os i h = every_map (IsOther d k a) (IsOther d (k + 1) a) os (λ o f. grind arith) h

pub others_when_answered : (d k m : ℕ) (p : InputRequest) (os : List Other)
    → Every (IsOther d k (Stands m p)) os → Every (IsOther d k (Answered m p)) os
others_when_answered d k m p os h =
    every_map (IsOther d k (Stands m p)) (IsOther d k (Answered m p)) os (λ o f. grind arith) h

-- the request that is asked now
pub other_now : (d k t : ℕ) (a : Asked) → IsIn a → IsNumbered k a
    → IsOther d (k + 1) a (record { number = k; message_type = t })
other_now d k t a i n = grind arith

-- what was asked in Estab is in step with every later request
pub in_step_on : (st : State) (a : Asked) (k : ℕ) (p : InputRequest) → IsIn a → InStep st a
    → InStep st (Stands k p)
in_step_on st a k p i h = grind arith

pub numbered_later : (k : ℕ) (a : Asked) → IsNumbered k a → IsNumbered (k + 1) a
numbered_later k a n = grind arith
