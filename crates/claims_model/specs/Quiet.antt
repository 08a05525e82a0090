-- Carrying cells empties every queue

use Rattle.std.specs.Prelude.{◌≡◌, ℕ, ◌+◌, ◌≤◌, true, false, ◌==◌, List, [], ◌∷◌, ◌++◌, length, map, if◌then◌else◌}
use Rattle.std.specs.List.{repeat}
use Rattle.world_model.specs.Words.{Place, Policy, Topology, World, has_loss_of, queue_at, round, Past, past_of, IsRun, IsTame, WasAccepted, fates_of, is_empty}
use Rattle.world_model.specs.network_model.declared.event.Event.{Event}
use Rattle.world_model.specs.network_model.declared.event.Event.TheVariants.{Carry}
use Rattle.world_model.specs.World.{opened}
use Rattle.claims_model.specs.Weights.{weight}

-- a carry finds a cell, or an empty queue
abbrev pub found : World → Place → ℕ
found w place = if length (queue_at w place) == 0 then 0 else 1

-- *A carry* that finds a cell makes a world lighter by 1 at least, and no carry makes it heavier
abbrev pub WeighsLess : Policy → Topology → (before : List Event) → Place → Type 0
WeighsLess policy topology before place =
    weight (past_of policy topology (before ++ Carry place ∷ [])) + found (past_of policy topology before).now place
    ≤ weight (past_of policy topology before)

-- *Carries one after another*, of any queues in any order, and how many of them find a cell
abbrev pub carried : (before : List Event) → List Place → List Event
carried before places = before ++ map Carry places

abbrev pub finds : Policy → Topology → (before : List Event) → List Place → ℕ
finds policy topology before [] = 0
finds policy topology before (place ∷ places) =
    found (past_of policy topology before).now place + finds policy topology (before ++ Carry place ∷ []) places

-- *Rounds*, each of one carry of each queue, which are those of the opening in each world of a run
abbrev pub in_rounds : Policy → Topology → (before : List Event) → (count : ℕ) → List Event
in_rounds policy topology before count = before ++ repeat count (round (opened policy topology))

-- *So far a run* goes: each of these events can come when it comes, and no frame was forged or passed its test by chance
pub record GoesOn (policy : Policy) (topology : Topology) (events : List Event) : Type 0 where
  pub run : IsRun policy topology events
  pub tame : IsTame (past_of policy topology events).records

-- *From a world on*, while nothing comes but carries: with each that finds a cell the world is lighter by 1 at least, so that no
-- more find one than it weighs; after some rounds it is lighter by as many, or all queues are empty; and after as many as it
-- weighs they are
pub record IsQuiet (policy : Policy) (topology : Topology) (before : List Event) : Type 0 where
  pub carries : (places : List Place) → GoesOn policy topology (carried before places)
      → weight (past_of policy topology (carried before places)) + finds policy topology before places
      ≤ weight (past_of policy topology before)
  pub lighter : (count : ℕ) → GoesOn policy topology (in_rounds policy topology before count)
      → is_empty (past_of policy topology (in_rounds policy topology before count)).now ≡ false
      → weight (past_of policy topology (in_rounds policy topology before count)) + count ≤ weight (past_of policy topology before)
  pub rounds : (count : ℕ) → GoesOn policy topology (in_rounds policy topology before count)
      → weight (past_of policy topology before) ≤ count
      → is_empty (past_of policy topology (in_rounds policy topology before count)).now ≡ true

-- *And then each accepted packet* has its one fate, or an entry in the ledger
abbrev pub HasEnds : Past → Type 0
HasEnds past = (number : ℕ) → WasAccepted past number → has_loss_of number past.now.notes.entries ≡ false
    → fates_of past number ≡ 1

abbrev pub PacketsEndFrom : Policy → Topology → (before : List Event) → Type 0
PacketsEndFrom policy topology before = (count : ℕ) → GoesOn policy topology (in_rounds policy topology before count)
    → weight (past_of policy topology before) ≤ count → HasEnds (past_of policy topology (in_rounds policy topology before count))
