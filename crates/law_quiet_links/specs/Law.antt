-- Carrying cells empties every queue, in a run before its first frame that was forged or passed its test by chance

use Rattle.std.specs.Prelude.{◌≡◌, ℕ, ◌+◌, ◌≤◌, true, false, List, ◌∷◌, ◌++◌}
use Rattle.std.specs.List.{repeat}
use Rattle.world_model.specs.Words.{Place, Policy, Topology, has_loss_of, round, past_of, IsRun, WasAccepted, fates_of, is_empty, HasFatesWhole}
use Rattle.world_model.specs.network_model.declared.event.Event.{Event}
use Rattle.world_model.specs.network_model.declared.event.Event.TheVariants.{Carry}
use Rattle.world_model.specs.World.{opened}
use Rattle.law_running_worlds.specs.law_world_views.Between.{IsWorld}
use Rattle.law_running_worlds.specs.law_world_views.Kept.{Comes, BindsUnusedAt}
use Rattle.law_running_worlds.specs.law_world_views.Fronts.{HasAddresses}
use Rattle.law_ownership.specs.Places.{HasPlaces}
use Rattle.law_quiet_rounds.specs.law_packet_worlds.Channels.{HasChannels}
use Rattle.law_controller_weights.specs.claims_model.Weights.{weight}
use Rattle.law_controller_weights.specs.claims_model.Quiet.{WeighsLess, carried, finds}

-- *Each carry* that comes to a network with all that is so of every one makes it lighter where it finds a cell
abbrev pub CarriesWeighLess : Type 0
CarriesWeighLess = (policy : Policy) (topology : Topology) (before : List Event) (place : Place) → Comes policy topology before (Carry place)
    → IsWorld (past_of policy topology before) → HasPlaces (past_of policy topology before) → HasChannels (past_of policy topology before)
    → BindsUnusedAt policy topology before (Carry place) → WeighsLess policy topology before place

-- *Where each carry does*, carries one after another make it lighter by as many as find a cell
abbrev pub CarriesOf : Policy → Topology → List Event → Type 0
CarriesOf policy topology events = (front rest : List Event) (place : Place) → events ≡ front ++ Carry place ∷ rest → WeighsLess policy topology front place

abbrev pub CarriesFind : Type 0
CarriesFind = (policy : Policy) (topology : Topology) (before : List Event) (places : List Place) → CarriesOf policy topology (carried before places)
    → weight (past_of policy topology (carried before places)) + finds policy topology before places ≤ weight (past_of policy topology before)

-- *and rounds* by as many as there are, or all queues are empty after them
abbrev pub RoundsMakeLighter : Type 0
RoundsMakeLighter = (policy : Policy) (topology : Topology) (events : List Event) → IsRun policy topology events → HasAddresses topology → CarriesOf policy topology events
    → (before : List Event) (count : ℕ) → events ≡ before ++ repeat count (round (opened policy topology))
    → is_empty (past_of policy topology events).now ≡ false → weight (past_of policy topology events) + count ≤ weight (past_of policy topology before)

-- *So all queues are empty* after as many rounds as the world weighs at which they begin
abbrev pub RoundsEmptyQueues : Type 0
RoundsEmptyQueues = (policy : Policy) (topology : Topology) (events : List Event) → IsRun policy topology events → HasAddresses topology → CarriesOf policy topology events
    → (before : List Event) (count : ℕ) → events ≡ before ++ repeat count (round (opened policy topology))
    → weight (past_of policy topology before) ≤ count → is_empty (past_of policy topology events).now ≡ true

-- *and each accepted packet* has its one fate then, or an entry in the ledger
abbrev pub PacketsEnd : Type 0
PacketsEnd = (policy : Policy) (topology : Topology) (events : List Event) → IsRun policy topology events → HasAddresses topology → CarriesOf policy topology events → HasFatesWhole (past_of policy topology events)
    → (before : List Event) (count : ℕ) → events ≡ before ++ repeat count (round (opened policy topology))
    → weight (past_of policy topology before) ≤ count
    → (number : ℕ) → WasAccepted (past_of policy topology events) number → has_loss_of number (past_of policy topology events).now.notes.entries ≡ false
    → fates_of (past_of policy topology events) number ≡ 1
