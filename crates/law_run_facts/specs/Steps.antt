-- What an event adds to a past, and what of a past stays so

use Rattle.std.specs.Prelude.{◌≡◌, ℕ, suc, ◌<◌, List, [], ◌∷◌, ◌++◌, length, slice_get, Some}
use Rattle.law_world_pace.specs.world_model.Words.{NodeId, Policy, Fate, Topology, CanCome, next, Reaches, HasReached, sent_by, table_in, Past, past_of, frames_of, WasCleared, IsRun, IsTame, WasAccepted, IsTrueFate}
use Rattle.law_world_views.specs.law_shown_cells.Seen.{Extends}
use Rattle.law_world_pace.specs.world_model.network_model.declared.event.Event.{Event}
use Rattle.law_world_pace.specs.world_model.network_model.declared.link.LinkEnd.{LinkEnd}
use Rattle.law_world_views.specs.Marks.{HasCome}
use Rattle.law_world_views.specs.Between.{IsWorld}
use Rattle.law_world_views.specs.Kept.{Comes, behind}

-- *A past*: one world more than events, of which the last is now; as many packets were sent as are told of
pub record IsPast (past : Past) : Type 0 where
  pub worlds : length past.worlds ≡ suc (length past.events)
  pub last : slice_get past.worlds (length past.events) ≡ Some past.now
  pub events : past.now.events ≡ length past.events
  pub sent : past.now.sent ≡ length past.history.sent
  pub held : (node : NodeId) → past.history.held node (length past.events) ≡ table_in node past.now

abbrev pub PastsAreWhole : Type 0
PastsAreWhole = (policy : Policy) (topology : Topology) (events : List Event) → IsPast (past_of policy topology events)

-- *One event more*: one world more, its records, and the packet that it was to send
pub record IsStep (old new : Past) (event : Event) : Type 0 where
  pub topology : new.topology ≡ old.topology
  pub events : new.events ≡ old.events ++ event ∷ []
  pub now : new.now ≡ next old.topology old.now event
  pub worlds : new.worlds ≡ old.worlds ++ new.now ∷ []
  pub records : new.records ≡ old.records ++ new.now.notes.records
  pub sent : new.history.sent ≡ old.history.sent ++ sent_by (length old.events) (event ∷ [])
  pub held : (node : NodeId) (time : ℕ) → time < length old.worlds → new.history.held node time ≡ old.history.held node time

abbrev pub EventsAreSteps : Type 0
EventsAreSteps = (policy : Policy) (topology : Topology) (before : List Event) (event : Event)
    → IsStep (past_of policy topology before) (behind policy topology before event) event

-- *What stays*: where a packet has come, what was accepted, which fates are true, and under which instances ports were
-- cleared
pub record Stays (old new : Past) : Type 0 where
  pub reaches : (k : ℕ) (node : NodeId) (packet : List ℕ) (time : ℕ) → time < length old.worlds
      → Reaches old.topology old.history k node packet time → Reaches new.topology new.history k node packet time
  pub has_reached : (k : ℕ) (node : NodeId) (packet : List ℕ) (by : ℕ) → by < length old.worlds
      → HasReached old.topology old.history k node packet by → HasReached new.topology new.history k node packet by
  pub has_come : (k : ℕ) (node : NodeId) (packet : List ℕ) → HasCome old k node packet → HasCome new k node packet
  pub accepted : (number : ℕ) → WasAccepted old number → WasAccepted new number
  pub fates : (time number : ℕ) (fate : Fate) → time < length old.worlds → IsTrueFate old time number fate → IsTrueFate new time number fate
  pub cleared : (end : LinkEnd) (instance : ℕ) → WasCleared old end instance → WasCleared new end instance

abbrev pub PastsStay : Type 0
PastsStay = (policy : Policy) (topology : Topology) (before : List Event) (event : Event)
    → Stays (past_of policy topology before) (behind policy topology before event)

-- *What came before*: each front of a run is one, its events could come, and it was tame where the whole is
pub record HasFront (policy : Policy) (topology : Topology) (before : List Event) (event : Event) : Type 0 where
  pub run : IsRun policy topology before
  pub can : CanCome topology (past_of policy topology before).now event
  pub tame : IsTame (past_of policy topology before).records
  pub new_tame : IsTame (behind policy topology before event).now.notes.records

abbrev pub RunsHaveFronts : Type 0
RunsHaveFronts = (policy : Policy) (topology : Topology) (before : List Event) (event : Event) → Comes policy topology before event
    → HasFront policy topology before event

-- *Frames* that were made stay: no event makes another under their mark
abbrev pub FramesStay : Type 0
FramesStay = (policy : Policy) (topology : Topology) (before : List Event) (event : Event) → Comes policy topology before event
    → IsWorld (past_of policy topology before)
    → Extends (frames_of (past_of policy topology before)) (frames_of (behind policy topology before event))
