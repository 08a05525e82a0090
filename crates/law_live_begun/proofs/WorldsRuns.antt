-- a network before the first packet enters: so it is in every run in which none has

use Rattle.std.proofs.Common.{[], ◌∷◌, ◌++◌, sym, subst}
use Rattle.world_model.specs.Words.{Past, past_of}
use Rattle.law_link_parties.specs.law_run_facts.ordered_lists.Ordered.{Every}
use Rattle.law_link_parties.specs.law_run_facts.law_world_views.Kept.{Begins}
use Rattle.law_link_parties.specs.law_run_facts.Nodes.{IsNodeOfRun}
use Rattle.law_link_parties.specs.law_run_facts.Steps.{HasFront, IsStep}
use Rattle.law_link_parties.proofs.law_run_facts.ordered_lists.Every.{every_left, every_right}
use Rattle.law_link_parties.proofs.law_run_facts.Nodes.{runs_have_nodes}
use Rattle.law_link_parties.proofs.law_run_facts.Steps.{runs_have_fronts, events_are_steps}
use Rattle.law_link_parties.specs.law_live_rested.law_true_runs.Runs.{HoldsInRuns, IsWhole}
use Rattle.law_link_parties.proofs.law_link_met.law_link_woken.law_true_runs.Walk.{KeepsItself, holds_in_runs}
use Rattle.law_link_parties.proofs.law_link_met.law_live_tables.law_live_control_links.Runs.{runs_are_steady}
use Rattle.law_live_begun.specs.First.{IsFirstWorld}
use Rattle.law_live_begun.specs.Codec.{GreetingsAreRead}
use Rattle.law_live_begun.specs.Controllers.{ControllersGoOn, ControllersStayReady}
use Rattle.law_live_begun.specs.Switches.{SwitchesGoOn}
use Rattle.law_live_begun.specs.Worlds.{IsQuietEvent, NetworksGoOn}
use Rattle.law_live_begun.proofs.WorldsOpening.{opens_first}
use Rattle.law_live_begun.proofs.WorldsEvents.{event_first}

-- *It is so* where all events are ticks and carries
abbrev IsFirst : Past → Type 0
IsFirst past = Every IsQuietEvent past.events → IsFirstWorld past.topology past.now

first_begins : Begins IsFirst
first_begins policy topology is addresses quiet = opens_first policy topology is addresses

module _ (whole : HoldsInRuns IsWhole) (read : GreetingsAreRead) (controllers_go : ControllersGoOn) (controllers_stay : ControllersStayReady)
    (switches_go : SwitchesGoOn) where
  first_stays : KeepsItself IsFirst
  first_stays policy topology before event comes first quiet =
      let past : Past = past_of policy topology before in
      let front : HasFront policy topology before event = runs_have_fronts policy topology before event comes in
      let step : IsStep past (past_of policy topology (before ++ event ∷ [])) event = events_are_steps policy topology before event in
      let w : IsWhole past = whole policy topology before front.run comes.addresses front.tame in
      subst (IsFirstWorld topology) (sym step.now)
      (event_first read controllers_go controllers_stay switches_go topology past.now (first (every_left IsQuietEvent before (event ∷ []) quiet))
      (λ node. (runs_are_steady policy topology before event comes w.world node).0)
      (λ node site found. (let of : IsNodeOfRun policy past node site = runs_have_nodes policy topology before comes.addresses front.run node site found in record { sound = of.conduct.sound; order = of.conduct.order }))
      event (every_right IsQuietEvent before (event ∷ []) quiet).0 (runs_are_steady policy topology before event comes w.world (record { 0 = 1 })).1)

  pub networks_go_on : NetworksGoOn
  networks_go_on policy topology events q = holds_in_runs IsFirst first_stays first_begins policy topology events q.run q.addresses q.tame q.quiet
