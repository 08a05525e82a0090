-- each event of a run keeps it

use Rattle.std.proofs.Common.{◌≡◌, ◌<◌, List, Some, sym, subst, inl, inr}
use Rattle.std.specs.Prelude.{nat_lt}
use Rattle.world_model.specs.Words.{End, NodeId, Down, Up, Out, Mark, number_of_channel, payload_of, Policy, reassembly_of, Topology, World, Site, site_at, put_away, next, past_of}
use Rattle.world_model.specs.frame_model.Reassembly.{taken}
use Rattle.world_model.specs.Switch as switches
use Rattle.world_model.specs.Controller as controllers
use Rattle.law_fed_worlds.proofs.law_controller_facts.Laws.{has_ports}
use Rattle.world_model.specs.network_model.declared.event.Event.{Event}
use Rattle.world_model.specs.network_model.declared.event.Event.TheVariants.{Inject, Carry, Lose, Tick, TickSwitch, Restart, RestartSwitch, Forge, Route}
use Rattle.world_model.specs.Step.{acts}
use Rattle.law_running_worlds.proofs.law_frame_readings.Reading.{no_copy}
use Rattle.law_running_worlds.specs.law_run_facts.Nodes.{RunsHaveNodes}
use Rattle.law_running_worlds.specs.law_run_facts.Steps.{RunsHaveFronts, EventsAreSteps}
use Rattle.law_running_worlds.proofs.Taken.{ended_mark}
use Rattle.law_running_worlds.proofs.Kept.{ControllersPass, SwitchesPass, given}
use Rattle.law_fed_worlds.specs.law_world_views.Ready.{setups_of}
use Rattle.law_fed_worlds.specs.law_world_views.Made.{AreMade}
use Rattle.law_fed_worlds.specs.law_world_views.Pairs.{Pairs, by_branch, by_desk, by_copy}
use Rattle.law_fed_worlds.specs.law_world_views.Shown.{acting}
use Rattle.law_fed_worlds.specs.law_world_views.Tied.{HasPassed}
use Rattle.law_fed_worlds.specs.law_world_views.Between.{IsWorld, EachSite, HasShapes, HasAllShapes, HasAllMade}
use Rattle.law_fed_worlds.specs.law_world_views.Kept.{Comes, Keeps, behind}
use Rattle.law_pairs.specs.Events.{EntersAt}
use Rattle.law_pairs.proofs.Acts.{Sited}
use Rattle.law_pairs.specs.Past.{RunsMakeNoPairs}
use Rattle.law_passed_cells.specs.Passed.{HasRequests, PassedIsKept}
use Rattle.law_passed_cells.proofs.Grants.{IsClear, joined_clear}
use Rattle.law_passed_cells.proofs.Sites.{SitePassed}
use Rattle.law_passed_cells.proofs.Events.{IsFair, SendsAt, reads_of, acts_good}
use Rattle.law_passed_cells.proofs.Runs.{AsksOnGsmp, to_passed, to_requests, from_passed, pairs_labelled}

-- pairs once the records are tallied
tallied_pair : (topology : Topology) (w : World) (event : Event) (node : NodeId) (input output : End) → Pairs (acts topology (put_away w) event) node input output → Pairs (next topology w event) node input output
tallied_pair topology w event node input output (by_branch e) = by_branch e
tallied_pair topology w event node input output (by_desk s k e) = by_desk s k e
tallied_pair topology w event node input output (by_copy s cell k copy e) = by_copy s cell k copy e

no_entry : (w : World) (event : Event) (sender node : NodeId) (input output : End) → SendsAt event sender → EntersAt w event node input output → ⊥
no_entry w (Inject at_node octets) sender node input output at enters = enters
no_entry w (Carry (Up at_node)) sender node input output at enters = enters
no_entry w (Carry (Down at_node)) sender node input output at enters = at
no_entry w (Carry (Out at_node port)) sender node input output at enters = at
no_entry w (Lose place) sender node input output at enters = at
no_entry w (Tick at_node) sender node input output at enters = at
no_entry w (TickSwitch at_node) sender node input output at enters = at
no_entry w (Restart at_node) sender node input output at enters = at
no_entry w (RestartSwitch at_node) sender node input output at enters = at
no_entry w (Forge place channel payload) sender node input output at enters = at
no_entry w (Route at_node change) sender node input output at enters = at

module _ (nodes : RunsHaveNodes) (fronts : RunsHaveFronts) (steps : EventsAreSteps) (up : ControllersPass) (down : SwitchesPass) (shapes : Keeps HasAllShapes) (made : Keeps HasAllMade) (pairs : RunsMakeNoPairs) where
  module _ (policy : Policy) (topology : Topology) (before : List Event) where
    abbrev now : World
    now = (past_of policy topology before).now

    abbrev w : World
    w = put_away now

    fair : (event : Event) → Comes policy topology before event → IsWorld (past_of policy topology before) → IsFair topology w event
    fair (Inject node octets) c world = tt
    fair (Carry (Down node)) c world = λ site cell cells found queue gsmp first rest payload ended passes.
        (subst (λ (m : Mark). payload_of now.notes.frames m ≡ Some payload) (ended_mark w.notes (nat_lt 0 (switches.free_slots site.switch)) site.switch.reassembly cell first rest ended)
        (down policy topology before node c site cell first cells rest found queue gsmp ended payload passes))
    fair (Carry (Up node)) c world = λ site cell cells found queue taker is.
        reads_of (setups_of site.controller) taker (taken w.notes (nat_lt 0 (controllers.free_slots site.controller)) (reassembly_of site.controller taker) cell).ended
        (given nodes fronts steps up down policy topology before (Carry (Up node)) c world cell cells queue site found taker is)
    fair (Carry (Out node port)) c world = given nodes fronts steps up down policy topology before (Carry (Out node port)) c world
    fair (Lose place) c world = tt
    fair (Tick node) c world = tt
    fair (TickSwitch node) c world = tt
    fair (Restart node) c world = tt
    fair (RestartSwitch node) c world = tt
    fair (Forge place channel payload) c world = given nodes fronts steps up down policy topology before (Forge place channel payload) c world
    fair (Route node change) c world = tt

    module _ (event : Event) (c : Comes policy topology before event) (world : IsWorld (past_of policy topology before)) (asked : HasRequests (past_of policy topology before)) where
      abbrev v : World
      v = acts topology w event

      abbrev after : World
      after = next topology now event

      same : (behind policy topology before event).now ≡ after
      same = (steps policy topology before event).now

      shapes_after : EachSite after (HasShapes after)
      shapes_after = subst (λ (u : World). EachSite u (HasShapes u)) same (shapes policy topology before event c world)

      made_after : AreMade after.notes.frames
      made_after = subst (λ (u : World). AreMade u.notes.frames) same (made policy topology before event c world)

      clear : (node : NodeId) → SendsAt event node → (input output : End) → 0 < input.port.0 → 0 < output.port.0 → Pairs v node input output → (site : Site) → site_at w node ≡ Some site
          → IsClear site.controller output.port.0 (number_of_channel output.channel)
      clear node sends input output above on pair site found =
          joined_clear (setups_of site.controller) site.controller input output (world.ready node site found).controller.sound (λ met. world.joins node site found met input output above on old)
        where
          old : Pairs now node input output
          old = elim (pairs policy topology before event c world node input output above on (subst (λ (u : World). Pairs u node input output) (sym same) (tallied_pair topology now event node input output pair))) [
            | inl k ↦ k
            | inr enters ↦ absurd (no_entry w event node node input output sends enters)
          ]

      sited : Sited (SitePassed after.notes.frames) after.sites
      sited = acts_good topology w (λ node site found. has_ports (setups_of site.controller) (acting w site) (world.ready node site found).controller.sound)
          (λ node cell k. world.numbers.chains node cell k) (λ place cell k. world.numbers.marks place cell k) (from_passed now world.passed asked) event (fair event c world)
          (λ node input output above on pair. pairs_labelled after shapes_after node input output above on (tallied_pair topology now event node input output pair)) clear
          (λ mark counted. no_copy after.notes.frames mark made_after counted)

  pub passed_kept : PassedIsKept
  passed_kept policy topology before event c world asked = (
    subst (λ (u : World). (node : NodeId) → HasPassed u node) (sym (same policy topology before event c world asked)) (to_passed (after policy topology before event c world asked) (sited policy topology before event c world asked)),
    subst AsksOnGsmp (sym (same policy topology before event c world asked)) (to_requests (after policy topology before event c world asked) (sited policy topology before event c world asked)),
  )
