-- what is so of a world of a run before a carry, and of what the carry leaves, as the measure needs it

use Rattle.std.proofs.Common.{◌≡◌, ℕ, ◌≤◌, List, length, Some, sym, ◌∙◌, ap, subst, arith}
use Rattle.std.specs.Prelude.{Contains}
use Rattle.world_model.specs.Words.{NodeId, Mark, kind_of, Fits, Record, Bind, payload_of, Policy, Topology, IsTopology, IsNode, World, Past, past_of, frames_of, last_bound, IsTame}
use Rattle.world_model.specs.gsmp_wire.declared.message.Message as gsmp
use Rattle.world_model.specs.gsmp_wire.declared.message.Message.TheVariants as messages
use Rattle.world_model.specs.gsmp_wire.Layout.{octets_of as gsmp_octets}
use Rattle.law_running_worlds.proofs.law_causes.Sizes.{IsShort, default_length, labelled_length, fault_short, ifmp_length, greeting_length, rows_length}
use Rattle.world_model.specs.network_model.declared.event.Event.{Event}
use Rattle.world_model.specs.network_model.declared.link.LinkEnd.{LinkEnd}
use Rattle.law_running_worlds.specs.law_shown_cells.Seen.{Extends}
use Rattle.law_running_worlds.specs.law_world_views.Made.{IsFit, IsMadeAs, plain, labelled, told, said}
use Rattle.law_running_worlds.specs.law_world_views.Between.{IsWorld, EachSite, HasAllMade}
use Rattle.law_running_worlds.specs.law_world_views.Kept.{Comes, behind, BindsUnusedAt}
use Rattle.law_quiet_rounds.proofs.law_packet_worlds.Behind.{IsUser}
use Rattle.law_quiet_rounds.proofs.law_packet_worlds.Bound.{bound_stays, none_own}
use Rattle.law_quiet_rounds.proofs.law_packet_worlds.Hops as laws
use Rattle.law_quiet_rounds.proofs.law_packet_worlds.Nets.{world_net}
use Rattle.law_quiet_rounds.proofs.law_packet_worlds.Worlds.{IsNet}
use Rattle.law_running_worlds.specs.law_run_facts.Nodes.{IsNodeOfRun, HasSite}
use Rattle.law_running_worlds.specs.law_run_facts.Steps.{IsStep, HasFront}
use Rattle.law_running_worlds.proofs.law_run_facts.Nodes.{runs_have_nodes}
use Rattle.law_running_worlds.proofs.law_run_facts.Rooms.{runs_keep_nodes, runs_have_room}
use Rattle.law_running_worlds.proofs.law_run_facts.Steps.{events_are_steps, runs_have_fronts}
use Rattle.law_running_worlds.proofs.law_run_facts.Grown.{frames_stay}
use Rattle.law_running_worlds.specs.Running.{ChainsAreTrue}
use Rattle.law_running_worlds.proofs.Worlds.{events_true}
use Rattle.law_running_worlds.proofs.MadeTame.{controllers_pass, switches_pass}
use Rattle.law_running_worlds.proofs.Kept.{made_kept}

-- *No frame is too long*
said_short : (message : gsmp.Message) → Fits message → length (gsmp_octets message) ≤ 1528
said_short (messages.Adjacency g) fits = (greeting_length g (omega (arith, fits.0.name_length)) (omega (arith, fits.1.name_length))).1
said_short (messages.Branch kind result code transaction session input_port input output_port output branches priority) fits = omega arith
said_short (messages.Move result code transaction session input_port input output_port output target_port target branches priority) fits = omega arith
said_short (messages.Port result code transaction port session function) fits = omega arith
said_short (messages.AllPorts result code transaction rows) fits = (rows_length result code transaction rows fits.3).1

fit_short : (packet : List ℕ) → IsFit packet → IsShort packet
fit_short packet fit = fault_short packet (laws.accepted_parts packet fit.accepted).0

pub made_short : (mark : Mark) (payload : List ℕ) → IsMadeAs mark payload → length payload ≤ 1528
made_short mark payload (plain m packet fit is) = subst (λ (p : List ℕ). length p ≤ 1528) (sym is) (default_length packet (fit_short packet fit)).1
made_short mark payload (labelled m flow packet fit carried) = subst (λ (p : List ℕ). length p ≤ 1528) (sym carried.filled) (labelled_length (kind_of flow) packet (fit_short packet fit)).1
made_short mark payload (told m source message low range fits is) = subst (λ (p : List ℕ). length p ≤ 1528) (sym is) (ifmp_length source message).1
made_short mark payload (said m message fits is_said is) = subst (λ (p : List ℕ). length p ≤ 1528) (sym is) (said_short message fits)

module _ (policy : Policy) (topology : Topology) (before : List Event) (event : Event) (comes : Comes policy topology before event) (is : IsWorld (past_of policy topology before)) where
  abbrev pub P : Past
  P = past_of policy topology before

  abbrev pub N : Past
  N = behind policy topology before event

  pub step : IsStep (past_of policy topology before) (behind policy topology before event) event
  step = events_are_steps policy topology before event

  pub front : HasFront policy topology before event
  front = runs_have_fronts policy topology before event comes

  pub topology_is : IsTopology topology
  topology_is = front.run.topology_is

  pub nodes : EachSite (past_of policy topology before).now (IsNodeOfRun policy (past_of policy topology before))
  nodes = runs_have_nodes policy topology before comes.addresses front.run

  pub there : (node : NodeId) → IsNode topology node → HasSite (past_of policy topology before).now node
  there = runs_keep_nodes policy topology before front.run

  pub net : IsNet topology (past_of policy topology before).now
  net = world_net policy topology before nodes there

  pub extends : Extends (frames_of (past_of policy topology before)) (frames_of (behind policy topology before event))
  extends = frames_stay policy topology before event comes is

  pub made : HasAllMade (behind policy topology before event)
  made = made_kept runs_have_nodes runs_have_room runs_have_fronts events_are_steps (controllers_pass events_true runs_have_fronts events_are_steps) (switches_pass events_true runs_have_fronts events_are_steps)
      policy topology before event comes is

  pub chains : ChainsAreTrue (past_of policy topology before).now event
  chains = events_true policy topology before event (subst (λ (u : World). IsTame u.notes.records) step.now front.new_tame)

  pub short : (mark : Mark) (payload : List ℕ) → payload_of (frames_of (behind policy topology before event)) mark ≡ Some payload → length payload ≤ 1528
  short mark payload is_made = made_short mark payload (made mark payload is_made)

  -- *A label that is used* was bound last as before
  pub kept : BindsUnusedAt policy topology before event → (far : LinkEnd) (label : ℕ) → IsUser topology (past_of policy topology before).now far label
      → last_bound (behind policy topology before event).records far label ≡ last_bound (past_of policy topology before).records far label
  kept unused far label user = ap (λ (rs : List Record). last_bound rs far label) step.records
      ∙ bound_stays (past_of policy topology before).records (behind policy topology before event).now.notes.records far label
      (none_own (behind policy topology before event).now.notes.records far label (λ item flow in_now e. (
      let bind_is : item ≡ Bind user.way.down.node user.way.down.port label flow = e ∙ ap (λ (x : LinkEnd). Bind x.node x.port label flow) (sym user.down) in
      unused user.way label flow (subst (λ (r : Record). Contains (behind policy topology before event).now.notes.records r) bind_is in_now) user.on user.user user.uses)))
