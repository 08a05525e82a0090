-- the lines of an event are good

use Rattle.std.proofs.Common.{◌≡◌, ℕ, List, ◌++◌, flat_map, Some, sym, ◌∙◌, ap, subst}
use Rattle.std.specs.Prelude.{Contains}
use Rattle.world_model.specs.Words.{NodeId, PortNo, Out, Mark, Cell, FlowId, Frame, payload_of, Policy, IsTopology, IsEvent, Past, frames_of, places, next, Topology, Way, IsWay, IsUnused, World}
use Rattle.world_model.specs.link_model.declared.record.Record.TheVariants as kinds
use Rattle.law_passing.specs.ordered_lists.Ordered.{Every}
use Rattle.law_packet_worlds.proofs.Worlds.{IsNet, port_above}
use Rattle.law_run_facts.specs.Nodes.{IsNodeOfRun}
use Rattle.law_run_facts.specs.law_shown_cells.Seen.{Extends}
use Rattle.law_told_worlds.specs.Before.{end_at, IsWiringAt}
use Rattle.trace_model.specs.Trace.{Trace}
use Rattle.world_model.specs.network_model.declared.event.Event.{Event}
use Rattle.world_model.specs.network_model.declared.link.LinkEnd.{LinkEnd}
use Rattle.law_run_facts.specs.law_world_views.Between.{EachSite, HasMeanings}
use Rattle.law_passing.specs.telling_model.declared.standing.Standing.{Standing}
use Rattle.law_passing.specs.telling_model.Passing.{left, cells_put, cells_put_at, cell_taken}
use Rattle.law_passing.specs.Law.{QueuesChangeByPassing}
use Rattle.tell_trace.specs.Trace.{Told, taken_told, cells_told, bind_told, event_told}
use Rattle.law_trace_truth.specs.Law.{HasNames}
use Rattle.law_trace_truth.proofs.Knows.{Knows, IsPortEnd, Tells, tells_then, tells_as, after_told, knows_alike, knows_more, more_by}
use Rattle.law_trace_truth.proofs.Puts.{KeepsHop, IsGoodPut, put_lines}
use Rattle.law_trace_truth.proofs.Binds.{bind_lines}
use Rattle.law_trace_truth.proofs.Placed.{placed_once}
use Rattle.law_trace_truth.proofs.Crossing.{PutsOn}
use Rattle.law_trace_truth.proofs.Taking.{queues_of, left_of_event, takes}
use Rattle.law_trace_truth.proofs.Fitting.{all_places, good_puts, good_binds}

-- *What is so of an event* of a run, and of the network before and behind it
pub record IsStepOf (policy : Policy) (topology : Topology) (past later : Past) (event : Event) : Type 0 where
  pub same_topology : past.topology ≡ topology
  pub of_topology : later.topology ≡ topology
  pub now : later.now ≡ next topology past.now event
  pub records : later.records ≡ past.records ++ (next topology past.now event).notes.records
  pub net : IsNet topology past.now
  pub nodes : EachSite past.now (IsNodeOfRun policy past)
  pub meant : IsEvent topology past.now event
  pub on : PutsOn topology past.now event
  pub frames : Extends (frames_of past) (frames_of later)
  pub meanings : HasMeanings later
  pub unused : (way : Way) (label : ℕ) (flow : FlowId) → Contains later.now.notes.records (kinds.Bind way.down.node way.down.port label flow) → IsWay topology way → IsUnused past.now way label
  pub wired : (node : NodeId) (port : PortNo) (label : ℕ) (flow : FlowId) → Contains later.now.notes.records (kinds.Bind node port label flow) → IsWiringAt past.now (end_at node port) label flow

-- no put of it misses a hop
abbrev pub KeepsHops : Topology → Past → (behind : World) → Event → Trace → Type 0
KeepsHops topology past behind event trace =
    Every (λ (s : Standing). KeepsHop topology past.records behind.notes.frames (after_told topology trace (taken_told event (cell_taken past.now event))) s.place s.cell) (cells_put topology past.now event)

module _ (topology : Topology) (is : IsTopology topology) (names : HasNames topology) (change : QueuesChangeByPassing)
    (policy : Policy) (past later : Past) (event : Event) (step : IsStepOf policy topology past later event) where
  abbrev w : World
  w = past.now

  abbrev behind : World
  behind = next topology past.now event

  good : Every (λ (s : Standing). IsGoodPut topology past.records behind.notes.frames s.place s.cell) (cells_put topology w event)
  good = subst (λ (v : World). Every (λ (s : Standing). IsGoodPut topology past.records v.notes.frames s.place s.cell) (cells_put topology w event)) step.now
      (good_puts topology is names change past later event step.of_topology step.now step.records step.on step.meanings (places w)
      (all_places policy topology is past step.same_topology step.net step.nodes))

  -- behind it each queue holds what it holds then
  holds : (end : LinkEnd) → IsPortEnd topology end → more_by (left_of_event w event) (cells_put topology w event) end ≡ queues_of behind end
  holds end there =
      ap (λ (l : List Cell). left w event (Out end.node end.port) ++ l) (placed_once end (cells_put_at topology w event) w (port_above topology is end.node end.port there.1).0 step.net.shaped (step.net.within (Out end.node end.port) there))
      ∙ sym (change topology w event (Out end.node end.port))

  pub event_tells : (marks : List Mark) (trace : Trace) → Knows topology (queues_of w) past.records (frames_of past) marks trace → KeepsHops topology past behind event trace
      → Tells topology (Knows topology (queues_of behind) (past.records ++ behind.notes.records) behind.notes.frames (event_told marks topology w event).marks) trace (event_told marks topology w event).passages
  event_tells marks trace k keep =
      let frames : List Frame = behind.notes.frames in
      let cells : Told = cells_told frames marks (cells_put topology w event) in
      let known : Knows topology (queues_of w) past.records frames marks trace =
      knows_more topology is names (queues_of w) past.records (frames_of past) frames marks trace
      (λ mark payload made. subst (λ (v : World). payload_of v.notes.frames mark ≡ Some payload) step.now (step.frames.kept mark payload made)) k in
      let first = takes topology is names w past.records frames marks trace known event step.meant in
      let Keep : Trace → Type 0 = λ t. Every (λ (s : Standing). KeepsHop topology past.records frames t s.place s.cell) (cells_put topology w event) in
      tells_then topology (λ t. Knows topology (left_of_event w event) past.records frames marks t × Keep t)
      (Knows topology (queues_of behind) (past.records ++ behind.notes.records) frames cells.marks) trace (taken_told event (cell_taken w event)) (cells.passages ++ flat_map bind_told behind.notes.records)
      (record { good = first.good; leads = (first.leads, keep) })
      (λ t h. tells_then topology (Knows topology (queues_of behind) past.records frames cells.marks)
      (Knows topology (queues_of behind) (past.records ++ behind.notes.records) frames cells.marks) t cells.passages (flat_map bind_told behind.notes.records)
      (tells_as topology (Knows topology (more_by (left_of_event w event) (cells_put topology w event)) past.records frames cells.marks) (Knows topology (queues_of behind) past.records frames cells.marks) t cells.passages
      (λ u q. knows_alike topology is names (more_by (left_of_event w event) (cells_put topology w event)) (queues_of behind) past.records frames cells.marks u holds q)
      (put_lines topology is names past.records frames (left_of_event w event) marks t (cells_put topology w event) good h.1 h.0))
      (λ u q. bind_lines topology is names (queues_of behind) frames cells.marks past.records u behind.notes.records
      (good_binds topology is names change past later event step.of_topology step.now step.records step.on policy step.nodes step.same_topology step.unused step.wired frames cells.marks) q))
