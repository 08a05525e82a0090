-- the line of the cell that an event takes

use Rattle.std.proofs.Common.{◌≡◌, ℕ, suc, ◌≤◌, ◌==◌, ◌&&◌, Bool, true, false, List, [], ◌∷◌, drop, refl, sym, ◌∙◌, ap, ap₂, arith, eqb-true, if◌then◌else◌}
use Rattle.std.specs.Prelude.{slice_get}
use Rattle.std.specs.Option.{option_map}
use Rattle.std.proofs.lemmas.Bool.{and_parts}
use Rattle.world_model.specs.Words.{NodeId, PortNo, Place, Down, Up, Out, Mark, Cell, Frame, Record, IsTopology, IsEvent, place_node, queue_at, queue_number, same_queue, Topology, World}
use Rattle.law_run_facts.proofs.law_port_facts.Keyed.{by_eq}
use Rattle.trace_model.specs.Trace.{Trace}
use Rattle.world_model.specs.network_model.declared.event.Event.{Event}
use Rattle.world_model.specs.network_model.declared.event.Event.TheVariants.{Inject, Carry, Lose, Tick, TickSwitch, Restart, RestartSwitch, Forge, Route}
use Rattle.world_model.specs.network_model.declared.link.LinkEnd.{LinkEnd}
use Rattle.law_packet_worlds.proofs.Worlds.{port_above}
use Rattle.law_passing.specs.telling_model.Passing.{standing, cell_taken, left}
use Rattle.tell_trace.specs.Passages.{Taken, Lost, line_said}
use Rattle.tell_trace.specs.Trace.{port_end, taken_told}
use Rattle.law_trace_truth.specs.Law.{HasNames}
use Rattle.law_trace_truth.proofs.Knows.{Knows, IsPortEnd, less_by, Tells, tells_none, tells_more, knows_alike, take_line, lost_line}

-- the queues of ports
abbrev pub queues_of : World → LinkEnd → List Cell
queues_of w end = queue_at w (Out end.node end.port)

abbrev pub left_of_event : World → Event → LinkEnd → List Cell
left_of_event w event end = left w event (Out end.node end.port)

suc_same : (a b : ℕ) → (suc a == suc b) ≡ (a == b)
suc_same a b = by_eq a b (λ same t. by_eq (suc a) (suc b) (λ e u. u ∙ sym t) (λ away u. absurd (away (ap suc same))))
    (λ apart t. by_eq (suc a) (suc b) (λ e u. absurd (apart (omega (arith, e)))) (λ away u. u ∙ sym t))

-- a place in front of a controller, or behind it, is no port's
no_port : (source : Place) (end : LinkEnd) → queue_number source ≤ 1 → 1 ≤ end.port.0 → same_queue source (Out end.node end.port) ≡ false
no_port source end low some = by (same_queue source (Out end.node end.port)) refl
  where
    by : (b : Bool) → same_queue source (Out end.node end.port) ≡ b → b ≡ false
    by false e = refl
    by true e = (let n : queue_number source ≡ suc end.port.0 = eqb-true (queue_number source) (suc end.port.0) (and_parts ((place_node source).0 == end.node.0) (queue_number source == suc end.port.0) e).1 in
        absurd (omega (arith, n, low, some)))

module _ (topology : Topology) (is : IsTopology topology) (names : HasNames topology) (w : World) (records : List Record) (frames : List Frame) (marks : List Mark) (trace : Trace)
    (k : Knows topology (queues_of w) records frames marks trace) where
  abbrev Leaves : Event → Trace → Type 0
  Leaves event = Knows topology (left_of_event w event) records frames marks

  above : (end : LinkEnd) → IsPortEnd topology end → 1 ≤ end.port.0
  above end there = (port_above topology is end.node end.port there.1).0

  -- nothing is told
  untouched : (event : Event) → ((end : LinkEnd) → IsPortEnd topology end → queues_of w end ≡ left_of_event w event end) → Tells topology (Leaves event) trace []
  untouched event same = tells_none topology (Leaves event) trace (knows_alike topology is names (queues_of w) (left_of_event w event) records frames marks trace same k)

  as_it_was : (source : Place) → queue_number source ≤ 1 → (end : LinkEnd) → IsPortEnd topology end
      → queues_of w end ≡ (if same_queue source (Out end.node end.port) then drop 1 (queues_of w end) else queues_of w end)
  as_it_was source low end there = sym (ap (λ (b : Bool). if b then drop 1 (queues_of w end) else queues_of w end) (no_port source end low (above end there)))

  less_same : (node : NodeId) (port : PortNo) (end : LinkEnd)
      → less_by (queues_of w) (port_end node port) end ≡ (if same_queue (Out node port) (Out end.node end.port) then drop 1 (queues_of w end) else queues_of w end)
  less_same node port end = ap (λ (b : Bool). if (node.0 == end.node.0) && b then drop 1 (queues_of w end) else queues_of w end) (sym (suc_same port.0 end.port.0))

  empty_same : (node : NodeId) (port : PortNo) → queue_at w (Out node port) ≡ [] → (end : LinkEnd)
      → queues_of w end ≡ (if same_queue (Out node port) (Out end.node end.port) then drop 1 (queues_of w end) else queues_of w end)
  empty_same node port none end = by (same_queue (Out node port) (Out end.node end.port)) refl
    where
      by : (b : Bool) → same_queue (Out node port) (Out end.node end.port) ≡ b → queues_of w end ≡ (if b then drop 1 (queues_of w end) else queues_of w end)
      by false e = refl
      by true e =
          let parts = and_parts (node.0 == end.node.0) (suc port.0 == suc end.port.0) e in
          let n = eqb-true node.0 end.node.0 parts.0 in
          let s = eqb-true (suc port.0) (suc end.port.0) parts.1 in
          let p : port.0 ≡ end.port.0 = omega (arith, s) in
          let same : queues_of w end ≡ [] = sym (ap₂ (λ (i j : ℕ). queue_at w (Out (record { 0 = i }) (record { 0 = j }))) n p) ∙ none in
          same ∙ sym (ap (drop 1) same)

  carries : (node : NodeId) (port : PortNo) → IsPortEnd topology (port_end node port) → (q : List Cell) → queue_at w (Out node port) ≡ q
      → Tells topology (Leaves (Carry (Out node port))) trace (taken_told (Carry (Out node port)) (option_map (standing (Out node port)) (slice_get q 0)))
  carries node port there [] head = untouched (Carry (Out node port)) (λ end here. empty_same node port head end)
  carries node port there (cell ∷ cells) head =
      let line = take_line topology is names (queues_of w) records frames marks trace (port_end node port) cell cells there head k in
      tells_more topology (Leaves (Carry (Out node port))) trace (Taken (port_end node port)) [] line.0
      (tells_none topology (Leaves (Carry (Out node port))) (line_said topology (Taken (port_end node port)) ∷ trace)
      (knows_alike topology is names (less_by (queues_of w) (port_end node port)) (left_of_event w (Carry (Out node port))) records frames marks (line_said topology (Taken (port_end node port)) ∷ trace)
      (λ end here. less_same node port end) line.1))

  loses : (node : NodeId) (port : PortNo) → IsPortEnd topology (port_end node port) → (q : List Cell) → queue_at w (Out node port) ≡ q
      → Tells topology (Leaves (Lose (Out node port))) trace (taken_told (Lose (Out node port)) (option_map (standing (Out node port)) (slice_get q 0)))
  loses node port there [] head = untouched (Lose (Out node port)) (λ end here. empty_same node port head end)
  loses node port there (cell ∷ cells) head =
      let line = lost_line topology is names (queues_of w) records frames marks trace (port_end node port) cell cells there head k in
      tells_more topology (Leaves (Lose (Out node port))) trace (Lost (port_end node port)) [] line.0
      (tells_none topology (Leaves (Lose (Out node port))) (line_said topology (Lost (port_end node port)) ∷ trace)
      (knows_alike topology is names (less_by (queues_of w) (port_end node port)) (left_of_event w (Lose (Out node port))) records frames marks (line_said topology (Lost (port_end node port)) ∷ trace)
      (λ end here. less_same node port end) line.1))

  -- *Each event*
  pub takes : (event : Event) → IsEvent topology w event → Tells topology (Leaves event) trace (taken_told event (cell_taken w event))
  takes (Inject node octets) meant = untouched (Inject node octets) (λ end there. refl)
  takes (Carry (Down node)) meant = untouched (Carry (Down node)) (as_it_was (Down node) (omega arith))
  takes (Carry (Up node)) meant = untouched (Carry (Up node)) (as_it_was (Up node) (omega arith))
  takes (Carry (Out node port)) meant = carries node port meant (queue_at w (Out node port)) refl
  takes (Lose (Down node)) meant = untouched (Lose (Down node)) (as_it_was (Down node) (omega arith))
  takes (Lose (Up node)) meant = untouched (Lose (Up node)) (as_it_was (Up node) (omega arith))
  takes (Lose (Out node port)) meant = loses node port meant (queue_at w (Out node port)) refl
  takes (Tick node) meant = untouched (Tick node) (λ end there. refl)
  takes (TickSwitch node) meant = untouched (TickSwitch node) (λ end there. refl)
  takes (Restart node) meant = untouched (Restart node) (λ end there. refl)
  takes (RestartSwitch node) meant = untouched (RestartSwitch node) (λ end there. refl)
  takes (Forge place channel payload) meant = untouched (Forge place channel payload) (λ end there. refl)
  takes (Route node change) meant = untouched (Route node change) (λ end there. refl)
