-- the lines of cells that are put, and of bindings

use Rattle.std.proofs.Common.{◌≡◌, ℕ, ◌==◌, ◌&&◌, ◌||◌, not, Bool, true, false, List, [], ◌∷◌, ◌++◌, map, Option, None, Some, Ok, refl, sym, ◌∙◌, ap, ap₂, subst, append_assoc, append-nil, is_some, eq-eqb, if◌then◌else◌}
use Rattle.std.specs.List.{list_any}
use Rattle.std.specs.Option.{option_and_then, option_map_or}
use Rattle.std.proofs.lemmas.Bool.{and_parts, and_from}
use Rattle.world_model.specs.Words.{NodeId, PortNo, Place, Down, Up, Out, Mark, is_label_channel, number_of_channel, Cell, FlowId, unwrap_fault, EncapsFault, Frame, Record, payload_of, same_mark, IsTopology, last_bound, Topology, same_link_end}
use Rattle.trace_model.specs.declared.cell.TraceCell.{TraceCell}
use Rattle.trace_model.specs.declared.end.TraceEnd.{TraceEnd}
use Rattle.trace_model.specs.declared.line.TraceLine.{TraceLine}
use Rattle.trace_model.specs.declared.line.TraceLine.TheVariants as said
use Rattle.trace_model.specs.declared.verdict.Breach.TheVariants as breach
use Rattle.trace_model.specs.declared.verdict.Step.TheVariants.{Good}
use Rattle.trace_model.specs.Judgement.{judged, breach_of, labelled_breach, flow_from, misses_hop, misses_hop_from}
use Rattle.trace_model.specs.Known.{known}
use Rattle.trace_model.specs.Trace.{Trace, flow_at, payload_at, taken_last}
use Rattle.world_model.specs.network_model.declared.link.LinkEnd.{LinkEnd}
use Rattle.world_model.specs.Topology.{peer_of}
use Rattle.law_passing.specs.telling_model.declared.standing.Standing.{Standing}
use Rattle.tell_trace.specs.Passages.{Framed, Put, line_said, end_said}
use Rattle.tell_trace.specs.Trace.{Told, port_end, is_due, framed_by, frame_told, cell_told, cells_told}
use Rattle.law_running_worlds.proofs.law_causes.Shown.{peer_back}
use Rattle.law_passing.specs.ordered_lists.Ordered.{Every}
use Rattle.law_run_facts.proofs.law_port_facts.Keyed.{on_each}
use Rattle.law_trace_truth.specs.Law.{HasNames}
use Rattle.law_trace_truth.proofs.Lines.{Holds, holds_put, is_good, allowed}
use Rattle.law_trace_truth.proofs.Ends.{same_said}
use Rattle.law_trace_truth.proofs.Knows.{Knows, IsPortEnd, cell_said, label_said, on_end, all_on, more_by, Tells, tells_none, tells_more, tells_then, tells_as, map_join, linked_far, knows_alike, frame_line}

-- *What a cell on a label's channel means*: the far end, its flow there, and the payload of its frame, which fits it
pub record Carried (topology : Topology) (records : List Record) (frames : List Frame) (end : LinkEnd) (cell : Cell) : Type 0 where
  pub far : LinkEnd
  pub peer : peer_of topology end.node end.port ≡ Some far
  pub flow : FlowId
  pub bound : last_bound records far (number_of_channel cell.header.channel) ≡ Some flow
  pub payload : List ℕ
  pub made : payload_of frames cell.mark ≡ Some payload
  pub fits : unwrap_fault flow payload ≡ None

abbrev pub IsCarried : Topology → List Record → List Frame → LinkEnd → Cell → Type 0
IsCarried topology records frames end cell = is_label_channel cell.header.channel ≡ true → Carried topology records frames end cell

abbrev pub IsGoodPut : Topology → List Record → List Frame → Place → Cell → Type 0
IsGoodPut topology records frames (Out node port) cell = IsPortEnd topology (port_end node port) × IsCarried topology records frames (port_end node port) cell
IsGoodPut topology records frames place cell = Unit {0}

-- no hop is missed by it
abbrev pub KeepsHop : Topology → List Record → List Frame → Trace → Place → Cell → Type 0
KeepsHop topology records frames trace (Out node port) cell =
    is_label_channel cell.header.channel ≡ true → (c : Carried topology records frames (port_end node port) cell)
    → misses_hop (known trace) (label_said topology (port_end node port) cell.header.channel) cell.mark c.flow ≡ false
KeepsHop topology records frames trace place cell = Unit {0}

keeps_hop : (topology : Topology) (records : List Record) (frames : List Frame) (trace : Trace) (place : Place) (cell : Cell) → taken_last trace ≡ None → KeepsHop topology records frames trace place cell
keeps_hop topology records frames trace (Out node port) cell none = λ label c.
    ap (λ o. option_map_or (misses_hop_from (known trace) (label_said topology (port_end node port) cell.header.channel) cell.mark c.flow) o false) none
keeps_hop topology records frames trace (Down node) cell none = tt
keeps_hop topology records frames trace (Up node) cell none = tt

all_keep : (topology : Topology) (records : List Record) (frames : List Frame) (trace : Trace) (cells : List Standing) → taken_last trace ≡ None
    → Every (λ (s : Standing). KeepsHop topology records frames trace s.place s.cell) cells
all_keep topology records frames trace [] none = tt
all_keep topology records frames trace (s ∷ cells) none = (keeps_hop topology records frames trace s.place s.cell none, all_keep topology records frames trace cells none)

module _ (topology : Topology) (is : IsTopology topology) (names : HasNames topology) where
  -- *A cell is put*
  put_line : (queues : LinkEnd → List Cell) (records : List Record) (frames : List Frame) (marks : List Mark) (trace : Trace) (end : LinkEnd) (cell : Cell)
      → IsPortEnd topology end → IsCarried topology records frames end cell
      → (is_label_channel cell.header.channel ≡ true → list_any (same_mark cell.mark) marks ≡ true)
      → (is_label_channel cell.header.channel ≡ true → (c : Carried topology records frames end cell) → misses_hop (known trace) (label_said topology end cell.header.channel) cell.mark c.flow ≡ false)
      → Knows topology queues records frames marks trace
      → (judged (known trace) (said.Put (label_said topology end cell.header.channel) cell.mark) ≡ Ok Good)
      × Knows topology (λ other. queues other ++ (if same_link_end end other then cell ∷ [] else [])) records frames marks (said.Put (label_said topology end cell.header.channel) cell.mark ∷ trace)
  put_line queues records frames marks trace end cell there carried told hop k =
      let far = linked_far topology is names end there in (
        is_good trace line
            (allowed trace line (end_said topology end) (end_said topology far.0) refl refl k.unended (k.peers end far.0 there.0 far.1))
            (whole (is_label_channel cell.header.channel) refl),
        record {
          peers = k.peers;
          queue = λ other here. subst (λ (cells : List TraceCell). Holds (line ∷ trace) (end_said topology other) cells) (sym (map_join cell_said (queues other) (if same_link_end end other then cell ∷ [] else [])))
              (holds_put trace line (end_said topology other) (map cell_said (queues other)) (map cell_said (if same_link_end end other then cell ∷ [] else [])) refl
              (ap (λ (b : Bool). if b then cell_said cell ∷ [] else []) (same_said topology is names end other there.0 here.0) ∙ mapped (same_link_end end other)) (k.queue other here));
          flow = k.flow;
          framed = λ mark in_marks. (let f = k.framed mark in_marks in record { payload = f.payload; told = f.told; made = f.made });
          unframed = k.unframed;
          unended = k.unended;
        },
      )
    where
      line : TraceLine
      line = said.Put (label_said topology end cell.header.channel) cell.mark

      mapped : (b : Bool) → (if b then cell_said cell ∷ [] else []) ≡ map cell_said (if b then cell ∷ [] else [])
      mapped true = refl
      mapped false = refl

      whole : (b : Bool) → is_label_channel cell.header.channel ≡ b → breach_of (known trace) line ≡ None
      whole false e = ap (λ (b : Bool). if b then labelled_breach (known trace) (label_said topology end cell.header.channel) cell.mark (payload_at trace cell.mark) (flow_from (known trace) (end_said topology end) cell.header.channel) else None) e
      whole true e =
          let c : Carried topology records frames end cell = carried e in
          let f = k.framed cell.mark (told e) in
          let far_node = (peer_back topology is end c.far c.peer).node in
          let payload : payload_at trace cell.mark ≡ Some c.payload = f.told ∙ (sym f.made ∙ c.made) in
          let flow : flow_from (known trace) (end_said topology end) cell.header.channel ≡ Some c.flow =
          ap (λ (o : Option TraceEnd). option_and_then (λ peer. flow_at trace (record { end = peer; channel = cell.header.channel })) o) (k.peers end c.far there.0 c.peer)
          ∙ k.flow c.far cell.header.channel far_node e ∙ c.bound in
          ap (λ (b : Bool). if b then labelled_breach (known trace) (label_said topology end cell.header.channel) cell.mark (payload_at trace cell.mark) (flow_from (known trace) (end_said topology end) cell.header.channel) else None) e
          ∙ ap₂ (labelled_breach (known trace) (label_said topology end cell.header.channel) cell.mark) payload flow
          ∙ ap₂ (λ (o : Option EncapsFault) (b : Bool). if is_some o then Some breach.Flow else if b then Some breach.Hop else None) c.fits (hop e c)

  -- *The cells of an event*, one by one, each behind its frame where that wasn't told
  module _ (records : List Record) (frames : List Frame) where
    abbrev IsReady : (queues : LinkEnd → List Cell) (marks : List Mark) → Place → Cell → Trace → Type 0
    IsReady queues marks place cell trace =
        Knows topology queues records frames marks trace × (KeepsHop topology records frames trace place cell)
        × (is_label_channel cell.header.channel ≡ true → list_any (same_mark cell.mark) marks ≡ true)

    told_frame : (queues : LinkEnd → List Cell) (marks : List Mark) (trace : Trace) (node : NodeId) (port : PortNo) (cell : Cell)
        → IsCarried topology records frames (port_end node port) cell → KeepsHop topology records frames trace (Out node port) cell → Knows topology queues records frames marks trace
        → Tells topology (IsReady queues (frame_told frames marks cell.header.channel cell.mark).marks (Out node port) cell) trace (frame_told frames marks cell.header.channel cell.mark).passages
    told_frame queues marks trace node port cell carried hop k =
        on_each Q (is_due marks cell.header.channel cell.mark) (framed_by marks cell.mark (payload_of frames cell.mark)) (record { passages = []; marks = marks }) due told
      where
        Q : Told → Type 0
        Q told = Tells topology (IsReady queues told.marks (Out node port) cell) trace told.passages

        not_true : (b : Bool) → not b ≡ true → b ≡ false
        not_true true e = absurd (cc e)
        not_true false e = refl

        pushed : (ms : List Mark) → list_any (same_mark cell.mark) (ms ++ cell.mark ∷ []) ≡ true
        pushed [] = or_first (same_mark cell.mark cell.mark) false (mark_itself cell.mark)
          where
            or_first : (a b : Bool) → a ≡ true → a || b ≡ true
            or_first true b e = refl
            or_first false b e = absurd (cc e)

            mark_itself : (m : Mark) → same_mark m m ≡ true
            mark_itself m = and_from (m.packet == m.packet) (m.frame == m.frame) (eq-eqb m.packet m.packet refl) (eq-eqb m.frame m.frame refl)
        pushed (m ∷ ms) = or_true (same_mark cell.mark m) _ (pushed ms)
          where
            or_true : (a b : Bool) → b ≡ true → a || b ≡ true
            or_true true b e = refl
            or_true false b e = e

        due : is_due marks cell.header.channel cell.mark ≡ true → Q (framed_by marks cell.mark (payload_of frames cell.mark))
        due e =
            let parts = and_parts (is_label_channel cell.header.channel) (not (list_any (same_mark cell.mark) marks)) e in
            let c : Carried topology records frames (port_end node port) cell = carried parts.0 in
            let line = frame_line topology is names queues records frames marks trace cell.mark c.payload (not_true (list_any (same_mark cell.mark) marks) parts.1) c.made k in
            subst (λ (o : Option (List ℕ)). Q (framed_by marks cell.mark o)) (sym c.made)
            (tells_more topology (IsReady queues (marks ++ cell.mark ∷ []) (Out node port) cell) trace (Framed cell.mark c.payload) [] line.0
            (tells_none topology (IsReady queues (marks ++ cell.mark ∷ []) (Out node port) cell) (said.Frame cell.mark c.payload ∷ trace)
            (line.1, keeps_hop topology records frames (said.Frame cell.mark c.payload ∷ trace) (Out node port) cell refl, λ label. pushed marks)))

        told : is_due marks cell.header.channel cell.mark ≡ false → Q (record { passages = []; marks = marks })
        told e = tells_none topology (IsReady queues marks (Out node port) cell) trace (k, hop, λ label. in_marks (is_label_channel cell.header.channel) (list_any (same_mark cell.mark) marks) e label)
          where
            in_marks : (a b : Bool) → a && not b ≡ false → a ≡ true → b ≡ true
            in_marks true true e label = refl
            in_marks true false e label = absurd (cc e)
            in_marks false b e label = absurd (cc label)

    -- behind it no cell was taken last, where its place is a port's
    abbrev AllKeep : Trace → List Standing → Type 0
    AllKeep trace cells = Every (λ (s : Standing). KeepsHop topology records frames trace s.place s.cell) cells

    one_cell : (queues : LinkEnd → List Cell) (marks : List Mark) (trace : Trace) (place : Place) (cell : Cell) (others : List Standing)
        → IsGoodPut topology records frames place cell → KeepsHop topology records frames trace place cell → AllKeep trace others → Knows topology queues records frames marks trace
        → Tells topology (λ t. Knows topology (λ other. queues other ++ on_end other place cell) records frames (cell_told frames marks place cell).marks t × AllKeep t others) trace (cell_told frames marks place cell).passages
    one_cell queues marks trace (Down node) cell others good hop keep k =
        tells_none topology _ trace (knows_alike topology is names queues (λ other. queues other ++ []) records frames marks trace (λ end there. sym (append-nil (queues end))) k, keep)
    one_cell queues marks trace (Up node) cell others good hop keep k =
        tells_none topology _ trace (knows_alike topology is names queues (λ other. queues other ++ []) records frames marks trace (λ end there. sym (append-nil (queues end))) k, keep)
    one_cell queues marks trace (Out node port) cell others good hop keep k =
        let told : Told = frame_told frames marks cell.header.channel cell.mark in
        tells_then topology (IsReady queues told.marks (Out node port) cell) _ trace told.passages (Put (port_end node port) cell.header.channel cell.mark ∷ [])
        (told_frame queues marks trace node port cell good.1 hop k)
        (λ behind ready. (
        let line = put_line queues records frames told.marks behind (port_end node port) cell good.0 good.1 ready.2 ready.1 ready.0 in
        tells_more topology _ behind (Put (port_end node port) cell.header.channel cell.mark) [] line.0
        (tells_none topology _ (line_said topology (Put (port_end node port) cell.header.channel cell.mark) ∷ behind) (line.1, all_keep topology records frames (line_said topology (Put (port_end node port) cell.header.channel cell.mark) ∷ behind) others refl))))

    pub put_lines : (queues : LinkEnd → List Cell) (marks : List Mark) (trace : Trace) (cells : List Standing)
        → Every (λ (s : Standing). IsGoodPut topology records frames s.place s.cell) cells → AllKeep trace cells → Knows topology queues records frames marks trace
        → Tells topology (Knows topology (more_by queues cells) records frames (cells_told frames marks cells).marks) trace (cells_told frames marks cells).passages
    put_lines queues marks trace [] good keep k =
        tells_none topology _ trace (knows_alike topology is names queues (λ end. queues end ++ []) records frames marks trace (λ end there. sym (append-nil (queues end))) k)
    put_lines queues marks trace (s ∷ cells) good keep k =
        let first : Told = cell_told frames marks s.place s.cell in
        let queues_then : LinkEnd → List Cell = λ end. queues end ++ on_end end s.place s.cell in
        tells_then topology (λ t. Knows topology queues_then records frames first.marks t × AllKeep t cells) _ trace first.passages (cells_told frames first.marks cells).passages
        (one_cell queues marks trace s.place s.cell cells good.0 keep.0 keep.1 k)
        (λ behind h. tells_as topology (Knows topology (more_by queues_then cells) records frames (cells_told frames first.marks cells).marks) _ behind (cells_told frames first.marks cells).passages
        (λ t k. knows_alike topology is names (more_by queues_then cells) (more_by queues (s ∷ cells)) records frames (cells_told frames first.marks cells).marks t
        (λ end there. append_assoc (queues end) (on_end end s.place s.cell) (all_on end cells)) k)
        (put_lines queues_then first.marks behind cells good.1 h.1 h.0))
