-- how lines change where the cells of a mark were put first

use Rattle.std.proofs.Common.{◌≡◌, ◌≢◌, ℕ, Bool, true, false, List, [], ◌∷◌, ◌++◌, flat_map, Option, None, Some, refl, sym, ◌∙◌, ap, ap₂, subst, if◌then◌else◌}
use Rattle.std.specs.Option.{option_or}
use Rattle.std.proofs.lemmas.List.Concat.{flat_map-cons}
use Rattle.world_model.specs.Words.{Channel, Place, Down, Up, Out, Mark, Cell, Frame, Record, payload_of, same_mark, Topology}
use Rattle.world_model.specs.link_model.declared.record.Record.TheVariants as kinds
use Rattle.world_model.proofs.link_model.Marks.{same_mark-Decides}
use Rattle.law_passing.specs.ordered_lists.Ordered.{Every}
use Rattle.law_passing.proofs.ordered_lists.Every.{every_join}
use Rattle.law_run_facts.proofs.law_port_facts.Keyed.{on_both}
use Rattle.trace_model.specs.declared.end.TraceLabel.{TraceLabel}
use Rattle.trace_model.specs.Trace.{Trace, first_put}
use Rattle.world_model.specs.network_model.declared.event.Event.{Event}
use Rattle.world_model.specs.network_model.declared.event.Event.TheVariants.{Inject, Carry, Lose, Tick, TickSwitch, Restart, RestartSwitch, Forge, Route}
use Rattle.law_passing.specs.telling_model.declared.standing.Standing.{Standing}
use Rattle.tell_trace.specs.Passages.{Passage, Linked, Taken, Lost, Framed, Put, Bound, line_said}
use Rattle.tell_trace.specs.Trace.{Told, port_end, taken_told, is_due, framed_by, frame_told, cell_told, cells_told, bind_told}
use Rattle.law_trace_truth.proofs.Knows.{label_said, after_told}

-- *What may be put*
abbrev pub PutsAs : Topology → (TraceLabel → Mark → Type 0) → Passage → Type 0
PutsAs topology allowed (Put end channel mark) = allowed (label_said topology end channel) mark
PutsAs topology allowed passage = Unit {0}

-- the first put of a mark is as it was, or there was none
pub data Changes (allowed : TraceLabel → Mark → Type 0) (old new : Trace) (mark : Mark) : Type 0 where
  same : first_put new mark ≡ first_put old mark → Changes allowed old new mark
  placed_now : first_put old mark ≡ None → (place : TraceLabel) → first_put new mark ≡ Some place → allowed place mark → Changes allowed old new mark

changes_then : (allowed : TraceLabel → Mark → Type 0) (a b c : Trace) (mark : Mark) → Changes allowed a b mark → Changes allowed b c mark → Changes allowed a c mark
changes_then allowed a b c mark (same e) (same f) = same (f ∙ e)
changes_then allowed a b c mark (same e) (placed_now n place f is) = placed_now (sym e ∙ n) place f is
changes_then allowed a b c mark (placed_now n place e is) (same f) = placed_now n place (f ∙ e) is
changes_then allowed a b c mark (placed_now n place e is) (placed_now m other f too) = absurd (cc (sym e ∙ m))

or_none : (o : Option TraceLabel) → option_or o None ≡ o
or_none None = refl
or_none (Some x) = refl

module _ (topology : Topology) where
  line_changes : (allowed : TraceLabel → Mark → Type 0) (trace : Trace) (passage : Passage) → PutsAs topology allowed passage → (mark : Mark) → Changes allowed trace (line_said topology passage ∷ trace) mark
  line_changes allowed trace (Linked first second) h mark = same (or_none (first_put trace mark))
  line_changes allowed trace (Taken end) h mark = same (or_none (first_put trace mark))
  line_changes allowed trace (Lost end) h mark = same (or_none (first_put trace mark))
  line_changes allowed trace (Framed other payload) h mark = same (or_none (first_put trace mark))
  line_changes allowed trace (Bound end channel flow) h mark = same (or_none (first_put trace mark))
  line_changes allowed trace (Put end channel other) h mark = by (first_put trace mark) refl (same_mark other mark) refl
    where
      by : (o : Option TraceLabel) → first_put trace mark ≡ o → (b : Bool) → same_mark other mark ≡ b → Changes allowed trace (line_said topology (Put end channel other) ∷ trace) mark
      by (Some place) e b t = same (ap (λ (o : Option TraceLabel). option_or o (if same_mark other mark then Some (label_said topology end channel) else None)) e ∙ sym e)
      by None e false t = same (ap₂ (λ (o : Option TraceLabel) (b : Bool). option_or o (if b then Some (label_said topology end channel) else None)) e t ∙ sym e)
      by None e true t = placed_now e (label_said topology end channel) (ap₂ (λ (o : Option TraceLabel) (b : Bool). option_or o (if b then Some (label_said topology end channel) else None)) e t)
          (subst (allowed (label_said topology end channel)) ((same_mark-Decides other mark).0 t) h)

  pub all_changes : (allowed : TraceLabel → Mark → Type 0) (trace : Trace) (passages : List Passage) → Every (PutsAs topology allowed) passages → (mark : Mark) → Changes allowed trace (after_told topology trace passages) mark
  all_changes allowed trace [] all mark = same refl
  all_changes allowed trace (passage ∷ passages) all mark =
      changes_then allowed trace (line_said topology passage ∷ trace) (after_told topology trace (passage ∷ passages)) mark (line_changes allowed trace passage all.0 mark)
      (all_changes allowed (line_said topology passage ∷ trace) passages all.1 mark)

  -- any may be put
  abbrev Anything : TraceLabel → Mark → Type 0
  Anything place mark = Unit {0}

  anything : (passages : List Passage) → Every (PutsAs topology Anything) passages
  anything [] = tt
  anything (passage ∷ passages) = (one passage, anything passages)
    where
      one : (passage : Passage) → PutsAs topology Anything passage
      one (Linked first second) = tt
      one (Taken end) = tt
      one (Lost end) = tt
      one (Framed mark payload) = tt
      one (Put end channel mark) = tt
      one (Bound end channel flow) = tt

  -- once put, it stays so
  pub still_put : (trace : Trace) (passages : List Passage) (mark : Mark) → first_put trace mark ≢ None → first_put (after_told topology trace passages) mark ≢ None
  still_put trace passages mark h = by (all_changes Anything trace passages (anything passages) mark)
    where
      by : Changes Anything trace (after_told topology trace passages) mark → first_put (after_told topology trace passages) mark ≢ None
      by (same e) = λ n. h (sym e ∙ n)
      by (placed_now n place e is) = absurd (h n)

  pub after_join : (trace : Trace) (passages others : List Passage) → after_told topology trace (passages ++ others) ≡ after_told topology (after_told topology trace passages) others
  after_join trace [] others = refl
  after_join trace (passage ∷ passages) others = after_join (line_said topology passage ∷ trace) passages others

  -- *The lines of an event* that are no puts
  pub takes_as : (allowed : TraceLabel → Mark → Type 0) (event : Event) (o : Option Standing) → Every (PutsAs topology allowed) (taken_told event o)
  takes_as allowed (Inject node octets) o = tt
  takes_as allowed (Carry (Down node)) o = tt
  takes_as allowed (Carry (Up node)) o = tt
  takes_as allowed (Carry (Out node port)) None = tt
  takes_as allowed (Carry (Out node port)) (Some standing) = (tt, tt)
  takes_as allowed (Lose (Down node)) o = tt
  takes_as allowed (Lose (Up node)) o = tt
  takes_as allowed (Lose (Out node port)) None = tt
  takes_as allowed (Lose (Out node port)) (Some standing) = (tt, tt)
  takes_as allowed (Tick node) o = tt
  takes_as allowed (TickSwitch node) o = tt
  takes_as allowed (Restart node) o = tt
  takes_as allowed (RestartSwitch node) o = tt
  takes_as allowed (Forge place channel payload) o = tt
  takes_as allowed (Route node change) o = tt

  one_bind : (allowed : TraceLabel → Mark → Type 0) (item : Record) → Every (PutsAs topology allowed) (bind_told item)
  one_bind allowed (kinds.Bind node port label flow) = (tt, tt)
  one_bind allowed (kinds.Delivered node packet octets) = tt
  one_bind allowed (kinds.Dropped node packet cause) = tt
  one_bind allowed (kinds.Refused node packet name) = tt
  one_bind allowed (kinds.Loss mark cause) = tt
  one_bind allowed (kinds.Chance mark) = tt
  one_bind allowed (kinds.Bad node layer name) = tt
  one_bind allowed (kinds.Opened node port) = tt
  one_bind allowed (kinds.Closed node port) = tt
  one_bind allowed (kinds.Free node port vci) = tt
  one_bind allowed (kinds.Join node port vci to_port to_vci) = tt
  one_bind allowed (kinds.Part node port vci) = tt
  one_bind allowed (kinds.Routes node changes) = tt
  one_bind allowed (kinds.Forged place) = tt

  pub binds_as : (allowed : TraceLabel → Mark → Type 0) (items : List Record) → Every (PutsAs topology allowed) (flat_map bind_told items)
  binds_as allowed [] = tt
  binds_as allowed (item ∷ items) = subst (Every (PutsAs topology allowed)) (sym (flat_map-cons bind_told item items)) (every_join (PutsAs topology allowed) (bind_told item) (flat_map bind_told items) (one_bind allowed item) (binds_as allowed items))

  -- *Its puts*
  abbrev pub AllowedAt : (TraceLabel → Mark → Type 0) → Place → Cell → Type 0
  AllowedAt allowed (Out node port) cell = allowed (label_said topology (port_end node port) cell.header.channel) cell.mark
  AllowedAt allowed place cell = Unit {0}

  frame_as : (allowed : TraceLabel → Mark → Type 0) (frames : List Frame) (marks : List Mark) (channel : Channel) (mark : Mark) → Every (PutsAs topology allowed) (frame_told frames marks channel mark).passages
  frame_as allowed frames marks channel mark = on_both (λ (t : Told). Every (PutsAs topology allowed) t.passages) (is_due marks channel mark) (framed_by marks mark (payload_of frames mark)) (record { passages = []; marks = marks })
      (by (payload_of frames mark)) tt
    where
      by : (o : Option (List ℕ)) → Every (PutsAs topology allowed) (framed_by marks mark o).passages
      by None = tt
      by (Some payload) = (tt, tt)

  cell_as : (allowed : TraceLabel → Mark → Type 0) (frames : List Frame) (marks : List Mark) (place : Place) (cell : Cell) → AllowedAt allowed place cell → Every (PutsAs topology allowed) (cell_told frames marks place cell).passages
  cell_as allowed frames marks (Down node) cell h = tt
  cell_as allowed frames marks (Up node) cell h = tt
  cell_as allowed frames marks (Out node port) cell h = every_join (PutsAs topology allowed) (frame_told frames marks cell.header.channel cell.mark).passages (Put (port_end node port) cell.header.channel cell.mark ∷ [])
      (frame_as allowed frames marks cell.header.channel cell.mark) (h, tt)

  pub puts_as : (allowed : TraceLabel → Mark → Type 0) (frames : List Frame) (marks : List Mark) (cells : List Standing) → Every (λ (s : Standing). AllowedAt allowed s.place s.cell) cells
      → Every (PutsAs topology allowed) (cells_told frames marks cells).passages
  puts_as allowed frames marks [] all = tt
  puts_as allowed frames marks (s ∷ cells) all =
      every_join (PutsAs topology allowed) (cell_told frames marks s.place s.cell).passages (cells_told frames (cell_told frames marks s.place s.cell).marks cells).passages
      (cell_as allowed frames marks s.place s.cell all.0) (puts_as allowed frames (cell_told frames marks s.place s.cell).marks cells all.1)

  -- each cell's mark was put then
  abbrev pub HasPut : Trace → Place → Cell → Type 0
  HasPut trace (Out node port) cell = first_put trace cell.mark ≢ None
  HasPut trace place cell = Unit {0}

  more_put : (trace : Trace) (passages : List Passage) (place : Place) (cell : Cell) → HasPut trace place cell → HasPut (after_told topology trace passages) place cell
  more_put trace passages (Down node) cell h = tt
  more_put trace passages (Up node) cell h = tt
  more_put trace passages (Out node port) cell h = still_put trace passages cell.mark h

  cell_put : (frames : List Frame) (marks : List Mark) (trace : Trace) (place : Place) (cell : Cell) → HasPut (after_told topology trace (cell_told frames marks place cell).passages) place cell
  cell_put frames marks trace (Down node) cell = tt
  cell_put frames marks trace (Up node) cell = tt
  cell_put frames marks trace (Out node port) cell =
      let told : Told = frame_told frames marks cell.header.channel cell.mark in
      subst (λ (t : Trace). first_put t cell.mark ≢ None) (sym (after_join trace told.passages (Put (port_end node port) cell.header.channel cell.mark ∷ [])))
      (by (first_put (after_told topology trace told.passages) cell.mark) (same_mark cell.mark cell.mark) ((same_mark-Decides cell.mark cell.mark).1 refl))
    where
      by : (o : Option TraceLabel) (b : Bool) → b ≡ true → option_or o (if b then Some (label_said topology (port_end node port) cell.header.channel) else None) ≢ None
      by (Some x) b t = λ e. cc e
      by None true t = λ e. cc e
      by None false t = absurd (cc t)

  pub all_put : (frames : List Frame) (marks : List Mark) (trace : Trace) (cells : List Standing)
      → Every (λ (s : Standing). HasPut (after_told topology trace (cells_told frames marks cells).passages) s.place s.cell) cells
  all_put frames marks trace [] = tt
  all_put frames marks trace (s ∷ cells) =
      let first : Told = cell_told frames marks s.place s.cell in
      let rest : Told = cells_told frames first.marks cells in
      subst (λ (t : Trace). Every (λ (x : Standing). HasPut t x.place x.cell) (s ∷ cells)) (sym (after_join trace first.passages rest.passages))
      (more_put (after_told topology trace first.passages) rest.passages s.place s.cell (cell_put frames marks trace s.place s.cell), all_put frames first.marks (after_told topology trace first.passages) cells)

  pub every_put : (trace : Trace) (passages : List Passage) (cells : List Standing) → Every (λ (s : Standing). HasPut trace s.place s.cell) cells
      → Every (λ (s : Standing). HasPut (after_told topology trace passages) s.place s.cell) cells
  every_put trace passages [] all = tt
  every_put trace passages (s ∷ cells) all = (more_put trace passages s.place s.cell all.0, every_put trace passages cells all.1)
