-- what a trace knows of a network, and the lines that keep it

use Rattle.std.proofs.Common.{◌≡◌, ℕ, ◌||◌, Bool, true, false, List, [], ◌∷◌, ◌++◌, drop, map, Option, None, Some, Ok, refl, sym, ◌∙◌, ap, subst, is_some, if◌then◌else◌}
use Rattle.std.specs.List.{list_any}
use Rattle.std.specs.Option.{option_or}
use Rattle.world_model.specs.Words.{Channel, Place, Out, Mark, is_label_channel, number_of_channel, Cell, Frame, Record, payload_of, same_mark, IsTopology, IsNode, is_linked, last_bound, Topology, same_link_end}
use Rattle.world_model.proofs.link_model.Marks.{same_mark-Decides}
use Rattle.trace_model.specs.declared.cell.TraceCell.{TraceCell}
use Rattle.trace_model.specs.declared.end.TraceEnd.{TraceEnd}
use Rattle.trace_model.specs.declared.end.TraceLabel.{TraceLabel}
use Rattle.trace_model.specs.declared.line.TraceLine.{TraceLine}
use Rattle.trace_model.specs.declared.line.TraceLine.TheVariants as said
use Rattle.trace_model.specs.declared.verdict.Breach.TheVariants as breach
use Rattle.trace_model.specs.declared.verdict.Step.TheVariants.{Good}
use Rattle.trace_model.specs.Ends.{same_end}
use Rattle.trace_model.specs.Judgement.{judged, served_breach}
use Rattle.trace_model.specs.Known.{known}
use Rattle.trace_model.specs.Trace as traces
use Rattle.trace_model.specs.Trace.{Trace, queue_of, flow_at, payload_at, has_ended, taken_last, first_put}
use Rattle.world_model.specs.network_model.declared.link.LinkEnd.{LinkEnd}
use Rattle.world_model.specs.Topology.{peer_of}
use Rattle.law_passing.specs.telling_model.declared.standing.Standing.{Standing}
use Rattle.tell_trace.specs.Passages.{Passage, line_said, end_said}
use Rattle.tell_trace.specs.Trace.{port_end}
use Rattle.law_trace_truth.specs.Law.{AreGood, HasNames}
use Rattle.law_trace_truth.proofs.Lines.{Holds, queue_is, holds_beside, holds_taken, is_good, unrefused, allowed}
use Rattle.law_trace_truth.proofs.Ends.{ends_are, same_said}

abbrev pub cell_said : Cell → TraceCell
cell_said cell = record { channel = cell.header.channel; mark = cell.mark }

abbrev pub label_said : Topology → LinkEnd → Channel → TraceLabel
label_said topology end channel = record { end = end_said topology end; channel = channel }

abbrev pub IsPortEnd : Topology → LinkEnd → Type 0
IsPortEnd topology end = IsNode topology end.node × (is_linked topology end.node end.port ≡ true)

-- a mark's frame was told, and is the one that was made
pub record IsFramed (frames : List Frame) (trace : Trace) (mark : Mark) : Type 0 where
  pub payload : List ℕ
  pub told : payload_at trace mark ≡ Some payload
  pub made : payload_of frames mark ≡ Some payload

-- *What a trace knows*: the links, the cells in the queues of ports, the flows of labels, and the frames that were told
pub record Knows (topology : Topology) (queues : LinkEnd → List Cell) (records : List Record) (frames : List Frame) (marks : List Mark) (trace : Trace) : Type 0 where
  pub peers : (end far : LinkEnd) → IsNode topology end.node → peer_of topology end.node end.port ≡ Some far
      → traces.peer_of trace (end_said topology end) ≡ Some (end_said topology far)
  pub queue : (end : LinkEnd) → IsPortEnd topology end → Holds trace (end_said topology end) (map cell_said (queues end))
  pub flow : (end : LinkEnd) (channel : Channel) → IsNode topology end.node → is_label_channel channel ≡ true
      → flow_at trace (label_said topology end channel) ≡ last_bound records end (number_of_channel channel)
  pub framed : (mark : Mark) → list_any (same_mark mark) marks ≡ true → IsFramed frames trace mark
  pub unframed : (mark : Mark) → list_any (same_mark mark) marks ≡ false → payload_at trace mark ≡ None
  pub unended : has_ended trace ≡ false

-- *Cells of a port's queue* among cells that stand in queues
abbrev pub on_end : LinkEnd → Place → Cell → List Cell
on_end end (Out node port) cell = if same_link_end (port_end node port) end then cell ∷ [] else []
on_end end place cell = []

abbrev pub all_on : LinkEnd → List Standing → List Cell
all_on end [] = []
all_on end (standing ∷ others) = on_end end standing.place standing.cell ++ all_on end others

abbrev pub more_by : (LinkEnd → List Cell) → List Standing → LinkEnd → List Cell
more_by queues cells end = queues end ++ all_on end cells

abbrev pub less_by : (LinkEnd → List Cell) → (taken : LinkEnd) → LinkEnd → List Cell
less_by queues taken end = if same_link_end taken end then drop 1 (queues end) else queues end

-- *Lines that are good, and lead to* such a trace
abbrev pub after_told : Topology → Trace → List Passage → Trace
after_told topology trace [] = trace
after_told topology trace (passage ∷ passages) = after_told topology (line_said topology passage ∷ trace) passages

pub record Tells (topology : Topology) (P : Trace → Type 0) (trace : Trace) (passages : List Passage) : Type 0 where
  pub good : AreGood trace (map (line_said topology) passages)
  pub leads : P (after_told topology trace passages)

module _ (topology : Topology) where
  pub tells_none : (P : Trace → Type 0) (trace : Trace) → P trace → Tells topology P trace []
  tells_none P trace h = record { good = tt; leads = h }

  pub tells_more : (P : Trace → Type 0) (trace : Trace) (passage : Passage) (passages : List Passage) → judged (known trace) (line_said topology passage) ≡ Ok Good
      → Tells topology P (line_said topology passage ∷ trace) passages → Tells topology P trace (passage ∷ passages)
  tells_more P trace passage passages good rest = record { good = (good, rest.good); leads = rest.leads }

  pub tells_then : (P Q : Trace → Type 0) (trace : Trace) (passages others : List Passage) → Tells topology P trace passages
      → ((behind : Trace) → P behind → Tells topology Q behind others) → Tells topology Q trace (passages ++ others)
  tells_then P Q trace [] others first rest = rest trace first.leads
  tells_then P Q trace (passage ∷ passages) others first rest =
      tells_more Q trace passage (passages ++ others) first.good.0
      (tells_then P Q (line_said topology passage ∷ trace) passages others (record { good = first.good.1; leads = first.leads }) rest)

  pub tells_as : (P Q : Trace → Type 0) (trace : Trace) (passages : List Passage) → ((behind : Trace) → P behind → Q behind) → Tells topology P trace passages → Tells topology Q trace passages
  tells_as P Q trace passages f t = record { good = t.good; leads = f (after_told topology trace passages) t.leads }

-- *Lists*
pub map_join : {A B : Type 0} (f : A → B) (xs ys : List A) → map f (xs ++ ys) ≡ map f xs ++ map f ys
map_join f [] ys = refl
map_join f (x ∷ xs) ys = ap (λ l. f x ∷ l) (map_join f xs ys)

any_push : (test : Mark → Bool) (marks : List Mark) (mark : Mark) → list_any test (marks ++ mark ∷ []) ≡ list_any test marks || test mark
any_push test [] mark = last (test mark)
  where
    last : (b : Bool) → b || false ≡ b
    last true = refl
    last false = refl
any_push test (m ∷ marks) mark = first (test m) (list_any test marks) (test mark) (any_push test marks mark)
  where
    first : (a b c : Bool) → {d : Bool} → d ≡ b || c → a || d ≡ (a || b) || c
    first true b c e = refl
    first false b c e = e

module _ (topology : Topology) (is : IsTopology topology) (names : HasNames topology) where
  abbrev K : (LinkEnd → List Cell) → List Record → List Frame → List Mark → Trace → Type 0
  K = Knows topology

  -- it is of queues alone what they hold, and frames stay
  pub knows_alike : (queues other : LinkEnd → List Cell) (records : List Record) (frames : List Frame) (marks : List Mark) (trace : Trace)
      → ((end : LinkEnd) → IsPortEnd topology end → queues end ≡ other end) → K queues records frames marks trace → K other records frames marks trace
  knows_alike queues other records frames marks trace same k = record {
    peers = k.peers;
    queue = λ end there. subst (λ (cells : List Cell). Holds trace (end_said topology end) (map cell_said cells)) (same end there) (k.queue end there);
    flow = k.flow;
    framed = k.framed;
    unframed = k.unframed;
    unended = k.unended;
  }

  pub knows_more : (queues : LinkEnd → List Cell) (records : List Record) (frames later : List Frame) (marks : List Mark) (trace : Trace)
      → ((mark : Mark) (payload : List ℕ) → payload_of frames mark ≡ Some payload → payload_of later mark ≡ Some payload) → K queues records frames marks trace → K queues records later marks trace
  knows_more queues records frames later marks trace stay k = record {
    peers = k.peers;
    queue = k.queue;
    flow = k.flow;
    framed = λ mark told. (let f = k.framed mark told in record { payload = f.payload; told = f.told; made = stay mark f.payload f.made });
    unframed = k.unframed;
    unended = k.unended;
  }

  -- the ends of a link
  pub linked_far : (end : LinkEnd) → IsPortEnd topology end → (far : LinkEnd) × (peer_of topology end.node end.port ≡ Some far)
  linked_far end there = by (peer_of topology end.node end.port) refl there.1
    where
      by : (o : Option LinkEnd) → peer_of topology end.node end.port ≡ o → is_some o ≡ true → (far : LinkEnd) × (peer_of topology end.node end.port ≡ Some far)
      by None e f = absurd (cc f)
      by (Some far) e f = (far, e)

  -- *A cell is taken*, or lost
  taken_queue : (queues : LinkEnd → List Cell) (trace : Trace) (line : TraceLine) (end : LinkEnd) (cell : Cell) (cells : List Cell) → IsPortEnd topology end → queues end ≡ cell ∷ cells
      → ((at : TraceEnd) → traces.leaves at line ≡ same_end (end_said topology end) at) → ((at : TraceEnd) → traces.put_at at line ≡ [])
      → ((other : LinkEnd) → IsPortEnd topology other → Holds trace (end_said topology other) (map cell_said (queues other)))
      → (other : LinkEnd) → IsPortEnd topology other → Holds (line ∷ trace) (end_said topology other) (map cell_said (less_by queues end other))
  taken_queue queues trace line end cell cells there holds leaves none before other here = by (same_link_end end other) refl
    where
      same : traces.leaves (end_said topology other) line ≡ same_link_end end other
      same = leaves (end_said topology other) ∙ same_said topology is names end other there.0 here.0

      by : (b : Bool) → same_link_end end other ≡ b → Holds (line ∷ trace) (end_said topology other) (map cell_said (if b then drop 1 (queues other) else queues other))
      by false e = holds_beside trace line (end_said topology other) (map cell_said (queues other)) (same ∙ e) (none (end_said topology other)) (before other here)
      by true e =
          let one : queues other ≡ cell ∷ cells = ap queues (sym (ends_are end other e)) ∙ holds in
          subst (λ (now : List Cell). Holds (line ∷ trace) (end_said topology other) (map cell_said (drop 1 now))) (sym one)
          (holds_taken trace line (end_said topology other) (cell_said cell) (map cell_said cells) (same ∙ e) (none (end_said topology other))
          (subst (λ (now : List Cell). Holds trace (end_said topology other) (map cell_said now)) one (before other here)))

  pub take_line : (queues : LinkEnd → List Cell) (records : List Record) (frames : List Frame) (marks : List Mark) (trace : Trace) (end : LinkEnd) (cell : Cell) (cells : List Cell)
      → IsPortEnd topology end → queues end ≡ cell ∷ cells → K queues records frames marks trace
      → (judged (known trace) (said.Take (end_said topology end)) ≡ Ok Good) × K (less_by queues end) records frames marks (said.Take (end_said topology end) ∷ trace)
  take_line queues records frames marks trace end cell cells there holds k =
      let far = linked_far end there in (
        is_good trace (said.Take (end_said topology end))
            (allowed trace (said.Take (end_said topology end)) (end_said topology end) (end_said topology far.0) refl refl k.unended (k.peers end far.0 there.0 far.1))
            (ap served_breach (queue_is trace (end_said topology end) (map cell_said (queues end)) (k.queue end there) ∙ ap (map cell_said) holds)),
        record {
          peers = k.peers;
          queue = taken_queue queues trace (said.Take (end_said topology end)) end cell cells there holds (λ at. refl) (λ at. refl) k.queue;
          flow = k.flow;
          framed = λ mark told. (let f = k.framed mark told in record { payload = f.payload; told = f.told; made = f.made });
          unframed = k.unframed;
          unended = k.unended;
        },
      )

  pub lost_line : (queues : LinkEnd → List Cell) (records : List Record) (frames : List Frame) (marks : List Mark) (trace : Trace) (end : LinkEnd) (cell : Cell) (cells : List Cell)
      → IsPortEnd topology end → queues end ≡ cell ∷ cells → K queues records frames marks trace
      → (judged (known trace) (said.Lost (end_said topology end)) ≡ Ok Good) × K (less_by queues end) records frames marks (said.Lost (end_said topology end) ∷ trace)
  lost_line queues records frames marks trace end cell cells there holds k =
      let far = linked_far end there in (
        is_good trace (said.Lost (end_said topology end))
            (allowed trace (said.Lost (end_said topology end)) (end_said topology end) (end_said topology far.0) refl refl k.unended (k.peers end far.0 there.0 far.1))
            (ap served_breach (queue_is trace (end_said topology end) (map cell_said (queues end)) (k.queue end there) ∙ ap (map cell_said) holds)),
        record {
          peers = k.peers;
          queue = taken_queue queues trace (said.Lost (end_said topology end)) end cell cells there holds (λ at. refl) (λ at. refl) k.queue;
          flow = k.flow;
          framed = λ mark told. (let f = k.framed mark told in record { payload = f.payload; told = f.told; made = f.made });
          unframed = k.unframed;
          unended = k.unended;
        },
      )

  -- *A frame is told*
  pub frame_line : (queues : LinkEnd → List Cell) (records : List Record) (frames : List Frame) (marks : List Mark) (trace : Trace) (mark : Mark) (payload : List ℕ)
      → list_any (same_mark mark) marks ≡ false → payload_of frames mark ≡ Some payload → K queues records frames marks trace
      → (judged (known trace) (said.Frame mark payload) ≡ Ok Good) × K queues records frames (marks ++ mark ∷ []) (said.Frame mark payload ∷ trace)
  frame_line queues records frames marks trace mark payload new made k = (
    is_good trace (said.Frame mark payload) (unrefused trace (said.Frame mark payload) refl k.unended) (ap (λ (o : Option (List ℕ)). if is_some o then Some breach.Frame else None) (k.unframed mark new)),
    record {
      peers = k.peers;
      queue = λ end there. holds_beside trace (said.Frame mark payload) (end_said topology end) (map cell_said (queues end)) refl refl (k.queue end there);
      flow = k.flow;
      framed = λ other told. by_told other (same_mark mark other) refl (sym (any_push (same_mark other) marks mark) ∙ told);
      unframed = λ other told. (
          let parts = or_parts (list_any (same_mark other) marks) (same_mark other mark) (sym (any_push (same_mark other) marks mark) ∙ told) in
          ap (λ (b : Bool). option_or (if b then Some payload else None) (payload_at trace other)) (turned mark other false (parts.1)) ∙ k.unframed other parts.0);
      unended = k.unended;
    },
  )
    where
      turned : (one other : Mark) (b : Bool) → same_mark other one ≡ b → same_mark one other ≡ b
      turned one other true e = (same_mark-Decides one other).1 (sym ((same_mark-Decides other one).0 e))
      turned one other false e = no (same_mark one other) refl
        where
          no : (b : Bool) → same_mark one other ≡ b → b ≡ false
          no false f = refl
          no true f = (let back : same_mark other one ≡ true = (same_mark-Decides other one).1 (sym ((same_mark-Decides one other).0 f)) in cc (sym back ∙ e))

      or_parts : (a b : Bool) → a || b ≡ false → (a ≡ false) × (b ≡ false)
      or_parts true b e = absurd (cc e)
      or_parts false b e = (refl, e)

      or_left : (a b : Bool) → a || b ≡ true → b ≡ false → a ≡ true
      or_left true b e f = refl
      or_left false b e f = absurd (cc (sym f ∙ e))

      by_told : (other : Mark) (b : Bool) → same_mark mark other ≡ b → list_any (same_mark other) marks || same_mark other mark ≡ true → IsFramed frames (said.Frame mark payload ∷ trace) other
      by_told other true e told = record {
        payload = payload;
        told = ap (λ (b : Bool). option_or (if b then Some payload else None) (payload_at trace other)) e;
        made = ap (payload_of frames) (sym ((same_mark-Decides mark other).0 e)) ∙ made;
      }
      by_told other false e told =
          let f = k.framed other (or_left (list_any (same_mark other) marks) (same_mark other mark) told (turned other mark false e)) in
          record {
            payload = f.payload;
            told = ap (λ (b : Bool). option_or (if b then Some payload else None) (payload_at trace other)) e ∙ f.told;
            made = f.made;
          }
