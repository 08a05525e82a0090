-- the lines of bindings

use Rattle.std.proofs.Common.{◌≡◌, ◌≢◌, ℕ, ◌+◌, ◌*◌, ◌/◌, ◌%◌, ◌<◌, ◌==◌, ◌&&◌, ◌||◌, Bool, true, false, nat_lt, nat_le, List, [], ◌∷◌, ◌++◌, map, flat_map, Option, None, Some, Ok, refl, sym, ◌∙◌, ap, ap₂, subst, arith, append_assoc, append-nil, is_some, eqb-true, if◌then◌else◌}
use Rattle.std.specs.List.{list_any}
use Rattle.std.specs.Option.{option_or, option_map_or}
use Rattle.std.proofs.lemmas.Bool.{and_parts}
use Rattle.std.proofs.lemmas.Bool.Decides.{nat_tests}
use Rattle.std.proofs.lemmas.List.Concat.{flat_map-cons}
use Rattle.world_model.specs.Words.{Channel, NodeId, PortNo, Mark, is_label_channel, number_of_channel, label_channel_of, Cell, FlowId, Frame, Record, IsTopology, bound_by, last_bound, Topology}
use Rattle.world_model.specs.link_model.declared.record.Record.TheVariants as records
use Rattle.trace_model.specs.declared.end.TraceEnd.{TraceEnd}
use Rattle.trace_model.specs.declared.line.TraceLine.{TraceLine}
use Rattle.trace_model.specs.declared.verdict.Breach.TheVariants as breach
use Rattle.trace_model.specs.declared.verdict.Step.TheVariants.{Good}
use Rattle.trace_model.specs.Ends.{same_channel}
use Rattle.trace_model.specs.Judgement.{judged, stands_on}
use Rattle.trace_model.specs.Known.{known}
use Rattle.trace_model.specs.Trace.{Trace, queue_of}
use Rattle.world_model.specs.network_model.declared.link.LinkEnd.{LinkEnd}
use Rattle.world_model.specs.Topology.{peer_of}
use Rattle.law_run_facts.proofs.Frames.{bound_then}
use Rattle.tell_trace.specs.Passages.{Bound, line_said, end_said}
use Rattle.tell_trace.specs.Trace.{port_end, bind_told}
use Rattle.law_running_worlds.proofs.law_causes.Shown.{peer_back}
use Rattle.law_passing.specs.ordered_lists.Ordered.{Every}
use Rattle.law_run_facts.proofs.law_port_facts.Keyed.{by_eq}
use Rattle.law_trace_truth.specs.Law.{HasNames}
use Rattle.law_trace_truth.proofs.Lines.{queue_is, holds_beside, is_good, allowed}
use Rattle.law_trace_truth.proofs.Ends.{same_said}
use Rattle.law_trace_truth.proofs.Knows.{Knows, IsPortEnd, cell_said, Tells, tells_none, tells_more, tells_then, linked_far}

-- *A label's channel* and its number
label_is : (number : ℕ) (channel : Channel) → is_label_channel channel ≡ true → same_channel (label_channel_of number) channel ≡ (number == number_of_channel channel)
label_is number channel label = by_eq number (number_of_channel channel)
    (λ same t. here channel.vpi channel.vci low same ∙ sym t)
    (λ away t. there channel.vpi channel.vci low away ∙ sym t)
  where
    low : channel.vci < 1024
    low = (let parts = (and_parts (nat_le 32 channel.vci) (nat_lt channel.vci 1024) (and_parts (nat_lt channel.vpi 16) (nat_le 32 channel.vci && nat_lt channel.vci 1024) label).1).1 in grind (arith, nat_tests, parts))

    here : (vpi vci : ℕ) → vci < 1024 → number ≡ vpi * 1024 + vci → (number / 1024 == vpi) && (number % 1024 == vci) ≡ true
    here vpi vci less e =
        let first : number / 1024 ≡ vpi = omega (arith, less, e) in
        let second : number % 1024 ≡ vci = omega (arith, less, e) in
        let one : (number / 1024 == vpi) ≡ true = grind (arith, nat_tests, first) in
        let two : (number % 1024 == vci) ≡ true = grind (arith, nat_tests, second) in
        rw (one, two) refl

    there : (vpi vci : ℕ) → vci < 1024 → number ≢ vpi * 1024 + vci → (number / 1024 == vpi) && (number % 1024 == vci) ≡ false
    there vpi vci less away = by ((number / 1024 == vpi) && (number % 1024 == vci)) refl
      where
        by : (b : Bool) → (number / 1024 == vpi) && (number % 1024 == vci) ≡ b → b ≡ false
        by false e = refl
        by true e =
            let parts = and_parts (number / 1024 == vpi) (number % 1024 == vci) e in
            let first : number / 1024 ≡ vpi = eqb-true (number / 1024) vpi parts.0 in
            let second : number % 1024 ≡ vci = eqb-true (number % 1024) vci parts.1 in
            let same : number ≡ vpi * 1024 + vci = omega (arith, first, second) in
            absurd (away same)

-- no cell stands on the channel
abbrev pub AreOff : Channel → List Cell → Type 0
AreOff channel cells = Every (λ (cell : Cell). cell.header.channel ≢ channel) cells

none_on : (channel : Channel) (cells : List Cell) → AreOff channel cells → list_any (stands_on channel) (map cell_said cells) ≡ false
none_on channel [] off = refl
none_on channel (cell ∷ cells) off = ap₂ (λ (a b : Bool). a || b) (apart (same_channel cell.header.channel channel) refl) (none_on channel cells off.1)
  where
    apart : (b : Bool) → same_channel cell.header.channel channel ≡ b → same_channel cell.header.channel channel ≡ false
    apart false e = e
    apart true e =
        let parts = and_parts (cell.header.channel.vpi == channel.vpi) (cell.header.channel.vci == channel.vci) e in
        let vpi = eqb-true cell.header.channel.vpi channel.vpi parts.0 in
        let vci = eqb-true cell.header.channel.vci channel.vci parts.1 in
        absurd (off.0 (λ i. record { vpi = vpi i; vci = vci i }))

module _ (topology : Topology) (is : IsTopology topology) (names : HasNames topology) (queues : LinkEnd → List Cell) (frames : List Frame) (marks : List Mark) where
  -- *A binding* of a label of a linked port, of which no cell is on its way
  abbrev pub IsGoodBind : Record → Type 0
  IsGoodBind (records.Bind node port label flow) =
      IsPortEnd topology (port_end node port)
      × ((far : LinkEnd) → peer_of topology node port ≡ Some far → AreOff (label_channel_of label) (queues far))
  IsGoodBind item = Unit {0}

  bind_line : (before : List Record) (trace : Trace) (node : NodeId) (port : PortNo) (label : ℕ) (flow : FlowId) → IsGoodBind (records.Bind node port label flow)
      → Knows topology queues before frames marks trace
      → (judged (known trace) (line_said topology (Bound (port_end node port) (label_channel_of label) flow)) ≡ Ok Good)
      × Knows topology queues (before ++ records.Bind node port label flow ∷ []) frames marks (line_said topology (Bound (port_end node port) (label_channel_of label) flow) ∷ trace)
  bind_line before trace node port label flow good k =
      let far = linked_far topology is names end good.0 in
      let peer = k.peers end far.0 good.0.0 far.1 in
      let back = peer_back topology is end far.0 far.1 in
      let there : IsPortEnd topology far.0 = (back.node, ap is_some back.back) in (
        is_good trace line (allowed trace line (end_said topology end) (end_said topology far.0) refl refl k.unended peer)
            (ap (λ (b : Bool). if b then Some breach.Reuse else None)
            (ap (λ (o : Option TraceEnd). list_any (stands_on (label_channel_of label)) (option_map_or (queue_of trace) o [])) peer
            ∙ ap (list_any (stands_on (label_channel_of label))) (queue_is trace (end_said topology far.0) (map cell_said (queues far.0)) (k.queue far.0 there))
            ∙ none_on (label_channel_of label) (queues far.0) (good.1 far.0 far.1))),
        record {
          peers = k.peers;
          queue = λ other here. holds_beside trace line (end_said topology other) (map cell_said (queues other)) refl refl (k.queue other here);
          flow = λ other channel here is_label.
              ap₂ (λ (b : Bool) (o : Option FlowId). option_or (if b then Some flow else None) o)
              (ap₂ (λ (a b : Bool). a && b) (same_said topology is names end other good.0.0 here) (label_is label channel is_label) ∙ and_assoc (node.0 == other.node.0) (port.0 == other.port.0) (label == number_of_channel channel))
              (k.flow other channel here is_label)
              ∙ sym (bound_then before (records.Bind node port label flow ∷ []) other (number_of_channel channel));
          framed = λ mark told. (let f = k.framed mark told in record { payload = f.payload; told = f.told; made = f.made });
          unframed = k.unframed;
          unended = k.unended;
        },
      )
    where
      end : LinkEnd
      end = port_end node port

      line : TraceLine
      line = line_said topology (Bound end (label_channel_of label) flow)

      and_assoc : (a b c : Bool) → (a && b) && c ≡ a && (b && c)
      and_assoc true b c = refl
      and_assoc false b c = refl

  -- a record that binds nothing
  beside : (before : List Record) (trace : Trace) (item : Record) → ((end : LinkEnd) (label : ℕ) → bound_by end label item ≡ None) → Knows topology queues before frames marks trace
      → Knows topology queues (before ++ item ∷ []) frames marks trace
  beside before trace item none k = record {
    peers = k.peers;
    queue = k.queue;
    flow = λ end channel there label. k.flow end channel there label
        ∙ sym (bound_then before (item ∷ []) end (number_of_channel channel) ∙ ap (λ (o : Option FlowId). option_or o (last_bound before end (number_of_channel channel))) (none end (number_of_channel channel)));
    framed = k.framed;
    unframed = k.unframed;
    unended = k.unended;
  }

  abbrev Noted : List Record → Trace → Record → Type 0
  Noted before trace item = Tells topology (Knows topology queues (before ++ item ∷ []) frames marks) trace (bind_told item)

  quiet : (before : List Record) (trace : Trace) (item : Record) → ((end : LinkEnd) (label : ℕ) → bound_by end label item ≡ None) → Knows topology queues before frames marks trace
      → Tells topology (Knows topology queues (before ++ item ∷ []) frames marks) trace []
  quiet before trace item none k = tells_none topology (Knows topology queues (before ++ item ∷ []) frames marks) trace (beside before trace item none k)

  one_record : (before : List Record) (trace : Trace) (item : Record) → IsGoodBind item → Knows topology queues before frames marks trace → Noted before trace item
  one_record before trace (records.Bind node port label flow) good k =
      let line = bind_line before trace node port label flow good k in
      tells_more topology (Knows topology queues (before ++ records.Bind node port label flow ∷ []) frames marks) trace (Bound (port_end node port) (label_channel_of label) flow) [] line.0
      (tells_none topology (Knows topology queues (before ++ records.Bind node port label flow ∷ []) frames marks) (line_said topology (Bound (port_end node port) (label_channel_of label) flow) ∷ trace) line.1)
  one_record before trace (records.Delivered node packet octets) good k = quiet before trace (records.Delivered node packet octets) (λ e l. refl) k
  one_record before trace (records.Dropped node packet cause) good k = quiet before trace (records.Dropped node packet cause) (λ e l. refl) k
  one_record before trace (records.Refused node packet name) good k = quiet before trace (records.Refused node packet name) (λ e l. refl) k
  one_record before trace (records.Loss mark cause) good k = quiet before trace (records.Loss mark cause) (λ e l. refl) k
  one_record before trace (records.Chance mark) good k = quiet before trace (records.Chance mark) (λ e l. refl) k
  one_record before trace (records.Bad node layer name) good k = quiet before trace (records.Bad node layer name) (λ e l. refl) k
  one_record before trace (records.Opened node port) good k = quiet before trace (records.Opened node port) (λ e l. refl) k
  one_record before trace (records.Closed node port) good k = quiet before trace (records.Closed node port) (λ e l. refl) k
  one_record before trace (records.Free node port vci) good k = quiet before trace (records.Free node port vci) (λ e l. refl) k
  one_record before trace (records.Join node port vci to_port to_vci) good k = quiet before trace (records.Join node port vci to_port to_vci) (λ e l. refl) k
  one_record before trace (records.Part node port vci) good k = quiet before trace (records.Part node port vci) (λ e l. refl) k
  one_record before trace (records.Routes node changes) good k = quiet before trace (records.Routes node changes) (λ e l. refl) k
  one_record before trace (records.Forged place) good k = quiet before trace (records.Forged place) (λ e l. refl) k

  -- *The records of an event*, in order
  pub bind_lines : (before : List Record) (trace : Trace) (items : List Record) → Every IsGoodBind items → Knows topology queues before frames marks trace
      → Tells topology (Knows topology queues (before ++ items) frames marks) trace (flat_map bind_told items)
  bind_lines before trace [] good k = tells_none topology (Knows topology queues (before ++ []) frames marks) trace (subst (λ (rs : List Record). Knows topology queues rs frames marks trace) (sym (append-nil before)) k)
  bind_lines before trace (item ∷ items) good k =
      subst (Tells topology (Knows topology queues (before ++ item ∷ items) frames marks) trace) (sym (flat_map-cons bind_told item items))
      (tells_then topology (Knows topology queues (before ++ item ∷ []) frames marks) (Knows topology queues (before ++ item ∷ items) frames marks) trace (bind_told item) (flat_map bind_told items)
      (one_record before trace item good.0 k)
      (λ behind h. subst (λ (rs : List Record). Tells topology (Knows topology queues rs frames marks) behind (flat_map bind_told items)) (append_assoc before (item ∷ []) items)
      (bind_lines (before ++ item ∷ []) behind items good.1 h)))
