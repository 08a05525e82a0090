-- a line without breach is clean

use Rattle.std.proofs.Common.{◌≡◌, ◌≢◌, ◌∙◌, ℕ, Bool, true, false, not, cond, ◌&&◌, ◌||◌, is_some, List, [], ◌∷◌, Option, None, Some, Ok, All, refl, sym, ap, subst, zero, suc, arith}
use Rattle.std.proofs.lemmas.Bool.{and_from}
use Rattle.std.specs.List.{list_any}
use Rattle.std.specs.Option.{option_map_or}
use Rattle.net_types.specs.declared.channel.Channel.{Channel}
use Rattle.net_types.specs.declared.number.Mark.{Mark}
use Rattle.net_types.specs.Label.{is_label_channel}
use Rattle.ipv4_packet.specs.declared.flow.FlowId.{FlowId}
use Rattle.ipv4_packet.specs.Flow.{next_hop_of}
use Rattle.ipv4_packet.specs.Packet.{canonical}
use Rattle.flow_encaps.specs.declared.default.EncapsFault.{EncapsFault}
use Rattle.flow_encaps.specs.Labelled.{rebuilt, unwrap_fault}
use Rattle.flow_encaps.specs.Unwrapped.{unwrapped, unwrapped_by}
use Rattle.link_model.specs.Ledger.{same_mark}
use Rattle.link_model.proofs.Marks.{same_mark-Decides}
use Rattle.trace_model.specs.declared.cell.Taken.{Taken}
use Rattle.trace_model.specs.declared.cell.TraceCell.{TraceCell}
use Rattle.trace_model.specs.declared.end.TraceEnd.{TraceEnd}
use Rattle.trace_model.specs.declared.end.TraceLabel.{TraceLabel}
use Rattle.trace_model.specs.declared.line.TraceLine.{TraceLine}
use Rattle.trace_model.specs.declared.line.TraceLine.TheVariants.{Link, Take, Lost, Frame, Put, Bind, End}
use Rattle.trace_model.specs.declared.refusal.TraceRefusal.{TraceRefusal}
use Rattle.trace_model.specs.declared.verdict.Breach.{Breach}
use Rattle.trace_model.specs.declared.verdict.Breach.TheVariants as breach
use Rattle.trace_model.specs.declared.verdict.Step.TheVariants.{Good}
use Rattle.trace_model.specs.Ends.{same_channel, same_label}
use Rattle.trace_model.specs.Trace.{Trace, peer_of, queue_of, payload_at, first_put}
use Rattle.trace_model.specs.Known.{known}
use Rattle.trace_model.specs.Judgement.{judged, judged_by, breach_of, labelled_breach, stands_on, is_at_node, is_elsewhere, is_switched_from, is_flow as is_flow_of, is_next_hop, misses_hop, misses_hop_from, queue_towards}
use Rattle.law_trace.specs.Meaning.{HasNoCells, flow_of_cell, IsSwitched, IsNextHop, IsCleanPut, IsClean}
use Rattle.trace_model.proofs.Same.{same_node-is, same_channel-is, is_label, is_flow}

-- a good line has no breach
pub no_breach : (refusal : Option TraceRefusal) (found : Option Breach) → judged_by refusal found ≡ Ok Good → found ≡ None
no_breach None None e = refl
no_breach None (Some found) e = absurd (cc e)
no_breach (Some refusal) found e = absurd (cc e)

-- *An unused label*
none_stands : (channel : Channel) (cells : List TraceCell) → list_any (stands_on channel) cells ≡ false → All (λ (cell : TraceCell). cell.channel ≢ channel) cells
none_stands channel [] e = λ k d within. absurd (omega arith)
none_stands channel (cell ∷ cells) e = by (same_channel cell.channel channel) refl e (none_stands channel cells) where
  by : (b : Bool) → same_channel cell.channel channel ≡ b → b || list_any (stands_on channel) cells ≡ false
      → (list_any (stands_on channel) cells ≡ false → All (λ (c : TraceCell). c.channel ≢ channel) cells) → All (λ (c : TraceCell). c.channel ≢ channel) (cell ∷ cells)
  by true s h others k d within = absurd (cc h)
  by false s h others zero d within = λ same. let never : ⊥ = cc (sym s ∙ same_channel-is cell.channel channel same) in never
  by false s h others (suc k) d within = others h k d (omega arith)

not_reused : (b : Bool) → cond b (Some breach.Reuse) None ≡ None → b ≡ false
not_reused true e = absurd (cc e)
not_reused false e = refl

unused : (before : Trace) (label : TraceLabel) (flow : FlowId) → breach_of (known before) (Bind label flow) ≡ None → HasNoCells before label
unused before label flow e from peer =
    let none = not_reused (list_any (stands_on label.channel) (queue_towards (known before) label.end)) e in
    none_stands label.channel (queue_of before from)
    (subst (λ (p : Option TraceEnd). list_any (stands_on label.channel) (option_map_or (queue_of before) p []) ≡ false) peer none)

-- *A switched cell*
at_node : (end peer : TraceEnd) (found : Option TraceEnd) → found ≡ Some peer → peer.node ≡ end.node → is_at_node end found ≡ true
at_node end peer found is same = subst (λ (p : Option TraceEnd). is_at_node end p ≡ true) (sym is) (same_node-is peer.node end.node same)

elsewhere : (place first : TraceLabel) (found : Option TraceLabel) → found ≡ Some first → first ≢ place → is_elsewhere place found ≡ true
elsewhere place first found is other = subst (λ (p : Option TraceLabel). is_elsewhere place p ≡ true) (sym is) (by (same_label first place) refl) where
  by : (b : Bool) → same_label first place ≡ b → not b ≡ true
  by true s = absurd (other (is_label first place s))
  by false s = refl

switched : (before : Trace) (place : TraceLabel) (mark : Mark) (taken : Taken) → IsSwitched before place mark taken → is_switched_from (known before) place mark taken ≡ true
switched before place mark taken is =
    let mark_same = (same_mark-Decides taken.cell.mark mark).1 is.same_mark in
    let node = at_node place.end is.peer (peer_of before taken.end) is.is_peer is.same_node in
    let first = elsewhere place is.first (first_put before mark) is.is_first is.elsewhere in
    and_from (same_mark taken.cell.mark mark && is_label_channel taken.cell.channel) (is_at_node place.end (peer_of before taken.end) && is_elsewhere place (first_put before mark))
    (and_from (same_mark taken.cell.mark mark) (is_label_channel taken.cell.channel) mark_same is.on_label)
    (and_from (is_at_node place.end (peer_of before taken.end)) (is_elsewhere place (first_put before mark)) node first)

meets : (switched hop : Bool) → switched ≡ true → switched && not hop ≡ false → hop ≡ true
meets true true s e = refl
meets true false s e = absurd (cc e)
meets false hop s e = absurd (cc s)

hop : (before : Trace) (place : TraceLabel) (taken : Taken) (flow : FlowId) → flow_of_cell before place ≡ Some flow
    → (found : Option FlowId) → flow_of_cell before (record { end = taken.end; channel = taken.cell.channel }) ≡ found → is_next_hop found flow ≡ true → IsNextHop before place taken
hop before place taken flow bound None is e = absurd (cc e)
hop before place taken flow bound (Some came) is e = by (next_hop_of came) refl e where
  by : (next : Option FlowId) → next_hop_of came ≡ next → is_flow_of flow next ≡ true → IsNextHop before place taken
  by None n h = absurd (cc h)
  by (Some next) n h = record {
    came = came;
    flow = flow;
    is_came = is;
    is_flow = bound;
    is_next = n ∙ ap (λ (f : FlowId). Some f) (is_flow next flow h);
  }

goes_on : (before : Trace) (place : TraceLabel) (mark : Mark) (flow : FlowId) → flow_of_cell before place ≡ Some flow → misses_hop (known before) place mark flow ≡ false
    → (taken : Taken) → IsSwitched before place mark taken → IsNextHop before place taken
goes_on before place mark flow bound misses taken is =
    let from = flow_of_cell before (record { end = taken.end; channel = taken.cell.channel }) in
    let kept : misses_hop_from (known before) place mark flow taken ≡ false =
    subst (λ (t : Option Taken). option_map_or (misses_hop_from (known before) place mark flow) t false ≡ false) is.is_taken misses in
    hop before place taken flow bound from refl
    (meets (is_switched_from (known before) place mark taken) (is_next_hop from flow) (switched before place mark taken is) kept)

-- *A cell on a label's channel*
opened : (flow : FlowId) (payload : List ℕ) → unwrap_fault flow payload ≡ None → unwrapped flow payload ≡ Ok (canonical (rebuilt flow payload))
unfolding unwrapped
opened flow payload none = ap (unwrapped_by flow payload) none

labelled : (before : Trace) (place : TraceLabel) (mark : Mark) (payload : Option (List ℕ)) (flow : Option FlowId) → payload_at before mark ≡ payload → flow_of_cell before place ≡ flow
    → labelled_breach (known before) place mark payload flow ≡ None → IsCleanPut before place mark
labelled before place mark None flow p f e = absurd (cc e)
labelled before place mark (Some payload) None p f e = absurd (cc e)
labelled before place mark (Some payload) (Some flow) p f e = by (unwrap_fault flow payload) refl (misses_hop (known before) place mark flow) refl e where
  by : (fault : Option EncapsFault) → unwrap_fault flow payload ≡ fault → (misses : Bool) → misses_hop (known before) place mark flow ≡ misses
      → cond (is_some fault) (Some breach.Flow) (cond misses (Some breach.Hop) None) ≡ None → IsCleanPut before place mark
  by (Some fault) u misses m h = absurd (cc h)
  by None u true m h = absurd (cc h)
  by None u false m h = record {
    labelled = record {
      payload = payload;
      flow = flow;
      packet = canonical (rebuilt flow payload);
      is_framed = p;
      is_bound = f;
      is_packet = opened flow payload u;
    };
    switched = goes_on before place mark flow f m;
  }

clean_put : (before : Trace) (place : TraceLabel) (mark : Mark) → breach_of (known before) (Put place mark) ≡ None → is_label_channel place.channel ≡ true → IsCleanPut before place mark
clean_put before place mark e is =
    labelled before place mark (payload_at before mark) (flow_of_cell before place) refl refl
    (subst (λ (b : Bool). cond b (labelled_breach (known before) place mark (payload_at before mark) (flow_of_cell before place)) None ≡ None) is e)

-- *Each line*
pub clean : (before : Trace) (line : TraceLine) → judged (known before) line ≡ Ok Good → IsClean before line
clean before (Put place mark) e = clean_put before place mark (no_breach _ _ e)
clean before (Bind label flow) e = unused before label flow (no_breach _ _ e)
clean before (Link first second) e = tt
clean before (Take end) e = tt
clean before (Lost end) e = tt
clean before (Frame mark payload) e = tt
clean before End e = tt
