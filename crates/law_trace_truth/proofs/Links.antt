-- the lines of links, with which a trace begins

use Rattle.std.proofs.Common.{◌≡◌, ◌==◌, ◌&&◌, ◌||◌, Bool, true, false, List, [], ◌∷◌, ◌++◌, length, map, Option, None, Some, Ok, refl, sym, ◌∙◌, ap, ap₂, subst, append_assoc, append-nil, is_some, if◌then◌else◌}
use Rattle.std.specs.Prelude.{slice_get}
use Rattle.std.specs.Option.{option_or, option_map}
use Rattle.world_model.specs.Words.{Mark, Frame, IsTopology, IsLink, IsNode, Topology, Link, peer_on, peer_among, same_link_end}
use Rattle.trace_model.specs.declared.end.TraceEnd.{TraceEnd}
use Rattle.trace_model.specs.declared.end.TraceLabel.{TraceLabel}
use Rattle.trace_model.specs.declared.line.TraceLine.{TraceLine}
use Rattle.trace_model.specs.declared.line.TraceLine.TheVariants as said
use Rattle.trace_model.specs.declared.refusal.TraceRefusal.TheVariants.{Late, PortTaken, SelfLink}
use Rattle.trace_model.specs.declared.verdict.Step.TheVariants.{Good}
use Rattle.trace_model.specs.Ends.{same_end}
use Rattle.trace_model.specs.Judgement.{judged, refusal_of}
use Rattle.trace_model.specs.Known.{known}
use Rattle.trace_model.specs.Trace as traces
use Rattle.trace_model.specs.Trace.{Trace, flow_at, payload_at, first_put, has_ended, has_begun, taken_last}
use Rattle.world_model.specs.network_model.declared.link.LinkEnd.{LinkEnd}
use Rattle.tell_trace.specs.Passages.{Linked, line_said, end_said}
use Rattle.law_trace_truth.specs.Law.{HasNames, HasLinksOnce}
use Rattle.law_trace_truth.proofs.Lines.{Holds, holds_none, holds_beside, is_good}
use Rattle.law_trace_truth.proofs.Ends.{all_got, ends_are, same_said}
use Rattle.law_trace_truth.proofs.Knows.{Knows, Tells, tells_none, tells_more, tells_as}

got_here : {A : Type 0} (xs ys : List A) (x : A) → slice_get (xs ++ x ∷ ys) (length xs) ≡ Some x
got_here [] ys x = refl
got_here (y ∷ xs) ys x = got_here xs ys x

among_push : (end : LinkEnd) (links : List Link) (link : Link) → peer_among end (links ++ link ∷ []) ≡ option_or (peer_among end links) (peer_on end link)
among_push end [] link = or_none (peer_on end link)
  where
    or_none : (o : Option LinkEnd) → option_or o None ≡ o
    or_none None = refl
    or_none (Some x) = refl
among_push end (l ∷ links) link = ap (option_or (peer_on end l)) (among_push end links link) ∙ sym (both (peer_on end l) (peer_among end links) (peer_on end link))
  where
    both : (o p q : Option LinkEnd) → option_or (option_or o p) q ≡ option_or o (option_or p q)
    both None p q = refl
    both (Some x) p q = refl

module _ (topology : Topology) (is : IsTopology topology) (names : HasNames topology) (once : HasLinksOnce topology) where
  -- *Behind some links* these are known, and nothing else is
  record AreLinked (links : List Link) (trace : Trace) : Type 0 where
    pub peers : (end : LinkEnd) → IsNode topology end.node → traces.peer_of trace (end_said topology end) ≡ option_map (end_said topology) (peer_among end links)
    pub queue : (at : TraceEnd) → Holds trace at []
    pub flow : (at : TraceLabel) → flow_at trace at ≡ None
    pub payload : (mark : Mark) → payload_at trace mark ≡ None
    pub first : (mark : Mark) → first_put trace mark ≡ None
    pub untaken : taken_last trace ≡ None
    pub unended : has_ended trace ≡ false
    pub unbegun : has_begun trace ≡ false

  link_line : (links later : List Link) (link : Link) (trace : Trace) → topology.links ≡ links ++ link ∷ later → AreLinked links trace
      → (judged (known trace) (line_said topology (Linked link.first link.second)) ≡ Ok Good) × AreLinked (links ++ link ∷ []) (line_said topology (Linked link.first link.second) ∷ trace)
  link_line links later link trace split h = (
    is_good trace line (not_late ∙ placed) refl,
    record {
      peers = λ end there. by end there (same_link_end link.first end) (same_link_end link.second end) refl refl;
      queue = λ at. holds_beside trace line at [] refl refl (h.queue at);
      flow = h.flow;
      payload = h.payload;
      first = λ mark. ap (λ (o : Option TraceLabel). option_or o None) (h.first mark);
      untaken = refl;
      unended = h.unended;
      unbegun = h.unbegun;
    },
  )
    where
      line : TraceLine
      line = said.Link (end_said topology link.first) (end_said topology link.second)

      of_topology : IsLink topology link
      of_topology = all_got (IsLink topology) topology.links (length links) link is.links (ap (λ (ls : List Link). slice_get ls (length links)) split ∙ got_here links later link)

      free : (peer_among link.first links ≡ None) × (peer_among link.second links ≡ None)
      free = once links later link split

      not_late : refusal_of (known trace) line ≡ (if is_some (traces.peer_of trace (end_said topology link.first)) || is_some (traces.peer_of trace (end_said topology link.second)) then Some PortTaken
          else if same_end (end_said topology link.first) (end_said topology link.second) then Some SelfLink else None)
      not_late = ap₂ (λ (ended begun : Bool). if ended || (true && begun) then Some Late
          else (if is_some (traces.peer_of trace (end_said topology link.first)) || is_some (traces.peer_of trace (end_said topology link.second)) then Some PortTaken
          else if same_end (end_said topology link.first) (end_said topology link.second) then Some SelfLink else None)) h.unended h.unbegun

      apart : same_link_end link.first link.second ≡ false
      apart = ap (λ (b : Bool). b && (link.first.port.0 == link.second.port.0)) of_topology.apart

      placed : (if is_some (traces.peer_of trace (end_said topology link.first)) || is_some (traces.peer_of trace (end_said topology link.second)) then Some PortTaken
          else if same_end (end_said topology link.first) (end_said topology link.second) then Some SelfLink else None) ≡ None
      placed =
          let first = h.peers link.first of_topology.first.0 ∙ ap (option_map (end_said topology)) free.0 in
          let second = h.peers link.second of_topology.second.0 ∙ ap (option_map (end_said topology)) free.1 in
          ap₂ (λ (o p : Option TraceEnd). if is_some o || is_some p then Some PortTaken else if same_end (end_said topology link.first) (end_said topology link.second) then Some SelfLink else None) first second
          ∙ ap (λ (b : Bool). if b then Some SelfLink else None) (same_said topology is names link.first link.second of_topology.first.0 of_topology.second.0 ∙ apart)

      -- which of its ends the port is
      other : (end : LinkEnd) → IsNode topology end.node → traces.other_end (end_said topology end) line
          ≡ (if same_link_end link.second end then Some (end_said topology link.first) else if same_link_end link.first end then Some (end_said topology link.second) else None)
      other end there = ap₂ (λ (a b : Bool). if a then Some (end_said topology link.first) else if b then Some (end_said topology link.second) else None)
          (same_said topology is names link.second end of_topology.second.0 there) (same_said topology is names link.first end of_topology.first.0 there)

      or_nothing : (o : Option LinkEnd) → o ≡ option_or o None
      or_nothing None = refl
      or_nothing (Some x) = refl

      by : (end : LinkEnd) → IsNode topology end.node → (a b : Bool) → same_link_end link.first end ≡ a → same_link_end link.second end ≡ b
          → traces.peer_of (line ∷ trace) (end_said topology end) ≡ option_map (end_said topology) (peer_among end (links ++ link ∷ []))
      by end there true true e f = absurd (cc (sym apart ∙ (ap (λ (x : LinkEnd). same_link_end link.first x) (ends_are link.second end f) ∙ e)))
      by end there true false e f =
          ap (λ (o : Option TraceEnd). option_or o (traces.peer_of trace (end_said topology end))) (other end there ∙ ap₂ (λ (a b : Bool). if a then Some (end_said topology link.first) else if b then Some (end_said topology link.second) else None) f e)
          ∙ sym (ap (option_map (end_said topology)) (among_push end links link
          ∙ ap₂ (λ (o p : Option LinkEnd). option_or o p) (ap (λ (x : LinkEnd). peer_among x links) (sym (ends_are link.first end e)) ∙ free.0) (ap (λ (a : Bool). if a then Some link.second else (if same_link_end link.second end then Some link.first else None)) e)))
      by end there false true e f =
          ap (λ (o : Option TraceEnd). option_or o (traces.peer_of trace (end_said topology end))) (other end there ∙ ap₂ (λ (a b : Bool). if a then Some (end_said topology link.first) else if b then Some (end_said topology link.second) else None) f e)
          ∙ sym (ap (option_map (end_said topology)) (among_push end links link
          ∙ ap₂ (λ (o p : Option LinkEnd). option_or o p) (ap (λ (x : LinkEnd). peer_among x links) (sym (ends_are link.second end f)) ∙ free.1) (ap₂ (λ (a b : Bool). if a then Some link.second else (if b then Some link.first else None)) e f)))
      by end there false false e f =
          ap (λ (o : Option TraceEnd). option_or o (traces.peer_of trace (end_said topology end))) (other end there ∙ ap₂ (λ (a b : Bool). if a then Some (end_said topology link.first) else if b then Some (end_said topology link.second) else None) f e)
          ∙ h.peers end there
          ∙ ap (option_map (end_said topology)) (or_nothing (peer_among end links)
          ∙ sym (among_push end links link ∙ ap (option_or (peer_among end links)) (ap₂ (λ (a b : Bool). if a then Some link.second else (if b then Some link.first else None)) e f)))

  -- *All of them*
  link_lines : (links later : List Link) (trace : Trace) → topology.links ≡ links ++ later → AreLinked links trace
      → Tells topology (AreLinked topology.links) trace (map (λ (link : Link). Linked link.first link.second) later)
  link_lines links [] trace split h = tells_none topology (AreLinked topology.links) trace (subst (λ (ls : List Link). AreLinked ls trace) (sym (split ∙ append-nil links)) h)
  link_lines links (link ∷ later) trace split h =
      let line = link_line links later link trace split h in
      tells_more topology (AreLinked topology.links) trace (Linked link.first link.second) (map (λ (link : Link). Linked link.first link.second) later) line.0
      (link_lines (links ++ link ∷ []) later (line_said topology (Linked link.first link.second) ∷ trace) (split ∙ sym (append_assoc links (link ∷ []) later)) line.1)

  -- what is known behind them of a network whose queues are empty
  pub record IsBegun (frames : List Frame) (trace : Trace) : Type 0 where
    pub knows : Knows topology (λ end. []) [] frames [] trace
    pub first : (mark : Mark) → first_put trace mark ≡ None
    pub untaken : taken_last trace ≡ None

  pub links_told_first : (frames : List Frame) → Tells topology (IsBegun frames) [] (map (λ (link : Link). Linked link.first link.second) topology.links)
  links_told_first frames =
      tells_as topology (AreLinked topology.links) (IsBegun frames) [] (map (λ (link : Link). Linked link.first link.second) topology.links)
      (λ trace h. record {
        knows = record {
          peers = λ end far there peer. h.peers end there ∙ ap (option_map (end_said topology)) peer;
          queue = λ end there. h.queue (end_said topology end);
          flow = λ end channel there label. h.flow _;
          framed = λ mark none. absurd (cc none);
          unframed = λ mark none. h.payload mark;
          unended = h.unended;
        };
        first = h.first;
        untaken = h.untaken;
      })
      (link_lines [] topology.links [] refl (record {
        peers = λ end there. refl;
        queue = λ at. holds_none at;
        flow = λ at. refl;
        payload = λ mark. refl;
        first = λ mark. refl;
        untaken = refl;
        unended = refl;
        unbegun = refl;
      }))
