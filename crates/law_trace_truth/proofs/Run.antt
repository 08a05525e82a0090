-- the trace of every run is good: event by event, what it knows is so of the network

use Rattle.std.proofs.Common.{◌≡◌, ◌≢◌, inl, Bool, true, false, List, [], ◌∷◌, ◌++◌, map, append_assoc, append-nil, None, refl, sym, ◌∙◌, ap, subst, arith}
use Rattle.std.specs.Prelude.{◌||◌, Contains}
use Rattle.std.specs.List.{list_any}
use Rattle.world_model.specs.Words.{NodeId, Down, Out, Mark, is_label_channel, Cell, Frame, Record, Policy, on_link, IsTopology, IsNode, is_wild, IsRun, IsTame, Past, past_of, frames_of, queue_at, next, Topology, World}
use Rattle.law_passing.specs.ordered_lists.Ordered.{Every}
use Rattle.law_packet_worlds.proofs.Nets.{world_net}
use Rattle.law_packet_worlds.proofs.Opening.{no_cells}
use Rattle.law_packet_worlds.proofs.Worlds.{IsNet}
use Rattle.law_run_facts.specs.Nodes.{RunsHaveNodes, RunsKeepNodes}
use Rattle.law_run_facts.specs.Steps.{EventsAreSteps, FramesStay}
use Rattle.law_told_worlds.specs.Bound.{BindsAreWired}
use Rattle.law_passing.proofs.telling_model.Told.{opened_notes}
use Rattle.trace_model.specs.declared.line.TraceLine.{TraceLine}
use Rattle.trace_model.specs.declared.line.TraceLine.TheVariants as said
use Rattle.trace_model.specs.Trace.{Trace, first_put, has_ended}
use Rattle.law_true_runs.proofs.Fronts.{front_run}
use Rattle.law_true_runs.proofs.Walk.{holds_at, comes_at}
use Rattle.law_true_runs.specs.Runs.{IsWhole, HoldsInRuns, BindsUnusedInRuns}
use Rattle.world_model.specs.network_model.declared.event.Event.{Event}
use Rattle.world_model.specs.World.{opened}
use Rattle.law_run_facts.specs.law_world_views.Kept.{Comes, behind}
use Rattle.law_run_facts.specs.law_world_views.Fronts.{HasAddresses}
use Rattle.law_passing.specs.Law.{QueuesChangeByPassing, QueuesAreTheActors}
use Rattle.tell_trace.specs.Passages.{Passage, line_said}
use Rattle.tell_trace.specs.Trace.{Told, links_told, event_told}
use Rattle.law_trace_truth.specs.Told.{events_told, run_told, trace_told}
use Rattle.law_trace_truth.specs.Law.{AreGood, HasNames, HasLinksOnce, TracesAreGood}
use Rattle.law_trace_truth.proofs.Lines.{is_good, unrefused}
use Rattle.law_trace_truth.proofs.Links.{IsBegun, links_told_first}
use Rattle.law_trace_truth.proofs.Knows.{Knows, Tells, tells_none, tells_then, after_told, knows_alike}
use Rattle.law_trace_truth.proofs.Crossing.{puts_on}
use Rattle.law_trace_truth.proofs.Taking.{queues_of}
use Rattle.law_trace_truth.proofs.Event.{IsStepOf, KeepsHops, event_tells}
use Rattle.law_trace_truth.proofs.Hop.{IsFirstFrom, keeps_hops}
use Rattle.law_trace_truth.proofs.Sending.{IsMade}
use Rattle.law_trace_truth.proofs.Grown.{Grows, grows}
use Rattle.law_trace_truth.proofs.Firsts.{HasFirsts, firsts_kept}

-- *What the law stands on*
pub record StandsOn : Type 0 where
  pub whole : HoldsInRuns IsWhole
  pub nodes : RunsHaveNodes
  pub there : RunsKeepNodes
  pub steps : EventsAreSteps
  pub frames : FramesStay
  pub unused : BindsUnusedInRuns
  pub wired : BindsAreWired
  pub change : QueuesChangeByPassing
  pub actors : QueuesAreTheActors

none_behind : {X : Type 0} (test : X → Bool) (xs ys : List X) → list_any test (xs ++ ys) ≡ false → list_any test ys ≡ false
none_behind test [] ys h = h
none_behind test (x ∷ xs) ys h = none_behind test xs ys (by (test x) h)
  where
    by : (b : Bool) → (b || list_any test (xs ++ ys)) ≡ false → list_any test (xs ++ ys) ≡ false
    by true e = absurd (cc e)
    by false e = e

-- lines that are good, and what is good behind them
good_then : (topology : Topology) (trace : Trace) (passages : List Passage) (lines : List TraceLine) → AreGood trace (map (line_said topology) passages) → AreGood (after_told topology trace passages) lines
    → AreGood trace (map (line_said topology) passages ++ lines)
good_then topology trace [] lines first rest = rest
good_then topology trace (passage ∷ passages) lines first rest = (first.0, good_then topology (line_said topology passage ∷ trace) passages lines first.1 rest)

module _ (on : StandsOn) (policy : Policy) (topology : Topology) (is : IsTopology topology) (addresses : HasAddresses topology) (names : HasNames topology) (once : HasLinksOnce topology) where
  abbrev past : List Event → Past
  past events = past_of policy topology events

  -- *Known by now*
  record IsAt (events : List Event) (marks : List Mark) (trace : Trace) : Type 0 where
    pub knows : Knows topology (queues_of (past events).now) (past events).records (frames_of (past events)) marks trace
    pub firsts : HasFirsts topology (past events).now trace

  net : (events : List Event) → IsRun policy topology events → IsNet topology (past events).now
  net events run = world_net policy topology events (on.nodes policy topology events addresses run) (on.there policy topology events run)

  -- *An event of a run*
  module _ (before : List Event) (event : Event) (comes : Comes policy topology before event) (w : IsWhole (past before)) (v : IsWhole (behind policy topology before event)) (run : IsRun policy topology before) where
    abbrev later : Past
    later = behind policy topology before event

    records_are : later.records ≡ (past before).records ++ (next topology (past before).now event).notes.records
    records_are = (on.steps policy topology before event).records ∙ ap (λ (u : World). (past before).records ++ u.notes.records) (on.steps policy topology before event).now

    still_tame : IsTame (next topology (past before).now event).notes.records
    still_tame = none_behind is_wild (past before).records (next topology (past before).now event).notes.records (subst IsTame records_are comes.tame)

    step : IsStepOf policy topology (past before) later event
    step =
        let meant = (comes.run.each before [] event refl).meant in
        record {
          same_topology = refl;
          of_topology = refl;
          now = (on.steps policy topology before event).now;
          records = records_are;
          net = net before run;
          nodes = on.nodes policy topology before addresses run;
          meant = meant;
          on = puts_on topology is on.actors (past before).now (net before run) event meant still_tame;
          frames = on.frames policy topology before event comes w.world;
          meanings = v.world.meanings;
          unused = on.unused policy topology before event comes w;
          wired = on.wired policy topology before event comes w.world;
        }

    growing : Grows topology (past before).now event
    growing = grows topology is on.actors (past before) refl (net before run) w.world.numbers w.world.meanings w.world.packets event step.meant still_tame

    -- its lines are good
    one_event : (marks : List Mark) (trace : Trace) → IsAt before marks trace
        → Tells topology (IsAt (before ++ event ∷ []) (event_told marks topology (past before).now event).marks) trace (event_told marks topology (past before).now event).passages
    one_event marks trace h =
        let told : Told = event_told marks topology (past before).now event in
        let keep : KeepsHops topology (past before) (next topology (past before).now event) event trace =
        keeps_hops topology is names policy (past before) later event step w.world.shapes w.world.hops (frames_of (past before)) marks trace h.knows from_first in
        let t = event_tells topology is names on.change policy (past before) later event step marks trace h.knows keep in
        let f : HasFirsts topology (next topology (past before).now event) (after_told topology trace told.passages) =
        firsts_kept topology is names on.change policy (past before) later event step growing w.world.shapes w.world.meanings v.channels trace h.firsts marks in
        let now : next topology (past before).now event ≡ later.now = sym (on.steps policy topology before event).now in
        record {
          good = t.good;
          leads = record {
            knows = subst (λ (rs : List Record). Knows topology (queues_of later.now) rs (frames_of later) told.marks (after_told topology trace told.passages)) (sym records_are)
                (subst (λ (u : World). Knows topology (queues_of u) ((past before).records ++ (next topology (past before).now event).notes.records) u.notes.frames told.marks (after_told topology trace told.passages)) now t.leads);
            firsts = subst (λ (u : World). HasFirsts topology u (after_told topology trace told.passages)) now f;
          };
        }
      where
        from_first : (node : NodeId) (cell : Cell) (cells : List Cell) → IsNode topology node → queue_at (past before).now (Down node) ≡ cell ∷ cells → is_label_channel (on_link cell.header.channel) ≡ true
            → IsFirstFrom topology trace node cell
        from_first node cell cells there head home = h.firsts.from node there cell (subst (λ (q : List Cell). Contains q cell) (sym head) (0, omega arith, refl)) home

  -- *All events*
  abbrev IsWholeTrace : Trace → Type 0
  IsWholeTrace trace = has_ended trace ≡ false

  walk : (before after : List Event) → IsRun policy topology (before ++ after) → IsTame (past (before ++ after)).records → (marks : List Mark) (trace : Trace) → IsAt before marks trace
      → Tells topology IsWholeTrace trace (events_told topology marks (past before).now after)
  walk before [] run tame marks trace h = tells_none topology IsWholeTrace trace h.knows.unended
  walk before (event ∷ after) run tame marks trace h =
      let comes : Comes policy topology before event = comes_at policy topology addresses (before ++ event ∷ after) before after event run tame refl in
      let w : IsWhole (past before) = holds_at policy topology addresses IsWhole on.whole (before ++ event ∷ after) before (event ∷ after) run tame refl in
      let v : IsWhole (behind policy topology before event) = on.whole policy topology (before ++ event ∷ []) comes.run addresses comes.tame in
      let joined : (before ++ event ∷ []) ++ after ≡ before ++ event ∷ after = append_assoc before (event ∷ []) after in
      let front : IsRun policy topology before = front_run policy topology before (event ∷ after) run in
      let told : Told = event_told marks topology (past before).now event in
      tells_then topology (IsAt (before ++ event ∷ []) told.marks) IsWholeTrace trace told.passages (events_told topology told.marks (next topology (past before).now event) after)
      (one_event before event comes w v front marks trace h)
      (λ t k. subst (λ (u : World). Tells topology IsWholeTrace t (events_told topology told.marks u after)) (on.steps policy topology before event).now
      (walk (before ++ event ∷ []) after (subst (IsRun policy topology) (sym joined) run) (subst (λ (es : List Event). IsTame (past es).records) (sym joined) tame) told.marks t k))

  -- *The opening*
  begins : (trace : Trace) → IsBegun topology is names once [] trace → IsAt [] [] trace
  begins trace b = record {
    knows = subst (λ (rs : List Record). Knows topology (queues_of (opened policy topology)) rs (opened policy topology).notes.frames [] trace) (sym no_records)
        (subst (λ (fs : List Frame). Knows topology (queues_of (opened policy topology)) [] fs [] trace) (sym (ap (λ n. n.frames) (opened_notes policy topology)))
        (knows_alike topology is names (λ end. []) (queues_of (opened policy topology)) [] [] [] trace (λ end there. sym (no_cells policy topology (Out end.node end.port))) b.knows));
    firsts = record {
      made = λ mark. inl (b.first mark);
      links = λ end there. subst (Every (λ (c : Cell). (first_put trace c.mark ≢ None) × IsMade (opened policy topology).notes.frames c.mark)) (sym (no_cells policy topology (Out end.node end.port))) tt;
      homes = λ node there. subst (Every (λ (c : Cell). IsMade (opened policy topology).notes.frames c.mark)) (sym (no_cells policy topology (Down node))) tt;
      from = λ node there c has home. absurd (nothing node c has);
      alike = λ one other here there c d has_c has_d home marks. absurd (nothing one c has_c);
    };
  }
    where
      no_records : (past []).records ≡ []
      no_records = append-nil (opened policy topology).notes.records ∙ ap (λ n. n.records) (opened_notes policy topology)

      nothing : (node : NodeId) (c : Cell) → Contains (queue_at (opened policy topology) (Down node)) c → ⊥
      nothing node c has = none c (subst (λ (q : List Cell). Contains q c) (no_cells policy topology (Down node)) has)
        where
          none : (c : Cell) → Contains [] c → ⊥
          none c has = absurd (omega (arith, has.1))

  pub good_run : (events : List Event) → IsRun policy topology events → IsTame (past events).records → AreGood [] (trace_told policy topology events)
  good_run events run tame =
      let told : Tells topology IsWholeTrace [] (run_told policy topology events) =
      tells_then topology (IsBegun topology is names once []) IsWholeTrace [] (links_told topology) (events_told topology [] (opened policy topology) events)
      (links_told_first topology is names once []) (λ trace b. walk [] events run tame [] trace (begins trace b)) in
      good_then topology [] (run_told policy topology events) (said.End ∷ []) told.good
      (is_good (after_told topology [] (run_told policy topology events)) said.End (unrefused (after_told topology [] (run_told policy topology events)) said.End refl told.leads) refl, tt)

pub traces_are_good : StandsOn → TracesAreGood
traces_are_good on policy topology events run addresses names once tame = good_run on policy topology run.topology_is addresses names once events run tame
