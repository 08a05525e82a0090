-- the laws that are called, put together

use Rattle.std.proofs.Common.{ℕ, ◌<◌, List, length, sym, subst}
use Rattle.law_trace_truth.specs.script_model.Script.{script_of}
use Rattle.law_trace_truth.specs.trace_model.Audit.{audit_of}
use Rattle.law_trace_truth.specs.Told.{run_told}
use Rattle.law_trace_truth.proofs.Run.{StandsOn}
use Rattle.law_trace_reading.specs.Law.{SaysYes}
use Rattle.law_trace_reading.proofs.Scripts.{names_by_place}
use Rattle.law_trace_reading.proofs.Audited.{audited}
use Rattle.law_trace_reading.proofs.Octets.{octets_are}
use Rattle.law_trace_reading.proofs.Whole.{run_sayable}
use Rattle.law_trace_reading.proofs.law.traces_are_audited.Goals as goal
use Rattle.law_trace_truth.specs.lab_text.Line.{input_limit}

pub returns : goal.returns
returns c policy octets accepted tame low =
    let steady = c.nodes_are_steady.ensures in
    let kept = c.runs_are_whole.ensures in
    let on : StandsOn = record {
      whole = kept.whole;
      nodes = steady.sites;
      there = steady.there;
      steps = steady.steps;
      frames = steady.frames;
      unused = kept.unused;
      wired = kept.wired;
      change = c.queues_change_by_passing.ensures.change;
      actors = c.queues_change_by_passing.ensures.actors;
    } in
    let topology = (script_of octets).topology in
    let run = c.scripts_are_runs.ensures.scripts octets in
    let names = names_by_place topology (c.lines_are_true.ensures.scripts octets) in
    let own = octets_are policy octets accepted in
    subst (λ (xs : List ℕ). SaysYes (audit_of xs)) (sym own)
    (audited topology c.passages_are_read.ensures (run_told policy topology (script_of octets).events)
    (run_sayable on steady.room policy topology (run.run policy).topology_is run.addresses names (script_of octets).events (run.run policy) tame)
    (subst (λ (xs : List ℕ). length xs < input_limit) own low)
    (c.scripts_have_good_traces.ensures policy octets tame))
