-- the laws that are called, put together

use Rattle.law_trace_truth.proofs.Run.{traces_are_good}
use Rattle.law_trace_truth.proofs.law.traces_are_good.Goals as goal

pub returns : goal.returns
returns c =
    let steady = c.nodes_are_steady.ensures in
    let kept = c.runs_are_whole.ensures in
    traces_are_good (record {
      whole = kept.whole;
      nodes = steady.sites;
      there = steady.there;
      steps = steady.steps;
      frames = steady.frames;
      unused = kept.unused;
      wired = kept.wired;
      change = c.queues_change_by_passing.ensures.change;
      actors = c.queues_change_by_passing.ensures.actors;
    })
