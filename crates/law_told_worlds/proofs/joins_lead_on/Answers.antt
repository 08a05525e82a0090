-- the laws that are called

use Rattle.law_told_worlds.proofs.Hops.{runs_lead_on}
use Rattle.law_told_worlds.proofs.HopOpening.{hops_begin}
use Rattle.law_told_worlds.proofs.joins_lead_on.Goals as goal

pub returns : goal.returns
returns c = record {
  events = λ pairs settled. runs_lead_on c.frames_are_read.ensures.frames c.worlds_are_running.ensures.chains pairs settled
      (c.labels_are_bound_unused.ensures.wired c.nodes_are_steady.ensures.sites c.nodes_are_steady.ensures.fronts c.nodes_are_steady.ensures.steps);
  opening = hops_begin;
}
