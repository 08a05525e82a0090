-- the law that is called, put together

use Rattle.law_live_ease.specs.law_true_runs.Runs.{HoldsInRuns, IsWhole}
use Rattle.law_live_cut_through.proofs.Leading.{labels_lead, labels_lead_there, grants_lead, grants_lead_there}
use Rattle.law_live_cut_through.proofs.LeadingFound.{grants_are_found}
use Rattle.law_live_cut_through.proofs.held_labels_lead.Goals as goal

pub returns : goal.returns
returns c =
    let whole : HoldsInRuns IsWhole = c.runs_are_whole.ensures.whole in
    record {
      labels = labels_lead whole;
      labels_there = labels_lead_there whole;
      grants = grants_lead whole;
      grants_there = grants_lead_there whole;
      found = grants_are_found;
    }
