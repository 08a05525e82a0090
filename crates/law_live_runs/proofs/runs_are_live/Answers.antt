-- the laws that are called, put together

use Rattle.law_live_runs.proofs.Waking.{nodes_wake}
use Rattle.law_live_runs.proofs.runs_are_live.Goals as goal

pub returns : goal.returns
returns c = λ policy topology events run addresses. (
  record {
    nodes_wake = nodes_wake c.resting_nodes_wake.ensures.wake policy topology events run addresses;
    links_wake = c.runs_wake_links.ensures.wake policy topology events run addresses;
  },
  record {
    beats_agree = c.runs_agree.ensures.agree policy topology events run addresses;
    flows_are_cut_through = c.runs_cut_through.ensures.runs policy topology events run addresses;
  },
)
