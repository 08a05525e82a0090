-- the laws that are called, put together

use Rattle.law_live_ease.specs.Binding.{StretchesBindOn}
use Rattle.law_live_cut_through.proofs.LabelsStretches.{stretches_keep_labels, stretches_keep_grants, stretches_join_none, stretches_lend_none}
use Rattle.law_live_cut_through.proofs.labels_stay_in_stretches.Goals as goal

pub returns : goal.returns
returns c =
    let whole = c.runs_are_whole.ensures.whole in
    let bind_on : StretchesBindOn = c.networks_bind_on.ensures.stretches in
    record {
      labels = stretches_keep_labels whole bind_on;
      grants = stretches_keep_grants whole bind_on;
      none_joined = stretches_join_none whole bind_on;
      none_lent = stretches_lend_none whole bind_on;
    }
