-- the laws that are called, put together

use Rattle.law_live_cut_through.proofs.RequestsAlone.{labels_serve_alone}
use Rattle.law_live_cut_through.proofs.labels_serve_alone.Goals as goal

pub returns : goal.returns
returns c = record { alone = labels_serve_alone c.runs_are_whole.ensures.whole c.networks_bind_on.ensures.stretches }
