-- the law of the label's line is asked of the function that is called

use Rattle.law_unused_labels.proofs.Reading.{unused}
use Rattle.law_unused_labels.proofs.Links.{link_of, link_is, link_proper}
use Rattle.law_unused_labels.proofs.labels_are_unused.Goals as goal

pub returns : goal.returns
returns c = record {
  spare = λ past topology is way on label number own session opened spare.
      unused c.label_is_owned.ensures.spare_is_unused past is (link_of past.topology way label) (link_is past.topology topology way on label number)
      (link_proper past.topology topology way on label number) session opened spare own;
}
