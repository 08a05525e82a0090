use Rattle.port_labels.proofs.Steps.{found_in_range}
use Rattle.port_labels.proofs.book.LabelBook.get.Goals as goal

pub returns-clause-range : goal.returns-clause-range
returns-clause-range c =
    rw (← c.self.view_is) (found_in_range c.self.inside.places c.args.label c.get.result c.are_in_order.ensures.inside c.get.ensures)
