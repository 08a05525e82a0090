use Rattle.port_labels.proofs.book.LabelBook.is_in_order.Goals as goal

pub returns : goal.returns
returns c = rw (← c.self.view_is) (record {
  rises = c.are_in_order.ensures.rises;
  inside = c.are_in_order.ensures.inside;
  once = c.self.invariant.once;
  few = c.are_in_order.ensures.few;
})
