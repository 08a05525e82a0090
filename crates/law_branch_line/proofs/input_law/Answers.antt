use Rattle.law_branch_line.specs.Law.{AnswersTellTrue, CopiesAreInOrder, HasOnlyNewInEstab, IsEmptyWhenMet, IsSettledInEstab, TakesItsControllers}
use Rattle.law_branch_line.proofs.Runs.{always_lem, settled_lem, true_answers_lem, only_new_lem, emptied_lem, own_controller_lem, copies_in_order_lem}
use Rattle.law_branch_line.proofs.input_law.Goals as goal

pub returns : goal.returns
returns c = record {
  settled = always_lem IsSettledInEstab settled_lem;
  true_answers = always_lem AnswersTellTrue true_answers_lem;
  only_new = always_lem HasOnlyNewInEstab only_new_lem;
  emptied = always_lem IsEmptyWhenMet emptied_lem;
  own_controller = always_lem TakesItsControllers own_controller_lem;
  copies_in_order = always_lem CopiesAreInOrder copies_in_order_lem;
}
