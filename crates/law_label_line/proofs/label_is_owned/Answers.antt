use Rattle.law_label_line.specs.Law.{SpareIsUnused, OnlyRecalledIsReclaimed, UsersHaveItsFlow, PeersWereCleared, NumbersAreInOrder, OldCellsLead}
use Rattle.law_label_line.proofs.Read.{reached, spare_is_unused, only_recalled, users_flow, peers_cleared}
use Rattle.law_label_line.proofs.Order.{numbers_in_order, old_cells_lead}
use Rattle.law_label_line.proofs.label_is_owned.Goals as goal

pub returns : goal.returns
returns c = record {
  spare_is_unused = reached SpareIsUnused spare_is_unused;
  only_recalled_is_reclaimed = reached OnlyRecalledIsReclaimed only_recalled;
  users_have_its_flow = reached UsersHaveItsFlow users_flow;
  peers_were_cleared = reached PeersWereCleared peers_cleared;
  numbers_are_in_order = reached NumbersAreInOrder numbers_in_order;
  old_cells_lead = reached OldCellsLead old_cells_lead;
}
