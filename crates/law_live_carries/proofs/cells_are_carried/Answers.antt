-- the laws are proved over definitions alone

use Rattle.law_live_carries.proofs.Carried.{cells_come_in_order, cells_are_carried, unlost_are_carried, what_is_put_is_carried}
use Rattle.law_live_carries.proofs.Names.{queues_have_one_name, runs_carry_by_name, empty_queues_are_empty}
use Rattle.law_live_carries.proofs.cells_are_carried.Goals as goal

pub returns : goal.returns
returns c = record {
  order = cells_come_in_order;
  waiting = cells_are_carried;
  unlost = unlost_are_carried;
  put = what_is_put_is_carried;
  names = queues_have_one_name;
  runs = runs_carry_by_name;
  empty = empty_queues_are_empty;
}
