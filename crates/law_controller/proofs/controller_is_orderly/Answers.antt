-- the laws are proved over definitions alone

use Rattle.law_controller.proofs.Laws.{always_meeting, always_clearing, always_apart, always_lent, always_moves, always_matched, always_held, always_few}
use Rattle.law_controller.proofs.Actions.{asks_what_can_be_done}
use Rattle.law_controller.proofs.controller_is_orderly.Goals as goal

pub returns : goal.returns
returns c = record {
  meeting = always_meeting;
  clearing = always_clearing;
  apart = always_apart;
  joined = always_lent;
  moves = always_moves;
  matched = always_matched;
  held = always_held;
  few = always_few;
  actions = asks_what_can_be_done;
}
