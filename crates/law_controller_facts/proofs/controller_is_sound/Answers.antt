-- the laws are proved over definitions alone

use Rattle.law_controller_facts.proofs.Laws.{always_side, always_ports, always_requests, always_desk, always_shut, numbers_never_fall, draws_few_instances, draws_few_marks}
use Rattle.law_controller_facts.proofs.Refusals.{refused_is_recorded}
use Rattle.law_controller_facts.proofs.Conditions.{always_moves, always_granted}
use Rattle.law_controller_facts.proofs.Flows.{always_flowing, says_in_range}
use Rattle.law_controller_facts.proofs.controller_is_sound.Goals as goal

pub returns : goal.returns
returns c = record {
  side = always_side;
  ports = always_ports;
  requests = always_requests;
  desk = always_desk;
  unmet = always_shut;
  numbers = numbers_never_fall;
  instances = draws_few_instances;
  marks = draws_few_marks;
  refused = refused_is_recorded;
  moves = always_moves;
  joins = always_granted;
  flows = always_flowing;
  says = says_in_range;
}
