-- the laws are proved over definitions alone

use Rattle.law_running_worlds.proofs.Worlds.{events_true}
use Rattle.law_running_worlds.proofs.MadeTame.{controllers_pass, switches_pass}
use Rattle.law_running_worlds.proofs.Kept.{made_kept, ready_kept}
use Rattle.law_running_worlds.proofs.Opening.{made_begins, ready_begins}
use Rattle.law_running_worlds.proofs.frames_are_made.Goals as goal

pub returns : goal.returns
returns c = record {
  events = λ nodes room fronts steps. made_kept nodes room fronts steps (controllers_pass events_true fronts steps) (switches_pass events_true fronts steps);
  opening = made_begins;
  ready = λ nodes room fronts steps. ready_kept nodes room fronts steps (controllers_pass events_true fronts steps) (switches_pass events_true fronts steps);
  ready_opening = ready_begins;
}
