use Rattle.law_controller.proofs.law_port_facts.Hearings.{hears_goes}
use Rattle.law_controller.specs.world_model.Words.{begins, hears}
use Rattle.law_controller.proofs.Whole.{holds_of}
use Rattle.law_input_premises.proofs.Reading.{are_read}
use Rattle.law_input_premises.proofs.Steady.{steady_whole, steady_read}
use Rattle.law_input_premises.proofs.Working.{can_work}
use Rattle.law_input_premises.proofs.Finishing.{can_finish}
use Rattle.law_input_premises.proofs.Changing.{can_take_each}
use Rattle.law_input_premises.proofs.Ticking.{can_tick}
use Rattle.std.specs.Prelude.{[]}
use Rattle.std.proofs.Common.{refl}
use Rattle.law_input_premises.proofs.calls_may_be_made.Goals as goal

pub returns : goal.returns
returns c = record {
  ticks = λ input a above h greets. can_tick h.setups h.links input above a (steady_whole a h) (are_read h.setups h.links [] tt) (steady_read a h) greets;
  hears = λ input a port source message above h lives. can_work h.setups h.links input above a port (λ setup desk w. hears setup desk w source message)
      (λ linked found. hears_goes linked.setup a.controller.desk (begins a linked) source message refl lives) (steady_read a h) (holds_of h.setups a (steady_whole a h));
  answered = λ input a s test above h found met. can_finish h.setups h.links input above a (steady_whole a h) (steady_read a h) s test found met;
  changes = λ input a above h. can_take_each h.setups input above a.controller.waiting a (holds_of h.setups a (steady_whole a h)) (steady_read a h);
}
