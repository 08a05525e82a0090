use Rattle.law_input_steps.specs.law_input_views.Shown.{controller_of, switch_of}
use Rattle.law_input_premises.proofs.Reading.{controller_fits, switch_fits, greeting_read}
use Rattle.law_input_premises.proofs.greetings_are_read.Goals as goal

pub returns : goal.returns
returns c = record {
  controller = λ node side kind sender receiver few own stored s r. greeting_read (controller_of node) (switch_of node) (λ n less. controller_fits node n few less) (λ n less. switch_fits node n few less) side kind sender receiver own stored s r;
  switch = λ node side kind sender receiver few own stored s r. greeting_read (switch_of node) (controller_of node) (λ n less. switch_fits node n few less) (λ n less. controller_fits node n few less) side kind sender receiver own stored s r;
}
