-- the law, put together

use Rattle.law_link_tables.proofs.Greeted.{greetings_are_steps}
use Rattle.law_link_tables.proofs.greetings_are_steps.Goals as goal

pub returns : goal.returns
returns c = record { steps = greetings_are_steps }
