-- the law is proved over definitions alone

use Rattle.law_link_names.proofs.Named.{greetings_are_named}
use Rattle.law_link_names.proofs.greetings_are_named.Goals as goal

pub returns : goal.returns
returns c = record { named = greetings_are_named }
