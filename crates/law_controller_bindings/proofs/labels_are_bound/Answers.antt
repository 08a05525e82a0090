-- the laws are proved over definitions alone

use Rattle.law_controller_bindings.proofs.Laws.{always_bound, always_led, always_gathers, journals_grow, notes_own}
use Rattle.law_controller_bindings.proofs.labels_are_bound.Goals as goal

pub returns : goal.returns
returns c = record { labels = always_bound; joins = always_led; chains = always_gathers; grows = journals_grow; own = notes_own }
