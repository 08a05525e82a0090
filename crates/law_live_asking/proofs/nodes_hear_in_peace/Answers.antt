-- the laws are proved over definitions alone

use Rattle.law_live_asking.proofs.Joins.{joins_are_plain, calm_nodes_may_hear}
use Rattle.law_live_asking.proofs.Links.{peaceful_ends_may_hear, peaceful_nodes_may_hear}
use Rattle.law_live_asking.proofs.nodes_hear_in_peace.Goals as goal

pub returns : goal.returns
returns c = record { joins = joins_are_plain; nodes = calm_nodes_may_hear; ends = peaceful_ends_may_hear; peace = peaceful_nodes_may_hear }
