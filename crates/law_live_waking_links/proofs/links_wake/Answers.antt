-- the laws are proved over definitions alone

use Rattle.law_live_waking_links.proofs.Beats.{beats_are_exchanges, links_wake}
use Rattle.law_live_waking_links.proofs.links_wake.Goals as goal

pub returns : goal.returns
returns c = record { beats = beats_are_exchanges; wake = links_wake }
