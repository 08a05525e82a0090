-- the laws are proved over definitions alone

use Rattle.law_live_ways.proofs.Branches.{shapes_keep_ways}
use Rattle.law_live_ways.proofs.Switches.{switches_keep_ways}
use Rattle.law_live_ways.proofs.switches_keep_ways.Goals as goal

pub returns : goal.returns
returns c = record { shapes = shapes_keep_ways; switches = switches_keep_ways }
