-- the laws are proved over definitions alone

use Rattle.law_live_ways.proofs.Deleting.{none_is_read, controllers_delete_none}
use Rattle.law_live_ways.proofs.controllers_delete_none.Goals as goal

pub returns : goal.returns
returns c = record { reading = none_is_read; controllers = controllers_delete_none }
