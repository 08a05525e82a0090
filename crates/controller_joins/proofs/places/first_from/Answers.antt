use Rattle.controller_joins.proofs.OnPort.{first_from_place, first_from_gap}
use Rattle.controller_joins.proofs.places.first_from.Goals as goal

pub returns-in-Ok : goal.returns-in-Ok
returns-in-Ok c = first_from_place c.args.joins.now c.args.end c.in-Ok.place c.requires c.in-Ok.ensures.found

pub returns-in-Err : goal.returns-in-Err
returns-in-Err c = first_from_gap c.args.joins.now c.args.end c.in-Err.gap c.in-Err.ensures.absent
