use Rattle.std.proofs.lemmas.Result.{on_ok_weaker}
use Rattle.tell_passing.proofs.Looking.{owner_in, put_behind}
use Rattle.tell_passing.proofs.before.Before.put_cells.Goals as goal

pub put-requires-clause-owner : goal.put-requires-clause-owner
put-requires-clause-owner g c = owner_in g.C.NodeController.seen c.args.world.now c.args.self.now c.requires.behind

pub returns : goal.returns
returns g c topology then event notes runs looked came = on_ok_weaker c.put.result
    (λ h. put_behind g.C.NodeController.seen c.args.world.now notes topology then event c.args.self.now c.put.new.out.items c.clear.new.self.items looked came c.clear.ensures.items h)
    (c.put.ensures topology runs)
