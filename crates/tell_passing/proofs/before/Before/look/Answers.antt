use Rattle.std.proofs.Common.{◌∙◌, ap, length}
use Rattle.tell_passing.proofs.Looking.{look_is}
use Rattle.tell_passing.proofs.before.Before.look.Goals as goal

pub returns : goal.returns
returns g c topology runs come = look_is g.C.NodeController.seen c.args.world.now c.args.notes.now topology c.args.event.now c.taken-self.result c.made_count-self.result c.reached.result c.look-self.result
    runs come c.taken-self.ensures (c.made_count-self.ensures ∙ ap (λ books. length books.frames) c.ledger.ensures) (c.reached.ensures.reached topology runs) c.look-self.ensures
