use Rattle.std.proofs.Common.{◌∙◌, ap, slice_index_or, None}
use Rattle.world.proofs.Peers.{far_end_is}
use Rattle.world.proofs.world.World.far_end.Goals as goal

pub returns : goal.returns
returns g c topology runs =
    ap (λ here. slice_index_or here.peers c.args.port.0 None) c.index.ensures
    ∙ far_end_is g.C.NodeController.seen topology c.args.self.now c.args.node c.args.port c.index.result.now runs c.requires.node c.requires.port.0 c.requires.port.1
