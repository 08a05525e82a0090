use Rattle.std.proofs.Common.{ap, option_map}
use Rattle.world.specs.Network.{no_notes}
use Rattle.world.proofs.Acting.{found, got}
use Rattle.law_world_pace.proofs.Running.{are_numbered}
use Rattle.world.proofs.world.World.switch.Goals as goal

pub returns : goal.returns
returns g c topology runs =
    ap (option_map (λ site. site.switch))
    (found g.C.NodeController.seen c.args.self.now no_notes c.args.node c.index.result.now (are_numbered topology c.args.self.now.events 1 _ runs.world.sites) c.requires
    (got g.C.NodeController.seen c.args.self.now c.args.node c.index.result.now c.requires c.index.ensures))
