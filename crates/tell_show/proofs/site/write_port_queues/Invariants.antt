use Rattle.std.proofs.Common.{◌≡◌, ◌++◌, take, flat_map, Some}
use Rattle.world_model.specs.Controller.{ports_of}
use Rattle.world_model.specs.World.{Site, site_at}
use Rattle.world.specs.Network.{no_notes, world_of}
use Rattle.tell_show.specs.Held.{port_queue_line}
use Rattle.tell_show.proofs.site.write_port_queues.Given as goal

abbrev pub invariant-loop-place : goal.invariant-loop-place
invariant-loop-place g l = (site : Site) → site_at (world_of g.C.NodeController.seen l.world no_notes) l.node ≡ Some site
    → l.out ≡ l.fn.out ++ flat_map (port_queue_line l.names site l.node) (take l.place (ports_of site.controller))
