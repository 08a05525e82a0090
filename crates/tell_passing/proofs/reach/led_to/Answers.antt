use Rattle.std.proofs.Common.{◌∙◌, ap, sym}
use Rattle.law_passing.specs.Reached.{led_to, switch_at}
use Rattle.tell_passing.proofs.Coming.{led_in, port_within}
use Rattle.tell_passing.proofs.reach.led_to.Goals as goal

pub far_end-requires-clause-port : goal.far_end-requires-clause-port
far_end-requires-clause-port g c = port_within g.C.NodeController.seen c.args.world.now c.args.place c.in-Out.node c.in-Out.port c.in-Out.is c.requires.queue

pub returns-in-Some-clause-actor : goal.returns-in-Some-clause-actor
returns-in-Some-clause-actor g c = led_in g.C.NodeController.seen c.args.world.now c.args.place _ c.requires.queue
    (λ t runs. ap switch_at (c.in-Some.ensures t runs) ∙ ap (led_to t) (sym c.in-Out.is))
