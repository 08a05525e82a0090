use Rattle.gsmp_switch.proofs.Exchanges.{ports_after_frame}
use Rattle.gsmp_switch.proofs.PortStates.{has_port_small}
use Rattle.gsmp_switch.proofs.switch.Switch.forge.Goals as goal

pub send_frame-requires-clause-queue : goal.send_frame-requires-clause-queue
send_frame-requires-clause-queue c = has_port_small c.self.inside.ports.items c.self.inside.exchange.ports c.args.port c.self.invariant (rw (← c.self.view_is) at c.requires.port)

pub invariant_of-self : goal.invariant_of-self
invariant_of-self c =
    rw (ports_after_frame c.send_frame.result _ _ _ _ c.self.inside.exchange c.send_frame.new.queues _ _ c.send_frame.ensures.sent c.send_frame.ensures.err) c.self.invariant
