use Rattle.gsmp_switch.proofs.Exchanges.{ports_after_frame}
use Rattle.gsmp_switch.proofs.switch.Switch.say.Goals as goal

pub invariant_of-self : goal.invariant_of-self
invariant_of-self c =
    rw (ports_after_frame c.send_frame.result _ _ _ _ c.self.inside.exchange c.send_frame.new.queues _ _ c.send_frame.ensures.sent c.send_frame.ensures.err) c.self.invariant
