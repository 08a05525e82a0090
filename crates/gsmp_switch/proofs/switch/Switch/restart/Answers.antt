use Rattle.std.proofs.Common.{◌∙◌, ap, refl}
use Rattle.gsmp_switch.specs.Exchange.{Store}
use Rattle.gsmp_switch.proofs.PortStates.{states_begun}
use Rattle.gsmp_switch.proofs.switch.Switch.restart.Goals as goal

pub invariant_of-self-2 : goal.invariant_of-self-2
invariant_of-self-2 c =
    let linked = ap (λ (x : Store). x.ports) c.cut.ensures.store ∙ c.clear_all.ensures.linked in
    rw (c.begin.ensures, linked) (states_begun c.self.inside.ports.items c.self.inside.exchange.ports c.instance-own.result c.self.invariant)

pub returns-clause-acted : goal.returns-clause-acted
returns-clause-acted c =
    rw (← c.self.view_is, c.in_ok-cut.ensures.notes, c.begin.ensures, c.reset.ensures, c.instance-own.ensures.given, c.cut.ensures.store, c.in_ok-clear_all.ensures.exchange, c.in_ok-clear_all.ensures.notes, c.instance-own.ensures.next) refl
