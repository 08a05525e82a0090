use Rattle.std.proofs.Common.{◌≡◌, length, min, take}
use Rattle.std.specs.List.{sum_by}
use Rattle.port_model.specs.Redirection.{greatest_tally}
use Rattle.controller.specs.Controlling.{controller_of}
use Rattle.tell_show.proofs.shown_controller.ControllerShownController.grants.Given as goal

abbrev pub invariant-loop-place : goal.invariant-loop-place
invariant-loop-place g l = l.grants ≡ min greatest_tally (sum_by (λ linked. length linked.port.grants) (take l.place (controller_of g.E.PortEngine.seen l.self).ports))
