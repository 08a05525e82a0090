use Rattle.std.proofs.Common.{◌≡◌, length, min, take}
use Rattle.std.specs.List.{sum_by}
use Rattle.port_model.specs.Port.{labels_of}
use Rattle.port_model.specs.Redirection.{greatest_tally}
use Rattle.controller.specs.Controlling.{controller_of}
use Rattle.tell_show.proofs.shown_controller.ControllerShownController.labels.Given as goal

abbrev pub invariant-loop-place : goal.invariant-loop-place
invariant-loop-place g l = l.labels ≡ min greatest_tally (sum_by (λ linked. length (labels_of linked.port)) (take l.place (controller_of g.E.PortEngine.seen l.self).ports))
