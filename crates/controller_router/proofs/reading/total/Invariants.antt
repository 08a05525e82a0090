use Rattle.std.proofs.Common.{◌≡◌, min, take}
use Rattle.std.specs.List.{sum_by}
use Rattle.port_model.specs.Redirection.{greatest_tally}
use Rattle.controller_router.proofs.Totals.{accepted}
use Rattle.controller_router.proofs.reading.total.Given as goal

abbrev pub invariant-loop-link : goal.invariant-loop-link
invariant-loop-link g l = l.sum ≡ min greatest_tally (sum_by (λ link. accepted (g.E.PortEngine.seen link)) (take l.link-index l.links))
