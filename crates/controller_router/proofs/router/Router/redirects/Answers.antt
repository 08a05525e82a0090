use Rattle.std.proofs.Common.{ap, min, ◌∙◌}
use Rattle.std.specs.List.{sum_by}
use Rattle.port_model.specs.Redirection.{greatest_tally}
use Rattle.controller_router.proofs.Totals.{accepted, total_is}
use Rattle.controller_router.proofs.router.Router.redirects.Goals as goal

pub returns : goal.returns
returns g c =
    let seen = g.E.PortEngine.seen in
    rw (← c.self.view_is) (c.total.ensures ∙ ap (λ links. min greatest_tally (sum_by (λ link. accepted (seen link)) links)) c.as_slice.ensures.value
    ∙ ap (min greatest_tally) (total_is seen c.self.inside.links.items c.self.inside.client.control c.self.invariant.linked))
