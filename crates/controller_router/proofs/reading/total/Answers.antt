use Rattle.std.proofs.Common.{◌+◌, ap, min, ◌∙◌}
use Rattle.std.specs.List.{sum_by}
use Rattle.std.proofs.lemmas.List.{take_all}
use Rattle.port_model.specs.Redirection.{greatest_tally}
use Rattle.controller_router.proofs.Totals.{accepted, one_more}
use Rattle.controller_router.proofs.reading.total.Goals as goal

pub loop-link-preserved : goal.loop-link-preserved
loop-link-preserved g c =
    let seen = g.E.PortEngine.seen in
    let links = c.args.links.now in
    let item = c.redirects.ensures ∙ ap (λ link. accepted (seen link)) c.link-item.is in
    c.saturating_add-sum.ensures ∙ ap (λ n. min (c.loop-link.sum + n) greatest_tally) item
    ∙ one_more seen links c.loop-link.link-index c.link-item.result greatest_tally c.loop-link.sum c.loop-link-test.true c.loop-link.invariant

pub returns : goal.returns
returns g c =
    c.loop-link.invariant ∙ ap (λ links. min greatest_tally (sum_by (λ link. accepted (g.E.PortEngine.seen link)) links)) (take_all c.loop-link.link-index c.args.links.now c.loop-link-test.false)
