use Rattle.std.proofs.Common.{fold, map, ap, ◌∙◌}
use Rattle.std.proofs.lemmas.Result.{on_ok_weaker}
use Rattle.world_model.specs.Resets.{cuts_default}
use Rattle.controller_router.specs.Node.{ports_of}
use Rattle.controller_router.proofs.router.Router.cut_others.Goals as goal

pub returns-clause-acted : goal.returns-clause-acted
returns-clause-acted g c = λ numbers.
    let seen = g.E.PortEngine.seen in
    let ports = ap (λ links. ports_of (map seen links)) c.cut_gsmp.ensures.links in
    on_ok_weaker c.cut_defaults.result (λ e. e ∙ (λ i. fold cuts_default (c.in_ok-cut_gsmp.ensures.acted numbers i) (ports i))) (c.cut_defaults.ensures.acted numbers)
