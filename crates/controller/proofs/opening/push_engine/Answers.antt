use Rattle.std.proofs.Common.{◌++◌, ◌∷◌, [], ap, ◌∙◌}
use Rattle.controller.proofs.Opened.{pushed_seen}
use Rattle.controller.proofs.opening.push_engine.Goals as goal

pub returns-clause-engine : goal.returns-clause-engine
returns-clause-engine g c =
    pushed_seen g.E.PortEngine.seen c.args.engines.now.items _ c.in_ok-engine.engine _
    (c.push_reserved.ensures.items ∙ ap (λ xs. xs ++ c.in_ok-engine.engine ∷ []) c.in_ok-reserve.ensures.items) (c.in_ok-engine.ensures c.args.numbers.now.instances c.instance-own.ensures.next)
