use Rattle.std.proofs.Common.{◌∙◌}
use Rattle.std.proofs.lemmas.Result.{on_ok_weaker}
use Rattle.controller_router.proofs.router.Router.reset_spent.Goals as goal

pub reset_port-requires : goal.reset_port-requires
reset_port-requires g c = c.is_spent.ensures.can c.args.notes.now c.args.numbers.now c.if-is_spent.true c.requires

pub returns-then-is_spent-clause-acted : goal.returns-then-is_spent-clause-acted
returns-then-is_spent-clause-acted g c = on_ok_weaker c.reset_port.result (λ e. e ∙ c.is_spent.ensures.resets c.args.notes.now c.args.numbers.now c.if-is_spent.true) c.reset_port.ensures.acted

pub returns-else-is_spent-clause-acted : goal.returns-else-is_spent-clause-acted
returns-else-is_spent-clause-acted g c = c.is_spent.ensures.stays c.args.notes.now c.args.numbers.now c.if-is_spent.false
