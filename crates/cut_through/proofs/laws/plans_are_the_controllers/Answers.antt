use Rattle.cut_through.proofs.Plans.{joins, no_way, to_grant, unlinked}
use Rattle.cut_through.proofs.laws.plans_are_the_controllers.Goals as goal

pub returns-clause-grants : goal.returns-clause-grants
returns-clause-grants c = to_grant

pub returns-clause-joins : goal.returns-clause-joins
returns-clause-joins c = joins

pub returns-clause-unlinked : goal.returns-clause-unlinked
returns-clause-unlinked c = unlinked

pub returns-clause-none : goal.returns-clause-none
returns-clause-none c = no_way
