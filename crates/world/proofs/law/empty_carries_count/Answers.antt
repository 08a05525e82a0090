use Rattle.world.proofs.Empty.{empty_carry}
use Rattle.world.proofs.law.empty_carries_count.Goals as goal

pub returns : goal.returns
returns c = empty_carry
