use Rattle.std.proofs.Common.{arith}
use Rattle.std.proofs.lemmas.Grind.{common_steps}
use Rattle.pcapng_blocks.specs.Blocks.{padded}
use Rattle.pcapng_blocks.proofs.fields.put_padded.Goals as goal

pub returns : goal.returns
unfolding padded
returns c = grind (arith, common_steps)
