use Rattle.std.proofs.Common.{rules}
use Rattle.pcapng_blocks.specs.Blocks.{number_32}
use Rattle.pcapng_blocks.proofs.fields.put_u32.Goals as goal

pub returns : goal.returns
unfolding number_32
returns c = search rules
