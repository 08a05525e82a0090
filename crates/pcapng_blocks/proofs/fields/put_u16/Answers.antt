use Rattle.std.proofs.Common.{rules}
use Rattle.pcapng_blocks.specs.Blocks.{number_16}
use Rattle.pcapng_blocks.proofs.fields.put_u16.Goals as goal

pub returns : goal.returns
unfolding number_16
returns c = search rules
