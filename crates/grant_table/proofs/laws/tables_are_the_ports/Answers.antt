use Rattle.std.proofs.Common.{refl}
use Rattle.grant_table.proofs.laws.tables_are_the_ports.Goals as goal

pub returns : goal.returns
returns c = λ setup table label flow least greatest. rw (least, greatest) refl
