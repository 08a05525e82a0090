-- two ends whose names are right follow the table by their instances

use Rattle.std.proofs.Common.{◌≡◌, ℕ, true, List, refl, arith}
use Rattle.std.specs.Str.{bytes_eq}
use Rattle.std.proofs.lemmas.Grind.{common_steps}
use Rattle.std.proofs.lemmas.Slice.Eq.{bytes_eq-Decides}
use Rattle.adjacency_table.specs.Ends.{IfmpIsReceivedByInstances, GsmpIsReceivedByInstances, IsTickedByInstances}

pub ifmp_received_by_instances : IfmpIsReceivedByInstances
ifmp_received_by_instances own far side silence next kind sender receiver = grind (arith, common_steps)

same_bytes : (xs : List ℕ) → bytes_eq xs xs ≡ true
same_bytes xs = (bytes_eq-Decides xs xs).1 refl

pub gsmp_received_by_instances : GsmpIsReceivedByInstances
gsmp_received_by_instances own far side silence kind sender receiver = grind (arith, common_steps, same_bytes own.name, same_bytes far.name)

pub ticked_by_instances : {P : Type 0} (own far : ℕ → P) → IsTickedByInstances own far
ticked_by_instances own far side silence = grind (arith, common_steps)
