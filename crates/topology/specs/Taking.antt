-- what a line makes of a topology

use Rattle.std.specs.Prelude.{◌≡◌, Result, Ok, Err, IsOk}
use Rattle.world_model.specs.network_model.declared.refusal.TopologyRefusal.{TopologyRefusal}
use Rattle.world_model.specs.Topology.{Topology}
use Rattle.topology.specs.declared.fault.TopologyFault.{TopologyFault}
use Rattle.topology.specs.declared.fault.TopologyFault.TheVariants.{Refused, OutOfMemory}

-- the topology that follows, or the refusal, which leaves the one before
abbrev pub Makes : {T : Type 0} → (old : Topology) → (said : Result Topology TopologyRefusal) → (now : Topology) → Result T TopologyRefusal → Type 0
Makes old said now (Ok _) = said ≡ Ok now
Makes old said now (Err refusal) = (said ≡ Err refusal) × (now ≡ old)

-- the same; where memory is wanting a topology would follow, and the one before is left
abbrev pub Takes : {T : Type 0} → (old : Topology) → (said : Result Topology TopologyRefusal) → (now : Topology) → Result T TopologyFault → Type 0
Takes old said now (Ok _) = said ≡ Ok now
Takes old said now (Err (Refused refusal)) = (said ≡ Err refusal) × (now ≡ old)
Takes old said now (Err (OutOfMemory error)) = IsOk said × (now ≡ old)
