-- The topologies that lines make, one after another, from the empty one

use Rattle.std.specs.Prelude.{◌≡◌, List, [], ◌∷◌, Result, Ok, Err}
use Rattle.world_model.specs.network_model.declared.line.TopologyLine.{TopologyLine}
use Rattle.world_model.specs.network_model.declared.refusal.TopologyRefusal.{TopologyRefusal}
use Rattle.world_model.specs.Conditions.{HasItsNumbers}
use Rattle.world_model.specs.Lines.{after_line}
use Rattle.world_model.specs.Topology.{Topology, empty_topology}

abbrev pub then_line : TopologyLine → Result Topology TopologyRefusal → Result Topology TopologyRefusal
then_line line (Ok topology) = after_line topology line
then_line line (Err refusal) = Err refusal

-- what these lines make, the last one first
abbrev pub made_by : List TopologyLine → Result Topology TopologyRefusal
made_by [] = Ok empty_topology
made_by (line ∷ earlier) = then_line line (made_by earlier)

abbrev pub HaveTheirNumbers : List TopologyLine → Type 0
HaveTheirNumbers [] = Unit {0}
HaveTheirNumbers (line ∷ earlier) = HasItsNumbers line × HaveTheirNumbers earlier

-- some lines, all of which are taken, make this topology
pub record IsMade (topology : Topology) : Type 0 where
  pub lines : List TopologyLine
  pub numbers : HaveTheirNumbers lines
  pub make : made_by lines ≡ Ok topology
