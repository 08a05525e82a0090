-- a topology that lines make, and one line more

use Rattle.std.proofs.Common.{◌≡◌, List, [], ◌∷◌, Result, Ok, Err, Option, None, Some, refl, sym, ap, ◌∙◌, subst}
use Rattle.world_model.specs.network_model.declared.line.TopologyLine.{TopologyLine}
use Rattle.world_model.proofs.Kept.{line_keeps, empty_is}
use Rattle.world_model.specs.Conditions.{HasItsNumbers, IsTopology}
use Rattle.world_model.specs.network_model.declared.refusal.TopologyRefusal.{TopologyRefusal}
use Rattle.world_model.specs.Lines.{after_line, after_by, line_refusal, with_line}
use Rattle.world_model.specs.Topology.{Topology, empty_topology}
use Rattle.topology.specs.declared.fault.TopologyFault.{TopologyFault}
use Rattle.topology.specs.declared.fault.TopologyFault.TheVariants.{Refused, OutOfMemory}
use Rattle.topology.specs.Made.{IsMade, HaveTheirNumbers, made_by, then_line}
use Rattle.topology.specs.Taking.{Takes}

pub made_empty : IsMade empty_topology
made_empty = record { lines = []; numbers = tt; make = refl }

pub made_next : (old now : Topology) (line : TopologyLine) → IsMade old → HasItsNumbers line → after_line old line ≡ Ok now → IsMade now
made_next old now line made numbers after = record {
  lines = line ∷ made.lines;
  numbers = (numbers, made.numbers);
  make = ap (then_line line) made.make ∙ after;
}

pub made_after : {T : Type 0} (old now : Topology) (line : TopologyLine) (outcome : Result T TopologyFault) → IsMade old → HasItsNumbers line
    → Takes old (after_line old line) now outcome → IsMade now
made_after old now line (Ok _) made numbers taken = made_next old now line made numbers taken
made_after old now line (Err (Refused refusal)) made numbers taken = subst IsMade (sym taken.1) made
made_after old now line (Err (OutOfMemory error)) made numbers taken = subst IsMade (sym taken.1) made

-- what lines make is a topology
one_more : (topology now : Topology) (line : TopologyLine) → IsTopology topology → HasItsNumbers line → after_line topology line ≡ Ok now → IsTopology now
one_more topology now line is numbers after = by (line_refusal topology line) refl after where
  by : (refusal : Option TopologyRefusal) → line_refusal topology line ≡ refusal → after_by (with_line topology line) refusal ≡ Ok now → IsTopology now
  by None e h = subst IsTopology (cc h) (line_keeps topology line is numbers e)
  by (Some refusal) e h = absurd (cc h)

are_topologies : (lines : List TopologyLine) (now : Topology) → HaveTheirNumbers lines → made_by lines ≡ Ok now → IsTopology now
are_topologies [] now numbers made = subst IsTopology (cc made) empty_is
are_topologies (line ∷ earlier) now numbers made = by (made_by earlier) refl made (λ topology e. are_topologies earlier topology numbers.1 e) where
  by : (before : Result Topology TopologyRefusal) → made_by earlier ≡ before → then_line line before ≡ Ok now → ((topology : Topology) → made_by earlier ≡ Ok topology → IsTopology topology) → IsTopology now
  by (Ok topology) e h is = one_more topology now line (is topology e) numbers.0 h
  by (Err refusal) e h is = absurd (cc h)

pub made_topology : (topology : Topology) → IsMade topology → IsTopology topology
made_topology topology made = are_topologies made.lines topology made.numbers made.make
