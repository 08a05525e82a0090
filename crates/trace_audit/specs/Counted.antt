-- the queues of ports in their maps, and what the counts keep in step with them; no claim rests on these words

use Rattle.std.specs.Prelude.{◌≡◌, ℕ, List, [], length, filter}
use Rattle.std.specs.Option.{option_map_or}
use Rattle.std.specs.declared.hash.FoldHasher.{FoldHasher}
use Rattle.std.specs.declared.hash.BuildHasherDefault.{BuildHasherDefault}
use Rattle.indexmap.specs.IndexMap.{IndexMap, get}
use Rattle.trace_model.specs.declared.cell.TraceCell.{TraceCell}
use Rattle.trace_model.specs.declared.end.TraceEnd.{TraceEnd}
use Rattle.trace_model.specs.declared.end.TraceLabel.{TraceLabel}
use Rattle.trace_model.specs.Ends.{same_end, same_label}
use Rattle.trace_model.specs.Judgement.{stands_on}

abbrev pub Cells : Type 0
Cells = IndexMap TraceEnd (List TraceCell) (BuildHasherDefault FoldHasher)

abbrev pub Standing : Type 0
Standing = IndexMap TraceLabel ℕ (BuildHasherDefault FoldHasher)

-- the cells of a port's queue; none where the map has no queue
abbrev pub cells_in : Cells → TraceEnd → List TraceCell
cells_in cells at = option_map_or (λ queue. queue) (get same_end cells at) []

-- how many of a channel are counted
abbrev pub standing_on : Standing → TraceLabel → ℕ
standing_on standing at = option_map_or (λ count. count) (get same_label standing at) 0

-- each channel has as many as stand in the queue
abbrev pub AreCounted : Standing → Cells → Type 0
AreCounted standing cells = (at : TraceLabel) → standing_on standing at ≡ length (filter (stands_on at.channel) (cells_in cells at.end))
