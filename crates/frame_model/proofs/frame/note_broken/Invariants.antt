use Rattle.std.proofs.Common.{◌≡◌, drop}
use Rattle.frame_model.specs.Reassembly.{marks_of, broken}
use Rattle.frame_model.proofs.frame.note_broken.Given as goal

abbrev pub invariant-loop-cell : goal.invariant-loop-cell
invariant-loop-cell l = broken l.notes (marks_of (drop l.cell-index l.cells)) ≡ broken l.fn.notes (marks_of l.fn.cells)
