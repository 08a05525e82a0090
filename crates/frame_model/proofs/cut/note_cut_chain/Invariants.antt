use Rattle.std.proofs.Common.{◌≡◌, take}
use Rattle.frame_model.specs.Reassembly.{cut_chain}
use Rattle.frame_model.proofs.cut.note_cut_chain.Given as goal

abbrev pub invariant-loop-place : goal.invariant-loop-place
invariant-loop-place l = l.notes ≡ cut_chain l.fn.notes (take l.place l.cells)
