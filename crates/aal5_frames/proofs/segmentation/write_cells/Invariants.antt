use Rattle.std.proofs.Common.{◌≡◌, ◌++◌, drop, map}
use Rattle.std.specs.List.{range_with_len}
use Rattle.aal5_frames.specs.Frame.{cell_of}
use Rattle.aal5_frames.proofs.segmentation.write_cells.Given as goal

abbrev pub invariant-loop-k : goal.invariant-loop-k
invariant-loop-k l = l.out ≡ map (cell_of l.channel l.mark l.pdu) (range_with_len 0 l.k) ++ drop l.k l.fn.out
