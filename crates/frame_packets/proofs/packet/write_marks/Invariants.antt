use Rattle.std.proofs.Common.{◌≡◌, ◌++◌, take}
use Rattle.frame_model.specs.Reassembly.{distinct, marks_of}
use Rattle.frame_packets.specs.Packet.{marks_text}
use Rattle.frame_packets.proofs.packet.write_marks.Given as goal

abbrev pub invariant-loop-place : goal.invariant-loop-place
invariant-loop-place l = l.out ≡ l.fn.out ++ marks_text (distinct (marks_of (take l.place l.cells)))
