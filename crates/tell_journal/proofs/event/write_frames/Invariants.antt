use Rattle.std.proofs.Common.{◌≡◌, ◌++◌, codes, drop, map, take}
use Rattle.tell_journal.specs.Json.{parted}
use Rattle.tell_journal.specs.Journal.{frame_value}
use Rattle.tell_journal.proofs.event.write_frames.Given as goal

abbrev pub invariant-loop-place : goal.invariant-loop-place
invariant-loop-place l = l.out ≡ l.fn.out ++ (codes "[" ++ parted (map frame_value (take l.place (drop l.before.made l.notes.frames))))
