use Rattle.std.proofs.Common.{◌≡◌, ◌-◌, ◌≤◌, false, length}
use Rattle.std.specs.Io.KnownBytes.{Consumes}
use Rattle.lab_io.proofs.transfer.read_to_end.Given as goal

abbrev pub invariant-loop-buffer : goal.invariant-loop-buffer
invariant-loop-buffer g l = record {
  faults : g.S.Source.faults l.source ≡ g.S.Source.faults l.fn.source;
  unsaid : g.S.Source.said_end l.fn.source ≡ false → g.S.Source.said_end l.source ≡ false;
  late : g.S.Source.said_end l.fn.source ≡ false → g.S.Source.late_reads l.source ≡ g.S.Source.late_reads l.fn.source;
  bound : length l.octets.items ≤ l.limit;
  consumed : Consumes (g.S.Source.left l.fn.source) (g.S.Source.left l.source) l.octets.items;
}

abbrev pub decreases-loop-buffer : goal.decreases-loop-buffer
decreases-loop-buffer g l = l.limit - length l.octets.items
