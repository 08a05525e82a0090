use Rattle.std.proofs.Common.{◌≡◌, ◌++◌, codes, map, take}
use Rattle.tell_journal.specs.Json.{parted}
use Rattle.tell_journal.specs.Journal.{record_value}
use Rattle.tell_journal.proofs.event.write_records.Given as goal

abbrev pub invariant-loop-index : goal.invariant-loop-index
invariant-loop-index l = l.out ≡ l.fn.out ++ (codes "[" ++ parted (map (record_value l.names) (take l.index l.records)))
