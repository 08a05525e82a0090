use Rattle.std.proofs.Common.{◌≡◌, ◌++◌, codes, map, take}
use Rattle.tell_journal.specs.Json.{parted}
use Rattle.tell_journal.specs.Journal.{node_value}
use Rattle.tell_journal.proofs.network.write_nodes.Given as goal

abbrev pub invariant-loop-place : goal.invariant-loop-place
invariant-loop-place l = l.out ≡ l.fn.out ++ (codes "[" ++ parted (map node_value (take l.place l.names.nodes)))
