use Rattle.std.proofs.Common.{◌≡◌, ◌++◌, codes, map, take}
use Rattle.tell_journal.specs.Json.{parted}
use Rattle.tell_journal.specs.Journal.{link_value}
use Rattle.tell_journal.proofs.network.write_links.Given as goal

abbrev pub invariant-loop-place : goal.invariant-loop-place
invariant-loop-place l = l.out ≡ l.fn.out ++ (codes "[" ++ parted (map (link_value l.names) (take l.place l.names.links)))
