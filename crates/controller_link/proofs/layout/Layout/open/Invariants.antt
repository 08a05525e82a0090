use Rattle.std.proofs.Common.{◌≡◌, ◌+◌, ◌*◌, ◌≤◌, length, take}
use Rattle.controller_link.specs.Layout.{count_of}
use Rattle.controller_link.proofs.Blocks.{HasEach}
use Rattle.controller_link.proofs.layout.Layout.open.Given as goal

abbrev pub invariant-loop-range : goal.invariant-loop-range
invariant-loop-range l = record {
  kept : l.kept.items ≡ take l.range-index l.ports;
  counted : l.count ≡ count_of (take l.range-index l.ports);
  small : l.count ≤ 1 + l.range-index * 65537;
  nine : length l.blocks ≡ 9;
  each : HasEach (take l.range-index l.ports) l.blocks;
}
