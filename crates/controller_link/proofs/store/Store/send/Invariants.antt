use Rattle.std.proofs.Common.{◌≡◌, ◌+◌, ◌++◌, ◌≤◌, length, take}
use Rattle.controller_link.specs.Store.{free_in}
use Rattle.controller_link.proofs.store.Store.send.Given as goal

abbrev pub invariant-loop-cell : goal.invariant-loop-cell
invariant-loop-cell l = record {
  room : length l.cells ≤ free_in l.self + l.cell-index;
  sent : l.self ≡ record l.fn.self { queue = l.fn.self.queue ++ take l.cell-index l.cells };
}
