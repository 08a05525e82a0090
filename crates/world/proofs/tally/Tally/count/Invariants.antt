use Rattle.std.proofs.Common.{◌≡◌, fold, take}
use Rattle.world_model.specs.World.{one_tallied}
use Rattle.world.proofs.tally.Tally.count.Given as goal

abbrev pub invariant-loop-item : goal.invariant-loop-item
invariant-loop-item l = record {
  counted : l.self ≡ fold one_tallied l.fn.self (take l.item-index l.records);
}
