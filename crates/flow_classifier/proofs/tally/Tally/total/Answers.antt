use Rattle.std.proofs.Common.{◌≡◌, ◌+◌, ◌-◌, ◌∙◌, min, refl, rules}
use Rattle.std.proofs.lemmas.Iterator.{YieldsList-from_take}
use Rattle.std.proofs.lemmas.Iterator.Consumers.{YieldsList-at, YieldsList-from_rest, fold_from_yields_List}
use Rattle.port_model.specs.Counts.{greatest_count}
use Rattle.flow_classifier.proofs.Tallies.{total_left}
use Rattle.flow_classifier.proofs.tally.Tally.total.Goals as goal

pub returns : goal.returns
returns c =
    let tally = c.args.self.now in
    let left : c.saturating_sub-left.result ≡ tally.packets.capacity - (c.args.ticks - tally.until) = rw (c.saturating_sub-left.ensures, c.capacity.ensures.capacity, c.saturating_sub-missed.ensures) refl in
    fold_from_yields_List _ (λ sum n. min (sum + n) greatest_count) 0 _ c.fold.ensures.ran
    (YieldsList-from_take _ (YieldsList-at c.take.ensures.source (YieldsList-from_rest _ c.iter.ensures.rest)) c.take.ensures.count)
    (λ a x b q k. search rules)
    ∙ rw left (total_left tally.packets.capacity (c.args.ticks - tally.until) tally.packets.items)
