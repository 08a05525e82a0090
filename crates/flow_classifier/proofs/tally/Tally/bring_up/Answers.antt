use Rattle.std.proofs.Common.{◌≡◌, ℕ, ◌-◌, List, min, ap, arith}
use Rattle.flow_classifier.specs.Rows.{tally_of}
use Rattle.flow_classifier.proofs.Tallies.{no_more_than_places}
use Rattle.flow_classifier.proofs.tally.Tally.bring_up.Goals as goal

pub returns : goal.returns
returns c =
    let tally = c.args.self.now in
    let places : ℕ = tally.packets.capacity in
    let missed : ℕ = c.args.ticks - tally.until in
    let written : c.loop-tick._tick ≡ min missed places = grind (arith, c.loop-tick-test.false, c.loop-tick.auto._tick-end, c.min-tick-end.ensures, c.saturating_sub-missed.ensures, c.capacity-places.ensures.capacity) in
    rw (c.loop-tick.invariant, written, c.capacity-places.ensures.capacity) (ap (λ (ns : List ℕ). tally_of c.args.ticks places ns) (no_more_than_places places missed tally.packets.items))
