use Rattle.std.proofs.Common.{◌∙◌, ap, List}
use Rattle.lru.specs.LruCache.{lru_cache}
use Rattle.flow_classifier.specs.Rows.{Row}
use Rattle.flow_classifier.proofs.Derived.{eq_is}
use Rattle.flow_classifier.proofs.LastTurned.{found_by_last, last_is_turned}
use Rattle.flow_classifier.proofs.rows.turn_last.Goals as goal

pub returns-in-Some-get_mut : goal.returns-in-Some-get_mut
returns-in-Some-get_mut c =
    let rows = c.args.rows.now in
    rw c.bring_up.ensures
    (ap (λ (rs : List Row). lru_cache rs rows.cap) (last_is_turned _ eq_is c.args.ticks c.in-Some.flow.now c.in-Some._tally.now c.in-Some-get_mut.tally.now rows.entries c.len-len.ensures.valid.0 c.in-Some.ensures c.in-Some-get_mut.ensures.value))

pub returns-in_default : goal.returns-in_default
returns-in_default c =
    let rows = c.args.rows.now in
    let there = found_by_last _ eq_is c.in-Some.flow.now c.in-Some._tally.now rows.entries c.len-len.ensures.valid.0 c.in-Some.ensures in
    absurd (cc (c.in_default.ensures.value ∙ there))
