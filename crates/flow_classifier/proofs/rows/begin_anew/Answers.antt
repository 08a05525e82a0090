use Rattle.flow_classifier.proofs.LastTurned.{all_turned, none_turned, one_turned}
use Rattle.std.proofs.Common.{◌≡◌, ◌<◌, length, arith}
use Rattle.flow_classifier.proofs.rows.begin_anew.Goals as goal

pub loop-row-init : goal.loop-row-init
loop-row-init c = none_turned c.args.ticks c.args.rows.now

pub loop-row-preserved : goal.loop-row-preserved
loop-row-preserved c =
    let more : c.loop-row._row < length c.args.rows.now.entries = omega (arith, c.loop-row-test.true, c.len-row-end.ensures.len, c.loop-row.auto._row-end) in
    one_turned c.args.ticks c.loop-row._row c.args.rows.now c.loop-row.rows c.turn_last.new.rows more c.turn_last.ensures c.loop-row.invariant

pub returns : goal.returns
returns c =
    let all : length c.args.rows.now.entries ≡ c.loop-row._row = omega (arith, c.loop-row-test.false, c.len-row-end.ensures.len, c.loop-row.auto._row-end) in
    all_turned c.args.ticks c.loop-row._row c.args.rows.now c.loop-row.rows all c.loop-row.invariant
