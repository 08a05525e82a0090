use Rattle.console_run.proofs.Words.{chances_more}
use Rattle.console_run.proofs.text.write_chances.Goals as goal

pub loop-item-preserved : goal.loop-item-preserved
loop-item-preserved c =
    chances_more c.args.out.now c.loop-item.out c.write_record.new.out c.args.records.now c.loop-item.item-index c.item-item.result c.loop-item-test.true c.item-item.is
    c.loop-item.invariant c.in_ok-write_record.ensures
