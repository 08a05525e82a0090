use Rattle.std.proofs.Common.{refl, arith}
use Rattle.console_run.proofs.Words.{told_all, told_more}
use Rattle.console_run.proofs.text.write_replies.Goals as goal

pub loop-place-init : goal.loop-place-init
loop-place-init c = record { all = refl }

pub loop-place-preserved : goal.loop-place-preserved
loop-place-preserved c =
    told_more c.args.out.now c.loop-place.out c.write_reply_at.new.out c.args.told c.loop-place.place c.args.lab.now.answers (omega (arith, c.answered-place-end.ensures, c.loop-place-test.true))
    c.in_ok-write_reply_at.ensures c.loop-place.invariant

pub returns : goal.returns
returns c =
    told_all c.args.out.now c.loop-place.out c.args.told c.loop-place.place c.args.lab.now.answers (omega (arith, c.answered-place-end.ensures, c.loop-place-test.false)) c.loop-place.invariant
