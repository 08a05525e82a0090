use Rattle.std.proofs.lemmas.Result.{on_ok_weaker}
use Rattle.console_run.specs.Task.{lab_of}
use Rattle.console_run.proofs.Events.{round_after, round_told}
use Rattle.console_run.proofs.lab_run.LabRun.write_round.Goals as goal

pub returns-clause-lines : goal.returns-clause-lines
returns-clause-lines c =
    on_ok_weaker c.write_event-2.result
    (λ written. round_told (lab_of c.args.self.now) (lab_of c.write_event.new.self) c.args.out.now c.write_event.new.out c.write_event-2.new.out c.in_ok-write_event.ensures.after
    c.in_ok-write_event.ensures.lines written)
    c.write_event-2.ensures.lines

pub returns-clause-after : goal.returns-clause-after
returns-clause-after c =
    on_ok_weaker c.write_event-2.result
    (λ is. round_after (lab_of c.args.self.now) (lab_of c.write_event.new.self) (lab_of c.write_event-2.new.self) c.in_ok-write_event.ensures.after is)
    c.write_event-2.ensures.after
