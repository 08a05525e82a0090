use Rattle.std.proofs.lemmas.Result.{on_ok_weaker}
use Rattle.console_run.proofs.Events.{event_after, event_told}
use Rattle.console_run.proofs.lab_run.LabRun.write_event.Goals as goal

pub returns-clause-lines : goal.returns-clause-lines
returns-clause-lines c =
    on_ok_weaker c.write_replies.result
    (λ written. event_told c.args.self.now.lab c.step.new.self c.args.self.now.notes c.clear.new.self c.step.new.notes c.args.event c.clear.ensures c.in_ok-step.ensures
    c.answered-told.result c.records.result.now c.args.out.now c.write_chances.new.out c.write_replies.new.out c.answered-told.ensures c.records.ensures c.in_ok-write_chances.ensures written)
    c.write_replies.ensures

pub returns-clause-after : goal.returns-clause-after
returns-clause-after c =
    on_ok_weaker c.write_replies.result
    (λ written. event_after c.args.self.now.lab c.step.new.self c.args.self.now.notes c.clear.new.self c.step.new.notes c.args.event c.clear.ensures c.in_ok-step.ensures)
    c.write_replies.ensures
