use Rattle.std.proofs.Common.{◌≡◌, ◌+◌, length, refl, Ok, Err, subst}
use Rattle.line_by_line.specs.Steps.{Concludes}
use Rattle.trace_model.specs.declared.verdict.Step.TheVariants.{Good, No}
use Rattle.trace_model.specs.Audit.{line_judged}
use Rattle.trace_audit.specs.After.{after_line}
use Rattle.trace_audit.specs.Held.{known_by, octets_of}
use Rattle.audit_run.specs.Audit.{told}
use Rattle.audit_run.proofs.Lines.{denied, goes, refused}
use Rattle.audit_run.proofs.task.AuditTaskLineTask.line.Goals as goal

pub returns-in-Ok-Good-clause-taken : goal.returns-in-Ok-Good-clause-taken
returns-in-Ok-Good-clause-taken g c =
    let old = c.args.self.now.auditor in
    let new = c.line.new.self in
    let good : line_judged (octets_of old) (known_by old) c.args.line.now ≡ Ok Good = rw c.in-Ok-Good.field-0-is at c.in-Ok-Good.ensures.told in
    let next : known_by new ≡ after_line (octets_of old) (known_by old) c.args.line.now = rw c.in-Ok-Good.field-0-is at c.in-Ok-Good.ensures.known in
    let long : octets_of new ≡ octets_of old + length c.args.line.now = rw c.in-Ok-Good.field-0-is at c.in-Ok-Good.ensures.octets in
    goes c.args.self.now.lines (octets_of old) (known_by old) c.args.line.now (c.args.self.now.lines + 1) (octets_of new) (known_by new) c.args.writer.now (g.K.Sink.written c.args.sink.now) good refl long next

pub returns-in_ok-ending-in-Ok-No-clause-taken : goal.returns-in_ok-ending-in-Ok-No-clause-taken
returns-in_ok-ending-in-Ok-No-clause-taken g c =
    let old = c.args.self.now.auditor in
    let bad : line_judged (octets_of old) (known_by old) c.args.line.now ≡ Ok (No c.in-Ok-No.breach) = rw c.in-Ok-No.field-0-is at c.in-Ok-No.ensures.told in
    denied c.args.self.now.lines (octets_of old) (known_by old) c.args.line.now c.in-Ok-No.breach (Ok c.in_ok-ending-in-Ok-No.ending) c.args.writer.now c.conclude.new.writer (g.K.Sink.written c.args.sink.now) (g.K.Sink.written c.conclude.new.sink) bad
    (subst (λ o. Concludes (told o) (Ok c.in_ok-ending-in-Ok-No.ending) c.args.writer.now c.conclude.new.writer (g.K.Sink.written c.args.sink.now) (g.K.Sink.written c.conclude.new.sink)) c.broken.ensures
    c.in_ok-ending-in-Ok-No.ensures.concluded)

pub returns-in_ok-ending-in-Err-Refused-clause-taken : goal.returns-in_ok-ending-in-Err-Refused-clause-taken
returns-in_ok-ending-in-Err-Refused-clause-taken g c =
    let old = c.args.self.now.auditor in
    let bad : line_judged (octets_of old) (known_by old) c.args.line.now ≡ Err c.in-Err-Refused.refusal = rw c.in-Err-Refused.field-0-is at c.in-Err-Refused.ensures.told in
    refused c.args.self.now.lines (octets_of old) (known_by old) c.args.line.now c.in-Err-Refused.refusal (Ok c.in_ok-ending-in-Err-Refused.ending) c.args.writer.now c.conclude-in-Err-Refused.new.writer (g.K.Sink.written c.args.sink.now) (g.K.Sink.written c.conclude-in-Err-Refused.new.sink) bad
    (subst (λ o. Concludes (told o) (Ok c.in_ok-ending-in-Err-Refused.ending) c.args.writer.now c.conclude-in-Err-Refused.new.writer (g.K.Sink.written c.args.sink.now) (g.K.Sink.written c.conclude-in-Err-Refused.new.sink)) c.refused.ensures
    c.in_ok-ending-in-Err-Refused.ensures.concluded)
