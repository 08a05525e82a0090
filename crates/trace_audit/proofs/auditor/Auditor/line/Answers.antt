use Rattle.trace_audit.proofs.Taken.{follows-line}
use Rattle.trace_audit.proofs.auditor.Auditor.line.Goals as goal

pub returns-clause-follows : goal.returns-clause-follows
returns-clause-follows c = λ past follows.
    follows-line past c.args.self.now c.judge_line.new.self c.args.line.now c.judge_line.result follows c.judge_line.ensures.told c.judge_line.ensures.known c.judge_line.ensures.octets
