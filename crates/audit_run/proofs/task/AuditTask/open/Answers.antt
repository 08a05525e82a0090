use Rattle.audit_run.proofs.Whole.{opened}
use Rattle.audit_run.proofs.task.AuditTask.open.Goals as goal

pub returns-clause-account : goal.returns-clause-account
returns-clause-account c = opened c.in_ok-auditor.auditor c.in_ok-auditor.ensures
