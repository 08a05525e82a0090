use Rattle.console_run.proofs.Courses.{course_is, nothing_said}
use Rattle.console_run.proofs.law.sessions_are_runs.Goals as goal

pub returns-clause-opened : goal.returns-clause-opened
returns-clause-opened c = course_is

pub returns-clause-silent : goal.returns-clause-silent
returns-clause-silent c = nothing_said
