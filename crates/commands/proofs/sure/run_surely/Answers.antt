use Rattle.std.proofs.Common.{refl}
use Rattle.line_by_line.specs.declared.task.Ending.TheVariants.{Done, Denied}
use Rattle.commands.proofs.Ends.{no_rise, status_tells}
use Rattle.commands.proofs.sure.run_surely.Goals as goal

pub returns-clause-usage : goal.returns-clause-usage
returns-clause-usage c = λ e. (c.run.ensures.usage e).0

pub returns-clause-done : goal.returns-clause-done
returns-clause-done c = λ e.
    let answered = c.run.ensures.answered Done e in
    let input = c.args.source.now.left in
    record {
      task = answered.task;
      asked = answered.asked;
      ends = status_tells answered.task input Done c.run.result e (c.run.ensures.complete answered.task input answered.asked refl no_rise no_rise);
    }

pub returns-clause-denied : goal.returns-clause-denied
returns-clause-denied c = λ e.
    let answered = c.run.ensures.answered Denied e in
    let input = c.args.source.now.left in
    record {
      task = answered.task;
      asked = answered.asked;
      ends = status_tells answered.task input Denied c.run.result e (c.run.ensures.complete answered.task input answered.asked refl no_rise no_rise);
    }
