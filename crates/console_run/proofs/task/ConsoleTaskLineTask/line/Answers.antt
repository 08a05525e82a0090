use Rattle.std.proofs.Common.{◌∙◌, Result, Ok, IfOk, sym, subst, arith}
use Rattle.line_by_line.specs.Steps.{Concludes}
use Rattle.gsmp_console.specs.Script.{HasRoom}
use Rattle.console_model.specs.declared.fault.ConsoleFault.{ConsoleFault}
use Rattle.console_model.specs.declared.line.ConsoleLine.{ConsoleLine}
use Rattle.console_run.specs.Task.{lab_in_task, refused_account}
use Rattle.console_run.proofs.Accounts.{can_take, goes_on, line_ends, line_goes}
use Rattle.console_run.proofs.Says.{IsMeant, line_meant}
use Rattle.console_run.proofs.task.ConsoleTaskLineTask.line.Goals as goal

pub returns-in_ok-take-in-Ok-clause-taken : goal.returns-in_ok-take-in-Ok-clause-taken
returns-in_ok-take-in-Ok-clause-taken g c =
    let state = c.args.self.now.script in
    let room : HasRoom state c.args.line.now = (omega (arith, c.requires.within), omega (arith, c.requires.going.lines, c.requires.some, c.requires.within)) in
    line_goes state (lab_in_task c.args.self.now) c.args.line.now c.in-Ok.said c.take.new.self.script (lab_in_task c.take.new.self) c.args.writer.now c.take.new.writer
    (g.K.Sink.written c.args.sink.now) (g.K.Sink.written c.take.new.sink) c.requires.going.is_open (sym c.in-Ok.ensures.said)
    (c.in_ok-take-in-Ok.ensures.script ∙ c.in-Ok.ensures.after room) c.in_ok-take-in-Ok.ensures.after c.in_ok-take-in-Ok.ensures.put

pub returns-in_ok-take-in-Ok-clause-going : goal.returns-in_ok-take-in-Ok-clause-going
returns-in_ok-take-in-Ok-clause-going g c =
    let state = c.args.self.now.script in
    let room : HasRoom state c.args.line.now = (omega (arith, c.requires.within), omega (arith, c.requires.going.lines, c.requires.some, c.requires.within)) in
    λ goes. goes_on state (lab_in_task c.args.self.now) c.args.line.now c.in-Ok.said c.take.new.self.script (lab_in_task c.take.new.self) c.requires.some c.requires.going
    (sym c.in-Ok.ensures.said) (c.in_ok-take-in-Ok.ensures.script ∙ c.in-Ok.ensures.after room) c.in_ok-take-in-Ok.ensures.after

pub returns-in_ok-ending-in-Err-clause-taken : goal.returns-in_ok-ending-in-Err-clause-taken
returns-in_ok-ending-in-Err-clause-taken g c =
    line_ends c.args.self.now.script (lab_in_task c.args.self.now) c.args.line.now c.in-Err.fault (Ok c.in_ok-ending-in-Err.ending) c.args.writer.now c.refuse.new.writer
    (g.K.Sink.written c.args.sink.now) (g.K.Sink.written c.refuse.new.sink) (sym c.in-Err.ensures.said)
    (subst (λ n. Concludes (refused_account n c.in-Err.fault) (Ok c.in_ok-ending-in-Err.ending) c.args.writer.now c.refuse.new.writer (g.K.Sink.written c.args.sink.now) (g.K.Sink.written c.refuse.new.sink))
    c.number-number.ensures c.in_ok-ending-in-Err.ensures.concluded)

pub take-requires : goal.take-requires
take-requires g c =
    let state = c.args.self.now.script in
    let meant = subst (λ (a : Result ConsoleLine ConsoleFault). IfOk a (IsMeant state)) (sym c.in-Ok.ensures.said) (line_meant state c.args.line.now) in
    can_take state (lab_in_task c.args.self.now) c.in-Ok.said c.requires.going meant
