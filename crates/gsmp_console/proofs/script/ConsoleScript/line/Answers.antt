use Rattle.gsmp_console.proofs.Lines.{line_read}
use Rattle.gsmp_console.proofs.script.ConsoleScript.line.Goals as goal

pub returns-in-Ok-clause-said : goal.returns-in-Ok-clause-said
returns-in-Ok-clause-said c =
    rw (← c.self.view_is) (line_read _ c.count_line.new.self c.args.line.now c.in-Ok.text.now c.read_text.result c.in-Ok.ensures.fault c.in-Ok.ensures.text (rw (← c.self.view_is) at c.count_line.ensures) c.read_text.ensures.said)
