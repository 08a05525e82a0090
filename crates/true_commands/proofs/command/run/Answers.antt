-- whatever the status, what was written is a front of the output

use Rattle.true_commands.proofs.Told.{run_told}
use Rattle.true_commands.proofs.command.run.Goals as goal

pub returns-clause-lines : goal.returns-clause-lines
returns-clause-lines g c = λ task asks.
    run_told c.outputs_are_true.ensures (g.S.Source.left c.args.source.now) (g.S.Source.left c.run.new.source) (g.K.Sink.written c.args.sink.now) (g.K.Sink.written c.run.new.sink)
    c.args.words.now task asks c.args.meter.now c.run.new.meter c.run.result c.run.ensures.range c.run.ensures.usage c.run.ensures.answered c.run.ensures.cut_off c.run.ensures.cut c.run.ensures.given_up
