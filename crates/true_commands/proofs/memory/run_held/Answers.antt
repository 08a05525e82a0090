-- a run whose status is kept wrote the output of its words and its input

use Rattle.std.proofs.Common.{◌∙◌, ap}
use Rattle.lab_io.specs.Memory.{Pieces}
use Rattle.true_commands.proofs.Given.{is_output}
use Rattle.true_commands.proofs.memory.run_held.Goals as goal

pub returns : goal.returns
returns c =
    is_output c.outputs_are_true.ensures c.args.words.now c.new-source.result.left c.run.new.source.left c.args.sink.now.taken c.run.new.sink.taken
    c.new-meter.result c.run.new.meter c.run.result c.args.sink.now.faults c.run.new.sink.faults c.args.input.now
    (ap (λ (p : Pieces). p.left) c.new-source.ensures ∙ c.in-Ok.ensures.items) c.requires.empty c.requires.sound c.run.ensures.range c.run.ensures.read c.run.ensures.write c.run.ensures.usage c.run.ensures.answered c.run.ensures.complete
    c.kept_status.result c.kept_status.ensures
