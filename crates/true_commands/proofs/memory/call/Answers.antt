-- what the run wrote is handed out, or its length is told

use Rattle.std.proofs.Common.{◌∙◌}
use Rattle.true_commands.proofs.Given.{fits, exceeds}
use Rattle.true_commands.proofs.memory.call.Goals as goal

pub returns-then-hand_out : goal.returns-then-hand_out
returns-then-hand_out c = fits c.tasks_are_true.ensures c.args.words.now c.args.input.now c.args.room.now c.hand_out.new.room c.written.result.now c.run_held.new.sink.taken
    c.as_slice.result.now c.hand_out.new.count c.in-Some.status (c.as_slice.ensures.value ∙ c.in-Ok.ensures.words) c.in-Some.ensures c.written.ensures c.hand_out.ensures.count
    c.hand_out.result c.if-hand_out.true c.hand_out.ensures.fits c.hand_out.ensures.room

pub returns : goal.returns
returns c = exceeds c.tasks_are_true.ensures c.args.words.now c.args.input.now c.args.room.now c.hand_out.new.room c.written.result.now c.run_held.new.sink.taken
    c.as_slice.result.now c.hand_out.new.count c.in-Some.status (c.as_slice.ensures.value ∙ c.in-Ok.ensures.words) c.in-Some.ensures c.written.ensures c.hand_out.ensures.count
    c.hand_out.result c.if-hand_out.false c.hand_out.ensures.fits c.hand_out.ensures.room
