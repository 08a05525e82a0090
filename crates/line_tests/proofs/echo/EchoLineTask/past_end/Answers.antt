use Rattle.std.proofs.Common.{refl}
use Rattle.std.specs.Prelude.{codes}
use Rattle.line_tests.proofs.Closing.{past_settles, stuck_concludes}
use Rattle.line_tests.proofs.echo.EchoLineTask.past_end.Goals as goal

pub returns-in_err-put-clause-settled : goal.returns-in_err-put-clause-settled
returns-in_err-put-clause-settled g c = λ line is.
    past_settles c.args.self.now.octets line c.args.writer.now c.put.new.self (g.K.Sink.written c.args.sink.now) (g.K.Sink.written c.put.new.sink) c.from_residual.result is
    (stuck_concludes (codes "past\n") c.from_residual.result c.args.writer.now c.put.new.self (g.K.Sink.written c.args.sink.now) (g.K.Sink.written c.put.new.sink) c.from_residual.ensures.1 c.in_err-put.ensures.failed)

pub returns-clause-settled : goal.returns-clause-settled
returns-clause-settled g c = λ line is.
    past_settles c.args.self.now.octets line c.args.writer.now c.put.new.self (g.K.Sink.written c.args.sink.now) (g.K.Sink.written c.put.new.sink) _ is (refl, c.in_ok-put.ensures.ok)
