use Rattle.std.proofs.Common.{◌∙◌, sym}
use Rattle.line_tests.proofs.Closing.{stop_settles}
use Rattle.line_tests.proofs.echo.EchoLineTask.line.Goals as goal

pub returns-then-starts_with-clause-taken : goal.returns-then-starts_with-clause-taken
returns-then-starts_with-clause-taken g c =
    stop_settles c.args.self.now.octets c.args.line.now c.args.writer.now c.put.new.self (g.K.Sink.written c.args.sink.now) (g.K.Sink.written c.put.new.sink) c.requires.within c.requires.short
    (sym c.starts_with.ensures.value ∙ c.if-starts_with.true) c.in_ok-put.ensures.ok
