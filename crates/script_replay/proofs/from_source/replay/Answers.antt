use Rattle.script_replay.proofs.Reports.{done_reported, left_reported}
use Rattle.script_replay.proofs.from_source.replay.Goals as goal

pub returns-clause-done : goal.returns-clause-done
returns-clause-done g c =
    done_reported (g.N.PolicyChoice.chosen c.args.choice.now) (g.S.Source.left c.args.source.now) (g.S.Source.left c.tell.new.source) (g.K.Sink.written c.args.sink.now) (g.K.Sink.written c.tell.new.sink)
    c.tell.result c.args.meter.now c.tell.new.meter c.tell.ensures.done

pub returns-clause-left : goal.returns-clause-left
returns-clause-left g c =
    left_reported (g.N.PolicyChoice.chosen c.args.choice.now) (g.S.Source.left c.args.source.now) (g.S.Source.left c.tell.new.source) (g.K.Sink.written c.args.sink.now) (g.K.Sink.written c.tell.new.sink)
    c.tell.result c.tell.ensures.left
