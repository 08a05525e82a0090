use Rattle.std.proofs.Common.{◌∙◌, ap, refl}
use Rattle.network_replay.specs.declared.replay.Replay.{Replay}
use Rattle.network_replay.proofs.Course.{found, missed}
use Rattle.network_replay.proofs.Onward.{end_none, end_told}
use Rattle.network_replay.proofs.replay.Replay.end.Goals as goal

pub returns-in_err-open_first-clause-put : goal.returns-in_err-open_first-clause-put
returns-in_err-open_first-clause-put g c = λ script placed whole.
    end_none g.T.Teller.tale (g.N.PolicyChoice.chosen c.args.choice.now) g.C.NodeController.seen script placed c.args.refused c.args.self.now c.from_residual.result c.in_err-open_first.field-0.0 c.args.told.now.writer c.open_first.new.told.writer
    (g.K.Sink.written c.args.sink.now) (g.K.Sink.written c.open_first.new.sink) c.from_residual.ensures.1 whole c.in_err-open_first.ensures.put

pub returns-clause-put : goal.returns-clause-put
returns-clause-put g c = λ script placed whole.
    let rest = c.open_first.ensures.rest in
    end_told g.T.Teller.tale (g.N.PolicyChoice.chosen c.args.choice.now) g.C.NodeController.seen script placed c.args.refused c.args.self.now c.in-Some.world c.topology-names.result.now c.event_lines.result c.end.result
    c.args.told.now.writer c.open_first.new.told.writer c.end.new.writer (g.K.Sink.written c.args.sink.now) (g.K.Sink.written c.open_first.new.sink) (g.K.Sink.written c.end.new.sink)
    whole (c.topology-names.ensures ∙ ap (λ (q : Replay _). q.state.topology) rest) (c.event_lines.ensures.event_lines ∙ ap (λ (q : Replay _). q.state.event_lines) rest)
    (found _ _ c.in-Some.world (c.in_ok-open_first.ensures.opened c.args.self.now.state script.events whole.network refl) c.in-Some.is) c.in_ok-open_first.ensures.put c.end.ensures.put

pub unreachable-requires : goal.unreachable-requires
unreachable-requires g c = missed _ _ (c.in_ok-open_first.ensures.opened c.args.self.now.state c.requires.going.events c.requires.going.network refl) c.in-None.is
