use Rattle.std.proofs.Common.{◌≡◌, ◌∙◌, ◌+◌, ◌≤◌, List, ap, length, refl, subst, sym, arith}
use Rattle.std.specs.List.{repeat}
use Rattle.script_model.specs.world_model.network_model.declared.event.Event.{Event}
use Rattle.script_model.specs.world_model.Limits.{event_limit}
use Rattle.script_model.specs.world_model.Run.{round, tick_of_all}
use Rattle.script_model.specs.world_model.World.{World}
use Rattle.script_model.specs.Script.{events_of}
use Rattle.world.specs.Network.{world_of}
use Rattle.network_run.specs.telling_model.Placed.{placed_events}
use Rattle.network_run.specs.telling_model.Tale.{told}
use Rattle.network_run.specs.Behind.{AreStepped, IsTold}
use Rattle.network_run.proofs.AllTicks.{at_notes}
use Rattle.network_replay.proofs.OneEvent.{one_stepped, one_told}
use Rattle.network_replay.proofs.Opening.{rounds_are, ticks_are}
use Rattle.network_replay.proofs.line_run.run_line.Goals as goal

pub tick_all-requires-clause-few : goal.tick_all-requires-clause-few
tick_all-requires-clause-few g c =
    let w : World = world_of g.C.NodeController.seen c.args.world.now c.args.notes.now in
    let e : length (events_of c.args.context.now.names.now c.args.said.now) ≡ length (tick_of_all w) = ap length (ap (events_of c.args.context.now.names.now) c.in-TickAll.is ∙ ticks_are c.args.context.now.names.now w (at_notes c.args.context.now.names.now _ c.args.notes.now c.requires.ready.runs.world)) in
    omega (arith, e, c.requires.few)

pub rounds-requires : goal.rounds-requires
rounds-requires g c =
    let w : World = world_of g.C.NodeController.seen c.args.world.now c.args.notes.now in
    let e : length (events_of c.args.context.now.names.now c.args.said.now) ≡ length (repeat c.in-Run.count (round w)) = ap length (ap (events_of c.args.context.now.names.now) c.in-Run.is ∙ rounds_are c.args.context.now.names.now w c.in-Run.count (at_notes c.args.context.now.names.now _ c.args.notes.now c.requires.ready.runs.world)) in
    let few : w.events + length (repeat c.in-Run.count (round w)) ≤ event_limit = omega (arith, e, c.requires.few) in
    λ κs fits. (fits.0, (fits.1.0, (fits.1.1.0, (fits.1.1.1, (refl, (c.requires.ready, few))))))

pub returns-in-Event-clause-stepped : goal.returns-in-Event-clause-stepped
returns-in-Event-clause-stepped g c =
    subst (λ (es : List Event). AreStepped g.C.NodeController.seen c.args.context.now.names.now es c.step.result c.args.world.now c.step.new.world c.args.notes.now c.step.new.notes c.args.meter.now c.step.new.meter) (sym (ap (events_of c.args.context.now.names.now) c.in-Event.is))
    (one_stepped g.C.NodeController.seen c.args.context.now.names.now _ c.step.result c.args.world.now c.step.new.world c.args.notes.now c.step.new.notes c.args.meter.now c.step.new.meter c.step.ensures.world c.step.ensures.ready c.step.ensures.meter c.step.ensures.kept)

pub returns-in-Event-clause-told : goal.returns-in-Event-clause-told
returns-in-Event-clause-told g c =
    let w : World = world_of g.C.NodeController.seen c.args.world.now c.args.notes.now in
    subst (λ (es : List Event). IsTold g.T.Teller.state (told g.T.Teller.tale (g.T.Teller.state c.args.told.now.teller) c.args.context.now.names.now w (placed_events c.args.context.now.line es)) c.step.result c.args.told.now c.step.new.told (g.K.Sink.written c.args.sink.now) (g.K.Sink.written c.step.new.sink)) (sym (ap (events_of c.args.context.now.names.now) c.in-Event.is))
    (one_told g.T.Teller.state g.T.Teller.tale (g.T.Teller.state c.args.told.now.teller) c.args.context.now.names.now w _ c.step.result c.args.told.now c.step.new.told (g.K.Sink.written c.args.sink.now) (g.K.Sink.written c.step.new.sink) c.requires.ready.empty c.step.ensures.told)

pub returns-in-TickAll-clause-stepped : goal.returns-in-TickAll-clause-stepped
returns-in-TickAll-clause-stepped g c =
    let w : World = world_of g.C.NodeController.seen c.args.world.now c.args.notes.now in
    let e : tick_of_all w ≡ events_of c.args.context.now.names.now c.args.said.now = sym (ap (events_of c.args.context.now.names.now) c.in-TickAll.is ∙ ticks_are c.args.context.now.names.now w (at_notes c.args.context.now.names.now _ c.args.notes.now c.requires.ready.runs.world)) in
    subst (λ (es : List Event). AreStepped g.C.NodeController.seen c.args.context.now.names.now es c.tick_all.result c.args.world.now c.tick_all.new.world c.args.notes.now c.tick_all.new.notes c.args.meter.now c.tick_all.new.meter) e c.tick_all.ensures.stepped

pub returns-in-TickAll-clause-told : goal.returns-in-TickAll-clause-told
returns-in-TickAll-clause-told g c =
    let w : World = world_of g.C.NodeController.seen c.args.world.now c.args.notes.now in
    let e : tick_of_all w ≡ events_of c.args.context.now.names.now c.args.said.now = sym (ap (events_of c.args.context.now.names.now) c.in-TickAll.is ∙ ticks_are c.args.context.now.names.now w (at_notes c.args.context.now.names.now _ c.args.notes.now c.requires.ready.runs.world)) in
    subst (λ (es : List Event). IsTold g.T.Teller.state (told g.T.Teller.tale (g.T.Teller.state c.args.told.now.teller) c.args.context.now.names.now w (placed_events c.args.context.now.line es)) c.tick_all.result c.args.told.now c.tick_all.new.told (g.K.Sink.written c.args.sink.now) (g.K.Sink.written c.tick_all.new.sink)) e c.tick_all.ensures.told

pub returns-in-Run-clause-stepped : goal.returns-in-Run-clause-stepped
returns-in-Run-clause-stepped g c =
    let w : World = world_of g.C.NodeController.seen c.args.world.now c.args.notes.now in
    let e : repeat c.in-Run.count (round w) ≡ events_of c.args.context.now.names.now c.args.said.now = sym (ap (events_of c.args.context.now.names.now) c.in-Run.is ∙ rounds_are c.args.context.now.names.now w c.in-Run.count (at_notes c.args.context.now.names.now _ c.args.notes.now c.requires.ready.runs.world)) in
    subst (λ (es : List Event). AreStepped g.C.NodeController.seen c.args.context.now.names.now es c.rounds.result c.args.world.now c.rounds.new.world c.args.notes.now c.rounds.new.notes c.args.meter.now c.rounds.new.meter) e c.rounds.ensures.stepped

pub returns-in-Run-clause-told : goal.returns-in-Run-clause-told
returns-in-Run-clause-told g c =
    let w : World = world_of g.C.NodeController.seen c.args.world.now c.args.notes.now in
    let e : repeat c.in-Run.count (round w) ≡ events_of c.args.context.now.names.now c.args.said.now = sym (ap (events_of c.args.context.now.names.now) c.in-Run.is ∙ rounds_are c.args.context.now.names.now w c.in-Run.count (at_notes c.args.context.now.names.now _ c.args.notes.now c.requires.ready.runs.world)) in
    subst (λ (es : List Event). IsTold g.T.Teller.state (told g.T.Teller.tale (g.T.Teller.state c.args.told.now.teller) c.args.context.now.names.now w (placed_events c.args.context.now.line es)) c.rounds.result c.args.told.now c.rounds.new.told (g.K.Sink.written c.args.sink.now) (g.K.Sink.written c.rounds.new.sink)) e c.rounds.ensures.told
