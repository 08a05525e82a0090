use Rattle.std.proofs.Common.{◌≡◌, ◌∙◌, true, false, Some, ap, length, refl, subst, sym, arith}
use Rattle.std.proofs.lemmas.Result.{on_ok_weaker}
use Rattle.network_run.specs.telling_model.Placed.{events_in}
use Rattle.script_model.specs.world_model.Topology.{Topology}
use Rattle.script_model.specs.Script.{events_of}
use Rattle.script_model.specs.State.{ScriptState}
use Rattle.world.specs.Network.{world_of}
use Rattle.world.specs.Running.{Runs}
use Rattle.network_replay.specs.declared.replay.Replay.{Replay}
use Rattle.network_replay.specs.Lines.{IsMeant, has_events}
use Rattle.network_replay.proofs.Course.{CanRun, can_run, found, going_of, missed, network_of}
use Rattle.network_replay.proofs.Onward.{quiet_step, stepped, stepped_none}
use Rattle.network_replay.proofs.Taking.{begins}
use Rattle.network_replay.proofs.replay.Replay.run.Goals as goal

pub returns-then-not-has_events-clause-stepped : goal.returns-then-not-has_events-clause-stepped
returns-then-not-has_events-clause-stepped g c = λ state line placed h knows after can.
    let is : has_events c.args.said.now ≡ false = grind (arith, c.has_events.ensures, c.if-not-has_events.true) in
    quiet_step g.T.Teller.tale (g.N.PolicyChoice.chosen c.args.choice.now) g.C.NodeController.seen g.T.Teller.state state line c.args.said.now placed c.args.self.now c.args.told.now (g.K.Sink.written c.args.sink.now) c.args.meter.now is h knows after can

pub returns-in_err-open_first-clause-stepped : goal.returns-in_err-open_first-clause-stepped
returns-in_err-open_first-clause-stepped g c = λ state line placed h knows after can.
    let is : has_events c.args.said.now ≡ true = grind (arith, c.has_events.ensures, c.if-not-has_events.false) in
    stepped_none g.T.Teller.tale (g.N.PolicyChoice.chosen c.args.choice.now) g.C.NodeController.seen g.T.Teller.state state line c.args.said.now placed c.args.self.now is after h c.from_residual.result c.in_err-open_first.field-0.0 c.open_first.new.self
    c.args.told.now c.open_first.new.told (g.K.Sink.written c.args.sink.now) (g.K.Sink.written c.open_first.new.sink) c.args.meter.now c.from_residual.ensures.1 c.in_err-open_first.ensures.put

pub run_line-requires-clause-ready : goal.run_line-requires-clause-ready
run_line-requires-clause-ready g c =
    let seen = g.C.NodeController.seen in
    let choice = (g.N.PolicyChoice.chosen c.args.choice.now) in
    let said = c.args.said.now in
    let is : has_events said ≡ true = grind (arith, c.has_events.ensures, c.if-not-has_events.false) in
    let can : CanRun seen choice c.open_first.new.self said c.in-Some.world =
    can_run seen choice c.args.self.now c.open_first.new.self c.open_first.new.self.world said c.in-Some.world c.requires c.open_first.ensures.rest is
    (found _ _ c.in-Some.world
    (c.in_ok-open_first.ensures.opened c.requires.state c.requires.events c.requires.network (ap (λ (s : ScriptState). s.topology) c.requires.after ∙ (begins c.requires.state c.requires.line said is).1)) c.in-Some.is)
    c.within_limits.ensures.event_lines c.within_limits.ensures.rounds c.within_limits.ensures.ticks in
    let named : c.topology.result.now ≡ c.open_first.new.self.state.topology = c.topology.ensures in
    record { empty = can.empty; runs = subst (λ (t : Topology). Runs seen t c.in-Some.world) (sym named) can.runs }

pub run_line-requires-clause-few : goal.run_line-requires-clause-few
run_line-requires-clause-few g c =
    let seen = g.C.NodeController.seen in
    let choice = (g.N.PolicyChoice.chosen c.args.choice.now) in
    let said = c.args.said.now in
    let is : has_events said ≡ true = grind (arith, c.has_events.ensures, c.if-not-has_events.false) in
    let can : CanRun seen choice c.open_first.new.self said c.in-Some.world =
    can_run seen choice c.args.self.now c.open_first.new.self c.open_first.new.self.world said c.in-Some.world c.requires c.open_first.ensures.rest is
    (found _ _ c.in-Some.world
    (c.in_ok-open_first.ensures.opened c.requires.state c.requires.events c.requires.network (ap (λ (s : ScriptState). s.topology) c.requires.after ∙ (begins c.requires.state c.requires.line said is).1)) c.in-Some.is)
    c.within_limits.ensures.event_lines c.within_limits.ensures.rounds c.within_limits.ensures.ticks in
    let named : c.topology.result.now ≡ c.open_first.new.self.state.topology = c.topology.ensures in
    let size : length (events_of c.topology.result.now said) ≡ length (events_of c.open_first.new.self.state.topology said) = ap (λ (t : Topology). length (events_of t said)) named in
    omega (arith, size, can.few)

pub run_line-requires-clause-meant : goal.run_line-requires-clause-meant
run_line-requires-clause-meant g c =
    let seen = g.C.NodeController.seen in
    let choice = (g.N.PolicyChoice.chosen c.args.choice.now) in
    let said = c.args.said.now in
    let is : has_events said ≡ true = grind (arith, c.has_events.ensures, c.if-not-has_events.false) in
    let can : CanRun seen choice c.open_first.new.self said c.in-Some.world =
    can_run seen choice c.args.self.now c.open_first.new.self c.open_first.new.self.world said c.in-Some.world c.requires c.open_first.ensures.rest is
    (found _ _ c.in-Some.world
    (c.in_ok-open_first.ensures.opened c.requires.state c.requires.events c.requires.network (ap (λ (s : ScriptState). s.topology) c.requires.after ∙ (begins c.requires.state c.requires.line said is).1)) c.in-Some.is)
    c.within_limits.ensures.event_lines c.within_limits.ensures.rounds c.within_limits.ensures.ticks in
    let named : c.topology.result.now ≡ c.open_first.new.self.state.topology = c.topology.ensures in
    subst (λ (t : Topology). IsMeant t (world_of seen c.in-Some.world c.open_first.new.self.notes) said) (sym named) can.meant

pub returns-clause-going : goal.returns-clause-going
returns-clause-going g c =
    let seen = g.C.NodeController.seen in
    let choice = (g.N.PolicyChoice.chosen c.args.choice.now) in
    let said = c.args.said.now in
    let is : has_events said ≡ true = grind (arith, c.has_events.ensures, c.if-not-has_events.false) in
    let rest = c.open_first.ensures.rest in
    let state = c.requires.state in
    let new : Replay _ = record c.open_first.new.self { notes = c.run_line.new.notes; world = Some c.run_line.new.world } in
    going_of seen choice c.run_line.result c.args.self.now new _ (ap (λ (q : Replay _). q.state) rest)
    (network_of seen choice state c.requires.line said c.requires.events c.run_line.result c.args.self.now c.open_first.new.self new c.open_first.new.self.world c.in-Some.world c.run_line.new.world
    c.topology.result.now c.run_line.new.notes is c.requires.after c.requires.sayable
    (found _ _ c.in-Some.world
    (c.in_ok-open_first.ensures.opened state c.requires.events c.requires.network (ap (λ (s : ScriptState). s.topology) c.requires.after ∙ (begins state c.requires.line said is).1)) c.in-Some.is)
    rest c.topology.ensures refl c.run_line.ensures.stepped.world (on_ok_weaker c.run_line.result (λ ready. ready.runs) c.run_line.ensures.stepped.ready))

pub returns-clause-stepped : goal.returns-clause-stepped
returns-clause-stepped g c = λ state line placed h knows after can.
    let said = c.args.said.now in
    let is : has_events said ≡ true = grind (arith, c.has_events.ensures, c.if-not-has_events.false) in
    stepped g.T.Teller.tale (g.N.PolicyChoice.chosen c.args.choice.now) g.C.NodeController.seen g.T.Teller.state state line said placed c.args.self.now is after h c.in-Some.world
    (found _ _ c.in-Some.world (c.in_ok-open_first.ensures.opened state (events_in placed) h (ap (λ (s : ScriptState). s.topology) after ∙ (begins state line said is).1)) c.in-Some.is)
    c.run_line.result c.open_first.new.self (record c.open_first.new.self { notes = c.run_line.new.notes; world = Some c.run_line.new.world }) c.open_first.new.self.world c.run_line.new.world c.topology.result.now c.lines.result c.run_line.new.notes
    c.args.told.now c.open_first.new.told c.run_line.new.told (g.K.Sink.written c.args.sink.now) (g.K.Sink.written c.open_first.new.sink) (g.K.Sink.written c.run_line.new.sink)
    c.args.meter.now c.run_line.new.meter can knows
    c.open_first.ensures.rest c.topology.ensures c.lines.ensures refl c.in_ok-open_first.ensures.put c.in_ok-open_first.ensures.known
    c.run_line.ensures.stepped.world (on_ok_weaker c.run_line.result (λ ready. ready.runs) c.run_line.ensures.stepped.ready) c.run_line.ensures.told.put c.run_line.ensures.told.knows c.run_line.ensures.stepped.meter_is c.run_line.ensures.stepped.kept

pub unreachable-requires : goal.unreachable-requires
unreachable-requires g c =
    let said = c.args.said.now in
    let is : has_events said ≡ true = grind (arith, c.has_events.ensures, c.if-not-has_events.false) in
    missed _ _ (c.in_ok-open_first.ensures.opened c.requires.state c.requires.events c.requires.network (ap (λ (s : ScriptState). s.topology) c.requires.after ∙ (begins c.requires.state c.requires.line said is).1)) c.in-None.is
