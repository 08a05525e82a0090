use Rattle.std.proofs.Common.{◌∙◌, Bool, Option, Result, Ok, Err, None, OnOk, ap, subst, sym}
use Rattle.lab_io.specs.Fault.{count_after}
use Rattle.script_text.specs.declared.fault.ReadFault.{ReadFault}
use Rattle.script_model.specs.declared.line.Line.{Line}
use Rattle.script_model.specs.declared.refusal.Refused.{Refused}
use Rattle.lab_io.specs.declared.stop.Stop.{Stop}
use Rattle.lab_io.specs.Puts.{is_failed}
use Rattle.network_replay.specs.Along.{CanTake, GoesOn, IsGoing, IsKept, IsRead}
use Rattle.network_replay.proofs.Course.{going_unsaid, unsaid_ends, unsaid_writes}
use Rattle.network_replay.proofs.Metered.{err_metered, said_metered, unsaid_metered}
use Rattle.network_replay.proofs.Onward.{goes_err, goes_read, goes_unsaid}
use Rattle.network_replay.proofs.replay.Replay.take.Goals as goal

pub returns-in_ok-run-in-Ok-clause-along : goal.returns-in_ok-run-in-Ok-clause-along
returns-in_ok-run-in-Ok-clause-along g c = λ says state first start before lines line reading along read.
    let is = subst (λ (r : Result Line ReadFault). IsRead says state line r c.args.self.now.state) c.in-Ok.is read in
    goes_read g.T.Teller.tale (g.N.PolicyChoice.chosen c.args.choice.now) g.C.NodeController.seen g.T.Teller.state says reading first start before lines line c.args.told.now c.run.new.told (g.K.Sink.written c.args.sink.now) (g.K.Sink.written c.run.new.sink)
    c.args.meter.now c.run.new.meter c.in-Ok.said state c.args.self.now c.run.new.self
    (Ok c.in_ok-run-in-Ok.field-0) (Ok None) along is.0 is.1 c.in_ok-run-in-Ok.ensures.state
    (λ placed network knows. c.in_ok-run-in-Ok.ensures.stepped state line placed network knows is.1 (reading.sayable state line c.in-Ok.said is.0)) tt

pub returns-in_err-run-in-Ok-clause-along : goal.returns-in_err-run-in-Ok-clause-along
returns-in_err-run-in-Ok-clause-along g c = λ says state first start before lines line reading along read.
    let is = subst (λ (r : Result Line ReadFault). IsRead says state line r c.args.self.now.state) c.in-Ok.is read in
    goes_err g.T.Teller.tale (g.N.PolicyChoice.chosen c.args.choice.now) g.C.NodeController.seen g.T.Teller.state says reading first start before lines line c.run.new.told (g.K.Sink.written c.run.new.sink) c.run.new.meter c.run.new.self c.from_residual.result c.in_err-run-in-Ok.field-0.0 c.from_residual.ensures.1
    (λ other same. goes_read g.T.Teller.tale (g.N.PolicyChoice.chosen c.args.choice.now) g.C.NodeController.seen g.T.Teller.state says reading first start before lines line c.args.told.now c.run.new.told (g.K.Sink.written c.args.sink.now) (g.K.Sink.written c.run.new.sink)
    c.args.meter.now c.run.new.meter c.in-Ok.said state c.args.self.now c.run.new.self
    (Err c.in_err-run-in-Ok.field-0.0) (Err other) along is.0 is.1 c.in_err-run-in-Ok.ensures.state
    (λ placed network knows. c.in_err-run-in-Ok.ensures.stepped state line placed network knows is.1 (reading.sayable state line c.in-Ok.said is.0)) same)

pub returns-in-Err-clause-along : goal.returns-in-Err-clause-along
returns-in-Err-clause-along g c = λ says state first start before lines line reading along read.
    let seen = g.C.NodeController.seen in
    let choice = (g.N.PolicyChoice.chosen c.args.choice.now) in
    let is = subst (λ (r : Result Line ReadFault). IsRead says state line r c.args.self.now.state) c.in-Err.is read in
    subst (λ (r : Result (Option Refused) Stop). GoesOn seen g.T.Teller.state g.T.Teller.tale choice says first start before lines line r c.args.self.now c.args.told.now (g.K.Sink.written c.args.sink.now) c.args.meter.now) (sym c.unsaid.ensures)
    (goes_unsaid g.T.Teller.tale choice seen g.T.Teller.state says reading first start before lines line c.args.told.now (g.K.Sink.written c.args.sink.now) c.args.meter.now c.in-Err.fault state c.args.self.now along is)

pub returns-in-Err-clause-going : goal.returns-in-Err-clause-going
returns-in-Err-clause-going g c =
    let seen = g.C.NodeController.seen in
    let choice = (g.N.PolicyChoice.chosen c.args.choice.now) in
    let can = subst (λ (r : Result Line ReadFault). CanTake seen choice c.args.self.now r) c.in-Err.is c.requires.ready in
    subst (λ (r : Result (Option Refused) Stop). OnOk r (IsGoing seen choice c.args.self.now)) (sym c.unsaid.ensures) (going_unsaid seen choice c.args.self.now.state.lines c.in-Err.fault c.args.self.now can)

pub returns-in-Err-clause-faults : goal.returns-in-Err-clause-faults
returns-in-Err-clause-faults g c =
    ap (λ (failed : Bool). count_after failed (g.K.Sink.faults c.args.sink.now)) (sym (ap is_failed c.unsaid.ensures ∙ unsaid_writes c.args.self.now.state.lines c.in-Err.fault))

pub returns-in-Err-clause-said : goal.returns-in-Err-clause-said
returns-in-Err-clause-said g c = λ none. absurd (unsaid_ends c.args.self.now.state.lines c.in-Err.fault (sym c.unsaid.ensures ∙ none))

pub returns-in_err-run-in-Ok-clause-kept : goal.returns-in_err-run-in-Ok-clause-kept
returns-in_err-run-in-Ok-clause-kept g c = λ says state first start before lines line reading along read.
    let is = subst (λ (r : Result Line ReadFault). IsRead says state line r c.args.self.now.state) c.in-Ok.is read in
    let stepped = c.in_err-run-in-Ok.ensures.stepped state line along.placed along.network along.knows is.1 (reading.sayable state line c.in-Ok.said is.0) in
    err_metered (g.N.PolicyChoice.chosen c.args.choice.now) says before lines line c.from_residual.result c.run.new.meter
    (said_metered g.C.NodeController.seen (g.N.PolicyChoice.chosen c.args.choice.now) says reading lines line before state c.args.self.now.notes c.args.self.now.world along.placed along.taken along.network
    c.args.meter.now along.meter_is c.args.self.now.state c.in-Ok.said c.run.new.meter is.0 is.1 stepped.kept)

pub returns-in-Err-clause-kept : goal.returns-in-Err-clause-kept
returns-in-Err-clause-kept g c = λ says state first start before lines line reading along read.
    let choice = (g.N.PolicyChoice.chosen c.args.choice.now) in
    subst (λ (r : Result (Option Refused) Stop). IsKept choice says before lines line r c.args.meter.now) (sym c.unsaid.ensures)
    (unsaid_metered g.C.NodeController.seen choice says reading lines line before state c.args.self.now.notes c.args.self.now.world along.placed along.taken along.network
    c.args.meter.now along.meter_is c.args.self.now.state.lines c.in-Err.fault)
