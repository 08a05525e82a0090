use Rattle.std.proofs.Common.{◌≡◌, ◌∙◌, ◌+◌, ℕ, Option, None, Some, OnOk, ap, subst, sym}
use Rattle.lab_io.specs.Report.{IsPut}
use Rattle.telling_model.specs.declared.standing.Standing.{Standing}
use Rattle.telling_model.specs.Tale.{Telling}
use Rattle.world_model.specs.World.{World}
use Rattle.lab_io.specs.Puts.{Puts}
use Rattle.lab_io.proofs.Stops.{nothing_put}
use Rattle.tell_capture.specs.Capture.{Tapped, carried, carried_told}
use Rattle.tell_capture.specs.Seen.{known_by}
use Rattle.tell_capture.proofs.teller.CaptureTellerTeller.after.Goals as goal

pub returns-in-None-clause-put : goal.returns-in-None-clause-put
returns-in-None-clause-put g c known then seen came =
    let none : None ≡ carried then c.args._event.now = sym c.in-None.is ∙ seen.cell_is in
    subst (λ (o : Option Standing). IsPut c.args.writer.now c.args.writer.now (g.K.Sink.written c.args.sink.now) (g.K.Sink.written c.args.sink.now) (carried_told known (then.events + 1) o).octets) none
    (nothing_put c.args.writer.now (g.K.Sink.written c.args.sink.now))

pub returns-in-None-clause-state : goal.returns-in-None-clause-state
returns-in-None-clause-state g c known then seen came =
    let none : None ≡ carried then c.args._event.now = sym c.in-None.is ∙ seen.cell_is in
    seen.known_is ∙ ap (λ (o : Option Standing). (carried_told known (then.events + 1) o).state) none

pub returns-in-Some-clause-put : goal.returns-in-Some-clause-put
returns-in-Some-clause-put g c known then seen came =
    let numbered : c.events.result ≡ then.events + 1 = c.events.ensures ∙ ap (λ (w : World). w.events) came in
    let cell : Some c.in-Some.standing ≡ carried then c.args._event.now = sym c.in-Some.is ∙ seen.cell_is in
    let all : carried_told (known_by c.args.self.now) c.events.result (Some c.in-Some.standing) ≡ carried_told known (then.events + 1) (carried then c.args._event.now) =
    λ i. carried_told (seen.known_is i) (numbered i) (cell i) in
    subst (λ (told : Telling Tapped). Puts c.tell.result c.args.writer.now c.tell.new.writer (g.K.Sink.written c.args.sink.now) (g.K.Sink.written c.tell.new.sink) told.octets) all c.tell.ensures.put

pub returns-in-Some-clause-state : goal.returns-in-Some-clause-state
returns-in-Some-clause-state g c known then seen came =
    let numbered : c.events.result ≡ then.events + 1 = c.events.ensures ∙ ap (λ (w : World). w.events) came in
    let cell : Some c.in-Some.standing ≡ carried then c.args._event.now = sym c.in-Some.is ∙ seen.cell_is in
    let all : carried_told (known_by c.args.self.now) c.events.result (Some c.in-Some.standing) ≡ carried_told known (then.events + 1) (carried then c.args._event.now) =
    λ i. carried_told (seen.known_is i) (numbered i) (cell i) in
    subst (λ (told : Telling Tapped). OnOk c.tell.result (known_by c.tell.new.self ≡ told.state)) all c.tell.ensures.state
