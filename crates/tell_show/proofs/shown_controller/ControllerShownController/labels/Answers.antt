use Rattle.std.proofs.Common.{◌+◌, ◌∙◌, ℕ, List, length, min, slice_get, arith, ap}
use Rattle.controller.specs.Controlling.{controller_of}
use Rattle.port_model.specs.Port.{labels_of}
use Rattle.port_model.specs.Redirection.{greatest_tally}
use Rattle.world_model.specs.Controller.{Linked}
use Rattle.tell_show.proofs.Along.{Item, item_at}
use Rattle.tell_show.proofs.Ends.{labels_are}
use Rattle.tell_show.proofs.Sums.{sum_all, sum_more}
use Rattle.tell_show.proofs.shown_controller.ControllerShownController.labels.Goals as goal

pub loop-place-preserved : goal.loop-place-preserved
loop-place-preserved g c =
    let seen = g.E.PortEngine.seen in
    let ports : List Linked = (controller_of seen c.args.self.now).ports in
    let i = c.loop-place.place in
    let found : Item ports i = item_at ports i (omega (arith, c.loop-place-test.true, c.ports-place-end.ensures)) in
    c.saturating_add-labels.ensures
    ∙ ap (λ (n : ℕ). min (c.loop-place.labels + n) greatest_tally) (c.held.ensures ∙ labels_are (slice_get ports i) found.item (seen c.link_at.result.now) found.is c.link_at.ensures)
    ∙ sum_more (λ (linked : Linked). length (labels_of linked.port)) ports i found.item greatest_tally c.loop-place.labels found.is c.loop-place.invariant

pub returns : goal.returns
returns g c =
    let ports : List Linked = (controller_of g.E.PortEngine.seen c.args.self.now).ports in
    sum_all (λ (linked : Linked). length (labels_of linked.port)) ports c.loop-place.place greatest_tally c.loop-place.labels
    (omega (arith, c.loop-place-test.false, c.loop-place.auto.place-end, c.ports-place-end.ensures)) c.loop-place.invariant
