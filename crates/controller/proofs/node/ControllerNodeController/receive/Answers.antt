use Rattle.std.proofs.Common.{refl, ap}
use Rattle.law_joining_conditions.specs.law_controller_facts.Inputs.{CellComes}
use Rattle.controller.specs.Controlling.{has_failed}
use Rattle.controller.proofs.Ended.{ends_by, was_ended}
use Rattle.controller.proofs.Rights.{draws, right_after, right_before, right_unless}
use Rattle.controller.proofs.node.ControllerNodeController.receive.Goals as goal

pub invariant_of-self : goal.invariant_of-self
invariant_of-self g c =
    let seen = g.E.PortEngine.seen in
    let old = c.self.inside.router in
    let right = right_before seen old c.self.inside.failure c.in_default.is c.self.invariant in
    right_unless seen c.take_cell-result.result c.take_cell-result.new.router c.err-self-inside.result c.err-self-inside.ensures.value
    (right_after seen c.take_cell-result.result old c.take_cell-result.new.router c.args.notes.now c.take_cell-result.new.notes c.args.numbers.now c.take_cell-result.new.numbers (CellComes c.args.cell.now) tt right c.take_cell-result.ensures.acted c.take_cell-result.ensures.joined)

pub returns-clause-drawn : goal.returns-clause-drawn
returns-clause-drawn g c =
    let seen = g.E.PortEngine.seen in
    let old = c.self.inside.router in
    let right = right_before seen old c.self.inside.failure c.in_default.is c.self.invariant in
    draws seen c.take_cell-result.result old c.take_cell-result.new.router c.args.notes.now c.take_cell-result.new.notes c.args.numbers.now c.take_cell-result.new.numbers (CellComes c.args.cell.now) tt right c.take_cell-result.ensures.acted

pub returns-in-Some-clause-ends : goal.returns-in-Some-clause-ends
returns-in-Some-clause-ends g c = was_ended _ c.in-Some.error c.self.inside.failure c.args.self.now.failed refl c.in-Some.is (ap has_failed c.self.view_is)

pub returns-clause-ends : goal.returns-clause-ends
returns-clause-ends g c = ends_by c.take_cell-result.result c.err-self-inside.result c.self.inside.failure c.args.self.now.failed c.err-self-inside.ensures.value c.in_default.is (ap has_failed c.self.view_is)
