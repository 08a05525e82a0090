use Rattle.std.proofs.Common.{refl, ap, ◌≡◌, ◌<◌, ◌+◌, ◌^◌, None, sym, subst}
use Rattle.law_joining_conditions.specs.law_controller_facts.Inputs.{ChangeComes}
use Rattle.ipv4_forward.specs.Change.{change_fault}
use Rattle.controller_joining.specs.Joining.{acted, controller_of}
use Rattle.law_joining_conditions.proofs.Events.{changes_can_come}
use Rattle.node_controller.specs.Nodes.{NamesLinked, changes_of, table_to_be}
use Rattle.controller.proofs.Opened.{change_links}
use Rattle.controller.specs.Controlling.{Controlling, has_failed}
use Rattle.controller.proofs.Ended.{ends_by, was_ended}
use Rattle.controller.proofs.Rights.{draws, right_after, right_before, right_unless}
use Rattle.controller.proofs.node.ControllerNodeController.change.Goals as goal

pub change-result-requires-clause-can : goal.change-result-requires-clause-can
change-result-requires-clause-can g c =
    let seen = g.E.PortEngine.seen in
    let old = c.self.inside.router in
    let right = right_before seen old c.self.inside.failure c.in_default.is c.self.invariant in
    record {
      taken = subst (λ (j : Controlling _). change_fault (table_to_be (controller_of seen j.router)) c.args.change.now ≡ None) (sym c.self.view_is) c.requires.accepted;
      count = subst (λ (j : Controlling _). changes_of (controller_of seen j.router) + 1 < 2 ^ 32) (sym c.self.view_is) c.requires.count;
      changes = changes_can_come (acted seen old c.args.notes.now c.args.numbers.now) c.args.change.now right.kept c.requires.numbers;
    }

pub invariant_of-self : goal.invariant_of-self
invariant_of-self g c =
    let seen = g.E.PortEngine.seen in
    let old = c.self.inside.router in
    let right = right_before seen old c.self.inside.failure c.in_default.is c.self.invariant in
    let link = change_links (controller_of seen old) c.args.change.now right.kept (subst (λ (j : Controlling _). NamesLinked (controller_of seen j.router) c.args.change.now) (sym c.self.view_is) c.requires.port) in
    right_unless seen c.change-result.result c.change-result.new.self c.err-self-inside.result c.err-self-inside.ensures.value
    (right_after seen c.change-result.result old c.change-result.new.self c.args.notes.now c.change-result.new.notes c.args.numbers.now c.change-result.new.numbers (ChangeComes c.args.change.now) link right c.change-result.ensures.acted c.change-result.ensures.joined)

pub returns-clause-drawn : goal.returns-clause-drawn
returns-clause-drawn g c =
    let seen = g.E.PortEngine.seen in
    let old = c.self.inside.router in
    let right = right_before seen old c.self.inside.failure c.in_default.is c.self.invariant in
    draws seen c.change-result.result old c.change-result.new.self c.args.notes.now c.change-result.new.notes c.args.numbers.now c.change-result.new.numbers (ChangeComes c.args.change.now) tt right c.change-result.ensures.acted

pub returns-in-Some-clause-ends : goal.returns-in-Some-clause-ends
returns-in-Some-clause-ends g c = was_ended _ c.in-Some.error c.self.inside.failure c.args.self.now.failed refl c.in-Some.is (ap has_failed c.self.view_is)

pub returns-clause-ends : goal.returns-clause-ends
returns-clause-ends g c = ends_by c.change-result.result c.err-self-inside.result c.self.inside.failure c.args.self.now.failed c.err-self-inside.ensures.value c.in_default.is (ap has_failed c.self.view_is)
