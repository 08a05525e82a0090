use Rattle.std.proofs.Common.{◌≡◌, true, map, take, ap, sym, subst, ◌∙◌, arith}
use Rattle.std.specs.Option.{option_map}
use Rattle.controller_link.specs.Cells.{is_channel}
use Rattle.controller_link.specs.declared.taker.Taker as control
use Rattle.world_model.specs.Controller.{Acted}
use Rattle.world_model.specs.Cells.{frame_holds, taker_of}
use Rattle.controller_router.specs.Cells.{channel_of, receipt}
use Rattle.controller_router.specs.Node as node
use Rattle.controller_router.specs.Node.{Node, linked_range}
use Rattle.controller_joining.specs.Joining.{acted}
use Rattle.controller_joining.proofs.Kept.{ok_onward}
use Rattle.law_joining_conditions.specs.law_controller_conditions.Routes.{HasLinkRoutes}
use Rattle.law_joining_conditions.proofs.law_controller_conditions.Cells.{cells_can_come}
use Rattle.law_joining_conditions.proofs.Frames.{frames_can_be_taken}
use Rattle.controller.specs.Frames.{CanAct, IsActing}
use Rattle.controller.proofs.Frames.{acts_after, can_act, frame_ended, nothing_ended, routes_after, taker_is}
use Rattle.controller.proofs.cells.take_cell.Goals as goal

pub receive-requires-clause-channel : goal.receive-requires-clause-channel
receive-requires-clause-channel g c =
    let seen = g.E.PortEngine.seen in
    let a = acted seen c.args.router.now c.args.notes.now c.args.numbers.now in
    let cell = c.args.cell.now in
    let right = c.requires.right in
    let t = taker_is (taker_of a.controller cell.header.channel) c.in-Some.taker (sym c.in-Some.is ∙ c.taker_of.ensures ∙ ap (λ (n : Node _). option_map channel_of (taker_of (node.controller_of seen n) cell.header.channel)) c.router.ensures) in
    let there = cells_can_come.found a cell.header.channel t.taker right.kept t.is in
    subst (λ (channel : control.Taker). is_channel (map linked_range a.controller.ports) channel ≡ true) t.channel_is (cells_can_come.channels a cell.header.channel t.taker right.kept t.is)

pub take_frame-requires-clause-may : goal.take_frame-requires-clause-may
take_frame-requires-clause-may g c =
    let seen = g.E.PortEngine.seen in
    let a = acted seen c.args.router.now c.args.notes.now c.args.numbers.now in
    let cell = c.args.cell.now in
    let right = c.requires.right in
    let t = taker_is (taker_of a.controller cell.header.channel) c.in-Some.taker (sym c.in-Some.is ∙ c.taker_of.ensures ∙ ap (λ (n : Node _). option_map channel_of (taker_of (node.controller_of seen n) cell.header.channel)) c.router.ensures) in
    let there = cells_can_come.found a cell.header.channel t.taker right.kept t.is in
    let r = receipt a t.taker cell in
    let e = c.in_ok-len.ensures.acted t.taker c.args.numbers.now t.channel_is there in
    record {
      joined = c.in_ok-len.ensures.joined t.taker t.channel_is there;
      frame = c.requires.mark;
      routes = subst (λ (x : Acted). HasLinkRoutes x.controller) (sym e) (routes_after a t.taker r right.routes);
      control = omega (arith, c.requires.numbers.controls);
    }

pub take_frame-requires-clause-can : goal.take_frame-requires-clause-can
take_frame-requires-clause-can g c =
    let seen = g.E.PortEngine.seen in
    let a = acted seen c.args.router.now c.args.notes.now c.args.numbers.now in
    let cell = c.args.cell.now in
    let right = c.requires.right in
    let t = taker_is (taker_of a.controller cell.header.channel) c.in-Some.taker (sym c.in-Some.is ∙ c.taker_of.ensures ∙ ap (λ (n : Node _). option_map channel_of (taker_of (node.controller_of seen n) cell.header.channel)) c.router.ensures) in
    let there = cells_can_come.found a cell.header.channel t.taker right.kept t.is in
    let r = receipt a t.taker cell in
    let e = c.in_ok-len.ensures.acted t.taker c.args.numbers.now t.channel_is there in
    let given = c.in_ok-len.ensures.payload t.taker c.args.numbers.now t.channel_is there in
    let payload = take c.in-Some-2.len c.receive.new.octets in
    let is = sym given ∙ ap (option_map (λ n. take n c.receive.new.octets)) c.in-Some-2.is in
    let can = frames_can_be_taken a t.taker cell payload right.kept c.requires.numbers t.is is in
    subst (λ (channel : control.Taker). CanAct (acted seen c.receive.new.self c.receive.new.notes c.args.numbers.now) channel cell.mark payload) t.channel_is
    (subst (λ (x : Acted). CanAct x (channel_of t.taker) cell.mark payload) (sym e) (can_act _ t.taker cell.mark payload can.kept can.holds))

pub returns-in-Some-2-clause-acted : goal.returns-in-Some-2-clause-acted
returns-in-Some-2-clause-acted g c =
    let seen = g.E.PortEngine.seen in
    let a = acted seen c.args.router.now c.args.notes.now c.args.numbers.now in
    let cell = c.args.cell.now in
    let right = c.requires.right in
    let t = taker_is (taker_of a.controller cell.header.channel) c.in-Some.taker (sym c.in-Some.is ∙ c.taker_of.ensures ∙ ap (λ (n : Node _). option_map channel_of (taker_of (node.controller_of seen n) cell.header.channel)) c.router.ensures) in
    let there = cells_can_come.found a cell.header.channel t.taker right.kept t.is in
    let r = receipt a t.taker cell in
    let e = c.in_ok-len.ensures.acted t.taker c.args.numbers.now t.channel_is there in
    let given = c.in_ok-len.ensures.payload t.taker c.args.numbers.now t.channel_is there in
    let payload = take c.in-Some-2.len c.receive.new.octets in
    let is = sym given ∙ ap (option_map (λ n. take n c.receive.new.octets)) c.in-Some-2.is in
    let acting = subst (λ (x : Acted). IsActing x.controller t.taker) (sym e) (acts_after a t.taker r there) in
    ok_onward c.take_frame.result _ _ _ (ap (λ (x : Acted). frame_holds x t.taker cell.mark payload) e ∙ frame_ended a t.taker cell payload t.is is) (c.take_frame.ensures.acted t.taker t.channel_is acting)

pub returns-in-None-clause-acted : goal.returns-in-None-clause-acted
returns-in-None-clause-acted g c =
    let seen = g.E.PortEngine.seen in
    let a = acted seen c.args.router.now c.args.notes.now c.args.numbers.now in
    let cell = c.args.cell.now in
    let right = c.requires.right in
    let t = taker_is (taker_of a.controller cell.header.channel) c.in-Some.taker (sym c.in-Some.is ∙ c.taker_of.ensures ∙ ap (λ (n : Node _). option_map channel_of (taker_of (node.controller_of seen n) cell.header.channel)) c.router.ensures) in
    let there = cells_can_come.found a cell.header.channel t.taker right.kept t.is in
    let r = receipt a t.taker cell in
    let e = c.in_ok-len.ensures.acted t.taker c.args.numbers.now t.channel_is there in
    let given = c.in_ok-len.ensures.payload t.taker c.args.numbers.now t.channel_is there in
    let none = sym given ∙ ap (option_map (λ n. take n c.receive.new.octets)) c.in-None.is in
    e ∙ nothing_ended a t.taker cell t.is none

pub returns-in-None-clause-joined : goal.returns-in-None-clause-joined
returns-in-None-clause-joined g c =
    let seen = g.E.PortEngine.seen in
    let a = acted seen c.args.router.now c.args.notes.now c.args.numbers.now in
    let cell = c.args.cell.now in
    let right = c.requires.right in
    let t = taker_is (taker_of a.controller cell.header.channel) c.in-Some.taker (sym c.in-Some.is ∙ c.taker_of.ensures ∙ ap (λ (n : Node _). option_map channel_of (taker_of (node.controller_of seen n) cell.header.channel)) c.router.ensures) in
    let there = cells_can_come.found a cell.header.channel t.taker right.kept t.is in
    c.in_ok-len.ensures.joined t.taker t.channel_is there
