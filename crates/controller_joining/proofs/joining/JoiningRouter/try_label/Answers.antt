use Rattle.std.proofs.Common.{sym, ◌∙◌}
use Rattle.port_labels.specs.Read.{label_of}
use Rattle.port_model.specs.Setup.{label_end}
use Rattle.controller_joining.specs.Joining.{acted}
use Rattle.controller_joining.proofs.Kept.{ok_onward}
use Rattle.controller_joining.proofs.Tried.{plan, tried_is}
use Rattle.controller_joining.proofs.joining.JoiningRouter.try_label.Goals as goal

pub join-requires-clause-join : goal.join-requires-clause-join
join-requires-clause-join g c =
    let a = acted g.E.PortEngine.seen c.args.self.now c.args.notes.now c.args.numbers.now in
    let label = label_of c.args.label.now in
    (plan a c.args.port c.args.label.now.number label c.label_end-input.result c.in-Some.joined c.label_end-input.ensures c.requires.held c.requires.can (sym c.may_join.ensures ∙ c.if-not-may_join.false) c.in-Some.ensures).planned

pub returns-in-Some-clause-acted : goal.returns-in-Some-clause-acted
returns-in-Some-clause-acted g c =
    let a = acted g.E.PortEngine.seen c.args.self.now c.args.notes.now c.args.numbers.now in
    let label = label_of c.args.label.now in
    let p = plan a c.args.port c.args.label.now.number label c.label_end-input.result c.in-Some.joined c.label_end-input.ensures c.requires.held c.requires.can (sym c.may_join.ensures ∙ c.if-not-may_join.false) c.in-Some.ensures in
    ok_onward c.join.result _ _ _ (tried_is a c.args.label.now.number c.in-Some.joined (label_end c.args.port c.args.label.now.number) label p c.requires.held) (c.join.ensures.acted p.planned.join p.planned.is p.planned.can.grant)
