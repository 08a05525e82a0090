use Rattle.std.proofs.Common.{Bool, ap, sym, ◌∙◌, if◌then◌else◌}
use Rattle.port_model.specs.Setup.{label_end}
use Rattle.controller_joins.specs.world_model.Asking.{takes_back}
use Rattle.controller_joins.specs.world_model.Changes.{takes_join_back}
use Rattle.controller_joins.specs.declared.places.Joined.{Joined}
use Rattle.controller_joining.specs.Joining.{Joining, acted}
use Rattle.controller_joining.proofs.Kept.{ok_onward}
use Rattle.controller_joining.proofs.joining.JoiningRouter.take_join_back.Goals as goal

pub is_changed-requires : goal.is_changed-requires
is_changed-requires g c = (c.requires.0, c.requires.1, c.requires.2)

pub returns-clause-acted : goal.returns-clause-acted
returns-clause-acted g c = λ join is grant.
    let a = acted g.E.PortEngine.seen c.args.self.now c.args.notes.now c.args.numbers.now in
    let changes = sym (c.is_changed.ensures join grant is) ∙ c.if-not-is_changed.false in
    ok_onward c.take_back.result _ _ _
    (ap (λ (j : Joining _). takes_back (acted g.E.PortEngine.seen j c.args.notes.now c.args.numbers.now) c.args.joined.now.input c.output_of-output.result) c.self.view_is
    ∙ ap (takes_back a c.args.joined.now.input) c.output_of-output.ensures ∙ ap (λ (x : Joined). takes_back a x.input (label_end x.port x.label)) (sym is)
    ∙ sym (ap (λ (t : Bool). if t then takes_join_back a join else a) changes)) c.take_back.ensures.acted
