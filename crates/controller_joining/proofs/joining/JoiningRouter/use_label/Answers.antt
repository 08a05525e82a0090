use Rattle.std.proofs.Common.{[], ap, subst, sym, ◌∙◌}
use Rattle.net_types.specs.Number.{GivenOut}
use Rattle.link_model.specs.Notes.{Journal}
use Rattle.port_model.specs.Counting.{used}
use Rattle.controller_joins.specs.world_model.Controller.{Acted}
use Rattle.controller_joins.specs.world_model.Performing.{at_port}
use Rattle.law_join_facts.specs.Joins.{joined_in}
use Rattle.controller_router.specs.Node as node
use Rattle.controller_joining.specs.Joining.{AreJoined}
use Rattle.controller_joining.proofs.Kept.{stayed}
use Rattle.controller_joining.proofs.Passed.{used_stays}
use Rattle.controller_joining.proofs.joining.JoiningRouter.use_label.Goals as goal

pub returns-clause-joined : goal.returns-clause-joined
returns-clause-joined g c =
    let seen = g.E.PortEngine.seen in
    let numbers : GivenOut = record { instances = 0; controls = 0 } in
    let notes : Journal = record { records = []; entries = []; frames = [] } in
    let a = node.acted seen c.self.inside.router notes numbers in
    let before = subst (AreJoined seen) (sym c.self.view_is) c.requires.joined in
    let after = at_port a c.args.port (λ setup desk w. used w c.args.label) in
    ap (λ (x : Acted). joined_in x.controller) (c.use_label.ensures.acted notes numbers) ∙ stayed a after c.self.inside.joins (used_stays a c.args.port c.args.label) before

pub returns-clause-acted : goal.returns-clause-acted
returns-clause-acted g c = rw (← c.self.view_is) c.use_label.ensures.acted
