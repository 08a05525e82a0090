use Rattle.std.proofs.Common.{List, ap, ◌∙◌}
use Rattle.net_types.specs.declared.node.PortNo.{PortNo}
use Rattle.crossbar_model.specs.Channels.{is_connectable}
use Rattle.fabric.proofs.branches.Branches.is_connectable.Goals as goal

pub returns : goal.returns
returns c = rw (← c.self.view_is) (c.is_connectable.ensures ∙ ap (λ (ps : List PortNo). is_connectable ps c.self.inside.vpis c.args.end) c.deref.ensures.value)
