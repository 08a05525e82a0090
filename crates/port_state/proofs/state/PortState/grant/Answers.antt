use Rattle.port_state.proofs.Labelled.{read_label}
use Rattle.port_state.proofs.state.PortState.grant.Goals as goal

pub returns-clause-range : goal.returns-clause-range
returns-clause-range g c = read_label c.self.inside.grants.grants c.len-many.ensures.labels c.args.label c.get.result c.get.ensures
