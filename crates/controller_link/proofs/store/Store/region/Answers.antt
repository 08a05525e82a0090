use Rattle.controller_link.proofs.Regions.{free_is}
use Rattle.controller_link.proofs.store.Store.region.Goals as goal

pub returns-clause-free : goal.returns-clause-free
returns-clause-free c = rw (← c.self.view_is) (free_is c.self.inside.pool c.self.inside.queue c.self.inside.chains.items c.self.invariant)
