use Rattle.cell_pool.specs.Shares.{IsApartFromEach}
use Rattle.fabric.proofs.Chains.{chain_drained}
use Rattle.fabric.proofs.fabric.Fabric.chain_drain.Goals as goal

pub invariant_of-self : goal.invariant_of-self
invariant_of-self c =
    let apart : IsApartFromEach c.self.inside.pool c.self.inside.queues.items c.args.chain = rw (← c.self.view_is) at c.requires.apart in
    let next = chain_drained c.self.inside.branches c.self.inside.queues.items c.self.inside.pool c.drain.new.pool c.args.chain c.self.invariant.share apart c.drain.ensures in
    record { nine = c.self.invariant.nine; share = next.share }

pub returns-clause-queues : goal.returns-clause-queues
returns-clause-queues c =
    let apart : IsApartFromEach c.self.inside.pool c.self.inside.queues.items c.args.chain = rw (← c.self.view_is) at c.requires.apart in
    rw (← c.self.view_is) (chain_drained c.self.inside.branches c.self.inside.queues.items c.self.inside.pool c.drain.new.pool c.args.chain c.self.invariant.share apart c.drain.ensures)
