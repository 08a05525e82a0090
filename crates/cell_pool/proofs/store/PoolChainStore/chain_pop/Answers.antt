use Rattle.cell_pool.specs.Region.{IsLine}
use Rattle.cell_pool.specs.Steps.{IsPut}
use Rattle.cell_pool.proofs.Lines.{changes_alone, line_popped}
use Rattle.cell_pool.proofs.store.PoolChainStore.chain_pop.Goals as goal

pub returns-clause-chain : goal.returns-clause-chain
returns-clause-chain c =
    let rest : IsLine c.args.self.now c.pop.new.self = rw c.pop.ensures.region at c.pop.ensures.threaded in
    let put : IsPut c.args.self.now c.put.new.self c.in_ok-slot.slot = rw c.pop.ensures.region at c.put.ensures in
    changes_alone c.args.self.now c.put.new.self c.args.chain.now c.pop.new.self
    (line_popped c.args.self.now c.put.new.self c.args.chain.now c.pop.new.self c.in_ok-slot.slot c.in_ok-slot.ensures.some rest put)
