use Rattle.cell_pool.proofs.Lines.{changes_alone, line_sent}
use Rattle.cell_pool.proofs.store.PoolChainStore.chain_push.Goals as goal

pub returns-clause-chain : goal.returns-clause-chain
returns-clause-chain c =
    changes_alone c.args.self.now c.push.new.pool c.args.chain.now c.push.new.self
    (line_sent c.args.self.now c.take.new.self c.push.new.pool c.args.chain.now c.push.new.self c.in-Some.slot c.args.cell.now c.requires.threaded c.in-Some.ensures.some c.push.ensures.pushed)
