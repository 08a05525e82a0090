use Rattle.cell_pool.specs.Region.{IsLine}
use Rattle.cell_pool.specs.Shares.{IsApartFromEach}
use Rattle.cell_pool.proofs.Lines.{line_sent}
use Rattle.fabric.proofs.Chains.{chain_changes}
use Rattle.fabric.proofs.fabric.Fabric.chain_push.Goals as goal

pub invariant_of-self-2 : goal.invariant_of-self-2
invariant_of-self-2 c =
    let apart : IsApartFromEach c.self.inside.pool c.self.inside.queues.items c.args.chain.now = rw (← c.self.view_is) at c.requires.apart in
    let line : IsLine c.self.inside.pool c.args.chain.now = rw (← c.self.view_is) at c.requires.threaded in
    let changed = line_sent c.self.inside.pool c.take.new.self c.push.new.pool c.args.chain.now c.push.new.self c.in-Some.slot c.args.cell.now line c.in-Some.ensures.some c.push.ensures.pushed in
    let next = chain_changes c.self.inside.branches c.self.inside.queues.items c.self.inside.pool c.push.new.pool c.args.chain.now c.push.new.self c.self.invariant.share apart changed in
    record { nine = c.self.invariant.nine; share = next.queues.share }

pub returns-clause-chain : goal.returns-clause-chain
returns-clause-chain c =
    let apart : IsApartFromEach c.self.inside.pool c.self.inside.queues.items c.args.chain.now = rw (← c.self.view_is) at c.requires.apart in
    let line : IsLine c.self.inside.pool c.args.chain.now = rw (← c.self.view_is) at c.requires.threaded in
    let changed = line_sent c.self.inside.pool c.take.new.self c.push.new.pool c.args.chain.now c.push.new.self c.in-Some.slot c.args.cell.now line c.in-Some.ensures.some c.push.ensures.pushed in
    rw (← c.self.view_is) (chain_changes c.self.inside.branches c.self.inside.queues.items c.self.inside.pool c.push.new.pool c.args.chain.now c.push.new.self c.self.invariant.share apart changed)
