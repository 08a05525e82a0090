use Rattle.cell_pool.specs.Region.{IsLine}
use Rattle.cell_pool.specs.Steps.{IsPut}
use Rattle.cell_pool.specs.Shares.{IsApartFromEach}
use Rattle.cell_pool.proofs.Lines.{line_popped}
use Rattle.fabric.proofs.Chains.{chain_changes}
use Rattle.fabric.proofs.fabric.Fabric.chain_pop.Goals as goal

pub invariant_of-self-2 : goal.invariant_of-self-2
invariant_of-self-2 c =
    let apart : IsApartFromEach c.self.inside.pool c.self.inside.queues.items c.args.chain.now = rw (← c.self.view_is) at c.requires.apart in
    let line : IsLine c.self.inside.pool c.args.chain.now = rw (← c.self.view_is) at c.requires.threaded in
    let rest : IsLine c.self.inside.pool c.pop.new.self = rw c.pop.ensures.region at c.pop.ensures.threaded in
    let put : IsPut c.self.inside.pool c.put.new.self c.in_ok-slot.slot = rw c.pop.ensures.region at c.put.ensures in
    let changed = line_popped c.self.inside.pool c.put.new.self c.args.chain.now c.pop.new.self c.in_ok-slot.slot c.in_ok-slot.ensures.some rest put in
    let next = chain_changes c.self.inside.branches c.self.inside.queues.items c.self.inside.pool c.put.new.self c.args.chain.now c.pop.new.self c.self.invariant.share apart changed in
    record { nine = c.self.invariant.nine; share = next.queues.share }

pub returns-clause-chain : goal.returns-clause-chain
returns-clause-chain c =
    let apart : IsApartFromEach c.self.inside.pool c.self.inside.queues.items c.args.chain.now = rw (← c.self.view_is) at c.requires.apart in
    let line : IsLine c.self.inside.pool c.args.chain.now = rw (← c.self.view_is) at c.requires.threaded in
    let rest : IsLine c.self.inside.pool c.pop.new.self = rw c.pop.ensures.region at c.pop.ensures.threaded in
    let put : IsPut c.self.inside.pool c.put.new.self c.in_ok-slot.slot = rw c.pop.ensures.region at c.put.ensures in
    let changed = line_popped c.self.inside.pool c.put.new.self c.args.chain.now c.pop.new.self c.in_ok-slot.slot c.in_ok-slot.ensures.some rest put in
    rw (← c.self.view_is) (chain_changes c.self.inside.branches c.self.inside.queues.items c.self.inside.pool c.put.new.self c.args.chain.now c.pop.new.self c.self.invariant.share apart changed)
