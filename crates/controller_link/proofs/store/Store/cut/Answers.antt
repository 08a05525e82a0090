use Rattle.std.proofs.Common.{◌<◌, ◌∙◌, ap, length, arith}
use Rattle.std.proofs.lemmas.List.{length-map}
use Rattle.reassembly.specs.Receipt.{reassembly_in}
use Rattle.controller_link.specs.Store.{stored, with_chain}
use Rattle.controller_link.proofs.Regions.{chain_threaded, region_after, stored_after}
use Rattle.controller_link.proofs.store.Store.cut.Goals as goal

pub cut-requires-clause-threaded : goal.cut-requires-clause-threaded
cut-requires-clause-threaded c =
    let within : c.args.place < length c.self.inside.chains.items = omega (arith, length-map c.self.inside.chains.items (reassembly_in c.self.inside.pool), rw (← c.self.view_is) at c.requires) in
    chain_threaded c.self.inside.pool c.self.inside.queue c.self.inside.chains.items c.args.place c.index_mut-chain.result.now c.self.invariant within c.index_mut-chain.ensures.value

pub invariant_of-self : goal.invariant_of-self
invariant_of-self c =
    let within : c.args.place < length c.self.inside.chains.items = omega (arith, length-map c.self.inside.chains.items (reassembly_in c.self.inside.pool), rw (← c.self.view_is) at c.requires) in
    region_after c.self.inside.pool c.cut.new.store c.self.inside.queue c.self.inside.chains.items c.self.invariant c.args.place c.index_mut-chain.result.now c.cut.new.self within c.index_mut-chain.ensures.value c.cut.ensures.chain.chain

pub returns-clause-store : goal.returns-clause-store
returns-clause-store c =
    let within : c.args.place < length c.self.inside.chains.items = omega (arith, length-map c.self.inside.chains.items (reassembly_in c.self.inside.pool), rw (← c.self.view_is) at c.requires) in
    rw (← c.self.view_is)
    (stored_after c.self.inside.pool c.cut.new.store c.self.inside.queue c.self.inside.chains.items c.self.invariant c.args.place c.index_mut-chain.result.now c.cut.new.self within c.index_mut-chain.ensures.value c.cut.ensures.chain.chain
    ∙ ap (with_chain (stored c.self.inside.pool c.self.inside.queue c.self.inside.chains.items) c.args.place) c.cut.ensures.reassembly)
