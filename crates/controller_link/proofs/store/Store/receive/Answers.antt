use Rattle.std.proofs.Common.{◌<◌, ◌∙◌, ap, length, arith}
use Rattle.std.proofs.lemmas.List.{length-map}
use Rattle.reassembly.specs.Receipt.{reassembly_in}
use Rattle.controller_link.specs.Store.{stored, with_chain}
use Rattle.controller_link.proofs.Regions.{chain_at, chain_threaded, free_is, region_after, stored_after}
use Rattle.controller_link.proofs.Regions.{on_ok}
use Rattle.controller_link.proofs.store.Store.receive.Goals as goal

pub receive-requires-clause-threaded : goal.receive-requires-clause-threaded
receive-requires-clause-threaded c =
    let within : c.args.place < length c.self.inside.chains.items = omega (arith, length-map c.self.inside.chains.items (reassembly_in c.self.inside.pool), rw (← c.self.view_is) at c.requires.place) in
    chain_threaded c.self.inside.pool c.self.inside.queue c.self.inside.chains.items c.args.place c.index_mut-chain.result.now c.self.invariant within c.index_mut-chain.ensures.value

pub invariant_of-self : goal.invariant_of-self
invariant_of-self c =
    let within : c.args.place < length c.self.inside.chains.items = omega (arith, length-map c.self.inside.chains.items (reassembly_in c.self.inside.pool), rw (← c.self.view_is) at c.requires.place) in
    region_after c.self.inside.pool c.receive.new.store c.self.inside.queue c.self.inside.chains.items c.self.invariant c.args.place c.index_mut-chain.result.now c.receive.new.self within c.index_mut-chain.ensures.value c.receive.ensures.chain.chain

pub returns-clause-store : goal.returns-clause-store
returns-clause-store c =
    let within : c.args.place < length c.self.inside.chains.items = omega (arith, length-map c.self.inside.chains.items (reassembly_in c.self.inside.pool), rw (← c.self.view_is) at c.requires.place) in
    let free = free_is c.self.inside.pool c.self.inside.queue c.self.inside.chains.items c.self.invariant in
    let at = chain_at c.self.inside.pool c.self.inside.queue c.self.inside.chains.items c.args.place c.index_mut-chain.result.now within c.index_mut-chain.ensures.value in
    let after = stored_after c.self.inside.pool c.receive.new.store c.self.inside.queue c.self.inside.chains.items c.self.invariant c.args.place c.index_mut-chain.result.now c.receive.new.self within c.index_mut-chain.ensures.value c.receive.ensures.chain.chain in
    rw (← c.self.view_is, at, ← free)
    (on_ok c.receive.result _ _ (λ is. after ∙ ap (with_chain (stored c.self.inside.pool c.self.inside.queue c.self.inside.chains.items) c.args.place) is) c.receive.ensures.reassembly)

pub returns-clause-notes : goal.returns-clause-notes
returns-clause-notes c =
    let within : c.args.place < length c.self.inside.chains.items = omega (arith, length-map c.self.inside.chains.items (reassembly_in c.self.inside.pool), rw (← c.self.view_is) at c.requires.place) in
    let free = free_is c.self.inside.pool c.self.inside.queue c.self.inside.chains.items c.self.invariant in
    let at = chain_at c.self.inside.pool c.self.inside.queue c.self.inside.chains.items c.args.place c.index_mut-chain.result.now within c.index_mut-chain.ensures.value in
    rw (← c.self.view_is, at, ← free) c.receive.ensures.notes

pub returns-clause-payload : goal.returns-clause-payload
returns-clause-payload c =
    let within : c.args.place < length c.self.inside.chains.items = omega (arith, length-map c.self.inside.chains.items (reassembly_in c.self.inside.pool), rw (← c.self.view_is) at c.requires.place) in
    let free = free_is c.self.inside.pool c.self.inside.queue c.self.inside.chains.items c.self.invariant in
    let at = chain_at c.self.inside.pool c.self.inside.queue c.self.inside.chains.items c.args.place c.index_mut-chain.result.now within c.index_mut-chain.ensures.value in
    rw (← c.self.view_is, at, ← free) c.receive.ensures.payload
