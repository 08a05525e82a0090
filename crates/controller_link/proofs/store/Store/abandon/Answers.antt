use Rattle.std.proofs.Common.{◌∙◌, List, ap, subst}
use Rattle.reassembly.specs.Receipt.{Gathering}
use Rattle.cell_pool.specs.Region.{Line}
use Rattle.cell_pool.specs.Shares.{ShareRegion}
use Rattle.cell_pool.proofs.Lines.{apart_last, line_last, share_drained, share_front}
use Rattle.controller_link.specs.Store.{lines}
use Rattle.controller_link.proofs.Regions.{last_line}
use Rattle.controller_link.proofs.store.Store.abandon.Goals as goal

pub abandon-requires-clause-threaded : goal.abandon-requires-clause-threaded
abandon-requires-clause-threaded c =
    let queue = c.self.inside.queue in
    let front : List Line = lines queue c.pop.new.self.items in
    line_last c.loop-chain.pool front c.in-Some.chain.chain
    (subst (λ (ls : List Line). ShareRegion c.loop-chain.pool ls) (ap (λ (gs : List Gathering). lines queue gs) c.in-Some.ensures.items ∙ last_line queue c.pop.new.self.items c.in-Some.chain) c.loop-chain.invariant)

pub loop-chain-preserved : goal.loop-chain-preserved
loop-chain-preserved c =
    let queue = c.self.inside.queue in
    let front : List Line = lines queue c.pop.new.self.items in
    let share = subst (λ (ls : List Line). ShareRegion c.loop-chain.pool ls) (ap (λ (gs : List Gathering). lines queue gs) c.in-Some.ensures.items ∙ last_line queue c.pop.new.self.items c.in-Some.chain) c.loop-chain.invariant in
    share_drained c.loop-chain.pool c.abandon.new.store front c.in-Some.chain.chain
    (share_front c.loop-chain.pool front c.in-Some.chain.chain share) (apart_last c.loop-chain.pool front c.in-Some.chain.chain share) c.abandon.ensures.drained
