use Rattle.std.proofs.Common.{◌<◌, length, length-set, ◌∙◌, arith}
use Rattle.reassembly.proofs.Chains.{taking_more}
use Rattle.reassembly.proofs.chain.take_all.Goals as goal

pub loop-place-preserved : goal.loop-place-preserved
loop-place-preserved g c =
    let before = c.loop-place.invariant in
    let within : c.loop-place.place < length c.loop-place.out = omega (arith, c.loop-place-test.true, before.room) in
    record {
      taking = taking_more (g.S.ChainStore.region c.args.store.now) (g.S.ChainStore.region c.loop-place.store) (g.S.ChainStore.region c.chain_pop.new.self) (g.S.ChainStore.lines c.args.store.now) (g.S.ChainStore.lines c.loop-place.store)
          c.args.chain.now c.loop-place.chain c.chain_pop.new.chain c.loop-place.out c.loop-place.place (length c.args.out.now) c.in-Some.cell within before.lines before.taking c.chain_pop.ensures.chain c.in-Some.ensures.popped;
      room = length-set c.loop-place.out c.loop-place.place c.in-Some.cell ∙ before.room;
      lines = c.chain_pop.ensures.lines ∙ before.lines;
      rest = c.chain_pop.ensures.rest ∙ before.rest;
    }
