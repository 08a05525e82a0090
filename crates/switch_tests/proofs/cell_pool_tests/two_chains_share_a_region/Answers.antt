use Rattle.std.proofs.Common.{◌≡◌, ◌+◌, rules}
use Rattle.cell_pool.specs.Region.{len_of}
use Rattle.cell_pool.proofs.Pairs.{AreTwo, first_changes, second_changes, one_longer}
use Rattle.switch_tests.proofs.cell_pool_tests.two_chains_share_a_region.Goals as goal

pub loop-k-preserved : goal.loop-k-preserved
loop-k-preserved g c =
    let before = c.loop-k.invariant.two in
    let mid : AreTwo c.chain_push.new.self c.chain_push.new.chain c.loop-k.even = first_changes c.loop-k.pool c.chain_push.new.self c.loop-k.odd c.loop-k.even c.chain_push.new.chain before c.chain_push.ensures.chain in
    let odd : len_of c.chain_push.new.chain ≡ len_of c.loop-k.odd + 1 = one_longer c.loop-k.pool c.chain_push.new.self c.loop-k.odd c.chain_push.new.chain c.cell.result (search rules) in
    let even : len_of c.chain_push-in-loop-k.new.chain ≡ len_of c.loop-k.even + 1 = one_longer c.chain_push.new.self c.chain_push-in-loop-k.new.self c.loop-k.even c.chain_push-in-loop-k.new.chain c.cell-in-loop-k.result (search rules) in
    record {
      two = second_changes c.chain_push.new.self c.chain_push-in-loop-k.new.self c.chain_push.new.chain c.loop-k.even c.chain_push-in-loop-k.new.chain mid c.chain_push-in-loop-k.ensures.chain;
      odd = search rules;
      even = search rules;
    }

pub loop-k-2-preserved : goal.loop-k-2-preserved
loop-k-2-preserved g c =
    second_changes c.chain_pop.new.self c.chain_pop-in-loop-k-2.new.self c.chain_pop.new.chain c.loop-k-2.even c.chain_pop-in-loop-k-2.new.chain
    (first_changes c.loop-k-2.pool c.chain_pop.new.self c.loop-k-2.odd c.loop-k-2.even c.chain_pop.new.chain c.loop-k-2.invariant c.chain_pop.ensures.chain)
    c.chain_pop-in-loop-k-2.ensures.chain
