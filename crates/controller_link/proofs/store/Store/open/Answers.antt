use Rattle.std.proofs.Common.{◌≡◌, ◌++◌, ◌∷◌, [], length, length-append, ap, arith, rules}
use Rattle.cell_pool.specs.Region.{IsLine, len_of}
use Rattle.frame_model.specs.Reassembly.{nothing_taken}
use Rattle.reassembly.specs.Receipt.{Gathering, reassembly_in}
use Rattle.controller_link.proofs.Regions.{each_push, opened_region, opened_stored}
use Rattle.controller_link.proofs.store.Store.open.Goals as goal

pub loop-chains-preserved : goal.loop-chains-preserved
loop-chains-preserved c =
    let is : c.push-pushed.new.self.items ≡ c.loop-chains.chains.items ++ c.new.result ∷ [] = search rules in
    record {
      few = omega (arith, ap length is, length-append {A = Gathering});
      room = omega (arith, c.push-pushed.ensures.capacity);
      lines = λ r. rw is (each_push (λ g. IsLine r g.chain) c.loop-chains.chains.items c.new.result (c.loop-chains.invariant.lines r) (c.new.ensures.threaded r));
      empty = rw is (each_push (λ g. len_of g.chain ≡ 0) c.loop-chains.chains.items c.new.result c.loop-chains.invariant.empty c.new.ensures.empty);
      nothing = λ r. rw is (each_push (λ g. reassembly_in r g ≡ nothing_taken) c.loop-chains.chains.items c.new.result (c.loop-chains.invariant.nothing r) (c.new.ensures.nothing r));
    }

pub invariant_of-result : goal.invariant_of-result
invariant_of-result c =
    let pool = c.in_ok-pool.pool in
    opened_region pool c.new-queue.result c.loop-chains.chains.items (c.new-queue.ensures.threaded pool) c.new-queue.ensures.empty (c.loop-chains.invariant.lines pool) c.loop-chains.invariant.empty (omega (arith, c.in_ok-pool.ensures.size, c.in_ok-pool.ensures.free))

pub returns : goal.returns
returns c =
    let pool = c.in_ok-pool.pool in
    let count : length c.loop-chains.chains.items ≡ c.args.count = omega (arith, c.loop-chains.invariant.few) in
    opened_stored pool c.new-queue.result c.loop-chains.chains.items (c.new-queue.ensures.threaded pool) c.new-queue.ensures.empty (c.loop-chains.invariant.lines pool) c.loop-chains.invariant.empty c.args.cells c.args.count c.in_ok-pool.ensures.size count (c.loop-chains.invariant.nothing pool)
