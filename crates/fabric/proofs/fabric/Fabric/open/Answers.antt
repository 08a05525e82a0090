use Rattle.std.proofs.Common.{◌≡◌, ◌++◌, ◌∷◌, [], List, length, length-append, refl, ap, arith, rules}
use Rattle.std.proofs.lemmas.Simd.{splat_is_map}
use Rattle.atm_cells.specs.declared.cell.Cell.{Cell}
use Rattle.cell_pool.specs.Region.{Line, len_of, IsLine}
use Rattle.cell_pool.proofs.Lines.{share_empty, map-cells_of-empty}
use Rattle.fabric.proofs.Queues.{each_push}
use Rattle.fabric.proofs.fabric.Fabric.open.Goals as goal

pub loop-queues-preserved : goal.loop-queues-preserved
loop-queues-preserved c =
    let is : c.push-pushed.new.self.items ≡ c.loop-queues.queues.items ++ c.new.result ∷ [] = search rules in
    record {
      few = omega (arith, ap length is, length-append {A = Line});
      room = omega (arith, c.push-pushed.ensures.capacity);
      lines = λ r. rw is (each_push (IsLine r) c.loop-queues.queues.items c.new.result (c.loop-queues.invariant.lines r) (c.new.ensures.threaded r));
      empty = rw is (each_push (λ l. len_of l ≡ 0) c.loop-queues.queues.items c.new.result c.loop-queues.invariant.empty c.new.ensures.empty);
    }

pub invariant_of-result : goal.invariant_of-result
invariant_of-result c =
    record {
      nine = omega arith;
      share = share_empty c.in_ok-pool.pool c.loop-queues.queues.items (c.loop-queues.invariant.lines c.in_ok-pool.pool) c.loop-queues.invariant.empty;
    }

pub returns-clause-empty : goal.returns-clause-empty
returns-clause-empty c =
    let nine : length c.loop-queues.queues.items ≡ 9 = omega arith in
    let none = map-cells_of-empty c.in_ok-pool.pool c.loop-queues.queues.items (c.loop-queues.invariant.lines c.in_ok-pool.pool) c.loop-queues.invariant.empty in
    let nothing : List Cell = [] in
    rw (none, ← splat_is_map c.loop-queues.queues.items 9 nothing nine, c.in_ok-branches.ensures) refl

pub returns-clause-share : goal.returns-clause-share
returns-clause-share c = share_empty c.in_ok-pool.pool c.loop-queues.queues.items (c.loop-queues.invariant.lines c.in_ok-pool.pool) c.loop-queues.invariant.empty
