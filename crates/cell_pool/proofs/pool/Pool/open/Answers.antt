use Rattle.std.proofs.Common.{◌-◌, length, ap, arith}
use Rattle.std.proofs.lemmas.List.FromFn.{length-range_with_len}
use Rattle.cell_pool.proofs.pool.Pool.open.Goals as goal

pub returns-clause-free : goal.returns-clause-free
returns-clause-free c =
    omega (
      arith,
      ap length c.in_ok-with_capacity.ensures.items,
      length-range_with_len (length c.in_ok-with_capacity.field-0.items) (c.args.n - length c.in_ok-with_capacity.field-0.items),
    )
