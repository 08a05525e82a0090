use Rattle.std.proofs.Common.{◌≡◌, ◌-◌, ◌+◌, ◌≤◌, refl, ap, length, take, drop, arith, length-take-le, length-take, ℕ}
use Rattle.lab_io.specs.Lines.{Reader}
use Rattle.lab_io.proofs.Buffers.{part_behind}
use Rattle.lab_io.proofs.line_reader.LineReader.give.Goals as goal

pub returns-clause-after : goal.returns-clause-after
returns-clause-after c =
    let held : length (take (c.self.inside.end - c.self.inside.start) (drop c.self.inside.start c.self.inside.buffer.items)) ≡ length c.args.self.now.held =
    ap (λ (r : Reader). length r.held) c.self.view_is in
    let within : c.self.inside.start + c.args.len ≤ c.self.inside.end =
    omega (arith, c.requires, c.self.invariant.0, length-take {A = ℕ}) in
    let size : length (take c.args.len (drop c.self.inside.start c.self.inside.buffer.items)) ≡ c.args.len =
    length-take-le c.args.len (drop c.self.inside.start c.self.inside.buffer.items) (omega (arith, c.requires, length-take {A = ℕ})) in
    rw (size, ← c.self.view_is, part_behind c.self.inside.buffer.items c.self.inside.start c.self.inside.end c.args.len within) refl
