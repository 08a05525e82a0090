use Rattle.std.proofs.Common.{◌≡◌, ◌+◌, ◌-◌, ◌++◌, take, drop, length, ap, arith}
use Rattle.lab_io.specs.Lines.{Reader}
use Rattle.lab_io.proofs.Buffers.{filled, unfilled, written_back}
use Rattle.lab_io.proofs.Sights.{on_err, saw_none}
use Rattle.lab_io.proofs.line_reader.LineReader.fill.Goals as goal

pub returns-clause-saw : goal.returns-clause-saw
returns-clause-saw g c =
    let moved : length c.with_room_behind-self-inside.new.buffer ≡ c.self.inside.buffer.len =
    omega (arith, c.with_room_behind-self-inside.auto.buffer, c.deref_mut.ensures.len) in
    let read : length c.read_at.new.buffer ≡ c.self.inside.buffer.len = omega (arith, c.read_at.auto.buffer, c.deref_mut-2.ensures.len) in
    let moved_is = written_back c.with_room_behind-self-inside.new.buffer c.self.inside.buffer.items c.self.inside.buffer.len moved in
    let read_is = written_back c.read_at.new.buffer c.with_room_behind-self-inside.new.buffer c.self.inside.buffer.len read in
    rw (moved_is, read_is)
    (filled _ c.self.inside.buffer.items c.with_room_behind-self-inside.new.buffer c.read_at.new.buffer c.self.inside.start c.self.inside.end
    c.with_room_behind-self-inside.result c.in_ok-count.count _ _ (ap (λ (r : Reader). r.held) c.self.view_is)
    (rw c.deref_mut.ensures.value at c.with_room_behind-self-inside.ensures.part) (rw (c.deref_mut-2.ensures.value, moved_is) at c.in_ok-count.ensures.front)
    c.in_ok-count.ensures.octets)

pub returns-in_err-count-clause-saw : goal.returns-in_err-count-clause-saw
returns-in_err-count-clause-saw g c =
    let moved : length c.with_room_behind-self-inside.new.buffer ≡ c.self.inside.buffer.len =
    omega (arith, c.with_room_behind-self-inside.auto.buffer, c.deref_mut.ensures.len) in
    let read : length c.read_at.new.buffer ≡ c.self.inside.buffer.len = omega (arith, c.read_at.auto.buffer, c.deref_mut-2.ensures.len) in
    let moved_is = written_back c.with_room_behind-self-inside.new.buffer c.self.inside.buffer.items c.self.inside.buffer.len moved in
    let read_is = written_back c.read_at.new.buffer c.with_room_behind-self-inside.new.buffer c.self.inside.buffer.len read in
    saw_none _ _ _ _
    (rw (moved_is, read_is)
    (unfilled _ c.self.inside.buffer.items c.with_room_behind-self-inside.new.buffer c.read_at.new.buffer c.self.inside.start c.self.inside.end
    c.with_room_behind-self-inside.result (ap (λ (r : Reader). r.held) c.self.view_is)
    (rw c.deref_mut.ensures.value at c.with_room_behind-self-inside.ensures.part) (rw (c.deref_mut-2.ensures.value, moved_is) at c.in_err-count.ensures.front)))
    c.in_err-count.ensures.kept

pub returns-in_err-count-clause-kept : goal.returns-in_err-count-clause-kept
returns-in_err-count-clause-kept g c =
    let moved : length c.with_room_behind-self-inside.new.buffer ≡ c.self.inside.buffer.len =
    omega (arith, c.with_room_behind-self-inside.auto.buffer, c.deref_mut.ensures.len) in
    let read : length c.read_at.new.buffer ≡ c.self.inside.buffer.len = omega (arith, c.read_at.auto.buffer, c.deref_mut-2.ensures.len) in
    let moved_is = written_back c.with_room_behind-self-inside.new.buffer c.self.inside.buffer.items c.self.inside.buffer.len moved in
    let read_is = written_back c.read_at.new.buffer c.with_room_behind-self-inside.new.buffer c.self.inside.buffer.len read in
    on_err {P = take (c.with_room_behind-self-inside.result + (c.self.inside.end - c.self.inside.start) - c.with_room_behind-self-inside.result) (drop c.with_room_behind-self-inside.result (take c.self.inside.buffer.len (c.read_at.new.buffer ++ drop (length c.read_at.new.buffer) (take c.self.inside.buffer.len (c.with_room_behind-self-inside.new.buffer ++ drop (length c.with_room_behind-self-inside.new.buffer) c.self.inside.buffer.items))))) ≡ c.args.self.now.held} _
    (rw (moved_is, read_is)
    (unfilled c.args.self.now.held c.self.inside.buffer.items c.with_room_behind-self-inside.new.buffer c.read_at.new.buffer c.self.inside.start c.self.inside.end
    c.with_room_behind-self-inside.result (ap (λ (r : Reader). r.held) c.self.view_is)
    (rw c.deref_mut.ensures.value at c.with_room_behind-self-inside.ensures.part) (rw (c.deref_mut-2.ensures.value, moved_is) at c.in_err-count.ensures.front)))
