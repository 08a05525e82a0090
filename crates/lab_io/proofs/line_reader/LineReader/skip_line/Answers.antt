use Rattle.std.proofs.Common.{◌≡◌, ◌∙◌, length, take, refl, arith, length-take-le}
use Rattle.lab_io.proofs.Buffers.{written_back}
use Rattle.lab_io.proofs.Ends.{not_late, still_unsaid}
use Rattle.lab_io.proofs.Feeds.{feed_found, feed_missing}
use Rattle.lab_io.proofs.Skips.{skip_ended, skip_found, skip_found_past, skipped_more}
use Rattle.lab_io.proofs.line_reader.LineReader.skip_line.Goals as goal

pub loop-read-preserved : goal.loop-read-preserved
loop-read-preserved g c =
    let whole : length c.read_at.new.buffer ≡ c.loop-read.self-inside.buffer.len = omega (arith, c.read_at.auto.buffer, c.deref_mut.ensures.len) in
    let read_is = written_back c.read_at.new.buffer c.loop-read.self-inside.buffer.items c.loop-read.self-inside.buffer.len whole in
    let size : length (take c.in_ok-count.count c.read_at.new.buffer) ≡ c.in_ok-count.count =
    length-take-le c.in_ok-count.count c.read_at.new.buffer (omega (arith, c.in_ok-count.ensures.bound)) in
    let more = skipped_more _ _ _ _ _ c.loop-read.read (take c.in_ok-count.count c.read_at.new.buffer) c.loop-read.invariant.skipped c.in_ok-count.ensures.octets
    (feed_missing (take c.in_ok-count.count c.read_at.new.buffer) (rw (c.deref.ensures.value, read_is) at c.in-None.ensures.place)) in
    record {
      skipped = rw size at more;
      faults = c.in_ok-count.ensures.faults ∙ c.loop-read.invariant.faults;
      within = omega (arith, c.in_ok-count.ensures.bound);
      start = c.loop-read.invariant.start;
      end = c.loop-read.invariant.end;
      given = c.loop-read.invariant.given;
      ended = c.loop-read.invariant.ended;
      buffer = rw read_is (omega (arith, c.read_at.auto.buffer, c.deref_mut.ensures.len, c.loop-read.invariant.buffer));
      unsaid = λ first. still_unsaid _ _ _ (c.loop-read.invariant.unsaid first) (c.if-count-eq0.false) c.in_ok-count.ensures.end_said;
      late = λ first. not_late _ _ _ (c.loop-read.invariant.unsaid first) c.in_ok-count.ensures.late ∙ c.loop-read.invariant.late first;
    }

pub returns-then-count-eq0-clause-next : goal.returns-then-count-eq0-clause-next
returns-then-count-eq0-clause-next g c =
    skip_ended _ _ _ _ _ c.loop-read.read (take c.in_ok-count.count c.read_at.new.buffer) c.loop-read.invariant.skipped c.loop-read-test.true c.in_ok-count.ensures.octets
    (rw c.if-count-eq0.true refl) refl

pub returns-in-Some-clause-next : goal.returns-in-Some-clause-next
returns-in-Some-clause-next g c =
    let whole : length c.read_at.new.buffer ≡ c.loop-read.self-inside.buffer.len = omega (arith, c.read_at.auto.buffer, c.deref_mut.ensures.len) in
    let read_is = written_back c.read_at.new.buffer c.loop-read.self-inside.buffer.items c.loop-read.self-inside.buffer.len whole in
    skip_found _ _ _ _ _ c.loop-read.read c.in-Some.place (take c.in_ok-count.count c.read_at.new.buffer) c.loop-read.invariant.skipped c.in_ok-count.ensures.octets
    (feed_found (take c.in_ok-count.count c.read_at.new.buffer) c.in-Some.place (rw (c.deref.ensures.value, read_is) at c.in-Some.ensures.place))
    (rw (c.deref.ensures.value, read_is) at c.in-Some.ensures.within) c.if-read-place-lt-INPUT_LIMIT.true

pub returns-in-Some-2-clause-next : goal.returns-in-Some-2-clause-next
returns-in-Some-2-clause-next g c =
    let whole : length c.read_at.new.buffer ≡ c.loop-read.self-inside.buffer.len = omega (arith, c.read_at.auto.buffer, c.deref_mut.ensures.len) in
    let read_is = written_back c.read_at.new.buffer c.loop-read.self-inside.buffer.items c.loop-read.self-inside.buffer.len whole in
    skip_found_past _ _ _ _ _ c.loop-read.read c.in-Some.place (take c.in_ok-count.count c.read_at.new.buffer) c.loop-read.invariant.skipped c.in_ok-count.ensures.octets
    (feed_found (take c.in_ok-count.count c.read_at.new.buffer) c.in-Some.place (rw (c.deref.ensures.value, read_is) at c.in-Some.ensures.place))
    (rw (c.deref.ensures.value, read_is) at c.in-Some.ensures.within) c.if-read-place-lt-INPUT_LIMIT.false
