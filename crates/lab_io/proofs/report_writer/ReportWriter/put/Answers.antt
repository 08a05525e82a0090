use Rattle.std.proofs.Common.{◌≡◌, ◌∙◌, ◌+◌, ◌-◌, ◌<◌, ℕ, ap, sym, arith, length, length-append, length-drop, length-take-le}
use Rattle.lab_io.specs.Report.{Writer}
use Rattle.lab_io.proofs.Puts.{put_failed, put_more}
use Rattle.lab_io.proofs.Sights.{on_err}
use Rattle.lab_io.proofs.report_writer.ReportWriter.put.Goals as goal

pub returns-in_err-make_room-clause-failed : goal.returns-in_err-make_room-clause-failed
returns-in_err-make_room-clause-failed g c =
    on_err _ (put_failed _ c.loop-done.self _ _ _ _ c.loop-done.done _ c.loop-done.invariant.put c.in_err-make_room.ensures.failed.0 c.in_err-make_room.ensures.failed.1)

pub loop-done-preserved : goal.loop-done-preserved
loop-done-preserved g c =
    let span : c.loop-done.done + c.min-count.result - c.loop-done.done ≡ c.min-count.result = omega arith in
    record {
      put = put_more _ c.loop-done.self c.make_room.new.self c.hold.new.self _ _ _ c.loop-done.done c.min-count.result _ c.loop-done.invariant.put
          c.in_ok-make_room.ensures.ok (rw span at (ap (λ (w : Writer). w.held) c.hold.ensures.held));
      room = ap (λ (w : Writer). w.room) c.hold.ensures.held ∙ c.in_ok-make_room.ensures.room ∙ c.loop-done.invariant.room;
      bound = c.hold.ensures.bound;
      limit = c.loop-done.invariant.limit ∙ sym (ap (λ (w : Writer). w.room) c.hold.ensures.held ∙ c.in_ok-make_room.ensures.room);
      faults = c.in_ok-make_room.ensures.faults ∙ c.loop-done.invariant.faults;
      within = omega arith;
      fits = λ room.
          (let before = c.loop-done.invariant.fits room in
          let some : length c.loop-done.self.held < c.loop-done.self.room = omega (arith, before.1, room, c.loop-done-test.true, c.loop-done.invariant.room) in
          let still = c.in_ok-make_room.ensures.unwritten some in (
            still.1 ∙ before.0,
            omega (arith, before.1, ap (λ (w : Writer). length w.held) still.0, ap (λ (w : Writer). length w.held) c.hold.ensures.held, length-append {A = ℕ}, length-drop {A = ℕ}, length-take-le {A = ℕ}),
          ));
    }

pub returns-in_err-make_room-clause-unwritten : goal.returns-in_err-make_room-clause-unwritten
returns-in_err-make_room-clause-unwritten g c = λ room.
    let before = c.loop-done.invariant.fits room in
    let some : length c.loop-done.self.held < c.loop-done.self.room = omega (arith, before.1, room, c.loop-done-test.true, c.loop-done.invariant.room) in
    (c.in_err-make_room.ensures.unwritten some).1 ∙ before.0
