use Rattle.std.proofs.Common.{◌≡◌, ◌∙◌, ◌+◌, None, Some, length, sym, ap, inr, arith, length-append}
use Rattle.std.proofs.Math.Seq.{take-append_seam}
use Rattle.std.proofs.lemmas.Result.{IfOk-weaker}
use Rattle.lab_io.specs.Lines.{Reader, answer_in}
use Rattle.lab_io.specs.Reading.{IsCutOff}
use Rattle.lab_io.proofs.Feeds.{open_reader, still_open}
use Rattle.lab_io.proofs.Sights.{next_after, on_err, saw_after}
use Rattle.lab_io.proofs.line_reader.LineReader.next.Goals as goal

pub skip_line-requires-clause-no_feed : goal.skip_line-requires-clause-no_feed
skip_line-requires-clause-no_feed g c = (open_reader c.loop-len.self c.in-None.ensures.line).no_feed

pub returns-then-searched-gt-OPEN_LIMIT-clause-next : goal.returns-then-searched-gt-OPEN_LIMIT-clause-next
returns-then-searched-gt-OPEN_LIMIT-clause-next g c =
    IfOk-weaker c.skip_line.result _ _ (λ next said. next_after _ c.loop-len.self _ _ _ _ _ c.loop-len.invariant.saw c.loop-len.invariant.given said) c.skip_line.ensures.next

pub loop-len-preserved : goal.loop-len-preserved
loop-len-preserved g c =
    let none = (open_reader c.loop-len.self c.in-None.ensures.line).unanswered in
    let searched : length c.held-searched.result.now ≡ length c.loop-len.self.held = ap length c.held-searched.ensures in
    let longer : length c.fill.new.self.held ≡ length c.loop-len.self.held + length c.in_ok-fill.ensures.saw.read =
    ap length c.in_ok-fill.ensures.saw.behind ∙ length-append c.loop-len.self.held c.in_ok-fill.ensures.saw.read in
    record {
      saw = saw_after _ c.loop-len.self.held _ _ _ _ c.loop-len.invariant.saw c.in_ok-fill.ensures.saw;
      given = c.in_ok-fill.ensures.given ∙ c.loop-len.invariant.given;
      unended = λ _. c.loop-len.invariant.unended (open_reader c.loop-len.self c.in-None.ensures.line).unended;
      ended = λ e. inr (c.in_ok-fill.ensures.ended e);
      unread = λ answer told.
          (let same = (c.loop-len.invariant.unread answer told).0 in
          let said : answer_in c.loop-len.self.given c.loop-len.self.is_ended c.loop-len.self.held ≡ Some answer =
          ap (λ (r : Reader). answer_in r.given r.is_ended r.held) same ∙ told in
          let clash : None ≡ Some answer = sym none ∙ said in
          cc);
      faults = c.in_ok-fill.ensures.faults ∙ c.loop-len.invariant.faults;
      known = λ first. c.in_ok-fill.ensures.known (c.loop-len.invariant.known first);
      late = λ first. c.in_ok-fill.ensures.late (c.loop-len.invariant.known first) ∙ c.loop-len.invariant.late first;
      within = omega arith;
      no_feed = rw (c.held-searched.ensures, c.in_ok-fill.ensures.saw.behind, take-append_seam) (open_reader c.loop-len.self c.in-None.ensures.line).no_feed;
    }

pub returns-in_err-fill-clause-cut : goal.returns-in_err-fill-clause-cut
returns-in_err-fill-clause-cut g c =
    let none = open_reader c.loop-len.self c.in-None.ensures.line in
    let cut : IsCutOff c.args.self.now (g.S.Source.left c.args.source.now) (g.S.Source.left c.fill.new.source) =
    record {
      seen = c.fill.new.self.held;
      saw = saw_after _ c.loop-len.self.held _ _ _ _ c.loop-len.invariant.saw c.in_err-fill.ensures.saw;
      unanswered = still_open c.loop-len.self _ _ _ none c.loop-len.invariant.given (c.loop-len.invariant.unended none.unended) c.in_err-fill.ensures.kept;
    } in
    on_err _ cut
