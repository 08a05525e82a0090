use Rattle.std.proofs.Common.{◌≡◌, ◌≤◌, ℕ, ◌∙◌, sym, ap, Some, List, slice_get, length, arith}
use Rattle.std.proofs.lemmas.Result.{err_from_is_err_and}
use Rattle.port_model.specs.Ticks.{ticks_label}
use Rattle.port_state.specs.Engine.{setup_of}
use Rattle.port_state.specs.Parts.{numbers_of}
use Rattle.port_saying.specs.Rules.{begun}
use Rattle.port_saying.proofs.Halted.{ticks_nothing}
use Rattle.port_saying.proofs.Sequels.{round_break, round_end, round_skip, round_step}
use Rattle.redirect_state.proofs.ticks.tick_labels.Goals as goal
use Rattle.redirect_state.proofs.ticks.tick_labels.Goals.{in-Some+in_ok-tick_label, in_default}

pub returns-in_err-tick_label-clause-work : goal.returns-in_err-tick_label-clause-work
returns-in_err-tick_label-clause-work g c = λ n.
    let p = err_from_is_err_and c.from_residual-in_err-tick_label.result c.from_residual-in_err-tick_label.ensures.1 in
    let at : slice_get (numbers_of c.args.state.now.port) c.loop-place.place ≡ Some c.in-Some.number = ap (λ (ns : List ℕ). slice_get ns c.loop-place.place) (sym c.loop-place.invariant.numbers) ∙ sym c.in-Some.ensures in
    rw (p.1, p.2)
    (round_break (λ f. ticks_label (setup_of g.P.Policy.meaning f) c.args.desk.now) c.args.state.now.fixed c.loop-place.state.fixed _ (begun c.loop-place.state.port c.loop-place.out n) (numbers_of c.args.state.now.port) c.loop-place.place c.loop-place.invariant.fixed (c.loop-place.invariant.work n) (Unit {0}) (Unit {0}) c.in_err-tick_label.field-0.0 c.tick_label.new.state.port c.tick_label.new.out n c.in-Some.number at
    (ticks_nothing c.tick_label.new.state.port c.tick_label.new.out n (setup_of g.P.Policy.meaning c.args.state.now.fixed) c.args.desk.now) (c.in_err-tick_label.ensures.work n))

pub loop-place-preserved : goal.loop-place-preserved
loop-place-preserved g c = elim c.match-number_at.branch [
  | in-Some+in_ok-tick_label w ↦ (
      let at : slice_get (numbers_of c.args.state.now.port) c.loop-place.place ≡ Some w.in-Some.number = ap (λ (ns : List ℕ). slice_get ns c.loop-place.place) (sym c.loop-place.invariant.numbers) ∙ sym w.in-Some.ensures in
      rw (w.state-is, w.out-is, w.outlook-is) (record {
        fixed = w.tick_label.ensures.fixed ∙ c.loop-place.invariant.fixed;
        numbers = w.tick_label.ensures.numbers ∙ c.loop-place.invariant.numbers;
        outlook = w.in_ok-tick_label.ensures.outlook;
        work = λ n. round_step (λ f. ticks_label (setup_of g.P.Policy.meaning f) c.args.desk.now) c.args.state.now.fixed c.loop-place.state.fixed _ (begun c.loop-place.state.port c.loop-place.out n) (numbers_of c.args.state.now.port) c.loop-place.place c.loop-place.invariant.fixed (c.loop-place.invariant.work n) (begun w.tick_label.new.state.port w.tick_label.new.out n) w.in-Some.number at (w.in_ok-tick_label.ensures.work n);
      }))
  | in_default w ↦ (
      rw (w.state-is, w.out-is, w.outlook-is) (record {
        fixed = c.loop-place.invariant.fixed;
        numbers = c.loop-place.invariant.numbers;
        outlook = c.loop-place.invariant.outlook;
        work = λ n. round_skip (λ f. ticks_label (setup_of g.P.Policy.meaning f) c.args.desk.now) c.args.state.now.fixed c.loop-place.state.fixed _ (begun c.loop-place.state.port c.loop-place.out n) (numbers_of c.args.state.now.port) c.loop-place.place c.loop-place.invariant.fixed (c.loop-place.invariant.work n) (ap (λ (ns : List ℕ). slice_get ns c.loop-place.place) (sym c.loop-place.invariant.numbers) ∙ sym c.number_at.ensures ∙ w.in_default.is);
      }))
]

pub returns-clause-work : goal.returns-clause-work
returns-clause-work g c = λ n.
    let past : length (numbers_of c.args.state.now.port) ≤ c.loop-place.place = omega (arith, c.held-place-end.ensures, c.loop-place-test.false) in
    round_end (λ f. ticks_label (setup_of g.P.Policy.meaning f) c.args.desk.now) c.args.state.now.fixed c.loop-place.state.fixed _ (begun c.loop-place.state.port c.loop-place.out n) (numbers_of c.args.state.now.port) c.loop-place.place c.loop-place.invariant.fixed (c.loop-place.invariant.work n) past
