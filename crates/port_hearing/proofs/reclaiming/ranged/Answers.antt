use Rattle.std.proofs.Common.{◌≡◌, ℕ, ◌∙◌, ap, sym, subst, Some, Err, List, slice_get}
use Rattle.std.proofs.lemmas.Result.{err_from_is_err_and}
use Rattle.std.specs.Prelude.{fold}
use Rattle.port_model.specs.Port.{Work}
use Rattle.port_model.specs.Reclaiming.{recalls_outside}
use Rattle.port_state.specs.Engine.{Fixed, setup_of}
use Rattle.port_state.specs.Parts.{numbers_of}
use Rattle.port_saying.specs.Rules.{Ends, begun}
use Rattle.port_saying.proofs.Halted.{outside_nothing}
use Rattle.port_saying.proofs.Sequels.{round_break, round_skip, round_step}
use Rattle.port_hearing.proofs.Begins.{ranged_from}
use Rattle.port_hearing.proofs.reclaiming.ranged.Goals as goal
use Rattle.port_hearing.proofs.reclaiming.ranged.Goals.{in-Some+in_ok-recall_outside, in_default}

pub returns-in_err-recall_outside-clause-work : goal.returns-in_err-recall_outside-clause-work
returns-in_err-recall_outside-clause-work g c = λ n.
    let p = err_from_is_err_and c.from_residual.result c.from_residual.ensures.1 in
    let at : slice_get (numbers_of c.narrow.new.self.port) c.loop-place.place ≡ Some c.in-Some.number = ap (λ (ns : List ℕ). slice_get ns c.loop-place.place) (sym c.loop-place.invariant.numbers) ∙ sym c.in-Some.ensures in
    let begins = ranged_from (setup_of g.P.Policy.meaning c.args.state.now.fixed) c.args.state.now.port c.narrow.new.self.port c.args.out.now n c.args.least c.args.greatest c.narrow.ensures.port
    ∙ ap (λ (f : Fixed _). fold (recalls_outside (setup_of g.P.Policy.meaning f)) (begun c.narrow.new.self.port c.args.out.now n) (numbers_of c.narrow.new.self.port)) (sym c.narrow.ensures.fixed) in
    rw (p.1, p.2)
    (subst (λ (w : Work). Ends {A = Unit {0}} (Err c.in_err-recall_outside.field-0.0) c.recall_outside.new.state.port c.recall_outside.new.out n w) (sym begins)
    (round_break (λ f. recalls_outside (setup_of g.P.Policy.meaning f)) c.narrow.new.self.fixed c.loop-place.state.fixed _ (begun c.loop-place.state.port c.loop-place.out n) (numbers_of c.narrow.new.self.port) c.loop-place.place
    c.loop-place.invariant.fixed (c.loop-place.invariant.work n) (Unit {0}) (Unit {0}) c.in_err-recall_outside.field-0.0 c.recall_outside.new.state.port c.recall_outside.new.out n c.in-Some.number at
    (outside_nothing c.recall_outside.new.state.port c.recall_outside.new.out n (setup_of g.P.Policy.meaning c.narrow.new.self.fixed)) (c.in_err-recall_outside.ensures.work n)))

pub loop-place-preserved : goal.loop-place-preserved
loop-place-preserved g c = elim c.match-number_at.branch [
  | in-Some+in_ok-recall_outside w ↦ (
      let at : slice_get (numbers_of c.narrow.new.self.port) c.loop-place.place ≡ Some w.in-Some.number = ap (λ (ns : List ℕ). slice_get ns c.loop-place.place) (sym c.loop-place.invariant.numbers) ∙ sym w.in-Some.ensures in
      rw (w.state-is, w.out-is) (record {
        fixed = w.recall_outside.ensures.fixed ∙ c.loop-place.invariant.fixed;
        numbers = w.recall_outside.ensures.numbers ∙ c.loop-place.invariant.numbers;
        work = λ n. round_step (λ f. recalls_outside (setup_of g.P.Policy.meaning f)) c.narrow.new.self.fixed c.loop-place.state.fixed _ (begun c.loop-place.state.port c.loop-place.out n) (numbers_of c.narrow.new.self.port) c.loop-place.place
            c.loop-place.invariant.fixed (c.loop-place.invariant.work n) (begun w.recall_outside.new.state.port w.recall_outside.new.out n) w.in-Some.number at (w.in_ok-recall_outside.ensures.work n);
      }))
  | in_default w ↦ (
      rw (w.state-is, w.out-is) (record {
        fixed = c.loop-place.invariant.fixed;
        numbers = c.loop-place.invariant.numbers;
        work = λ n. round_skip (λ f. recalls_outside (setup_of g.P.Policy.meaning f)) c.narrow.new.self.fixed c.loop-place.state.fixed _ (begun c.loop-place.state.port c.loop-place.out n) (numbers_of c.narrow.new.self.port) c.loop-place.place
            c.loop-place.invariant.fixed (c.loop-place.invariant.work n) (ap (λ (ns : List ℕ). slice_get ns c.loop-place.place) (sym c.loop-place.invariant.numbers) ∙ sym c.number_at.ensures ∙ w.in_default.is);
      }))
]
