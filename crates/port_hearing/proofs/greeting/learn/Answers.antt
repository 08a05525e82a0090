use Rattle.std.proofs.Common.{◌≡◌, ◌≤◌, ℕ, ◌∙◌, ap, sym, Some, List, slice_get, length, arith}
use Rattle.std.specs.Prelude.{fold}
use Rattle.port_model.specs.Adjacency.{quits}
use Rattle.port_state.specs.Engine.{Fixed, setup_of}
use Rattle.port_state.specs.Parts.{numbers_of}
use Rattle.port_saying.specs.Rules.{begun}
use Rattle.port_saying.proofs.Sequels.{round_end, round_skip, round_step}
use Rattle.port_hearing.proofs.Begins.{learns_from}
use Rattle.port_hearing.proofs.greeting.learn.Goals as goal
use Rattle.port_hearing.proofs.greeting.learn.Goals.{in-Some+in_ok-quit, in_default}

pub loop-place-preserved : goal.loop-place-preserved
loop-place-preserved g c = elim c.match-number_at.branch [
  | in-Some+in_ok-quit w ↦ (
      let at : slice_get (numbers_of c.learn.new.self.port) c.loop-place.place ≡ Some w.in-Some.number = ap (λ (ns : List ℕ). slice_get ns c.loop-place.place) (sym c.loop-place.invariant.numbers) ∙ sym w.in-Some.ensures in
      rw (w.state-is, w.out-is, w.outlook-is) (record {
        fixed = w.quit.ensures.fixed ∙ c.loop-place.invariant.fixed;
        numbers = w.quit.ensures.numbers ∙ c.loop-place.invariant.numbers;
        outlook = w.in_ok-quit.ensures.outlook;
        work = λ n. round_step (λ f. quits (setup_of g.P.Policy.meaning f) c.args.desk.now) c.learn.new.self.fixed c.loop-place.state.fixed _ (begun c.loop-place.state.port c.loop-place.out n) (numbers_of c.learn.new.self.port) c.loop-place.place
            c.loop-place.invariant.fixed (c.loop-place.invariant.work n) (begun w.quit.new.state.port w.quit.new.out n) w.in-Some.number at (w.in_ok-quit.ensures.work n);
      }))
  | in_default w ↦ (
      rw (w.state-is, w.out-is, w.outlook-is) (record {
        fixed = c.loop-place.invariant.fixed;
        numbers = c.loop-place.invariant.numbers;
        outlook = c.loop-place.invariant.outlook;
        work = λ n. round_skip (λ f. quits (setup_of g.P.Policy.meaning f) c.args.desk.now) c.learn.new.self.fixed c.loop-place.state.fixed _ (begun c.loop-place.state.port c.loop-place.out n) (numbers_of c.learn.new.self.port) c.loop-place.place
            c.loop-place.invariant.fixed (c.loop-place.invariant.work n) (ap (λ (ns : List ℕ). slice_get ns c.loop-place.place) (sym c.loop-place.invariant.numbers) ∙ sym c.number_at.ensures ∙ w.in_default.is);
      }))
]

pub returns-clause-work : goal.returns-clause-work
returns-clause-work g c = λ n.
    let past : length (numbers_of c.learn.new.self.port) ≤ c.loop-place.place = omega (arith, c.held-place-end.ensures, c.loop-place-test.false) in
    learns_from (setup_of g.P.Policy.meaning c.args.state.now.fixed) c.args.desk.now c.args.state.now.port c.learn.new.self.port c.args.out.now n c.args.next c.learn.ensures.port
    ∙ ap (λ (f : Fixed _). fold (quits (setup_of g.P.Policy.meaning f) c.args.desk.now) (begun c.learn.new.self.port c.args.out.now n) (numbers_of c.learn.new.self.port)) (sym c.learn.ensures.fixed)
    ∙ round_end (λ f. quits (setup_of g.P.Policy.meaning f) c.args.desk.now) c.learn.new.self.fixed c.loop-place.state.fixed _ (begun c.loop-place.state.port c.loop-place.out n) (numbers_of c.learn.new.self.port) c.loop-place.place
    c.loop-place.invariant.fixed (c.loop-place.invariant.work n) past
