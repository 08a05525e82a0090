use Rattle.std.proofs.Common.{◌≡◌, ◌<◌, ◌∙◌, subst, length, arith}
use Rattle.port_model.specs.Ticks.{ages}
use Rattle.port_state.specs.Engine.{Fixed, setup_of}
use Rattle.port_saying.specs.Rules.{begun}
use Rattle.redirect_state.proofs.Grown.{aged_next}
use Rattle.redirect_state.proofs.Spends.{at_place}
use Rattle.redirect_state.proofs.ticks.tick_grants.Goals as goal

pub loop-place-preserved : goal.loop-place-preserved
loop-place-preserved g c =
    let inside : c.loop-place.place < length c.loop-place.state.port.grants = omega (arith, c.granted.ensures.len, c.loop-place-test.true) in
    let there = at_place c.loop-place.state.port.grants c.loop-place.place inside in
    record {
      fixed = c.age.ensures.fixed ∙ c.loop-place.invariant.fixed;
      work = λ n. c.loop-place.invariant.work n
          ∙ aged_next (ages (setup_of g.P.Policy.meaning c.args.state.now.fixed)) (begun c.loop-place.state.port c.loop-place.out n) (begun c.age.new.state.port c.age.new.out n) c.loop-place.state.port.grants c.age.new.state.port.grants c.loop-place.place c.in_ok-place.place there.0 there.1
          (subst (λ (f : Fixed _). ages (setup_of g.P.Policy.meaning f) (begun c.loop-place.state.port c.loop-place.out n) there.0.label ≡ begun c.age.new.state.port c.age.new.out n) c.loop-place.invariant.fixed (c.in_ok-place.ensures.work n there.0 there.1))
          c.in_ok-place.ensures.over.rest;
    }
