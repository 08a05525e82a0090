use Rattle.std.proofs.Common.{◌≡◌, ◌++◌, ◌<◌, ◌∙◌, ap, subst, length, arith}
use Rattle.port_model.specs.Port.{Port}
use Rattle.port_model.specs.Resets.{taking_back}
use Rattle.port_state.specs.Engine.{Fixed, setup_of}
use Rattle.port_state.specs.Parts.{with_grants}
use Rattle.redirect_state.proofs.Grown.{asked_next, left_next}
use Rattle.redirect_state.proofs.Spends.{at_place}
use Rattle.redirect_state.proofs.resets.leave_grants.Goals as goal

pub loop-place-preserved : goal.loop-place-preserved
loop-place-preserved g c =
    let inside : c.loop-place.place < length c.loop-place.state.port.grants = omega (arith, c.granted.ensures.len, c.loop-place-test.true) in
    let there = at_place c.loop-place.state.port.grants c.loop-place.place inside in
    record {
      fixed = c.leave_grant.ensures.fixed ∙ c.loop-place.invariant.fixed;
      port = c.leave_grant.ensures.port ∙ ap (λ (p : Port). with_grants p c.leave_grant.new.state.port.grants) c.loop-place.invariant.port;
      left = left_next c.loop-place.state.port.grants c.leave_grant.new.state.port.grants c.loop-place.place c.in_ok-place.place there.0 there.1 (c.in_ok-place.ensures.front there.0 there.1) c.in_ok-place.ensures.over.rest
          ∙ c.loop-place.invariant.left;
      actions = asked_next (taking_back (setup_of g.P.Policy.meaning c.args.state.now.fixed)) c.loop-place.out c.leave_grant.new.out c.loop-place.state.port.grants c.leave_grant.new.state.port.grants c.loop-place.place c.in_ok-place.place there.0 there.1
          (subst (λ (f : Fixed _). c.leave_grant.new.out ≡ c.loop-place.out ++ taking_back (setup_of g.P.Policy.meaning f) there.0) c.loop-place.invariant.fixed (c.in_ok-place.ensures.actions there.0 there.1))
          c.in_ok-place.ensures.over.rest
          ∙ c.loop-place.invariant.actions;
    }
