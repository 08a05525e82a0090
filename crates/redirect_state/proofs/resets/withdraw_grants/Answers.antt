use Rattle.std.proofs.Common.{◌≡◌, ◌++◌, ◌<◌, ◌∙◌, sym, slice_get, length, arith}
use Rattle.keyed_lists.specs.Keyed.{at}
use Rattle.port_model.specs.Grants.{grant_label}
use Rattle.port_model.specs.Resets.{withdrawing_of}
use Rattle.port_state.specs.Engine.{setup_of}
use Rattle.port_state.proofs.Labelled.{of_some}
use Rattle.port_saying.proofs.Rounds.{joined_next}
use Rattle.redirect_state.proofs.Grown.{joined_skip}
use Rattle.redirect_state.proofs.Served.{none_of}
use Rattle.redirect_state.proofs.Spends.{at_place}
use Rattle.redirect_state.proofs.resets.withdraw_grants.Goals as goal
use Rattle.redirect_state.proofs.resets.withdraw_grants.Goals.{in-Some+in_ok-withdraw_grant, in_default}

pub loop-place-preserved : goal.loop-place-preserved
loop-place-preserved g c = elim c.match-grant_at.branch [
  | in-Some+in_ok-withdraw_grant w ↦ (
      let inside : c.loop-place.place < length c.args.state.now.port.grants = omega (arith, c.granted-place-end.ensures.len, c.loop-place-test.true) in
      let there = at_place c.args.state.now.port.grants c.loop-place.place inside in
      rw w.out-is (c.loop-place.invariant ∙ joined_next (withdrawing_of (setup_of g.P.Policy.meaning c.args.state.now.fixed)) c.loop-place.out w.withdraw_grant.new.out c.args.state.now.port.grants c.loop-place.place there.0 there.1
      (of_some (at grant_label w.in-Some.label c.args.state.now.port.grants) there.0 (λ grant. w.withdraw_grant.new.out ≡ c.loop-place.out ++ withdrawing_of (setup_of g.P.Policy.meaning c.args.state.now.fixed) grant)
      (w.in-Some.ensures.found ∙ there.1) w.in_ok-withdraw_grant.ensures)))
  | in_default w ↦ rw w.out-is (c.loop-place.invariant ∙ joined_skip (withdrawing_of (setup_of g.P.Policy.meaning c.args.state.now.fixed)) c.loop-place.out c.args.state.now.port.grants c.loop-place.place
      (none_of grant_label (slice_get c.args.state.now.port.grants c.loop-place.place) (sym c.grant_at.ensures.label ∙ w.in_default.is)))
]
