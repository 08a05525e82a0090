use Rattle.std.proofs.Common.{◌≤◌, ◌∙◌, sym, length, arith}
use Rattle.port_model.specs.declared.action.Action.TheVariants.{CutChain}
use Rattle.port_state.specs.Engine.{setup_of}
use Rattle.port_state.specs.Parts.{numbers_of}
use Rattle.redirect_state.proofs.Lefts.{closes_all}
use Rattle.port_saying.proofs.Rounds.{mapped_next}
use Rattle.redirect_state.proofs.Grown.{mapped_over, mapped_skip}
use Rattle.redirect_state.proofs.resets.close.Goals as goal
use Rattle.redirect_state.proofs.resets.close.Goals.{in-Some+in_ok-push-2, in_default}

pub loop-place-preserved : goal.loop-place-preserved
loop-place-preserved g c = elim c.match-number_at.branch [
  | in-Some+in_ok-push-2 w ↦ rw w.out-is (c.loop-place.invariant ∙ mapped_next (λ number. CutChain number) c.loop-place.out w.push-in-Some.new.self (numbers_of c.args.state.now.port) c.loop-place.place w.in-Some.number (sym w.in-Some.ensures) w.in_ok-push-2.ensures.ok)
  | in_default w ↦ rw w.out-is (c.loop-place.invariant ∙ mapped_skip (λ number. CutChain number) c.loop-place.out (numbers_of c.args.state.now.port) c.loop-place.place (sym c.number_at.ensures ∙ w.in_default.is))
]

pub returns : goal.returns
returns g c =
    let past : length (numbers_of c.args.state.now.port) ≤ c.loop-place.place = omega (arith, c.held-place-end.ensures, c.loop-place-test.false) in
    closes_all (setup_of g.P.Policy.meaning c.args.state.now.fixed) c.args.state.now.port c.args.out.now c.push.new.self c.loop-place.out (sym c.has_session.ensures ∙ c.if-not-has_session.false)
    (rw (← c.node.ensures, ← c.port.ensures.number) c.in_ok-push.ensures.ok)
    (c.loop-place.invariant ∙ mapped_over (λ number. CutChain number) c.loop-place.out (numbers_of c.args.state.now.port) c.loop-place.place past)
