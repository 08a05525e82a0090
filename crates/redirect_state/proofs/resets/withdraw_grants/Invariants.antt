use Rattle.std.proofs.Common.{◌≡◌, ◌++◌, drop}
use Rattle.std.specs.Prelude.{flat_map}
use Rattle.port_model.specs.Resets.{withdrawing_of}
use Rattle.port_state.specs.Engine.{setup_of}
use Rattle.redirect_state.proofs.resets.withdraw_grants.Given as goal

abbrev pub invariant-loop-place : goal.invariant-loop-place
invariant-loop-place g l =
    l.initial.out ++ flat_map (withdrawing_of (setup_of g.P.Policy.meaning l.state.fixed)) l.state.port.grants
    ≡ l.out ++ flat_map (withdrawing_of (setup_of g.P.Policy.meaning l.state.fixed)) (drop l.place l.state.port.grants)
