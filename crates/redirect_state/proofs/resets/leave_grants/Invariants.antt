use Rattle.std.proofs.Common.{◌≡◌, ◌++◌, ◌-◌, drop, take, length}
use Rattle.std.specs.Prelude.{flat_map}
use Rattle.port_model.specs.Resets.{left_of, taking_back}
use Rattle.port_state.specs.Engine.{setup_of}
use Rattle.port_state.specs.Parts.{with_grants}
use Rattle.redirect_state.proofs.resets.leave_grants.Given as goal

abbrev pub invariant-loop-place : goal.invariant-loop-place
invariant-loop-place g l = record {
  fixed : l.state.fixed ≡ l.initial.state.fixed;
  port : l.state.port ≡ with_grants l.initial.state.port l.state.port.grants;
  left : take l.place l.state.port.grants ++ flat_map left_of (drop l.place l.state.port.grants) ≡ flat_map left_of l.initial.state.port.grants;
  actions : l.out ++ flat_map (taking_back (setup_of g.P.Policy.meaning l.initial.state.fixed)) (drop l.place l.state.port.grants)
      ≡ l.initial.out ++ flat_map (taking_back (setup_of g.P.Policy.meaning l.initial.state.fixed)) l.initial.state.port.grants;
}

abbrev pub decreases-loop-place : goal.decreases-loop-place
decreases-loop-place g l = length l.state.port.grants - l.place
