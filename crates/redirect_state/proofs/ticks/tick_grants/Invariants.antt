use Rattle.std.proofs.Common.{◌≡◌, ℕ, ◌-◌, drop, length, map}
use Rattle.std.specs.Prelude.{fold}
use Rattle.port_model.specs.Grants.{grant_label}
use Rattle.port_model.specs.Ticks.{ages}
use Rattle.port_state.specs.Engine.{setup_of}
use Rattle.port_saying.specs.Rules.{begun}
use Rattle.redirect_state.proofs.ticks.tick_grants.Given as goal

abbrev pub invariant-loop-place : goal.invariant-loop-place
invariant-loop-place g l = record {
  fixed : l.state.fixed ≡ l.initial.state.fixed;
  work : (n : ℕ) → fold (ages (setup_of g.P.Policy.meaning l.initial.state.fixed)) (begun l.initial.state.port l.initial.out n) (map grant_label l.initial.state.port.grants)
      ≡ fold (ages (setup_of g.P.Policy.meaning l.initial.state.fixed)) (begun l.state.port l.out n) (map grant_label (drop l.place l.state.port.grants));
}

abbrev pub decreases-loop-place : goal.decreases-loop-place
decreases-loop-place g l = length l.state.port.grants - l.place
