use Rattle.std.proofs.Common.{◌≡◌, ℕ, drop}
use Rattle.std.specs.Prelude.{fold}
use Rattle.port_actions.specs.Outlook.{Foresees}
use Rattle.port_model.specs.Ticks.{ticks_label}
use Rattle.port_state.specs.Engine.{setup_of}
use Rattle.port_state.specs.Parts.{numbers_of}
use Rattle.port_saying.specs.Rules.{begun}
use Rattle.redirect_state.proofs.ticks.tick_labels.Given as goal

abbrev pub invariant-loop-place : goal.invariant-loop-place
invariant-loop-place g l = record {
  fixed : l.state.fixed ≡ l.initial.state.fixed;
  numbers : numbers_of l.state.port ≡ numbers_of l.initial.state.port;
  outlook : Foresees l.outlook l.desk l.out;
  work : (n : ℕ) → fold (ticks_label (setup_of g.P.Policy.meaning l.initial.state.fixed) l.desk) (begun l.initial.state.port l.initial.out n) (numbers_of l.initial.state.port)
      ≡ fold (ticks_label (setup_of g.P.Policy.meaning l.initial.state.fixed) l.desk) (begun l.state.port l.out n) (drop l.place (numbers_of l.initial.state.port));
}
