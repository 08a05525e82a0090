use Rattle.std.proofs.Common.{◌≡◌, ◌++◌, drop, map}
use Rattle.port_model.specs.declared.action.Action.TheVariants.{CutChain}
use Rattle.port_state.specs.Parts.{numbers_of}
use Rattle.redirect_state.proofs.resets.close.Given as goal

abbrev pub invariant-loop-place : goal.invariant-loop-place
invariant-loop-place g l = l.initial.out ++ map (λ number. CutChain number) (numbers_of l.state.port) ≡ l.out ++ map (λ number. CutChain number) (drop l.place (numbers_of l.state.port))
