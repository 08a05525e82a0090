-- a switch that ticks keeps its ports and its paths, so it is as its controller knows it still

use Rattle.std.proofs.Common.{◌≡◌, ℕ, ◌<◌, ◌*◌, true, List, sym, ◌∙◌, ap, subst}
use Rattle.world_model.specs.Words.{ticked, tick_comes, numbers_of, session_of, PortRow, Setup, Switch}
use Rattle.world_model.specs.switch_model.declared.port.PortState.{PortState}
use Rattle.world_model.specs.Switch.{ActedSwitch}
use Rattle.law_live_journeys.specs.law_run_facts.ordered_lists.Ordered.{Every}
use Rattle.law_live_journeys.specs.law_live_mirrors.Fit.{IsKnown}
use Rattle.law_live_journeys.proofs.law_live_mirrors.Switches.{SameParts, stepped_same}

known_by : (setups : List Setup) (rows : List PortRow) (s t : Switch) → SameParts s t → IsKnown setups rows s → IsKnown setups rows t
known_by setups rows s t same known = record {
  numbers = ap numbers_of same.ports ∙ known.numbers;
  links = known.links;
  up = subst (Every (λ (state : PortState). state.is_up ≡ true)) (sym same.ports) known.up;
  sessions = subst (Every (λ (state : PortState). session_of rows state.number ≡ state.session)) (sym same.ports) known.sessions;
  paths = subst (λ (n : ℕ). Every (λ (setup : Setup). setup.greatest < 1024 * n) setups) (sym same.vpis) known.paths;
}

pub ticks_known : (setups : List Setup) (rows : List PortRow) (a : ActedSwitch) → IsKnown setups rows a.switch → IsKnown setups rows (tick_comes a).switch
ticks_known setups rows a known = known_by setups rows a.switch (tick_comes a).switch (stepped_same a (ticked a.switch.adjacency)) known
