-- what holds of a controller in the midst of an event, and the numbers before a rule whose numbers can be given out

use Rattle.std.proofs.Common.{◌≡◌, ℕ, ◌≤◌, ◌<◌, List, Some, refl, arith}
use Rattle.law_controller.specs.world_model.Words.{PortNo, Setup, Linked, port_key, linked_at, begins}
use Rattle.law_controller.specs.ordered_lists.Ordered.{Every}
use Rattle.law_controller.specs.law_port_facts.Port.{setup_port, IsRanged}
use Rattle.law_controller.proofs.law_port_facts.Keyed.{at_every}
use Rattle.law_controller.specs.world_model.Controller.{Acted}
use Rattle.law_controller.specs.law_controller_facts.Sound.{NeverFall}
use Rattle.law_controller.specs.law_controller_facts.Said.{HasFlowsAt}
use Rattle.law_controller.proofs.law_controller_facts.Moves.{Moves, HasPorts, found_setup, found_at_own, begun}
use Rattle.law_controller.proofs.law_controller_facts.Laws.{has_ports}
use Rattle.law_controller.proofs.law_controller_facts.Numbers.{moves_never_fall}
use Rattle.law_controller.proofs.law_controller_facts.Flows.{moves_flow}
use Rattle.law_controller.specs.Actions.{IsFresh}
use Rattle.law_controller.proofs.Holding.{Holds}
use Rattle.law_controller_conditions.specs.Kept.{AreLinks, IsHeld, AreIn}

less_before : (m n k : ℕ) → m ≤ n → n < k → m < k
less_before m n k le less = omega (arith, le, less)

-- *Numbers* never fall
pub in_before : (setups : List Setup) (a b : Acted) → Moves setups a b → AreIn b.numbers → AreIn a.numbers
in_before setups a b moves n = (let k : NeverFall a.numbers b.numbers = moves_never_fall setups a b moves in
    record { instances = less_before a.numbers.instances b.numbers.instances _ k.instances n.instances; controls = less_before a.numbers.controls b.numbers.controls _ k.controls n.controls })

module _ (setups : List Setup) where
  pub record Ready (a : Acted) : Type 0 where
    pub holds : Holds setups a
    pub flows : Every HasFlowsAt a.controller.ports

  pub ready_by : (a b : Acted) → Moves setups a b → Holds setups b → Ready a → Ready b
  ready_by a b moves h r = record { holds = h; flows = moves_flow setups a b moves r.flows }

  pub ready_ports : (a : Acted) → Ready a → HasPorts setups a
  ready_ports a r = has_ports setups a r.holds.sound

-- what is held
pub ready_of : (a : Acted) (h : IsHeld a.controller) → Ready h.setups a
ready_of a h = record { holds = record { sound = h.sound; order = h.order }; flows = h.flows }

pub held_of : (setups : List Setup) → AreLinks setups → (a : Acted) → Ready setups a → IsHeld a.controller
held_of setups links a r = record { setups = setups; links = links; sound = r.holds.sound; order = r.holds.order; flows = r.flows }

-- *A port at work* that has asked nothing yet
pub fresh_port : (setups : List Setup) → AreLinks setups → (a : Acted) (linked : Linked) (port : PortNo) → linked_at a.controller port ≡ Some linked → HasPorts setups a → Every HasFlowsAt a.controller.ports
    → IsFresh setups linked.setup (begins a linked)
fresh_port setups links a linked port found h flows =
    let there = found_setup setups a linked linked.setup.port h (found_at_own setups a linked port found) in
    record {
      work = record {
        linked = there;
        ranged = at_every setup_port IsRanged linked.setup.port.0 setups linked.setup links.ranged there;
        kept = begun setups a linked port h found;
        flows = at_every port_key HasFlowsAt port.0 a.controller.ports linked flows found;
        live = refl;
        said = tt;
      };
      links = links.links;
      nothing = refl;
    }
