-- A tick: what the answer of the adjacency with the switch decides, and then each port in turn.

use Rattle.std.proofs.Common.{◌≡◌, ◌≢◌, List, [], ◌∷◌, fold, refl, sym, ap}
use Rattle.net_types.specs.declared.adjacency.Greeting.{Greeting}
use Rattle.net_types.specs.declared.adjacency.Party.{Party}
use Rattle.net_types.specs.declared.node.PortNo.{PortNo}
use Rattle.adjacency_table.specs.declared.message.Answer.{Answer}
use Rattle.adjacency_table.specs.declared.message.Answer.TheVariants as replies
use Rattle.adjacency_table.specs.declared.message.Said.{Said}
use Rattle.adjacency_table.specs.Greeting.{gsmp_answer}
use Rattle.adjacency_table.specs.Side.{Side, Step, counted, followed_tick, ticked}
use Rattle.adjacency_table.specs.Table.{Reply, Silent, Says, Resets, tick_reply}
use Rattle.port_model.specs.Ticks as port_ticks
use Rattle.controller_joins.specs.world_model.Controller.{Acted}
use Rattle.controller_joins.specs.world_model.Gsmp.{answers}
use Rattle.controller_joins.specs.world_model.Joins.{tries_joins}
use Rattle.controller_joins.specs.world_model.Resets.{node_resets}
use Rattle.controller_joins.specs.world_model.Ticks.{sends_again, ticks, ticks_by, ticks_port, ticks_ports}
use Rattle.law_join_facts.proofs.Lasts.{AreDifferent, Lasts, at_port_lasts, differ_after, itself, onward}
use Rattle.controller_router.specs.Conditions.{CanResetNode, EachCanTick, turned_to}
use Rattle.controller_joining.specs.Conditions.{CanTick, CanTickOn, CanTickWith, EachCanTickOn}

pub each_can : (a : Acted) (ports : List PortNo) → EachCanTickOn a ports → EachCanTick a ports
each_can a [] can = tt
each_can a (port ∷ ports) can = (can.0.can, each_can (ticks_port a port) ports can.1)

pub all_ticked : (a : Acted) (ports : List PortNo) → EachCanTickOn a ports → AreDifferent a → Lasts a (fold ticks_port a ports)
all_ticked a [] can differ = itself a
all_ticked a (port ∷ ports) can differ =
    let first = at_port_lasts port port_ticks.ticks a can.0.keeps differ in
    onward a (ticks_port a port) (fold ticks_port (ticks_port a port) ports) first (all_ticked (ticks_port a port) ports can.1 (differ_after a (ticks_port a port) first differ))

-- *A reset of the adjacency* leaves its side
reset_stays : (side : Side Party) → (ticked side).answer ≡ replies.Reset → (ticked side).side ≡ side
reset_stays side is = by (tick_reply side.state (counted side.state side.silence)) is where
  by : (reply : Reply) → (followed_tick side reply).answer ≡ replies.Reset → (followed_tick side reply).side ≡ side
  by Resets is = refl
  by Silent is = absurd (cc is)
  by (Says kind) is = absurd (cc is)

-- and ends the tick
pub record Ends (a : Acted) : Type 0 where
  pub turned : turned_to a (ticked a.controller.adjacency) ≡ a
  pub can : CanResetNode a
  pub is : node_resets a ≡ ticks a

pub tick_ends : (a : Acted) → gsmp_answer (ticked a.controller.adjacency).answer ≡ replies.Reset → CanTick a → Ends a
tick_ends a reset can = by step.answer refl reset can where
  step : Step Party
  step = ticked a.controller.adjacency

  by : (answer : Answer (Said Party) Party) → step.answer ≡ answer → gsmp_answer answer ≡ replies.Reset → CanTickWith a step answer → Ends a
  by replies.Quiet is reset can = absurd (cc reset)
  by (replies.Send message) is reset can = absurd (cc reset)
  by (replies.Open message own) is reset can = absurd (cc reset)
  by replies.Reset is reset can = record {
    turned = ap (λ (side : Side Party). record a { controller = record a.controller { adjacency = side } }) (reset_stays a.controller.adjacency is);
    can = can;
    is = sym (ap (ticks_by a step) is);
  }

-- any other answer goes on
pub record GoesOn (a : Acted) (answer : Answer Greeting Party) : Type 0 where
  pub can : CanTickOn (turned_to a (ticked a.controller.adjacency)) answer
  pub is : tries_joins (ticks_ports (sends_again (answers (turned_to a (ticked a.controller.adjacency)) answer))) ≡ ticks a

pub tick_goes : (a : Acted) → gsmp_answer (ticked a.controller.adjacency).answer ≢ replies.Reset → CanTick a → GoesOn a (gsmp_answer (ticked a.controller.adjacency).answer)
tick_goes a goes can = by step.answer refl goes can where
  step : Step Party
  step = ticked a.controller.adjacency

  by : (answer : Answer (Said Party) Party) → step.answer ≡ answer → gsmp_answer answer ≢ replies.Reset → CanTickWith a step answer → GoesOn a (gsmp_answer step.answer)
  by replies.Quiet is goes can = record { can = can; is = sym (ap (ticks_by a step) is) }
  by (replies.Send message) is goes can = record { can = can; is = sym (ap (ticks_by a step) is) }
  by (replies.Open message own) is goes can = record { can = can; is = sym (ap (ticks_by a step) is) }
  by replies.Reset is goes can = absurd (goes refl)
