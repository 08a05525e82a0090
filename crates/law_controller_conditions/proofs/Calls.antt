-- the conditions of a router's calls, of what is held

use Rattle.std.proofs.Common.{◌≡◌, List, [], ◌∷◌, Option, None, Some, refl, ◌∙◌, subst, fold}
use Rattle.law_controller.specs.world_model.Words.{PortNo, gsmp_received, ticked, Linked, linked_at, cuts_default_of, cuts_default, cuts_gsmp, node_resets, node_restarts}
use Rattle.law_controller.specs.world_model.Controller.{Acted, ports_of}
use Rattle.law_controller.proofs.law_controller_facts.Moves.{hears, ages}
use Rattle.law_controller_conditions.specs.Kept.{AreIn}
use Rattle.law_controller_conditions.specs.Calls.{CanBeAsked, CanBeReset, PortsCanWork, SwitchCanBeMet}
use Rattle.law_controller_conditions.proofs.Ready.{ready_of}
use Rattle.law_controller_conditions.proofs.Restarting.{can_reset_node}
use Rattle.law_controller_conditions.proofs.Asking.{can_ask, can_take_back}
use Rattle.law_controller_conditions.proofs.Doing.{can_reset_port}
use Rattle.law_controller_conditions.proofs.Rules.{can_hear, can_count, can_tell, can_tick, each_ticks, can_reset_spent, each_spent}
use Rattle.law_controller_conditions.proofs.Meeting.{can_follow, can_empty, can_cause}

pub can_be_asked : CanBeAsked
can_be_asked = record {
  asks = λ a request h shaped n. can_ask h.setups h.links a request (ready_of a h) shaped n;
  takes_back = λ a input output h i o n. can_take_back h.setups h.links a input output (ready_of a h) i o n;
}

-- *A restart* draws what a reset does
cut_numbers : (a : Acted) (o : Option Linked) → (cuts_default_of a o).numbers ≡ a.numbers
cut_numbers a None = refl
cut_numbers a (Some linked) = refl

cuts_numbers : (ports : List PortNo) (a : Acted) → (fold cuts_default a ports).numbers ≡ a.numbers
cuts_numbers [] a = refl
cuts_numbers (port ∷ ports) a = cuts_numbers ports (cuts_default a port) ∙ cut_numbers a (linked_at a.controller port)

pub restart_numbers : (a : Acted) → (node_restarts a).numbers ≡ (node_resets a).numbers
restart_numbers a = cuts_numbers (ports_of a.controller) (cuts_gsmp (node_resets a))

pub can_be_reset : CanBeReset
can_be_reset = record {
  node = λ a h n. can_reset_node h.setups h.links a (ready_of a h) n;
  restart = λ a h n. can_reset_node h.setups h.links a (ready_of a h) (subst AreIn (restart_numbers a) n);
  port = λ a port h met n. can_reset_port h.setups h.links a port met (ready_of a h) n;
  spent = λ a port h n. can_reset_spent h.setups h.links a port (ready_of a h) n;
  each_spent = λ a h n. each_spent h.setups h.links (ports_of a.controller) a (ready_of a h) n;
}

pub ports_can_work : PortsCanWork
ports_can_work = record {
  hears = λ a port source message h range n. can_hear h.setups h.links a port source message range (ready_of a h) n;
  counts = λ a port packet h n. can_count h.setups h.links a port packet (ready_of a h) n;
  told = λ a port request h n. can_tell h.setups h.links a port request (ready_of a h) n;
  ticks = λ a port h n. can_tick h.setups h.links a port (ready_of a h) n;
  each_ticks = λ a h n. each_ticks h.setups h.links (ports_of a.controller) a (ready_of a h) n;
}

pub switch_can_be_met : SwitchCanBeMet
switch_can_be_met = record {
  greets = λ a greeting h n. can_follow h.setups h.links a (gsmp_received a.controller.adjacency greeting) (hears greeting) (ready_of a h) n;
  ages = λ a h n. can_follow h.setups h.links a (ticked a.controller.adjacency) ages (ready_of a h) n;
  lists = λ a h unmet deleting n. can_empty h.setups h.links a unmet (deleting unmet) (ready_of a h) n;
  causes = λ a request h shaped estab deleting link n. can_cause h.setups h.links a request shaped estab deleting link (ready_of a h) n;
}
