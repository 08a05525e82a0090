-- the conditions of each event, of what is kept

use Rattle.std.proofs.Common.{refl, subst}
use Rattle.law_controller_conditions.proofs.law_port_facts.Rules.{counts_goes}
use Rattle.law_controller_conditions.proofs.law_port_facts.Hearings.{hears_goes}
use Rattle.controller_joining.specs.world_model.Words.{begins}
use Rattle.law_controller_conditions.specs.law_controller_facts.Inputs.{Ticks, Restarts, ChangeComes}
use Rattle.law_controller_conditions.proofs.law_controller_facts.Moves.{found_port}
use Rattle.law_controller_conditions.specs.controller_router.Meeting.{with_change}
use Rattle.law_controller_conditions.specs.Kept.{AreIn}
use Rattle.law_controller_conditions.specs.Calls.{hearing, counting}
use Rattle.law_controller_conditions.proofs.Ready.{ready_of, ready_ports}
use Rattle.law_controller_conditions.proofs.Restarting.{can_reset_node}
use Rattle.law_controller_conditions.proofs.Rules.{can_hear, can_count}
use Rattle.law_controller_conditions.proofs.Kept.{whole_kept, ready_kept, numbers_suffice}
use Rattle.law_controller_conditions.proofs.Calls.{restart_numbers}
use Rattle.law_joining_conditions.specs.Events.{TicksCanGoBy, NodeCanRestart, ChangesCanCome, MessagesCanBeTold, PortsCanHear, PortsCanCount}
use Rattle.law_joining_conditions.proofs.Keeping.{keeps_joins}
use Rattle.law_joining_conditions.proofs.Changing.{can_take_changes, ready_changed}
use Rattle.law_joining_conditions.proofs.Answering.{can_be_told}
use Rattle.law_joining_conditions.proofs.Ticking.{can_tick_all}
use Rattle.law_controller_conditions.proofs.law_controller.Actions.{heard_anyway}

pub ticks_can_go_by : TicksCanGoBy
ticks_can_go_by a h left = can_tick_all h.setups h.links a (whole_kept a h) h.flows left (numbers_suffice a Ticks tt h left)

pub node_can_restart : NodeCanRestart
node_can_restart a h left = can_reset_node h.setups h.links a (ready_kept a h) (subst AreIn (restart_numbers a) (numbers_suffice a Restarts tt h left))

pub changes_can_come : ChangesCanCome
changes_can_come a change h left = can_take_changes h.setups h.links (with_change a change) (ready_changed h.setups h.links a (with_change a change).controller.waiting (ready_kept a h)) (numbers_suffice a (ChangeComes change) tt h left)

pub messages_can_be_told : MessagesCanBeTold
messages_can_be_told a message h n = can_be_told h.setups h.links a message (whole_kept a h) h.flows n

pub ports_can_hear : PortsCanHear
ports_can_hear a port source message h range n = record {
  can = can_hear h.setups h.links a port source message range (ready_of a h) n;
  keeps = keeps_joins h.setups a port (hearing source message) (λ linked found. hears_goes linked.setup a.controller.desk (begins a linked) source message refl (heard_anyway message range)) (ready_of a h);
}

pub ports_can_count : PortsCanCount
ports_can_count a port packet h n = record {
  can = can_count h.setups h.links a port packet (ready_of a h) n;
  keeps = keeps_joins h.setups a port (counting packet)
      (λ linked found. counts_goes linked.setup a.controller.desk (begins a linked) packet (found_port h.setups a linked port (ready_ports h.setups a (ready_of a h)) found).ascend) (ready_of a h);
}
