-- flows of labels and grants are flows that packets can have, and what a port says is in range

use Rattle.std.proofs.Common.{ℕ, ◌<◌, List, [], ◌∷◌, length, None, Some, refl, sym, subst, arith}
use Rattle.std.specs.Prelude.{◌+◌, ◌^◌, nat_le}
use Rattle.claims_model.specs.world_model.Words.{Channel, Mark, next_control, with_control, Redirect, Reclaim, ReclaimAck, LabelRange, Error, InRange, Loss, PoolFull, noted, frame_cells, made, Desk, empty_desk, Setup, Work, label_at, Controller, port_key, setup_of, opens_ports}
use Rattle.claims_model.specs.world_model.ifmp_wire.declared.message.Message.{Message}
use Rattle.claims_model.specs.world_model.ifmp_wire.declared.message.Message.TheVariants.{Adjacency}
use Rattle.claims_model.specs.world_model.frame_model.Sending.{Sender}
use Rattle.law_port_facts.specs.ordered_lists.Ordered.{Every}
use Rattle.claims_model.specs.world_model.port_model.Port.{Port}
use Rattle.claims_model.specs.world_model.port_model.Resets.{cleared}
use Rattle.law_port_facts.specs.Port.{IsHeard, HasFlows}
use Rattle.law_port_facts.proofs.Keyed.{on_both, at_every, put_every}
use Rattle.law_port_facts.proofs.Rules.{counts_goes, done_goes}
use Rattle.law_port_facts.proofs.Hearings.{hears_goes, ticks_goes}
use Rattle.law_port_facts.proofs.Said.{goes_flows, closes_flows_of, resets_flows, parted_flows, lent_flows, given_back_flows, goes_said, given_back_said}
use Rattle.claims_model.specs.world_model.controller_model.declared.range.PortRange.{PortRange}
use Rattle.claims_model.specs.world_model.Controller.{Acted, free_slots}
use Rattle.claims_model.specs.world_model.Sending.{with_cells, sends}
use Rattle.law_controller_facts.specs.Inputs.{Input, CellComes, PacketEnters, Ticks, Restarts, ChangeComes, FrameIsForged, CellLeaves, Meanwhile, takes_input, takes_inputs}
use Rattle.law_controller_facts.specs.Sound.{IsSound, IsOwn, Always, opened_by, setups_by}
use Rattle.law_controller_facts.specs.Said.{HasFlowsAt, HasFlowingPorts, SaysInRange}
use Rattle.law_controller_facts.proofs.Moves.{Worked, by_rule, by_closing, by_reset, by_restart, by_parting, by_joining, by_lending, by_giving_back, Move, noting, taking_notes, sending, sending_control, asking, withdrawing, answering, meeting, ending_meeting, turning, placing, clearing, gathering, chaining, routing, popping, Moves, moves_keep}
use Rattle.law_controller_facts.proofs.Laws.{input_goes, input_sound, always_sound}

-- *A port at work*
worked_flows : (setups : List Setup) (setup : Setup) (desk : Desk) (w v : Work) → Worked setups setup desk w v → HasFlows w.port → HasFlows v.port
worked_flows setups setup desk w v (by_rule u goes) h = goes_flows setup desk w u goes h
worked_flows setups setup desk w v by_closing h = closes_flows_of w h
worked_flows setups setup desk w v by_reset h = resets_flows setup w h
worked_flows setups setup desk w v by_restart h = record { labels = tt; grants = tt }
worked_flows setups setup desk w v (by_parting number) h = parted_flows w None number (label_at w.port number) refl h
worked_flows setups setup desk w v (by_joining number output end offered) h = parted_flows w (Some output) number (label_at w.port number) refl h
worked_flows setups setup desk w v (by_lending grant input found is end) h = lent_flows w grant input found h
worked_flows setups setup desk w v (by_giving_back grant found) h = given_back_flows w grant found h

module _ (setups : List Setup) where
  abbrev IsFlowing : Acted → Type 0
  IsFlowing a = Every HasFlowsAt a.controller.ports

  sent_flows : (a : Acted) (channel : Channel) (mark : Mark) (payload : List ℕ) → IsFlowing a → IsFlowing (sends a channel mark payload)
  sent_flows a channel mark payload h = on_both (λ (s : Sender Controller). Every HasFlowsAt s.queues.ports) (nat_le (length (frame_cells channel mark payload)) (free_slots a.controller))
      (record { queues = with_cells a.controller (frame_cells channel mark payload); notes = made a.notes mark payload })
      (record { queues = a.controller; notes = noted (made a.notes mark payload) (Loss mark PoolFull) }) h h

  move_flows : (a b : Acted) → Move setups a b → IsFlowing a → IsFlowing b
  move_flows a b (noting x item) h = h
  move_flows a b (taking_notes x notes) h = h
  move_flows a b (sending x channel mark payload) h = sent_flows x channel mark payload h
  move_flows a b (sending_control x channel payload) h = sent_flows (record x { numbers = with_control x.numbers }) channel (next_control x.numbers) payload h
  move_flows a b (asking x request estab room shaped) h = h
  move_flows a b (withdrawing x input) h = h
  move_flows a b (answering x answer) h = h
  move_flows a b (meeting x) h = h
  move_flows a b (ending_meeting x estab) h = h
  move_flows a b (turning x step turn) h = h
  move_flows a b (placing x linked w found worked) h = put_every port_key HasFlowsAt (record linked { port = w.port }) x.controller.ports
      (worked_flows setups linked.setup x.controller.desk _ w worked (at_every port_key HasFlowsAt linked.setup.port.0 x.controller.ports linked h found)) h
  move_flows a b (clearing x linked found may) h = (let was : HasFlows linked.port = at_every port_key HasFlowsAt linked.setup.port.0 x.controller.ports linked h found in
      put_every port_key HasFlowsAt (record linked { port = cleared linked.port }) x.controller.ports (record { labels = was.labels; grants = was.grants }) h)
  move_flows a b (gathering x r) h = h
  move_flows a b (chaining x linked after found same port) h = put_every port_key HasFlowsAt after x.controller.ports
      (subst (λ (p : Port). HasFlows p) (sym port) (at_every port_key HasFlowsAt linked.setup.port.0 x.controller.ports linked h found)) h
  move_flows a b (routing x table waiting begun changes) h = h
  move_flows a b (popping x queue) h = h

  pub moves_flow : (a b : Acted) → Moves setups a b → IsFlowing a → IsFlowing b
  moves_flow a b moves h = moves_keep setups IsFlowing move_flows (λ x k. k) moves h

  own_flows : (a : Acted) (input : Input) → IsOwn input → IsSound setups a.controller → IsFlowing a → IsFlowing (takes_input a input)
  own_flows a input own s h = moves_flow a (takes_input a input) (input_goes setups a input own s) h

  input_flows : (a : Acted) (input : Input) → IsSound setups a.controller → IsFlowing a → IsFlowing (takes_input a input)
  input_flows a (CellComes cell) s h = own_flows a (CellComes cell) tt s h
  input_flows a (PacketEnters number octets) s h = own_flows a (PacketEnters number octets) tt s h
  input_flows a Ticks s h = own_flows a Ticks tt s h
  input_flows a Restarts s h = own_flows a Restarts tt s h
  input_flows a (ChangeComes change) s h = own_flows a (ChangeComes change) tt s h
  input_flows a (FrameIsForged channel mark payload) s h = own_flows a (FrameIsForged channel mark payload) tt s h
  input_flows a CellLeaves s h = own_flows a CellLeaves tt s h
  input_flows a (Meanwhile notes numbers) s h = h

  inputs_flow : (inputs : List Input) (a : Acted) → IsSound setups a.controller → IsFlowing a → IsFlowing (takes_inputs a inputs)
  inputs_flow [] a s h = h
  inputs_flow (input ∷ inputs) a s h = inputs_flow inputs (takes_input a input) (input_sound setups a input s) (input_flows a input s h)

opened_flows : (f : PortRange → Setup) (ranges : List PortRange) (instances : ℕ) → Every HasFlowsAt (opens_ports f instances ranges)
opened_flows f [] instances = tt
opened_flows f (range ∷ ranges) instances = (record { labels = tt; grants = tt }, opened_flows f ranges (instances + 1))

pub always_flowing : Always HasFlowingPorts
always_flowing o inputs differ = inputs_flow (setups_by o) inputs (opened_by o) (always_sound o [] differ) (opened_flows (setup_of o.node o.address o.timers o.policy) o.ranges (o.numbers.instances + 1))

-- *What is said*: of a message in range, its channel and its flow
abbrev Narrow : Channel → Type 0
Narrow channel = channel.vpi < 2 ^ 8

heard_in_range : (message : Message) → InRange message → IsHeard Narrow message
heard_in_range (Adjacency hello) r = tt
heard_in_range (Redirect sender peer number lifetime channel flow) r = (omega (arith, r.0), r.1, r.2)
heard_in_range (Reclaim sender peer number channel flow) r = r
heard_in_range (ReclaimAck sender peer number channel flow) r = tt
heard_in_range (LabelRange sender peer number least greatest) r = tt
heard_in_range (Error sender peer number code channel) r = tt

pub says_in_range : SaysInRange
says_in_range = record {
  hears = λ setups setup desk w source message k r. goes_said setups setup k.linked k.ranged Narrow (λ channel name. name) desk w _ (hears_goes setup desk w source message k.live (heard_in_range message r)) k.kept k.flows k.said;
  ticks = λ setups setup desk w k. goes_said setups setup k.linked k.ranged Narrow (λ channel name. name) desk w _ (ticks_goes setup desk w k.live) k.kept k.flows k.said;
  counts = λ setups setup desk w packet k. goes_said setups setup k.linked k.ranged Narrow (λ channel name. name) desk w _ (counts_goes setup desk w packet k.kept.port.ascend) k.kept k.flows k.said;
  done = λ setups setup w request k. goes_said setups setup k.linked k.ranged Narrow (λ channel name. name) empty_desk w _ (done_goes setup empty_desk w request (λ t. tt)) k.kept k.flows k.said;
  given_back = λ setups setup w grant found k. given_back_said setups setup k.linked k.ranged Narrow (λ channel name. name) w grant found k.kept k.flows k.said;
}
