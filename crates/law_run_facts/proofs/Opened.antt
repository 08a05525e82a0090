-- how the controllers of a run are opened, and that their names stay

use Rattle.std.proofs.Common.{◌≡◌, ℕ, ◌∙◌, List, [], ◌∷◌, length, refl}
use Rattle.law_world_pace.specs.world_model.Words.{NodeId, GivenOut, Journal, Policy, Addr, Channel, Mark, next_control, with_control, Loss, PoolFull, noted, frame_cells, made, Setup, Controller, Topology, Node, opened_site}
use Rattle.law_controller_bindings.proofs.law_port_facts.Keyed.{on_both}
use Rattle.std.specs.Prelude.{nat_le}
use Rattle.law_world_pace.specs.world_model.frame_model.Sending.{Sender}
use Rattle.law_world_pace.specs.world_model.Controller.{Acted, free_slots}
use Rattle.law_world_pace.specs.world_model.Sending.{with_cells, sends}
use Rattle.law_controller_bindings.specs.law_controller_facts.Inputs.{Input, CellComes, PacketEnters, Ticks, Restarts, ChangeComes, FrameIsForged, CellLeaves, Meanwhile, takes_input, takes_inputs}
use Rattle.law_controller_bindings.specs.law_controller_facts.Sound.{IsSound, IsOwn, Opening, opened_by, setups_by}
use Rattle.law_controller_bindings.proofs.law_controller_facts.Moves.{Move, noting, taking_notes, sending, sending_control, asking, withdrawing, answering, meeting, ending_meeting, turning, placing, clearing, gathering, chaining, routing, popping, moves_keep}
use Rattle.law_controller_bindings.proofs.law_controller_facts.Laws.{input_goes, input_sound, opening_sound}
use Rattle.law_controller_bindings.specs.law_controller.Law.{IsOpening}
use Rattle.law_lifetimes.proofs.Opened.{opening_of}

pub opened_as : (policy : Policy) (topology : Topology) (number : NodeId) (node : Node) (numbers : GivenOut) (notes : Journal)
    → (opened_by (opening_of policy topology number node numbers notes)).controller ≡ (opened_site policy topology number node numbers).controller
opened_as policy topology number node numbers notes = refl

-- *A controller keeps its name*: its node and its address
module _ (setups : List Setup) (node : NodeId) (address : Addr) where
  pub record IsNamed (a : Acted) : Type 0 where
    pub is_node : a.controller.node ≡ node
    pub is_address : a.controller.address ≡ address

  same : (a b : Acted) → b.controller.node ≡ a.controller.node → b.controller.address ≡ a.controller.address → IsNamed a → IsNamed b
  same a b n d h = record { is_node = n ∙ h.is_node; is_address = d ∙ h.is_address }

  sends_named : (a : Acted) (channel : Channel) (mark : Mark) (payload : List ℕ) → IsNamed a → IsNamed (sends a channel mark payload)
  sends_named a channel mark payload h = on_both (λ (s : Sender Controller). IsNamed (record a { controller = s.queues; notes = s.notes })) (nat_le (length (frame_cells channel mark payload)) (free_slots a.controller))
      (record { queues = with_cells a.controller (frame_cells channel mark payload); notes = made a.notes mark payload })
      (record { queues = a.controller; notes = noted (made a.notes mark payload) (Loss mark PoolFull) })
      (record { is_node = h.is_node; is_address = h.is_address }) (record { is_node = h.is_node; is_address = h.is_address })

  move_named : (a b : Acted) → Move setups a b → IsNamed a → IsNamed b
  move_named a b (noting x item) h = same x b refl refl h
  move_named a b (taking_notes x notes) h = same x b refl refl h
  move_named a b (sending x channel mark payload) h = sends_named x channel mark payload h
  move_named a b (sending_control x channel payload) h = sends_named (record x { numbers = with_control x.numbers }) channel (next_control x.numbers) payload (record { is_node = h.is_node; is_address = h.is_address })
  move_named a b (asking x request estab room shaped) h = same x b refl refl h
  move_named a b (withdrawing x input) h = same x b refl refl h
  move_named a b (answering x answer) h = same x b refl refl h
  move_named a b (meeting x) h = same x b refl refl h
  move_named a b (ending_meeting x estab) h = same x b refl refl h
  move_named a b (turning x step turn) h = same x b refl refl h
  move_named a b (placing x linked w found worked) h = same x b refl refl h
  move_named a b (clearing x linked found may) h = same x b refl refl h
  move_named a b (gathering x r) h = same x b refl refl h
  move_named a b (chaining x linked after found setup port) h = same x b refl refl h
  move_named a b (routing x table waiting begun changes) h = same x b refl refl h
  move_named a b (popping x queue) h = same x b refl refl h

  own_named : (a : Acted) (input : Input) → IsOwn input → IsSound setups a.controller → IsNamed a → IsNamed (takes_input a input)
  own_named a input own s h = moves_keep setups IsNamed move_named (λ b k. record { is_node = k.is_node; is_address = k.is_address }) (input_goes setups a input own s) h

  input_named : (a : Acted) (input : Input) → IsSound setups a.controller → IsNamed a → IsNamed (takes_input a input)
  input_named a (CellComes cell) s h = own_named a (CellComes cell) tt s h
  input_named a (PacketEnters number octets) s h = own_named a (PacketEnters number octets) tt s h
  input_named a Ticks s h = own_named a Ticks tt s h
  input_named a Restarts s h = own_named a Restarts tt s h
  input_named a (ChangeComes change) s h = own_named a (ChangeComes change) tt s h
  input_named a (FrameIsForged channel mark payload) s h = own_named a (FrameIsForged channel mark payload) tt s h
  input_named a CellLeaves s h = own_named a CellLeaves tt s h
  input_named a (Meanwhile notes numbers) s h = record { is_node = h.is_node; is_address = h.is_address }

  inputs_named : (inputs : List Input) (a : Acted) → IsSound setups a.controller → IsNamed a → IsNamed (takes_inputs a inputs)
  inputs_named [] a s h = h
  inputs_named (input ∷ inputs) a s h = inputs_named inputs (takes_input a input) (input_sound setups a input s) (input_named a input s h)

pub always_named : (o : Opening) (inputs : List Input) → IsOpening o → IsNamed (setups_by o) o.node o.address (takes_inputs (opened_by o) inputs)
always_named o inputs is = inputs_named (setups_by o) o.node o.address inputs (opened_by o) (opening_sound o is.differ) (record { is_node = refl; is_address = refl })
