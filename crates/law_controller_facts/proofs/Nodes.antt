-- a controller keeps its node

use Rattle.std.proofs.Common.{◌≡◌, List, length}
use Rattle.std.specs.Prelude.{nat_le}
use Rattle.claims_model.specs.world_model.Words.{NodeId, next_control, Loss, noted, frame_cells, made, Setup, Controller}
use Rattle.claims_model.specs.world_model.link_model.declared.record.Cause.TheVariants as causes
use Rattle.claims_model.specs.world_model.frame_model.Sending.{Sender}
use Rattle.law_port_facts.proofs.Keyed.{on_both}
use Rattle.claims_model.specs.world_model.Controller.{Acted}
use Rattle.claims_model.specs.world_model.Sending.{with_cells}
use Rattle.law_controller_facts.proofs.Moves.{Move, noting, taking_notes, sending, sending_control, asking, withdrawing, answering, meeting, ending_meeting, turning, placing, clearing, gathering, chaining, routing, popping, Moves, moves_keep}

-- *A controller* keeps its node
module _ (setups : List Setup) (n : NodeId) where
  move_node : (a b : Acted) → Move setups a b → a.controller.node ≡ n → b.controller.node ≡ n
  move_node a b (noting x item) h = h
  move_node a b (taking_notes x notes) h = h
  move_node a b (sending x channel mark payload) h = on_both (λ (s : Sender Controller). s.queues.node ≡ n) (nat_le (length (frame_cells channel mark payload)) _)
      (record { queues = with_cells x.controller (frame_cells channel mark payload); notes = made x.notes mark payload })
      (record { queues = x.controller; notes = noted (made x.notes mark payload) (Loss mark causes.PoolFull) }) h h
  move_node a b (sending_control x channel payload) h = on_both (λ (s : Sender Controller). s.queues.node ≡ n) (nat_le (length (frame_cells channel (next_control x.numbers) payload)) _)
      (record { queues = with_cells x.controller (frame_cells channel (next_control x.numbers) payload); notes = made x.notes (next_control x.numbers) payload })
      (record { queues = x.controller; notes = noted (made x.notes (next_control x.numbers) payload) (Loss (next_control x.numbers) causes.PoolFull) }) h h
  move_node a b (asking x request estab room shaped) h = h
  move_node a b (withdrawing x input) h = h
  move_node a b (answering x answer) h = h
  move_node a b (meeting x) h = h
  move_node a b (ending_meeting x estab) h = h
  move_node a b (turning x step turn) h = h
  move_node a b (placing x linked w found worked) h = h
  move_node a b (clearing x linked found may) h = h
  move_node a b (gathering x r) h = h
  move_node a b (chaining x linked after found same port) h = h
  move_node a b (routing x table waiting begun changes) h = h
  move_node a b (popping x queue) h = h

  pub moves_node : (a b : Acted) → Moves setups a b → a.controller.node ≡ n → b.controller.node ≡ n
  moves_node a b moves h = moves_keep setups (λ (x : Acted). x.controller.node ≡ n) move_node (λ x k. k) moves h
