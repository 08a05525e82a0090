-- every list of inputs keeps a controller sound

use Rattle.std.proofs.Common.{◌≡◌, ◌≢◌, ℕ, ◌≤◌, List, [], ◌∷◌, Option, None, Some, refl, ap, arith, map, ◌+◌, length, ◌*◌}
use Rattle.std.proofs.lemmas.List.{length-map}
use Rattle.std.specs.Prelude.{drop}
use Rattle.claims_model.specs.world_model.Words.{Refusal, Setup, setup_of, opens_ports, inject_refusal, injected}
use Rattle.law_port_facts.specs.ordered_lists.Ordered.{Every, InOrder}
use Rattle.law_port_facts.proofs.ordered_lists.InOrder.{order_mapped}
use Rattle.law_port_facts.proofs.Joins.{begun_kept}
use Rattle.claims_model.specs.world_model.controller_model.declared.range.PortRange.{PortRange}
use Rattle.claims_model.specs.world_model.Controller.{Acted}
use Rattle.claims_model.specs.world_model.Sending.{sends}
use Rattle.law_controller_facts.specs.Inputs.{Input, CellComes, PacketEnters, Ticks, Restarts, ChangeComes, FrameIsForged, CellLeaves, Meanwhile, enters_unless, takes_input, takes_inputs}
use Rattle.law_controller_facts.specs.Sound.{linked_setup, IsLinkedPort, AreApart, IsSound, HasSoundSide, HasSoundPorts, HasShapedRequests, HasSoundDesk, HasShutPorts, IsShutLinked, Always, IsOwn, NumbersNeverFall, DrawsFewInstances, DrawsFewMarks, Opening, opened_by, setups_by}
use Rattle.law_controller_facts.proofs.Moves.{Moves, stays, moves_to, sending, popping, HasPorts, moves_ports, moves_keep}
use Rattle.law_controller_facts.proofs.Performing.{node_restarts_goes}
use Rattle.law_controller_facts.proofs.Joining.{change_comes_goes}
use Rattle.law_controller_facts.proofs.Events.{routes_goes, cell_comes_goes, controller_ticks_goes}
use Rattle.law_controller_facts.proofs.Desks.{IsClient, move_client, reset_client}
use Rattle.law_controller_facts.proofs.Unmet.{IsUnmet, moves_unmet}
use Rattle.law_controller_facts.proofs.Numbers.{moves_never_fall}
use Rattle.law_controller_facts.proofs.Draws.{sends_calm, node_restarts_draws}
use Rattle.law_controller_facts.proofs.Marks.{Marks, no_marks, mark_more}
use Rattle.law_controller_facts.proofs.MarkedInputs.{routes_marks, cell_marks, ticks_marks, change_marks, restarts_marks}
use Rattle.law_controller_facts.proofs.Drawn.{DrawsFew, calm_few, none_few, routes_calm, cell_few, ticks_few, change_few}

module _ (setups : List Setup) where
  -- *Moves keep a controller sound*
  pub has_ports : (a : Acted) → IsSound setups a.controller → HasPorts setups a
  has_ports a s = record { ports = s.ports; shaped = s.requests }

  is_client : (a : Acted) → IsSound setups a.controller → IsClient a
  is_client a s = record { side = s.side; waits = s.desk.waits; met = s.desk.met; well = record { below = s.desk.below; earlier = s.desk.earlier; own_inputs = s.desk.own_inputs; own_ports = s.desk.own_ports; room = s.desk.room } }

  pub sound_of : (a : Acted) → HasPorts setups a → IsClient a → IsUnmet a → IsSound setups a.controller
  sound_of a h k q = record {
    unmet = q;
    side = k.side;
    ports = h.ports;
    requests = h.shaped;
    desk = record { waits = k.waits; met = k.met; below = k.well.below; earlier = k.well.earlier; own_inputs = k.well.own_inputs; own_ports = k.well.own_ports; room = k.well.room };
  }

  pub moves_sound : (a b : Acted) → Moves setups a b → IsSound setups a.controller → IsSound setups b.controller
  moves_sound a b moves s = sound_of b (moves_ports setups moves (has_ports a s)) (moves_keep setups IsClient (move_client setups) reset_client moves (is_client a s)) (moves_unmet setups moves (has_ports a s) s.unmet)

  -- *Each input*
  enters_goes : (a : Acted) (number : ℕ) (octets : List ℕ) (o : Option Refusal) → Moves setups a (enters_unless a number octets o)
  enters_goes a number octets (Some refusal) = stays a
  enters_goes a number octets None = routes_goes setups a (record { packet = number; frame = 0 }) octets

  enters_marks : (a : Acted) (number : ℕ) (octets : List ℕ) (o : Option Refusal) → Marks (40000 + 50000 * length setups) a (enters_unless a number octets o)
  enters_marks a number octets (Some refusal) = no_marks (40000 + 50000 * length setups) a a refl
  enters_marks a number octets None = mark_more 1 (40000 + 50000 * length setups) a (injected a number octets) (omega arith) (routes_marks setups a (record { packet = number; frame = 0 }) octets)

  enters_few : (a : Acted) (number : ℕ) (octets : List ℕ) (o : Option Refusal) → DrawsFew a (enters_unless a number octets o)
  enters_few a number octets (Some refusal) = none_few a
  enters_few a number octets None = calm_few a (injected a number octets) (injected a number octets) (routes_calm a (record { packet = number; frame = 0 }) octets) (none_few (injected a number octets))

  -- what is its own is made of moves
  pub input_goes : (a : Acted) (input : Input) → IsOwn input → IsSound setups a.controller → Moves setups a (takes_input a input)
  input_goes a (CellComes cell) own s = cell_comes_goes setups a cell (has_ports a s)
  input_goes a (PacketEnters number octets) own s = enters_goes a number octets (inject_refusal octets)
  input_goes a Ticks own s = controller_ticks_goes setups a (has_ports a s)
  input_goes a Restarts own s = node_restarts_goes setups a (has_ports a s)
  input_goes a (ChangeComes change) own s = change_comes_goes setups a change (has_ports a s)
  input_goes a (FrameIsForged channel mark payload) own s = moves_to (sending a channel mark payload)
  input_goes a CellLeaves own s = moves_to (popping a (drop 1 a.controller.queue))
  input_goes a (Meanwhile notes numbers) own s = absurd own

  -- and draws few instances
  input_few : (a : Acted) (input : Input) → IsOwn input → IsSound setups a.controller → DrawsFew a (takes_input a input)
  input_few a (CellComes cell) own s = cell_few setups a cell (has_ports a s)
  input_few a (PacketEnters number octets) own s = enters_few a number octets (inject_refusal octets)
  input_few a Ticks own s = ticks_few a
  input_few a Restarts own s = record { few = omega (arith, node_restarts_draws a) }
  input_few a (ChangeComes change) own s = change_few a change
  input_few a (FrameIsForged channel mark payload) own s = calm_few a (sends a channel mark payload) (sends a channel mark payload) (sends_calm a channel mark payload) (none_few (sends a channel mark payload))
  input_few a CellLeaves own s = record { few = omega arith }
  input_few a (Meanwhile notes numbers) own s = absurd own

  pub input_draws : (a : Acted) (input : Input) → length setups ≤ 8 → IsOwn input → IsSound setups a.controller → (takes_input a input).numbers.instances ≤ a.numbers.instances + 20
  input_draws a input few own s = omega (arith, (input_few a input own s).few, length-map a.controller.ports linked_setup, ap (λ (xs : List Setup). length xs) s.ports.same, few)

  input_marks : (a : Acted) (input : Input) → IsOwn input → IsSound setups a.controller → Marks (40000 + 50000 * length setups) a (takes_input a input)
  input_marks a (CellComes cell) own s = cell_marks setups a cell (has_ports a s)
  input_marks a (PacketEnters number octets) own s = enters_marks a number octets (inject_refusal octets)
  input_marks a Ticks own s = ticks_marks setups a (has_ports a s)
  input_marks a Restarts own s = no_marks (40000 + 50000 * length setups) a (takes_input a Restarts) (restarts_marks setups a)
  input_marks a (ChangeComes change) own s = change_marks setups a change (has_ports a s)
  input_marks a (FrameIsForged channel mark payload) own s = no_marks (40000 + 50000 * length setups) a (takes_input a (FrameIsForged channel mark payload)) refl
  input_marks a CellLeaves own s = no_marks (40000 + 50000 * length setups) a (takes_input a CellLeaves) refl
  input_marks a (Meanwhile notes numbers) own s = absurd own

  pub input_draws_marks : (a : Acted) (input : Input) → length setups ≤ 8 → IsOwn input → IsSound setups a.controller → (takes_input a input).numbers.controls ≤ a.numbers.controls + 1000000
  input_draws_marks a input few own s = omega (arith, (input_marks a input own s).few, few)

  pub input_sound : (a : Acted) (input : Input) → IsSound setups a.controller → IsSound setups (takes_input a input).controller
  input_sound a (CellComes cell) s = moves_sound a (takes_input a (CellComes cell)) (input_goes a (CellComes cell) tt s) s
  input_sound a (PacketEnters number octets) s = moves_sound a (takes_input a (PacketEnters number octets)) (input_goes a (PacketEnters number octets) tt s) s
  input_sound a Ticks s = moves_sound a (takes_input a Ticks) (input_goes a Ticks tt s) s
  input_sound a Restarts s = moves_sound a (takes_input a Restarts) (input_goes a Restarts tt s) s
  input_sound a (ChangeComes change) s = moves_sound a (takes_input a (ChangeComes change)) (input_goes a (ChangeComes change) tt s) s
  input_sound a (FrameIsForged channel mark payload) s = moves_sound a (takes_input a (FrameIsForged channel mark payload)) (input_goes a (FrameIsForged channel mark payload) tt s) s
  input_sound a CellLeaves s = moves_sound a (takes_input a CellLeaves) (input_goes a CellLeaves tt s) s
  input_sound a (Meanwhile notes numbers) s = record { side = s.side; ports = s.ports; requests = s.requests; desk = s.desk; unmet = s.unmet }

  pub inputs_sound : (inputs : List Input) (a : Acted) → IsSound setups a.controller → IsSound setups (takes_inputs a inputs).controller
  inputs_sound [] a s = s
  inputs_sound (input ∷ inputs) a s = inputs_sound inputs (takes_input a input) (input_sound a input s)

-- *The opening*
opened_setups : (f : PortRange → Setup) (ranges : List PortRange) (instances : ℕ) → map linked_setup (opens_ports f instances ranges) ≡ map f ranges
opened_setups f [] instances = refl
opened_setups f (range ∷ ranges) instances = ap (λ (rest : List Setup). f range ∷ rest) (opened_setups f ranges (instances + 1))

opened_each : (setups : List Setup) (f : PortRange → Setup) (ranges : List PortRange) (instances : ℕ) → Every (IsLinkedPort setups) (opens_ports f instances ranges)
opened_each setups f [] instances = tt
opened_each setups f (range ∷ ranges) instances = (begun_kept setups (f range) instances 0, opened_each setups f ranges (instances + 1))

opened_shut : (f : PortRange → Setup) (ranges : List PortRange) (instances : ℕ) → Every IsShutLinked (opens_ports f instances ranges)
opened_shut f [] instances = tt
opened_shut f (range ∷ ranges) instances = (record { clearing = refl; session = refl; grants = refl }, opened_shut f ranges (instances + 1))

pub opening_sound : (o : Opening) → InOrder (λ (x : PortRange) (y : PortRange). x.port.0 ≢ y.port.0) o.ranges → IsSound (setups_by o) (opened_by o).controller
opening_sound o differ = record {
  unmet = λ e. opened_shut (setup_of o.node o.address o.timers o.policy) o.ranges (o.numbers.instances + 1);
  side = record { peer = refl; silence = omega arith };
  ports = record {
    same = opened_setups (setup_of o.node o.address o.timers o.policy) o.ranges (o.numbers.instances + 1);
    apart = order_mapped (setup_of o.node o.address o.timers o.policy) AreApart o.ranges differ;
    each = opened_each (setups_by o) (setup_of o.node o.address o.timers o.policy) o.ranges (o.numbers.instances + 1);
  };
  requests = tt;
  desk = record { waits = λ e. refl; met = λ e. absurd (cc e); below = tt; earlier = tt; own_inputs = tt; own_ports = tt; room = omega arith };
}

-- *The laws*
pub always_sound : Always IsSound
always_sound o inputs differ = inputs_sound (setups_by o) inputs (opened_by o) (opening_sound o differ)

pub always_side : Always HasSoundSide
always_side o inputs differ = (always_sound o inputs differ).side

pub always_ports : Always HasSoundPorts
always_ports o inputs differ = (always_sound o inputs differ).ports

pub always_requests : Always HasShapedRequests
always_requests o inputs differ = (always_sound o inputs differ).requests

pub always_desk : Always HasSoundDesk
always_desk o inputs differ = (always_sound o inputs differ).desk

pub always_shut : Always HasShutPorts
always_shut o inputs differ = (always_sound o inputs differ).unmet

pub numbers_never_fall : NumbersNeverFall
numbers_never_fall o inputs input differ own =
    let a : Acted = takes_inputs (opened_by o) inputs in
    moves_never_fall (setups_by o) a (takes_input a input) (input_goes (setups_by o) a input own (always_sound o inputs differ))

pub draws_few_instances : DrawsFewInstances
draws_few_instances o inputs input differ few own =
    let a : Acted = takes_inputs (opened_by o) inputs in
    input_draws (setups_by o) a input (omega (arith, length-map o.ranges (setup_of o.node o.address o.timers o.policy), few)) own (always_sound o inputs differ)

pub draws_few_marks : DrawsFewMarks
draws_few_marks o inputs input differ few own =
    let a : Acted = takes_inputs (opened_by o) inputs in
    input_draws_marks (setups_by o) a input (omega (arith, length-map o.ranges (setup_of o.node o.address o.timers o.policy), few)) own (always_sound o inputs differ)
