-- what comes to a switch: cells go into the queues of its links by branches alone

use Rattle.std.proofs.Common.{◌≡◌, ℕ, zero, suc, List, [], ◌∷◌, ◌++◌, length, slice_set, slice_index_or, Option, None, Some, refl, sym, ◌∙◌, ap, append-nil}
use Rattle.std.specs.Prelude.{nat_le}
use Rattle.std.specs.FinMap.{get}
use Rattle.std.specs.Option.{option_map}
use Rattle.world_model.specs.Words.{PortNo, End, next_control, with_control, Cell, Routed, queue_of, routed, switched_on, on_channel_of, made, frame_cells, Loss, PoolFull, noted, Switch, control_port, gsmp_channel, gsmp_cell, tick_comes, restarted}
use Rattle.world_model.specs.gsmp_wire.declared.message.Message.{Message}
use Rattle.world_model.specs.gsmp_wire.Layout.{octets_of}
use Rattle.world_model.specs.crossbar_model.declared.branch.Branch.{Branch}
use Rattle.world_model.specs.crossbar_model.declared.routed.Routed.TheVariants as routes
use Rattle.world_model.specs.crossbar_model.Crossbar.{output_of, input_of}
use Rattle.world_model.specs.frame_model.Sending.{Sender}
use Rattle.law_passing.specs.ordered_lists.Ordered.{Every}
use Rattle.law_run_facts.proofs.law_port_facts.Keyed.{on_both}
use Rattle.law_packet_worlds.proofs.law_way_words.Switching.{Kept, gsmp_kept, tick_kept, restarted_kept}
use Rattle.world_model.specs.Switch.{ActedSwitch, free_slots}
use Rattle.world_model.specs.Conduct as conduct
use Rattle.world_model.specs.Conduct.{with_cells, says}

-- the queue of a port of a link
abbrev pub queue_above : ActedSwitch → (q : ℕ) → List Cell
queue_above a q = slice_index_or a.switch.crossbar.queues (suc q) []

abbrev pub LeavesLinks : (first : ActedSwitch) → ActedSwitch → Type 0
LeavesLinks first a = (q : ℕ) → queue_above a q ≡ queue_above first q

set_above : (queues : List (List Cell)) (cells : List Cell) (q : ℕ) → slice_index_or (slice_set queues 0 cells) (suc q) [] ≡ slice_index_or queues (suc q) []
set_above [] cells q = refl
set_above (x ∷ queues) cells q = refl

module _ (first : ActedSwitch) where
  leaves_kept : Kept (LeavesLinks first)
  leaves_kept = record {
    alike = λ a b queues notes controls h q. ap (λ (qs : List (List Cell)). slice_index_or qs (suc q) []) queues ∙ h q;
    noted = λ a item is h. h;
    said = says_leaves;
  }
    where
      says_leaves : (a : ActedSwitch) (message : Message) → LeavesLinks first a → LeavesLinks first (says a message)
      says_leaves a message h = on_both (λ (s : Sender Switch). LeavesLinks first (record { switch = s.queues; notes = s.notes; numbers = with_control a.numbers })) (nat_le (length cells) (free_slots a.switch))
          (record { queues = with_cells a.switch control_port cells; notes = made a.notes (next_control a.numbers) (octets_of message) })
          (record { queues = a.switch; notes = noted (made a.notes (next_control a.numbers) (octets_of message)) (Loss (next_control a.numbers) PoolFull) })
          (λ q. set_above a.switch.crossbar.queues (queue_of a.switch.crossbar control_port ++ cells) q ∙ h q)
          h
        where
          cells : List Cell
          cells = frame_cells gsmp_channel (next_control a.numbers) (octets_of message)

pub tick_leaves_links : (a : ActedSwitch) → LeavesLinks a (tick_comes a)
tick_leaves_links a = tick_kept (LeavesLinks a) (leaves_kept a) a (λ q. refl)

pub restart_leaves_links : (a : ActedSwitch) → LeavesLinks a (restarted a)
restart_leaves_links a = restarted_kept (LeavesLinks a) (leaves_kept a) a (λ q. refl)

-- *A cell that a branch leads* to this port
pub record IsLed (a : ActedSwitch) (port : PortNo) (cell : Cell) (q : ℕ) (c : Cell) : Type 0 where
  pub output : End
  pub is_output : output_of a.switch.crossbar.branches (input_of port cell) ≡ Some output
  pub to_port : output.port.0 ≡ suc q
  pub mark : c.mark ≡ cell.mark
  pub channel : c.header.channel ≡ output.channel

pub record Adds (a : ActedSwitch) (port : PortNo) (cell : Cell) (b : ActedSwitch) (q : ℕ) : Type 0 where
  pub new : List Cell
  pub is : queue_above b q ≡ queue_above a q ++ new
  pub led : Every (IsLed a port cell q) new

adds_none : (a : ActedSwitch) (port : PortNo) (cell : Cell) (b : ActedSwitch) (q : ℕ) → queue_above b q ≡ queue_above a q → Adds a port cell b q
adds_none a port cell b q same = record { new = []; is = same ∙ sym (append-nil (queue_above a q)); led = tt }

-- *Queues* with one cell more at one of them
pub record IsSet (queues : List (List Cell)) (k : ℕ) (cell : Cell) (q : ℕ) : Type 0 where
  pub new : List Cell
  pub is : slice_index_or (slice_set queues k (slice_index_or queues k [] ++ cell ∷ [])) q [] ≡ slice_index_or queues q [] ++ new
  pub one : Every (λ (c : Cell). (c ≡ cell) × (k ≡ q)) new

one_set : (queues : List (List Cell)) (k : ℕ) (cell : Cell) (q : ℕ) → IsSet queues k cell q
one_set [] k cell q = record { new = []; is = refl; one = tt }
one_set (x ∷ queues) zero cell zero = record { new = cell ∷ []; is = refl; one = ((refl, refl), tt) }
one_set (x ∷ queues) zero cell (suc q) = record { new = []; is = sym (append-nil (slice_index_or queues q [])); one = tt }
one_set (x ∷ queues) (suc k) cell zero = record { new = []; is = sym (append-nil x); one = tt }
one_set (x ∷ queues) (suc k) cell (suc q) = (let s = one_set queues k cell q in record { new = s.new; is = s.is; one = every_up s.new s.one })
  where
    every_up : (new : List Cell) → Every (λ (c : Cell). (c ≡ cell) × (k ≡ q)) new → Every (λ (c : Cell). (c ≡ cell) × (suc k ≡ suc q)) new
    every_up [] e = tt
    every_up (c ∷ new) e = ((e.0.0, ap suc e.0.1), every_up new e.1)

pub comes_adds : (a : ActedSwitch) (port : PortNo) (cell : Cell) (q : ℕ) → Adds a port cell (conduct.cell_comes a port cell) q
comes_adds a port cell q = on_both (λ b. Adds a port cell b q) (conduct.is_gsmp port cell.header.channel) (gsmp_cell a cell) (conduct.switched_cell a port cell)
    (adds_none a port cell (gsmp_cell a cell) q (gsmp_kept (LeavesLinks a) (leaves_kept a) a cell (λ q. refl) q))
    (by (routed a.switch.crossbar (free_slots a.switch) port cell))
  where
    by_branch : (o : Option Branch) → get a.switch.crossbar.branches (input_of port cell) ≡ o → (free : ℕ) → (output : End)
        → (new : List Cell) × (slice_index_or (switched_on a.switch.crossbar (input_of port cell) o free cell).queues (suc q) [] ≡ queue_above a q ++ new) × Every (IsLed a port cell q) new
    by_branch None e free output = ([], sym (append-nil (queue_above a q)), tt)
    by_branch (Some branch) e zero output = ([], sym (append-nil (queue_above a q)), tt)
    by_branch (Some branch) e (suc n) output =
        let s = one_set a.switch.crossbar.queues branch.output.port.0 (on_channel_of cell branch.output) (suc q) in
        (s.new, s.is, each s.new s.one)
      where
        each : (new : List Cell) → Every (λ (c : Cell). (c ≡ on_channel_of cell branch.output) × (branch.output.port.0 ≡ suc q)) new → Every (IsLed a port cell q) new
        each [] all = tt
        each (c ∷ new) all = (
          record {
            output = branch.output;
            is_output = ap (option_map (λ (b : Branch). b.output)) e;
            to_port = all.0.1;
            mark = ap (λ (x : Cell). x.mark) all.0.0;
            channel = ap (λ (x : Cell). x.header.channel) all.0.0;
          },
          each new all.1,
        )

    by : (r : Routed) → Adds a port cell (conduct.cell_routed a port cell r) q
    by (routes.Out output) =
        let b = by_branch (get a.switch.crossbar.branches (input_of port cell)) refl (free_slots a.switch) output in
        record { new = b.0; is = b.1; led = b.2 }
    by routes.Unconnected = adds_none a port cell (conduct.cell_routed a port cell routes.Unconnected) q refl
    by routes.PoolFull = adds_none a port cell (conduct.cell_routed a port cell routes.PoolFull) q refl
