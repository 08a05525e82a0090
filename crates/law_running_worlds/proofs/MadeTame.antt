-- a chain that a cell ends at a controller, or at a switch, and that passes is the frame of its last cell

use Rattle.std.proofs.Common.{◌≡◌, Bool, not, List, [], ◌∷◌, ◌++◌, length, refl, sym, subst}
use Rattle.std.specs.Prelude.{nat_le, nat_lt}
use Rattle.law_branch_shapes.specs.world_model.Words.{Down, Up, Cell, Journal, last_mark, Reassembly, most_cells, passed_over, without_slot, too_long, reassembly_of, World, put_away, past_of, frames_of, IsTame, Frame}
use Rattle.law_branch_shapes.specs.world_model.frame_model.Reassembly.{Taken, taken, cell_joined}
use Rattle.law_frame_readings.proofs.law_port_facts.Keyed.{on_each}
use Rattle.law_branch_shapes.specs.world_model.Switch as switches
use Rattle.law_branch_shapes.specs.world_model.Controller.{free_slots}
use Rattle.law_branch_shapes.specs.world_model.network_model.declared.event.Event.TheVariants.{Carry}
use Rattle.law_input_events.specs.law_input_steps.Hearing.{IsEnded, PassesTrue}
use Rattle.law_run_facts.specs.Steps.{EventsAreSteps, RunsHaveFronts}
use Rattle.law_frame_readings.proofs.law_shown_cells.Tested.{frame_is}
use Rattle.law_running_worlds.specs.Running.{TameEventsAreTrue}
use Rattle.law_running_worlds.proofs.Kept.{IsTrue, ControllersPass, SwitchesPass}

-- *What a cell ends* is the chain with this cell, where the channel listens and has a slot and room
pub record IsWhole (slot : Bool) (r : Reassembly) (cell : Cell) (ended : List Cell) : Type 0 where
  pub is_ended : IsEnded slot r cell
  pub whole : ended ≡ r.chain ++ cell ∷ []

pub whole_chain : (notes : Journal) (slot : Bool) (r : Reassembly) (cell first : Cell) (rest : List Cell) → (taken notes slot r cell).ended ≡ first ∷ rest → IsWhole slot r cell (first ∷ rest)
whole_chain notes slot r cell first rest = on_each To r.is_skipping (passed_over notes r cell) _ (λ skips e. absurd (cc e))
    (λ listens. on_each To (not slot) (without_slot notes r cell) _ (λ full e. absurd (cc e))
    (λ free. on_each To (nat_le most_cells (length r.chain)) (too_long notes r cell) (cell_joined notes r cell) (λ long e. absurd (cc e))
    (λ short. on_each To cell.header.last (record { reassembly = record r { chain = [] }; notes = notes; ended = r.chain ++ cell ∷ [] }) (record { reassembly = record r { chain = r.chain ++ cell ∷ [] }; notes = notes; ended = [] })
    (λ last e. record { is_ended = record { listens = listens; slot_is = free; short = short; last = last }; whole = sym e }) (λ early e. absurd (cc e)))))
  where
    To : Taken → Type 0
    To t = t.ended ≡ first ∷ rest → IsWhole slot r cell (first ∷ rest)

true_chain : (frames : List Frame) (cells : List Cell) → PassesTrue frames cells → IsTrue frames cells
true_chain frames cells passes payload is = frame_is frames (last_mark cells) payload (passes payload is)

module _ (tame : TameEventsAreTrue) (fronts : RunsHaveFronts) (steps : EventsAreSteps) where
  pub controllers_pass : ControllersPass
  controllers_pass policy topology before node c site cell first cells chain taker found queue is ended =
      let whole = whole_chain (put_away (past_of policy topology before).now).notes (nat_lt 0 (free_slots site.controller)) (reassembly_of site.controller taker) cell first chain ended in
      subst (IsTrue (frames_of (past_of policy topology before))) (sym whole.whole)
      (true_chain (frames_of (past_of policy topology before)) ((reassembly_of site.controller taker).chain ++ cell ∷ [])
      ((tame policy topology before (Carry (Up node))
      (subst (λ (u : World). IsTame u.notes.records) (steps policy topology before (Carry (Up node))).now (fronts policy topology before (Carry (Up node)) c).new_tame)).at_controller node site taker cell cells refl queue found is whole.is_ended))

  pub switches_pass : SwitchesPass
  switches_pass policy topology before node c site cell first cells chain found queue gsmp ended =
      let whole = whole_chain (put_away (past_of policy topology before).now).notes (nat_lt 0 (switches.free_slots site.switch)) site.switch.reassembly cell first chain ended in
      subst (IsTrue (frames_of (past_of policy topology before))) (sym whole.whole)
      (true_chain (frames_of (past_of policy topology before)) (site.switch.reassembly.chain ++ cell ∷ [])
      ((tame policy topology before (Carry (Down node))
      (subst (λ (u : World). IsTame u.notes.records) (steps policy topology before (Carry (Down node))).now (fronts policy topology before (Carry (Down node)) c).new_tame)).at_switch node site cell cells refl queue found gsmp whole.is_ended))
