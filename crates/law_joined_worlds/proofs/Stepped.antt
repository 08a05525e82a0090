-- the controller of a node behind an event of a run, by what came to it

use Rattle.std.proofs.Common.{◌≡◌, ℕ, ◌+◌, Bool, true, false, List, [], ◌∷◌, ◌++◌, Option, None, Some, refl, sym, ◌∙◌, ap, arith, if◌then◌else◌}
use Rattle.std.specs.Prelude.{◌==◌, nat_lt, option_map}
use Rattle.std.specs.Option.{option_map_or}
use Rattle.std.proofs.lemmas.Bool.Decides.{nat_tests}
use Rattle.world_model.specs.Words.{NodeId, Down, Up, Out, Cell, Frame, payload_of, last_mark, payload_in, queue_of, control_port, Policy, default_channel, same_channel, Topology, World, Site, site_at, controller_at, queue_in, queue_at, put_away, past_of}
use Rattle.world_model.specs.frame_model.Frame.{octets_of}
use Rattle.world_model.specs.frame_model.Reassembly.{taken}
use Rattle.world_model.specs.Controller.{free_slots}
use Rattle.law_frame_readings.specs.law_controller_facts.Inputs.{Input, CellComes, PacketEnters, Ticks, Restarts, ChangeComes, FrameIsForged}
use Rattle.world_model.specs.network_model.declared.event.Event.{Event}
use Rattle.world_model.specs.network_model.declared.event.Event.TheVariants.{Inject, Carry, Lose, Tick, TickSwitch, Restart, RestartSwitch, Forge, Route}
use Rattle.world_model.specs.World.{opened}
use Rattle.law_fed_worlds.specs.law_lifetimes.Lifetimes.{if_at, head_comes, head_leaves, comes_to}
use Rattle.law_fed_worlds.proofs.law_lifetimes.Opened.{opening_fed}
use Rattle.law_fed_worlds.proofs.law_lifetimes.Feeding.{after_of}
use Rattle.law_fed_worlds.proofs.law_lifetimes.Runs.{run_fed, next_there}
use Rattle.law_running_worlds.specs.law_input_steps.Hearing.{PassesTrue}
use Rattle.law_running_worlds.specs.law_input_events.Coming.{CanCarry}
use Rattle.law_run_facts.proofs.Steps.{events_are_steps}
use Rattle.law_frame_readings.specs.law_world_views.Kept.{behind}
use Rattle.law_frame_readings.proofs.law_shown_cells.Tested.{frame_is, last_is}
use Rattle.law_running_worlds.proofs.MadeTame.{IsWhole, whole_chain}
use Rattle.law_joined_worlds.proofs.Settled.{node_is}
use Rattle.law_fed_worlds.proofs.law_controller_bindings.Lasts.{some_same}

-- *What the controller is* behind the event
module _ (policy : Policy) (topology : Topology) (before : List Event) (event : Event) where
  abbrev w : World
  w = (past_of policy topology before).now

  abbrev v : World
  v = (behind policy topology before event).now

  pub after_is : (node : NodeId) (site after : Site) → site_at w node ≡ Some site → site_at v node ≡ Some after
      → after.controller ≡ after_of (put_away w).notes w.numbers site.controller (comes_to w node event)
  after_is node site after found there =
      some_same after.controller (after_of (put_away w).notes w.numbers site.controller (comes_to w node event))
      (sym (ap (option_map (λ (x : Site). x.controller)) there) ∙ (ap (λ (x : World). controller_at x node) ((events_are_steps policy topology before event).now)
      ∙ next_there topology w event node site.controller (run_fed topology before (opened policy topology) (opening_fed policy topology))
      (ap (option_map (λ (x : Site). x.controller)) found)))

-- *A cell that comes* to a controller is the first that waits for it
pub record IsFirstUp (w : World) (node : NodeId) (event : Event) (cell : Cell) : Type 0 where
  pub is : event ≡ Carry (Up node)
  pub cells : List Cell
  pub front : queue_at w (Up node) ≡ cell ∷ cells

-- what comes at a node, by the node
at_here : (P : Type 0) (at node : NodeId) (o : Option Input) (input : Input) → if_at at node o ≡ Some input → (at ≡ node → o ≡ Some input → P) → P
at_here P at node o input e goes = by (at.0 == node.0) refl e
  where
    same : (m n : ℕ) → (m == n) ≡ true → m ≡ n
    same m n t = grind (arith, nat_tests)

    by : (b : Bool) → (at.0 == node.0) ≡ b → (if b then o else None) ≡ Some input → P
    by true t k = goes (node_is at node (same at.0 node.0 t)) k
    by false t k = absurd (cc k)

no_cell : (queue : List Cell) (cell : Cell) → head_leaves queue ≡ Some (CellComes cell) → ⊥
no_cell [] cell e = cc e
no_cell (x ∷ xs) cell e = cc e

pub cell_came : (w : World) (node : NodeId) (event : Event) (cell : Cell) → comes_to w node event ≡ Some (CellComes cell) → IsFirstUp w node event cell
cell_came w node (Inject here octets) cell e = at_here (IsFirstUp w node (Inject here octets) cell) here node (Some (PacketEnters (w.sent + 1) octets)) (CellComes cell) e (λ same k. absurd (cc k))
cell_came w node (Carry (Down here)) cell e = at_here (IsFirstUp w node (Carry (Down here)) cell) here node (head_leaves (queue_at w (Down here))) (CellComes cell) e (λ same k. absurd (no_cell (queue_at w (Down here)) cell k))
cell_came w node (Carry (Up here)) cell e = at_here (IsFirstUp w node (Carry (Up here)) cell) here node (head_comes (queue_at w (Up here))) (CellComes cell) e
    (λ same k. by (queue_at w (Up here)) refl same k)
  where
    by : (queue : List Cell) → queue_at w (Up here) ≡ queue → here ≡ node → head_comes queue ≡ Some (CellComes cell) → IsFirstUp w node (Carry (Up here)) cell
    by [] is same k = absurd (cc k)
    by (x ∷ xs) is same k = (let one : x ≡ cell = cc k in record { is = ap (λ (n : NodeId). Carry (Up n)) same; cells = xs; front = ap (λ (n : NodeId). queue_at w (Up n)) (sym same) ∙ is ∙ ap (λ (c : Cell). c ∷ xs) one })
cell_came w node (Carry (Out here port)) cell e = absurd (cc e)
cell_came w node (Lose (Down here)) cell e = at_here (IsFirstUp w node (Lose (Down here)) cell) here node (head_leaves (queue_at w (Down here))) (CellComes cell) e (λ same k. absurd (no_cell (queue_at w (Down here)) cell k))
cell_came w node (Lose (Up here)) cell e = absurd (cc e)
cell_came w node (Lose (Out here port)) cell e = absurd (cc e)
cell_came w node (Tick here) cell e = at_here (IsFirstUp w node (Tick here) cell) here node (Some Ticks) (CellComes cell) e (λ same k. absurd (cc k))
cell_came w node (TickSwitch here) cell e = absurd (cc e)
cell_came w node (Restart here) cell e = at_here (IsFirstUp w node (Restart here) cell) here node (Some Restarts) (CellComes cell) e (λ same k. absurd (cc k))
cell_came w node (RestartSwitch here) cell e = absurd (cc e)
cell_came w node (Forge (Down here) channel payload) cell e = at_here (IsFirstUp w node (Forge (Down here) channel payload) cell) here node (Some (FrameIsForged channel _ payload)) (CellComes cell) e (λ same k. absurd (cc k))
cell_came w node (Forge (Up here) channel payload) cell e = absurd (cc e)
cell_came w node (Forge (Out here port) channel payload) cell e = absurd (cc e)
cell_came w node (Route here change) cell e = at_here (IsFirstUp w node (Route here change) cell) here node (Some (ChangeComes change)) (CellComes cell) e (λ same k. absurd (cc k))

-- where it waits
pub front_up : (w : World) (node : NodeId) (site : Site) (cell : Cell) (cells : List Cell) → site_at w node ≡ Some site → queue_at w (Up node) ≡ cell ∷ cells → queue_of site.switch.crossbar control_port ≡ cell ∷ cells
front_up w node site cell cells found is = sym (ap (λ (o : Option Site). option_map_or (λ (x : Site). queue_in x (Up node)) o []) found) ∙ is

-- *A frame that it ends* on GSMP's channel is the one of its mark
pub record IsTrueFrame (frames : List Frame) (cell : Cell) (payload : List ℕ) : Type 0 where
  pub last : cell.header.last ≡ true
  pub made : payload_of frames cell.mark ≡ Some payload

pub true_frame : (topology : Topology) (w : World) (node : NodeId) (site : Site) (cell : Cell) (cells : List Cell) → site_at w node ≡ Some site → queue_at w (Up node) ≡ cell ∷ cells → CanCarry topology w (Up node)
    → same_channel cell.header.channel default_channel ≡ true → (first : Cell) (rest : List Cell) (payload : List ℕ)
    → (taken (put_away w).notes (nat_lt 0 (free_slots site.controller)) site.controller.reassembly cell).ended ≡ first ∷ rest → payload_in (octets_of (first ∷ rest)) ≡ Some payload
    → IsTrueFrame w.notes.frames cell payload
true_frame topology w node site cell cells found is can here first rest payload ended passes =
    let k : IsWhole (nat_lt 0 (free_slots site.controller)) site.controller.reassembly cell (first ∷ rest) = whole_chain (put_away w).notes (nat_lt 0 (free_slots site.controller)) site.controller.reassembly cell first rest ended in
    let true_one : PassesTrue w.notes.frames (site.controller.reassembly.chain ++ cell ∷ []) = (can cell cells site is found).1 here k.is_ended in
    record {
      last = k.is_ended.last;
      made = ap (payload_of w.notes.frames) (sym (last_is site.controller.reassembly.chain cell))
          ∙ frame_is w.notes.frames (last_mark (site.controller.reassembly.chain ++ cell ∷ [])) payload (true_one payload (ap (λ (xs : List Cell). payload_in (octets_of xs)) (sym k.whole) ∙ passes));
    }
