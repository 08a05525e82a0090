-- Cells that are carried or lost, and what a frame holds

use Rattle.std.proofs.Common.{◌≡◌, ℕ, List, [], ◌∷◌, Option, None, Some, drop, refl, ap, sym, ◌∙◌}
use Rattle.std.specs.Prelude.{Result, nat_lt, slice_get, slice_set, slice_index_or}
use Rattle.std.specs.Option.{option_map}
use Rattle.atm_cells.specs.declared.cell.Cell.{Cell}
use Rattle.gsmp_wire.specs.declared.fault.Fault.{Fault}
use Rattle.gsmp_wire.specs.declared.message.Message.{Message}
use Rattle.gsmp_wire.specs.Fields.{decoded}
use Rattle.link_model.specs.declared.record.Record.TheVariants.{Loss}
use Rattle.link_model.specs.declared.record.Cause.TheVariants.{Lost}
use Rattle.link_model.specs.Notes.{Journal, noted}
use Rattle.frame_model.specs.Reassembly.{Taken, taken}
use Rattle.reassembly.specs.Receipt.{Received, ended, received}
use Rattle.crossbar_model.specs.Crossbar.{popped, queue_of}
use Rattle.world_model.specs.Switch.{Switch, control_port}
use Rattle.console_model.specs.declared.event.Side.TheVariants as side
use Rattle.console_model.specs.Lab.{Console, Lab, free_slots}
use Rattle.console_model.specs.Hearing.{cell_comes, ends_frame, gsmp_cell, holds, opened_frame}
use Rattle.console_model.specs.Steps.{carries, carries_down, carries_up, loses, loses_down, loses_up}
use Rattle.gsmp_console.specs.Bench.{Held, carried_first, lab_in, reached}

some_head : {X : Type 0} (q : List X) (x : X) → Some x ≡ slice_get q 0 → q ≡ x ∷ drop 1 q
some_head [] x h = absurd (cc h)
some_head (y ∷ ys) x h = let same : y ≡ x = cc h in ap (λ z. z ∷ ys) same

no_head : {X : Type 0} (q : List X) → None ≡ slice_get q 0 → q ≡ []
no_head [] h = refl
no_head (y ∷ ys) h = absurd (cc h)

still : (queues : List (List Cell)) → slice_index_or queues 0 [] ≡ [] → slice_set queues 0 [] ≡ queues
still [] e = refl
still (q ∷ queues) e = ap (λ z. z ∷ queues) (sym e)

module _ (h : Held) (notes : Journal) where
  abbrev down : List Cell
  down = h.console.queue

  abbrev up : List Cell
  up = queue_of h.switch.crossbar control_port

  abbrev with_console : Console → Lab
  with_console k = lab_in (record h { console = k }) notes

  abbrev with_switch : Switch → Lab
  with_switch s = lab_in (record h { switch = s }) notes

  abbrev console_left : Console
  console_left = record h.console { queue = drop 1 down }

  abbrev switch_left : Switch
  switch_left = record h.switch { crossbar = popped h.switch.crossbar control_port }

  -- where no cell waits, nothing changes
  same_console : (k : Console) → None ≡ slice_get down 0 → k ≡ console_left → k ≡ h.console
  same_console k none left =
      let e = no_head down none in
      left ∙ (λ i. record h.console { queue = drop 1 (e i) }) ∙ (λ i. record h.console { queue = sym e i })

  same_switch : (s : Switch) → None ≡ slice_get up 0 → s ≡ switch_left → s ≡ h.switch
  same_switch s none left =
      let e = no_head up none in
      left
      ∙ (λ i. record h.switch { crossbar = record h.switch.crossbar { queues = slice_set h.switch.crossbar.queues 0 (drop 1 (e i)) } })
      ∙ (λ i. record h.switch { crossbar = record h.switch.crossbar { queues = still h.switch.crossbar.queues e i } })

  pub not_carried_down : (k : Console) → None ≡ slice_get down 0 → k ≡ console_left → with_console k ≡ carried_first (lab_in h notes)
  unfolding carried_first
  not_carried_down k none left = ap with_console (same_console k none left) ∙ ap (carries_down (lab_in h notes)) (sym (no_head down none))

  pub not_carried_up : (s : Switch) → None ≡ slice_get up 0 → s ≡ switch_left → with_switch s ≡ carries (lab_in h notes) side.Switch
  not_carried_up s none left = ap with_switch (same_switch s none left) ∙ ap (carries_up (lab_in h notes)) (sym (no_head up none))

  pub not_lost_down : (k : Console) → None ≡ slice_get down 0 → k ≡ console_left → with_console k ≡ loses (lab_in h notes) side.Console
  not_lost_down k none left = ap with_console (same_console k none left) ∙ ap (loses_down (lab_in h notes)) (sym (no_head down none))

  pub not_lost_up : (s : Switch) → None ≡ slice_get up 0 → s ≡ switch_left → with_switch s ≡ loses (lab_in h notes) side.Switch
  not_lost_up s none left = ap with_switch (same_switch s none left) ∙ ap (loses_up (lab_in h notes)) (sym (no_head up none))

  pub carried_down : (lab : Lab) (k : Console) (cell : Cell) → Some cell ≡ slice_get down 0 → k ≡ console_left → lab ≡ reached (with_console k) cell
      → lab ≡ carried_first (lab_in h notes)
  unfolding reached carried_first
  carried_down lab k cell first left came =
      came ∙ ap (λ x. reached (with_console x) cell) left ∙ ap (carries_down (lab_in h notes)) (sym (some_head down cell first))

  pub carried_up : (lab : Lab) (s : Switch) (cell : Cell) → Some cell ≡ slice_get up 0 → s ≡ switch_left → lab ≡ cell_comes (with_switch s) cell
      → lab ≡ carries (lab_in h notes) side.Switch
  carried_up lab s cell first left came =
      came ∙ ap (λ x. cell_comes (with_switch x) cell) left ∙ ap (carries_up (lab_in h notes)) (sym (some_head up cell first))

  pub lost_down : (k : Console) (after : Journal) (cell : Cell) → Some cell ≡ slice_get down 0 → k ≡ console_left → after ≡ noted notes (Loss cell.mark Lost)
      → lab_in (record h { console = k }) after ≡ loses (lab_in h notes) side.Console
  lost_down k after cell first left is =
      (λ i. lab_in (record h { console = left i }) (is i)) ∙ ap (loses_down (lab_in h notes)) (sym (some_head down cell first))

  pub lost_up : (s : Switch) (after : Journal) (cell : Cell) → Some cell ≡ slice_get up 0 → s ≡ switch_left → after ≡ noted notes (Loss cell.mark Lost)
      → lab_in (record h { switch = s }) after ≡ loses (lab_in h notes) side.Switch
  lost_up s after cell first left is =
      (λ i. lab_in (record h { switch = left i }) (is i)) ∙ ap (loses_up (lab_in h notes)) (sym (some_head up cell first))

-- *A frame*
ended_is : (lab : Lab) (cells : List Cell)
    → opened_frame (record lab { notes = (ended lab.notes cells).notes }) (ended lab.notes cells).payload ≡ ends_frame lab cells
ended_is lab [] = refl
ended_is lab (cell ∷ cells) = refl

held_is : (lab : Lab) (payload : Option (List ℕ)) (held : Result Message Fault) → Some held ≡ option_map decoded payload → holds lab held ≡ opened_frame lab payload
held_is lab None held h = absurd (cc h)
held_is lab (Some payload) held h = let same : held ≡ decoded payload = cc h in ap (holds lab) same

module _ (h : Held) (notes : Journal) (cell : Cell) where
  abbrev receipt : Received
  receipt = received notes (nat_lt 0 (free_slots h.console)) h.console.reassembly cell

  abbrev after_receipt : Lab
  after_receipt = lab_in (record h { console = record h.console { reassembly = receipt.reassembly } }) receipt.notes

  pub cell_held : (lab : Lab) (k : Console) (after : Journal) (held : Result Message Fault)
      → k ≡ record h.console { reassembly = receipt.reassembly } → after ≡ receipt.notes → Some held ≡ option_map decoded receipt.payload
      → lab ≡ holds (lab_in (record h { console = k }) after) held → lab ≡ gsmp_cell (lab_in h notes) cell
  cell_held lab k after held reassembled noted_so payload is =
      let t : Taken = taken notes (nat_lt 0 (free_slots h.console)) h.console.reassembly cell in
      is
      ∙ (λ i. holds (lab_in (record h { console = reassembled i }) (noted_so i)) held)
      ∙ held_is after_receipt receipt.payload held payload
      ∙ ended_is (lab_in (record h { console = record h.console { reassembly = t.reassembly } }) t.notes) t.ended
