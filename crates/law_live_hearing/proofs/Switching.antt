-- a switch passes a cell on, or enters its mark into the ledger

use Rattle.std.proofs.Common.{◌≡◌, ℕ, zero, suc, ◌<◌, ◌||◌, Bool, true, false, true≢false, List, [], ◌∷◌, ◌++◌, length, slice_set, slice_index_or, Option, None, Some, refl, sym, ◌∙◌, ap, subst, if◌then◌else◌}
use Rattle.std.specs.Option.{option_map}
use Rattle.std.specs.FinMap.{get}
use Rattle.world_model.specs.Words.{PortNo, End, Cell, Entry, Unconnected, PoolFull, has_entry, same_mark, queue_of, on_channel_of, route_on, switched_on, is_gsmp, switched_cell, gsmp_cell}
use Rattle.world_model.specs.crossbar_model.declared.branch.Branch.{Branch}
use Rattle.world_model.specs.crossbar_model.Crossbar.{Crossbar, input_of, output_of, relayed}
use Rattle.world_model.specs.Switch.{ActedSwitch, free_slots}
use Rattle.world_model.specs.Conduct.{cell_routed, cell_comes}
use Rattle.world_model.proofs.Lists.{index_here}
use Rattle.law_live_frames.proofs.Breaking.{mark_itself}

-- the last entry of a ledger has its mark
pub last_entry : (entries : List Entry) (entry : Entry) → has_entry (entries ++ entry ∷ []) entry.mark ≡ true
last_entry [] entry = ap (λ (b : Bool). b || false) (mark_itself entry.mark)
last_entry (x ∷ entries) entry = either (same_mark x.mark entry.mark) (last_entry entries entry)
  where
    either : (b : Bool) → has_entry (entries ++ entry ∷ []) entry.mark ≡ true → (b || has_entry (entries ++ entry ∷ []) entry.mark) ≡ true
    either true h = refl
    either false h = h

module _ (a : ActedSwitch) (port : PortNo) (cell : Cell) (to : End) (leads : (output : End) → output_of a.switch.crossbar.branches (input_of port cell) ≡ Some output → output ≡ to)
    (there : to.port.0 < length a.switch.crossbar.queues) where
  abbrev x : Crossbar
  x = a.switch.crossbar

  abbrev input : End
  input = input_of port cell

  -- the queue of the port to which the branch leads
  put_behind : (b : Branch) → b.output ≡ to → queue_of (relayed x input b cell) to.port ≡ queue_of x to.port ++ on_channel_of cell to ∷ []
  put_behind b is = subst (λ (e : End). slice_index_or (slice_set x.queues e.port.0 (queue_of x e.port ++ on_channel_of cell e ∷ [])) to.port.0 [] ≡ queue_of x to.port ++ on_channel_of cell to ∷ []) (sym is)
      (index_here x.queues to.port.0 (queue_of x to.port ++ on_channel_of cell to ∷ []) [] there)

  abbrev Goes : ActedSwitch → Type 0
  Goes b = queue_of b.switch.crossbar to.port ≡ queue_of x to.port ++ on_channel_of cell to ∷ []

  -- by its branch and the slots
  by_branch : (o : Option Branch) (free : ℕ) → get x.branches input ≡ o → free_slots a.switch ≡ free
      → has_entry (cell_routed a port cell (route_on o free)).notes.entries cell.mark ≡ false → Goes (cell_routed a port cell (route_on o free))
  by_branch None free found is none = absurd (true≢false (sym (last_entry a.notes.entries (record { mark = cell.mark; cause = Unconnected })) ∙ none))
  by_branch (Some b) zero found is none = absurd (true≢false (sym (last_entry a.notes.entries (record { mark = cell.mark; cause = PoolFull })) ∙ none))
  by_branch (Some b) (suc free) found is none =
      ap (λ (o : Option Branch). queue_of (switched_on x input o (free_slots a.switch) cell) to.port) found
      ∙ (ap (λ (n : ℕ). queue_of (switched_on x input (Some b) n cell) to.port) is
      ∙ put_behind b (leads b.output (ap (option_map (λ (branch : Branch). branch.output)) found)))

  pub goes_on : is_gsmp port cell.header.channel ≡ false → has_entry (cell_comes a port cell).notes.entries cell.mark ≡ false → Goes (cell_comes a port cell)
  goes_on other none =
      ap (λ (b : Bool). queue_of (if b then gsmp_cell a cell else switched_cell a port cell).switch.crossbar to.port) other
      ∙ by_branch (get x.branches input) (free_slots a.switch) refl refl
      (ap (λ (b : Bool). has_entry (if b then gsmp_cell a cell else switched_cell a port cell).notes.entries cell.mark) (sym other) ∙ none)
