-- the switch puts a cell of another channel out: the branches lead where they led, and the cell is nothing to the line

use Rattle.std.proofs.Common.{◌≡◌, ◌≢◌, ℕ, zero, suc, ◌≤◌, Bool, true, false, List, [], ◌∷◌, ◌++◌, Option, None, Some, refl, sym, ap, subst, length, slice_set, slice_index_or, arith, if◌then◌else◌}
use Rattle.law_input_views.specs.world_model.Words.{End, NodeId, PortNo, Cell, Loss, Unconnected, PoolFull, noted, queue_of, on_channel_of, unfinished_after, switched_on, route_on, Controller, default_channel, switched_cell}
use Rattle.std.specs.FinMap as finite
use Rattle.law_input_views.proofs.law_shown_cells.Shows.{one_hidden, shows_behind}
use Rattle.std.specs.Prelude.{◌==◌}
use Rattle.std.proofs.lemmas.Bool.Decides.{nat_tests}
use Rattle.law_input_views.specs.world_model.crossbar_model.declared.branch.Branch.{Branch}
use Rattle.law_input_views.specs.world_model.crossbar_model.Crossbar.{input_of, relayed}
use Rattle.law_input_views.specs.world_model.Switch.{ActedSwitch, free_slots}
use Rattle.law_input_views.specs.world_model.Conduct.{counted, cell_routed}
use Rattle.law_input_views.specs.Words.{seen_answer}
use Rattle.law_input_views.specs.Shown.{controller_of, switch_of, ShowsAnswers}
use Rattle.law_input_views.proofs.Cells.{cell_elsewhere}
use Rattle.law_input_steps.specs.Part.{Part, part_beside, Stands, Leads}
use Rattle.law_input_steps.specs.Hearing.{HasQueue, LeadsAway}
use Rattle.law_input_steps.proofs.Reach.{reaches_self, leads_self}
use Rattle.law_input_steps.proofs.Branches.{kept_output}

above : (n : ℕ) → (suc n == 0) ≡ false
above n = grind (arith, nat_tests)

set_at : (queues : List (List Cell)) (port : ℕ) (cells : List Cell) → 1 ≤ length queues
    → slice_index_or (slice_set queues port cells) 0 [] ≡ (if port == 0 then cells else slice_index_or queues 0 [])
set_at [] port cells some = absurd (omega (arith, some))
set_at (q ∷ queues) zero cells some = refl
set_at (q ∷ queues) (suc port) cells some = sym (ap (λ (t : Bool). if t then cells else q) (above port))

-- where a cell goes, by its branch and the free slots
abbrev passed_as : ActedSwitch → PortNo → Cell → Option Branch → (free : ℕ) → ActedSwitch
passed_as a port cell None free = record a { notes = noted a.notes (Loss cell.mark Unconnected) }
passed_as a port cell (Some b) zero = record a { notes = noted a.notes (Loss cell.mark PoolFull) }
passed_as a port cell (Some b) (suc free) = record a {
  switch = record a.switch { crossbar = relayed a.switch.crossbar (input_of port cell) b cell; switched = counted port b.output.port a.switch.switched };
}

module _ (node : NodeId) (input : End) where
  out_line : (c : Controller) (a : ActedSwitch) (from : End) (b : Branch) (cell : Cell) (count : ℕ) → HasQueue a.switch → finite.get a.switch.crossbar.branches from ≡ Some b
      → ((b.output.port.0 == 0) ≡ true → b.output.channel ≢ default_channel)
      → Leads node input (part_beside input c a) (part_beside input c (record a { switch = record a.switch { crossbar = relayed a.switch.crossbar from b cell; switched = count } }))
  out_line c a from b cell count some found away line h =
      reaches_self node input (part_beside input c after) line
      (subst (λ (p : Part). Stands node input p line) (sym same) (by (b.output.port.0 == 0) refl))
    where
      after : ActedSwitch
      after = record a { switch = record a.switch { crossbar = relayed a.switch.crossbar from b cell; switched = count } }

      p : Part
      p = part_beside input c a

      moved : List Cell
      moved = queue_of a.switch.crossbar b.output.port ++ on_channel_of cell b.output ∷ []

      same : part_beside input c after ≡ record p { back = if b.output.port.0 == 0 then moved else p.back }
      same = λ i. record p {
        branch = kept_output input a.switch.crossbar.branches from b (record b { unfinished = unfinished_after cell }) found refl i;
        back = set_at a.switch.crossbar.queues b.output.port.0 moved some i;
      }

      with_back : (cells : List Cell) → ShowsAnswers node input p.frames cells line.to_controller → Stands node input (record p { back = cells }) line
      with_back cells shown = record {
        own = h.own;
        far = h.far;
        to_switch = h.to_switch;
        at_switch = h.at_switch;
        to_controller = shown;
        gathered = h.gathered;
        at_controller = h.at_controller;
        drawn = h.drawn;
        before = h.before;
        behind = h.behind;
        unmade = h.unmade;
        numbered = h.numbered;
      }

      zero_is : (n : ℕ) → (n == 0) ≡ true → n ≡ 0
      zero_is n e = grind (arith, nat_tests)

      by : (t : Bool) → (b.output.port.0 == 0) ≡ t → Stands node input (record p { back = if t then moved else p.back }) line
      by true t = with_back moved (shows_behind
          (subst (λ (n : ℕ). ShowsAnswers node input p.frames (queue_of a.switch.crossbar (record { 0 = n })) line.to_controller) (sym (zero_is b.output.port.0 t)) h.to_controller)
          (one_hidden (cell_elsewhere (seen_answer (switch_of node) (controller_of node) input) p.frames (on_channel_of cell b.output) b.output.channel cell.mark cell.header.last (away t) (refl, refl, refl))))
      by false t = with_back p.back h.to_controller

  route_line : (c : Controller) (a : ActedSwitch) (port : PortNo) (cell : Cell) (found : Option Branch) (free : ℕ) → HasQueue a.switch
      → finite.get a.switch.crossbar.branches (input_of port cell) ≡ found → LeadsAway found
      → Leads node input (part_beside input c a) (part_beside input c (passed_as a port cell found free))
  route_line c a port cell None free some is away = leads_self node input (part_beside input c a)
  route_line c a port cell (Some b) zero some is away = leads_self node input (part_beside input c a)
  route_line c a port cell (Some b) (suc free) some is away = out_line c a (input_of port cell) b cell (counted port b.output.port a.switch.switched) some is away

  same_route : (a : ActedSwitch) (port : PortNo) (cell : Cell) (found : Option Branch) (free : ℕ) → finite.get a.switch.crossbar.branches (input_of port cell) ≡ found → free_slots a.switch ≡ free
      → cell_routed a port cell (route_on found free) ≡ passed_as a port cell found free
  same_route a port cell None free is slots = refl
  same_route a port cell (Some b) zero is slots = refl
  same_route a port cell (Some b) (suc free) is slots = λ i. record a {
    switch = record a.switch {
      crossbar = switched_on a.switch.crossbar (input_of port cell) (is i) (slots i) cell;
      switched = counted port b.output.port a.switch.switched;
    };
  }

  pub switched_leads : (c : Controller) (a : ActedSwitch) (port : PortNo) (cell : Cell) → HasQueue a.switch → LeadsAway (finite.get a.switch.crossbar.branches (input_of port cell))
      → Leads node input (part_beside input c a) (part_beside input c (switched_cell a port cell))
  switched_leads c a port cell some away =
      subst (λ (z : ActedSwitch). Leads node input (part_beside input c a) (part_beside input c z))
      (sym (same_route a port cell (finite.get a.switch.crossbar.branches (input_of port cell)) (free_slots a.switch) refl refl))
      (route_line c a port cell (finite.get a.switch.crossbar.branches (input_of port cell)) (free_slots a.switch) some refl away)
