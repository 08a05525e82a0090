-- each event that forges no frame and carries no cell of the GSMP channel: lines of all inputs follow

use Rattle.std.proofs.Common.{◌≡◌, Contains, ℕ, ◌+◌, ◌<◌, ◌≤◌, ◌^◌, zero, suc, Bool, true, false, List, [], ◌∷◌, ◌++◌, length, drop, Option, None, Some, refl, sym, ◌∙◌, ap, subst, arith, slice_set, slice_index_or, if◌then◌else◌}
use Rattle.std.specs.Prelude.{nat_lt}
use Rattle.std.specs.FinMap.{get}
use Rattle.std.specs.Option.{option_map_or}
use Rattle.std.proofs.lemmas.Bool.Decides.{nat_tests}
use Rattle.law_input_premises.specs.world_model.Words.{Channel, End, NodeId, PortNo, Place, Down, Up, Out, Cell, queue_of, Refusal, Switch, control_port, default_channel, same_channel, inject_refusal, injected, node_restarts, change_comes, Topology, Site, World, site_at, with_site, controller_acts, switch_acts, place_node, queue_in, queue_at, with_queue_in, with_queue_of, with_queue, injects_by, arrives_at, carries_head, loses_head, step, gsmp_under, IsLinkPort, Setup}
use Rattle.law_input_premises.specs.world_model.crossbar_model.Crossbar.{input_of}
use Rattle.law_input_premises.proofs.ordered_lists.Parts.{IsPart, left, part_whole}
use Rattle.law_input_premises.proofs.law_port_facts.Keyed.{by_eq}
use Rattle.law_input_premises.specs.world_model.Switch as switches
use Rattle.law_input_premises.specs.world_model.Conduct as conduct
use Rattle.law_input_premises.specs.world_model.Controller.{free_slots}
use Rattle.law_input_premises.specs.world_model.Cells.{cell_comes}
use Rattle.law_input_premises.specs.world_model.Ticks.{ticks}
use Rattle.law_input_premises.specs.world_model.network_model.declared.event.Event.{Event}
use Rattle.law_input_premises.specs.world_model.network_model.declared.event.Event.TheVariants.{Inject, Carry, Lose, Tick, TickSwitch, Restart, RestartSwitch, Forge, Route}
use Rattle.law_input_premises.specs.world_model.network_model.declared.link.LinkEnd.{LinkEnd}
use Rattle.law_input_premises.specs.world_model.Topology.{peer_of}
use Rattle.law_input_premises.specs.world_model.World.{at_controller, at_switch}
use Rattle.law_input_premises.specs.world_model.Step.{acts}
use Rattle.law_input_premises.specs.law_shown_cells.Seen.{IsUnmade}
use Rattle.law_input_premises.proofs.law_shown_cells.Made.{extends_self}
use Rattle.law_input_premises.specs.world_model.gsmp_wire.declared.message.Message.{Message}
use Rattle.law_input_premises.specs.law_input_steps.Part.{Part, part_of, part_at, part_beside, IsNumbered, Reaches, AnyLine}
use Rattle.law_input_premises.specs.law_input_steps.Hearing.{IsEnded, LeadsAway, PassesTrue}
use Rattle.law_input_premises.proofs.law_input_steps.SwitchCells.{gsmp_cell_comes}
use Rattle.law_input_premises.proofs.law_input_steps.ControllerCells.{cell_comes_back}
use Rattle.law_input_premises.proofs.law_input_steps.Queues.{queue_loses, back_loses}
use Rattle.law_input_premises.proofs.law_input_steps.Reach.{reaches_self}
use Rattle.law_input_premises.proofs.law_input_steps.Switching.{set_first}
use Rattle.law_world_views.specs.Between.{setups_of, IsInput}
use Rattle.law_input_events.specs.Coming.{IsSteadySite, IsToSwitch, IsFromSwitch, IsRunning, HasLines, IsFar, CanCarry, CanLose, IsOrdinary}
use Rattle.law_input_events.proofs.Heard.{comes}
use Rattle.law_input_events.proofs.Back.{comes_back}
use Rattle.law_input_events.proofs.Returning.{gsmp_cell_grows as gsmp_back_grows}
use Rattle.law_input_events.proofs.Carrying.{gsmp_cell_grows, mid_there, then_lines}
use Rattle.law_input_premises.specs.ordered_lists.Ordered.{Every}
use Rattle.law_input_premises.specs.law_port_facts.Port.{IsLabelEnd}
use Rattle.law_input_premises.specs.world_model.Controller.{Acted}
use Rattle.law_input_premises.specs.law_controller_facts.Inputs.{CellComes}
use Rattle.law_input_premises.proofs.law_controller_facts.Laws.{input_goes}
use Rattle.law_input_premises.proofs.law_controller.Whole.{Whole}
use Rattle.law_input_premises.proofs.law_controller.Events.{input_holds}
use Rattle.law_world_views.specs.law_controller_views.Ends.{Grows}
use Rattle.law_world_views.specs.Shown.{acting}
use Rattle.law_input_premises.proofs.Steady.{steady_whole, steady_read}
use Rattle.law_input_events.proofs.Sites.{ReachesOn, reached_by, lines_on, put_at}
use Rattle.law_input_premises.proofs.law_controller_facts.Nodes.{moves_node}
use Rattle.law_input_events.proofs.Acting.{same_inputs, above_of, beside, SwitchGrows, numbered_of, ticks_lines, restart_lines, change_lines, packet_lines, cell_lines, switch_tick_lines, switch_restart_lines, switched_lines}

-- *Queues*
set_behind : (queues : List (List Cell)) (k : ℕ) (cells : List Cell) → slice_index_or (slice_set queues (suc k) cells) 0 [] ≡ slice_index_or queues 0 []
set_behind [] k cells = refl
set_behind (q ∷ queues) k cells = refl

set_other : (queues : List (List Cell)) (k : ℕ) (cells : List Cell) → 1 ≤ k → slice_index_or (slice_set queues k cells) 0 [] ≡ slice_index_or queues 0 []
set_other queues zero cells above = absurd (omega (arith, above))
set_other queues (suc k) cells above = set_behind queues k cells

pub set_length : (queues : List (List Cell)) (k : ℕ) (cells : List Cell) → length (slice_set queues k cells) ≡ length queues
set_length [] zero cells = refl
set_length [] (suc k) cells = refl
set_length (q ∷ queues) zero cells = refl
set_length (q ∷ queues) (suc k) cells = ap suc (set_length queues k cells)

behind : (cell : Cell) (cells all : List Cell) → all ≡ cell ∷ cells → IsPart cells all
behind cell cells all is = subst (IsPart cells) (sym is) (left (part_whole cells))

has_queue : (n : ℕ) → n ≡ 9 → 1 ≤ n
has_queue n e = omega (arith, e)

-- what of a site bears on its switch and its queues
record IsBase (site : Site) : Type 0 where
  numbered : IsNumbered site.controller.desk
  queues : length site.switch.crossbar.queues ≡ 9
  away : (input : End) → LeadsAway (get site.switch.crossbar.branches input)

base_of : (node : NodeId) (site : Site) → IsSteadySite node site → IsBase site
base_of node site s = record { numbered = numbered_of site.controller s.steady; queues = s.queues; away = s.away }

base_queue : (place : Place) (cells : List Cell) (site : Site) → IsBase site → IsBase (with_queue_in site place cells)
base_queue (Down node) cells site b = record { numbered = b.numbered; queues = b.queues; away = b.away }
base_queue (Up node) cells site b = record { numbered = b.numbered; queues = set_length site.switch.crossbar.queues 0 cells ∙ b.queues; away = b.away }
base_queue (Out node port) cells site b = record { numbered = b.numbered; queues = set_length site.switch.crossbar.queues port.0 cells ∙ b.queues; away = b.away }

-- *A cell leaves a queue*
module _ (w : World) (unmade : IsUnmade w.numbers.controls w.notes.frames) where
  shorter_by : (node : NodeId) (site after : Site) → site_at w node ≡ Some site → IsBase site → after.controller.node ≡ site.controller.node → ((input : End) → IsInput after.controller input → IsInput site.controller input)
      → ((input : End) → ReachesOn node input (part_of input site w.notes.frames w.numbers) (part_of input after w.notes.frames w.numbers)) → HasLines w → HasLines (with_site w after)
  shorter_by node site after found base same inputs leads lines =
      let put = put_at w node site after found same in
      lines_on w (with_site w after) node site after (record { found = found; there = put.0; others = put.1; extends = extends_self w.notes.frames; drawn = omega arith }) inputs
      (λ input is r. reached_by node input site after w.notes.frames w.notes.frames w.numbers w.numbers unmade base.numbered (leads input) r) lines

  shorter : (place : Place) (cell : Cell) (cells : List Cell) (site : Site) → site_at w (place_node place) ≡ Some site → IsBase site → CanLose place → queue_in site place ≡ cell ∷ cells
      → HasLines w → HasLines (with_site w (with_queue_in site place cells))
  shorter (Down node) cell cells site found base may is lines = shorter_by node site (with_queue_in site (Down node) cells) found base refl (λ input k. k)
      (λ input line reached h. queue_loses node input (part_of input site w.notes.frames w.numbers) cells (behind cell cells site.controller.queue is) line h) lines
  shorter (Up node) cell cells site found base may is lines = shorter_by node site (with_queue_in site (Up node) cells) found base refl (λ input k. k)
      (λ input line reached h. (let p : Part = part_of input site w.notes.frames w.numbers in
      subst (λ (back : List Cell). Reaches node input (record p { back = back }) AnyLine line) (sym (set_first site.switch.crossbar.queues cells (has_queue _ base.queues)))
      (back_loses node input p cells (behind cell cells (queue_of site.switch.crossbar control_port) is) line h))) lines
  shorter (Out node port) cell cells site found base may is lines = shorter_by node site (with_queue_in site (Out node port) cells) found base refl (λ input k. k)
      (λ input line reached h. (let p : Part = part_of input site w.notes.frames w.numbers in
      subst (λ (back : List Cell). Reaches node input (record p { back = back }) AnyLine line) (sym (set_other site.switch.crossbar.queues port.0 cells may))
      (reaches_self node input p line h))) lines

-- *The cell that is carried* has left its queue
record IsShorter (w : World) (place : Place) (cell : Cell) (cells : List Cell) : Type 0 where
  site : Site
  found : site_at w (place_node place) ≡ Some site
  is : queue_in site place ≡ cell ∷ cells

queued : (w : World) (place : Place) (cell : Cell) (cells : List Cell) → queue_at w place ≡ cell ∷ cells → IsShorter w place cell cells
queued w place cell cells is = by_site (site_at w (place_node place)) refl is
  where
    by_site : (o : Option Site) → site_at w (place_node place) ≡ o → option_map_or (λ (site : Site). queue_in site place) o [] ≡ cell ∷ cells → IsShorter w place cell cells
    by_site None found e = absurd (cc e)
    by_site (Some site) found e = record { site = site; found = found; is = e }

module _ (topology : Topology) (w : World) (running : IsRunning w) where
  short_lines : (place : Place) (cell : Cell) (cells : List Cell) → queue_at w place ≡ cell ∷ cells → CanLose place → HasLines w → HasLines (with_queue w place cells)
  short_lines place cell cells is may lines =
      let q : IsShorter w place cell cells = queued w place cell cells is in
      subst (λ (o : Option Site). HasLines (with_queue_of w place cells o)) (sym q.found)
      (shorter w running.unmade place cell cells q.site q.found (base_of (place_node place) q.site (running.sites (place_node place) q.site q.found)) may q.is lines)

  -- where the cell comes, the sites are as before but for that queue
  base_at : (place : Place) (cell : Cell) (cells : List Cell) → queue_at w place ≡ cell ∷ cells → (node : NodeId) (site : Site) → site_at (with_queue w place cells) node ≡ Some site → IsBase site
  base_at place cell cells is node site =
      let q : IsShorter w place cell cells = queued w place cell cells is in
      let after : Site = with_queue_in q.site place cells in
      let base : IsBase q.site = base_of (place_node place) q.site (running.sites (place_node place) q.site q.found) in
      subst (λ (o : Option Site). site_at (with_queue_of w place cells o) node ≡ Some site → IsBase site) (sym q.found)
      (λ found. by_eq node.0 (place_node place).0
      (λ same t. (let there : site_at (with_site w after) (place_node place) ≡ Some after = (put_at w (place_node place) q.site after q.found (kept_node place q.site cells)).0 in
      let both : Some after ≡ Some site = sym there ∙ (ap (λ (k : ℕ). site_at (with_site w after) (record { 0 = k })) (sym same) ∙ found) in
      let one : after ≡ site = cc both in
      subst IsBase one (base_queue place cells q.site base)))
      (λ apart t. (let old : site_at w node ≡ Some site = sym ((put_at w (place_node place) q.site after q.found (kept_node place q.site cells)).1 node apart) ∙ found in
      base_of node site (running.sites node site old))))
    where
      kept_node : (place : Place) (site : Site) (cells : List Cell) → (with_queue_in site place cells).controller.node ≡ site.controller.node
      kept_node (Down node) site cells = refl
      kept_node (Up node) site cells = refl
      kept_node (Out node port) site cells = refl

  -- *A cell comes to a switch*
  comes_to_switch : (v : World) → v.notes.frames ≡ w.notes.frames → v.numbers ≡ w.numbers → ((node : NodeId) (site : Site) → site_at v node ≡ Some site → IsBase site) → (node : NodeId) (port : PortNo) (cell : Cell)
      → conduct.is_gsmp port cell.header.channel ≡ false → HasLines v → HasLines (at_switch v node (λ b. conduct.cell_comes b port cell))
  comes_to_switch v frames numbers bases node port cell other lines = by_site (site_at v node) refl
    where
      unmade : IsUnmade v.numbers.controls v.notes.frames
      unmade = subst (λ (n : _). IsUnmade n.controls v.notes.frames) (sym numbers) (subst (λ (f : List _). IsUnmade w.numbers.controls f) (sym frames) running.unmade)

      by_site : (o : Option Site) → site_at v node ≡ o → HasLines (at_switch v node (λ b. conduct.cell_comes b port cell))
      by_site None found = subst (λ (o : Option Site). HasLines (switch_acts v o (λ b. conduct.cell_comes b port cell))) (sym found) lines
      by_site (Some site) found = (let b : IsBase site = bases node site found in
          switched_lines v node site found b.numbered unmade port cell (has_queue _ b.queues) (b.away (input_of port cell)) other lines)

  not_gsmp : (port : PortNo) (channel : Channel) → 1 ≤ port.0 → conduct.is_gsmp port channel ≡ false
  not_gsmp port channel above = grind (arith, nat_tests)

  arrives_lines : (v : World) → v.notes.frames ≡ w.notes.frames → v.numbers ≡ w.numbers → ((node : NodeId) (site : Site) → site_at v node ≡ Some site → IsBase site) → (cell : Cell) (o : Option LinkEnd) → IsFar o
      → HasLines v → HasLines (arrives_at v cell o)
  arrives_lines v frames numbers bases cell None far lines = lines
  arrives_lines v frames numbers bases cell (Some end) far lines = comes_to_switch v frames numbers bases end.node end.port cell (not_gsmp end.port cell.header.channel far) lines

  -- queues change neither frames nor numbers
  queue_frames : (place : Place) (cells : List Cell) → ((with_queue w place cells).notes.frames ≡ w.notes.frames) × ((with_queue w place cells).numbers ≡ w.numbers)
  queue_frames place cells = by_site (site_at w (place_node place))
    where
      by_site : (o : Option Site) → ((with_queue_of w place cells o).notes.frames ≡ w.notes.frames) × ((with_queue_of w place cells o).numbers ≡ w.numbers)
      by_site None = (refl, refl)
      by_site (Some site) = (refl, refl)

  -- *A cell of the GSMP channel* comes to a switch
  gsmp_to_switch : (node : NodeId) (cell : Cell) (cells : List Cell) → queue_at w (Down node) ≡ cell ∷ cells → ((site : Site) → site_at w node ≡ Some site → IsEnded (nat_lt 0 (switches.free_slots site.switch)) site.switch.reassembly cell → PassesTrue w.notes.frames (site.switch.reassembly.chain ++ cell ∷ []))
      → same_channel cell.header.channel default_channel ≡ true → HasLines w → HasLines (at_switch (with_queue w (Down node) cells) node (λ b. conduct.cell_comes b control_port cell))
  gsmp_to_switch node cell cells is passes here lines =
      let q : IsShorter w (Down node) cell cells = queued w (Down node) cell cells is in
      let site : Site = q.site in
      let s : IsSteadySite node site = running.sites node site q.found in
      let base : IsBase site = base_of node site s in
      let mid : Site = with_queue_in site (Down node) cells in
      let a : switches.ActedSwitch = beside w site in
      let b : switches.ActedSwitch = conduct.cell_comes a control_port cell in
      let g : switches.ActedSwitch = conduct.gsmp_cell a cell in
      let same : g ≡ b = ap (λ (t : Bool). if t then g else conduct.switched_cell a control_port cell) (sym here) in
      let grows : SwitchGrows a b = subst (SwitchGrows a) same (gsmp_cell_grows a cell running.unmade) in
      let said : (m : Message) → gsmp_under w.notes.frames cell.mark ≡ Some m → IsToSwitch (setups_of site.controller) m =
      λ m under. running.said node site q.found cell m (subst (λ (xs : List Cell). Contains xs cell) (sym q.is) (0, omega arith, refl)) here under in
      subst (λ (o : Option Site). HasLines (at_switch (with_queue_of w (Down node) cells o) node (λ z. conduct.cell_comes z control_port cell))) (sym q.found)
      (subst (λ (o : Option Site). HasLines (switch_acts (with_site w mid) o (λ z. conduct.cell_comes z control_port cell))) (sym (mid_there w node site mid q.found base.numbered running.unmade refl))
      (then_lines w node site mid q.found base.numbered running.unmade refl (record mid { switch = b.switch }) b.notes b.numbers refl grows.extends grows.drawn (λ input k. k)
      (λ input k line reached h. subst (λ (z : switches.ActedSwitch). Reaches node input (part_beside input mid.controller z) AnyLine line) same
      (gsmp_cell_comes node input site.controller a cell cells
      (comes node input site.controller a cell cells q.is here (setups_of site.controller) line s.small running.left.instances reached h (has_queue _ s.queues) s.ports said (passes site q.found)) line h)) lines))

  -- *A cell of the GSMP channel* comes to a controller
  gsmp_to_controller : (node : NodeId) (cell : Cell) (cells : List Cell) → queue_at w (Up node) ≡ cell ∷ cells → ((site : Site) → site_at w node ≡ Some site → IsEnded (nat_lt 0 (free_slots site.controller)) site.controller.reassembly cell → PassesTrue w.notes.frames (site.controller.reassembly.chain ++ cell ∷ []))
      → same_channel cell.header.channel default_channel ≡ true → HasLines w → HasLines (at_controller (with_queue w (Up node) cells) node (λ a. cell_comes a cell))
  gsmp_to_controller node cell cells is returns here lines =
      let q : IsShorter w (Up node) cell cells = queued w (Up node) cell cells is in
      let site : Site = q.site in
      let s : IsSteadySite node site = running.sites node site q.found in
      let base : IsBase site = base_of node site s in
      let mid : Site = with_queue_in site (Up node) cells in
      let setups : List Setup = s.steady.setups in
      let links : Every (λ (setup : Setup). IsLinkPort setup.port) setups = s.steady.links in
      let a : Acted = acting w site in
      let b : Acted = cell_comes a cell in
      let whole : Whole setups a = steady_whole a s.steady in
      let now : Whole setups b = input_holds setups links a (CellComes cell) whole in
      let grows : Grows a b = gsmp_back_grows setups a cell here running.unmade in
      let from : (m : Message) → gsmp_under w.notes.frames cell.mark ≡ Some m → IsFromSwitch site.controller m =
      λ m under. running.answered node site q.found cell m (subst (λ (xs : List Cell). Contains xs cell) (sym q.is) (0, omega arith, refl)) here under in
      let pop : List Cell → Switch = λ xs. record site.switch { crossbar = record site.switch.crossbar { queues = slice_set site.switch.crossbar.queues 0 (drop 1 xs) } } in
      let same_node : b.controller.node ≡ mid.controller.node = moves_node setups site.controller.node a b (input_goes setups a (CellComes cell) tt s.steady.sound) refl in
      subst (λ (o : Option Site). HasLines (at_controller (with_queue_of w (Up node) cells o) node (λ z. cell_comes z cell))) (sym q.found)
      (subst (λ (o : Option Site). HasLines (controller_acts (with_site w mid) o (λ z. cell_comes z cell))) (sym (mid_there w node site mid q.found base.numbered running.unmade refl))
      (then_lines w node site mid q.found base.numbered running.unmade refl (record mid { controller = b.controller }) b.notes b.numbers same_node grows.extends grows.instances (same_inputs setups a b whole now)
      (λ input k line reached h. subst (λ (z : List Cell). Reaches node input (part_at input (pop z) b) AnyLine line) q.is
      (cell_comes_back node input site.switch a cell cells
      (comes_back setups links node input (above_of setups links a whole input k) site.switch a cell cells q.is here line s.small running.left.instances reached h whole (steady_read a s.steady) (subst (λ (z : List Setup). IsLabelEnd z input) whole.sound.ports.same k) s.ports s.same_ports from (returns site q.found)) line h)) lines))

  carried : (place : Place) (xs : List Cell) → queue_at w place ≡ xs → CanCarry topology w place → HasLines w → HasLines (carries_head topology w place xs)
  carried place [] is can lines = lines
  carried (Down node) (cell ∷ cells) is can lines = by_channel (same_channel cell.header.channel default_channel) refl
    where
      by_channel : (b : Bool) → same_channel cell.header.channel default_channel ≡ b → HasLines (carries_head topology w (Down node) (cell ∷ cells))
      by_channel false other =
          let k = queue_frames (Down node) cells in
          comes_to_switch (with_queue w (Down node) cells) k.0 k.1 (base_at (Down node) cell cells is) node control_port cell other (short_lines (Down node) cell cells is tt lines)
      by_channel true here = gsmp_to_switch node cell cells is (λ site found. can cell cells site is found here) here lines
  carried (Up node) (cell ∷ cells) is can lines = by_channel (same_channel cell.header.channel default_channel) refl
    where
      by_channel : (b : Bool) → same_channel cell.header.channel default_channel ≡ b → HasLines (carries_head topology w (Up node) (cell ∷ cells))
      by_channel false other =
          let q : IsShorter w (Up node) cell cells = queued w (Up node) cell cells is in
          let s : IsSteadySite node q.site = running.sites node q.site q.found in
          let after : Site = with_queue_in q.site (Up node) cells in
          let there : site_at (with_site w after) node ≡ Some after = (put_at w node q.site after q.found refl).0 in
          subst (λ (o : Option Site). HasLines (at_controller (with_queue_of w (Up node) cells o) node (λ a. cell_comes a cell))) (sym q.found)
          (cell_lines (with_site w after) node after there s.steady running.unmade cell other s.by_links ((can cell cells q.site is q.found).0 other)
          (shorter w running.unmade (Up node) cell cells q.site q.found (base_of node q.site s) tt q.is lines))
      by_channel true here = gsmp_to_controller node cell cells is (λ site found. (can cell cells site is found).1 here) here lines
  carried (Out node port) (cell ∷ cells) is can lines =
      let k = queue_frames (Out node port) cells in
      arrives_lines (with_queue w (Out node port) cells) k.0 k.1 (base_at (Out node port) cell cells is) cell (peer_of topology node port) can.1 (short_lines (Out node port) cell cells is can.0 lines)

  lost : (place : Place) (xs : List Cell) → queue_at w place ≡ xs → CanLose place → HasLines w → HasLines (loses_head w place xs)
  lost place [] is may lines = lines
  lost place (cell ∷ cells) is may lines = short_lines place cell cells is may lines

  -- *A node acts* that the network has
  module _ (node : NodeId) (lines : HasLines w) where
    abbrev Here : (World → World) → Type 0
    Here f = HasLines (f w)

    few : w.numbers.instances + 20 < 2 ^ 32
    few = running.left.instances

    ticks_here : (o : Option Site) → site_at w node ≡ o → HasLines (at_controller w node ticks)
    ticks_here None found = subst (λ (o : Option Site). HasLines (controller_acts w o ticks)) (sym found) lines
    ticks_here (Some site) found = (let s = running.sites node site found in ticks_lines w node site found s.steady running.unmade s.small few lines)

    restarts_here : (o : Option Site) → site_at w node ≡ o → HasLines (at_controller w node node_restarts)
    restarts_here None found = subst (λ (o : Option Site). HasLines (controller_acts w o node_restarts)) (sym found) lines
    restarts_here (Some site) found = (let s = running.sites node site found in restart_lines w node site found s.steady running.unmade lines)

    changes_here : (change : _) (o : Option Site) → site_at w node ≡ o → HasLines (at_controller w node (λ a. change_comes a change))
    changes_here change None found = subst (λ (o : Option Site). HasLines (controller_acts w o (λ a. change_comes a change))) (sym found) lines
    changes_here change (Some site) found = (let s = running.sites node site found in change_lines w node site found s.steady running.unmade change lines)

    switch_ticks_here : (o : Option Site) → site_at w node ≡ o → HasLines (at_switch w node conduct.tick_comes)
    switch_ticks_here None found = subst (λ (o : Option Site). HasLines (switch_acts w o conduct.tick_comes)) (sym found) lines
    switch_ticks_here (Some site) found = (let s = running.sites node site found in
        switch_tick_lines w node site found (numbered_of site.controller s.steady) running.unmade (has_queue _ s.queues) s.small few lines)

    switch_restarts_here : (o : Option Site) → site_at w node ≡ o → HasLines (at_switch w node conduct.restarted)
    switch_restarts_here None found = subst (λ (o : Option Site). HasLines (switch_acts w o conduct.restarted)) (sym found) lines
    switch_restarts_here (Some site) found = (let s = running.sites node site found in switch_restart_lines w node site found (numbered_of site.controller s.steady) running.unmade lines)

    enters_here : (octets : List ℕ) (r : Option Refusal) → inject_refusal octets ≡ r → (o : Option Site) → site_at w node ≡ o → HasLines (injects_by (record w { sent = w.sent + 1 }) node octets r)
    enters_here octets (Some name) is o found = lines
    enters_here octets None is None found = subst (λ (o : Option Site). HasLines (controller_acts (record w { sent = w.sent + 1 }) o (λ a. injected a (w.sent + 1) octets))) (sym found) lines
    enters_here octets None is (Some site) found = (let s = running.sites node site found in
        packet_lines (record w { sent = w.sent + 1 }) node site found s.steady running.unmade (w.sent + 1) octets s.by_links
        (λ other. ((λ e. no_number w.sent e), running.unsent (w.sent + 1) 1 (omega arith))) is lines)
      where
        no_number : (n : ℕ) → n + 1 ≡ 0 → ⊥
        no_number n e = absurd (omega (arith, e))

  -- *Each event*
  acts_lines : (event : Event) → IsOrdinary topology w event → HasLines w → HasLines (acts topology w event)
  acts_lines (Inject node octets) ok lines = enters_here node lines octets (inject_refusal octets) refl (site_at w node) refl
  acts_lines (Carry place) ok lines = carried place (queue_at w place) refl ok lines
  acts_lines (Lose place) ok lines = lost place (queue_at w place) refl ok lines
  acts_lines (Tick node) ok lines = ticks_here node lines (site_at w node) refl
  acts_lines (TickSwitch node) ok lines = switch_ticks_here node lines (site_at w node) refl
  acts_lines (Restart node) ok lines = restarts_here node lines (site_at w node) refl
  acts_lines (RestartSwitch node) ok lines = switch_restarts_here node lines (site_at w node) refl
  acts_lines (Forge place channel payload) ok lines = absurd ok
  acts_lines (Route node change) ok lines = changes_here node lines change (site_at w node) refl

  pub event_lines : (event : Event) → IsOrdinary topology w event → HasLines w → HasLines (step topology w event)
  event_lines event ok lines = acts_lines event ok lines
