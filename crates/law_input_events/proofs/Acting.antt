-- a controller takes an input, or its switch acts: lines of each input of its switch follow

use Rattle.std.proofs.Common.{◌≡◌, ℕ, ◌+◌, ◌<◌, ◌≤◌, ◌^◌, Bool, true, false, List, [], ◌∷◌, ◌++◌, length, Option, None, Some, refl, sym, ◌∙◌, subst, arith, if◌then◌else◌}
use Rattle.std.specs.Prelude.{nat_le}
use Rattle.std.specs.FinMap.{get, keys}
use Rattle.law_input_premises.specs.world_model.Words.{End, NodeId, PortNo, Greeting, Party, next_control, with_control, Answer, Quiet, Send, Open, gsmp_answer, ticked, Cell, IsLinkPort, Routed, routed, Loss, payload_of, noted, frame_cells, made, Setup, control_port, gsmp_channel, all_ended, Controller, default_channel, same_channel, inject_refusal, injected, Refusal, node_restarts, change_comes, Site, World, site_at, with_site, controller_acts, switch_acts}
use Rattle.law_input_premises.specs.world_model.adjacency_table.declared.message.Answer.TheVariants.{Reset}
use Rattle.law_input_premises.specs.world_model.adjacency_table.Side as sides
use Rattle.law_input_premises.specs.world_model.crossbar_model.declared.routed.Routed.TheVariants as routes_of
use Rattle.law_input_premises.specs.world_model.crossbar_model.Crossbar.{input_of}
use Rattle.law_input_premises.specs.world_model.gsmp_wire.Layout.{octets_of}
use Rattle.law_input_premises.specs.world_model.gsmp_wire.declared.message.Message as gsmp
use Rattle.law_input_premises.specs.world_model.gsmp_wire.declared.message.Message.TheVariants.{Adjacency}
use Rattle.law_input_premises.specs.world_model.link_model.declared.record.Cause.TheVariants as causes
use Rattle.law_input_premises.specs.world_model.frame_model.Sending.{Sender}
use Rattle.law_input_premises.specs.ordered_lists.Ordered.{Every}
use Rattle.law_input_premises.specs.law_port_facts.Port.{IsLabelEnd}
use Rattle.law_input_premises.proofs.law_port_facts.Keyed.{on_both}
use Rattle.law_input_premises.specs.world_model.Switch as switches
use Rattle.law_input_premises.specs.world_model.Conduct as conduct
use Rattle.law_input_premises.specs.world_model.Controller.{Acted}
use Rattle.law_input_premises.specs.world_model.Cells.{cell_comes}
use Rattle.law_input_premises.specs.world_model.Ticks.{ticks}
use Rattle.law_input_premises.specs.law_controller_facts.Inputs.{Input, CellComes, PacketEnters, Ticks, Restarts, ChangeComes, enters_unless, takes_input}
use Rattle.law_input_premises.specs.law_controller_facts.Sound.{IsOwn}
use Rattle.law_input_premises.proofs.law_controller_facts.Conditions.{label_has_home}
use Rattle.law_input_premises.proofs.law_controller_facts.Laws.{input_goes}
use Rattle.law_input_premises.proofs.law_controller_facts.Nodes.{moves_node}
use Rattle.law_input_premises.proofs.law_controller.Whole.{Whole, holds_of}
use Rattle.law_input_premises.proofs.law_controller.Events.{input_holds}
use Rattle.law_input_premises.specs.world_model.World.{at_controller, at_switch}
use Rattle.law_input_premises.specs.law_shown_cells.Seen.{IsUnmade, Extends}
use Rattle.law_input_premises.proofs.law_shown_cells.Made.{extends_self, extends_made}
use Rattle.law_world_views.specs.law_controller_views.Ends.{Grows}
use Rattle.law_world_views.specs.law_controller_views.Lifted.{Growing}
use Rattle.law_input_premises.specs.law_input_steps.Part.{part_of, part_at, part_beside, IsNumbered, Reaches, AnyLine, Leads}
use Rattle.law_input_premises.specs.law_input_steps.Hearing.{HasQueue, LeadsAway}
use Rattle.law_input_premises.proofs.law_input_steps.Reach.{leads_self, leads_then}
use Rattle.law_input_premises.proofs.law_input_steps.Acts.{at_port_leads}
use Rattle.law_input_premises.proofs.law_input_steps.Done.{changes_leads}
use Rattle.law_input_premises.proofs.law_input_steps.Handled.{all_ended_frames}
use Rattle.law_input_premises.proofs.law_input_steps.Resets.{still_leads, node_restarts_leads}
use Rattle.law_input_premises.proofs.law_input_steps.SwitchCells.{switch_restarts_leads}
use Rattle.law_input_premises.proofs.law_input_steps.Switched.{switched_leads}
use Rattle.law_input_premises.proofs.law_input_steps.Switching.{switch_ticks_leads}
use Rattle.law_input_premises.proofs.law_input_steps.Ticks.{ticks_leads}
use Rattle.law_input_premises.specs.Steady.{IsSteady}
use Rattle.law_input_premises.proofs.Reading.{are_read}
use Rattle.law_input_premises.proofs.Steady.{steady_whole, steady_read}
use Rattle.law_input_premises.proofs.Working.{can_work}
use Rattle.law_input_premises.proofs.Changing.{can_take_each, waiting_holds}
use Rattle.law_input_premises.proofs.Ticking.{can_tick}
use Rattle.law_world_views.specs.Between.{IsInput}
use Rattle.law_world_views.specs.Shown.{acting}
use Rattle.law_input_premises.proofs.law_shown_cells.Tested.{cut_frames}
use Rattle.law_input_events.specs.Coming.{IsNext, GoesByLinks, HasLines}
use Rattle.law_input_events.proofs.Packets.{routes_leads}
use Rattle.law_input_events.proofs.Cells.{IsKept, other_cell_leads}
use Rattle.law_input_events.proofs.Growing.{growing_kept, ticks_grow, restarts_grow, change_grows, routes_grow}
use Rattle.law_input_events.proofs.Spoken.{controller_tick, switch_tick}
use Rattle.law_input_events.proofs.Sites.{ReachesOn, reached_by, lines_on, put_at}

-- *A controller* keeps its setups
pub same_inputs : (setups : List Setup) (a b : Acted) → Whole setups a → Whole setups b → (input : End) → IsInput b.controller input → IsInput a.controller input
same_inputs setups a b h k input is = subst (λ (s : List Setup). IsLabelEnd s input) (k.sound.ports.same ∙ sym h.sound.ports.same) is

pub above_of : (setups : List Setup) (links : Every (λ (setup : Setup). IsLinkPort setup.port) setups) (a : Acted) → Whole setups a → (input : End) → IsInput a.controller input → 1 ≤ input.port.0
above_of setups links a h input is = (label_has_home setups input links (subst (λ (s : List Setup). IsLabelEnd s input) h.sound.ports.same is)).least

pub numbered_of : (c : Controller) → IsSteady c → IsNumbered c.desk
numbered_of c h = record { below = h.sound.desk.below; earlier = h.sound.desk.earlier }

-- what a controller does is kept by the walk of its cells
leads_kept : (setups : List Setup) (links : Every (λ (setup : Setup). IsLinkPort setup.port) setups) (node : NodeId) (input : End) (above : 1 ≤ input.port.0) (switch : switches.Switch)
    → IsKept setups (λ (a : Acted) (b : Acted). Leads node input (part_at input switch a) (part_at input switch b))
leads_kept setups links node input above switch = record {
  self = λ a. leads_self node input (part_at input switch a);
  on = λ a b c f g. leads_then node input (part_at input switch a) (part_at input switch b) (part_at input switch c) f g;
  still = λ a b s. still_leads node input switch a b s;
  ruled = λ a port rule goes reads h. at_port_leads node input switch a port rule (can_work setups links input above a port rule goes reads (holds_of setups a h));
  routed = λ a mark packet by_links next. routes_leads node input switch a mark packet by_links next;
}

-- *A controller takes an input*
module _ (w : World) (node : NodeId) (site : Site) (found : site_at w node ≡ Some site) (steady : IsSteady site.controller) (unmade : IsUnmade w.numbers.controls w.notes.frames) where
  abbrev a : Acted
  a = acting w site

  abbrev setups : List Setup
  setups = steady.setups

  whole : Whole setups a
  whole = steady_whole a steady

  controller_lines : (taken : Input) → IsOwn taken → Growing a (takes_input a taken)
      → ((input : End) → IsInput site.controller input → ReachesOn node input (part_of input site w.notes.frames w.numbers) (part_at input site.switch (takes_input a taken)))
      → HasLines w → HasLines (at_controller w node (λ b. takes_input b taken))
  controller_lines taken own grows leads lines =
      let b : Acted = takes_input a taken in
      let after : Site = record site { controller = b.controller } in
      let v : World = record (with_site w after) { notes = b.notes; numbers = b.numbers } in
      let same : b.controller.node ≡ site.controller.node = moves_node setups site.controller.node a b (input_goes setups a taken own steady.sound) refl in
      let put = put_at w node site after found same in
      let g : Grows a b = grows unmade in
      let now : Whole setups b = input_holds setups steady.links a taken whole in
      subst (λ (o : Option Site). HasLines (controller_acts w o (λ (c : Acted). takes_input c taken))) (sym found)
      (lines_on w v node site after (record { found = found; there = put.0; others = put.1; extends = g.extends; drawn = g.instances }) (same_inputs setups a b whole now)
      (λ input is r. reached_by node input site after w.notes.frames b.notes.frames w.numbers b.numbers unmade (numbered_of site.controller steady) (leads input is) r) lines)

  above : (input : End) → IsInput site.controller input → 1 ≤ input.port.0
  above input is = above_of setups steady.links a whole input is

  pub ticks_lines : node.0 < 256 → w.numbers.instances + 20 < 2 ^ 32 → HasLines w → HasLines (at_controller w node ticks)
  ticks_lines small left lines = controller_lines Ticks tt (ticks_grow setups a)
      (λ input is line reached h. ticks_leads node input site.switch a
      (can_tick setups steady.links input (above input is) a whole (are_read setups steady.links [] tt) (steady_read a steady)
      (controller_tick node input (part_of input site w.notes.frames w.numbers) line small left reached h)) line h) lines

  pub restart_lines : HasLines w → HasLines (at_controller w node node_restarts)
  restart_lines lines = controller_lines Restarts tt (restarts_grow a) (λ input is line reached h. node_restarts_leads node input site.switch a line h) lines

  pub change_lines : (change : _) → HasLines w → HasLines (at_controller w node (λ b. change_comes b change))
  change_lines change lines = controller_lines (ChangeComes change) tt (change_grows a change)
      (λ input is line reached h.
      let b : Acted = record a { controller = record a.controller { waiting = a.controller.waiting ++ change ∷ [] } } in
      changes_leads node input site.switch b (λ met. can_take_each setups input (above input is) b.controller.waiting b (waiting_holds setups input (above input is) a b.controller.waiting (holds_of setups a whole)) (steady_read a steady)) line h) lines

  -- a packet enters
  pub packet_lines : (number : ℕ) (octets : List ℕ) → GoesByLinks site.controller → IsNext w.notes.frames (record { packet = number; frame = 0 }) → inject_refusal octets ≡ None
      → HasLines w → HasLines (at_controller w node (λ b. injected b number octets))
  packet_lines number octets by_links next accepted lines =
      subst (λ (o : Option Refusal). HasLines (at_controller w node (λ b. enters_unless b number octets o))) accepted
      (controller_lines (PacketEnters number octets) tt
      (subst (λ (o : Option Refusal). Growing a (enters_unless a number octets o)) (sym accepted) (routes_grow a (record { packet = number; frame = 0 }) octets next))
      (λ input is line reached h. subst (λ (o : Option Refusal). Reaches node input (part_at input site.switch (enters_unless a number octets o)) AnyLine line) (sym accepted)
      (routes_leads node input site.switch a (record { packet = number; frame = 0 }) octets by_links next line h)) lines)

  -- a cell of another channel comes
  pub cell_lines : (cell : Cell) → same_channel cell.header.channel default_channel ≡ false → GoesByLinks site.controller → (cell.header.last ≡ true → IsNext w.notes.frames cell.mark)
      → HasLines w → HasLines (at_controller w node (λ b. cell_comes b cell))
  cell_lines cell other by_links next lines = controller_lines (CellComes cell) tt
      (other_cell_leads setups steady.links Growing (growing_kept setups) a cell other whole (steady_read a steady) next by_links)
      (λ input is line reached h. other_cell_leads setups steady.links (λ (x : Acted) (y : Acted). Leads node input (part_at input site.switch x) (part_at input site.switch y))
      (leads_kept setups steady.links node input (above input is) site.switch) a cell other whole (steady_read a steady) next by_links line h) lines

-- *A switch acts*
abbrev pub beside : World → Site → switches.ActedSwitch
beside w site = record { switch = site.switch; notes = w.notes; numbers = w.numbers }

-- frames are made and numbers given out
pub record SwitchGrows (a b : switches.ActedSwitch) : Type 0 where
  pub extends : Extends a.notes.frames b.notes.frames
  pub drawn : a.numbers.instances ≤ b.numbers.instances

pub same_frames : (a b : switches.ActedSwitch) → b.notes.frames ≡ a.notes.frames → a.numbers.instances ≤ b.numbers.instances → SwitchGrows a b
same_frames a b same drawn = record { extends = subst (Extends a.notes.frames) (sym same) (extends_self a.notes.frames); drawn = drawn }

pub says_grows : (a : switches.ActedSwitch) (message : gsmp.Message) → IsUnmade a.numbers.controls a.notes.frames → SwitchGrows a (conduct.says a message)
says_grows a message unmade =
    let free : payload_of a.notes.frames (next_control a.numbers) ≡ None = unmade (a.numbers.controls + 1) (omega arith) in
    on_both (λ (s : Sender switches.Switch). SwitchGrows a (record { switch = s.queues; notes = s.notes; numbers = with_control a.numbers })) (nat_le (length (frame_cells gsmp_channel (next_control a.numbers) (octets_of message))) _)
    (record { queues = conduct.with_cells a.switch control_port (frame_cells gsmp_channel (next_control a.numbers) (octets_of message)); notes = made a.notes (next_control a.numbers) (octets_of message) })
    (record { queues = a.switch; notes = noted (made a.notes (next_control a.numbers) (octets_of message)) (Loss (next_control a.numbers) causes.PoolFull) })
    (record { extends = extends_made a.notes.frames (next_control a.numbers) (octets_of message) free; drawn = omega arith })
    (record { extends = extends_made a.notes.frames (next_control a.numbers) (octets_of message) free; drawn = omega arith })

answers_grow : (a : switches.ActedSwitch) (answer : Answer Greeting Party) → IsUnmade a.numbers.controls a.notes.frames → SwitchGrows a (conduct.answers a answer)
answers_grow a Quiet unmade = same_frames a a refl (omega arith)
answers_grow a (Send greeting) unmade = says_grows a (Adjacency greeting) unmade
answers_grow a (Open None key) unmade = same_frames a a refl (omega arith)
answers_grow a (Open (Some greeting) key) unmade = says_grows a (Adjacency greeting) unmade
answers_grow a Reset unmade = same_frames a (conduct.reset a) refl (omega arith)

pub steps_grow : (a : switches.ActedSwitch) (step : sides.Step Party) → IsUnmade a.numbers.controls a.notes.frames → SwitchGrows a (conduct.steps a step)
steps_grow a step unmade = (let k = answers_grow (record a { switch = record a.switch { adjacency = step.side } }) (gsmp_answer step.answer) unmade in record { extends = k.extends; drawn = k.drawn })

restart_grows : (a : switches.ActedSwitch) → SwitchGrows a (conduct.restarted a)
restart_grows a = same_frames a (conduct.restarted a)
    (cut_frames (all_ended (record { branches = a.switch.crossbar.branches; notes = a.notes }) (keys a.switch.crossbar.branches)).notes a.switch.reassembly
    ∙ all_ended_frames (record { branches = a.switch.crossbar.branches; notes = a.notes }) (keys a.switch.crossbar.branches)) (omega arith)

passed_grows : (a : switches.ActedSwitch) (port : PortNo) (cell : Cell) (r : Routed) → SwitchGrows a (conduct.cell_routed a port cell r)
passed_grows a port cell (routes_of.Out output) = same_frames a (conduct.cell_routed a port cell (routes_of.Out output)) refl (omega arith)
passed_grows a port cell routes_of.Unconnected = same_frames a (conduct.cell_routed a port cell routes_of.Unconnected) refl (omega arith)
passed_grows a port cell routes_of.PoolFull = same_frames a (conduct.cell_routed a port cell routes_of.PoolFull) refl (omega arith)

module _ (w : World) (node : NodeId) (site : Site) (found : site_at w node ≡ Some site) (numbered : IsNumbered site.controller.desk) (unmade : IsUnmade w.numbers.controls w.notes.frames) where
  switch_lines : (act : switches.ActedSwitch → switches.ActedSwitch) → SwitchGrows (beside w site) (act (beside w site))
      → ((input : End) → IsInput site.controller input → ReachesOn node input (part_of input site w.notes.frames w.numbers) (part_beside input site.controller (act (beside w site))))
      → HasLines w → HasLines (at_switch w node act)
  switch_lines act grows leads lines =
      let b : switches.ActedSwitch = act (beside w site) in
      let after : Site = record site { switch = b.switch } in
      let v : World = record (with_site w after) { notes = b.notes; numbers = b.numbers } in
      let put = put_at w node site after found refl in
      subst (λ (o : Option Site). HasLines (switch_acts w o act)) (sym found)
      (lines_on w v node site after (record { found = found; there = put.0; others = put.1; extends = grows.extends; drawn = grows.drawn }) (λ input is. is)
      (λ input is r. reached_by node input site after w.notes.frames b.notes.frames w.numbers b.numbers unmade numbered (leads input is) r) lines)

  pub switch_tick_lines : HasQueue site.switch → node.0 < 256 → w.numbers.instances + 20 < 2 ^ 32 → HasLines w → HasLines (at_switch w node conduct.tick_comes)
  switch_tick_lines queue small left lines = switch_lines conduct.tick_comes (steps_grow (beside w site) (ticked site.switch.adjacency) unmade)
      (λ input is line reached h. switch_ticks_leads node input site.controller (beside w site) queue (switch_tick node input (part_of input site w.notes.frames w.numbers) line small left reached h) line h) lines

  pub switch_restart_lines : HasLines w → HasLines (at_switch w node conduct.restarted)
  switch_restart_lines lines = switch_lines conduct.restarted (restart_grows (beside w site)) (λ input is line reached h. switch_restarts_leads node input site.controller (beside w site) line h) lines

  -- a cell of another channel comes to it
  pub switched_lines : (port : PortNo) (cell : Cell) → HasQueue site.switch → LeadsAway (get site.switch.crossbar.branches (input_of port cell)) → conduct.is_gsmp port cell.header.channel ≡ false
      → HasLines w → HasLines (at_switch w node (λ b. conduct.cell_comes b port cell))
  switched_lines port cell queue away other lines = switch_lines (λ b. conduct.cell_comes b port cell)
      (subst (λ (t : Bool). SwitchGrows (beside w site) (if t then conduct.gsmp_cell (beside w site) cell else conduct.switched_cell (beside w site) port cell)) (sym other)
      (passed_grows (beside w site) port cell (routed site.switch.crossbar (switches.free_slots site.switch) port cell)))
      (λ input is line reached h. subst (λ (t : Bool). Reaches node input (part_beside input site.controller (if t then conduct.gsmp_cell (beside w site) cell else conduct.switched_cell (beside w site) port cell)) AnyLine line) (sym other)
      (switched_leads node input site.controller (beside w site) port cell queue away line h)) lines
