-- chains that events end, and each event before which all of it is so

use Rattle.std.proofs.Common.{◌≡◌, ℕ, Bool, true, false, not, List, [], ◌∷◌, ◌++◌, length, Option, Some, refl, ◌∙◌, ap, subst, if◌then◌else◌}
use Rattle.std.specs.Prelude.{nat_le, nat_lt}
use Rattle.std.specs.Option.{option_map_or}
use Rattle.std.specs.Str.{bytes_eq}
use Rattle.std.proofs.lemmas.Slice.Eq.{bytes_eq-Decides}
use Rattle.law_branch_shapes.specs.world_model.Words.{NodeId, Down, Up, GivenOut, Cell, payload_of, Journal, last_mark, payload_in, Reassembly, most_cells, passed_over, without_slot, too_long, control_port, Controller, default_channel, same_channel, taker_of, reassembly_of, Topology, World, Site, site_key, site_at, with_site, controller_acts, switch_acts, queue_at, with_queue_in, with_queue_of, carries_head, next, put_away, world_after, past_of, IsTame}
use Rattle.law_branch_shapes.specs.world_model.frame_model.Frame.{octets_of}
use Rattle.law_branch_shapes.specs.world_model.frame_model.Reassembly.{Taken, cell_joined}
use Rattle.law_frame_readings.proofs.law_port_facts.Keyed.{at_every}
use Rattle.law_branch_shapes.specs.world_model.Switch as switches
use Rattle.law_branch_shapes.specs.world_model.Conduct as switch
use Rattle.law_branch_shapes.specs.world_model.Controller.{Acted, free_slots}
use Rattle.law_branch_shapes.specs.world_model.Cells.{Taker, cell_comes}
use Rattle.law_branch_shapes.specs.world_model.network_model.declared.event.Event.{Event}
use Rattle.law_branch_shapes.specs.world_model.network_model.declared.event.Event.TheVariants.{Carry}
use Rattle.law_branch_shapes.specs.world_model.World.{opened, at_controller, at_switch}
use Rattle.law_branch_shapes.proofs.law_lifetimes.Opened.{IsFed, opening_fed}
use Rattle.law_branch_shapes.proofs.law_lifetimes.Runs.{run_fed}
use Rattle.law_branch_shapes.specs.Shapes.{ended_by}
use Rattle.law_branch_shapes.proofs.Chance.{tame_passes}
use Rattle.law_input_events.specs.law_input_steps.Hearing.{IsEnded, PassesTrue}
use Rattle.law_input_events.proofs.Sites.{put_at}
use Rattle.law_frame_readings.specs.Reading.{MarksAreRead}
use Rattle.law_run_facts.specs.Nodes.{RunsHaveNodes, RunsHaveRoom}
use Rattle.law_run_facts.specs.Steps.{EventsAreSteps, RunsHaveFronts}
use Rattle.law_frame_readings.proofs.law_shown_cells.Tested.{last_is}
use Rattle.law_running_worlds.specs.Running.{ChainsAreTrue, TameEventsAreTrue, EventsAreOrdinary}
use Rattle.law_running_worlds.proofs.Tame.{chain_true}
use Rattle.law_running_worlds.proofs.Sites.{steady_site, has_said, has_answered}
use Rattle.law_running_worlds.proofs.Ordinary.{ordinary}

-- *At a controller* that was opened and took inputs
module _ (site : Site) (fed : IsFed site) (notes : Journal) (numbers : GivenOut) (cell : Cell) (taker : Taker) where
  abbrev at : Controller → Acted
  at c = record { controller = c; notes = notes; numbers = numbers }

  abbrev IsTrue : Controller → Type 0
  IsTrue c = taker_of c cell.header.channel ≡ Some taker → IsTame (cell_comes (at c) cell).notes.records → IsEnded (nat_lt 0 (free_slots c)) (reassembly_of c taker) cell → PassesTrue notes.frames ((reassembly_of c taker).chain ++ cell ∷ [])

  controller_true : IsTrue site.controller
  controller_true = subst IsTrue fed.now (λ takes tame ended. chain_true fed.o fed.is fed.inputs notes numbers cell taker takes tame ended)

-- *At a switch*
module _ (a : switches.ActedSwitch) (cell : Cell) (tame : IsTame (switch.gsmp_cell a cell).notes.records) (ended : IsEnded (nat_lt 0 (switches.free_slots a.switch)) a.switch.reassembly cell) where
  abbrev r : Reassembly
  r = a.switch.reassembly

  abbrev whole_chain : Taken
  whole_chain = record { reassembly = record r { chain = [] }; notes = a.notes; ended = r.chain ++ cell ∷ [] }

  ended_is : ended_by a cell ≡ r.chain ++ cell ∷ []
  ended_is = ap (λ (t : Taken). t.ended)
      (ap (λ (b : Bool). if b then passed_over a.notes r cell else (if not (nat_lt 0 (switches.free_slots a.switch)) then without_slot a.notes r cell else (if nat_le most_cells (length r.chain) then too_long a.notes r cell else cell_joined a.notes r cell))) ended.listens
      ∙ ap (λ (b : Bool). if b then without_slot a.notes r cell else (if nat_le most_cells (length r.chain) then too_long a.notes r cell else cell_joined a.notes r cell)) ended.slot_is
      ∙ ap (λ (b : Bool). if b then too_long a.notes r cell else cell_joined a.notes r cell) ended.short
      ∙ ap (λ (b : Bool). if b then whole_chain else record { reassembly = record r { chain = r.chain ++ cell ∷ [] }; notes = a.notes; ended = [] }) ended.last)

  made_under : (chain : List Cell) (payload : List ℕ) → ended_by a cell ≡ chain ++ cell ∷ [] → payload_in (octets_of (chain ++ cell ∷ [])) ≡ Some payload → payload_of a.notes.frames cell.mark ≡ Some payload
  made_under [] payload whole is = tame_passes a cell tame cell [] payload whole is
  made_under (x ∷ xs) payload whole is = tame_passes a cell tame x (xs ++ cell ∷ []) payload whole is

  switch_true : PassesTrue a.notes.frames (r.chain ++ cell ∷ [])
  switch_true payload is =
      let under : payload_of a.notes.frames (last_mark (r.chain ++ cell ∷ [])) ≡ Some payload = ap (payload_of a.notes.frames) (last_is r.chain cell) ∙ made_under r.chain payload ended_is is in
      ap (λ (o : Option (List ℕ)). option_map_or (λ kept. bytes_eq kept payload) o false) under ∙ (bytes_eq-Decides payload payload).1 refl

-- *In an event*
module _ (topology : Topology) (w : World) (fed : (node : NodeId) (site : Site) → site_at w node ≡ Some site → IsFed site) where
  abbrev v : World
  v = put_away w

  up_true : (node : NodeId) (site : Site) (taker : Taker) (cell : Cell) (cells : List Cell) → IsTame (next topology w (Carry (Up node))).notes.records → queue_at w (Up node) ≡ cell ∷ cells → site_at w node ≡ Some site
      → taker_of site.controller cell.header.channel ≡ Some taker → IsEnded (nat_lt 0 (free_slots site.controller)) (reassembly_of site.controller taker) cell → PassesTrue w.notes.frames ((reassembly_of site.controller taker).chain ++ cell ∷ [])
  up_true node site taker cell cells tame queue found takes ended =
      let after : Site = with_queue_in site (Up node) cells in
      let there : site_at (with_site v after) node ≡ Some after = (put_at v node site after found refl).0 in
      let first : IsTame (carries_head topology v (Up node) (cell ∷ cells)).notes.records = subst (λ (q : List Cell). IsTame (carries_head topology v (Up node) q).notes.records) queue tame in
      let second : IsTame (at_controller (with_site v after) node (λ a. cell_comes a cell)).notes.records =
      subst (λ (o : Option Site). IsTame (at_controller (with_queue_of v (Up node) cells o) node (λ a. cell_comes a cell)).notes.records) found first in
      controller_true site (fed node site found) v.notes v.numbers cell taker takes
      (subst (λ (o : Option Site). IsTame (controller_acts (with_site v after) o (λ a. cell_comes a cell)).notes.records) there second) ended

  down_true : (node : NodeId) (site : Site) (cell : Cell) (cells : List Cell) → IsTame (next topology w (Carry (Down node))).notes.records → queue_at w (Down node) ≡ cell ∷ cells → site_at w node ≡ Some site
      → same_channel cell.header.channel default_channel ≡ true → IsEnded (nat_lt 0 (switches.free_slots site.switch)) site.switch.reassembly cell → PassesTrue w.notes.frames (site.switch.reassembly.chain ++ cell ∷ [])
  down_true node site cell cells tame queue found here ended =
      let after : Site = with_queue_in site (Down node) cells in
      let a : switches.ActedSwitch = record { switch = site.switch; notes = v.notes; numbers = v.numbers } in
      let there : site_at (with_site v after) node ≡ Some after = (put_at v node site after found refl).0 in
      let first : IsTame (carries_head topology v (Down node) (cell ∷ cells)).notes.records = subst (λ (q : List Cell). IsTame (carries_head topology v (Down node) q).notes.records) queue tame in
      let second : IsTame (at_switch (with_site v after) node (λ b. switch.cell_comes b control_port cell)).notes.records =
      subst (λ (o : Option Site). IsTame (at_switch (with_queue_of v (Down node) cells o) node (λ b. switch.cell_comes b control_port cell)).notes.records) found first in
      let third : IsTame (switch.cell_comes a control_port cell).notes.records = subst (λ (o : Option Site). IsTame (switch_acts (with_site v after) o (λ b. switch.cell_comes b control_port cell)).notes.records) there second in
      switch_true a cell (subst (λ (b : Bool). IsTame (if b then switch.gsmp_cell a cell else switch.switched_cell a control_port cell).notes.records) here third) ended

  pub chains_true : (event : Event) → IsTame (next topology w event).notes.records → ChainsAreTrue w event
  chains_true event tame = record {
    at_controller = λ node site taker cell cells is queue found takes ended. up_true node site taker cell cells (subst (λ (e : Event). IsTame (next topology w e).notes.records) is tame) queue found takes ended;
    at_switch = λ node site cell cells is queue found here ended. down_true node site cell cells (subst (λ (e : Event). IsTame (next topology w e).notes.records) is tame) queue found here ended;
  }

pub events_true : TameEventsAreTrue
events_true policy topology before event tame =
    let w : World = world_after topology (opened policy topology) before in
    chains_true topology w (λ node site found. at_every site_key IsFed node.0 w.sites site (run_fed topology before (opened policy topology) (opening_fed policy topology)) found) event tame

-- *Each event that comes*
module _ (nodes : RunsHaveNodes) (room : RunsHaveRoom) (fronts : RunsHaveFronts) (steps : EventsAreSteps) (read : MarksAreRead) where
  pub events_ordinary : EventsAreOrdinary
  events_ordinary policy topology before event comes world =
      let past = past_of policy topology before in
      let front = fronts policy topology before event comes in
      let step = steps policy topology before event in
      let tame : IsTame (next topology past.now event).notes.records = subst (λ (x : World). IsTame x.notes.records) step.now front.new_tame in (
        record {
          sites = λ node site found. steady_site policy past node site found (nodes policy topology before comes.addresses front.run node site found) (world.ready node site found) (world.shapes node site found);
          said = λ node site found. has_said policy past node site found (nodes policy topology before comes.addresses front.run node site found) (world.ready node site found) (world.shapes node site found) read world.made;
          answered = λ node site found. has_answered policy past node site found (nodes policy topology before comes.addresses front.run node site found) (world.ready node site found) (world.shapes node site found) read world.made (world.ports_up node site found);
          unmade = world.numbers.unmade;
          left = (room policy topology before front.run).left;
          unsent = world.packets.unsent;
        },
        ordinary topology past refl front.run.topology_is world.meanings world.numbers event front.can tame (events_true policy topology before event tame),
      )
