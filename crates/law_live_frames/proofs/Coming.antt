-- a last cell that comes to a channel of whose frames nothing was lost

use Rattle.std.proofs.Common.{◌≡◌, ℕ, Bool, true, false, List, [], ◌∷◌, ◌++◌, length, Option, None, Some, refl, sym, ◌∙◌, ap, subst, arith, if◌then◌else◌, map, slice_get}
use Rattle.std.specs.Prelude.{◌==◌, ◌||◌, nat_lt}
use Rattle.std.specs.Option.{option_map, option_map_or, option_and_then}
use Rattle.world_model.specs.Words.{NodeId, Place, Down, Up, Out, Mark, Cell, Journal, Policy, has_entry, payload_of, same_mark, last_mark, payload_in, tested_by, Reassembly, broken, marks_of, open_stretch, gsmp_channel, control_port, Controller, taker_of, reassembly_of, same_channel, with_reassembly, ForGsmp, ForDefault, ForLabel, takes_cell, Topology, World, Site, site_key, site_at, at, controller_acts, switch_acts, queue_at, with_queue_in, with_queue_of, carries_head, put_away, next, has_mark, Arrival, CountsAsItsFrame, OfController, OfSwitch, HasCauses, HasCause, arrival, cell_for, same_reassembler, taken_at, turns_of}
use Rattle.world_model.specs.frame_model.Frame.{octets_of}
use Rattle.world_model.specs.frame_model.Reassembly.{Taken, taken}
use Rattle.world_model.specs.Switch as switches
use Rattle.world_model.specs.Conduct as switch
use Rattle.world_model.specs.Controller as controllers
use Rattle.world_model.specs.Cells as controller
use Rattle.world_model.specs.Cells.{Taker as ControllerTaker}
use Rattle.world_model.specs.network_model.declared.event.Event.{Event}
use Rattle.world_model.specs.network_model.declared.event.Event.TheVariants.{Inject, Carry, Lose, Tick, TickSwitch, Restart, RestartSwitch, Forge, Route}
use Rattle.world_model.specs.Stretches.{Reassembler, ended_at, controller_arrival, switch_arrival}
use Rattle.world_model.specs.World.{opened}
use Rattle.law_port_facts.proofs.Keyed.{at_key, at_put_same}
use Rattle.law_live_frames.specs.Law.{world_at, NothingIsLost, IsLastCell, IsWhole, FramesAreWhole}
use Rattle.law_live_frames.proofs.Breaking.{Breaks, broken_entry, Ends, passes, breaks_there, ends, ended_whole, at_length, at_front, has_there, both, mark_itself, number_itself}

-- the mark of the last cell
pub last_is : (chain : List Cell) (cell : Cell) → last_mark (chain ++ cell ∷ []) ≡ cell.mark
last_is [] cell = refl
last_is (x ∷ []) cell = refl
last_is (x ∷ y ∷ chain) cell = last_is (y ∷ chain) cell

pub same_itself : (taker : Reassembler) → same_reassembler taker taker ≡ true
same_itself (OfController node channel) = both (node.0 == node.0) (same_channel channel channel) (number_itself node.0)
    (both (channel.vpi == channel.vpi) (channel.vci == channel.vci) (number_itself channel.vpi) (number_itself channel.vci))
same_itself (OfSwitch node) = number_itself node.0

-- *A frame that fails* at a controller, and at a switch
module _ (a : controllers.Acted) (taker : ControllerTaker) where
  pub rest_notes : (b : controllers.Acted) (r : Reassembly) (t : ControllerTaker) → (with_reassembly b t r).notes ≡ b.notes
  rest_notes b r ForGsmp = refl
  rest_notes b r (ForDefault linked) = refl
  rest_notes b r (ForLabel linked label) = refl

  abbrev pub finish : Taken → Journal
  finish t = (controller.after_cell a taker t).notes

  pub quiet : (t : Taken) → t.ended ≡ [] → finish t ≡ t.notes
  quiet t none = ap (λ (cells : List Cell). (controller.ends_frame (with_reassembly (record a { notes = t.notes }) taker t.reassembly) taker cells).notes) none
      ∙ rest_notes (record a { notes = t.notes }) t.reassembly taker

  fails_on : (b : controllers.Acted) (chain : List Cell) (cell : Cell) → payload_in (octets_of (chain ++ cell ∷ [])) ≡ None
      → (controller.ends_frame b taker (chain ++ cell ∷ [])).notes ≡ broken b.notes (marks_of (chain ++ cell ∷ []))
  fails_on b [] cell none = ap (λ (o : Option (List ℕ)). (controller.after_test b taker (last_mark (cell ∷ [])) (tested_by b.notes (cell ∷ []) o)).notes) none
  fails_on b (x ∷ chain) cell none =
      ap (λ (o : Option (List ℕ)). (controller.after_test b taker (last_mark (x ∷ (chain ++ cell ∷ []))) (tested_by b.notes (x ∷ (chain ++ cell ∷ [])) o)).notes) none

  pub fails : (cell : Cell) (t : Taken) (chain : List Cell) → t.ended ≡ chain ++ cell ∷ [] → payload_in (octets_of (chain ++ cell ∷ [])) ≡ None
      → finish t ≡ broken t.notes (marks_of (chain ++ cell ∷ []))
  fails cell t chain ended none =
      ap (λ (cells : List Cell). (controller.ends_frame (with_reassembly (record a { notes = t.notes }) taker t.reassembly) taker cells).notes) ended
      ∙ (fails_on (with_reassembly (record a { notes = t.notes }) taker t.reassembly) chain cell none
      ∙ ap (λ (n : Journal). broken n (marks_of (chain ++ cell ∷ []))) (rest_notes (record a { notes = t.notes }) t.reassembly taker))

module _ (a : switches.ActedSwitch) where
  abbrev pub finish_there : Taken → Journal
  finish_there t = (switch.after_cell a t).notes

  pub quiet_there : (t : Taken) → t.ended ≡ [] → finish_there t ≡ t.notes
  quiet_there t none = ap (λ (cells : List Cell). (switch.ends_frame (record a { switch = record a.switch { reassembly = t.reassembly }; notes = t.notes }) cells).notes) none

  pub fails_there : (cell : Cell) (t : Taken) (chain : List Cell) → t.ended ≡ chain ++ cell ∷ [] → payload_in (octets_of (chain ++ cell ∷ [])) ≡ None
      → finish_there t ≡ broken t.notes (marks_of (chain ++ cell ∷ []))
  fails_there cell t chain ended none =
      ap (λ (cells : List Cell). (switch.ends_frame (record a { switch = record a.switch { reassembly = t.reassembly }; notes = t.notes }) cells).notes) ended ∙ on chain none
    where
      on : (chain : List Cell) → payload_in (octets_of (chain ++ cell ∷ [])) ≡ None
          → (switch.ends_frame (record a { switch = record a.switch { reassembly = t.reassembly }; notes = t.notes }) (chain ++ cell ∷ [])).notes ≡ broken t.notes (marks_of (chain ++ cell ∷ []))
      on [] none = ap (λ (o : Option (List ℕ)). (switch.after_test (record a { switch = record a.switch { reassembly = t.reassembly }; notes = t.notes }) (tested_by t.notes (cell ∷ []) o)).notes) none
      on (x ∷ chain) none = ap (λ (o : Option (List ℕ)). (switch.after_test (record a { switch = record a.switch { reassembly = t.reassembly }; notes = t.notes }) (tested_by t.notes (x ∷ (chain ++ cell ∷ [])) o)).notes) none

-- *A cell that leaves a queue* leaves its site as it is but for the queue
pub site_left : (w : World) (place : Place) (node : NodeId) (site : Site) (cells : List Cell) → site_at w node ≡ Some site
    → (with_queue_in site place cells).controller.node ≡ site.controller.node
    → site_at (with_queue_of w place cells (Some site)) node ≡ Some (with_queue_in site place cells)
site_left w place node site cells found same =
    let own : site.controller.node.0 ≡ node.0 = at_key site_key node.0 w.sites site found in
    let key : site_key (with_queue_in site place cells) ≡ node.0 = ap (λ (n : NodeId). n.0) same ∙ own in
    subst (λ n. at site_key n (with_queue_of w place cells (Some site)).sites ≡ Some (with_queue_in site place cells)) key
    (at_put_same site_key (with_queue_in site place cells) w.sites site (subst (λ n. at site_key n w.sites ≡ Some site) (sym key) found))

module _ (policy : Policy) (topology : Topology) (before : List Event) (event : Event) (a : Arrival) (causes : HasCauses policy topology (before ++ event ∷ []))
    (counts : CountsAsItsFrame (world_at policy topology before) event) (unlost : NothingIsLost policy topology before event)
    (is : IsLastCell (world_at policy topology before) event a) where
  abbrev w : World
  w = world_at policy topology before

  abbrev after : World
  after = next topology w event

  comes_for : cell_for a.taker (arrival w event) ≡ Some a.cell
  comes_for = ap (cell_for a.taker) is.comes ∙ ap (λ (b : Bool). if b then Some a.cell else None) (same_itself a.taker)

  -- no entry Broken is made
  no_break : Breaks w.notes.entries after.notes.entries → ⊥
  no_break b =
      let place : ℕ = length w.notes.entries in
      let there : slice_get after.notes.entries place ≡ Some (broken_entry b.first) =
      ap (λ entries. slice_get entries place) b.are ∙ at_length w.notes.entries (broken_entry b.first) (map broken_entry b.rest) in
      let cause : HasCause policy topology before event place (broken_entry b.first) = causes.causes before [] event refl place (broken_entry b.first) (omega arith) there refl in
      let found : slice_get w.notes.entries cause.cause.cause_place ≡ Some cause.cause.cause =
      sym (ap (λ entries. slice_get entries cause.cause.cause_place) b.are ∙ at_front w.notes.entries (map broken_entry (b.first ∷ b.rest)) cause.cause.cause_place cause.cause.is_earlier) ∙ cause.cause.stands in
      let none : has_entry w.notes.entries cause.cause.cause.mark ≡ false = unlost cause.taker cause.cell cause.cause.cause.mark cause.comes cause.cause.beside in
      absurd (cc (sym (has_there w.notes.entries cause.cause.cause_place cause.cause.cause found) ∙ none))

  own_unlost : has_entry w.notes.entries a.cell.mark ≡ false
  own_unlost = unlost a.taker a.cell a.cell.mark comes_for (among (open_stretch (turns_of topology (opened policy topology) before a.taker)))
    where
      among : (cells : List Cell) → has_mark (cells ++ a.cell ∷ []) a.cell.mark ≡ true
      among [] = ap (λ (b : Bool). b || false) (mark_itself a.cell.mark)
      among (x ∷ cells) = either (same_mark x.mark a.cell.mark) (among cells)
        where
          either : (b : Bool) → has_mark (cells ++ a.cell ∷ []) a.cell.mark ≡ true → (b || has_mark (cells ++ a.cell ∷ []) a.cell.mark) ≡ true
          either true h = refl
          either false h = h

  -- *So it passes*, whoever takes it
  module _ (finish_now : Taken → Journal) (quiet_now : (t : Taken) → t.ended ≡ [] → finish_now t ≡ t.notes)
      (fails_now : (t : Taken) (chain : List Cell) → t.ended ≡ chain ++ a.cell ∷ [] → payload_in (octets_of (chain ++ a.cell ∷ [])) ≡ None
      → finish_now t ≡ broken t.notes (marks_of (chain ++ a.cell ∷ [])))
      (goes : after.notes ≡ finish_now (taken (put_away w).notes true is.reassembly a.cell)) where
    ended_is : ended_at w event a.taker ≡ (taken w.notes true is.reassembly a.cell).ended
    ended_is = ap (λ o. option_map_or (λ (t : Taken). t.ended) (taken_at w a.taker o (cell_for a.taker (arrival w event))) []) is.taken
        ∙ (ap (λ o. option_map_or (λ (t : Taken). t.ended) (taken_at w a.taker (Some is.reassembly) o) []) comes_for
        ∙ ap (λ (b : Bool). (taken w.notes b is.reassembly a.cell).ended) is.slot)

    is_whole : IsWhole w event a
    is_whole = by (ends (put_away w).notes is.reassembly a.cell is.last finish_now quiet_now fails_now own_unlost)
      where
        by : Ends (put_away w).notes is.reassembly a.cell is.last finish_now quiet_now fails_now own_unlost → IsWhole w event a
        by (breaks_there b) = absurd (no_break (subst (λ (n : Journal). Breaks w.notes.entries n.entries) (sym goes) b))
        by (passes payload on short test) =
            let chain : ended_at w event a.taker ≡ is.reassembly.chain ++ a.cell ∷ [] = ended_is ∙ ended_whole w.notes is.reassembly a.cell is.last on short in
            let passed : payload_in (octets_of (ended_at w event a.taker)) ≡ Some payload = ap (λ cells. payload_in (octets_of cells)) chain ∙ test in
            let own : last_mark (ended_at w event a.taker) ≡ a.cell.mark = ap last_mark chain ∙ last_is is.reassembly.chain a.cell in
            record { payload = payload; passes = passed; own = own; made = subst (λ (m : Mark). payload_of w.notes.frames m ≡ Some payload) own (counts a.taker payload passed) }

-- *At a controller*
module _ (policy : Policy) (topology : Topology) (before : List Event) (node : NodeId) where
  abbrev now : World
  now = world_at policy topology before

  abbrev to_controller : Event
  to_controller = Carry (Up node)

  abbrev to_switch : Event
  to_switch = Carry (Down node)

  -- what is asked of an event, and what follows
  abbrev Wholes : Event → Arrival → Type 0
  Wholes event a = HasCauses policy topology (before ++ event ∷ []) → CountsAsItsFrame now event → NothingIsLost policy topology before event
      → IsLastCell now event a → IsWhole now event a

  module _ (cell : Cell) (cells : List Cell) where
    abbrev at_channel : Arrival
    at_channel = record { taker = OfController node cell.header.channel; cell = cell }

    abbrev at_gsmp : Arrival
    at_gsmp = record { taker = OfSwitch node; cell = cell }

    module _ (site : Site) (found : site_at now node ≡ Some site) where
      abbrev acted : controllers.Acted
      acted = record { controller = site.controller; notes = (put_away now).notes; numbers = now.numbers }

      abbrev acted_switch : switches.ActedSwitch
      acted_switch = record { switch = site.switch; notes = (put_away now).notes; numbers = now.numbers }

      comes_up : queue_at now (Up node) ≡ cell ∷ cells → (next topology now to_controller).notes ≡ (controller.cell_comes acted cell).notes
      comes_up queue = ap (λ q. (carries_head topology (put_away now) (Up node) q).notes) queue
          ∙ (ap (λ o. (controller_acts (with_queue_of (put_away now) (Up node) cells o) (site_at (with_queue_of (put_away now) (Up node) cells o) node) (λ a. controller.cell_comes a cell)).notes) found
          ∙ ap (λ o. (controller_acts (with_queue_of (put_away now) (Up node) cells (Some site)) o (λ a. controller.cell_comes a cell)).notes) (site_left (put_away now) (Up node) node site cells found refl))

      comes_down : queue_at now (Down node) ≡ cell ∷ cells → (next topology now to_switch).notes ≡ (switch.cell_comes acted_switch control_port cell).notes
      comes_down queue = ap (λ q. (carries_head topology (put_away now) (Down node) q).notes) queue
          ∙ (ap (λ o. (switch_acts (with_queue_of (put_away now) (Down node) cells o) (site_at (with_queue_of (put_away now) (Down node) cells o) node) (λ a. switch.cell_comes a control_port cell)).notes) found
          ∙ ap (λ o. (switch_acts (with_queue_of (put_away now) (Down node) cells (Some site)) o (λ a. switch.cell_comes a control_port cell)).notes) (site_left (put_away now) (Down node) node site cells found refl))

      by_taker : (o : Option ControllerTaker) → taker_of site.controller cell.header.channel ≡ o → queue_at now (Up node) ≡ cell ∷ cells → Wholes to_controller at_channel
      by_taker None taker queue causes counts unlost is =
          absurd (cc (sym (ap (λ (o : Option Site). option_and_then (λ (c : Controller). option_map (reassembly_of c) (taker_of c cell.header.channel)) (option_map (λ (s : Site). s.controller) o)) found
          ∙ ap (option_map (reassembly_of site.controller)) taker) ∙ is.taken))
      by_taker (Some t) taker queue causes counts unlost is =
          is_whole policy topology before to_controller at_channel causes counts unlost is (finish acted t) (quiet acted t) (fails acted t cell)
          (comes_up queue ∙ (ap (λ o. (takes_cell acted cell o).notes) taker
          ∙ (ap (λ b. (controller.after_cell acted t (taken (put_away now).notes b (reassembly_of site.controller t) cell)).notes) slot
          ∙ ap (λ r. (controller.after_cell acted t (taken (put_away now).notes true r cell)).notes) chain)))
        where
          slot : nat_lt 0 (controllers.free_slots site.controller) ≡ true
          slot = sym (ap (λ (o : Option Site). option_map_or (λ (c : Controller). nat_lt 0 (controllers.free_slots c)) (option_map (λ (s : Site). s.controller) o) false) found) ∙ is.slot

          one : (x y : Reassembly) → Some x ≡ Some y → x ≡ y
          one x y e = cc

          chain : reassembly_of site.controller t ≡ is.reassembly
          chain = one (reassembly_of site.controller t) is.reassembly
              (sym (ap (λ (o : Option Site). option_and_then (λ (c : Controller). option_map (reassembly_of c) (taker_of c cell.header.channel)) (option_map (λ (s : Site). s.controller) o)) found
              ∙ ap (option_map (reassembly_of site.controller)) taker) ∙ is.taken)

      by_switch : same_channel cell.header.channel gsmp_channel ≡ true → queue_at now (Down node) ≡ cell ∷ cells → Wholes to_switch at_gsmp
      by_switch own queue causes counts unlost is =
          is_whole policy topology before to_switch at_gsmp causes counts unlost is (finish_there acted_switch) (quiet_there acted_switch) (fails_there acted_switch cell)
          (comes_down queue ∙ (ap (λ (b : Bool). (if b then switch.gsmp_cell acted_switch cell else switch.switched_cell acted_switch control_port cell).notes) own
          ∙ (ap (λ b. (switch.after_cell acted_switch (taken (put_away now).notes b site.switch.reassembly cell)).notes) slot
          ∙ ap (λ r. (switch.after_cell acted_switch (taken (put_away now).notes true r cell)).notes) chain)))
        where
          slot : nat_lt 0 (switches.free_slots site.switch) ≡ true
          slot = sym (ap (λ (o : Option Site). option_map_or (λ (s : Site). nat_lt 0 (switches.free_slots s.switch)) o false) found) ∙ is.slot

          one : (x y : Reassembly) → Some x ≡ Some y → x ≡ y
          one x y e = cc

          chain : site.switch.reassembly ≡ is.reassembly
          chain = one site.switch.reassembly is.reassembly (sym (ap (option_map (λ (s : Site). s.switch.reassembly)) found) ∙ is.taken)

    -- a node that isn't there takes nothing
    by_site : (o : Option Site) → site_at now node ≡ o → queue_at now (Up node) ≡ cell ∷ cells → Wholes to_controller at_channel
    by_site None found queue causes counts unlost is =
        absurd (cc (sym (ap (λ (o : Option Site). option_and_then (λ (c : Controller). option_map (reassembly_of c) (taker_of c cell.header.channel)) (option_map (λ (s : Site). s.controller) o)) found) ∙ is.taken))
    by_site (Some site) found queue causes counts unlost is =
        by_taker site found (taker_of site.controller cell.header.channel) refl queue causes counts unlost is

    by_site_there : (o : Option Site) → site_at now node ≡ o → same_channel cell.header.channel gsmp_channel ≡ true → queue_at now (Down node) ≡ cell ∷ cells → Wholes to_switch at_gsmp
    by_site_there None found own queue causes counts unlost is = absurd (cc (sym (ap (option_map (λ (s : Site). s.switch.reassembly)) found) ∙ is.taken))
    by_site_there (Some site) found own queue causes counts unlost is = by_switch site found own queue causes counts unlost is

  by_queue : (q : List Cell) → queue_at now (Up node) ≡ q → (a : Arrival) → controller_arrival node q ≡ Some a → Wholes to_controller a
  by_queue [] queue a e = absurd (cc e)
  by_queue (cell ∷ cells) queue a e = subst (Wholes to_controller) (arrived a e) (by_site cell cells (site_at now node) refl queue)
    where
      arrived : (a : Arrival) → Some (record { taker = OfController node cell.header.channel; cell = cell }) ≡ Some a → record { taker = OfController node cell.header.channel; cell = cell } ≡ a
      arrived a e = cc

  by_queue_there : (q : List Cell) → queue_at now (Down node) ≡ q → (a : Arrival) → switch_arrival node q ≡ Some a → Wholes to_switch a
  by_queue_there [] queue a e = absurd (cc e)
  by_queue_there (cell ∷ cells) queue a e = by_channel (same_channel cell.header.channel gsmp_channel) refl e
    where
      arrived : (a : Arrival) → Some (record { taker = OfSwitch node; cell = cell }) ≡ Some a → record { taker = OfSwitch node; cell = cell } ≡ a
      arrived a e = cc

      by_channel : (b : Bool) → same_channel cell.header.channel gsmp_channel ≡ b → (if b then Some (record { taker = OfSwitch node; cell = cell }) else None) ≡ Some a → Wholes to_switch a
      by_channel false own e = absurd (cc e)
      by_channel true own e = subst (Wholes to_switch) (arrived a e) (by_site_there cell cells (site_at now node) refl own queue)

pub frames_are_whole : FramesAreWhole
frames_are_whole policy topology before (Carry (Up node)) a causes counts unlost is =
    by_queue policy topology before node (queue_at (world_at policy topology before) (Up node)) refl a is.comes causes counts unlost is
frames_are_whole policy topology before (Carry (Down node)) a causes counts unlost is =
    by_queue_there policy topology before node (queue_at (world_at policy topology before) (Down node)) refl a is.comes causes counts unlost is
frames_are_whole policy topology before (Carry (Out node port)) a causes counts unlost is = absurd (cc is.comes)
frames_are_whole policy topology before (Inject node octets) a causes counts unlost is = absurd (cc is.comes)
frames_are_whole policy topology before (Lose place) a causes counts unlost is = absurd (cc is.comes)
frames_are_whole policy topology before (Tick node) a causes counts unlost is = absurd (cc is.comes)
frames_are_whole policy topology before (TickSwitch node) a causes counts unlost is = absurd (cc is.comes)
frames_are_whole policy topology before (Restart node) a causes counts unlost is = absurd (cc is.comes)
frames_are_whole policy topology before (RestartSwitch node) a causes counts unlost is = absurd (cc is.comes)
frames_are_whole policy topology before (Forge place channel payload) a causes counts unlost is = absurd (cc is.comes)
frames_are_whole policy topology before (Route node change) a causes counts unlost is = absurd (cc is.comes)
