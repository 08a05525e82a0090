-- a cell comes to a switch of a network, or it ticks or restarts

use Rattle.std.proofs.Common.{◌≡◌, ℕ, zero, suc, ◌<◌, Bool, true, false, List, [], ◌∷◌, ◌++◌, length, cond, Option, None, Some, refl, sym, ◌∙◌, ap, subst, arith, slice_index_or, slice_set, if◌then◌else◌}
use Rattle.std.specs.Prelude.{◌==◌, ◌&&◌, ◌/◌}
use Rattle.std.specs.Option.{option_map}
use Rattle.std.specs.FinMap.{get}
use Rattle.std.proofs.lemmas.Bool.Decides.{nat_tests}
use Rattle.law_arrival_views.specs.world_model.Words.{NodeId, PortNo, Place, Down, Up, Out, End, Cell, Loss, Cause, PoolFull, Unconnected, noted, Crossbar, queue_of, on_channel_of, route_on, switched_on, switched, control_port, switched_cell, gsmp_cell, is_gsmp, tick_comes, restarted, IsTopology, World, Site, site_at, with_site, place_node, queue_in, queue_at, queue_number, Past}
use Rattle.law_arrival_views.specs.world_model.crossbar_model.declared.branch.Branch.{Branch}
use Rattle.law_arrival_views.specs.world_model.crossbar_model.declared.routed.Routed.TheVariants as routes
use Rattle.law_arrival_views.specs.world_model.crossbar_model.Crossbar.{input_of}
use Rattle.law_arrival_views.specs.world_model.Switch.{ActedSwitch, free_slots}
use Rattle.law_arrival_views.specs.world_model.Conduct.{cell_routed, cell_comes}
use Rattle.law_arrival_views.specs.world_model.Topology.{peer_of}
use Rattle.law_run_facts.specs.law_world_views.Marks.{heading_at, Means}
use Rattle.law_packet_worlds.proofs.Meant.{in_frames, IsProper}
use Rattle.law_packet_worlds.proofs.Good.{Turn, Now, IsGood, nothing, some_accepted}
use Rattle.law_packet_worlds.proofs.Frames.{in_hand}
use Rattle.law_packet_worlds.proofs.Quietly.{BindsNone, push_none}
use Rattle.law_way_words.proofs.Switching.{Kept, gsmp_kept, tick_kept, restarted_kept}
use Rattle.law_packet_worlds.proofs.Switches.{gone_hand, good_out, good_lost, Crosses, set_same, crosses_kept}
use Rattle.law_packet_worlds.proofs.Worlds.{IsNet, low, no_peer, to_turn}
use Rattle.law_packet_worlds.proofs.Turns.{arrives_as, LeadsOn, IsKnown, Good, turn, in_site, switch_world, switch_still}

queue_out : (site : Site) (place : Place) (port : PortNo) → queue_number place ≡ suc port.0 → queue_in site place ≡ queue_of site.switch.crossbar port
queue_out site (Down n) port e = absurd (omega (arith, e))
queue_out site (Up n) port e = (let z : 0 ≡ port.0 = omega (arith, e) in ap (λ (i : ℕ). slice_index_or site.switch.crossbar.queues i []) z)
queue_out site (Out n p) port e = (let z : p.0 ≡ port.0 = omega (arith, e) in ap (λ (i : ℕ). slice_index_or site.switch.crossbar.queues i []) z)

-- the world with a switch put back
abbrev pub switch_back : World → Site → ActedSwitch → World
switch_back w site a = record (with_site w (record site { switch = a.switch })) { notes = a.notes; numbers = a.numbers }

abbrev pub at_work : World → Site → ActedSwitch
at_work w site = record { switch = site.switch; notes = w.notes; numbers = w.numbers }

module _ (base : Past) (topology_is : IsTopology base.topology) (time : ℕ) (timed : length base.events ≡ suc time) (w : World) (net : IsNet base.topology w) (node : NodeId) (site : Site)
    (found : site_at w node ≡ Some site) (known : IsKnown base time node site) (none : BindsNone w.notes.records) where
  pub record Crossed (a : ActedSwitch) : Type 0 where
    pub good : Good base topology_is time timed nothing (switch_back w site a)
    pub binds : BindsNone a.notes.records

  abbrev T : Place → Turn
  T place = turn base topology_is time timed w net place

  -- *A cell goes by a branch*, or is lost
  module _ (port : PortNo) (cell : Cell) (good : Good base topology_is time timed (in_hand cell) w)
      (m : Means (in_frames base w.notes.frames) (arrives_as base.topology node (input_of port cell)) cell.header.last cell.mark)
      (proper : IsProper base.topology (arrives_as base.topology node (input_of port cell))) where
    lost : (cause : Cause) → IsGood (T (Down node)) nothing (record { cells = queue_at w (Down node); notes = noted w.notes (Loss cell.mark cause); controls = w.numbers.controls })
    lost cause = good_lost (T (Down node)) (record { cells = queue_at w (Down node); notes = w.notes; controls = w.numbers.controls }) cell cause
        (to_turn base topology_is time timed w net (in_hand cell) (Down node) known.number good)

    lost_one : (cause : Cause) → Crossed (record (at_work w site) { notes = noted w.notes (Loss cell.mark cause) })
    lost_one cause = record {
      good = switch_still base topology_is time timed w net nothing node site (record (at_work w site) { notes = noted w.notes (Loss cell.mark cause) }) known.number found refl (lost cause);
      binds = push_none w.notes.records (Loss cell.mark cause) refl none;
    }

    goes : (b : Branch) (n : ℕ) → get site.switch.crossbar.branches (input_of port cell) ≡ Some b → free_slots site.switch ≡ suc n
        → Crossed (cell_routed (at_work w site) port cell (routes.Out b.output))
    goes b n is free =
        let x : Crossbar = site.switch.crossbar in
        let input : End = input_of port cell in
        let out : LeadsOn base node input b.output = known.leads input b.output (ap (option_map (λ (z : Branch). z.output)) is) in
        let t : Turn = T out.place in
        let there : site_at w (place_node out.place) ≡ Some site = subst (λ (k : ℕ). site_at w (record { 0 = k }) ≡ Some site) (sym out.of_node) found in
        let queue : queue_at w out.place ≡ queue_of x b.output.port = in_site w out.place site there ∙ queue_out site out.place b.output.port out.of_port in
        let before : Now = record { cells = queue_at w out.place; notes = w.notes; controls = w.numbers.controls } in
        let after : IsGood t nothing (record before { cells = queue_at w out.place ++ on_channel_of cell b.output ∷ [] }) =
        good_out t before cell b.output (out.means w.notes.frames cell.header.last cell.mark m) (out.proper proper) (to_turn base topology_is time timed w net (in_hand cell) out.place out.is_place good) in
        let queues : (switched x (free_slots site.switch) port cell).queues ≡ slice_set x.queues b.output.port.0 (queue_of x b.output.port ++ on_channel_of cell b.output ∷ []) =
        (λ i. (switched_on x input (is i) (free i) cell).queues) in
        record {
          good = switch_world base topology_is time timed w net nothing node site (cell_routed (at_work w site) port cell (routes.Out b.output)) out.place b.output.port.0
              (queue_of x b.output.port ++ on_channel_of cell b.output ∷ []) out.is_place out.of_node out.of_port found queues
              (omega (arith, known.queues, low base.topology topology_is out.place out.is_place, out.of_port))
              (subst (λ (cs : List Cell). IsGood t nothing (record before { cells = cs ++ on_channel_of cell b.output ∷ [] })) queue after);
          binds = none;
        }

    pub switched_leaves : Crossed (switched_cell (at_work w site) port cell)
    switched_leaves = by (get site.switch.crossbar.branches (input_of port cell)) (free_slots site.switch) refl refl
      where
        by : (o : Option Branch) (free : ℕ) → get site.switch.crossbar.branches (input_of port cell) ≡ o → free_slots site.switch ≡ free → Crossed (cell_routed (at_work w site) port cell (route_on o free))
        by None free is few = lost_one Unconnected
        by (Some b) zero is few = lost_one PoolFull
        by (Some b) (suc n) is few = goes b n is few

  -- *The switch itself* takes a cell, ticks or restarts
  own_leaves : (act : ActedSwitch → ActedSwitch) → ((P : ActedSwitch → Type 0) → Kept P → P (at_work w site) → P (act (at_work w site))) → Good base topology_is time timed nothing w → Crossed (act (at_work w site))
  own_leaves act keeps good =
      let t : Turn = T (Up node) in
      let first : List (List Cell) = site.switch.crossbar.queues in
      let queue : queue_at w (Up node) ≡ queue_of site.switch.crossbar control_port = in_site w (Up node) site found in
      let start : Crosses t first (at_work w site) = record {
        good = subst (λ (cs : List Cell). IsGood t nothing (record { cells = cs; notes = w.notes; controls = w.numbers.controls })) queue (to_turn base topology_is time timed w net nothing (Up node) known.number good);
        queues = known.queues;
        only = set_same first;
        none = none;
      } in
      let done : Crosses t first (act (at_work w site)) = keeps (Crosses t first) (crosses_kept t node refl first) start in
      record {
        good = switch_world base topology_is time timed w net nothing node site (act (at_work w site)) (Up node) 0 (queue_of (act (at_work w site)).switch.crossbar control_port) known.number refl refl found
            done.only (omega (arith, known.queues)) done.good;
        binds = done.none;
      }

  pub tick_leaves : Good base topology_is time timed nothing w → Crossed (tick_comes (at_work w site))
  tick_leaves good = own_leaves tick_comes (λ P k h. tick_kept P k (at_work w site) h) good

  pub restart_leaves : Good base topology_is time timed nothing w → Crossed (restarted (at_work w site))
  restart_leaves good = own_leaves restarted (λ P k h. restarted_kept P k (at_work w site) h) good

  -- *A cell comes* on a port
  pub comes_leaves : (port : PortNo) (cell : Cell) → Good base topology_is time timed (in_hand cell) w
      → Means (in_frames base w.notes.frames) (arrives_as base.topology node (input_of port cell)) cell.header.last cell.mark
      → IsProper base.topology (arrives_as base.topology node (input_of port cell)) → Crossed (cell_comes (at_work w site) port cell)
  comes_leaves port cell good m proper = by (is_gsmp port cell.header.channel) refl
    where
      and_parts : (a b : Bool) → a && b ≡ true → (a ≡ true) × (b ≡ true)
      and_parts true true e = (refl, refl)
      and_parts true false e = absurd (cc e)
      and_parts false b e = absurd (cc e)

      nowhere : is_gsmp port cell.header.channel ≡ true → (arrives_as base.topology node (input_of port cell)).end ≡ None
      nowhere e =
          let one = and_parts (port.0 == 0) ((cell.header.channel.vpi == 0) && (cell.header.channel.vci == 15)) e in
          let two = and_parts (cell.header.channel.vpi == 0) (cell.header.channel.vci == 15) one.1 in
          let path : cell.header.channel.vpi ≡ 0 = (let f = two.0 in grind (arith, nat_tests, f)) in
          let zero_port : cell.header.channel.vpi / 16 ≡ 0 = omega (arith, path) in
          let first : (arrives_as base.topology node (input_of port cell)).end ≡ peer_of base.topology node (record { 0 = cell.header.channel.vpi / 16 }) =
          ap (λ (b : Bool). (cond b (heading_at base.topology (Down node) cell.header.channel) (record { end = Some (record { node = node; port = port }); channel = cell.header.channel })).end) one.0 in
          first ∙ (ap (λ (n : ℕ). peer_of base.topology node (record { 0 = n })) zero_port ∙ no_peer base.topology topology_is node)

      idle : is_gsmp port cell.header.channel ≡ true → Good base topology_is time timed nothing w
      idle e = record {
        meant = good.meant;
        unmade = good.unmade;
        unused = good.unused;
        truths = good.truths;
        once = λ k some. omega (arith, good.once k some, gone e k some);
        later = λ k above. omega (arith, good.later k above, gone e k (omega (arith, above)));
        kept = λ k was free. omega (arith, good.kept k was free, gone e k (some_accepted base k was));
      }
        where
          gone : is_gsmp port cell.header.channel ≡ true → (k : ℕ) → 0 < k → in_hand cell k ≡ nothing k
          gone e = gone_hand (in_frames base w.notes.frames) (arrives_as base.topology node (input_of port cell)) cell (nowhere e) m

      by : (b : Bool) → is_gsmp port cell.header.channel ≡ b → Crossed (if b then gsmp_cell (at_work w site) cell else switched_cell (at_work w site) port cell)
      by true e = own_leaves (λ a. gsmp_cell a cell) (λ P k h. gsmp_kept P k (at_work w site) cell h) (idle e)
      by false e = switched_leaves port cell good m proper
