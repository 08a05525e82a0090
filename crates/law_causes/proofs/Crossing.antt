-- a cell comes to a switch, and goes on or is lost

use Rattle.std.proofs.Common.{◌≡◌, ◌≢◌, ℕ, zero, suc, ◌<◌, ◌≤◌, Bool, true, false, List, [], ◌∷◌, ◌++◌, length, Option, None, Some, refl, sym, ◌∙◌, ap, ap₂, subst, arith, if◌then◌else◌}
use Rattle.std.specs.Prelude.{◌==◌}
use Rattle.std.specs.Option.{option_map, option_and_then}
use Rattle.std.specs.FinMap.{get}
use Rattle.law_cell_lists.specs.world_model.Words.{NodeId, PortNo, Place, Down, End as PortEnd, Cell, Cause, Unconnected, PoolFull, Broken, Loss, noted, Reassembly, Crossbar, route_on, on_channel_of, unfinished_after, switched_on, switched_cell, Topology, IsTopology, World, Site, site_at, with_site, place_node, queue_at, queue_number, on_channel, tallied, put_away, cell_for, arrival, is_broken}
use Rattle.law_cell_lists.specs.world_model.crossbar_model.declared.branch.Branch.{Branch}
use Rattle.law_cell_lists.specs.world_model.crossbar_model.Crossbar.{relayed}
use Rattle.law_cell_lists.specs.world_model.Switch.{ActedSwitch, free_slots}
use Rattle.law_cell_lists.specs.world_model.Conduct.{cell_routed, counted}
use Rattle.law_cell_lists.specs.world_model.network_model.declared.event.Event.{Event}
use Rattle.law_cell_lists.specs.world_model.network_model.declared.link.LinkEnd.{LinkEnd}
use Rattle.law_cell_lists.specs.world_model.Topology.{peer_of}
use Rattle.law_cell_lists.specs.world_model.Stretches.{Reassembler}
use Rattle.law_controller_bindings.proofs.law_controller.world_model.Lists.{length_set}
use Rattle.law_controller_bindings.proofs.law_port_facts.Keyed.{by_eq}
use Rattle.law_cell_lists.proofs.Real.{IsReal, real_over}
use Rattle.law_causes.specs.Feeding.{IsLed, branch_at}
use Rattle.law_causes.proofs.Spots.{Spot, same_spot, yields, home, up, out}
use Rattle.law_causes.proofs.Phase.{GrownBy}
use Rattle.law_causes.proofs.Branching.{grown_none}
use Rattle.law_causes.proofs.Shown.{Inlet, far_inlet, inlet_of, spot_is, out_spot, led, peer_back}
use Rattle.law_causes.proofs.Parts.{shown, shown_apart, parts_of}
use Rattle.law_causes.proofs.Maps.{insert_here, insert_away}
use Rattle.law_causes.proofs.Turning.{stretches}
use Rattle.law_causes.proofs.Switching.{end_by_inlet, world_with, look_here, end_but, sent_here, sent_away}
use Rattle.law_causes.proofs.Following.{Flows, IsKnown, Known, Follows}
use Rattle.law_causes.proofs.Popping.{IsShowing, its_spot, was_first, is_left, others_stay, popped_end}
use Rattle.law_causes.proofs.Losing.{SameTakers, follows_alike, untaken, left_world, popped_takers, popped_led, popped_known, lost_real}
use Rattle.law_causes.proofs.Done.{self_cells, self_end, before_real, done_real, done_controllers, done_switches, done_known}
use Rattle.law_causes.proofs.Premises.{IsOrderly}

module _ (t : Topology) (is : IsTopology t) (w : World) (begun : Reassembler → List Cell) (f : Flows t w begun) (k : Known w) (ordered : IsOrderly w)
    (place : Place) (site : Site) (found : site_at w (place_node place) ≡ Some site) (showing : IsShowing place) (low : queue_number place ≤ 9) (cells : List Cell) (c : Cell) (first : queue_at w place ≡ c ∷ cells)
    (event : Event) (none : (taker : Reassembler) → cell_for taker (arrival w event) ≡ None) where
  abbrev v : World
  v = put_away w

  abbrev own : IsKnown site
  own = k (place_node place) site found

  abbrev pub popped_world : World
  popped_world = left_world t v place site found own showing low cells c first

  abbrev spot : Spot
  spot = its_spot t v place site found own showing low cells c first

  grown_one : (cause : Cause) → is_broken cause ≡ false → GrownBy w.notes.entries (noted v.notes (Loss c.mark cause)).entries
  grown_one cause other = record { more = record { mark = c.mark; cause = cause } ∷ []; is = refl; others = (λ e. clash cause other e, tt) }
    where
      clash : (x : Cause) → is_broken x ≡ false → x ≢ Broken
      clash x isnt e = (let both : true ≡ false = sym (ap is_broken e) ∙ isnt in cc both)

  from_v : SameTakers v popped_world
  from_v = popped_takers t v place site found own showing low cells c first

  -- *It is lost*
  pub lost_follows : (cause : Cause) → is_broken cause ≡ false → Follows t w begun event (tallied v (record popped_world { notes = noted v.notes (Loss c.mark cause) }))
  lost_follows cause other =
      let after : World = tallied v (record popped_world { notes = noted v.notes (Loss c.mark cause) }) in
      let takers : SameTakers w after = record { controllers = from_v.controllers; switches = from_v.switches } in
      follows_alike t w after begun event takers (λ taker. untaken w after begun event takers taker (none taker))
      (lost_real t v place site found own showing low cells c first v.notes.entries cause (stretches begun) other f.real) f (grown_one cause other) (popped_known t v place site found own showing low cells c first k)

  -- *It comes to a switch*
  module _ (n : NodeId) (old : Site) (there : site_at popped_world n ≡ Some old) (port : PortNo) (comes : inlet_of t spot ≡ Some (record { node = n; input = record { port = port; channel = c.header.channel } })) where
    abbrev input : PortEnd
    input = record { port = port; channel = c.header.channel }

    abbrev x0 : Crossbar
    x0 = old.switch.crossbar

    abbrev r0 : Reassembly
    r0 = old.switch.reassembly

    abbrev start : ActedSwitch
    start = record { switch = old.switch; notes = v.notes; numbers = v.numbers }

    abbrev pub after_of : ActedSwitch → World
    after_of a = tallied v (record (with_site popped_world (record old { switch = a.switch })) { notes = a.notes; numbers = a.numbers })

    known1 : Known popped_world
    known1 = popped_known t v place site found own showing low cells c first k

    own1 : IsKnown old
    own1 = known1 n old there

    fed1 : (m : NodeId) → IsLed (branch_at popped_world m) (queue_at popped_world (Down m))
    fed1 = popped_led t v place site found own showing low cells c first ordered.fed

    -- what is left of it is as it was, but for the cell
    builds : (a : ActedSwitch) → a.switch.reassembly ≡ r0 → IsReal same_spot yields home a.notes.entries (stretches begun) (shown t (parts_of (world_with t is popped_world n old there a.switch.crossbar a.switch.reassembly)))
        → GrownBy w.notes.entries a.notes.entries → IsKnown (record old { switch = a.switch }) → Follows t w begun event (after_of a)
    builds a gathered real grown known =
        let takers : SameTakers w (after_of a) = record {
          controllers = λ m. done_controllers t is popped_world n old there a.switch m ∙ from_v.controllers m;
          switches = λ m. done_switches t is popped_world n old there a.switch m (λ e. gathered) ∙ from_v.switches m;
        } in
        follows_alike t w (after_of a) begun event takers (λ taker. untaken w (after_of a) begun event takers taker (none taker))
        (done_real t is popped_world n old there a.switch a.notes.entries (stretches begun) real) f grown (done_known t is popped_world n old there a.switch known1 known)

    loses : (cause : Cause) → is_broken cause ≡ false → Follows t w begun event (after_of (record start { notes = noted v.notes (Loss c.mark cause) }))
    loses cause other = builds (record start { notes = noted v.notes (Loss c.mark cause) }) refl
        (before_real t is popped_world n old there (noted v.notes (Loss c.mark cause)).entries (stretches begun) (lost_real t v place site found own showing low cells c first v.notes.entries cause (stretches begun) other f.real))
        (grown_one cause other) (record { controller = own1.controller; switch = own1.switch; ports = own1.ports; queues = own1.queues })

    look_old : (b : Option Branch) → get x0.branches input ≡ b → branch_at popped_world n input ≡ b
    look_old b e = ap (λ (o : Option Site). option_and_then (λ (y : Site). get y.switch.crossbar.branches input) o) there ∙ e

    module _ (b : Branch) (has : get x0.branches input ≡ Some b) where
      abbrev y : Crossbar
      y = relayed x0 input b c

      abbrev to : Spot
      to = out_spot n b.output

      abbrev goes_cell : Cell
      goes_cell = on_channel_of c b.output

      -- no list leads to itself
      not_itself : spot ≢ to
      not_itself e = by (b.output.port.0 == 0) refl (ap (inlet_of t) (sym e) ∙ comes)
        where
          by_peer : (p : PortNo) (o : Option LinkEnd) → peer_of t n p ≡ o → option_map (far_inlet b.output.channel) o ≡ Some (record { node = n; input = input }) → ⊥
          by_peer p None is_peer h = cc h
          by_peer p (Some far) is_peer h =
              let at : far_inlet b.output.channel far ≡ record { node = n; input = input } = cc in
              (peer_back t is (record { node = n; port = p }) far is_peer).apart (ap (λ (i : Inlet). i.node.0) at)

          by : (z : Bool) → (b.output.port.0 == 0) ≡ z → inlet_of t (if z then up n b.output.channel else out n b.output.port b.output.channel) ≡ Some (record { node = n; input = input }) → ⊥
          by true z h = cc h
          by false z h = by_peer b.output.port (peer_of t n b.output.port) refl h

      output_low : b.output.port.0 < length x0.queues
      output_low = by_eq input.port.0 0
          (λ z u. (let d = (fed1 n).down input b (look_old (Some b) has) z in omega (arith, d.1.0, own1.queues)))
          (λ some u. by_eq b.output.port.0 0 (λ z x. omega (arith, z, own1.queues)) (λ far x. (let d = (fed1 n).across input b (look_old (Some b) has) some far in omega (arith, d.0, own1.queues))))

      not_inlet : (s : Spot) → spot ≢ s → inlet_of t s ≢ Some (record { node = n; input = input })
      not_inlet s d e = (let both : Some s ≡ Some spot = sym (spot_is t is s (record { node = n; input = input }) e) ∙ spot_is t is spot (record { node = n; input = input }) comes in let at : s ≡ spot = cc in d (sym at))

      end_away : (s : Spot) → spot ≢ s → (shown t (parts_of (world_with t is popped_world n old there y r0)) s).end ≡ (shown t (parts_of v) s).end
      end_away s d = end_but t is popped_world n old there x0 y r0 input s (λ q a. insert_away x0.branches input q (record b { unfinished = unfinished_after c }) a) (not_inlet s d)
          ∙ self_end t is popped_world n old there s ∙ popped_end t v place site found own showing low cells s

      goes_real : IsReal same_spot yields home v.notes.entries (stretches begun) (shown t (parts_of (world_with t is popped_world n old there y r0)))
      goes_real = real_over same_spot yields home v.notes.entries (stretches begun) (shown t (parts_of v)) (shown t (parts_of (world_with t is popped_world n old there y r0)))
          spot to b.unfinished c goes_cell (on_channel c.header.channel cells) f.real (shown_apart t is (parts_of v) ordered.fed)
          (sym (popped_end t v place site found own showing low cells spot) ∙ end_by_inlet t popped_world spot (record { node = n; input = input }) comes ∙ ap (led n) (look_old (Some b) has))
          (was_first t v place site found own showing low cells c first) refl not_itself
          (sent_away t is popped_world n old there x0 y r0 b.output.port b.output.channel (goes_cell ∷ []) (refl, tt) refl output_low spot (λ e. not_itself (sym e))
          ∙ self_cells t is popped_world n old there spot ∙ is_left t v place site found own showing low cells c first)
          (end_by_inlet t (world_with t is popped_world n old there y r0) spot (record { node = n; input = input }) comes
          ∙ ap (led n) (look_here t is popped_world n old there y r0 input ∙ insert_here x0.branches input (record b { unfinished = unfinished_after c })))
          (sent_here t is popped_world n old there x0 y r0 b.output.port b.output.channel (goes_cell ∷ []) (refl, tt) refl output_low
          ∙ ap (λ l. l ++ goes_cell ∷ []) (self_cells t is popped_world n old there to ∙ others_stay t v place site found own showing low cells c first to not_itself))
          (end_away to not_itself)
          (λ j d e. (
            sent_away t is popped_world n old there x0 y r0 b.output.port b.output.channel (goes_cell ∷ []) (refl, tt) refl output_low j e
                ∙ self_cells t is popped_world n old there j ∙ others_stay t v place site found own showing low cells c first j d,
            end_away j d,
          ))

      goes : (count : ℕ) → Follows t w begun event (after_of (record start { switch = record old.switch { crossbar = relayed x0 input b c; switched = count } }))
      goes count = builds (record start { switch = record old.switch { crossbar = y; switched = count } }) refl goes_real (grown_none w.notes.entries)
          (record { controller = own1.controller; switch = own1.switch; ports = own1.ports; queues = length_set x0.queues b.output.port.0 _ ∙ own1.queues })

    pub crosses : Follows t w begun event (after_of (switched_cell start port c))
    crosses = by_branch (get x0.branches input) refl (free_slots old.switch) refl
      where
        by_branch : (o : Option Branch) → get x0.branches input ≡ o → (free : ℕ) → free_slots old.switch ≡ free → Follows t w begun event (after_of (switched_cell start port c))
        by_branch None has free is_free = subst (λ (a : ActedSwitch). Follows t w begun event (after_of a)) (sym (ap (λ (o : Option Branch). cell_routed start port c (route_on o (free_slots old.switch))) has)) (loses Unconnected refl)
        by_branch (Some b) has zero is_free = subst (λ (a : ActedSwitch). Follows t w begun event (after_of a))
            (sym (ap₂ (λ (o : Option Branch) (q : ℕ). cell_routed start port c (route_on o q)) has is_free)) (loses PoolFull refl)
        by_branch (Some b) has (suc q) is_free = subst (λ (a : ActedSwitch). Follows t w begun event (after_of a))
            (sym (ap₂ (λ (o : Option Branch) (q : ℕ). cell_routed start port c (route_on o q)) has is_free
            ∙ ap₂ (λ (o : Option Branch) (q : ℕ). record start { switch = record old.switch { crossbar = switched_on x0 input o q c; switched = counted port b.output.port old.switch.switched } }) has is_free))
            (goes b has (counted port b.output.port old.switch.switched))
