-- each carry that finds a cell makes a world lighter, and no carry makes it heavier

use Rattle.std.proofs.Common.{◌≡◌, ◌≢◌, ℕ, zero, suc, ◌≤◌, ◌<◌, ◌+◌, Bool, true, false, List, [], ◌∷◌, ◌++◌, length, Option, None, Some, refl, sym, ◌∙◌, ap, subst, arith, if◌then◌else◌}
use Rattle.std.specs.Prelude.{◌==◌, ◌&&◌, nat_lt, Contains, is_some, slice_index_or}
use Rattle.std.specs.Option.{option_map_or}
use Rattle.std.proofs.lemmas.Bool.Decides.{nat_tests}
use Rattle.world_model.specs.Words.{NodeId, PortNo, Place, Down, Up, Out, Channel, End, Mark, GivenOut, Cell, on_channel_of, Frame, payload_of, Journal, payload_in, last_mark, Policy, at, control_port, is_gsmp, Linked, port_key, linked_at, default_channel, same_channel, on_link, port_on, Topology, is_linked, IsTopology, IsPlace, IsNode, World, Site, site_key, site_at, controller_acts, switch_acts, place_node, queue_in, queue_at, with_queue_in, with_queue_of, with_queue, put_away, arrives_at, arrives, carries_head, Past, past_of, frames_of, last_bound}
use Rattle.world_model.specs.crossbar_model.Crossbar.{output_of, input_of}
use Rattle.world_model.specs.frame_model.Frame.{octets_of}
use Rattle.world_model.specs.frame_model.Reassembly.{taken}
use Rattle.law_running_worlds.proofs.law_port_facts.Keyed.{at_key, at_put_other}
use Rattle.world_model.specs.network_model.declared.event.Event.{Event}
use Rattle.world_model.specs.network_model.declared.event.Event.TheVariants.{Carry}
use Rattle.world_model.specs.network_model.declared.link.LinkEnd.{LinkEnd}
use Rattle.world_model.specs.Switch as switches
use Rattle.world_model.specs.Conduct as switch
use Rattle.world_model.specs.Controller as controllers
use Rattle.world_model.specs.Cells as controller
use Rattle.world_model.specs.Topology.{peer_of}
use Rattle.world_model.specs.World.{at_switch}
use Rattle.law_running_worlds.specs.law_run_facts.Nodes.{HasSite}
use Rattle.world_model.specs.Step.{acts}
use Rattle.law_running_worlds.proofs.law_actor_pace.Controllers.{cell_follows}
use Rattle.law_running_worlds.specs.law_shown_cells.Seen.{Extends, IsUnmade}
use Rattle.law_running_worlds.proofs.law_shown_cells.Made.{extends_self}
use Rattle.law_running_worlds.proofs.law_shown_cells.Tested.{frame_is, last_is}
use Rattle.law_running_worlds.specs.law_world_views.Between.{IsWorld}
use Rattle.law_running_worlds.specs.law_world_views.Kept.{Comes, behind, BindsUnusedAt}
use Rattle.law_ownership.specs.Places.{HasPlaces}
use Rattle.law_running_worlds.proofs.law_causes.Shown.{IsPeer, peer_back}
use Rattle.law_running_worlds.specs.Running.{ChainsAreTrue}
use Rattle.law_running_worlds.specs.law_world_views.Between.{setups_of}
use Rattle.law_quiet_rounds.proofs.law_packet_worlds.Worlds.{port_above}
use Rattle.law_running_worlds.proofs.MadeTame.{whole_chain}
use Rattle.law_quiet_rounds.specs.law_packet_worlds.Channels.{HasChannels}
use Rattle.law_quiet_rounds.proofs.law_packet_worlds.Behind.{IsUser, cell_uses}
use Rattle.law_quiet_rounds.proofs.law_packet_worlds.Headings.{own_there}
use Rattle.law_controller_weights.specs.claims_model.Costs.{total_weight}
use Rattle.law_controller_weights.specs.claims_model.Weights.{Bearing, ToSwitch, Bound, bearing_on, bearing_of, cell_weight, port_place, site_weight, weight}
use Rattle.law_controller_weights.specs.claims_model.Quiet.{WeighsLess}
use Rattle.law_controller_weights.specs.Coming.{coming_cost}
use Rattle.law_controller_weights.proofs.Paid as controllers_paid
use Rattle.law_quiet_rounds.specs.law_switch_weights.Coming.{asking_weight, Pays}
use Rattle.law_quiet_rounds.proofs.law_switch_weights.Paid as switches_paid
use Rattle.law_quiet_links.proofs.Reweighed.{cell_less, nobody_less}
use Rattle.law_quiet_rounds.proofs.Sites.{one_found, AreLighter, world_less, switch_weight, controller_acts_weight, Popped, popped}
use Rattle.law_quiet_links.proofs.Facts as facts
use Rattle.law_quiet_links.proofs.Crossing.{bears}
use Rattle.law_quiet_links.proofs.Pays.{down_leads, link_leads}
use Rattle.law_quiet_links.proofs.Coming.{fine, brings}

module _ (policy : Policy) (topology : Topology) (before : List Event) (place : Place) (comes : Comes policy topology before (Carry place)) (is : IsWorld (past_of policy topology before))
    (places_are : HasPlaces (past_of policy topology before)) (channels : HasChannels (past_of policy topology before)) (unused : BindsUnusedAt policy topology before (Carry place)) where
  abbrev P : Past
  P = past_of policy topology before

  abbrev N : Past
  N = behind policy topology before (Carry place)

  abbrev w : World
  w = put_away (past_of policy topology before).now

  abbrev final : List Frame
  final = frames_of (behind policy topology before (Carry place))

  abbrev bound : Bound
  bound = last_bound (behind policy topology before (Carry place)).records

  abbrev f : Place → Cell → ℕ
  f = cell_weight topology final bound

  topology_is : IsTopology topology
  topology_is = facts.topology_is policy topology before (Carry place) comes is

  kept : (far : LinkEnd) (label : ℕ) → IsUser topology P.now far label → bound far label ≡ last_bound P.records far label
  kept = facts.kept policy topology before (Carry place) comes is unused

  short : (mark : Mark) (payload : List ℕ) → payload_of final mark ≡ Some payload → length payload ≤ 1528
  short = facts.short policy topology before (Carry place) comes is

  -- *Before the carry* each cell weighs no more by what it leaves
  less_at : (at : Place) → IsPlace topology at → (cell : Cell) → Contains (queue_at P.now at) cell → f at cell ≤ cell_weight topology (frames_of P) (last_bound P.records) at cell
  less_at = cell_less topology topology_is P refl final bound (facts.extends policy topology before (Carry place) comes is) is.meanings places_are channels kept

  port_less : (node : NodeId) → IsNode topology node → (port : ℕ) (cell : Cell) → (o : Option LinkEnd) → peer_of topology node (record { 0 = suc port }) ≡ o
      → Contains (queue_at P.now (Out node (record { 0 = suc port }))) cell
      → f (Out node (record { 0 = suc port })) cell ≤ cell_weight topology (frames_of P) (last_bound P.records) (Out node (record { 0 = suc port })) cell
  port_less node number port cell None none there = nobody_less topology topology_is P refl final bound (facts.extends policy topology before (Carry place) comes is) is.meanings places_are channels kept node (record { 0 = suc port }) none cell
  port_less node number port cell (Some far) led there = less_at (Out node (record { 0 = suc port })) (number, ap is_some led) cell there

  reweighed : total_weight (site_weight f) P.now.sites ≤ weight P
  reweighed = world_less f (cell_weight topology (frames_of P) (last_bound P.records)) P.now (facts.net policy topology before (Carry place) comes is).shaped (λ site there. lighter site there)
    where
      in_queue : (at : Place) (site : Site) → site_at P.now (place_node at) ≡ Some site → queue_at P.now at ≡ queue_in site at
      in_queue at site there = ap (λ (o : Option Site). option_map_or (λ (s : Site). queue_in s at) o []) there

      lighter : (site : Site) → site_at P.now site.controller.node ≡ Some site → AreLighter f (cell_weight topology (frames_of P) (last_bound P.records)) site
      lighter site there = record {
        down = λ cell c. less_at (Down site.controller.node) number cell (subst (λ (cs : List Cell). Contains cs cell) (sym (in_queue (Down site.controller.node) site there)) c);
        ports = ports;
      }
        where
          number : IsNode topology site.controller.node
          number = (facts.nodes policy topology before (Carry place) comes is site.controller.node site there).is_node.number

          ports : (port : ℕ) (cell : Cell) → Contains (slice_index_or site.switch.crossbar.queues port []) cell
              → f (port_place site.controller.node port) cell ≤ cell_weight topology (frames_of P) (last_bound P.records) (port_place site.controller.node port) cell
          ports zero cell c = less_at (Up site.controller.node) number cell (subst (λ (cs : List Cell). Contains cs cell) (sym (in_queue (Up site.controller.node) site there)) c)
          ports (suc port) cell c = subst (λ (p : Place). f p cell ≤ cell_weight topology (frames_of P) (last_bound P.records) p cell) (sym (outer site.controller.node port))
              (port_less site.controller.node number port cell (peer_of topology site.controller.node (record { 0 = suc port })) refl
              (subst (λ (cs : List Cell). Contains cs cell) (sym (in_queue (Out site.controller.node (record { 0 = suc port })) site there)) c))
            where
              outer : (node : NodeId) (port : ℕ) → port_place node (suc port) ≡ Out node (record { 0 = suc port })
              outer node port = ap (λ (b : Bool). if b then Up node else Out node (record { 0 = suc port })) (apart port)
                where
                  apart : (k : ℕ) → (suc k == 0) ≡ false
                  apart k = grind (arith, nat_tests)

  -- *The carry*
  weight_left : weight N ≡ total_weight (site_weight f) (acts topology w (Carry place)).sites
  weight_left = ap (λ (x : World). total_weight (site_weight f) x.sites) (facts.step policy topology before (Carry place) comes is).now

  frames_left : final ≡ (acts topology w (Carry place)).notes.frames
  frames_left = ap (λ (x : World). x.notes.frames) (facts.step policy topology before (Carry place) comes is).now

  abbrev Site_of : NodeId → Type 0
  Site_of node = HasSite P.now node

  site_of : (node : NodeId) → IsNode topology node → Site_of node
  site_of = facts.there policy topology before (Carry place) comes is

  own_node : (node : NodeId) (site : Site) → site_at P.now node ≡ Some site → site.controller.node ≡ node
  own_node node site there = (facts.nodes policy topology before (Carry place) comes is node site there).is_node.own

  -- a switch acts in the world that the cell has left
  switch_step : (w1 : World) (node : NodeId) (site1 : Site) (port : PortNo) (cell : Cell) (count : ℕ) → site_at w1 node ≡ Some site1 → w1.notes ≡ w.notes → w1.numbers ≡ w.numbers
      → final ≡ (at_switch w1 node (λ a. switch.cell_comes a port cell)).notes.frames
      → ((notes : Journal) → notes ≡ w.notes → (numbers : GivenOut) → Pays topology site1.controller.node final bound (record { switch = site1.switch; notes = notes; numbers = numbers }) port cell count)
      → total_weight (site_weight f) (at_switch w1 node (λ a. switch.cell_comes a port cell)).sites ≤ total_weight (site_weight f) w1.sites + count
  switch_step w1 node site1 port cell count there notes numbers left pays =
      let a : switches.ActedSwitch = record { switch = site1.switch; notes = w1.notes; numbers = w1.numbers } in
      let ends : final ≡ (switch.cell_comes a port cell).notes.frames = left ∙ ap (λ (o : Option Site). (switch_acts w1 o (λ a. switch.cell_comes a port cell)).notes.frames) there in
      let unmade : IsUnmade w1.numbers.controls w1.notes.frames =
      λ k less. ap (λ (n : Journal). payload_of n.frames (record { packet = 0; frame = k })) notes ∙ is.numbers.unmade k (omega (arith, less, ap (λ (n : GivenOut). n.controls) numbers)) in
      switch_weight f w1 node site1 (λ a. switch.cell_comes a port cell) count there
      (switches_paid.cells_are_paid topology site1.controller.node bound final a port cell count short unmade (pays w1.notes notes w1.numbers)
      (subst (λ (fs : List Frame). Extends (switch.cell_comes a port cell).notes.frames fs) (sym ends) (extends_self (switch.cell_comes a port cell).notes.frames)))

  -- the world that the cell has left has the notes and the numbers
  left_notes : (at : Place) (cells : List Cell) (o : Option Site) → (with_queue_of w at cells o).notes ≡ w.notes
  left_notes at cells None = refl
  left_notes at cells (Some site) = refl

  left_numbers : (at : Place) (cells : List Cell) (o : Option Site) → (with_queue_of w at cells o).numbers ≡ w.numbers
  left_numbers at cells None = refl
  left_numbers at cells (Some site) = refl

  last_cost : (b : Bool) (x : ℕ) → (if b then x else 0) ≤ (if b then x else 0)
  last_cost b x = omega arith

  abbrev Lighter : (at : Place) → (cell : Cell) → (cells : List Cell) → Type 0
  Lighter at cell cells = total_weight (site_weight f) (arrives topology (with_queue w at cells) at cell).sites + 1 ≤ total_weight (site_weight f) w.sites

  -- *To a switch*, from its controller
  down_less : (n : NodeId) → place ≡ Down n → IsNode topology n → (cell : Cell) (cells : List Cell) → queue_at P.now (Down n) ≡ cell ∷ cells
      → final ≡ (arrives topology (with_queue w (Down n) cells) (Down n) cell).notes.frames → Lighter (Down n) cell cells
  down_less n at number cell cells queue left =
      let s = site_of n number in
      let own : s.site.controller.node ≡ n = own_node n s.site s.is in
      let pop : Popped f w (Down n) s.site cell cells = popped f w (Down n) s.site cell cells s.is own (λ m q e. absurd (cc e)) queue in
      let count : ℕ = 2 + bears bound final (bearing_of topology (Down n) cell.header.channel) cell in
      let done = switch_step (with_queue w (Down n) cells) n (with_queue_in s.site (Down n) cells) control_port cell count pop.found (left_notes (Down n) cells (site_at w n)) (left_numbers (Down n) cells (site_at w n)) left
      (λ notes same numbers. record { asks = λ t. (passes s.site s.is notes same t, asking t); leads = λ t output e. leads s.site s.is own t output e }) in
      let popped_weight = pop.weight in omega (arith, done, popped_weight)
    where
      passes : (site : Site) → site_at P.now n ≡ Some site → (notes : Journal) → notes ≡ w.notes → same_channel cell.header.channel default_channel ≡ true → (first : Cell) (rest : List Cell) (payload : List ℕ)
          → (taken notes (nat_lt 0 (switches.free_slots site.switch)) site.switch.reassembly cell).ended ≡ first ∷ rest → payload_in (octets_of (first ∷ rest)) ≡ Some payload → payload_of notes.frames cell.mark ≡ Some payload
      passes site there notes same t first rest payload ended e =
          let whole = whole_chain notes (nat_lt 0 (switches.free_slots site.switch)) site.switch.reassembly cell first rest ended in
          let passed = (facts.chains policy topology before (Carry place) comes is).at_switch n site cell cells (ap Carry at) queue there t whole.is_ended payload (ap (λ (cs : List Cell). payload_in (octets_of cs)) (sym whole.whole) ∙ e) in
          ap (λ (j : Journal). payload_of j.frames cell.mark) same ∙ ap (payload_of (frames_of P)) (sym (last_is site.switch.reassembly.chain cell))
          ∙ frame_is (frames_of P) (last_mark (site.switch.reassembly.chain ++ cell ∷ [])) payload passed

      asking : same_channel cell.header.channel default_channel ≡ true → asking_weight final bound cell ≤ 2 + bears bound final (bearing_of topology (Down n) cell.header.channel) cell
      asking t = (let b : bearing_of topology (Down n) cell.header.channel ≡ ToSwitch = ap (λ (b : Bool). if b then ToSwitch else bearing_on (on_link cell.header.channel) (peer_of topology n (port_on cell.header.channel))) t in
          let all = ap (λ (x : Bearing). bears bound final x cell) b in omega (arith, all))

      leads : (site : Site) → site_at P.now n ≡ Some site → site.controller.node ≡ n → same_channel cell.header.channel default_channel ≡ false → (output : End) → output_of site.switch.crossbar.branches (input_of control_port cell) ≡ Some output
          → f (port_place site.controller.node output.port.0) (on_channel_of cell output) ≤ 2 + bears bound final (bearing_of topology (Down n) cell.header.channel) cell
      leads site there own t output e = subst (λ (m : NodeId). f (port_place m output.port.0) (on_channel_of cell output) ≤ 2 + bears bound final (bearing_of topology (Down n) cell.header.channel) cell) (sym own)
          (down_leads policy P topology_is n site there (facts.nodes policy topology before (Carry place) comes is n site there) is bound final kept cell t output e)

  -- over a link
  out_less : (n : NodeId) (q : PortNo) → IsPlace topology (Out n q) → (cell : Cell) (cells : List Cell) → queue_at P.now (Out n q) ≡ cell ∷ cells
      → (o : Option LinkEnd) → peer_of topology n q ≡ o → final ≡ (arrives_at (with_queue w (Out n q) cells) cell o).notes.frames
      → total_weight (site_weight f) (arrives_at (with_queue w (Out n q) cells) cell o).sites + 1 ≤ total_weight (site_weight f) w.sites
  out_less n q there cell cells queue None none left = (let clash : false ≡ true = sym (ap is_some none) ∙ there.1 in absurd (cc clash))
  out_less n q there cell cells queue (Some far) led left =
      let p : IsPeer topology (record { node = n; port = q }) far = peer_back topology topology_is (record { node = n; port = q }) far led in
      let s = site_of n there.0 in
      let own : s.site.controller.node ≡ n = own_node n s.site s.is in
      let pop : Popped f w (Out n q) s.site cell cells = popped f w (Out n q) s.site cell cells s.is own (λ m r e. (let same : q ≡ r = cc in subst (λ (x : PortNo). 1 ≤ x.0) same p.own.0)) queue in
      let t = site_of far.node p.node in
      let apart : site_key (with_queue_in s.site (Out n q) cells) ≢ far.node.0 = λ e. p.apart (sym e ∙ ap (λ (m : NodeId). m.0) own) in
      let beside : site_at (with_queue w (Out n q) cells) far.node ≡ Some t.site =
      ap (λ (o : Option Site). at site_key far.node.0 (with_queue_of w (Out n q) cells o).sites) s.is ∙ at_put_other site_key (with_queue_in s.site (Out n q) cells) far.node.0 w.sites apart ∙ t.is in
      let count : ℕ = 1 + bears bound final (bearing_of topology (Out n q) cell.header.channel) cell in
      let contained : Contains (queue_at P.now (Out n q)) cell = subst (λ (cs : List Cell). Contains cs cell) (sym queue) (0, omega arith, refl) in
      let done = switch_step (with_queue w (Out n q) cells) far.node t.site far.port cell count beside (left_notes (Out n q) cells (site_at w n)) (left_numbers (Out n q) cells (site_at w n)) left
      (λ notes same numbers. record {
        asks = λ g. absurd (not_gsmp far.port.0 cell.header.channel p.port.0 g);
        leads = λ g output e. subst (λ (m : NodeId). f (port_place m output.port.0) (on_channel_of cell output) ≤ 1 + bears bound final (bearing_of topology (Out n q) cell.header.channel) cell) (sym (own_node far.node t.site t.is))
            (link_leads policy P topology_is far.node t.site t.is (facts.nodes policy topology before (Carry place) comes is far.node t.site t.is) is bound final kept far.port (record { node = n; port = q }) led p.port.0 cell
            (λ other. cell_uses topology topology_is P.now (Out n q) cell there contained far led other (channels (Out n q) cell there contained)) output e);
      }) in
      let popped_weight = pop.weight in omega (arith, done, popped_weight)
    where
      not_gsmp : (k : ℕ) (channel : Channel) → 1 ≤ k → ((k == 0) && ((channel.vpi == 0) && (channel.vci == 15))) ≡ true → ⊥
      not_gsmp k channel some t = grind (arith, nat_tests)

  -- *To a controller*
  up_at : (site : Site) → site_at P.now site.controller.node ≡ Some site → IsNode topology site.controller.node → (cell : Cell) (cells : List Cell) → place ≡ Up site.controller.node
      → queue_at P.now (Up site.controller.node) ≡ cell ∷ cells
      → final ≡ (arrives topology (with_queue w (Up site.controller.node) cells) (Up site.controller.node) cell).notes.frames → Lighter (Up site.controller.node) cell cells
  up_at site there number cell cells at queue left =
      let m : NodeId = site.controller.node in
      let w1 : World = with_queue w (Up m) cells in
      let run = facts.nodes policy topology before (Carry place) comes is m site there in
      let pop : Popped f w (Up m) site cell cells = popped f w (Up m) site cell cells there refl (λ k r e. absurd (cc e)) queue in
      let notes : w1.notes ≡ w.notes = left_notes (Up m) cells (site_at w m) in
      let numbers : w1.numbers ≡ w.numbers = left_numbers (Up m) cells (site_at w m) in
      let frames : w1.notes.frames ≡ frames_of P = ap (λ (j : Journal). j.frames) notes in
      let a : controllers.Acted = record { controller = site.controller; notes = w1.notes; numbers = w1.numbers } in
      let ends : final ≡ (controller.cell_comes a cell).notes.frames = left ∙ ap (λ (o : Option Site). (controller_acts w1 o (λ b. controller.cell_comes b cell)).notes.frames) pop.found in
      let contained : Contains (queue_at P.now (Up m)) cell = subst (λ (cs : List Cell). Contains cs cell) (sym queue) (0, omega arith, refl) in
      let law = controllers_paid.cells_are_paid topology m bound final (setups_of site.controller) a cell short run.conduct.sound
      (fine policy P topology_is m site there run is bound kept w1.notes w1.numbers frames (ap (λ (g : GivenOut). g.controls) numbers))
      (brings policy P topology_is m site there run is bound kept (subst (λ (x : Place). ChainsAreTrue P.now (Carry x)) at (facts.chains policy topology before (Carry place) comes is)) cell cells queue
      (is.meanings (Up m) cell number contained)
      (λ far led other. cell_uses topology topology_is P.now (Up m) cell number contained far led other (channels (Up m) cell number contained))
      (λ linked found_one. own_there m (port_on cell.header.channel) (above (port_on cell.header.channel) (run.ports.linked (port_on cell.header.channel) linked found_one))
      ∙ ap (λ (k : ℕ). Some (let e : LinkEnd = record { node = m; port = record { 0 = k } } in e)) (sym (at_key port_key (port_on cell.header.channel).0 site.controller.ports linked found_one)))
      w1.notes w1.numbers frames)
      (subst (λ (fs : List Frame). Extends (controller.cell_comes a cell).notes.frames fs) (sym ends) (extends_self (controller.cell_comes a cell).notes.frames)) in
      let done = controller_acts_weight f w1 m (with_queue_in site (Up m) cells) (λ b. controller.cell_comes b cell) (coming_cost topology m bound final cell) pop.found (cell_follows (cell.mark.frame + 1) a cell (omega arith)).node law in
      let popped_weight = pop.weight in omega (arith, done, popped_weight)
    where
      above : (port : PortNo) → is_linked topology site.controller.node port ≡ true → 0 < port.0
      above port linked = (let a = port_above topology topology_is site.controller.node port linked in omega (arith, a.0))

  up_less : (n : NodeId) → place ≡ Up n → IsNode topology n → (cell : Cell) (cells : List Cell) → queue_at P.now (Up n) ≡ cell ∷ cells
      → final ≡ (arrives topology (with_queue w (Up n) cells) (Up n) cell).notes.frames → Lighter (Up n) cell cells
  up_less n at number cell cells queue left =
      let s = site_of n number in
      let own : s.site.controller.node ≡ n = own_node n s.site s.is in
      subst (λ (m : NodeId). IsNode topology m → place ≡ Up m → queue_at P.now (Up m) ≡ cell ∷ cells → final ≡ (arrives topology (with_queue w (Up m) cells) (Up m) cell).notes.frames → Lighter (Up m) cell cells) own
      (λ k at_m queue_m left_m. up_at s.site (subst (λ (m : NodeId). site_at P.now m ≡ Some s.site) (sym own) s.is) k cell cells at_m queue_m left_m) number at queue left

  -- *Any of them*
  carried : (spot : Place) → place ≡ spot → IsPlace topology spot → (cells : List Cell) → queue_at P.now spot ≡ cells → final ≡ (carries_head topology w spot cells).notes.frames
      → total_weight (site_weight f) (carries_head topology w spot cells).sites + (if length cells == 0 then 0 else 1) ≤ total_weight (site_weight f) w.sites
  carried spot same there [] queue left = omega arith
  carried (Down n) same there (cell ∷ cells) queue left = (let h = down_less n same there cell cells queue left in omega (arith, h, one_found cell cells))
  carried (Up n) same there (cell ∷ cells) queue left = (let h = up_less n same there cell cells queue left in omega (arith, h, one_found cell cells))
  carried (Out n q) same there (cell ∷ cells) queue left = (let h = out_less n q there cell cells queue (peer_of topology n q) refl left in omega (arith, h, one_found cell cells))

  pub weighs_less : WeighsLess policy topology before place
  weighs_less = (let all = carried place refl (facts.front policy topology before (Carry place) comes is).can.meant (queue_at P.now place) refl frames_left in
      omega (arith, all, weight_left, reweighed))
