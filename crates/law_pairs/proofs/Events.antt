-- each event makes no pair, but those of the joins that a tick enters

use Rattle.std.proofs.Common.{◌≡◌, ◌≢◌, ℕ, ◌+◌, ◌<◌, ◌≤◌, Bool, true, false, List, [], ◌∷◌, ◌++◌, Option, None, Some, refl, sym, ◌∙◌, ap, subst, arith, Contains, ◌⊎◌, inl, inr}
use Rattle.std.specs.Prelude.{◌==◌, ◌&&◌, flat_map}
use Rattle.std.specs.Option.{option_and_then}
use Rattle.std.proofs.lemmas.Bool.Decides.{nat_tests}
use Rattle.law_causes.specs.world_model.Words.{End, NodeId, Place, Down, Up, Out, Mark, ticked, Cell, Frame, Refusal, at, Standing, control_port, inputs_at, inject_refusal, injected, node_restarts, change_comes, RouteChange, Journal, GivenOut, Topology, World, Site, site_key, site_at, place_node, queue_in, queue_at, with_queue_in, with_queue_of, with_queue, put_away, step, injects_by, arrives_at, carries_head, loses_head, gsmp_of, copy_of, copy_under, requests_chain_at, answers_chain_at, leads}
use Rattle.law_causes.specs.world_model.adjacency_table.declared.message.Answer.TheVariants.{Reset}
use Rattle.law_world_views.proofs.law_port_facts.Keyed.{at_key}
use Rattle.law_causes.specs.world_model.Switch as switches
use Rattle.law_causes.specs.world_model.Conduct as conduct
use Rattle.law_causes.specs.world_model.Controller.{Acted}
use Rattle.law_causes.specs.world_model.Cells as controller_cells
use Rattle.law_causes.specs.world_model.Ticks as controller_ticks
use Rattle.law_world_views.proofs.law_controller_facts.Moves.{HasPorts, Moves}
use Rattle.law_world_views.proofs.law_controller_facts.Performing.{node_restarts_goes}
use Rattle.law_world_views.proofs.law_controller_facts.Joining.{change_comes_goes}
use Rattle.law_world_views.proofs.law_controller_facts.Events.{routes_goes, cell_comes_goes, controller_ticks_goes}
use Rattle.law_causes.specs.world_model.network_model.declared.event.Event.{Event}
use Rattle.law_causes.specs.world_model.network_model.declared.event.Event.TheVariants.{Inject, Carry, Lose, Tick, TickSwitch, Restart, RestartSwitch, Forge, Route}
use Rattle.law_causes.specs.world_model.network_model.declared.link.LinkEnd.{LinkEnd}
use Rattle.law_causes.specs.world_model.Topology.{peer_of}
use Rattle.law_causes.specs.world_model.World.{at_controller, at_switch}
use Rattle.law_causes.specs.world_model.Step.{acts}
use Rattle.law_quiet_controllers.specs.Quiet.{IsQuiet, Enters}
use Rattle.law_quiet_controllers.specs.Law.{IsAtWork, Asks, by_desk, by_cell, before_joins}
use Rattle.law_quiet_controllers.proofs.Beginning.{begins_quiet}
use Rattle.law_quiet_controllers.proofs.Events.{cell_comes_on, injected_on, ticks_on, restarts_on}
use Rattle.law_quiet_controllers.proofs.Joining.{change_comes_on}
use Rattle.law_world_views.specs.Shown.{acting}
use Rattle.law_world_views.specs.Pairs.{Pairs, by_branch, by_desk as pair_desk, by_copy}
use Rattle.law_world_views.specs.Between.{EachSite, setups_of}
use Rattle.law_pairs.specs.Events.{EntersAt, IsAtDesk, CarriesHonestly, IsHonest, EventsMakeNoPairs}
use Rattle.law_pairs.proofs.SitePairs.{first_of, in_left, desk, queue, to_pairs, of_pairs, put_there, gathered_by, waiting_by}
use Rattle.law_world_views.proofs.law_controller_facts.Nodes.{moves_node}
use Rattle.law_pairs.proofs.Branches.{IsLed, cell_led, tick_led, restart_led}
use Rattle.law_pairs.proofs.Acts.{HasMarks, Sited, put_sited, Fits, loses, May, IsGood, controller_sited, controller_here, switch_sited, switch_here, begins_led, queue_sited, marks_less, marks_sited}

same_node : (m n : NodeId) → m.0 ≡ n.0 → m ≡ n
same_node m n e = ap (λ (k : ℕ). record { 0 = k }) e

pub one_more : (n : ℕ) → n + 1 ≢ 0
one_more n e = absurd (omega (arith, e))

-- *A network* w with its records put away
module _ (topology : Topology) (w : World) (event : Event) (desks : EachSite w IsAtDesk)
    (chains : (node : NodeId) (cell : Cell) → Contains (requests_chain_at w node ++ answers_chain_at w node) cell → cell.mark.packet ≡ 0 → cell.mark.frame ≤ w.numbers.controls)
    (waits : (place : Place) (cell : Cell) → Contains (queue_at w place) cell → cell.mark.packet ≡ 0 → cell.mark.frame ≤ w.numbers.controls) where
  abbrev Q : NodeId → End → End → Type 0
  Q node input output = Pairs w node input output ⊎ EntersAt w event node input output

  abbrev Good : World → Type 0
  Good v = Sited (Fits Q v.notes.frames) v.sites

  abbrev Marked : World → Type 0
  Marked v = Sited (HasMarks v.numbers.controls) v.sites

  -- where a site is found
  found_own : (k : ℕ) (site : Site) → at site_key k w.sites ≡ Some site → site_at w site.controller.node ≡ Some site
  found_own k site found = subst (λ (n : ℕ). at site_key n w.sites ≡ Some site) (sym (at_key site_key k w.sites site found)) found

  good : Good w
  good k site found input output above on pair = inl (to_pairs w site.controller.node site (found_own k site found) input output pair)

  marked : Marked w
  marked k site found = record {
    chains = λ cell there. chains site.controller.node cell (in_left cell (requests_chain_at w site.controller.node) (answers_chain_at w site.controller.node)
        (subst (λ (xs : List Cell). Contains xs cell) (sym (ap gathered_by (found_own k site found))) there));
    queues = λ cell there. waits (Down site.controller.node) cell (subst (λ (xs : List Cell). Contains xs cell) (sym (ap (waiting_by (Down site.controller.node)) (found_own k site found))) there);
  }

  -- *A controller* as it begins
  work : (node : NodeId) (site : Site) → site_at w node ≡ Some site → IsAtWork (setups_of site.controller) (acting w site)
  work node site found = (let d : IsAtDesk node site = desks node site found in record {
    ports = d.ports;
    shaped = d.shaped;
    below = d.below;
    room = d.room;
    reads = d.reads;
    reads_none = d.reads_none;
    marks = (marked node.0 site found).queues;
  })

  asks_now : (node : NodeId) (site : Site) → site_at w node ≡ Some site → (input output : End) → 0 < input.port.0 → 0 < output.port.0 → Asks (acting w site) input output → Q site.controller.node input output
  asks_now node site found i o u v (by_desk s k e) = good node.0 site found i o u v (desk s k e)
  asks_now node site found i o u v (by_cell s cell k here copy e) = good node.0 site found i o u v (queue s cell k here copy e)

  abbrev Quiet : Site → Acted → Type 0
  Quiet site b = IsQuiet (setups_of site.controller) (Q site.controller.node) w.numbers.controls w.notes.frames site.controller.queue b

  begins : (node : NodeId) (site : Site) → site_at w node ≡ Some site → Quiet site (acting w site)
  begins node site found = begins_quiet (setups_of site.controller) (acting w site) (work node site found) (Q site.controller.node) (asks_now node site found)

  abbrev Nothing : World → Type 0
  Nothing v = (mark : Mark) → mark.packet ≢ 0 → copy_under v.notes.frames mark ≡ None

  has_ports : (node : NodeId) (site : Site) → site_at w node ≡ Some site → HasPorts (setups_of site.controller) (acting w site)
  has_ports node site found = (let d : IsAtDesk node site = desks node site found in record { ports = d.ports; shaped = d.shaped })

  -- *A controller acts*
  controller_good : (node : NodeId) (act : Acted → Acted) → ((site : Site) → site_at w node ≡ Some site → Moves (setups_of site.controller) (acting w site) (act (acting w site)))
      → ((site : Site) → site_at w node ≡ Some site → Quiet site (acting w site) → Quiet site (act (acting w site))) → Nothing (at_controller w node act) → Good (at_controller w node act)
  controller_good node act moves leads nothing = controller_sited Q w marked good node act (λ site. setups_of site.controller)
      (λ site found. moves_node (setups_of site.controller) site.controller.node (acting w site) (act (acting w site)) (moves site found) refl)
      (λ site found. work node site found) (λ site found. leads site found (begins node site found)) nothing

  -- where a tick enters joins
  entered : (node : NodeId) (site : Site) → site_at w node ≡ Some site → event ≡ Tick node → ((ticked site.controller.adjacency).answer ≡ Reset → ⊥) → (input output : End) → 0 < input.port.0 → 0 < output.port.0
      → Enters input output (before_joins (acting w site)) (flat_map inputs_at (before_joins (acting w site)).controller.ports) → Q site.controller.node input output
  entered node site found is going input output above on enters =
      inr (subst (λ (e : Event). EntersAt w e site.controller.node input output) (sym is)
      (ap (λ (n : NodeId). n.0) (sym (desks node site found).numbered), record { site = site; found = found; enters = record { going = going; enters = enters } }))

  tick_good : (node : NodeId) → event ≡ Tick node → Nothing (at_controller w node controller_ticks.ticks) → Good (at_controller w node controller_ticks.ticks)
  tick_good node is nothing = controller_good node controller_ticks.ticks (λ site found. controller_ticks_goes (setups_of site.controller) (acting w site) (has_ports node site found))
      (λ site found h. ticks_on (setups_of site.controller) (Q site.controller.node) w.numbers.controls w.notes.frames site.controller.queue (desks node site found).reads_none (acting w site) (entered node site found is) h) nothing

  restart_good : (node : NodeId) → Nothing (at_controller w node node_restarts) → Good (at_controller w node node_restarts)
  restart_good node nothing = controller_good node node_restarts (λ site found. node_restarts_goes (setups_of site.controller) (acting w site) (has_ports node site found))
      (λ site found h. restarts_on (setups_of site.controller) (Q site.controller.node) w.numbers.controls w.notes.frames site.controller.queue (desks node site found).reads_none (acting w site) h) nothing

  change_good : (node : NodeId) (change : RouteChange) → Nothing (at_controller w node (λ a. change_comes a change)) → Good (at_controller w node (λ a. change_comes a change))
  change_good node change nothing = controller_good node (λ a. change_comes a change) (λ site found. change_comes_goes (setups_of site.controller) (acting w site) change (has_ports node site found))
      (λ site found h. change_comes_on (setups_of site.controller) (Q site.controller.node) w.numbers.controls w.notes.frames site.controller.queue (acting w site) change h) nothing

  -- a packet enters
  inject_good : (node : NodeId) (octets : List ℕ) (r : Option Refusal) → Nothing (injects_by (record w { sent = w.sent + 1 }) node octets r) → Good (injects_by (record w { sent = w.sent + 1 }) node octets r)
  inject_good node octets (Some name) nothing = good
  inject_good node octets None nothing = controller_sited Q (record w { sent = w.sent + 1 }) marked good node (λ a. injected a (w.sent + 1) octets) (λ site. setups_of site.controller)
      (λ site found. moves_node (setups_of site.controller) site.controller.node (acting w site) (injected (acting w site) (w.sent + 1) octets) (routes_goes (setups_of site.controller) (acting w site) (record { packet = w.sent + 1; frame = 0 }) octets) refl)
      (λ site found. work node site found)
      (λ site found. injected_on (setups_of site.controller) (Q site.controller.node) w.numbers.controls w.notes.frames site.controller.queue (desks node site found).reads_none (acting w site) (w.sent + 1) octets
      (desks node site found).by_links (one_more w.sent) (begins node site found)) nothing

  -- *A switch acts*
  switch_good : (v : World) (node : NodeId) (act : switches.ActedSwitch → switches.ActedSwitch) → (marks : Marked v) (fits : Good v)
      → ((P : End → End → Type 0) (G : Cell → Type 0) (controls : ℕ) (frames : List Frame) (b : switches.ActedSwitch) → IsLed P G controls frames b → IsLed P G controls frames (act b))
      → Nothing (at_switch v node act) → Good (at_switch v node act)
  switch_good v node act marks fits leads nothing = switch_sited Q v marks fits node act
      (λ site found. leads (May Q v marks fits site.controller.node) (IsGood Q v marks fits site.controller.node) v.numbers.controls v.notes.frames (record { switch = site.switch; notes = v.notes; numbers = v.numbers })
      (begins_led Q v marks fits site (marks node.0 site found) (fits node.0 site found))) nothing

  -- *Queues*
  empty_queue : (place : Place) (cell : Cell) (cells : List Cell) → queue_at w place ≡ cell ∷ cells → site_at w (place_node place) ≡ None → ⊥
  empty_queue place cell cells is found = cc (sym (ap (waiting_by place) found) ∙ is)

  head_is : (place : Place) (cell : Cell) (cells : List Cell) (site : Site) → queue_at w place ≡ cell ∷ cells → site_at w (place_node place) ≡ Some site → queue_in site place ≡ cell ∷ cells
  head_is place cell cells site is found = sym (ap (waiting_by place) found) ∙ is

  -- a cell comes to a switch from its controller
  down_good : (node : NodeId) (cell : Cell) (cells : List Cell) → queue_at w (Down node) ≡ cell ∷ cells → CarriesHonestly topology w (Down node)
      → (o : Option Site) → site_at w node ≡ o → Nothing (at_switch (with_queue_of w (Down node) cells o) node (λ a. conduct.cell_comes a control_port cell))
      → Good (at_switch (with_queue_of w (Down node) cells o) node (λ a. conduct.cell_comes a control_port cell))
  down_good node cell cells is honest None found nothing = absurd (empty_queue (Down node) cell cells is found)
  down_good node cell cells is honest (Some site) found nothing =
      switch_here Q x marks fits node (λ a. conduct.cell_comes a control_port cell) mid there
      (cell_led (May Q x marks fits mid.controller.node) (IsGood Q x marks fits mid.controller.node) w.numbers.controls w.notes.frames (record { switch = mid.switch; notes = w.notes; numbers = w.numbers }) control_port cell
      (λ g. (
        comes g,
        λ first rest payload e passes copy asked input output leads above on. may g copy input output
            (ap (λ (o : Option (List ℕ)). option_and_then copy_of (option_and_then gsmp_of o)) (honest site cell cells found is g first rest payload e passes) ∙ asked) leads above on,
      ))
      (begins_led Q x marks fits mid (marks node.0 mid there) (fits node.0 mid there))) nothing
    where
      mid : Site
      mid = with_queue_in site (Down node) cells

      x : World
      x = with_queue_of w (Down node) cells (Some site)

      there : site_at x node ≡ Some mid
      there = put_there w.sites node.0 site mid found refl

      fits : Good x
      fits = put_sited (Fits Q w.notes.frames) mid w.sites (loses Q w.notes.frames site (Down node) cell cells (head_is (Down node) cell cells site is found) (good node.0 site found)) good

      marks : Marked x
      marks = put_sited (HasMarks w.numbers.controls) mid w.sites (marks_less w.numbers.controls site (Down node) cell cells (head_is (Down node) cell cells site is found) (marked node.0 site found)) marked

      stands : Contains site.controller.queue cell
      stands = subst (λ (xs : List Cell). Contains xs cell) (sym (head_is (Down node) cell cells site is found)) (first_of cell cells)

      may : conduct.is_gsmp control_port cell.header.channel ≡ true → (s : Standing) (input output : End) → copy_under w.notes.frames cell.mark ≡ Some s → leads s.request ≡ Some (input, output)
          → 0 < input.port.0 → 0 < output.port.0 → Q site.controller.node input output
      may g s input output copy e above on = good node.0 site found input output above on (queue s cell stands g copy e)

      comes : conduct.is_gsmp control_port cell.header.channel ≡ true → IsGood Q x marks fits mid.controller.node cell
      comes g = record { low = (marked node.0 site found).queues cell stands; asks = λ s input output copy e above on. may g s input output copy e above on }

  -- a cell comes to a controller
  up_good : (node : NodeId) (cell : Cell) (cells : List Cell) → queue_at w (Up node) ≡ cell ∷ cells → CarriesHonestly topology w (Up node)
      → (o : Option Site) → site_at w node ≡ o → Nothing (at_controller (with_queue_of w (Up node) cells o) node (λ a. controller_cells.cell_comes a cell))
      → Good (at_controller (with_queue_of w (Up node) cells o) node (λ a. controller_cells.cell_comes a cell))
  up_good node cell cells is honest None found nothing = absurd (empty_queue (Up node) cell cells is found)
  up_good node cell cells is honest (Some site) found nothing =
      controller_here Q x marks fits node (λ a. controller_cells.cell_comes a cell) (setups_of site.controller) mid there
      (moves_node (setups_of site.controller) site.controller.node (acting w site) (controller_cells.cell_comes (acting w site) cell) (cell_comes_goes (setups_of site.controller) (acting w site) cell (has_ports node site found)) refl)
      (work node site found)
      (cell_comes_on (setups_of site.controller) (Q site.controller.node) w.numbers.controls w.notes.frames site.controller.queue (desks node site found).reads_none (acting w site) cell (honest site cell cells found is) (begins node site found)) nothing
    where
      mid : Site
      mid = with_queue_in site (Up node) cells

      x : World
      x = with_queue_of w (Up node) cells (Some site)

      there : site_at x node ≡ Some mid
      there = put_there w.sites node.0 site mid found refl

      fits : Good x
      fits = put_sited (Fits Q w.notes.frames) mid w.sites (loses Q w.notes.frames site (Up node) cell cells (head_is (Up node) cell cells site is found) (good node.0 site found)) good

      marks : Marked x
      marks = put_sited (HasMarks w.numbers.controls) mid w.sites (marks_less w.numbers.controls site (Up node) cell cells (head_is (Up node) cell cells site is found) (marked node.0 site found)) marked

  -- what a queue that lost its head leaves
  less_frames : (place : Place) (cells : List Cell) → ((with_queue w place cells).notes ≡ w.notes) × ((with_queue w place cells).numbers ≡ w.numbers)
  less_frames place cells = by (site_at w (place_node place))
    where
      by : (o : Option Site) → ((with_queue_of w place cells o).notes ≡ w.notes) × ((with_queue_of w place cells o).numbers ≡ w.numbers)
      by None = (refl, refl)
      by (Some site) = (refl, refl)

  less_good : (place : Place) (cell : Cell) (cells : List Cell) → queue_at w place ≡ cell ∷ cells → Good (with_queue w place cells)
  less_good place cell cells is = subst (λ (n : Journal). Sited (Fits Q n.frames) (with_queue w place cells).sites) (sym (less_frames place cells).0) (queue_sited Q w place cell cells is good)

  less_marked : (place : Place) (cell : Cell) (cells : List Cell) → queue_at w place ≡ cell ∷ cells → Marked (with_queue w place cells)
  less_marked place cell cells is = subst (λ (n : GivenOut). Sited (HasMarks n.controls) (with_queue w place cells).sites) (sym (less_frames place cells).1) (marks_sited w.numbers.controls w place cell cells is marked)

  away : (n : ℕ) (b : Bool) → 1 ≤ n → ((n == 0) && b) ≡ true → ⊥
  away n b some e = never (n == 0) b (not_zero n some) e
    where
      not_zero : (n : ℕ) → 1 ≤ n → (n == 0) ≡ false
      not_zero n some = grind (arith, nat_tests)

      never : (a b : Bool) → a ≡ false → (a && b) ≡ true → ⊥
      never true b f e = cc f
      never false b f e = cc e

  out_good : (place : Place) (cell : Cell) (cells : List Cell) → queue_at w place ≡ cell ∷ cells → (o : Option LinkEnd) → ((far : LinkEnd) → o ≡ Some far → 1 ≤ far.port.0)
      → Nothing (arrives_at (with_queue w place cells) cell o) → Good (arrives_at (with_queue w place cells) cell o)
  out_good place cell cells is None far nothing = less_good place cell cells is
  out_good place cell cells is (Some end) far nothing = switch_good (with_queue w place cells) end.node (λ a. conduct.cell_comes a end.port cell) (less_marked place cell cells is) (less_good place cell cells is)
      (λ P G controls frames b h. cell_led P G controls frames b end.port cell (λ g. absurd (away end.port.0 _ (far end refl) g)) h) nothing

  carried : (place : Place) (cells : List Cell) → queue_at w place ≡ cells → CarriesHonestly topology w place → Nothing (carries_head topology w place cells) → Good (carries_head topology w place cells)
  carried place [] is honest nothing = good
  carried (Down node) (cell ∷ cells) is honest nothing = down_good node cell cells is honest (site_at w node) refl nothing
  carried (Up node) (cell ∷ cells) is honest nothing = up_good node cell cells is honest (site_at w node) refl nothing
  carried (Out node port) (cell ∷ cells) is honest nothing = out_good (Out node port) cell cells is (peer_of topology node port) honest nothing

  lost : (place : Place) (cells : List Cell) → queue_at w place ≡ cells → Good (loses_head w place cells)
  lost place [] is = good
  lost place (cell ∷ cells) is = less_good place cell cells is

  -- *Each event*
  acts_good : (e : Event) → event ≡ e → IsHonest topology w e → Nothing (acts topology w e) → Good (acts topology w e)
  acts_good (Inject node octets) is honest nothing = inject_good node octets (inject_refusal octets) nothing
  acts_good (Carry place) is honest nothing = carried place (queue_at w place) refl honest nothing
  acts_good (Lose place) is honest nothing = lost place (queue_at w place) refl
  acts_good (Tick node) is honest nothing = tick_good node is nothing
  acts_good (TickSwitch node) is honest nothing = switch_good w node conduct.tick_comes marked good (λ P G controls frames b h. tick_led P G controls frames b h) nothing
  acts_good (Restart node) is honest nothing = restart_good node nothing
  acts_good (RestartSwitch node) is honest nothing = switch_good w node conduct.restarted marked good (λ P G controls frames b h. restart_led P G controls frames b h) nothing
  acts_good (Forge place channel payload) is honest nothing = absurd honest
  acts_good (Route node change) is honest nothing = change_good node change nothing

  own_node : (v : World) (node : NodeId) (site : Site) → site_at v node ≡ Some site → site.controller.node ≡ node
  own_node v node site found = same_node site.controller.node node (at_key site_key node.0 v.sites site found)

  pub pairs_behind : IsHonest topology w event → Nothing (acts topology w event) → (node : NodeId) (input output : End) → 0 < input.port.0 → 0 < output.port.0 → Pairs (acts topology w event) node input output → Q node input output
  pairs_behind honest nothing node input output above on pair =
      let v : World = acts topology w event in
      let f = of_pairs v node input output pair in
      subst (λ (n : NodeId). Q n input output) (own_node v node f.0 f.1.0) (acts_good event refl honest nothing node.0 f.0 f.1.0 input output above on f.1.1)

-- with the records put away
restored : (w : World) (node : NodeId) (input output : End) → Pairs (put_away w) node input output → Pairs w node input output
restored w node input output (by_branch e) = by_branch e
restored w node input output (pair_desk s k e) = pair_desk s k e
restored w node input output (by_copy s cell k copy e) = by_copy s cell k copy e

tallied_pairs : (topology : Topology) (w : World) (event : Event) (node : NodeId) (input output : End) → Pairs (step topology w event) node input output → Pairs (acts topology w event) node input output
tallied_pairs topology w event node input output (by_branch e) = by_branch e
tallied_pairs topology w event node input output (pair_desk s k e) = pair_desk s k e
tallied_pairs topology w event node input output (by_copy s cell k copy e) = by_copy s cell k copy e

pub events_make_none : EventsMakeNoPairs
events_make_none topology w event desks numbers honest nothing node input output above on pair =
    elim (pairs_behind topology (put_away w) event desks (λ n cell. numbers.chains n cell) (λ place cell. numbers.marks place cell) honest nothing node input output above on (tallied_pairs topology (put_away w) event node input output pair)) [
      | inl before ↦ inl (restored w node input output before)
      | inr entered ↦ inr entered
    ]
