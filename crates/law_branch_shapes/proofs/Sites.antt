-- each event of a network keeps the shapes of its sites

use Rattle.std.proofs.Common.{◌≡◌, ℕ, suc, ◌≤◌, ◌+◌, Bool, true, false, List, [], ◌∷◌, ◌++◌, map, Option, None, Some, refl, sym, ◌∙◌, ap, subst, arith, inl, inr, if◌then◌else◌}
use Rattle.std.specs.Prelude.{◌==◌, ◌&&◌, Contains}
use Rattle.std.specs.Option.{option_map_or}
use Rattle.std.proofs.lemmas.Bool.Decides.{nat_tests}
use Rattle.law_causes.specs.world_model.Words.{NodeId, PortNo, Place, Down, Up, Out, Channel, GivenOut, next_control, with_control, Cell, Refusal, Forged, Journal, Standing, control_port, Setup, Controller, Linked, default_channel, inject_refusal, injected, node_restarts, change_comes, Topology, IsTopology, World, Site, site_key, site_at, controller_acts, switch_acts, place_node, queue_in, queue_at, with_queue_in, with_queue_of, with_queue, put_away, next, world_after, IsTame, forges, injects_by, arrives_at, carries_head, loses_head, requests_chain_at, gsmp_to_switch, on_channel, copy_under}
use Rattle.law_world_views.specs.ordered_lists.Ordered.{Every}
use Rattle.law_causes.specs.world_model.Switch as switches
use Rattle.law_causes.specs.world_model.Conduct as switch
use Rattle.law_world_views.specs.law_port_facts.Port.{IsShaped}
use Rattle.law_world_views.proofs.law_port_facts.Keyed.{at_every}
use Rattle.law_causes.specs.world_model.Controller.{Acted}
use Rattle.law_causes.specs.world_model.Cells as controller
use Rattle.law_causes.specs.world_model.Ticks as controller_ticks
use Rattle.law_causes.specs.world_model.Sending.{sends}
use Rattle.law_world_views.specs.law_controller_facts.Inputs.{FrameIsForged, Input, CellComes, PacketEnters, Ticks, Restarts, ChangeComes, enters_unless, takes_input}
use Rattle.law_world_views.specs.law_controller_facts.Sound.{IsSound, setups_by}
use Rattle.law_world_views.proofs.law_controller_facts.Laws.{always_sound, input_sound}
use Rattle.law_causes.specs.world_model.network_model.declared.event.Event.{Event}
use Rattle.law_causes.specs.world_model.network_model.declared.event.Event.TheVariants.{Inject, Carry, Lose, Tick, TickSwitch, Restart, RestartSwitch, Forge, Route}
use Rattle.law_causes.specs.world_model.network_model.declared.link.LinkEnd.{LinkEnd}
use Rattle.law_causes.specs.world_model.Topology.{peer_of}
use Rattle.law_causes.specs.world_model.World.{at_controller, at_switch, opened}
use Rattle.law_causes.specs.world_model.Step.{note, acts}
use Rattle.law_causes.proofs.law_lifetimes.Opened.{IsFed, opening_fed}
use Rattle.law_causes.proofs.law_lifetimes.Runs.{run_fed}
use Rattle.law_causes.proofs.law_lifetimes.Feeding.{acted_by}
use Rattle.law_causes.proofs.Shown.{peer_back}
use Rattle.law_world_views.specs.Between.{setups_of}
use Rattle.law_world_views.proofs.Put.{put_found, Sited, put_sited}
use Rattle.law_branch_shapes.specs.Shapes.{HasShapes, Brings}
use Rattle.law_branch_shapes.specs.Events.{HasOwnShapes, EventsKeepShapes}
use Rattle.law_branch_shapes.proofs.Kept.{sends_keeps, cells_keep, ticks_keep, restarts_keep}
use Rattle.law_branch_shapes.proofs.Chance.{tame_passes}

-- *Sites*
abbrev pub Shaped : Site → Type 0
Shaped site = HasShapes (setups_of site.controller) site.switch

-- *A controller keeps its ports*
fed_sound : (site : Site) (fed : IsFed site) → IsSound (setups_by fed.o) site.controller
fed_sound site fed = subst (λ (c : Controller). IsSound (setups_by fed.o) c) fed.now (always_sound fed.o fed.inputs fed.is.differ)

same_setups : (notes : Journal) (numbers : GivenOut) (site : Site) → IsFed site → (input : Input) → setups_of (takes_input (acted_by notes numbers site.controller) input).controller ≡ setups_of site.controller
same_setups notes numbers site fed input =
    (input_sound (setups_by fed.o) (acted_by notes numbers site.controller) input (fed_sound site fed)).ports.same ∙ sym (fed_sound site fed).ports.same

-- *An actor acts*
controller_keeps : (v : World) (node : NodeId) (act : Acted → Acted) (input : Input) → ((c : Controller) → (act (acted_by v.notes v.numbers c)).controller ≡ (takes_input (acted_by v.notes v.numbers c) input).controller)
    → Sited IsFed v.sites → Sited Shaped v.sites → Sited Shaped (at_controller v node act).sites
controller_keeps v node act input is fed all = by (site_at v node) refl
  where
    by : (o : Option Site) → site_at v node ≡ o → Sited Shaped (controller_acts v o act).sites
    by None found = all
    by (Some site) found = put_sited Shaped (record site { controller = (act (acted_by v.notes v.numbers site.controller)).controller }) v.sites
        (subst (λ (s : List Setup). HasShapes s site.switch) (sym (ap setups_of (is site.controller) ∙ same_setups v.notes v.numbers site (fed node site found) input)) (all node site found)) all

switch_keeps : (v : World) (node : NodeId) (act : switches.ActedSwitch → switches.ActedSwitch)
    → ((site : Site) → site_at v node ≡ Some site → Shaped site → HasShapes (setups_of site.controller) (act (record { switch = site.switch; notes = v.notes; numbers = v.numbers })).switch)
    → Sited Shaped v.sites → Sited Shaped (at_switch v node act).sites
switch_keeps v node act keeps all = by (site_at v node) refl
  where
    by : (o : Option Site) → site_at v node ≡ o → Sited Shaped (switch_acts v o act).sites
    by None found = all
    by (Some site) found = put_sited Shaped (record site { switch = (act (record { switch = site.switch; notes = v.notes; numbers = v.numbers })).switch }) v.sites (keeps site found (all node site found)) all

-- *A queue loses its head*
queue_shaped : (site : Site) (place : Place) (cells : List Cell) → Shaped site → Shaped (with_queue_in site place cells)
queue_shaped site (Down node) cells h = record { branches = h.branches; ports = h.ports }
queue_shaped site (Up node) cells h = record { branches = h.branches; ports = h.ports }
queue_shaped site (Out node port) cells h = record { branches = h.branches; ports = h.ports }

queue_keeps : (v : World) (place : Place) (cells : List Cell) → Sited Shaped v.sites → Sited Shaped (with_queue v place cells).sites
queue_keeps v place cells all = by (site_at v (place_node place)) refl
  where
    by : (o : Option Site) → site_at v (place_node place) ≡ o → Sited Shaped (with_queue_of v place cells o).sites
    by None found = all
    by (Some site) found = put_sited Shaped (with_queue_in site place cells) v.sites (queue_shaped site place cells (all (place_node place) site found)) all

up_fed : (v : World) (node : NodeId) (cells : List Cell) → Sited IsFed v.sites → Sited IsFed (with_queue v (Up node) cells).sites
up_fed v node cells all = by (site_at v node) refl
  where
    by : (o : Option Site) → site_at v node ≡ o → Sited IsFed (with_queue_of v (Up node) cells o).sites
    by None found = all
    by (Some site) found = (let fed : IsFed site = all node site found in
        put_sited IsFed (with_queue_in site (Up node) cells) v.sites (record { o = fed.o; is = fed.is; inputs = fed.inputs; now = fed.now }) all)

-- *Cells on their way*
among_join : (xs cells : List Cell) (cell : Cell) → Contains (xs ++ cell ∷ cells) cell
among_join [] cells cell = (0, omega arith, refl)
among_join (x ∷ xs) cells cell = (let rest = among_join xs cells cell in (suc rest.0, omega (arith, rest.1), rest.2))

-- *An event*, with the notes of earlier ones put away
module _ (topology : Topology) (is : IsTopology topology) (v : World) (fed : Sited IsFed v.sites) (all : Sited Shaped v.sites)
    (copies : (node : NodeId) (site : Site) → site_at v node ≡ Some site → (s : Standing) (cell : Cell) → Contains (gsmp_to_switch v node) cell → copy_under v.notes.frames cell.mark ≡ Some s → IsShaped (setups_of site.controller) s.request) where
  -- a cell comes to the switch from its controller
  abbrev acting : Site → switches.ActedSwitch
  acting site = record { switch = site.switch; notes = v.notes; numbers = v.numbers }

  brings : (node : NodeId) (cell : Cell) (cells : List Cell) → queue_at v (Down node) ≡ cell ∷ cells → (site : Site) → site_at v node ≡ Some site
      → IsTame (switch.cell_comes (acting site) control_port cell).notes.records → switch.is_gsmp control_port cell.header.channel ≡ true → Brings (setups_of site.controller) (acting site) cell
  brings node cell cells first site found tame g = record {
    passes = tame_passes (acting site) cell (subst (λ (b : Bool). IsTame (if b then switch.gsmp_cell (acting site) cell else switch.switched_cell (acting site) control_port cell).notes.records) g tame);
    asks = λ s e. copies node site found s cell (subst (λ (q : List Cell). Contains (requests_chain_at v node ++ q) cell) (sym here) (among_join (requests_chain_at v node) (on_channel default_channel cells) cell)) e;
  }
    where
      here : on_channel default_channel (queue_at v (Down node)) ≡ cell ∷ on_channel default_channel cells
      here = ap (on_channel default_channel) first ∙ ap (λ (b : Bool). if b then cell ∷ on_channel default_channel cells else on_channel default_channel cells) g

  -- what a cell does at a site that was found
  abbrev Comes : Cell → Site → Type 0
  Comes cell x = IsTame (switch.cell_comes (acting x) control_port cell).notes.records → HasShapes (setups_of x.controller) x.switch → HasShapes (setups_of x.controller) (switch.cell_comes (acting x) control_port cell).switch

  comes : (node : NodeId) (cell : Cell) (cells : List Cell) → queue_at v (Down node) ≡ cell ∷ cells → (site : Site) → site_at v node ≡ Some site → Comes cell site
  comes node cell cells first site found tame h = cells_keep (setups_of site.controller) (acting site) control_port cell (brings node cell cells first site found tame) h

  carries_down : (node : NodeId) (queue : List Cell) → queue_at v (Down node) ≡ queue → IsTame (carries_head topology v (Down node) queue).notes.records → Sited Shaped (carries_head topology v (Down node) queue).sites
  carries_down node [] first tame = all
  carries_down node (cell ∷ cells) first tame = by (site_at v node) refl tame
    where
      by : (o : Option Site) → site_at v node ≡ o → IsTame (at_switch (with_queue_of v (Down node) cells o) node (λ a. switch.cell_comes a control_port cell)).notes.records
          → Sited Shaped (at_switch (with_queue_of v (Down node) cells o) node (λ a. switch.cell_comes a control_port cell)).sites
      by None found tame = absurd (cc (sym first ∙ ap (λ (o : Option Site). option_map_or (λ (s : Site). queue_in s (Down node)) o []) found))
      by (Some old) found tame =
          let new : Site = with_queue_in old (Down node) cells in
          let popped : World = with_queue_of v (Down node) cells (Some old) in
          switch_keeps popped node (λ a. switch.cell_comes a control_port cell)
          (λ site there h. (
          let here : IsTame (switch.cell_comes (acting site) control_port cell).notes.records = subst (λ (o : Option Site). IsTame (switch_acts popped o (λ a. switch.cell_comes a control_port cell)).notes.records) there tame in
          let comes_here : Comes cell site = elim (put_found new v.sites node.0 site there) [
            | inl same ↦ subst (Comes cell) same (λ calm k. comes node cell cells first old found calm (record { branches = k.branches; ports = k.ports }))
            | inr before ↦ comes node cell cells first site before
          ] in
          comes_here here h))
          (put_sited Shaped new v.sites (queue_shaped old (Down node) cells (all node old found)) all)

  -- a cell comes to a switch over a link
  away : (n : ℕ) (b : Bool) → 1 ≤ n → ((n == 0) && b) ≡ true → ⊥
  away n b some e = never (n == 0) b (not_zero n some) e
    where
      not_zero : (n : ℕ) → 1 ≤ n → (n == 0) ≡ false
      not_zero n some = grind (arith, nat_tests)

      never : (a b : Bool) → a ≡ false → (a && b) ≡ true → ⊥
      never true b f e = cc f
      never false b f e = cc e

  carries_out : (node : NodeId) (port : PortNo) (queue : List Cell) → Sited Shaped (carries_head topology v (Out node port) queue).sites
  carries_out node port [] = all
  carries_out node port (cell ∷ cells) = by (peer_of topology node port) refl
    where
      popped : World
      popped = with_queue v (Out node port) cells

      by : (o : Option LinkEnd) → peer_of topology node port ≡ o → Sited Shaped (arrives_at popped cell o).sites
      by None peer = queue_keeps v (Out node port) cells all
      by (Some far) peer = switch_keeps popped far.node (λ a. switch.cell_comes a far.port cell)
          (λ site there h. cells_keep (setups_of site.controller) (record { switch = site.switch; notes = popped.notes; numbers = popped.numbers }) far.port cell
          (λ g. absurd (away far.port.0 _ (peer_back topology is (record { node = node; port = port }) far peer).port.0 g)) h)
          (queue_keeps v (Out node port) cells all)

  carries_up : (node : NodeId) (queue : List Cell) → Sited Shaped (carries_head topology v (Up node) queue).sites
  carries_up node [] = all
  carries_up node (cell ∷ cells) = (let popped : World = with_queue v (Up node) cells in
      controller_keeps popped node (λ a. controller.cell_comes a cell) (CellComes cell) (λ c. refl) (up_fed v node cells fed) (queue_keeps v (Up node) cells all))

  enters : (node : NodeId) (octets : List ℕ) (o : Option Refusal) → inject_refusal octets ≡ o → Sited Shaped (injects_by (record v { sent = v.sent + 1 }) node octets o).sites
  enters node octets (Some name) e = all
  enters node octets None e = controller_keeps (record v { sent = v.sent + 1 }) node (λ a. injected a (v.sent + 1) octets) (PacketEnters (v.sent + 1) octets)
      (λ c. ap (λ (o : Option Refusal). (enters_unless (acted_by v.notes v.numbers c) (v.sent + 1) octets o).controller) (sym e)) fed all

  loses : (place : Place) (queue : List Cell) → Sited Shaped (loses_head v place queue).sites
  loses place [] = all
  loses place (cell ∷ cells) = queue_keeps v place cells all

  -- a frame is forged
  forged : (place : Place) (channel : Channel) (payload : List ℕ) → Sited Shaped (forges v place channel payload).sites
  forged (Down node) channel payload = controller_keeps (record (note v (Forged (Down node))) { numbers = with_control v.numbers }) node (λ a. sends a channel (next_control v.numbers) payload)
      (FrameIsForged channel (next_control v.numbers) payload) (λ c. refl) fed all
  forged (Up node) channel payload =
      let w : World = record (note v (Forged (Up node))) { numbers = with_control v.numbers } in
      switch_keeps w node (λ a. switch.forged a control_port channel (next_control v.numbers) payload)
      (λ site found h. sends_keeps (setups_of site.controller) (record { switch = site.switch; notes = w.notes; numbers = w.numbers }) control_port channel (next_control v.numbers) payload h) all
  forged (Out node port) channel payload =
      let w : World = record (note v (Forged (Out node port))) { numbers = with_control v.numbers } in
      switch_keeps w node (λ a. switch.forged a port channel (next_control v.numbers) payload)
      (λ site found h. sends_keeps (setups_of site.controller) (record { switch = site.switch; notes = w.notes; numbers = w.numbers }) port channel (next_control v.numbers) payload h) all

  pub event_shaped : (event : Event) → IsTame (acts topology v event).notes.records → Sited Shaped (acts topology v event).sites
  event_shaped (Inject node octets) tame = enters node octets (inject_refusal octets) refl
  event_shaped (Carry (Down node)) tame = carries_down node (queue_at v (Down node)) refl tame
  event_shaped (Carry (Up node)) tame = carries_up node (queue_at v (Up node))
  event_shaped (Carry (Out node port)) tame = carries_out node port (queue_at v (Out node port))
  event_shaped (Lose place) tame = loses place (queue_at v place)
  event_shaped (Tick node) tame = controller_keeps v node controller_ticks.ticks Ticks (λ c. refl) fed all
  event_shaped (TickSwitch node) tame = switch_keeps v node switch.tick_comes (λ site found h. ticks_keep (setups_of site.controller) (acting site) h) all
  event_shaped (Restart node) tame = controller_keeps v node node_restarts Restarts (λ c. refl) fed all
  event_shaped (RestartSwitch node) tame = switch_keeps v node switch.restarted (λ site found h. restarts_keep (setups_of site.controller) (acting site) h) all
  event_shaped (Forge place channel payload) tame = forged place channel payload
  event_shaped (Route node change) tame = controller_keeps v node (λ a. change_comes a change) (ChangeComes change) (λ c. refl) fed all

-- *A run*
pub numbers_same : (ports : List Linked) → map (λ (setup : Setup). setup.port) (map (λ (linked : Linked). linked.setup) ports) ≡ map (λ (linked : Linked). linked.setup.port) ports
numbers_same [] = refl
numbers_same (linked ∷ ports) = ap (λ (rest : List PortNo). linked.setup.port ∷ rest) (numbers_same ports)

own_shapes : (site : Site) → IsFed site → Shaped site → HasOwnShapes site
own_shapes site fed h = record {
  switch = h;
  standing = subst (λ (s : List Setup). Every (λ (x : Standing). IsShaped s x.request) site.controller.desk.standing) (sym (fed_sound site fed).ports.same) (fed_sound site fed).requests;
}

pub events_keep : EventsKeepShapes
events_keep policy topology events event is shapes tame node site found =
    own_shapes site (after_fed node site found)
    (event_shaped topology is (put_away w) before_fed (λ n s e. record { branches = (shapes n s e).branches; ports = (shapes n s e).ports ∙ ap (λ (rest : List PortNo). control_port ∷ rest) (sym (numbers_same s.controller.ports)) })
    (λ n s e copy cell among asks. (shapes n s e).copies copy cell among asks) event tame node site found)
  where
    w : World
    w = world_after topology (opened policy topology) events

    before_fed : Sited IsFed w.sites
    before_fed n s e = at_every site_key IsFed n.0 w.sites s (run_fed topology events (opened policy topology) (opening_fed policy topology)) e

    after_fed : Sited IsFed (next topology w event).sites
    after_fed n s e = at_every site_key IsFed n.0 (next topology w event).sites s (run_fed topology (event ∷ []) w (run_fed topology events (opened policy topology) (opening_fed policy topology))) e
