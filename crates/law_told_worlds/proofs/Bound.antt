-- what an event notes of bindings: each is of a label that was being wired

use Rattle.std.proofs.Common.{◌≡◌, ◌≢◌, ℕ, ◌<◌, ◌^◌, Bool, true, false, List, ◌∷◌, Option, None, Some, refl, sym, ◌∙◌, subst, inl, inr}
use Rattle.world_model.specs.Words.{NodeId, PortNo, Up, State, Clearing, SynSent, SynRcvd, Estab, is_estab, Cell, FlowId, Record, Bind, Policy, Linked, linked_at, RouteChange, ForGsmp, ForDefault, ForLabel, taker_of, node_restarts, change_comes, injected, Topology, IsTopology, World, Site, site_at, queue_at, Past, past_of, WasCleared, WaitsAs}
use Rattle.world_model.specs.link_model.declared.record.Record.TheVariants as kinds
use Rattle.law_frame_readings.proofs.ordered_lists.Every.{every_map}
use Rattle.world_model.specs.Controller.{Acted}
use Rattle.law_frame_readings.proofs.law_controller_facts.Moves.{Found}
use Rattle.law_frame_readings.specs.law_port_facts.Port.{IsPort}
use Rattle.world_model.specs.Cells.{Taker, cell_comes}
use Rattle.world_model.specs.Ticks.{ticks}
use Rattle.law_frame_readings.proofs.law_controller_facts.Joining.{each_there}
use Rattle.world_model.specs.network_model.declared.event.Event.{Event}
use Rattle.world_model.specs.network_model.declared.event.Event.TheVariants.{Carry}
use Rattle.law_frame_readings.specs.law_world_views.Between.{IsWorld}
use Rattle.law_frame_readings.specs.law_world_views.Ready.{setups_of}
use Rattle.law_frame_readings.specs.law_world_views.Shown.{acting}
use Rattle.law_frame_readings.specs.law_world_views.Made.{IsFit}
use Rattle.law_frame_readings.specs.Reading.{FramesAreRead}
use Rattle.law_run_facts.specs.Nodes.{IsNodeOfRun}
use Rattle.law_running_worlds.specs.Running.{ChainsAreTrue}
use Rattle.law_packet_worlds.proofs.law_way_words.Switching.{BindsNone}
use Rattle.law_port_words.specs.Words.{Terms, IsNoted, IsSteadily}
use Rattle.law_port_words.proofs.Events.{IsHeeded, cell_h, gsmp_cell_h, ticks_h, routes_h}
use Rattle.law_port_words.proofs.Events as words
use Rattle.law_port_words.proofs.Performing.{node_restarts_h}
use Rattle.law_port_words.proofs.Joining.{change_comes_h}
use Rattle.law_told_worlds.specs.Before.{end_at, IsWiringAt, terms, is_wiring, is_bound_to, is_held_at, any_label, no_label, was_own, quiet_terms, gsmp_terms}
use Rattle.law_told_worlds.proofs.Start.{start, started, ready, side_is, way_from, from_is}
use Rattle.law_told_worlds.proofs.Heeds.{heeded}

-- *A record* binds a label that was being wired
abbrev pub IsWired : World → Record → Type 0
IsWired w (Bind node port label flow) = IsWiringAt w (end_at node port) label flow
IsWired w item = Unit {0}

pub binds_none : (w : World) (item : Record) → BindsNone item → IsWired w item
binds_none w (kinds.Bind node port label flow) none = absurd none
binds_none w (kinds.Delivered node packet octets) none = tt
binds_none w (kinds.Dropped node packet cause) none = tt
binds_none w (kinds.Refused node packet name) none = tt
binds_none w (kinds.Loss mark cause) none = tt
binds_none w (kinds.Chance mark) none = tt
binds_none w (kinds.Forged place) none = tt
binds_none w (kinds.Bad node layer name) none = tt
binds_none w (kinds.Opened node port) none = tt
binds_none w (kinds.Closed node port) none = tt
binds_none w (kinds.Free node port label) none = tt
binds_none w (kinds.Join node port label to_port to_label) none = tt
binds_none w (kinds.Part node port label) none = tt
binds_none w (kinds.Routes node number) none = tt

pub noted_wired : (t : Terms) (w : World) → ((port : PortNo) (label : ℕ) (flow : FlowId) → t.bindable port label flow → IsWiringAt w (end_at t.node port) label flow) → (item : Record) → IsNoted t item → IsWired w item
noted_wired t w wired (kinds.Bind node port label flow) h = subst (λ (n : NodeId). IsWiringAt w (end_at n port) label flow) (sym h.0) (wired port label flow h.1)
noted_wired t w wired (kinds.Delivered node packet octets) h = tt
noted_wired t w wired (kinds.Dropped node packet cause) h = tt
noted_wired t w wired (kinds.Refused node packet name) h = tt
noted_wired t w wired (kinds.Loss mark cause) h = tt
noted_wired t w wired (kinds.Chance mark) h = tt
noted_wired t w wired (kinds.Forged place) h = tt
noted_wired t w wired (kinds.Bad node layer name) h = tt
noted_wired t w wired (kinds.Opened node port) h = tt
noted_wired t w wired (kinds.Closed node port) h = tt
noted_wired t w wired (kinds.Free node port label) h = tt
noted_wired t w wired (kinds.Join node port label to_port to_label) h = tt
noted_wired t w wired (kinds.Part node port label) h = tt
noted_wired t w wired (kinds.Routes node number) h = tt

-- *A controller acts*: what it leaves, in the words of what was so before
module _ (policy : Policy) (topology : Topology) (before : List Event) (is_topology : IsTopology topology) (world : IsWorld (past_of policy topology before))
    (node : NodeId) (site : Site) (found : site_at (past_of policy topology before).now node ≡ Some site) (run : IsNodeOfRun policy (past_of policy topology before) node site) where
  abbrev pub past : Past
  past = past_of policy topology before

  abbrev pub a : Acted
  a = started policy topology before is_topology world node site found run

  abbrev pub quiet : Terms
  quiet = quiet_terms past node site.controller.address

  abbrev pub heard : Terms
  heard = gsmp_terms past node site.controller.address

  abbrev pub cleared : Terms
  cleared = record heard { own = was_own past node site.controller.address }

  quiet_start : IsSteadily quiet a
  quiet_start = start policy topology before is_topology world node site found run (any_label past node site.controller.address) (is_bound_to past node site.controller.address) (is_bound_to past node site.controller.address) (no_label past node site.controller.address)
      (λ port label flow h. tt) (λ port label flow h. h)

  heard_start : IsSteadily heard a
  heard_start = start policy topology before is_topology world node site found run (is_wiring past node site.controller.address) (is_held_at past node site.controller.address) (no_label past node site.controller.address) (is_wiring past node site.controller.address)
      (λ port label flow h. h) (λ port label flow h. inl h)

  pub ticks_so : IsSteadily quiet (ticks a)
  ticks_so = ticks_h quiet (λ port instance h. h) (λ port label flow h. h) a quiet_start

  pub restarts_so : IsSteadily quiet (node_restarts a)
  restarts_so = node_restarts_h quiet a quiet_start

  pub changes_so : (change : RouteChange) → IsSteadily quiet (change_comes a change)
  changes_so change = change_comes_h quiet a change quiet_start

  pub injects_so : (number : ℕ) (octets : List ℕ) → number ≢ 0 → IsFit octets → IsSteadily quiet (injected a number octets)
  injects_so number octets some fit = routes_h quiet a (record { packet = number; frame = 0 }) octets some fit quiet_start

  module _ (read : FramesAreRead) (chains : ChainsAreTrue past.now (Carry (Up node))) (cell : Cell) (cells : List Cell) (queue : queue_at past.now (Up node) ≡ cell ∷ cells) where
    heeds : (wired held offered bindable : PortNo → ℕ → FlowId → Type 0) → IsHeeded (terms past node site.controller.address wired held offered bindable) a cell
    heeds = heeded policy topology before is_topology world node site found run read chains cell cells queue

    -- each port has its instance still, or waits to be cleared under it
    is_old : words.IsOld heard (λ port instance h. h) (λ port label flow h. inr h) (λ port label flow h. h) (was_own past node site.controller.address) (λ port instance h. (inl h.0, h.1)) a
    is_old = record {
      each = every_map (λ (linked : Linked). Found (setups_of site.controller) (acting past.now site) linked × IsPort (setups_of site.controller) linked.setup linked.port) (λ (linked : Linked). was_own past node site.controller.address linked.setup.port linked.port.adjacency.own.instance.0) site.controller.ports
          (λ linked h. by linked h.0 h.1 linked.port.adjacency.state refl) (each_there (setups_of site.controller) (acting past.now site) (record { ports = run.conduct.sound.ports; shaped = run.conduct.sound.requests }));
      closed = λ e. closed site.controller.has_met refl e;
    }
      where
        closed : (b : Bool) → site.controller.has_met ≡ b → is_estab site.controller.adjacency.state ≡ false → site.controller.has_met ≡ false
        closed true e down = absurd (cc (sym (run.conduct.sound.desk.met e) ∙ down))
        closed false e down = e

        cleared_own : (linked : Linked) (at_port : linked_at site.controller linked.setup.port ≡ Some linked) (port_is : IsPort (setups_of site.controller) linked.setup linked.port) → linked.port.adjacency.state ≢ Clearing
            → WasCleared past (end_at node linked.setup.port) linked.port.adjacency.own.instance.0
        cleared_own linked at_port port_is live = (world.cleared (way_from policy topology before is_topology world node site found run linked at_port port_is)
            (from_is policy topology before is_topology world node site found run linked at_port port_is)).0.opened linked.port.adjacency (side_is policy topology before is_topology world node site found run linked at_port port_is) live

        fits_own : (linked : Linked) (at_port : linked_at site.controller linked.setup.port ≡ Some linked) (port_is : IsPort (setups_of site.controller) linked.setup linked.port) → linked.port.adjacency.own.instance.0 < 2 ^ 32
        fits_own linked at_port port_is = (ready policy topology before is_topology world node site found run linked at_port port_is).fits.own.0

        by : (linked : Linked) (at_port : linked_at site.controller linked.setup.port ≡ Some linked) (port_is : IsPort (setups_of site.controller) linked.setup linked.port) (state : State) → linked.port.adjacency.state ≡ state → was_own past node site.controller.address linked.setup.port linked.port.adjacency.own.instance.0
        by linked at_port port_is Clearing e = (inr (subst (WaitsAs linked.port.adjacency.own.instance.0) (sym (side_is policy topology before is_topology world node site found run linked at_port port_is)) (e, refl)), fits_own linked at_port port_is)
        by linked at_port port_is SynSent e = (inl (cleared_own linked at_port port_is (λ f. cc (sym e ∙ f))), fits_own linked at_port port_is)
        by linked at_port port_is SynRcvd e = (inl (cleared_own linked at_port port_is (λ f. cc (sym e ∙ f))), fits_own linked at_port port_is)
        by linked at_port port_is Estab e = (inl (cleared_own linked at_port port_is (λ f. cc (sym e ∙ f))), fits_own linked at_port port_is)

    -- what comes on GSMP's channel, and all else
    pub data CellSo : Type 0 where
      on_gsmp : IsSteadily cleared (cell_comes a cell) → CellSo
      elsewhere : IsSteadily quiet (cell_comes a cell) → CellSo

    pub cell_so : CellSo
    cell_so = by (taker_of site.controller cell.header.channel) refl
      where
        quietly : ((taker_of site.controller cell.header.channel ≡ Some ForGsmp) → ⊥) → CellSo
        quietly other = elsewhere (cell_h quiet (λ port instance h. h) (λ port label flow. tt) a cell
            (heeds (any_label past node site.controller.address) (is_bound_to past node site.controller.address) (is_bound_to past node site.controller.address) (no_label past node site.controller.address)) other quiet_start)

        by : (o : Option Taker) → taker_of site.controller cell.header.channel ≡ o → CellSo
        by None e = quietly (λ f. cc (sym e ∙ f))
        by (Some ForGsmp) e = on_gsmp (gsmp_cell_h heard (λ port instance h. h) (λ port label flow h. inr h) (λ port label flow h. h) (was_own past node site.controller.address) (λ port instance h. (inl h.0, h.1)) a cell
            (heeds (is_wiring past node site.controller.address) (is_held_at past node site.controller.address) (no_label past node site.controller.address) (is_wiring past node site.controller.address)) e is_old heard_start)
        by (Some (ForDefault linked)) e = quietly (λ f. cc (sym e ∙ f))
        by (Some (ForLabel linked held)) e = quietly (λ f. cc (sym e ∙ f))
