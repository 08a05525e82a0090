-- each event of a network whose ports hold no label leaves them so and notes no binding, under a policy that offers nothing

use Rattle.std.proofs.Common.{◌≡◌, ℕ, List, [], ◌∷◌, length, Option, None, Some, refl, sym, ◌∙◌, subst, inl}
use Rattle.std.specs.Prelude.{◌+◌, nat_le}
use Rattle.world_model.specs.Words.{NodeId, PortNo, Place, Down, Up, Out, Addr, Channel, Mark, next_control, with_control, Cell, Record, Bind, Loss, Forged, PoolFull, Lost, Refusal, noted, frame_cells, made, at, put, Switch, control_port, Controller, inject_refusal, injected, node_restarts, change_comes, Topology, World, Site, site_key, site_at, controller_acts, switch_acts, place_node, queue_at, with_queue_in, with_queue_of, with_queue, injects_by, arrives_at, carries_head, loses_head, forges_at, forges, put_away, next}
use Rattle.world_model.specs.frame_model.Sending.{Sender}
use Rattle.law_run_facts.specs.ordered_lists.Ordered.{Every}
use Rattle.law_run_facts.proofs.ordered_lists.Every.{every_map}
use Rattle.law_run_facts.proofs.law_port_facts.Keyed.{on_both, at_key, at_every, at_put_same, put_every, every_more}
use Rattle.world_model.specs.Switch as switches
use Rattle.world_model.specs.Switch.{free_slots}
use Rattle.world_model.specs.Conduct as switch
use Rattle.world_model.specs.Conduct.{with_cells}
use Rattle.world_model.specs.Controller.{Acted}
use Rattle.world_model.specs.Sending.{sends}
use Rattle.world_model.specs.Cells.{cell_comes}
use Rattle.world_model.specs.Ticks.{ticks}
use Rattle.world_model.specs.network_model.declared.event.Event.{Event}
use Rattle.world_model.specs.network_model.declared.event.Event.TheVariants.{Inject, Carry, Lose, Tick, TickSwitch, Restart, RestartSwitch, Forge, Route}
use Rattle.world_model.specs.network_model.declared.link.LinkEnd.{LinkEnd}
use Rattle.world_model.specs.Topology.{peer_of}
use Rattle.world_model.specs.World.{at_controller, at_switch}
use Rattle.world_model.specs.Step.{acts}
use Rattle.law_way_words.proofs.Switching.{BindsNone, Waits, waits_kept, comes, tick_kept, restarted_kept}
use Rattle.law_port_words.specs.Words.{Terms, IsNoted, IsSteadyAt, IsSteadily}
use Rattle.law_port_words.proofs.Events.{ticks_h}
use Rattle.law_port_words.proofs.Performing.{node_restarts_h}
use Rattle.law_port_words.proofs.Joining.{change_comes_h}
use Rattle.law_idle_policies.proofs.Ports.{idle_terms}
use Rattle.law_idle_policies.proofs.Controllers.{IsQuiet, steady_of, sent_i, routes_i}
use Rattle.law_idle_policies.proofs.Cells.{cell_i}

-- *Records* that bind nothing
none_bound : (t : Terms) (item : Record) → BindsNone item → IsNoted t item
none_bound t (Bind node port label flow) none = absurd none
none_bound t item none = tt

none_noted : (node : NodeId) (address : Addr) (item : Record) → IsNoted (idle_terms node address) item → BindsNone item
none_noted node address (Bind named port label flow) h = absurd h.1
none_noted node address item h = tt

-- *A network* whose ports hold no label, and whose last event bound none
pub record HoldsNone (c : Controller) : Type 0 where
  pub node : NodeId
  pub address : Addr
  pub named : (c.address ≡ address) × (c.node ≡ node)
  pub ports : Every (IsSteadyAt (idle_terms node address)) c.ports

abbrev pub IsIdleSite : Site → Type 0
IsIdleSite site = HoldsNone site.controller

pub record IsIdleWorld (w : World) : Type 0 where
  pub sites : Every IsIdleSite w.sites
  pub records : Every BindsNone w.notes.records

-- *A controller acts*
abbrev acting : World → Site → Acted
acting u site = record { controller = site.controller; notes = u.notes; numbers = u.numbers }

acts_i : (u : World) (here : NodeId) (act : Acted → Acted)
    → ((site : Site) → site_at u here ≡ Some site → (node : NodeId) (address : Addr) → IsSteadily (idle_terms node address) (acting u site) → IsSteadily (idle_terms node address) (act (acting u site)))
    → IsIdleWorld u → IsIdleWorld (at_controller u here act)
acts_i u here act keeps h = by (site_at u here) refl
  where
    by : (o : Option Site) → site_at u here ≡ o → IsIdleWorld (controller_acts u o act)
    by None e = record { sites = h.sites; records = h.records }
    by (Some site) e =
        let was : IsIdleSite site = at_every site_key IsIdleSite here.0 u.sites site h.sites e in
        let t : Terms = idle_terms was.node was.address in
        let k : IsSteadily t (act (acting u site)) = keeps site e was.node was.address
        (steady_of was.node was.address (acting u site) was.named was.ports (every_map BindsNone (IsNoted t) u.notes.records (none_bound t) h.records)) in
        record {
          sites = put_every site_key IsIdleSite (record site { controller = (act (acting u site)).controller }) u.sites
              (record { node = was.node; address = was.address; named = k.address; ports = k.ports }) h.sites;
          records = every_map (IsNoted t) BindsNone (act (acting u site)).notes.records (none_noted was.node was.address) k.records;
        }

-- *A switch acts*, and binds nothing
switch_i : (u : World) (here : NodeId) (act : switches.ActedSwitch → switches.ActedSwitch) → ((a : switches.ActedSwitch) → Every BindsNone a.notes.records → Every BindsNone (act a).notes.records)
    → IsIdleWorld u → IsIdleWorld (at_switch u here act)
switch_i u here act none h = by (site_at u here) refl
  where
    by : (o : Option Site) → site_at u here ≡ o → IsIdleWorld (switch_acts u o act)
    by None e = record { sites = h.sites; records = h.records }
    by (Some site) e = (let a : switches.ActedSwitch = record { switch = site.switch; notes = u.notes; numbers = u.numbers } in record {
      sites = put_every site_key IsIdleSite (record site { switch = (act a).switch }) u.sites (at_every site_key IsIdleSite here.0 u.sites site h.sites e) h.sites;
      records = none a h.records;
    })

waiting : (a : switches.ActedSwitch) → Every BindsNone a.notes.records → Waits a a
waiting a none = record { queues = λ q c has. inl has; records = none }

tick_none : (a : switches.ActedSwitch) → Every BindsNone a.notes.records → Every BindsNone (switch.tick_comes a).notes.records
tick_none a none = (tick_kept (Waits a) (waits_kept a) a (waiting a none)).records

restart_none : (a : switches.ActedSwitch) → Every BindsNone a.notes.records → Every BindsNone (switch.restarted a).notes.records
restart_none a none = (restarted_kept (Waits a) (waits_kept a) a (waiting a none)).records

forged_none : (port : PortNo) (channel : Channel) (mark : Mark) (payload : List ℕ) (a : switches.ActedSwitch) → Every BindsNone a.notes.records → Every BindsNone (switch.forged a port channel mark payload).notes.records
forged_none port channel mark payload a none = on_both (λ (s : Sender Switch). Every BindsNone s.notes.records) (nat_le (length (frame_cells channel mark payload)) (free_slots a.switch))
    (record { queues = with_cells a.switch port (frame_cells channel mark payload); notes = made a.notes mark payload })
    (record { queues = a.switch; notes = noted (made a.notes mark payload) (Loss mark PoolFull) })
    none (every_more BindsNone a.notes.records (Loss mark PoolFull) none tt)

-- *A queue* holds other cells now
queued_i : (site : Site) (place : Place) (cells : List Cell) → IsIdleSite site → IsIdleSite (with_queue_in site place cells)
queued_i site (Down node) cells h = record { node = h.node; address = h.address; named = h.named; ports = h.ports }
queued_i site (Up node) cells h = h
queued_i site (Out node port) cells h = h

queue_i : (u : World) (place : Place) (cells : List Cell) → IsIdleWorld u → IsIdleWorld (with_queue u place cells)
queue_i u place cells h = by (site_at u (place_node place)) refl
  where
    by : (o : Option Site) → site_at u (place_node place) ≡ o → IsIdleWorld (with_queue_of u place cells o)
    by None e = record { sites = h.sites; records = h.records }
    by (Some site) e = record {
      sites = put_every site_key IsIdleSite (with_queue_in site place cells) u.sites
          (queued_i site place cells (at_every site_key IsIdleSite (place_node place).0 u.sites site h.sites e)) h.sites;
      records = h.records;
    }

-- *Each event*
module _ (topology : Topology) (w : World) (quiet : (node : NodeId) (site : Site) → site_at w node ≡ Some site → Every IsQuiet site.controller.ports) (h : IsIdleWorld w) where
  abbrev v : World
  v = put_away w

  v_idle : IsIdleWorld v
  v_idle = record { sites = h.sites; records = tt }

  -- a packet is sent
  injected_i : (node : NodeId) (octets : List ℕ) (o : Option Refusal) → IsIdleWorld (injects_by (record v { sent = w.sent + 1 }) node octets o)
  injected_i node octets (Some name) = record { sites = h.sites; records = (tt, tt) }
  injected_i node octets None = acts_i (record v { sent = w.sent + 1 }) node (λ a. injected a (w.sent + 1) octets)
      (λ site e number address k. (routes_i number address (acting v site) (record { packet = w.sent + 1; frame = 0 }) octets (record { steadily = k; quiet = quiet node site e })).steadily)
      (record { sites = h.sites; records = tt })

  -- a cell is carried to a controller, whose policies are those that they were
  up_quiet : (node : NodeId) (cells : List Cell) (site : Site) → site_at (with_queue v (Up node) cells) node ≡ Some site → Every IsQuiet site.controller.ports
  up_quiet node cells site e = by (site_at w node) refl e
    where
      some_site : (x y : Site) → Some x ≡ Some y → x ≡ y
      some_site x y e = cc e

      by : (o : Option Site) → site_at w node ≡ o → site_at (with_queue_of v (Up node) cells o) node ≡ Some site → Every IsQuiet site.controller.ports
      by None found e = absurd (none (sym found ∙ e))
        where
          none : None ≡ Some site → ⊥
          none e = cc e
      by (Some x) found e =
          let after : Site = with_queue_in x (Up node) cells in
          let key : site_key after ≡ node.0 = at_key site_key node.0 w.sites x found in
          let there : at site_key (site_key after) (put site_key after w.sites) ≡ Some after =
          at_put_same site_key after w.sites x (subst (λ (k : ℕ). at site_key k w.sites ≡ Some x) (sym key) found) in
          let same : after ≡ site = some_site after site (sym (subst (λ (k : ℕ). at site_key k (put site_key after w.sites) ≡ Some after) key there) ∙ e) in
          subst (λ (s : Site). Every IsQuiet s.controller.ports) same (quiet node x found)

  carried_i : (place : Place) (cells : List Cell) → IsIdleWorld (carries_head topology v place cells)
  carried_i place [] = v_idle
  carried_i (Down node) (cell ∷ cells) = switch_i (with_queue v (Down node) cells) node (λ a. switch.cell_comes a control_port cell) (λ a none. (comes a control_port cell none).records) (queue_i v (Down node) cells v_idle)
  carried_i (Up node) (cell ∷ cells) = acts_i (with_queue v (Up node) cells) node (λ a. cell_comes a cell)
      (λ site e number address k. cell_i number address (acting (with_queue v (Up node) cells) site) cell (record { steadily = k; quiet = up_quiet node cells site e }))
      (queue_i v (Up node) cells v_idle)
  carried_i (Out node port) (cell ∷ cells) = by (peer_of topology node port)
    where
      by : (o : Option LinkEnd) → IsIdleWorld (arrives_at (with_queue v (Out node port) cells) cell o)
      by None = queue_i v (Out node port) cells v_idle
      by (Some far) = switch_i (with_queue v (Out node port) cells) far.node (λ a. switch.cell_comes a far.port cell) (λ a none. (comes a far.port cell none).records) (queue_i v (Out node port) cells v_idle)

  lost_i : (place : Place) (cells : List Cell) → IsIdleWorld (loses_head v place cells)
  lost_i place [] = v_idle
  lost_i place (cell ∷ cells) = (let k : IsIdleWorld (with_queue v place cells) = queue_i v place cells v_idle in
      record { sites = k.sites; records = every_more BindsNone (with_queue v place cells).notes.records (Loss cell.mark Lost) k.records tt })

  -- a frame is forged
  forged_i : (place : Place) (channel : Channel) (payload : List ℕ) → IsIdleWorld (forges v place channel payload)
  forged_i place channel payload = by place
    where
      mark : Mark
      mark = next_control w.numbers

      u : World
      u = record v { notes = noted v.notes (Forged place); numbers = with_control w.numbers }

      k : IsIdleWorld u
      k = record { sites = h.sites; records = (tt, tt) }

      by : (here : Place) → IsIdleWorld (forges_at u here channel mark payload)
      by (Down node) = acts_i u node (λ a. sends a channel mark payload) (λ site e number address s. (sent_i number address (acting u site) channel mark payload (record { steadily = s; quiet = quiet node site e })).steadily) k
      by (Up node) = switch_i u node (λ a. switch.forged a control_port channel mark payload) (forged_none control_port channel mark payload) k
      by (Out node port) = switch_i u node (λ a. switch.forged a port channel mark payload) (forged_none port channel mark payload) k

  event_i : (event : Event) → IsIdleWorld (acts topology v event)
  event_i (Inject node octets) = injected_i node octets (inject_refusal octets)
  event_i (Carry place) = carried_i place (queue_at v place)
  event_i (Lose place) = lost_i place (queue_at v place)
  event_i (Tick node) = acts_i v node ticks (λ site e number address k. ticks_h (idle_terms number address) (λ port instance own. own) (λ port label flow held. tt) (acting v site) k) v_idle
  event_i (TickSwitch node) = switch_i v node switch.tick_comes tick_none v_idle
  event_i (Restart node) = acts_i v node node_restarts (λ site e number address k. node_restarts_h (idle_terms number address) (acting v site) k) v_idle
  event_i (RestartSwitch node) = switch_i v node switch.restarted restart_none v_idle
  event_i (Forge place channel payload) = forged_i place channel payload
  event_i (Route node change) = acts_i v node (λ a. change_comes a change) (λ site e number address k. change_comes_h (idle_terms number address) (acting v site) change k) v_idle

  pub next_i : (event : Event) → IsIdleWorld (next topology w event)
  next_i event = (let k : IsIdleWorld (acts topology v event) = event_i event in record { sites = k.sites; records = k.records })
