-- each event that forges no frame keeps the lists, and brings no break without a cause

use Rattle.std.proofs.Common.{◌≡◌, ◌≢◌, ℕ, ◌+◌, ◌≤◌, Bool, true, false, List, [], ◌∷◌, append-nil, Option, None, Some, refl, sym, ◌∙◌, ap, subst, arith, if◌then◌else◌}
use Rattle.std.specs.Prelude.{◌==◌, ◌&&◌, IsSome, is_some}
use Rattle.std.specs.Option.{option_map, option_map_or}
use Rattle.std.proofs.lemmas.Bool.Decides.{nat_tests}
use Rattle.law_cell_lists.specs.world_model.Words.{NodeId, PortNo, Place, Down, Up, Out, Channel, Cell, Lost, Refused, Loss, Refusal, PacketFault, stretch_from, at, put, control_port, gsmp_channel, same_channel, node_restarts, change_comes, inject_refusal, refused_by, injected, Topology, IsTopology, IsNode, IsPlace, IsEvent, World, Site, site_key, site_at, with_site, controller_acts, switch_acts, place_node, queue_in, queue_at, queue_number, with_queue, with_queue_of, with_queue_in, put_away, next, tallied, injects_by, carries_head, loses_head, arrives, arrives_at, OfController, OfSwitch, reassembly_at, cell_for, arrival, cut_turn}
use Rattle.law_cell_lists.specs.world_model.ipv4_packet.Packet.{first_fault}
use Rattle.law_cell_lists.specs.world_model.Switch as switch_of
use Rattle.law_cell_lists.specs.world_model.Conduct as switch
use Rattle.law_cell_lists.specs.world_model.Controller.{Acted}
use Rattle.law_cell_lists.specs.world_model.Cells as controller
use Rattle.law_cell_lists.specs.world_model.Ticks.{ticks}
use Rattle.law_cell_lists.specs.world_model.network_model.declared.event.Event.{Event}
use Rattle.law_cell_lists.specs.world_model.network_model.declared.event.Event.TheVariants.{Inject, Carry, Lose, Tick, TickSwitch, Restart, RestartSwitch, Forge, Route}
use Rattle.law_cell_lists.specs.world_model.network_model.declared.link.LinkEnd.{LinkEnd}
use Rattle.law_cell_lists.specs.world_model.Topology.{peer_of}
use Rattle.law_cell_lists.specs.world_model.Step.{note}
use Rattle.law_cell_lists.specs.world_model.Stretches.{Reassembler, controller_arrival, switch_arrival}
use Rattle.law_controller_bindings.proofs.law_controller.world_model.Lists.{at_key, at_put_same, at_put_other}
use Rattle.law_controller_bindings.proofs.law_port_facts.Keyed.{by_eq}
use Rattle.law_causes.proofs.Sizes.{fault_short}
use Rattle.law_causes.proofs.Rules.{Kept, ticks_kept, node_restarts_kept, change_comes_kept, routes_kept}
use Rattle.law_causes.proofs.Sites.{site_here}
use Rattle.law_causes.proofs.Shown.{far_inlet, peer_back}
use Rattle.law_causes.proofs.Turning.{no_cut, turns_without}
use Rattle.law_causes.proofs.Premises.{IsOrderly}
use Rattle.law_causes.proofs.Following.{Flows, Known, Follows, idle, acts_follows}
use Rattle.law_causes.proofs.Popping.{IsShowing}
use Rattle.law_causes.proofs.Crossing.{lost_follows, crosses}
use Rattle.law_causes.proofs.Gathering.{gathers}
use Rattle.law_causes.proofs.Restarting.{ticks_follow, restarts_follow}
use Rattle.law_causes.proofs.Arriving.{comes_follows}

-- *The nodes of a world* are those of its topology
abbrev pub HasNodes : Topology → World → Type 0
HasNodes t w = (n : NodeId) → IsNode t n → IsSome (site_at w n)

-- a site is put, and none is gone
stays_put : (sites : List Site) (site : Site) (k : ℕ) → IsSome (at site_key k sites) → IsSome (at site_key k (put site_key site sites))
stays_put sites site k some = by_eq (site_key site) k
    (λ e u. subst (λ (x : ℕ). IsSome (at site_key x (put site_key site sites))) e (by (at site_key (site_key site) sites) refl (subst (λ (x : ℕ). IsSome (at site_key x sites)) (sym e) some)))
    (λ d u. subst IsSome (sym (at_put_other site_key site k sites d)) some)
  where
    by : (o : Option Site) → at site_key (site_key site) sites ≡ o → IsSome (at site_key (site_key site) sites) → IsSome (at site_key (site_key site) (put site_key site sites))
    by None e some = absurd (cc (sym (ap is_some e) ∙ some))
    by (Some old) e some = subst IsSome (sym (at_put_same site_key site sites old e)) refl

-- *An event is one of these, and forges nothing*
abbrev pub IsTrue : Event → Type 0
IsTrue (Inject node octets) = Unit {0}
IsTrue (Carry place) = Unit {0}
IsTrue (Lose place) = Unit {0}
IsTrue (Tick node) = Unit {0}
IsTrue (TickSwitch node) = Unit {0}
IsTrue (Restart node) = Unit {0}
IsTrue (RestartSwitch node) = Unit {0}
IsTrue (Forge place channel payload) = ⊥
IsTrue (Route node change) = Unit {0}

module _ (t : Topology) (is : IsTopology t) (w : World) (begun : Reassembler → List Cell) (f : Flows t w begun) (k : Known w) (ordered : IsOrderly w) (nodes : HasNodes t w) where
  abbrev v : World
  v = put_away w

  -- *The sites stay*
  same_sites : (after : World) → after.sites ≡ w.sites → (taker : Reassembler) → reassembly_at after taker ≡ reassembly_at w taker
  same_sites after sites (OfController n channel) = ap (λ (x : List Site). reassembly_at (record w { sites = x }) (OfController n channel)) sites
  same_sites after sites (OfSwitch n) = ap (λ (x : List Site). reassembly_at (record w { sites = x }) (OfSwitch n)) sites

  still : (event : Event) (none : (taker : Reassembler) → cell_for taker (arrival w event) ≡ None) (after : World) → after.sites ≡ w.sites → after.notes.entries ≡ w.notes.entries → Follows t w begun event after
  still event none after sites entries = idle t w after begun event sites entries
      (λ taker. ap (stretch_from (begun taker)) (turns_without w after event taker (none taker) ∙ ap (cut_turn (reassembly_at w taker)) (same_sites after sites taker)) ∙ no_cut (begun taker) (reassembly_at w taker)) f k

  -- *A controller acts*
  acts_at : (event : Event) (none : (taker : Reassembler) → cell_for taker (arrival w event) ≡ None) (n : NodeId) (sent : ℕ) (act : Acted → Acted) (kept : (P : Acted → Type 0) → Kept P → (a : Acted) → P a → P (act a))
      → IsOrderly (tallied v (controller_acts (record v { sent = sent }) (site_at w n) act)) → Follows t w begun event (tallied v (controller_acts (record v { sent = sent }) (site_at w n) act))
  acts_at event none n sent act kept = by (site_at w n) refl
    where
      by : (o : Option Site) → site_at w n ≡ o → IsOrderly (tallied v (controller_acts (record v { sent = sent }) o act)) → Follows t w begun event (tallied v (controller_acts (record v { sent = sent }) o act))
      by None found orderly = still event none (tallied v (record v { sent = sent })) refl refl
      by (Some old) found orderly = acts_follows t is w begun event none f k ordered n old found sent act kept orderly

  -- *A packet enters*
  enters : (node : NodeId) (octets : List ℕ) (o : Option Refusal) → inject_refusal octets ≡ o → IsOrderly (tallied v (injects_by (record v { sent = w.sent + 1 }) node octets o))
      → Follows t w begun (Inject node octets) (tallied v (injects_by (record v { sent = w.sent + 1 }) node octets o))
  enters node octets (Some name) e orderly = still (Inject node octets) (λ taker. refl) (tallied v (note (record v { sent = w.sent + 1 }) (Refused node (w.sent + 1) name))) refl (append-nil w.notes.entries)
  enters node octets None e orderly = acts_at (Inject node octets) (λ taker. refl) node (w.sent + 1) (λ (a : Acted). injected a (w.sent + 1) octets)
      (λ P kept a h. routes_kept P kept a (record { packet = w.sent + 1; frame = 0 }) octets (fault_short octets (by (first_fault octets) refl e)) h) orderly
    where
      by : (x : Option PacketFault) → first_fault octets ≡ x → refused_by octets x ≡ None → first_fault octets ≡ None
      by None same none = same
      by (Some fault) same none = absurd (cc none)

  -- *A tick and a restart of a switch*
  switch_ticks : (n : NodeId) (o : Option Site) → site_at w n ≡ o → Follows t w begun (TickSwitch n) (tallied v (switch_acts v o switch.tick_comes))
  switch_ticks n None found = still (TickSwitch n) (λ taker. refl) (tallied v v) refl refl
  switch_ticks n (Some old) found = ticks_follow t is w begun f k ordered n old found (TickSwitch n) (λ taker. refl)

  switch_restarts : (n : NodeId) (o : Option Site) → site_at w n ≡ o → Follows t w begun (RestartSwitch n) (tallied v (switch_acts v o switch.restarted))
  switch_restarts n None found = still (RestartSwitch n) (λ taker. refl) (tallied v v) refl refl
  switch_restarts n (Some old) found = restarts_follow t is w begun f k ordered n old found (RestartSwitch n) (λ taker. refl)

  -- *A queue of the topology*
  showing : (place : Place) → IsPlace t place → IsShowing place
  showing (Down n) at = tt
  showing (Up n) at = tt
  showing (Out n p) at = by (peer_of t n p) refl
    where
      by : (o : Option LinkEnd) → peer_of t n p ≡ o → p.0 ≢ 0
      by None e = absurd (cc (sym (ap is_some e) ∙ at.1))
      by (Some far) e = (let own = (peer_back t is (record { node = n; port = p }) far e).own in λ z. omega (arith, own.0, z))

  low : (place : Place) → IsPlace t place → queue_number place ≤ 9
  low (Down n) at = omega arith
  low (Up n) at = omega arith
  low (Out n p) at = by (peer_of t n p) refl
    where
      by : (o : Option LinkEnd) → peer_of t n p ≡ o → queue_number (Out n p) ≤ 9
      by None e = absurd (cc (sym (ap is_some e) ∙ at.1))
      by (Some far) e = (let own = (peer_back t is (record { node = n; port = p }) far e).own in omega (arith, own.1))

  nobody : (place : Place) → site_at w (place_node place) ≡ None → queue_at w place ≡ []
  nobody place e = ap (λ (o : Option Site). option_map_or (λ (s : Site). queue_in s place) o []) e

  -- *A cell is lost*
  loses : (place : Place) → IsPlace t place → (queue : List Cell) → queue_at w place ≡ queue → Follows t w begun (Lose place) (tallied v (loses_head v place queue))
  loses place at [] first = still (Lose place) (λ taker. refl) (tallied v v) refl refl
  loses place at (c ∷ cells) first = by (site_at w (place_node place)) refl
    where
      by : (o : Option Site) → site_at w (place_node place) ≡ o → Follows t w begun (Lose place) (tallied v (note (with_queue_of v place cells o) (Loss c.mark Lost)))
      by None found = absurd (cc (sym first ∙ nobody place found))
      by (Some site) found = lost_follows t is w begun f k ordered place site found (showing place at) (low place at) cells c first (Lose place) (λ taker. refl) Lost refl

  -- *A cell is carried*
  carried_none : (place : Place) → queue_at w place ≡ [] → (taker : Reassembler) → cell_for taker (arrival w (Carry place)) ≡ None
  carried_none (Down n) e taker = ap (λ (q : List Cell). cell_for taker (switch_arrival n q)) e
  carried_none (Up n) e taker = ap (λ (q : List Cell). cell_for taker (controller_arrival n q)) e
  carried_none (Out n p) e taker = refl

  -- to a controller
  carries_up : (n : NodeId) (c : Cell) (cells : List Cell) → queue_at w (Up n) ≡ c ∷ cells → (o : Option Site) → site_at w n ≡ o
      → IsOrderly (tallied v (arrives t (with_queue_of v (Up n) cells o) (Up n) c)) → Follows t w begun (Carry (Up n)) (tallied v (arrives t (with_queue_of v (Up n) cells o) (Up n) c))
  carries_up n c cells first None found = absurd (cc (sym first ∙ nobody (Up n) found))
  carries_up n c cells first (Some site) found =
      let new : Site = with_queue_in site (Up n) cells in
      subst (λ (o : Option Site). IsOrderly (tallied v (controller_acts (with_site v new) o (λ (a : Acted). controller.cell_comes a c))) → Follows t w begun (Carry (Up n)) (tallied v (controller_acts (with_site v new) o (λ (a : Acted). controller.cell_comes a c))))
      (sym (site_here v n site new found (at_key site_key n.0 w.sites site found) n refl))
      (comes_follows t is w begun f k ordered n site found cells c first)

  -- to a switch from its controller
  down_none : (n : NodeId) (c : Cell) (cells : List Cell) → queue_at w (Down n) ≡ c ∷ cells → same_channel c.header.channel gsmp_channel ≡ false → (taker : Reassembler) → cell_for taker (arrival w (Carry (Down n))) ≡ None
  down_none n c cells first other taker =
      ap (λ (q : List Cell). cell_for taker (switch_arrival n q)) first ∙ ap (λ (v : Bool). cell_for taker (if v then Some (record { taker = OfSwitch n; cell = c }) else None)) other

  carries_site : (n : NodeId) (c : Cell) (cells : List Cell) → queue_at w (Down n) ≡ c ∷ cells → (site : Site) → site_at w n ≡ Some site → site_at (with_site v (with_queue_in site (Down n) cells)) n ≡ Some (with_queue_in site (Down n) cells)
      → (x : Bool) → same_channel c.header.channel gsmp_channel ≡ x
      → let new : Site = with_queue_in site (Down n) cells in
      let a : switch_of.ActedSwitch = record { switch = new.switch; notes = v.notes; numbers = v.numbers } in
      let done : switch_of.ActedSwitch = if x then switch.gsmp_cell a c else switch.switched_cell a control_port c in
      let after : World = tallied v (record (with_site (with_site v new) (record new { switch = done.switch })) { notes = done.notes; numbers = done.numbers }) in
      IsOrderly after → Follows t w begun (Carry (Down n)) after
  carries_site n c cells first site found there true gsmp orderly = gathers t is w begun f k ordered n site found cells c first gsmp orderly
  carries_site n c cells first site found there false other orderly = crosses t is w begun f k ordered (Down n) site found tt (omega arith) cells c first (Carry (Down n)) (down_none n c cells first other)
      n (with_queue_in site (Down n) cells) there control_port (ap (λ (x : Bool). if x then None else Some (record { node = n; input = record { port = control_port; channel = c.header.channel } })) other)

  carries_down : (n : NodeId) (c : Cell) (cells : List Cell) → queue_at w (Down n) ≡ c ∷ cells → (o : Option Site) → site_at w n ≡ o
      → IsOrderly (tallied v (arrives t (with_queue_of v (Down n) cells o) (Down n) c)) → Follows t w begun (Carry (Down n)) (tallied v (arrives t (with_queue_of v (Down n) cells o) (Down n) c))
  carries_down n c cells first None found = absurd (cc (sym first ∙ nobody (Down n) found))
  carries_down n c cells first (Some site) found =
      let new : Site = with_queue_in site (Down n) cells in
      let there : site_at (with_site v new) n ≡ Some new = site_here v n site new found (at_key site_key n.0 w.sites site found) n refl in
      subst (λ (o : Option Site). IsOrderly (tallied v (switch_acts (with_site v new) o (λ (a : switch_of.ActedSwitch). switch.cell_comes a control_port c))) → Follows t w begun (Carry (Down n)) (tallied v (switch_acts (with_site v new) o (λ (a : switch_of.ActedSwitch). switch.cell_comes a control_port c))))
      (sym there) (carries_site n c cells first site found there (same_channel c.header.channel gsmp_channel) refl)

  -- to a switch over a link
  not_gsmp : (port : PortNo) (channel : Channel) → port.0 ≢ 0 → switch.is_gsmp port channel ≡ false
  not_gsmp port channel some = ap (λ (x : Bool). x && ((channel.vpi == 0) && (channel.vci == 15))) (apart port.0 some)
    where
      apart : (q : ℕ) → q ≢ 0 → (q == 0) ≡ false
      apart q n = grind (arith, nat_tests)

  carries_out : (n : NodeId) (p : PortNo) → IsPlace t (Out n p) → (c : Cell) (cells : List Cell) → queue_at w (Out n p) ≡ c ∷ cells → (site : Site) → site_at w n ≡ Some site → (o : Option LinkEnd) → peer_of t n p ≡ o
      → Follows t w begun (Carry (Out n p)) (tallied v (arrives_at (with_site v (with_queue_in site (Out n p) cells)) c o))
  carries_out n p at c cells first site found None e = absurd (cc (sym (ap is_some e) ∙ at.1))
  carries_out n p at c cells first site found (Some far) e =
      by (site_at (with_site v (with_queue_in site (Out n p) cells)) far.node) refl (stays_put v.sites (with_queue_in site (Out n p) cells) far.node.0 (nodes far.node (peer_back t is (record { node = n; port = p }) far e).node))
    where
      far_port : far.port.0 ≢ 0
      far_port z = (let port = (peer_back t is (record { node = n; port = p }) far e).port in omega (arith, port.0, z))

      by : (o : Option Site) → site_at (with_site v (with_queue_in site (Out n p) cells)) far.node ≡ o → IsSome (site_at (with_site v (with_queue_in site (Out n p) cells)) far.node) → Follows t w begun (Carry (Out n p)) (tallied v (switch_acts (with_site v (with_queue_in site (Out n p) cells)) o (λ (a : switch_of.ActedSwitch). switch.cell_comes a far.port c)))
      by None there some = absurd (cc (sym (ap is_some there) ∙ some))
      by (Some old) there some =
          let a : switch_of.ActedSwitch = record { switch = old.switch; notes = v.notes; numbers = v.numbers } in
          subst (λ (x : Bool).
          let done : switch_of.ActedSwitch = if x then switch.gsmp_cell a c else switch.switched_cell a far.port c in
          Follows t w begun (Carry (Out n p)) (tallied v (record (with_site (with_site v (with_queue_in site (Out n p) cells)) (record old { switch = done.switch })) { notes = done.notes; numbers = done.numbers })))
          (sym (not_gsmp far.port c.header.channel far_port))
          (crosses t is w begun f k ordered (Out n p) site found (showing (Out n p) at) (low (Out n p) at) cells c first (Carry (Out n p)) (λ taker. refl) far.node old there far.port
          (ap (option_map (far_inlet c.header.channel)) e))

  carries : (place : Place) → IsPlace t place → (queue : List Cell) → queue_at w place ≡ queue → IsOrderly (tallied v (carries_head t v place queue)) → Follows t w begun (Carry place) (tallied v (carries_head t v place queue))
  carries place at [] first orderly = still (Carry place) (carried_none place first) (tallied v v) refl refl
  carries (Down n) at (c ∷ cells) first orderly = carries_down n c cells first (site_at w n) refl orderly
  carries (Up n) at (c ∷ cells) first orderly = carries_up n c cells first (site_at w n) refl orderly
  carries (Out n p) at (c ∷ cells) first orderly = by (site_at w n) refl
    where
      by : (o : Option Site) → site_at w n ≡ o → Follows t w begun (Carry (Out n p)) (tallied v (arrives_at (with_queue_of v (Out n p) cells o) c (peer_of t n p)))
      by None found = absurd (cc (sym first ∙ nobody (Out n p) found))
      by (Some site) found = carries_out n p at c cells first site found (peer_of t n p) refl

  -- *Each event*
  pub event_follows : (event : Event) → IsEvent t w event → IsTrue event → IsOrderly (next t w event) → Follows t w begun event (next t w event)
  event_follows (Inject node octets) meant tame orderly = enters node octets (inject_refusal octets) refl orderly
  event_follows (Carry place) meant tame orderly = carries place meant (queue_at w place) refl orderly
  event_follows (Lose place) meant tame orderly = loses place meant (queue_at w place) refl
  event_follows (Tick node) meant tame orderly = acts_at (Tick node) (λ taker. refl) node w.sent ticks (λ P kept a h. ticks_kept P kept a h) orderly
  event_follows (TickSwitch node) meant tame orderly = switch_ticks node (site_at w node) refl
  event_follows (Restart node) meant tame orderly = acts_at (Restart node) (λ taker. refl) node w.sent node_restarts (λ P kept a h. node_restarts_kept P kept a h) orderly
  event_follows (RestartSwitch node) meant tame orderly = switch_restarts node (site_at w node) refl
  event_follows (Forge place channel payload) meant tame orderly = absurd tame
  event_follows (Route node change) meant tame orderly = acts_at (Route node change) (λ taker. refl) node w.sent (λ (a : Acted). change_comes a change) (λ P kept a h. change_comes_kept P kept a change h) orderly

  -- *The nodes stay*
  put_nodes : (u : World) (site : Site) → HasNodes t u → HasNodes t (with_site u site)
  put_nodes u site h n at = stays_put u.sites site n.0 (h n at)

  controller_nodes : (u : World) (o : Option Site) (act : Acted → Acted) → HasNodes t u → HasNodes t (controller_acts u o act)
  controller_nodes u None act h = h
  controller_nodes u (Some site) act h = put_nodes u (record site { controller = (act (record { controller = site.controller; notes = u.notes; numbers = u.numbers })).controller }) h

  switch_nodes : (u : World) (o : Option Site) (act : switch_of.ActedSwitch → switch_of.ActedSwitch) → HasNodes t u → HasNodes t (switch_acts u o act)
  switch_nodes u None act h = h
  switch_nodes u (Some site) act h = put_nodes u (record site { switch = (act (record { switch = site.switch; notes = u.notes; numbers = u.numbers })).switch }) h

  queue_nodes : (place : Place) (cells : List Cell) (o : Option Site) → HasNodes t (with_queue_of v place cells o)
  queue_nodes place cells None = nodes
  queue_nodes place cells (Some site) = put_nodes v (with_queue_in site place cells) nodes

  carried_nodes : (place : Place) (queue : List Cell) → HasNodes t (carries_head t v place queue)
  carried_nodes place [] = nodes
  carried_nodes (Down n) (c ∷ cells) = (let u : World = with_queue v (Down n) cells in switch_nodes u (site_at u n) (λ (a : switch_of.ActedSwitch). switch.cell_comes a control_port c) (queue_nodes (Down n) cells (site_at v n)))
  carried_nodes (Up n) (c ∷ cells) = (let u : World = with_queue v (Up n) cells in controller_nodes u (site_at u n) (λ (a : Acted). controller.cell_comes a c) (queue_nodes (Up n) cells (site_at v n)))
  carried_nodes (Out n p) (c ∷ cells) = by (peer_of t n p)
    where
      by : (o : Option LinkEnd) → HasNodes t (arrives_at (with_queue v (Out n p) cells) c o)
      by None = queue_nodes (Out n p) cells (site_at v n)
      by (Some far) = (let u : World = with_queue v (Out n p) cells in switch_nodes u (site_at u far.node) (λ (a : switch_of.ActedSwitch). switch.cell_comes a far.port c) (queue_nodes (Out n p) cells (site_at v n)))

  lost_nodes : (place : Place) (queue : List Cell) → HasNodes t (loses_head v place queue)
  lost_nodes place [] = nodes
  lost_nodes place (c ∷ cells) = queue_nodes place cells (site_at v (place_node place))

  entered_nodes : (node : NodeId) (octets : List ℕ) (o : Option Refusal) → HasNodes t (injects_by (record v { sent = w.sent + 1 }) node octets o)
  entered_nodes node octets (Some name) = nodes
  entered_nodes node octets None = controller_nodes (record v { sent = w.sent + 1 }) (site_at v node) (λ (a : Acted). injected a (w.sent + 1) octets) nodes

  pub event_nodes : (event : Event) → IsTrue event → HasNodes t (next t w event)
  event_nodes (Inject node octets) tame = entered_nodes node octets (inject_refusal octets)
  event_nodes (Carry place) tame = carried_nodes place (queue_at w place)
  event_nodes (Lose place) tame = lost_nodes place (queue_at w place)
  event_nodes (Tick node) tame = controller_nodes v (site_at v node) ticks nodes
  event_nodes (TickSwitch node) tame = switch_nodes v (site_at v node) switch.tick_comes nodes
  event_nodes (Restart node) tame = controller_nodes v (site_at v node) node_restarts nodes
  event_nodes (RestartSwitch node) tame = switch_nodes v (site_at v node) switch.restarted nodes
  event_nodes (Forge place channel payload) tame = absurd tame
  event_nodes (Route node change) tame = controller_nodes v (site_at v node) (λ (a : Acted). change_comes a change) nodes
