-- a network behind what a switch does

use Rattle.std.proofs.Common.{◌≡◌, ℕ, ◌≤◌, true, List, [], Option, None, Some, refl, sym, ◌∙◌, ap, subst, arith, inl, inr}
use Rattle.std.specs.Prelude.{Contains, ◌⊎◌, is_some}
use Rattle.std.specs.Option.{option_map, option_map_or, option_and_then}
use Rattle.world_model.specs.Words.{NodeId, PortNo, Down, Up, Out, Channel, End, Cell, IsLinkPort, queue_of, control_port, gsmp_channel, at, Setup, Controller, Linked, linked_at, default_channel, default_home, same_channel, World, Site, site_at, with_site, queue_at, queue_in, linked_end, Past}
use Rattle.world_model.specs.crossbar_model.Crossbar.{output_of, input_of}
use Rattle.law_frame_readings.specs.ordered_lists.Ordered.{Every}
use Rattle.world_model.specs.Switch as switches
use Rattle.law_frame_readings.proofs.law_port_facts.Keyed.{at_key, at_every}
use Rattle.law_frame_readings.specs.law_port_facts.Port.{setup_port}
use Rattle.law_frame_readings.proofs.law_shown_cells.Frames.{same_is}
use Rattle.world_model.specs.network_model.declared.link.LinkEnd.{LinkEnd}
use Rattle.world_model.specs.Topology.{peer_of}
use Rattle.law_frame_readings.specs.law_world_views.Between.{IsPortEnd, default, label, IsShapedBranch}
use Rattle.law_running_worlds.proofs.law_causes.Shown.{IsPeer}
use Rattle.law_packet_worlds.proofs.law_way_words.Switching.{IsPassed, of_gsmp, crossed}
use Rattle.law_packet_worlds.proofs.law_way_words.Switching as switching
use Rattle.law_told_worlds.proofs.Ways.{OnWay, in_chain, in_up, in_out, in_down, Less, queue_then, linked_then}
use Rattle.law_told_worlds.proofs.Behind.{still, CellSo, was, IsBehind, led_home, led_out}

-- *Ports of links* are above 0
pub port_above : (setups : List Setup) → Every (λ (setup : Setup). IsLinkPort setup.port) setups → (end : End) → IsPortEnd setups end → 1 ≤ end.port.0
port_above setups links end is = by end is
  where
    linked_above : (port : PortNo) (o : Option Setup) → at setup_port port.0 setups ≡ o → is_some o ≡ true → 1 ≤ port.0
    linked_above port None e there = absurd (cc there)
    linked_above port (Some setup) e there = (let h : IsLinkPort setup.port = at_every setup_port (λ (s : Setup). IsLinkPort s.port) port.0 setups setup links e in omega (arith, h.0, at_key setup_port port.0 setups setup e))

    by : (end : End) → IsPortEnd setups end → 1 ≤ end.port.0
    by _ (default port is) = linked_above port (at setup_port port.0 setups) refl is
    by _ (label end is) = (let h : IsLinkPort is.setup.port = at_every setup_port (λ (s : Setup). IsLinkPort s.port) is.setup.port.0 setups is.setup links is.linked in
        omega (arith, h.0, ap (λ (e : End). e.port.0) is.is))

-- GSMP's channel is no port's
gsmp_other : (port : PortNo) (c : Cell) → 1 ≤ port.0 → c.header.channel ≡ gsmp_channel → same_channel c.header.channel (default_home port).channel ≡ true → ⊥
gsmp_other port c above on e = omega (arith, above, ap (λ (x : Channel). x.vpi) (sym on ∙ same_is c.header.channel (default_home port).channel e))

module _ (past : Past) (u : World) (less : Less past.now u) (node : NodeId) (site : Site) (found : site_at u node ≡ Some site) (b : switches.ActedSwitch) where
  abbrev after : Site
  after = record site { switch = b.switch }

  abbrev pub then_switched : World
  then_switched = record (with_site u after) { notes = b.notes; numbers = b.numbers }

  -- what comes to a controller, and what goes out by a link, is accounted for
  abbrev pub UpsAreSo : Type 0
  UpsAreSo = (from to : LinkEnd) → IsPeer past.topology from to → peer_of past.topology from.node from.port ≡ Some to → (c : Cell) → to.node ≡ node → Contains (queue_of b.switch.crossbar control_port) c
      → same_channel c.header.channel (default_home to.port).channel ≡ true → CellSo past then_switched from to c

  abbrev pub OutsAreSo : Type 0
  OutsAreSo = (from to : LinkEnd) → IsPeer past.topology from to → peer_of past.topology from.node from.port ≡ Some to → (c : Cell) → from.node ≡ node → Contains (queue_of b.switch.crossbar from.port) c
      → same_channel c.header.channel default_channel ≡ true → CellSo past then_switched from to c

  in_site : (end : LinkEnd) → end.node ≡ node → linked_end u end ≡ linked_at site.controller end.port
  in_site end n = ap (λ (o : Option Site). option_and_then (λ (c : Controller). linked_at c end.port) (option_map (λ (s : Site). s.controller) o)) (ap (site_at u) n ∙ found)

  pub switched_behind : UpsAreSo → OutsAreSo → IsBehind past then_switched
  switched_behind ups outs = record {
    ends = λ end linked e. still (sym (less.ends end) ∙ ends end linked e);
    cells = cells;
  }
    where
      ends : (end : LinkEnd) (linked : Linked) → linked_end then_switched end ≡ Some linked → linked_end u end ≡ Some linked
      ends end linked e = linked_then u node site after found refl (linked_end u end ≡ Some linked) end linked (λ n l. in_site end n ∙ l) (λ l. l) e

      cells : (from to : LinkEnd) → IsPeer past.topology from to → peer_of past.topology from.node from.port ≡ Some to → (c : Cell) → OnWay then_switched from to c → CellSo past then_switched from to c
      cells from to peer there c (in_chain has) = by (linked_end then_switched to) refl has
        where
          by : (o : Option Linked) → linked_end then_switched to ≡ o → Contains (option_map_or (λ x. x.reassembly.chain) o []) c → CellSo past then_switched from to c
          by None e h = absurd (omega (arith, h.1))
          by (Some linked) e h = was c (in_chain (subst (λ (o : Option Linked). Contains (option_map_or (λ x. x.reassembly.chain) o []) c) (sym (sym (less.ends to) ∙ ends to linked e)) h)) refl
      cells from to peer there c (in_up has e) = queue_then u node site after found refl (CellSo past then_switched from to c) (Up to.node) c (λ n h. ups from to peer there c n h e) (λ h. was c (in_up (less.queues (Up to.node) c h) e) refl) has
      cells from to peer there c (in_out has e) = queue_then u node site after found refl (CellSo past then_switched from to c) (Out from.node from.port) c (λ n h. outs from to peer there c n h e)
          (λ h. was c (in_out (less.queues (Out from.node from.port) c h) e) refl) has
      cells from to peer there c (in_down has e) = queue_then u node site after found refl (CellSo past then_switched from to c) (Down from.node) c
          (λ n h. was c (in_down (less.queues (Down from.node) c (subst (λ (m : NodeId). Contains (queue_at u (Down m)) c) (sym n) (subst (λ (o : Option Site). Contains (option_map_or (λ s. queue_in s (Down node)) o []) c) (sym found) h))) e) refl)
          (λ h. was c (in_down (less.queues (Down from.node) c h) e) refl) has

  -- *Cells that were there*
  was_up : (from to : LinkEnd) (c : Cell) → to.node ≡ node → Contains (queue_of site.switch.crossbar control_port) c → same_channel c.header.channel (default_home to.port).channel ≡ true → CellSo past then_switched from to c
  was_up from to c n h e = was c (in_up (less.queues (Up to.node) c (subst (λ (m : NodeId). Contains (queue_at u (Up m)) c) (sym n) (subst (λ (o : Option Site). Contains (option_map_or (λ s. queue_in s (Up node)) o []) c) (sym found) h))) e) refl

  was_out : (from to : LinkEnd) (c : Cell) → from.node ≡ node → Contains (queue_of site.switch.crossbar from.port) c → same_channel c.header.channel default_channel ≡ true → CellSo past then_switched from to c
  was_out from to c n h e = was c (in_out (less.queues (Out from.node from.port) c (subst (λ (m : NodeId). Contains (queue_at u (Out m from.port)) c) (sym n) (subst (λ (o : Option Site). Contains (option_map_or (λ s. queue_in s (Out node from.port)) o []) c) (sym found) h))) e) refl

  -- *A tick and a restart*: nothing comes but of GSMP
  pub waiting_behind : ((q : PortNo) (c : Cell) → Contains (queue_of b.switch.crossbar q) c → Contains (queue_of site.switch.crossbar q) c ⊎ ((0 ≡ q.0) × (c.header.channel ≡ gsmp_channel))) → IsBehind past then_switched
  waiting_behind waits = switched_behind
      (λ from to peer there c n h e. elim (waits control_port c h) [ inl w ↦ was_up from to c n w e | inr g ↦ absurd (gsmp_other to.port c peer.port.0 g.1 e) ])
      (λ from to peer there c n h e. elim (waits from.port c h) [ inl w ↦ was_out from to c n w e | inr g ↦ absurd (omega (arith, g.0, peer.own.0)) ])

  -- *A cell comes*: it goes where its branch leads
  module _ (port : PortNo) (cell : Cell) (setups : List Setup) (links : Every (λ (setup : Setup). IsLinkPort setup.port) setups)
      (shaped : (input output : End) → output_of site.switch.crossbar.branches input ≡ Some output → IsShapedBranch setups input output)
      (passes : (a : switches.ActedSwitch) → a.switch ≡ site.switch → (q : PortNo) (c : Cell) → Contains (queue_of b.switch.crossbar q) c → IsPassed a port cell q c) where
    -- where it came in on the default channel of the end, or of the end's port from the controller
    abbrev pub ComesIn : Type 0
    ComesIn = (from to : LinkEnd) → IsPeer past.topology from to → peer_of past.topology from.node from.port ≡ Some to → to.node ≡ node → port.0 ≡ to.port.0 → cell.header.channel ≡ default_channel → OnWay past.now from to cell

    abbrev pub GoesOut : Type 0
    GoesOut = (from to : LinkEnd) → IsPeer past.topology from to → peer_of past.topology from.node from.port ≡ Some to → from.node ≡ node → port.0 ≡ 0 → cell.header.channel ≡ (default_home from.port).channel → OnWay past.now from to cell

    pub passed_behind : switches.ActedSwitch → ComesIn → GoesOut → IsBehind past then_switched
    passed_behind first comes_in goes_out = switched_behind (λ from to peer there c n h e. up from to peer there c n e (passes a0 refl control_port c h)) (λ from to peer there c n h e. go from to peer there c n e (passes a0 refl from.port c h))
      where
        a0 : switches.ActedSwitch
        a0 = record first { switch = site.switch }

        up : (from to : LinkEnd) → IsPeer past.topology from to → peer_of past.topology from.node from.port ≡ Some to → (c : Cell) → to.node ≡ node → same_channel c.header.channel (default_home to.port).channel ≡ true
            → IsPassed (record first { switch = site.switch }) port cell control_port c → CellSo past then_switched from to c
        up from to peer there c n e (switching.was w) = was_up from to c n w e
        up from to peer there c n e (of_gsmp q g) = absurd (gsmp_other to.port c peer.port.0 g e)
        up from to peer there c n e (crossed output leads q mark channel) =
            let in_home = led_home setups (port_above setups links) (input_of port cell) output (shaped (input_of port cell) output leads) q to.port (sym channel ∙ same_is c.header.channel (default_home to.port).channel e) in
            was cell (comes_in from to peer there n in_home.0 in_home.1) (sym mark)

        go : (from to : LinkEnd) → IsPeer past.topology from to → peer_of past.topology from.node from.port ≡ Some to → (c : Cell) → from.node ≡ node → same_channel c.header.channel default_channel ≡ true
            → IsPassed (record first { switch = site.switch }) port cell from.port c → CellSo past then_switched from to c
        go from to peer there c n e (switching.was w) = was_out from to c n w e
        go from to peer there c n e (of_gsmp q g) = absurd (omega (arith, q, peer.own.0))
        go from to peer there c n e (crossed output leads q mark channel) =
            let out_by = led_out setups (port_above setups links) (input_of port cell) output (shaped (input_of port cell) output leads) (omega (arith, q, peer.own.0)) (sym channel ∙ same_is c.header.channel default_channel e) in
            was cell (goes_out from to peer there n out_by.0 (out_by.1 ∙ ap (λ (k : ℕ). (default_home (record { 0 = k })).channel) q)) (sym mark)
