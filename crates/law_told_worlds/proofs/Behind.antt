-- a network behind an event: what each end of a link holds, and where the cells between two ends come from

use Rattle.std.proofs.Common.{◌≡◌, ◌≢◌, ℕ, ◌≤◌, Bool, true, false, List, [], Option, None, Some, refl, sym, ◌∙◌, ap, subst, arith, inl, inr}
use Rattle.std.specs.Prelude.{Contains, ◌⊎◌, ◌+◌, ◌*◌}
use Rattle.std.specs.Option.{option_map_or}
use Rattle.world_model.specs.Words.{NodeId, PortNo, Down, Up, Out, Channel, End, label_channel_of, Cell, Setup, home_of, Linked, linked_at, port_key, default_channel, default_home, same_channel, World, Site, site_at, site_key, with_site, queue_at, queue_in, linked_end, chain_at, on_channel, Past}
use Rattle.law_frame_readings.specs.ordered_lists.Ordered.{Every}
use Rattle.law_frame_readings.proofs.law_port_facts.Keyed.{at_key, at_every}
use Rattle.law_frame_readings.specs.law_port_facts.Port.{IsLabelEnd}
use Rattle.world_model.specs.Controller.{Acted}
use Rattle.world_model.specs.network_model.declared.link.LinkEnd.{LinkEnd}
use Rattle.world_model.specs.Topology.{peer_of}
use Rattle.law_frame_readings.specs.law_world_views.Between.{IsPortEnd, default, label, IsShapedBranch, home, out, joined}
use Rattle.law_frame_readings.proofs.law_world_views.Labels.{in_range_label}
use Rattle.law_running_worlds.proofs.law_causes.Shown.{IsPeer}
use Rattle.law_port_words.specs.Words.{Terms, IsSteadyAt, IsSent, IsNoted, IsSteadily}
use Rattle.law_unused_labels.proofs.Seen.{every_contained}
use Rattle.law_unused_labels.proofs.Reading.{filtered, above_32}
use Rattle.law_told_worlds.specs.Before.{end_at, quiet_terms, gsmp_terms, was_own}
use Rattle.law_told_worlds.proofs.Ways.{OnWay, in_chain, in_up, in_out, in_down, Less, less_way, queue_then, linked_then}
use Rattle.law_run_facts.proofs.law_controller.Ordering.{same_number}

-- *The words of an event* of a node, by whether a cell of GSMP comes there
abbrev pub event_terms : (of_gsmp : Bool) → Past → NodeId → Site → Terms
event_terms true past node site = record (gsmp_terms past node site.controller.address) { own = was_own past node site.controller.address }
event_terms false past node site = quiet_terms past node site.controller.address

module _ (past : Past) (then : World) where
  abbrev w : World
  w = past.now

  -- what an end holds behind the event: what it held before, or what the event of its node left
  pub record HasActed (of_gsmp : Bool) (node : NodeId) : Type 0 where
    pub site : Site
    pub found : site_at w node ≡ Some site
    pub noted : Every (IsNoted (event_terms of_gsmp past node site)) then.notes.records

  pub data EndSo (end : LinkEnd) (linked : Linked) : Type 0 where
    still : linked_end w end ≡ Some linked → EndSo end linked
    acted : (of_gsmp : Bool) (h : HasActed of_gsmp end.node) → IsSteadyAt (event_terms of_gsmp past end.node h.site) linked → linked.setup.port ≡ end.port → EndSo end linked

  -- a cell between two ends was there before, or is sent in the event
  pub data CellSo (from to : LinkEnd) (c : Cell) : Type 0 where
    was : (d : Cell) → OnWay w from to d → d.mark ≡ c.mark → CellSo from to c
    sent : (of_gsmp : Bool) (h : HasActed of_gsmp from.node) → IsSent (event_terms of_gsmp past from.node h.site) then.notes.records then.notes.frames then.numbers.controls c
        → same_channel c.header.channel (default_home from.port).channel ≡ true → CellSo from to c

  pub record IsBehind : Type 0 where
    pub ends : (end : LinkEnd) (linked : Linked) → linked_end then end ≡ Some linked → EndSo end linked
    pub cells : (from to : LinkEnd) → IsPeer past.topology from to → peer_of past.topology from.node from.port ≡ Some to → (c : Cell) → OnWay then from to c → CellSo from to c

-- nothing but cells are taken
pub less_behind : (past : Past) (u : World) → Less past.now u → IsBehind past u
less_behind past u less = record {
  ends = λ end linked e. still (sym (less.ends end) ∙ e);
  cells = λ from to peer there c way. was c (less_way past.now u less from to c way) refl;
}

module _ (past : Past) (u : World) (less : Less past.now u) (node : NodeId) (old site : Site) (old_found : site_at past.now node ≡ Some old) (found : site_at u node ≡ Some site) (of_gsmp : Bool) (a : Acted)
    (so : IsSteadily (event_terms of_gsmp past node old) a) where
  abbrev after : Site
  after = record site { controller = a.controller }

  abbrev pub then_acted : World
  then_acted = record (with_site u after) { notes = a.notes; numbers = a.numbers }

  abbrev t : Terms
  t = event_terms of_gsmp past node old

  node_is : t.node ≡ node
  node_is = by of_gsmp
    where
      by : (b : Bool) → (event_terms b past node old).node ≡ node
      by true = refl
      by false = refl

  own : after.controller.node ≡ site.controller.node
  own = so.address.1 ∙ (node_is ∙ ap (λ (n : ℕ). record { 0 = n }) (sym (at_key site_key node.0 u.sites site found)))

  abbrev pub has_acted : HasActed past then_acted of_gsmp node
  has_acted = record { site = old; found = old_found; noted = so.records }

  at_own : (port : PortNo) (linked : Linked) → linked_at a.controller port ≡ Some linked → IsSteadyAt t linked × (linked.setup.port ≡ port)
  at_own port linked e = (at_every port_key (IsSteadyAt t) port.0 a.controller.ports linked so.ports e, same_number linked.setup.port port (at_key port_key port.0 a.controller.ports linked e))

  acted_at : (end : LinkEnd) (linked : Linked) → end.node ≡ node → IsSteadyAt t linked → linked.setup.port ≡ end.port → EndSo past then_acted end linked
  acted_at end linked n steady port = subst (λ (m : NodeId). EndSo past then_acted (record { node = m; port = end.port }) linked) (sym n) (acted of_gsmp has_acted steady port)

  gathered_at : (port : PortNo) (cell : Cell) (of : Bool) → (event_terms of past node old).gathered port cell → Contains (chain_at past.now (end_at node port)) cell ⊎ Contains (on_channel (default_home port).channel (queue_at past.now (Up node))) cell
  gathered_at port cell true h = h
  gathered_at port cell false h = h

  chained : (from to : LinkEnd) (c : Cell) → Contains (chain_at then_acted to) c → CellSo past then_acted from to c
  chained from to c has = by (linked_end then_acted to) refl has
    where
      on : to.node ≡ node → (linked : Linked) → IsSteadyAt t linked → linked.setup.port ≡ to.port → Contains linked.reassembly.chain c → CellSo past then_acted from to c
      on n linked steady port h = elim (gathered_at linked.setup.port c of_gsmp (every_contained (t.gathered linked.setup.port) linked.reassembly.chain c steady.1 h)) [
        | inl chain ↦ was c (in_chain (subst (λ (m : NodeId). Contains (chain_at past.now (end_at m to.port)) c) (sym n) (subst (λ (p : PortNo). Contains (chain_at past.now (end_at node p)) c) port chain))) refl
        | inr up ↦ (let f : _ = filtered (λ x. same_channel x.header.channel (default_home linked.setup.port).channel) (queue_at past.now (Up node)) c up in
            was c (in_up (subst (λ (m : NodeId). Contains (queue_at past.now (Up m)) c) (sym n) f.0) (subst (λ (p : PortNo). same_channel c.header.channel (default_home p).channel ≡ true) port f.1)) refl)
      ]

      by : (o : Option Linked) → linked_end then_acted to ≡ o → Contains (option_map_or (λ x. x.reassembly.chain) o []) c → CellSo past then_acted from to c
      by None e h = absurd (omega (arith, h.1))
      by (Some linked) e h = linked_then u node site after found own (CellSo past then_acted from to c) to linked
          (λ n l. on n linked (at_own to.port linked l).0 (at_own to.port linked l).1 h)
          (λ l. was c (in_chain (subst (λ (o : Option Linked). Contains (option_map_or (λ x. x.reassembly.chain) o []) c) (sym (sym (less.ends to) ∙ l)) h)) refl) e

  cells_acted : (from to : LinkEnd) (c : Cell) → OnWay then_acted from to c → CellSo past then_acted from to c
  cells_acted from to c (in_chain has) = chained from to c has
  cells_acted from to c (in_up has e) = queue_then u node site after found own (CellSo past then_acted from to c) (Up to.node) c
      (λ n h. was c (in_up (less.queues (Up to.node) c (subst (λ (m : NodeId). Contains (queue_at u (Up m)) c) (sym n) (subst (λ (o : Option Site). Contains (option_map_or (λ s. queue_in s (Up node)) o []) c) (sym found) h))) e) refl)
      (λ h. was c (in_up (less.queues (Up to.node) c h) e) refl) has
  cells_acted from to c (in_out has e) = queue_then u node site after found own (CellSo past then_acted from to c) (Out from.node from.port) c
      (λ n h. was c (in_out (less.queues (Out from.node from.port) c (subst (λ (m : NodeId). Contains (queue_at u (Out m from.port)) c) (sym n) (subst (λ (o : Option Site). Contains (option_map_or (λ s. queue_in s (Out node from.port)) o []) c) (sym found) h))) e) refl)
      (λ h. was c (in_out (less.queues (Out from.node from.port) c h) e) refl) has
  cells_acted from to c (in_down has e) = queue_then u node site after found own (CellSo past then_acted from to c) (Down from.node) c
      (λ n h. subst (λ (m : NodeId). CellSo past then_acted (record { node = m; port = from.port }) to c) (sym n)
      (sent of_gsmp has_acted (every_contained (IsSent t a.notes.records a.notes.frames a.numbers.controls) a.controller.queue c so.cells h) e))
      (λ h. was c (in_down (less.queues (Down from.node) c h) e) refl) has

  pub controller_behind : IsBehind past then_acted
  controller_behind = record {
    ends = λ end linked e. linked_then u node site after found own (EndSo past then_acted end linked) end linked
        (λ n l. acted_at end linked n (at_own end.port linked l).0 (at_own end.port linked l).1) (λ l. still (sym (less.ends end) ∙ l)) e;
    cells = λ from to peer there c way. cells_acted from to c way;
  }

-- *Shapes* of what leads to and from a default channel

label_vci : (setups : List Setup) (end : End) → IsLabelEnd setups end → end.channel.vci ≢ 15
label_vci setups end is e = above_32 (label_channel_of is.number) (in_range_label is.setup is.number is.in_range) (sym (ap (λ (x : End). x.channel.vci) is.is) ∙ e)

module _ (setups : List Setup) (links : (end : End) → IsPortEnd setups end → 1 ≤ end.port.0) where
  -- to the controller, on a port's channel
  pub led_home : (input output : End) → IsShapedBranch setups input output → output.port.0 ≡ 0 → (port : PortNo) → output.channel ≡ (default_home port).channel → (input.port.0 ≡ port.0) × (input.channel ≡ default_channel)
  led_home _ _ (home end is) none port on = by end is (ap (λ (x : Channel). x.vpi) on) (ap (λ (x : Channel). x.vci) on)
    where
      by : (end : End) → IsPortEnd setups end → 16 * end.port.0 + end.channel.vpi ≡ 16 * port.0 + 0 → end.channel.vci ≡ 15 → (end.port.0 ≡ port.0) × (end.channel ≡ default_channel)
      by _ (default p linked) vpi vci = (omega (arith, vpi), refl)
      by _ (label e is) vpi vci = absurd (label_vci setups e is vci)
  led_home _ _ (out end is) none port on = absurd (omega (arith, none, links end is))
  led_home _ _ (joined input output from to) none port on = absurd (omega (arith, none, links output (label output to)))

  -- out to a link, on the default channel
  pub led_out : (input output : End) → IsShapedBranch setups input output → 1 ≤ output.port.0 → output.channel ≡ default_channel → (input.port.0 ≡ 0) × (input.channel ≡ (default_home output.port).channel)
  led_out _ _ (home end is) above on = absurd (omega (arith, above))
  led_out _ _ (out end is) above on = (refl, ap (λ (x : Channel). (home_of (record { port = end.port; channel = x })).channel) on)
  led_out _ _ (joined input output from to) above on = absurd (label_vci setups output to (ap (λ (x : Channel). x.vci) on))
