-- a network that opens: no frame was made, no label is granted, and each port waits until it is cleared

use Rattle.std.proofs.Common.{◌≡◌, ℕ, suc, ◌+◌, List, [], ◌∷◌, Option, None, Some, refl, sym, ◌∙◌, ap, subst, arith}
use Rattle.std.specs.Prelude.{Contains}
use Rattle.std.specs.Option.{option_map, option_map_or, option_and_then}
use Rattle.world_model.specs.Words.{Mark, Peer, Clearing, Side, fresh, router, Frame, Policy, Setup, Grant, Controller, Linked, port_key, linked_at, setup_of, opens_ports, Topology, Node, ranges_of, timers_of, World, Site, site_key, site_at, empty_world, opened_site, with_opened, opens_each, linked_end, side_at, grants_at, ifmp_under, past_of, label_channel_of, Redirect}
use Rattle.world_model.specs.ifmp_wire.declared.message.Message.{Message}
use Rattle.law_frame_readings.specs.ordered_lists.Ordered.{Every}
use Rattle.law_frame_readings.proofs.law_port_facts.Keyed.{at_every, every_more}
use Rattle.world_model.specs.controller_model.declared.range.PortRange.{PortRange}
use Rattle.world_model.specs.network_model.declared.link.LinkEnd.{LinkEnd}
use Rattle.world_model.specs.World.{opened}
use Rattle.law_frame_readings.specs.law_world_views.Tied.{HasClearedInstances}
use Rattle.law_frame_readings.specs.law_world_views.Between.{HasAllCleared, HasAllUsers}
use Rattle.law_frame_readings.specs.law_world_views.Kept.{Begins}
use Rattle.law_frame_readings.specs.law_world_views.Shown.{end_of}
use Rattle.law_label_line.specs.Cells.{Upstream}

-- *A port* in its opening state
record IsNewPort (linked : Linked) : Type 0 where
  pub instance : ℕ
  pub side : linked.port.adjacency ≡ fresh Clearing (router linked.setup.address instance)
  pub grants : linked.port.grants ≡ []

abbrev HasNewPorts : Site → Type 0
HasNewPorts site = Every IsNewPort site.controller.ports

new_ports : (setup : PortRange → Setup) (instances : ℕ) (ranges : List PortRange) → Every IsNewPort (opens_ports setup instances ranges)
new_ports setup instances [] = tt
new_ports setup instances (range ∷ ranges) = (record { instance = instances + 1; side = refl; grants = refl }, new_ports setup (instances + 1) ranges)

new_each : (policy : Policy) (topology : Topology) (w : World) (place : ℕ) (nodes : List Node) → Every HasNewPorts w.sites → Every HasNewPorts (opens_each policy topology w place nodes).sites
new_each policy topology w place [] all = all
new_each policy topology w place (node ∷ nodes) all = new_each policy topology (with_opened policy topology w place node) (suc place) nodes
    (every_more HasNewPorts w.sites (opened_site policy topology (record { 0 = place }) node w.numbers) all
    (new_ports (setup_of (record { 0 = place }) node.address (timers_of topology) policy) (w.numbers.instances + 1) (ranges_of topology (record { 0 = place }) node)))

no_frames : (policy : Policy) (topology : Topology) (w : World) (place : ℕ) (nodes : List Node) → (opens_each policy topology w place nodes).notes.frames ≡ w.notes.frames
no_frames policy topology w place [] = refl
no_frames policy topology w place (node ∷ nodes) = no_frames policy topology (with_opened policy topology w place node) (suc place) nodes

module _ (policy : Policy) (topology : Topology) where
  abbrev w : World
  w = opened policy topology

  -- no frame says anything
  says_nothing : (mark : Mark) (message : Message) → ifmp_under w.notes.frames mark ≡ Some message → ⊥
  says_nothing mark message says = none (subst (λ (frames : List Frame). ifmp_under frames mark ≡ Some message) (no_frames policy topology empty_world 1 topology.nodes) says)
    where
      none : ifmp_under [] mark ≡ Some message → ⊥
      none e = cc e

  new_end : (end : LinkEnd) (linked : Linked) → linked_end w end ≡ Some linked → IsNewPort linked
  new_end end linked e = by (site_at w end.node) refl e
    where
      by : (o : Option Site) → site_at w end.node ≡ o → option_and_then (λ (c : Controller). linked_at c end.port) (option_map (λ (s : Site). s.controller) o) ≡ Some linked → IsNewPort linked
      by None found f = absurd (cc f)
      by (Some site) found f = at_every port_key IsNewPort end.port.0 site.controller.ports linked (at_every site_key HasNewPorts end.node.0 w.sites site (new_each policy topology empty_world 1 topology.nodes tt) found) f

  -- each port that there is waits, and has stored nobody
  new_side : (P : Type 0) (end : LinkEnd) (side : Side Peer) → side_at w end ≡ Some side → (side.state ≡ Clearing → side.stored ≡ None → P) → P
  new_side P end side e so = by (linked_end w end) refl e
    where
      some_same : (x y : Side Peer) → Some x ≡ Some y → x ≡ y
      some_same x y f = cc f

      by : (o : Option Linked) → linked_end w end ≡ o → option_map (λ (x : Linked). x.port.adjacency) o ≡ Some side → P
      by None is f = absurd (cc f)
      by (Some linked) is f =
          let new : IsNewPort linked = new_end end linked is in
          let same : side ≡ fresh Clearing (router linked.setup.address new.instance) = sym (some_same linked.port.adjacency side f) ∙ new.side in
          so (ap (λ (x : Side Peer). x.state) same) (ap (λ (x : Side Peer). x.stored) same)

  no_grants : (end : LinkEnd) (grant : Grant) → Contains (grants_at w end) grant → ⊥
  no_grants end grant has = by (linked_end w end) refl has
    where
      by : (o : Option Linked) → linked_end w end ≡ o → Contains (option_map_or (λ (x : Linked). x.port.grants) o []) grant → ⊥
      by None is h = omega (arith, h.1)
      by (Some linked) is h = (let none : Contains [] grant = subst (λ (gs : List Grant). Contains gs grant) (new_end end linked is).grants h in omega (arith, none.1))

  instances_begin : (from to : LinkEnd) → HasClearedInstances (past_of policy topology []) from to
  instances_begin from to = record {
    opened = λ side e live. absurd (new_side ⊥ from side e (λ clearing none. live clearing));
    said = λ cell message has says tells. absurd (says_nothing cell.mark message says);
    stored = λ side other e stored. absurd (new_side ⊥ to side e (λ clearing none. cc (sym none ∙ stored)));
  }

pub cleared_begin : Begins HasAllCleared
cleared_begin policy topology is addresses way on = (instances_begin policy topology way.down way.up, instances_begin policy topology way.up way.down)

pub users_begin : Begins HasAllUsers
users_begin policy topology is addresses link of = record {
  grants = λ grant has same. absurd (no_grants policy topology (end_of Upstream link) grant has);
  redirects = λ cell sender other number lifetime flow has says. absurd (says_nothing policy topology cell.mark (Redirect sender other number lifetime (label_channel_of link.label) flow) says);
}
