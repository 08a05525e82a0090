-- ports that are up, through the ticks of a beat, and the desk of their node

use Rattle.std.proofs.Common.{◌≡◌, ◌⊎◌, inl, inr, ℕ, Bool, true, false, true≢false, List, ◌∷◌, ◌++◌, Option, None, Some, refl, sym, ◌∙◌, ap, subst}
use Rattle.std.specs.Prelude.{is_some}
use Rattle.std.specs.Option.{option_map, option_map_or}
use Rattle.world_model.specs.Words.{NodeId, PortNo, Policy, Estab, Peer, Side, Setup, tick_comes, is_clearing, is_linked, at, Controller, Linked, linked_at, port_key, Session, Topology, World, Site, site_at, IsShaped, put_away, next, tick_of_all, world_after, past_of}
use Rattle.world_model.specs.Controller.{Acted}
use Rattle.world_model.specs.Ticks.{ticks}
use Rattle.world_model.specs.network_model.declared.link.LinkEnd.{LinkEnd}
use Rattle.world_model.specs.network_model.declared.event.Event.{Event}
use Rattle.world_model.specs.network_model.declared.event.Event.TheVariants.{Tick, TickSwitch}
use Rattle.world_model.proofs.Lists.{by_eq, at_key}
use Rattle.law_passing.proofs.Controllers.{ticks_adds}
use Rattle.law_live_peace.specs.law_run_facts.ordered_lists.Ordered.{Every, InOrder}
use Rattle.law_live_peace.specs.law_run_facts.law_controller_facts.Sound.{AreApart, ArePorts, linked_setup, IsShutLinked}
use Rattle.law_live_peace.specs.law_run_facts.law_world_views.Between.{setups_of}
use Rattle.law_live_peace.specs.law_run_facts.Nodes.{HasPort, IsNodeOfRun}
use Rattle.law_live_peace.proofs.law_run_facts.ordered_lists.Every.{every_map}
use Rattle.law_live_peace.proofs.law_run_facts.ordered_lists.InOrder.{order_unmapped}
use Rattle.law_live_peace.proofs.law_run_facts.law_port_facts.Keyed.{at_every, each_found}
use Rattle.law_live_peace.proofs.law_run_facts.Nodes.{runs_have_nodes}
use Rattle.law_live_peace.specs.law_live_nodes.Law.{idle_work, IsNodeAtPeace, ticked_port}
use Rattle.law_live_ticks.specs.Law.{next_port}
use Rattle.law_live_unseen.specs.Law.{AreAlike}
use Rattle.law_live_ports.specs.Law.{MayJoinAll, IsLeft}
use Rattle.law_live_ports.proofs.Ticking.{ports_left}
use Rattle.law_live_peace.specs.law_live_worlds.Law.{IsCalm}
use Rattle.law_live_peace.specs.law_live_hearing.Law.{world_at}
use Rattle.law_live_peace.proofs.law_live_control_links.Sites.{controller_here, controller_elsewhere}
use Rattle.law_live_peace.proofs.law_live_ways.Links.{met_stand_none}
use Rattle.law_live_calm_nodes.specs.Ports.{IsPortUp, AgreedPortsAreUp, TicksKeepUp, UpNodesStandNone}
use Rattle.law_live_calm_nodes.proofs.Parts.{along, part_at, switch_part}
use Rattle.law_live_calm_nodes.proofs.Ticks.{IsTick, of_controller, of_switch, all_ticks, site_waits}

pub agreed_ports_are_up : AgreedPortsAreUp
agreed_ports_are_up w one far said far_said agree = record {
  site = agree.shows.site;
  there = agree.shows.there;
  linked = agree.linked;
  of_port = agree.shows.of_port;
  up = agree.agreed.met.one_is_up;
  in_session = agree.agreed.one_end.in_session;
}

one_site : (a b : Site) → Some a ≡ Some b → a ≡ b
one_site a b e = cc

same_controller : (a b : Site) → a ≡ b → a.controller ≡ b.controller
same_controller a b e = ap (λ (s : Site). s.controller) e

one_linked : (a b : Linked) → Some a ≡ Some b → a ≡ b
one_linked a b e = cc

-- *The ports of a node* are found by their numbers, which rise
pub ports_found : (setups : List Setup) (c : Controller) → ArePorts setups c.ports → Every (λ (x : Linked). at port_key (port_key x) c.ports ≡ Some x) c.ports
ports_found setups c are = each_found port_key c.ports (order_unmapped linked_setup AreApart c.ports (subst (InOrder AreApart) (sym are.same) are.apart))

-- *At a desk*
module _ (policy : Policy) (topology : Topology) (events : List Event) (node : NodeId) where
  abbrev w : World
  w = world_at policy topology events

  module _ (site : Site) (found : site_at w node ≡ Some site) (is : IsNodeOfRun policy (past_of policy topology events) node site)
      (up : (port : PortNo) → is_linked topology node port ≡ true → IsPortUp w (record { node = node; port = port })) where
    abbrev c : Controller
    c = site.controller

    -- the port that is up is the one that the node has there
    is_up : (linked : Linked) → linked_at c linked.setup.port ≡ Some linked → (linked.port.adjacency.state ≡ Estab) × (is_some linked.port.session ≡ true)
    is_up linked own =
        let p : IsPortUp w (record { node = node; port = linked.setup.port }) = up linked.setup.port (is.ports.linked linked.setup.port linked own) in
        let same : p.site ≡ site = one_site p.site site (sym p.there ∙ found) in
        let it : p.linked ≡ linked = one_linked p.linked linked (sym p.of_port ∙ (ap (λ (s : Site). linked_at s.controller linked.setup.port) same ∙ own)) in
        subst (λ (x : Linked). (x.port.adjacency.state ≡ Estab) × (is_some x.port.session ≡ true)) it (p.up, p.in_session)

    clear : Every (λ (linked : Linked). is_clearing linked.port.adjacency.state ≡ false) c.ports
    clear = every_map (λ (x : Linked). at port_key (port_key x) c.ports ≡ Some x) (λ (linked : Linked). is_clearing linked.port.adjacency.state ≡ false) c.ports
        (λ linked own. ap is_clearing (is_up linked own).0) (ports_found (setups_of c) c is.conduct.sound.ports)

    -- it has met its switch, since a port is in session
    met : (linked : Linked) (port : PortNo) → linked_at c port ≡ Some linked → c.has_met ≡ true
    met linked port of_port = by c.has_met refl
      where
        own : linked_at c linked.setup.port ≡ Some linked
        own = ap (λ (k : ℕ). at port_key k c.ports) (at_key port_key port.0 c.ports linked of_port) ∙ of_port

        by : (b : Bool) → c.has_met ≡ b → b ≡ true
        by true e = refl
        by false e = absurd (true≢false (sym (is_up linked own).1 ∙ ap (λ (o : Option Session). is_some o) (at_every port_key IsShutLinked port.0 c.ports linked (is.conduct.sound.unmet e) of_port).session))

pub up_nodes_stand_none : UpNodesStandNone
up_nodes_stand_none policy topology events one addresses run linked up unspent site found =
    let w : World = world_at policy topology events in
    let is : IsNodeOfRun policy (past_of policy topology events) one.node site = runs_have_nodes policy topology events addresses run one.node site found in
    let port : HasPort site.controller one.port = is.ports.found one.port linked in
    record {
      unspent = unspent site found;
      none = met_stand_none site.controller is.conduct.order (met policy topology events one.node site found is up port.linked one.port port.is) (clear policy topology events one.node site found is up);
    }

-- *A port ticks*, and is up still
abbrev Up : Linked → Type 0
Up x = (x.port.adjacency.state ≡ Estab) × (is_some x.port.session ≡ true)

ticked_up : (linked : Linked) → linked.port.adjacency.state ≡ Estab → is_some linked.port.session ≡ true
    → ((ticked_port linked).port.adjacency.state ≡ Estab) × (is_some (ticked_port linked).port.session ≡ true)
ticked_up linked up open_now = by linked.port.session open_now
  where
    by : (o : Option Session) → is_some o ≡ true → Up (option_map_or (λ s. record linked { port = next_port linked.setup (idle_work linked) s }) o linked)
    by None e = absurd (cc e)
    by (Some s) e = (up, refl)

-- so is a port that is left as its tick leaves it
left_up : (linked x : Linked) → AreAlike (ticked_port linked).port x.port → linked.port.adjacency.state ≡ Estab → is_some linked.port.session ≡ true → Up x
left_up linked x alike up open_now = by (ticked_port linked) alike (ticked_up linked up open_now)
  where
    by : (t : Linked) → AreAlike t.port x.port → Up t → Up x
    by t same is_up = (ap (λ (side : Side Peer). side.state) same.adjacency ∙ is_up.0, same.in_session ∙ is_up.1)

-- *Through the ticks* the controller is as it was, or has ticked
module _ (topology : Topology) (w : World) (one : LinkEnd) (shaped : IsShaped w) (calm : IsCalm w one.node) (linked : Linked) (site : Site) (found : site_at w one.node ≡ Some site)
    (of_port : linked_at site.controller one.port ≡ Some linked) (up : linked.port.adjacency.state ≡ Estab) (open_now : is_some linked.port.session ≡ true) where
  abbrev controller_at : World → Option Controller
  controller_at v = part_at (λ (s : Site). s.controller) v one.node

  record HasTicked (o : Option Controller) : Type 0 where
    a : Acted
    own : a.controller ≡ site.controller
    now : o ≡ Some (ticks a).controller

  abbrev MayHaveTicked : World → Type 0
  MayHaveTicked v = (controller_at v ≡ Some site.controller) ⊎ HasTicked (controller_at v)

  same_node : (here : NodeId) → here.0 ≡ one.node.0 → one.node ≡ here
  same_node here same = λ i. record { 0 = sym same i }

  still : (v u : World) → controller_at u ≡ controller_at v → MayHaveTicked v → MayHaveTicked u
  still v u same (inl as_it_was) = inl (same ∙ as_it_was)
  still v u same (inr t) = inr (record { a = t.a; own = t.own; now = same ∙ t.now })

  own_tick : (v : World) → site_at v one.node ≡ site_at w one.node → MayHaveTicked (next topology v (Tick one.node))
  own_tick v same = inr (record {
    a = record { controller = site.controller; notes = (put_away v).notes; numbers = v.numbers };
    own = refl;
    now = ap (option_map (λ (s : Site). s.controller)) (controller_here (put_away v) one.node site (same ∙ found) ticks (λ b. (ticks_adds b).node));
  })

  step : (front rest : List Event) (event : Event) → tick_of_all w ≡ front ++ event ∷ rest → MayHaveTicked (world_after topology w front) → MayHaveTicked (next topology (world_after topology w front) event)
  step front rest event e h = by event (all_ticks w front rest event e) e
    where
      v : World
      v = world_after topology w front

      by : (x : Event) → IsTick x → tick_of_all w ≡ front ++ x ∷ rest → MayHaveTicked (next topology v x)
      by x (of_switch here) f = still v (next topology v (TickSwitch here))
          (switch_part (λ (s : Site). s.controller) (λ s t. refl) (put_away v) one.node here tick_comes) h
      by x (of_controller here) f = by_eq here.0 one.node.0
          (λ same d. subst (λ (n : NodeId). MayHaveTicked (next topology v (Tick n))) (same_node here same)
          (own_tick v (site_waits topology w front rest one.node shaped (subst (λ (n : NodeId). tick_of_all w ≡ front ++ Tick n ∷ rest) (sym (same_node here same)) f))))
          (λ apart d. still v (next topology v (Tick here))
          (ap (option_map (λ (s : Site). s.controller)) (controller_elsewhere (put_away v) one.node here ticks (λ b. (ticks_adds b).node) apart)) h)

  may_have_ticked : (front rest : List Event) → tick_of_all w ≡ front ++ rest → MayHaveTicked (world_after topology w front)
  may_have_ticked = along topology MayHaveTicked (tick_of_all w) w (inl (ap (option_map (λ (s : Site). s.controller)) found)) step

  -- *So its port is up*
  record HasSite (v : World) (c : Controller) : Type 0 where
    now : Site
    there : site_at v one.node ≡ Some now
    is : now.controller ≡ c

  site_of : (v : World) (c : Controller) → controller_at v ≡ Some c → HasSite v c
  site_of v c e = by (site_at v one.node) refl e
    where
      one_controller : (a b : Controller) → Some a ≡ Some b → a ≡ b
      one_controller a b f = cc

      by : (o : Option Site) → site_at v one.node ≡ o → option_map (λ (s : Site). s.controller) o ≡ Some c → HasSite v c
      by None there f = absurd (cc f)
      by (Some now) there f = record { now = now; there = there; is = one_controller now.controller c f }

  up_with : (v : World) (c : Controller) → HasSite v c → (x : Linked) → linked_at c one.port ≡ Some x → x.port.adjacency.state ≡ Estab → is_some x.port.session ≡ true → IsPortUp v one
  up_with v c s x at_port x_up x_open = record {
    site = s.now;
    there = s.there;
    linked = x;
    of_port = ap (λ (d : Controller). linked_at d one.port) s.is ∙ at_port;
    up = x_up;
    in_session = x_open;
  }

  up_by : (v : World) → MayHaveTicked v → IsPortUp v one
  up_by v (inl as_it_was) = up_with v site.controller (site_of v site.controller as_it_was) linked of_port up open_now
  up_by v (inr t) =
      let same : calm.site ≡ site = one_site calm.site site (sym calm.there ∙ found) in
      let acting_as : (c : Controller) → Acted = λ c. record { controller = c; notes = t.a.notes; numbers = t.a.numbers } in
      let is : calm.site.controller ≡ t.a.controller = same_controller calm.site site same ∙ sym t.own in
      let peace : IsNodeAtPeace t.a = subst (λ (c : Controller). IsNodeAtPeace (acting_as c)) is
      (record { up = calm.peace.up; heard = calm.peace.heard; nothing_asked = calm.peace.nothing_asked; ports = calm.peace.ports; ports_apart = calm.peace.ports_apart }) in
      let may : MayJoinAll t.a = subst (λ (c : Controller). MayJoinAll (acting_as c)) is calm.may_join in
      let left : IsLeft linked (linked_at (ticks t.a).controller one.port) = ports_left t.a one.port linked peace may (ap (λ (c : Controller). linked_at c one.port) t.own ∙ of_port) in
      let is_up : Up left.linked = left_up linked left.linked left.alike up open_now in
      up_with v (ticks t.a).controller (site_of v (ticks t.a).controller t.now) left.linked left.there is_up.0 is_up.1

pub ticks_keep_up : TicksKeepUp
ticks_keep_up topology w one far front rest shaped calm agree e =
    up_by topology w one shaped calm agree.linked agree.shows.site agree.shows.there agree.shows.of_port agree.agreed.met.one_is_up agree.agreed.one_end.in_session (world_after topology w front)
    (may_have_ticked topology w one shaped calm agree.linked agree.shows.site agree.shows.there agree.shows.of_port agree.agreed.met.one_is_up agree.agreed.one_end.in_session front rest e)
