-- an end of a link behind an event that isn't its controller's

use Rattle.std.proofs.Common.{◌≡◌, ◌≢◌, ℕ, ◌+◌, ◌==◌, ◌≤◌, true, false, List, [], ◌∷◌, is_some, Option, None, Some, inl, refl, sym, ◌∙◌, ap, subst, arith}
use Rattle.world_model.specs.Words.{Peer, Side, NodeId, PortNo, Place, Down, Up, Out, Channel, Cell, Mark, Refusal, default_home, Linked, tick_comes, Topology, World, IsTopology, site_at, queue_at, put_away, next, injected, inject_refusal, injects_by}
use Rattle.world_model.specs.Ticks.{ticks as controller_ticks}
use Rattle.world_model.specs.Topology.{peer_of}
use Rattle.world_model.specs.network_model.declared.link.LinkEnd.{LinkEnd}
use Rattle.world_model.specs.network_model.declared.event.Event.{Event}
use Rattle.world_model.specs.network_model.declared.event.Event.TheVariants.{Inject, Carry, Tick, TickSwitch}
use Rattle.world_model.proofs.Lists.{by_eq}
use Rattle.law_live_waking.specs.law_passing.Reached.{switch_at, carried_to, reached, owns}
use Rattle.law_live_waking.proofs.law_passing.Controllers.{ticks_adds, injected_adds}
use Rattle.law_live_waking.proofs.law_running_worlds.law_causes.Shown.{IsPeer, peer_back}
use Rattle.law_live_waking.proofs.law_live_control_links.Sites as sites
use Rattle.law_live_worlds.specs.Law.{Shows, IsLeftAlike}
use Rattle.law_live_elsewhere.specs.Law.{IsElsewhere}
use Rattle.law_live_elsewhere.proofs.Elsewhere.{one_left}
use Rattle.law_live_waking.specs.law_live_orders.Law.{heard_at}
use Rattle.law_live_waking.proofs.law_live_orders.Hops.{numbers_apart, nodes_apart, untaken, unowned}
use Rattle.law_live_waking_links.specs.Hellos.{Greet, none}
use Rattle.law_live_waking_links.specs.Law.{LeavesEnd, Takes, HearsByTable, stays}
use Rattle.law_live_waking_links.proofs.Hellos.{no_hellos}

pub same_node : (one other : NodeId) → one.0 ≡ other.0 → one ≡ other
same_node one other e = λ i. record { 0 = e i }

number_apart : (a b : ℕ) → a ≢ b → (a == b) ≡ false
number_apart a b apart = by_eq a b (λ same f. absurd (apart same)) (λ differs f. f)

module _ (topology : Topology) (w : World) (end : LinkEnd) where
  abbrev home : Channel
  home = (default_home end.port).channel

  -- *It stays*: its port has the side that it had, and it hears and says nothing
  pub record Stays (event : Event) : Type 0 where
    pub leaves : (linked : Linked) (shows : Shows w end linked) → LeavesEnd topology w event end shows.site.controller.address linked.port.adjacency []
    pub unheard : heard_at w event end ≡ []

  leaves_same : (event : Event) → owns (reached topology w event) (Down end.node) ≡ false → (linked after : Linked) (shows : Shows w end linked) → Shows (next topology w event) end after
      → after.port.adjacency ≡ linked.port.adjacency → LeavesEnd topology w event end shows.site.controller.address linked.port.adjacency []
  leaves_same event unreached linked after shows now same = record {
    linked = after;
    shows = now;
    goes_by = sym now.address ∙ (ap (λ (side : Side Peer). side.own.address) same ∙ shows.address);
    has = same;
    says = subst (λ (marks : List Mark). Greet shows.site.controller.address (next topology w event).notes.frames marks [])
        (sym (unowned topology w event (Down end.node) home unreached)) none;
  }

  of_site : (event : Event) → owns (reached topology w event) (Down end.node) ≡ false → heard_at w event end ≡ [] → site_at (next topology w event) end.node ≡ site_at w end.node → Stays event
  of_site event unreached unheard same = record {
    leaves = λ linked shows. leaves_same event unreached linked linked shows
        (record { site = shows.site; there = same ∙ shows.there; of_port = shows.of_port; address = shows.address }) refl;
    unheard = unheard;
  }

  -- *Ticks*, and packets that are sent
  pub tick_stays : (here : NodeId) → here.0 ≢ end.node.0 → Stays (Tick here)
  tick_stays here apart = of_site (Tick here) (number_apart here.0 end.node.0 apart) refl
      (sites.controller_elsewhere (put_away w) end.node here controller_ticks (λ b. (ticks_adds b).node) apart)

  pub inject_stays : (here : NodeId) (octets : List ℕ) → here.0 ≢ end.node.0 → Stays (Inject here octets)
  inject_stays here octets apart = of_site (Inject here octets) (number_apart here.0 end.node.0 apart) refl (away (inject_refusal octets))
    where
      away : (o : Option Refusal) → site_at (injects_by (record (put_away w) { sent = w.sent + 1 }) here octets o) end.node ≡ site_at w end.node
      away (Some name) = refl
      away None = sites.controller_elsewhere (record (put_away w) { sent = w.sent + 1 }) end.node here (λ x. injected x (w.sent + 1) octets) (λ x. (injected_adds x (w.sent + 1) octets).node) apart

  -- a switch ticks, the node's own too
  own_switch : (here : NodeId) → here ≡ end.node → (linked : Linked) (shows : Shows w end linked) → Shows (next topology w (TickSwitch here)) end linked
  own_switch here e linked shows = subst (λ (n : NodeId). Shows (next topology w (TickSwitch n)) end linked) (sym e) (record {
    site = record shows.site { switch = (tick_comes (sites.switching (put_away w) shows.site)).switch };
    there = sites.switch_here (put_away w) end.node shows.site shows.there tick_comes;
    of_port = shows.of_port;
    address = shows.address;
  })

  pub switch_stays : (here : NodeId) → Stays (TickSwitch here)
  switch_stays here = by_eq here.0 end.node.0
      (λ same t. record {
        leaves = λ linked shows. leaves_same (TickSwitch here) refl linked linked shows (own_switch here (same_node here end.node same) linked shows) refl;
        unheard = refl;
      })
      (λ apart t. of_site (TickSwitch here) refl refl (sites.switch_elsewhere (put_away w) end.node here tick_comes apart))

  -- *Carries* to a switch, and to another controller
  of_carry : (place : Place) → IsElsewhere w end end place → owns (reached topology w (Carry place)) (Down end.node) ≡ false → heard_at w (Carry place) end ≡ [] → Stays (Carry place)
  of_carry place elsewhere unreached unheard = record {
    leaves = λ linked shows. (let k : IsLeftAlike linked (next topology w (Carry place)) end = one_left topology w end end place elsewhere linked shows in
        leaves_same (Carry place) unreached linked k.linked shows k.shows k.alike.adjacency);
    unheard = unheard;
  }

  carried_past : (place : Place) → ((cell : Cell) (cells : List Cell) → owns (carried_to topology place (cell ∷ cells)) (Down end.node) ≡ false) → (q : List Cell)
      → owns (carried_to topology place q) (Down end.node) ≡ false
  carried_past place each [] = refl
  carried_past place each (cell ∷ cells) = each cell cells

  of_switches : (o : Option LinkEnd) → owns (switch_at o) (Down end.node) ≡ false
  of_switches None = refl
  of_switches (Some other) = refl

  pub down_stays : (here : NodeId) → Stays (Carry (Down here))
  down_stays here = of_carry (Down here) tt (carried_past (Down here) (λ cell cells. refl) (queue_at w (Down here)))
      (untaken topology w (Down here) (Up end.node) home (numbers_apart (Down here) (Up end.node) (λ e. absurd (omega (arith, e)))))

  pub up_stays : (here : NodeId) → here.0 ≢ end.node.0 → Stays (Carry (Up here))
  up_stays here apart = of_carry (Up here) (inl (apart, apart)) (carried_past (Up here) (λ cell cells. number_apart here.0 end.node.0 apart) (queue_at w (Up here)))
      (untaken topology w (Up here) (Up end.node) home (nodes_apart (Up here) (Up end.node) apart))

  linked_some : IsTopology topology → (here : NodeId) (port : PortNo) (o : Option LinkEnd) → peer_of topology here port ≡ o → is_some o ≡ true → 1 ≤ port.0
  linked_some is here port None p some = absurd (cc some)
  linked_some is here port (Some other) p some = (let peer : IsPeer topology (record { node = here; port = port }) other = peer_back topology is (record { node = here; port = port }) other p in peer.own.0)

  pub out_stays : IsTopology topology → (here : NodeId) (port : PortNo) → is_some (peer_of topology here port) ≡ true → Stays (Carry (Out here port))
  out_stays is here port some = (let least : 1 ≤ port.0 = linked_some is here port (peer_of topology here port) refl some in
      of_carry (Out here port) tt (carried_past (Out here port) (λ cell cells. of_switches (peer_of topology here port)) (queue_at w (Out here port)))
      (untaken topology w (Out here port) (Up end.node) home (numbers_apart (Out here port) (Up end.node) (λ e. absurd (omega (arith, e, least))))))

  -- *So it goes by its table*, whatever that is
  pub hears_nothing : (event : Event) (peer : LinkEnd) → Stays event → HearsByTable topology w event end peer
  hears_nothing event peer s linked peer_linked shows peer_shows hears heard written named =
      subst (Takes topology w event end shows.site.controller.address linked.port.adjacency)
      (sym (no_hellos peer_shows.site.controller.address w.notes.frames (heard_at w event end) hears heard s.unheard))
      (record { after = linked.port.adjacency; left_by = stays; leaves = s.leaves linked shows })
