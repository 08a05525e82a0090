-- a join holds through the ticks and carries of a beat of peace

use Rattle.std.proofs.Common.{◌≡◌, ◌≢◌, inl, inr, Bool, true, false, List, [], ◌∷◌, ◌++◌, append_assoc, append-nil, map, Option, None, Some, refl, sym, ◌∙◌, ap, subst, if◌then◌else◌}
use Rattle.std.specs.Option.{option_map, option_and_then}
use Rattle.world_model.specs.Words.{NodeId, Place, Down, Up, Out, Cell, PortNo, FlowId, End, number_of_channel, Policy, at, is_estab, Label, label_at, Controller, Linked, linked_at, tick_comes, Topology, World, Site, site_key, site_at, queue_at, put_away, next, tick_of, switch_tick_of, tick_of_all, world_after, IsNode, IsTopology, CountsAsItsFrame, past_of}
use Rattle.world_model.specs.Ticks.{ticks}
use Rattle.world_model.specs.Joins.{Join, output_joined}
use Rattle.world_model.specs.Topology.{peer_of}
use Rattle.world_model.specs.network_model.declared.link.LinkEnd.{LinkEnd}
use Rattle.world_model.specs.network_model.declared.event.Event.{Event}
use Rattle.world_model.specs.network_model.declared.event.Event.TheVariants.{Carry, Tick, TickSwitch}
use Rattle.world_model.proofs.Lists.{by_eq}
use Rattle.live_model.specs.Beats.{Beat, settling}
use Rattle.law_live_brought.specs.law_run_facts.Nodes.{IsNodeOfRun}
use Rattle.law_live_brought.specs.law_run_facts.law_world_views.law_shown_cells.Seen.{Extends}
use Rattle.law_live_brought.proofs.law_run_facts.Nodes.{runs_have_nodes}
use Rattle.law_live_brought.proofs.law_live_carries.law_passing.Controllers.{ticks_adds}
use Rattle.law_live_brought.specs.law_true_runs.Runs.{HoldsInRuns, IsWhole}
use Rattle.law_live_brought.specs.law_live_nodes.Law.{IsNodeAtPeace}
use Rattle.law_live_brought.specs.law_live_ports.Law.{MayJoinAll}
use Rattle.law_live_brought.specs.law_live_saying.Law.{ticking}
use Rattle.law_live_brought.specs.law_live_worlds.Law.{IsCalm}
use Rattle.law_live_brought.specs.law_live_hearing.Law.{world_at, acting}
use Rattle.law_live_brought.proofs.law_live_hearing.Going.{after_all}
use Rattle.law_live_brought.proofs.law_live_hearing.Sites.{up_now, up_site}
use Rattle.law_live_brought.proofs.law_live_elsewhere.Kept.{KeepsNode}
use Rattle.law_live_brought.proofs.law_live_elsewhere.Elsewhere.{IsKept, carry_keeps}
use Rattle.law_live_brought.specs.law_live_others.Law.{IsUp}
use Rattle.law_live_brought.specs.law_live_control_links.Law.{IsCalmLink}
use Rattle.law_live_brought.specs.law_live_passed_by.Law.{BringsNone, IsForOthersAt}
use Rattle.law_live_brought.proofs.law_live_control_links.Sites.{controller_elsewhere, controller_here}
use Rattle.law_live_brought.specs.law_live_calm_nodes.Nodes.{Throughout}
use Rattle.law_live_brought.specs.law_live_calm_nodes.Networks.{IsNetworkInPeace, IsBeatOfPeace}
use Rattle.law_live_brought.proofs.law_live_calm_nodes.Events.{run_before}
use Rattle.law_live_brought.proofs.law_live_calm_nodes.Parts.{along, switch_part}
use Rattle.law_live_brought.proofs.law_live_calm_nodes.Ticks.{IsTick, of_controller, of_switch, all_ticks, site_waits}
use Rattle.law_live_brought.proofs.law_live_calm_nodes.Control.{IsCarry, carries, is_carry, HasPeer, has_peer, is, is_now, begun, facts_in, in_carries, carried_is, CarryFacts, carry_facts, throughout, carries_met, calm}
use Rattle.law_live_joining.specs.Joins.{joined_label, joined_on, KeepsJoins}
use Rattle.law_live_joining.specs.Ticks.{CanBeJoined}
use Rattle.law_live_joining.proofs.Ticking.{ticks_join, ticks_keep_joins}
use Rattle.law_live_joining_beats.specs.Law.{HoldsJoin}
use Rattle.law_live_joining_beats.proofs.Cells.{kept_keeps, cell_keeps}
use Rattle.law_live_joining_beats.proofs.Links.{peace_of, links_go}
use Rattle.law_live_joining_beats.proofs.Hearing.{ends_in_peace}

one_site : (a b : Site) → Some a ≡ Some b → a ≡ b
one_site a b e = cc

one_controller : (a b : Controller) → Some a ≡ Some b → a ≡ b
one_controller a b e = cc

same_node : (a b : NodeId) → a.0 ≡ b.0 → b ≡ a
same_node a b e = λ i. record { 0 = sym e i }

-- *A node keeps its joins*
pub record NodeKeeps (v x : World) (node : NodeId) (site : Site) : Type 0 where
  pub now : Site
  pub there : site_at x node ≡ Some now
  pub keeps : KeepsJoins site.controller now.controller

pub holds_then : (v x : World) (node : NodeId) (flow : FlowId) (join : Join) (h : HoldsJoin v node flow join) → NodeKeeps v x node h.site → HoldsJoin x node flow join
holds_then v x node flow join h k = record {
  site = k.now;
  found = k.there;
  held = record {
    joined = k.keeps.joined join.input (flow, output_joined join) h.held.joined;
    lent = k.keeps.lent join.port join.grant.label (join.grant.flow, join.input) h.held.lent;
  };
}

itself : (c d : Controller) → d ≡ c → KeepsJoins c d
itself c d same = subst (KeepsJoins c) (sym same) (record { joined = λ input what h. h; lent = λ port label what h. h })

-- its controller is as it was
by_part : (v x : World) (node : NodeId) (site : Site) → site_at v node ≡ Some site
    → option_map (λ (s : Site). s.controller) (site_at x node) ≡ option_map (λ (s : Site). s.controller) (site_at v node) → NodeKeeps v x node site
by_part v x node site found same = by (site_at x node) refl (same ∙ ap (option_map (λ (s : Site). s.controller)) found)
  where
    by : (o : Option Site) → site_at x node ≡ o → option_map (λ (s : Site). s.controller) o ≡ Some site.controller → NodeKeeps v x node site
    by None there e = absurd (cc e)
    by (Some now) there e = record { now = now; there = there; keeps = itself site.controller now.controller (one_controller now.controller site.controller e) }

by_site : (v x : World) (node : NodeId) (site : Site) → site_at v node ≡ Some site → site_at x node ≡ site_at v node → NodeKeeps v x node site
by_site v x node site found same = record { now = site; there = same ∙ found; keeps = itself site.controller site.controller refl }

-- a label that is joined is of a port that is there
record HasPort (c : Controller) (port : PortNo) : Type 0 where
  linked : Linked
  found : linked_at c port ≡ Some linked

of_port : (c : Controller) (input : End) (what : FlowId × End) → joined_on c input ≡ Some what → HasPort c input.port
of_port c input what is = by (linked_at c input.port) refl is
  where
    by : (o : Option Linked) → linked_at c input.port ≡ o → option_and_then joined_label (option_and_then (λ (l : Linked). label_at l.port (number_of_channel input.channel)) o) ≡ Some what → HasPort c input.port
    by None found e = absurd (cc e)
    by (Some linked) found e = record { linked = linked; found = found }

module _ (whole : HoldsInRuns IsWhole) (policy : Policy) (topology : Topology) (before : List Event) (beat : Beat)
    (p : IsNetworkInPeace topology (world_at policy topology before)) (b : IsBeatOfPeace policy topology before beat) where
  abbrev w : World
  w = world_at policy topology before

  abbrev u : World
  u = world_after topology w (tick_of_all w)

  topology_is : IsTopology topology
  topology_is = is whole policy topology before beat p b

  -- *The tick of a node*, at peace
  module _ (front rest : List Event) (node : NodeId) (e : tick_of_all w ≡ front ++ Tick node ∷ rest) (site : Site) (found : site_at (world_after topology w front) node ≡ Some site) where
    abbrev v : World
    v = world_after topology w front

    was_there : site_at w node ≡ Some site
    was_there = sym (site_waits topology w front rest node p.shaped e) ∙ found

    inside : IsNode topology node
    inside = (runs_have_nodes policy topology before b.addresses (begun whole policy topology before beat p b) node site was_there).is_node.number

    calm_there : IsCalm w node
    calm_there = calm whole policy topology before beat p b node inside

    pub its_peace : IsNodeAtPeace (ticking v site)
    its_peace = by (peace_of w node site was_there calm_there)
      where
        by : IsNodeAtPeace (ticking w site) → IsNodeAtPeace (ticking v site)
        by h = record { up = h.up; heard = h.heard; nothing_asked = h.nothing_asked; ports = h.ports; ports_apart = h.ports_apart }

    pub its_numbers : MayJoinAll (ticking v site)
    its_numbers = subst (λ (s : Site). MayJoinAll (ticking v s)) (one_site calm_there.site site (sym calm_there.there ∙ was_there)) calm_there.may_join

    abbrev pub ticked_site : Site
    ticked_site = record site { controller = (ticks (ticking v site)).controller }

    pub ticked_there : site_at (next topology v (Tick node)) node ≡ Some ticked_site
    ticked_there = controller_here (put_away v) node site found ticks (λ a. (ticks_adds a).node)

    own_tick : NodeKeeps v (next topology v (Tick node)) node site
    own_tick = record { now = ticked_site; there = ticked_there; keeps = ticks_keep_joins (ticking v site) its_peace its_numbers }

  module _ (node : NodeId) (flow : FlowId) (join : Join) where
    abbrev Holds : World → Type 0
    Holds v = HoldsJoin v node flow join

    tick_step : (front rest : List Event) (event : Event) → tick_of_all w ≡ front ++ event ∷ rest → Holds (world_after topology w front) → Holds (next topology (world_after topology w front) event)
    tick_step front rest event e h = holds_then v (next topology v event) node flow join h (by event (all_ticks w front rest event e) e)
      where
        v : World
        v = world_after topology w front

        by : (x : Event) → IsTick x → tick_of_all w ≡ front ++ x ∷ rest → NodeKeeps v (next topology v x) node h.site
        by x (of_controller here) f = by_eq here.0 node.0
            (λ same t. subst (λ (n : NodeId). tick_of_all w ≡ front ++ Tick n ∷ rest → NodeKeeps v (next topology v (Tick n)) node h.site) (same_node here node same)
            (λ g. own_tick front rest node g h.site h.found) f)
            (λ differs t. by_site v (next topology v (Tick here)) node h.site h.found (controller_elsewhere (put_away v) node here ticks (λ a. (ticks_adds a).node) differs))
        by x (of_switch here) f = by_part v (next topology v (TickSwitch here)) node h.site h.found (switch_part (λ (s : Site). s.controller) (λ s k. refl) (put_away v) node here tick_comes)

    -- *From a tick on*
    pub ticks_hold : (first later : List Event) → tick_of_all w ≡ first ++ later → Holds (world_after topology w first) → Holds u
    ticks_hold first [] e h = subst (λ (events : List Event). Holds (world_after topology w events)) (sym (e ∙ append-nil first)) h
    ticks_hold first (x ∷ later) e h = ticks_hold (first ++ x ∷ []) later (e ∙ sym (append_assoc first (x ∷ []) later))
        (subst Holds (sym (after_all topology w first (x ∷ []))) (tick_step first later x e h))

    -- *A carry*
    module _ (front rest : List Event) (place : Place) (e : map Carry beat.carries ≡ front ++ Carry place ∷ rest) (h : Holds (world_after topology u front)) where
      abbrev y : World
      y = world_after topology u front

      abbrev done : List Event
      done = tick_of_all w ++ front

      at_it : settling w beat ≡ done ++ Carry place ∷ rest
      at_it = in_carries whole policy topology before beat p b front rest (Carry place) e

      y_is : world_at policy topology (before ++ done) ≡ y
      y_is = is_now whole policy topology before beat p b done ∙ carried_is whole policy topology before beat p b front

      abbrev Keeps : Place → Type 0
      Keeps q = NodeKeeps y (next topology y (Carry q)) node h.site

      abbrev any_end : LinkEnd
      any_end = record { node = node; port = record { 0 = 0 } }

      -- to others, or a cell that ends no frame
      elsewhere : (q : Place) → IsKept q (queue_at y q) node.0 → Keeps q
      elsewhere q kept = by (carry_keeps topology y any_end any_end q (queue_at y q) node.0 kept h.site h.found)
        where
          by : KeepsNode h.site (site_at (next topology y (Carry q)) node) → Keeps q
          by k = record { now = k.after; there = k.there; keeps = kept_keeps h.site.controller k.after.controller k.controller }

      -- the node, in the run
      node_of_run : IsNodeOfRun policy (past_of policy topology (before ++ done)) node h.site
      node_of_run = runs_have_nodes policy topology (before ++ done) b.addresses
          (run_before whole policy topology before (settling w beat) b.run b.addresses b.tame done rest (Carry place) at_it) node h.site (ap (λ (x : World). site_at x node) y_is ∙ h.found)

      port_there : HasPort h.site.controller join.input.port
      port_there = of_port h.site.controller join.input (flow, output_joined join) h.held.joined

      own_peer : HasPeer (peer_of topology node join.input.port)
      own_peer = has_peer (peer_of topology node join.input.port) (node_of_run.ports.linked join.input.port port_there.linked port_there.found)

      its : CarryFacts whole policy topology before beat p b y (Carry place)
      its = carry_facts whole policy topology before beat p b front rest (Carry place) e

      stays : Extends y.notes.frames (next topology y (Carry place)).notes.frames
      stays = (its.steady node).1.stays

      counts : CountsAsItsFrame y (Carry place)
      counts = subst (λ (x : World). CountsAsItsFrame x (Carry place)) (carried_is whole policy topology before beat p b front) (facts_in whole policy topology before beat p b done rest (Carry place) at_it).counts

      up : IsUp (acting y h.site)
      up = by (carries_met whole policy topology before beat p b front (Carry place ∷ rest) e node node_of_run.is_node.number)
        where
          by : IsCalmLink y node → IsUp (acting y h.site)
          by link = subst (λ (s : Site). IsUp (acting y s)) (one_site link.site h.site (sym link.found ∙ h.found)) (ap is_estab link.calm.met.one_is_up)

      -- a last cell to its controller
      own_cell : place ≡ Up node → (cell : Cell) (cells : List Cell) → queue_at y (Up node) ≡ cell ∷ cells → cell.header.last ≡ true → Keeps (Up node)
      own_cell own cell cells queue last = record {
        now = up_now topology y node h.site h.found cell cells;
        there = up_site topology y node h.site h.found cell cells queue;
        keeps = cell_keeps (acting y h.site) cell up
            (ends_in_peace topology topology_is y node h.site h.found cell cells queue last
            (subst (λ (q : Place). CountsAsItsFrame y (Carry q)) own counts)
            (subst (λ (q : Place). Extends y.notes.frames (next topology y (Carry q)).notes.frames) own stays)
            (links_go whole policy topology before beat p b front (Carry place ∷ rest) e)
            (subst (λ (q : Place). (one far : LinkEnd) → peer_of topology one.node one.port ≡ Some far → BringsNone y one q → IsForOthersAt y one q) own its.comes.others)
            node_of_run.ports.linked join.input.port own_peer.far own_peer.is);
      }

      own_carry : place ≡ Up node → Keeps (Up node)
      own_carry own = by (queue_at y (Up node)) refl
        where
          kept : (queue : List Cell) → queue_at y (Up node) ≡ queue → IsKept (Up node) queue node.0 → Keeps (Up node)
          kept queue q is = elsewhere (Up node) (subst (λ (cells : List Cell). IsKept (Up node) cells node.0) (sym q) is)

          by : (queue : List Cell) → queue_at y (Up node) ≡ queue → Keeps (Up node)
          by [] q = kept [] q tt
          by (cell ∷ cells) q = on cell.header.last refl
            where
              on : (t : Bool) → cell.header.last ≡ t → Keeps (Up node)
              on false part = kept (cell ∷ cells) q (inr part)
              on true last = own_cell own cell cells q last

      up_kept : (here : NodeId) → here.0 ≢ node.0 → IsKept (Up here) (queue_at y (Up here)) node.0
      up_kept here differs = by (queue_at y (Up here))
        where
          by : (queue : List Cell) → IsKept (Up here) queue node.0
          by [] = tt
          by (cell ∷ cells) = inl differs

      by_place : (q : Place) → place ≡ q → Keeps q
      by_place (Down here) own = elsewhere (Down here) tt
      by_place (Out here port) own = elsewhere (Out here port) tt
      by_place (Up here) own = by_eq here.0 node.0
          (λ same t. subst (λ (n : NodeId). place ≡ Up n → Keeps (Up n)) (same_node here node same) own_carry own)
          (λ differs t. elsewhere (Up here) (up_kept here differs))

      carry_step : Holds (next topology y (Carry place))
      carry_step = holds_then y (next topology y (Carry place)) node flow join h (by_place place refl)

    step : (front rest : List Event) (event : Event) → map Carry beat.carries ≡ front ++ event ∷ rest → Holds (world_after topology u front) → Holds (next topology (world_after topology u front) event)
    step front rest event e h = by event (is_carry beat.carries front rest event e) e
      where
        by : (x : Event) → IsCarry x → map Carry beat.carries ≡ front ++ x ∷ rest → Holds (next topology (world_after topology u front) x)
        by x (carries place) f = carry_step front rest place f h

    pub carries_hold : Holds u → (front rest : List Event) → map Carry beat.carries ≡ front ++ rest → Holds (world_after topology u front)
    carries_hold h = along topology Holds (map Carry beat.carries) u h step

    ticks_along : Holds w → (front rest : List Event) → tick_of_all w ≡ front ++ rest → Holds (world_after topology w front)
    ticks_along h = along topology Holds (tick_of_all w) w h tick_step

    -- *Throughout*
    pub joins_stay_so : Holds w → Throughout topology w beat Holds
    joins_stay_so h = throughout whole policy topology before beat p b Holds (ticks_along h) (carries_hold (ticks_along h (tick_of_all w) [] (sym (append-nil (tick_of_all w)))))

  -- *Its turn comes* in the ticks
  record IsAmong (node : NodeId) (events : List Event) : Type 0 where
    first : List Event
    later : List Event
    are : events ≡ first ++ Tick node ∷ later

  among : (node : NodeId) (site : Site) (sites : List Site) → at site_key node.0 sites ≡ Some site → IsAmong node (map tick_of sites)
  among node site [] e = absurd (cc e)
  among node site (s ∷ sites) e = by_eq (site_key s) node.0
      (λ same t. record { first = []; later = map tick_of sites; are = ap (λ (n : NodeId). Tick n ∷ map tick_of sites) (sym (same_node s.controller.node node same)) })
      (λ apart t. further (among node site sites (sym (ap (λ (d : Bool). if d then Some s else at site_key node.0 sites) t) ∙ e)))
    where
      further : IsAmong node (map tick_of sites) → IsAmong node (map tick_of (s ∷ sites))
      further r = record { first = tick_of s ∷ r.first; later = r.later; are = ap (λ (events : List Event). tick_of s ∷ events) r.are }

  module _ (node : NodeId) (site : Site) (found : site_at w node ≡ Some site) (label : Label) (join : Join) (can : CanBeJoined site.controller label join) where
    turn : IsAmong node (map tick_of w.sites)
    turn = among node site w.sites found

    abbrev after : List Event
    after = turn.later ++ map switch_tick_of w.sites

    ticks_are : tick_of_all w ≡ turn.first ++ Tick node ∷ after
    ticks_are = ap (λ (events : List Event). events ++ map switch_tick_of w.sites) turn.are ∙ append_assoc turn.first (Tick node ∷ turn.later) (map switch_tick_of w.sites)

    abbrev z : World
    z = world_after topology w turn.first

    still_there : site_at z node ≡ Some site
    still_there = site_waits topology w turn.first after node p.shaped ticks_are ∙ found

    joined_in_tick : HoldsJoin (next topology z (Tick node)) node label.flow join
    joined_in_tick = record {
      site = ticked_site turn.first after node ticks_are site still_there;
      found = ticked_there turn.first after node ticks_are site still_there;
      held = (ticks_join (ticking z site) label join (its_peace turn.first after node ticks_are site still_there) (its_numbers turn.first after node ticks_are site still_there) can).held;
    }

    pub joined_behind : HoldsJoin (world_after topology w (settling w beat)) node label.flow join
    joined_behind = subst (λ (x : World). HoldsJoin x node label.flow join) (sym (carried_is whole policy topology before beat p b (map Carry beat.carries)))
        (carries_hold node label.flow join
        (ticks_hold node label.flow join (turn.first ++ Tick node ∷ []) after (ticks_are ∙ sym (append_assoc turn.first (Tick node ∷ []) after))
        (subst (λ (x : World). HoldsJoin x node label.flow join) (sym (after_all topology w turn.first (Tick node ∷ []))) joined_in_tick))
        (map Carry beat.carries) [] (sym (append-nil (map Carry beat.carries))))
