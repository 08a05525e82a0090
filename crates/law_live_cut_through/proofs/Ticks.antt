-- what is held stays so through the ticks that begin a calm beat of a network at ease

use Rattle.std.proofs.Common.{◌≡◌, ℕ, ◌<◌, true, List, [], ◌∷◌, ◌++◌, append-nil, Option, None, Some, refl, sym, ◌∙◌, ap, subst, arith}
use Rattle.std.specs.Option.{option_map, option_map_or, option_and_then}
use Rattle.world_model.specs.Words.{NodeId, PortNo, End, Policy, best, FlowId, flow_destination, number_of_channel, at, Label, label_number, label_at, labels_of, label_end, serves, GrantState, ByController, ByInput, grant_label, Controller, Linked, linked_at, port_key, linked_end, label_on, tick_comes, Topology, World, Site, site_at, put_away, next, tick_of_all, world_after, past_of}
use Rattle.world_model.specs.Ticks.{ticks}
use Rattle.world_model.specs.network_model.declared.link.LinkEnd.{LinkEnd}
use Rattle.world_model.specs.network_model.declared.event.Event.{Event}
use Rattle.world_model.specs.network_model.declared.event.Event.TheVariants.{Tick, TickSwitch}
use Rattle.world_model.proofs.Lists.{by_eq}
use Rattle.live_model.specs.Beats.{Beat}
use Rattle.calm_model.specs.Ways.{one_hop}
use Rattle.law_live_ease.specs.law_run_facts.ordered_lists.Ordered.{Every, InOrder}
use Rattle.law_live_ease.proofs.law_run_facts.ordered_lists.Every.{every_map, every_all}
use Rattle.law_live_ease.proofs.law_port_facts.ordered_lists.InOrder.{order_map}
use Rattle.law_live_ease.specs.law_run_facts.law_port_facts.Port.{IsBefore, IsPort}
use Rattle.law_live_ease.proofs.law_run_facts.law_port_facts.Keyed.{at_every, each_found}
use Rattle.law_live_ease.proofs.law_run_facts.law_actor_pace.Controllers.{ticks_paces}
use Rattle.law_live_ease.specs.law_run_facts.Nodes.{IsNodeOfRun}
use Rattle.law_live_ease.specs.law_run_facts.law_world_views.Between.{setups_of}
use Rattle.law_live_ease.specs.law_true_runs.Runs.{HoldsInRuns, IsWhole}
use Rattle.law_live_ease.specs.law_live_hearing.Law.{world_at, acting}
use Rattle.law_live_ease.specs.law_live_control_links.Law.{IsCalmLink}
use Rattle.law_live_ease.proofs.law_live_control_links.Sites.{switching, controller_elsewhere, switch_here, switch_elsewhere}
use Rattle.law_live_ease.proofs.law_live_calm_nodes.Parts.{along}
use Rattle.law_live_ease.proofs.law_live_calm_nodes.Ticks.{IsTick, of_controller, of_switch, all_ticks, site_waits}
use Rattle.law_live_ease.proofs.law_live_mirrors.Ports.{number_again}
use Rattle.law_live_ease.specs.law_live_mirrored_ticks.Law.{MayTick}
use Rattle.law_live_ease.proofs.law_live_mirrored_worlds.Events.{same_node}
use Rattle.law_live_ease.specs.law_live_carried_out.Law.{IsMirroredPeace}
use Rattle.law_live_ease.specs.Law.{IsAtEase}
use Rattle.law_live_ease.specs.Beats.{IsCalmBeat}
use Rattle.law_live_ease.proofs.Ticks.{of_run, node_then, ticks_met}
use Rattle.law_live_ease.proofs.TicksSteady.{may, ticked, there}
use Rattle.law_live_cut_through.specs.Law.{HoldsLabel, HoldsGrant, IsUsed, ServesAlone}
use Rattle.law_live_cut_through.specs.Ticks.{TicksKeepFirst, TicksKeepJoined, TicksKeepLast, TicksKeepLent, TicksServeAlone}
use Rattle.law_live_cut_through.proofs.TicksTurns.{LabelsStay, Was, was, IsHeld, IsGranted}
use Rattle.law_live_cut_through.proofs.TicksTicking.{tick_labels, tick_joined, tick_last, tick_lent, tick_first}

one_site : (x y : Site) → Some x ≡ Some y → x ≡ y
one_site x y e = cc

-- *An end that shows* is at a node
record IsAt (v : World) (end : LinkEnd) (linked : Linked) : Type 0 where
  site : Site
  found : site_at v end.node ≡ Some site
  of_port : linked_at site.controller end.port ≡ Some linked

is_at : (v : World) (end : LinkEnd) (linked : Linked) → linked_end v end ≡ Some linked → IsAt v end linked
is_at v end linked = by (site_at v end.node) refl
  where
    by : (o : Option Site) → site_at v end.node ≡ o → option_and_then (λ (c : Controller). linked_at c end.port) (option_map (λ (s : Site). s.controller) o) ≡ Some linked → IsAt v end linked
    by None found e = absurd (cc e)
    by (Some site) found e = record { site = site; found = found; of_port = e }

-- *What a node holds* is held at its ends
module _ (v : World) (end : LinkEnd) (site : Site) (found : site_at v end.node ≡ Some site) where
  abbrev c : Controller
  c = site.controller

  shown_is : linked_end v end ≡ linked_at c end.port
  shown_is = ap (λ (o : Option Site). option_and_then (λ (d : Controller). linked_at d end.port) (option_map (λ (s : Site). s.controller) o)) found

  held_in : (number : ℕ) (flow : FlowId) (join : Option End) → HoldsLabel v end number flow join → IsHeld c (label_end end.port number) flow join
  held_in number flow join h = record {
    label = h.label;
    there = ap (option_and_then (λ (l : Linked). label_at l.port (number_of_channel (label_end end.port number).channel))) (sym shown_is ∙ h.shown)
        ∙ (ap (label_at h.linked.port) (number_again number) ∙ h.held);
    offered = h.offered;
    of_flow = h.of_flow;
    joined = h.joined;
  }

  held_out : (number : ℕ) (flow : FlowId) (join : Option End) → IsHeld c (label_end end.port number) flow join → HoldsLabel v end number flow join
  held_out number flow join h = by (linked_at c end.port) refl h.there
    where
      by : (o : Option Linked) → linked_at c end.port ≡ o
          → option_and_then (λ (l : Linked). label_at l.port (number_of_channel (label_end end.port number).channel)) o ≡ Some h.label → HoldsLabel v end number flow join
      by None of_port e = absurd (cc e)
      by (Some linked) of_port e = record {
        linked = linked;
        shown = shown_is ∙ of_port;
        label = h.label;
        held = ap (label_at linked.port) (sym (number_again number)) ∙ e;
        offered = h.offered;
        of_flow = h.of_flow;
        joined = h.joined;
      }

  granted_in : (number : ℕ) (flow : FlowId) (state : GrantState) → HoldsGrant v end number flow state → IsGranted c end.port number flow state
  granted_in number flow state h = record {
    grant = h.grant;
    held = ap (λ (o : Option Linked). at grant_label number (option_map_or (λ (l : Linked). l.port.grants) o [])) (sym shown_is ∙ h.shown) ∙ h.held;
    of_flow = h.of_flow;
    is = h.is;
  }

  granted_out : (number : ℕ) (flow : FlowId) (state : GrantState) → IsUsed state → IsGranted c end.port number flow state → HoldsGrant v end number flow state
  granted_out number flow state used h = by (linked_at c end.port) refl h.held
    where
      by : (o : Option Linked) → linked_at c end.port ≡ o → at grant_label number (option_map_or (λ (l : Linked). l.port.grants) o []) ≡ Some h.grant → HoldsGrant v end number flow state
      by None of_port e = absurd (cc e)
      by (Some linked) of_port e = record { linked = linked; shown = shown_is ∙ of_port; grant = h.grant; held = e; of_flow = h.of_flow; is = h.is; used = used }

-- *A label that serves a flow alone*, at a port of a controller
module _ (port : PortNo) (number : ℕ) (flow : FlowId) where
  abbrev IsAlone : Label → Type 0
  IsAlone label = serves label.state ≡ true → label.flow ≡ flow → label.number ≡ number

  abbrev ServesOnly : Controller → Type 0
  ServesOnly c = (linked : Linked) → linked_at c port ≡ Some linked → Every IsAlone (labels_of linked.port)

  abbrev Ascend : Linked → Type 0
  Ascend linked = InOrder IsBefore (labels_of linked.port)

  below : (m n : ℕ) → m < n → m ≡ n → ⊥
  below m n less same = omega (arith, less, same)

  module _ (a b : Controller) (stay : LabelsStay a b) (ascend : Every Ascend b.ports) (h : ServesOnly a) where
    alone_was : (k : ℕ) (label : Label) → Was (label_on a (label_end port k)) label → IsAlone label
    alone_was k label o serving of_flow = o.number ∙ old_alone (ap serves (sym o.state) ∙ serving) (sym o.flow ∙ of_flow)
      where
        by : (l : Option Linked) → linked_at a port ≡ l → option_and_then (λ (x : Linked). label_at x.port (number_of_channel (label_end port k).channel)) l ≡ Some o.old → IsAlone o.old
        by None of_port e = absurd (cc e)
        by (Some linked) of_port e = at_every label_number IsAlone (number_of_channel (label_end port k).channel) (labels_of linked.port) o.old (h linked of_port) e

        old_alone : IsAlone o.old
        old_alone = by (linked_at a port) refl o.there

    serves_only : ServesOnly b
    serves_only linked of_port = every_map (λ (x : Label). at label_number x.number labels ≡ Some x) IsAlone labels each (each_found label_number labels
        (order_map IsBefore (λ (x y : Label). label_number x ≡ label_number y → ⊥) (λ (x : Label). Unit {0}) labels (λ x y p q less. below x.number y.number less)
        (every_all (λ (x : Label). Unit {0}) labels (λ x. tt)) (at_every port_key Ascend port.0 b.ports linked ascend of_port)))
      where
        labels : List Label
        labels = labels_of linked.port

        each : (x : Label) → at label_number x.number labels ≡ Some x → IsAlone x
        each x e = alone_was x.number x (was (label_on a (label_end port x.number)) (label_on b (label_end port x.number)) x (stay (label_end port x.number))
            (ap (option_and_then (λ (l : Linked). label_at l.port (number_of_channel (label_end port x.number).channel))) of_port
            ∙ (ap (label_at linked.port) (number_again x.number) ∙ e)))

module _ (whole : HoldsInRuns IsWhole) (policy : Policy) (topology : Topology) (before : List Event) (beat : Beat)
    (ease : IsAtEase topology (world_at policy topology before)) (b : IsCalmBeat policy topology before beat) where
  abbrev w : World
  w = world_at policy topology before

  abbrev u : World
  u = world_after topology w (tick_of_all w)

  abbrev m : IsMirroredPeace topology w
  m = ease.peace

  -- *The tick of a node's controller*: it is at peace, and as it was when the beat began
  record IsTurn (node : NodeId) (site : Site) (v : World) : Type 0 where
    found : site_at w node ≡ Some site
    may_tick : MayTick (acting v site)
    ascend : Every (λ (linked : Linked). InOrder IsBefore (labels_of linked.port)) (ticks (acting v site)).controller.ports

  -- *What a controller's own tick keeps* is kept through all of them
  module _ (node : NodeId) (Q : Controller → Type 0) (step : (site : Site) (v : World) → IsTurn node site v → Q site.controller → Q (ticks (acting v site)).controller) where
    abbrev All : World → Type 0
    All v = (site : Site) → site_at v node ≡ Some site → Q site.controller

    module _ (front rest : List Event) (h : All (world_after topology w front)) where
      abbrev v : World
      v = world_after topology w front

      -- in its own tick
      module _ (e : tick_of_all w ≡ front ++ Tick node ∷ rest) (site : Site) (found : site_at v node ≡ Some site) where
        abbrev behind : Site
        behind = ticked whole policy topology before beat m b front rest node e site found

        there_now : site_at (next topology v (Tick node)) node ≡ Some behind
        there_now = there whole policy topology before beat m b front rest node e site found

        n : IsNodeOfRun policy (past_of policy topology (before ++ (front ++ Tick node ∷ []))) node behind
        n = node_then whole policy topology before beat m b front rest (Tick node) e node behind there_now

        turn : IsTurn node site v
        turn = record {
          found = sym (site_waits topology w front rest node m.lasting.peace.shaped e) ∙ found;
          may_tick = may whole policy topology before beat m b front rest node e site found;
          ascend = every_map (λ (linked : Linked). IsPort (setups_of behind.controller) linked.setup linked.port) (λ (linked : Linked). InOrder IsBefore (labels_of linked.port)) behind.controller.ports
              (λ linked port. port.ascend) n.conduct.sound.ports.each;
        }

        own : (now : Site) → site_at (next topology v (Tick node)) node ≡ Some now → Q now.controller
        own now here = subst (λ (s : Site). Q s.controller) (one_site behind now (sym there_now ∙ here)) (step site v turn (h site found))

      tick_own : tick_of_all w ≡ front ++ Tick node ∷ rest → All (next topology v (Tick node))
      tick_own e now here =
          let link : IsCalmLink v node = ticks_met whole policy topology before beat m b front (Tick node ∷ rest) e node
          (node_then whole policy topology before beat m b front rest (Tick node) e node now here).is_node.number in
          own e link.site link.found now here

      switch_own : tick_of_all w ≡ front ++ TickSwitch node ∷ rest → All (next topology v (TickSwitch node))
      switch_own e now here =
          let link : IsCalmLink v node = ticks_met whole policy topology before beat m b front (TickSwitch node ∷ rest) e node
          (node_then whole policy topology before beat m b front rest (TickSwitch node) e node now here).is_node.number in
          subst (λ (s : Site). Q s.controller) (one_site (record link.site { switch = (tick_comes (switching (put_away v) link.site)).switch }) now
          (sym (switch_here (put_away v) node link.site link.found tick_comes) ∙ here)) (h link.site link.found)

      tick_step : (event : Event) → tick_of_all w ≡ front ++ event ∷ rest → All (next topology v event)
      tick_step event e = by event (all_ticks w front rest event e) e
        where
          by : (x : Event) → IsTick x → tick_of_all w ≡ front ++ x ∷ rest → All (next topology v x)
          by x (of_controller here) f = by_eq here.0 node.0
              (λ same d. subst (λ (k : NodeId). tick_of_all w ≡ front ++ Tick k ∷ rest → All (next topology v (Tick k))) (same_node node here same) tick_own f)
              (λ apart d now found. h now (sym (controller_elsewhere (put_away v) node here ticks (λ a. (ticks_paces 0 a).node) apart) ∙ found))
          by x (of_switch here) f = by_eq here.0 node.0
              (λ same d. subst (λ (k : NodeId). tick_of_all w ≡ front ++ TickSwitch k ∷ rest → All (next topology v (TickSwitch k))) (same_node node here same) switch_own f)
              (λ apart d now found. h now (sym (switch_elsewhere (put_away v) node here tick_comes apart) ∙ found))

    through : All w → All u
    through h = along topology All (tick_of_all w) w h (λ front rest event e k. tick_step front rest k event e) (tick_of_all w) [] (sym (append-nil (tick_of_all w)))

  module _ (end : LinkEnd) where
    -- a node is there still
    link : (linked : Linked) → linked_end w end ≡ Some linked → IsCalmLink u end.node
    link linked shown = by (is_at w end linked shown)
      where
        by : IsAt w end linked → IsCalmLink u end.node
        by r = ticks_met whole policy topology before beat m b (tick_of_all w) [] (sym (append-nil (tick_of_all w))) end.node
            (of_run whole policy topology before beat m b end.node r.site r.found).is_node.number

    module _ (number : ℕ) (flow : FlowId) where
      -- *Labels*
      held : (join : Option End) → ((site : Site) (v : World) → IsTurn end.node site v → IsHeld site.controller (label_end end.port number) flow join
          → IsHeld (ticks (acting v site)).controller (label_end end.port number) flow join) → HoldsLabel w end number flow join → HoldsLabel u end number flow join
      held join step h = by (link h.linked h.shown)
        where
          by : IsCalmLink u end.node → HoldsLabel u end number flow join
          by l = held_out u end l.site l.found number flow join (through end.node (λ c. IsHeld c (label_end end.port number) flow join) step
              (λ site found. held_in w end site found number flow join h) l.site l.found)

      joined : (output : End) → HoldsLabel w end number flow (Some output) → HoldsLabel u end number flow (Some output)
      joined output h = held (Some output) (λ site v turn k. tick_joined (acting v site) turn.may_tick (label_end end.port number) flow output k) h

      -- *Grants*
      grants : (f : FlowId) (state : GrantState) → ((site : Site) (v : World) → IsTurn end.node site v → IsGranted site.controller end.port number f state
          → IsGranted (ticks (acting v site)).controller end.port number f state) → HoldsGrant w end number f state → HoldsGrant u end number f state
      grants f state step h = by (link h.linked h.shown)
        where
          by : IsCalmLink u end.node → HoldsGrant u end number f state
          by l = granted_out u end l.site l.found number f state h.used (through end.node (λ c. IsGranted c end.port number f state) step
              (λ site found. granted_in w end site found number f state h) l.site l.found)

      -- *The only label*
      alone : ServesAlone w end number flow → ServesAlone u end number flow
      alone h linked shown = by (is_at u end linked shown)
        where
          by : IsAt u end linked → Every (IsAlone end.port number flow) (labels_of linked.port)
          by r = through end.node (ServesOnly end.port number flow)
              (λ site v turn k. serves_only end.port number flow site.controller (ticks (acting v site)).controller (tick_labels (acting v site) turn.may_tick) turn.ascend k)
              (λ site found x of_port. h x (shown_is w end site found ∙ of_port)) r.site r.found linked r.of_port

pub ticks_keep_joined : HoldsInRuns IsWhole → TicksKeepJoined
ticks_keep_joined whole policy topology before beat ease b end number flow output h = joined whole policy topology before beat ease b end number flow output h

pub ticks_keep_last : HoldsInRuns IsWhole → TicksKeepLast
ticks_keep_last whole policy topology before beat ease b end number flow route h = held whole policy topology before beat ease b end number flow None
    (λ site v turn k. tick_last (acting v site) turn.may_tick (label_end end.port number) flow
    (sym (ap (λ (o : Option Site). best (option_map_or (λ (s : Site). s.controller.table) o []) (flow_destination flow)) turn.found) ∙ route) k) h

pub ticks_keep_lent : HoldsInRuns IsWhole → TicksKeepLent
ticks_keep_lent whole policy topology before beat ease b end number flow input h = grants whole policy topology before beat ease b end number flow flow (ByInput input)
    (λ site v turn k. tick_lent (acting v site) turn.may_tick end.port number flow input k) h

pub ticks_keep_first : HoldsInRuns IsWhole → TicksKeepFirst
ticks_keep_first whole policy topology before beat ease b end number flow begins more h = grants whole policy topology before beat ease b end number flow (one_hop flow) ByController
    (λ site v turn k. tick_first (acting v site) turn.may_tick end.port number flow more
    (λ input label among there. begins site.controller input label (ap (option_map (λ (s : Site). s.controller)) turn.found) among there) k) h

pub ticks_serve_alone : HoldsInRuns IsWhole → TicksServeAlone
ticks_serve_alone whole policy topology before beat ease b end number flow h = alone whole policy topology before beat ease b end number flow h
