-- a node before an event, in the words of its ports

use Rattle.std.proofs.Common.{◌≡◌, ◌≢◌, ℕ, zero, suc, Bool, true, false, List, [], ◌∷◌, Option, None, Some, refl, sym, ◌∙◌, ap, subst, arith, inl}
use Rattle.std.specs.Prelude.{Contains, is_some, ◌&&◌}
use Rattle.std.specs.Option.{option_map, option_map_or, option_and_then}
use Rattle.world_model.specs.Words.{NodeId, PortNo, Down, is_label_number, State, Clearing, is_estab, FlowId, Frame, at, Setup, Label, LabelState, Wiring, Offered, Recalled, Wired, label_number, Grant, Session, labels_of, IsFlow, Controller, Linked, linked_at, port_key, setup_of, Topology, timers_of, IsTopology, World, Site, site_at, queue_in, put_away, linked_end, side_at, Past, past_of, last_bound, Way, IsWay, WasCleared, held, Policy}
use Rattle.law_frame_readings.specs.ordered_lists.Ordered.{Every, InOrder}
use Rattle.law_frame_readings.proofs.ordered_lists.Every.{every_all, every_map, every_mapped, every_unmapped}
use Rattle.law_frame_readings.specs.law_port_facts.Port.{IsPort, IsLabel, IsBefore, IsGrant, HasFlows}
use Rattle.law_frame_readings.proofs.law_port_facts.Keyed.{at_every, each_found}
use Rattle.law_frame_readings.proofs.law_port_facts.Rules.{and_first}
use Rattle.law_frame_readings.specs.law_port_widths.Widths.{FitsLabel}
use Rattle.world_model.specs.Controller.{Acted}
use Rattle.law_frame_readings.proofs.law_controller_facts.Moves.{Found}
use Rattle.law_frame_readings.proofs.law_controller_facts.Joining.{each_there}
use Rattle.law_run_facts.specs.law_controller_bindings.Bindings.{IsBoundLast}
use Rattle.law_run_facts.proofs.law_controller_bindings.Lasts.{some_same}
use Rattle.law_frame_readings.specs.law_controller_views.Ready.{IsReadyPort}
use Rattle.world_model.specs.network_model.declared.link.LinkEnd.{LinkEnd}
use Rattle.world_model.specs.network_model.declared.event.Event.{Event}
use Rattle.world_model.specs.Topology.{peer_of}
use Rattle.law_frame_readings.specs.law_world_views.Ready.{setups_of}
use Rattle.law_frame_readings.specs.law_world_views.Shown.{acting}
use Rattle.law_frame_readings.specs.law_world_views.Tied.{HasClearedEnds}
use Rattle.law_frame_readings.specs.law_world_views.Between.{IsWorld}
use Rattle.law_run_facts.specs.Nodes.{IsNodeOfRun}
use Rattle.law_running_worlds.proofs.law_causes.Shown.{IsPeer, peer_back}
use Rattle.law_unused_labels.proofs.Seen.{every_contained}
use Rattle.law_unused_labels.proofs.Links.{link_of, link_is}
use Rattle.law_port_words.specs.Words.{Terms, Stands, StandsAs, IsGranted, IsSteadyAt, IsMade, was_made, IsSent, IsSteadily, waited}
use Rattle.law_told_worlds.specs.Before.{end_at, IsBindable, IsWiringAt, IsBoundTo, OfPeer, terms, is_wiring, is_bound_to}

shifted : {A : Type 0} (x y : A) (xs : List A) → Contains xs y → Contains (x ∷ xs) y
shifted x y xs (k, less, is) = (suc k, omega (arith, less), is)

pub every_from : {A : Type 0} (P : A → Type 0) (xs : List A) → ((x : A) → Contains xs x → P x) → Every P xs
every_from P [] each = tt
every_from P (x ∷ xs) each = (each x (zero, omega arith, refl), every_from P xs (λ y has. each y (shifted x y xs has)))

-- *The other end* of the link at a port
pub record Peered (topology : Topology) (end : LinkEnd) : Type 0 where
  pub far : LinkEnd
  pub there : peer_of topology end.node end.port ≡ Some far
  pub peer : IsPeer topology end far

module _ (policy : Policy) (topology : Topology) (before : List Event) (is_topology : IsTopology topology) (world : IsWorld (past_of policy topology before))
    (node : NodeId) (site : Site) (found : site_at (past_of policy topology before).now node ≡ Some site) (run : IsNodeOfRun policy (past_of policy topology before) node site) where
  abbrev pub past : Past
  past = past_of policy topology before

  abbrev pub w : World
  w = past.now

  each : Every (λ (linked : Linked). Found (setups_of site.controller) (acting w site) linked × IsPort (setups_of site.controller) linked.setup linked.port) site.controller.ports
  each = each_there (setups_of site.controller) (acting w site) (record { ports = run.conduct.sound.ports; shaped = run.conduct.sound.requests })

  nodes : Every (λ (linked : Linked). linked.setup.node ≡ node) site.controller.ports
  nodes = every_unmapped (λ (linked : Linked). linked.setup) (λ (setup : Setup). setup.node ≡ node) site.controller.ports
      (subst (Every (λ (setup : Setup). setup.node ≡ node)) (sym run.is_node.setups)
      (every_mapped (setup_of node run.is_node.there.address (timers_of topology) policy) (λ (setup : Setup). setup.node ≡ node) _ (every_all (λ range. (setup_of node run.is_node.there.address (timers_of topology) policy range).node ≡ node) _ (λ range. refl))))

  module _ (linked : Linked) (at_port : linked_at site.controller linked.setup.port ≡ Some linked) (port_is : IsPort (setups_of site.controller) linked.setup linked.port) where
    abbrev pub own_end : LinkEnd
    own_end = end_at node linked.setup.port

    pub peered : Peered topology own_end
    peered = by (peer_of topology node linked.setup.port) refl (run.ports.linked linked.setup.port linked at_port)
      where
        by : (o : Option LinkEnd) → peer_of topology node linked.setup.port ≡ o → is_some o ≡ true → Peered topology own_end
        by None e there = absurd (cc there)
        by (Some far) e there = record { far = far; there = e; peer = peer_back topology is_topology own_end far e }

    pub linked_is : linked_end w own_end ≡ Some linked
    linked_is = ap (λ (o : Option Site). option_and_then (λ (c : Controller). linked_at c linked.setup.port) (option_map (λ x. x.controller) o)) found ∙ at_port

    pub side_is : side_at w own_end ≡ Some linked.port.adjacency
    side_is = ap (option_map (λ (x : Linked). x.port.adjacency)) linked_is

    abbrev pub way_from : Way
    way_from = record { down = own_end; up = peered.far }

    pub from_is : IsWay topology way_from
    from_is = record { downstream = peered.peer.back; upstream = peered.there }

    abbrev pub way_to : Way
    way_to = record { down = peered.far; up = own_end }

    pub to_is : IsWay topology way_to
    to_is = record { downstream = peered.there; upstream = peered.peer.back }

    cleared : HasClearedEnds past way_from
    cleared = world.cleared way_from from_is

    -- *Its labels*
    in_session : (o : Option Session) → linked.port.session ≡ o → (label : Label) → Contains (option_map_or (λ (s : Session). s.labels) o []) label
        → at label_number label.number (option_map_or (λ (s : Session). s.labels) o []) ≡ Some label → label.state ≡ Wiring → IsBindable label.number label.flow → IsWiringAt w own_end label.number label.flow
    in_session None e label has held wiring ok = absurd (omega (arith, has.1))
    in_session (Some session) e label has held wiring ok = record {
      session = session;
      is_open = ap (λ (o : Option Linked). option_and_then (λ (x : Linked). x.port.session) o) linked_is ∙ e;
      label = label;
      is_held = held;
      wiring = wiring;
      flow_is = refl;
      bindable = ok;
    }

    held_once : (label : Label) → Contains (labels_of linked.port) label → at label_number label.number (labels_of linked.port) ≡ Some label
    held_once label has = every_contained (λ (x : Label). at label_number x.number (labels_of linked.port) ≡ Some x) (labels_of linked.port) label
        (each_found label_number (labels_of linked.port) (order_less (labels_of linked.port) port_is.ascend)) has
      where
        rest_less : (x : Label) (xs : List Label) → Every (IsBefore x) xs → Every (λ (y : Label). label_number x ≢ label_number y) xs
        rest_less x [] all = tt
        rest_less x (y ∷ xs) all = ((λ e. omega (arith, all.0, e)), rest_less x xs all.1)

        order_less : (xs : List Label) → InOrder IsBefore xs → InOrder (λ (x : Label) (y : Label). label_number x ≢ label_number y) xs
        order_less [] order = tt
        order_less (x ∷ xs) order = (rest_less x xs order.0, order_less xs order.1)

    pub ready : IsReadyPort linked
    ready = at_every port_key IsReadyPort linked.setup.port.0 site.controller.ports linked (world.ready node site found).controller.ports at_port

    may_bind : (label : Label) → Contains (labels_of linked.port) label → IsBindable label.number label.flow
    may_bind label has = record {
      number_is = and_first (is_label_number label.number) _ (every_contained (IsLabel (setups_of site.controller) linked.setup) (labels_of linked.port) label port_is.labels has).in_range;
      fits = every_contained FitsLabel (labels_of linked.port) label ready.fits.labels has;
      is_flow = every_contained (λ (x : Label). IsFlow x.flow) (labels_of linked.port) label (at_every port_key (λ (x : Linked). HasFlows x.port) linked.setup.port.0 site.controller.ports linked run.conduct.flows at_port).labels has;
    }

    bound_last : (label : Label) → Contains (labels_of linked.port) label → label.state ≢ Wiring → IsBoundTo past own_end label.number label.flow
    bound_last label has other = (
      every_contained (IsBoundLast node past.records linked.setup.port) (labels_of linked.port) label
          (at_every port_key (λ (x : Linked). Every (IsBoundLast node past.records x.setup.port) (labels_of x.port)) linked.setup.port.0 site.controller.ports linked run.conduct.bound at_port) has other,
      may_bind label has,
    )

    -- *Its grants*
    granted : (grant : Grant) → Contains linked.port.grants grant → OfPeer past own_end (λ far. last_bound past.records far grant.label ≡ Some grant.flow)
    granted grant has far is = subst (λ (x : LinkEnd). last_bound past.records x grant.label ≡ Some grant.flow) (some_same peered.far far (sym peered.there ∙ is))
        ((world.users (link_of topology way_to grant.label) (link_is topology is_topology way_to to_is grant.label number)).grants grant
        (subst (λ (o : Option Linked). Contains (option_map_or (λ (x : Linked). x.port.grants) o []) grant) (sym linked_is) has) refl)
      where
        first : (a b : Bool) → (a && b) ≡ true → a ≡ true
        first true b e = refl
        first false b e = absurd (cc e)

        number : is_label_number grant.label ≡ true
        number = first (is_label_number grant.label) _ (every_contained (IsGrant (setups_of site.controller) linked.setup) linked.port.grants grant port_is.grants has).in_range

    estab_lives : (o : Option Session) (state : State) (session : Session) → o ≡ Some session → is_some o ≡ is_estab state → state ≢ Clearing
    estab_lives o state session e same is = cc (sym (ap is_estab is), sym same, ap is_some e)

    module _ (wired held offered bindable : PortNo → ℕ → FlowId → Type 0) (is_wired : (port : PortNo) (number : ℕ) (flow : FlowId) → is_wiring past node site.controller.address port number flow → wired port number flow)
        (is_held : (port : PortNo) (number : ℕ) (flow : FlowId) → is_bound_to past node site.controller.address port number flow → held port number flow) where
      abbrev t : Terms
      t = terms past node site.controller.address wired held offered bindable

      stands : (label : Label) → Contains (labels_of linked.port) label → Stands t linked.setup.port label
      stands label has = by label.state refl
        where
          by : (state : LabelState) → label.state ≡ state → StandsAs t linked.setup.port label.number label.flow state
          by Wiring e = is_wired linked.setup.port label.number label.flow (in_session linked.port.session refl label has (held_once label has) e (may_bind label has))
          by Offered e = is_held linked.setup.port label.number label.flow (bound_last label has (λ f. cc (sym e ∙ f)))
          by (Recalled last acknowledged) e = is_held linked.setup.port label.number label.flow (bound_last label has (λ f. cc (sym e ∙ f)))
          by Wired e = is_held linked.setup.port label.number label.flow (bound_last label has (λ f. cc (sym e ∙ f)))

      steady_port : IsSteadyAt t linked
      steady_port = (
        record {
          node = at_every port_key (λ (x : Linked). x.setup.node ≡ node) linked.setup.port.0 site.controller.ports linked nodes at_port;
          own = λ live. (cleared.0.opened linked.port.adjacency side_is live, ready.fits.own.0);
          stored = λ peer e far is. subst (λ (x : LinkEnd). WasCleared past x peer.instance.0) (some_same peered.far far (sym peered.there ∙ is)) (cleared.1.stored linked.port.adjacency peer side_is e);
          lives = λ session e. estab_lives linked.port.session linked.port.adjacency.state session e port_is.session;
          labels = every_from (Stands t linked.setup.port) (labels_of linked.port) stands;
          grants = every_from (IsGranted t linked.setup.port) linked.port.grants granted;
        },
        every_from (t.gathered linked.setup.port) linked.reassembly.chain
            (λ c has. inl (subst (λ (o : Option Linked). Contains (option_map_or (λ (x : Linked). x.reassembly.chain) o []) c) (sym linked_is) has)),
      )

  -- *The whole controller*
  abbrev pub started : Acted
  started = acting (put_away w) site

  pub start : (wired held offered bindable : PortNo → ℕ → FlowId → Type 0) → ((port : PortNo) (number : ℕ) (flow : FlowId) → is_wiring past node site.controller.address port number flow → wired port number flow)
      → ((port : PortNo) (number : ℕ) (flow : FlowId) → is_bound_to past node site.controller.address port number flow → held port number flow)
      → IsSteadily (terms past node site.controller.address wired held offered bindable) started
  start wired held offered bindable is_wired is_held = record {
    address = (refl, run.is_node.own);
    ports = every_map (λ (linked : Linked). Found (setups_of site.controller) (acting w site) linked × IsPort (setups_of site.controller) linked.setup linked.port) (IsSteadyAt (terms past node site.controller.address wired held offered bindable)) site.controller.ports
        (λ linked h. steady_port linked h.0 h.1 wired held offered bindable is_wired is_held) each;
    cells = every_from (IsSent (terms past node site.controller.address wired held offered bindable) [] w.notes.frames w.numbers.controls) site.controller.queue
        (λ c has. waited (subst (λ (o : Option Site). Contains (option_map_or (λ x. queue_in x (Down node)) o []) c) (sym found) has));
    records = tt;
    frames = every_from (IsMade (λ (frame : Frame). Contains w.notes.frames frame) (λ (code : ℕ). ⊥) site.controller.address) w.notes.frames (λ frame has. was_made has);
  }
