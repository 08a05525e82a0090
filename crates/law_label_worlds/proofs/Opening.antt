-- the line of each label of each link at the opening of a network

use Rattle.std.proofs.Common.{◌≡◌, ℕ, ◌+◌, ◌≤◌, ◌<◌, List, [], ◌++◌, Option, None, Some, refl, sym, ◌∙◌, ap, ap₂, subst, arith, inl, Contains}
use Rattle.std.specs.Prelude.{is_some}
use Rattle.std.specs.Option.{option_map, option_map_or, option_and_then}
use Rattle.std.specs.FinMap.{get-empty}
use Rattle.world_model.specs.Words.{End, NodeId, PortNo, Addr, Peer, Clearing, Side, router, side_of, Cell, Frame, payload_of, at, end_cmp, Branches, queue_of, control_port, Policy, label_number, Grant, grant_label, Session, Controller, Linked, port_key, linked_at, default_channel, Topology, World, Site, site_at, on_channel, past_of}
use Rattle.world_model.specs.adjacency_table.Instances.{begun}
use Rattle.law_label_events.proofs.law_port_facts.Keyed.{at_key}
use Rattle.world_model.specs.crossbar_model.declared.branch.Branch.{Branch}
use Rattle.world_model.specs.crossbar_model.Crossbar.{output_of}
use Rattle.law_label_events.specs.law_label_line.Cells.{Role, Downstream, Upstream}
use Rattle.law_label_events.specs.law_label_line.Line.{Line, NoGrant, start}
use Rattle.world_model.specs.network_model.declared.link.LinkEnd.{LinkEnd}
use Rattle.world_model.specs.World.{opened}
use Rattle.law_label_events.specs.law_port_views.Link.{LinkLabel}
use Rattle.law_label_events.specs.law_port_views.Shown.{DownAt, UpAt, GrantShows, Once, part_of, label_of, flow_of, number_of, known_number, expected_number}
use Rattle.law_label_events.specs.law_shown_cells.Seen.{nothing}
use Rattle.law_label_events.specs.law_shown_cells.Label.{OnLink, OnControl, Where, ShowsCells}
use Rattle.law_label_events.specs.law_controller_views.Ends.{End as EndShows, working}
use Rattle.law_label_events.proofs.law_controller_views.Parts.{both}
use Rattle.law_label_events.specs.law_world_views.Pairs.{Pairs, by_branch, by_desk, by_copy, IsLike}
use Rattle.law_label_events.specs.law_world_views.Shown.{end_of, WorldShows}
use Rattle.law_label_events.specs.law_world_views.Between.{HasLabelLine}
use Rattle.law_run_facts.specs.Drawn.{ByPort, own_at}
use Rattle.law_label_worlds.proofs.Opened.{IsNew, IsNewPort, new_at, new_port, none_made, no_cells}

none_contained : {X : Type 0} (xs : List X) (x : X) → xs ≡ [] → Contains xs x → ⊥
none_contained {X} xs x e is = none (subst (λ (ys : List X). Contains ys x) e is)
  where
    none : Contains [] x → ⊥
    none (k, low, found) = absurd (omega (arith, low))

-- no cells show no words
no_words : (place : Where) (by : Role) (link : LinkLabel) (frames : List Frame) (cells : List Cell) → cells ≡ [] → ShowsCells place by link frames cells []
no_words place by link frames cells e = subst (λ (cs : List Cell). ShowsCells place by link frames cs []) (sym e) nothing

-- *An end* of a link, as it is opened
pub record HasEnd (w : World) (node : NodeId) (port : PortNo) (own : Addr) : Type 0 where
  pub site : Site
  pub found : site_at w node ≡ Some site
  pub linked : Linked
  pub linked_is : linked_at site.controller port ≡ Some linked
  pub address : site.controller.address ≡ own
  pub port_address : linked.setup.address ≡ own

module _ (policy : Policy) (topology : Topology) (below : (end : LinkEnd) (instance : ℕ) → own_at (opened policy topology) (ByPort end) ≡ Some instance → instance ≤ (opened policy topology).numbers.instances) (link : LinkLabel)
    (has : (role : Role) → HasEnd (opened policy topology) (link.node role) (link.port role) (link.address role)) where
  abbrev w : World
  w = opened policy topology

  record Opens (role : Role) : Type 0 where
    site : Site
    found : site_at w (link.node role) ≡ Some site
    linked : Linked
    linked_is : linked_at site.controller (link.port role) ≡ Some linked
    address : site.controller.address ≡ link.address role
    port_address : linked.setup.address ≡ link.address role
    new : IsNew site
    new_linked : IsNewPort linked
    drawn : new_linked.instance < w.numbers.instances + 1

  opens : (role : Role) → Opens role
  opens role =
      let h : HasEnd w (link.node role) (link.port role) (link.address role) = has role in
      let new : IsNew h.site = new_at policy topology (link.node role) h.site h.found in
      let port : IsNewPort h.linked = new_port h.site (link.port role) h.linked new h.linked_is in
      let own : own_at w (ByPort (end_of role link)) ≡ Some h.linked.port.adjacency.own.instance.0 =
      ap (λ (o : Option Site). option_map (λ (side : Side Peer). side.own.instance.0) (option_map (λ (linked : Linked). linked.port.adjacency)
      (option_and_then (λ (c : Controller). linked_at c (link.port role)) (option_map (λ (site : Site). site.controller) o)))) h.found
      ∙ ap (λ (o : Option Linked). option_map (λ (side : Side Peer). side.own.instance.0) (option_map (λ (linked : Linked). linked.port.adjacency) o)) h.linked_is in
      let few : h.linked.port.adjacency.own.instance.0 ≤ w.numbers.instances = below (end_of role link) h.linked.port.adjacency.own.instance.0 own in
      record {
        site = h.site;
        found = h.found;
        linked = h.linked;
        linked_is = h.linked_is;
        address = h.address;
        port_address = h.port_address;
        new = new;
        new_linked = port;
        drawn = omega (arith, few, ap (λ (s : Side Peer). s.own.instance.0) port.side);
      }

  abbrev line : Line
  line = start (opens Downstream).new_linked.instance (opens Upstream).new_linked.instance (w.numbers.instances + 1)

  side_is : (role : Role) (o : Opens role) (far : Addr)
      → o.linked.port.adjacency ≡ side_of (router (link.address role)) (router far) (begun Clearing o.new_linked.instance) o.linked.port.adjacency.silence
  side_is role o far = o.new_linked.side ∙ ap₂ (λ (a : Addr) (n : ℕ). record { state = Clearing; own = router a o.new_linked.instance; stored = None; silence = n }) o.port_address
      (sym (ap (λ (s : Side Peer). s.silence) o.new_linked.side))

  by_session : {X : Type 0} (role : Role) (o : Opens role) (f : Option Session → X) → f None ≡ f o.linked.port.session
  by_session role o f = ap f (sym o.new_linked.session)

  -- *Nothing is joined*
  no_pair : (o : Opens Upstream) (input output : End) → Pairs w (link.node Upstream) input output → ⊥
  no_pair o input output (by_branch e) = cc (e, none)
    where
      none : option_and_then (λ (site : Site). output_of site.switch.crossbar.branches input) (site_at w (link.node Upstream)) ≡ None
      none = ap (option_and_then (λ (site : Site). output_of site.switch.crossbar.branches input)) o.found
          ∙ (ap (λ (m : Branches). output_of m input) o.new.branches ∙ ap (option_map (λ (b : Branch). b.output)) (get-empty end_cmp input))
  no_pair o input output (by_desk s there leads_to) = none_contained _ s
      (ap (λ (x : Option Site). option_map_or (λ c. c.desk.standing) (option_map (λ (site : Site). site.controller) x) []) o.found ∙ o.new.standing) there
  no_pair o input output (by_copy s cell there copy leads_to) = none_contained _ cell
      (ap (λ (x : Option Site). option_map_or (λ (site : Site). site.switch.reassembly.chain) x [] ++ on_channel default_channel (option_map_or (λ (site : Site). site.controller.queue) x [])) o.found
      ∙ ap₂ (λ (xs ys : List Cell). xs ++ on_channel default_channel ys) o.new.chain o.new.queue) there

  -- *The ends show it*
  down_at : (o : Opens Downstream) (p : Opens Upstream) → DownAt link [] (working o.linked [] w.numbers.instances) (part_of Downstream (start o.new_linked.instance p.new_linked.instance (w.numbers.instances + 1)))
  down_at o p = record {
    side = side_is Downstream o (link.address Upstream);
    session = ap is_some o.new_linked.session;
    label = by_session Downstream o (λ (s : Option Session). label_of (at label_number link.label (option_map_or (λ x. x.labels) s [])));
    flow = by_session Downstream o (λ (s : Option Session). flow_of 0 (at label_number link.label (option_map_or (λ x. x.labels) s [])));
    number = by_session Downstream o number_of;
    unspent = omega arith;
    known = by_session Downstream o known_number;
    reassembled = refl;
    drawn = omega arith;
    own = tt;
    sent = refl;
  }

  up_at : (p : Opens Downstream) (o : Opens Upstream) → UpAt link (IsLike w link) [] (working o.linked [] w.numbers.instances) (part_of Upstream (start p.new_linked.instance o.new_linked.instance (w.numbers.instances + 1)))
  up_at p o = record {
    side = side_is Upstream o (link.address Downstream);
    session = ap is_some o.new_linked.session;
    grant = subst (λ (gs : List Grant). GrantShows Clearing (at grant_label link.label gs) NoGrant) (sym o.new_linked.grants) (inl refl);
    once = subst (Once link.label) (sym o.new_linked.grants) tt;
    lent = λ like. absurd (no_pair o like.input _ like.pair);
    expected = by_session Upstream o expected_number;
    drawn = omega arith;
    own = tt;
    sent = refl;
  }

  port_is : (role : Role) (o : Opens role) → o.linked.setup.port ≡ link.port role
  port_is role o = ap (λ (n : ℕ). record { 0 = n }) (at_key port_key (link.port role).0 o.site.controller.ports o.linked o.linked_is)

  ends : (role : Role) → EndShows link (IsLike w link) role w.notes.frames w.numbers.instances (opens role).site.controller [] line
  ends Downstream =
      let o : Opens Downstream = opens Downstream in
      record {
        linked = o.linked;
        found = o.linked_is;
        port = port_is Downstream o;
        address = o.address;
        port_address = o.port_address;
        queued = [];
        queue = no_words (OnControl (link.port Downstream)) Downstream link w.notes.frames o.site.controller.queue o.new.queue;
        shown = down_at o (opens Upstream);
        taken = no_words (OnControl (link.port Downstream)) Upstream link w.notes.frames o.linked.reassembly.chain o.new_linked.chain;
      }
  ends Upstream =
      let o : Opens Upstream = opens Upstream in
      record {
        linked = o.linked;
        found = o.linked_is;
        port = port_is Upstream o;
        address = o.address;
        port_address = o.port_address;
        queued = [];
        queue = no_words (OnControl (link.port Upstream)) Upstream link w.notes.frames o.site.controller.queue o.new.queue;
        shown = up_at (opens Downstream) o;
        taken = no_words (OnControl (link.port Upstream)) Downstream link w.notes.frames o.linked.reassembly.chain o.new_linked.chain;
      }

  empty_at : (place : Where) (by role : Role) (port : PortNo) → ShowsCells place by link w.notes.frames (queue_of (opens role).site.switch.crossbar port) []
  empty_at place by role port = no_words place by link w.notes.frames (queue_of (opens role).site.switch.crossbar port) (no_cells (opens role).site.switch.crossbar port (opens role).new.queues)

  shows : WorldShows link (IsLike w link) w line
  shows = record {
    end = λ role. (opens role).site;
    found = λ role. (opens role).found;
    net = record {
      end = ends;
      waiting = both _ (empty_at (OnControl (link.port Downstream)) Upstream Downstream control_port) (empty_at (OnControl (link.port Upstream)) Downstream Upstream control_port);
      output = both _ (empty_at OnLink Downstream Downstream (link.port Downstream)) (empty_at OnLink Upstream Upstream (link.port Upstream));
      unmade = λ k less. ap (λ (fs : List Frame). payload_of fs (record { packet = 0; frame = k })) (none_made policy topology);
    };
  }

  pub line_opens : HasLabelLine (past_of policy topology []) link
  line_opens = record {
    line = line;
    reached = record {
      downstream = (opens Downstream).new_linked.instance;
      upstream = (opens Upstream).new_linked.instance;
      fresh = w.numbers.instances + 1;
      downstream_drawn = (opens Downstream).drawn;
      upstream_drawn = (opens Upstream).drawn;
      moves = [];
      is = refl;
    };
    shows = shows;
  }
