-- where no route changes each node holds the routes that the topology gives it, in every world of a run

use Rattle.std.proofs.Common.{◌≡◌, ◌≢◌, ℕ, zero, suc, ◌<◌, ◌≤◌, ◌+◌, ◌||◌, Bool, true, false, true≢false, List, [], ◌∷◌, ◌++◌, length, fold, slice_get, Option, None, Some, refl, sym, ◌∙◌, ap, subst, arith, if◌then◌else◌}
use Rattle.std.specs.Prelude.{nat_eq}
use Rattle.std.specs.List.{list_any}
use Rattle.std.specs.Option.{option_map_or}
use Rattle.claims_model.specs.world_model.Words.{NodeId, Place, Down, Up, Out, Channel, next_control, with_control, Cell, changed, RouteChange, Forged, Refusal, at, put, Policy, control_port, Controller, inject_refusal, injected, node_restarts, Topology, Node, routes_of, table_to_be, World, Site, site_key, site_at, controller_acts, switch_acts, empty_world, opened_site, with_opened, opens_each, place_node, queue_at, with_queue, with_queue_in, with_queue_of, injects, injects_by, arrives, arrives_at, carries_head, loses_head, forges, put_away, next, worlds_from, table_in, past_of}
use Rattle.claims_model.specs.world_model.ipv4_forward.declared.table.Route.{Route}
use Rattle.claims_model.specs.world_model.Switch as switches
use Rattle.claims_model.specs.world_model.Conduct as switch
use Rattle.claims_model.specs.world_model.Controller.{Acted}
use Rattle.claims_model.specs.world_model.Sending.{sends}
use Rattle.claims_model.specs.world_model.Cells as controller
use Rattle.claims_model.specs.world_model.Ticks.{ticks}
use Rattle.claims_model.specs.world_model.network_model.declared.event.Event.{Event}
use Rattle.claims_model.specs.world_model.network_model.declared.event.Event.TheVariants.{Inject, Carry, Lose, Tick, TickSwitch, Restart, RestartSwitch, Forge, Route as RouteComes}
use Rattle.claims_model.specs.world_model.network_model.declared.link.LinkEnd.{LinkEnd}
use Rattle.claims_model.specs.world_model.Topology.{peer_of}
use Rattle.claims_model.specs.world_model.World.{at_controller, at_switch, opened}
use Rattle.claims_model.specs.world_model.Step.{note, acts}
use Rattle.claims_model.proofs.world_model.Lists.{by_eq, at_key, at_put_same, at_put_other}
use Rattle.law_actor_pace.specs.Pace.{changes_of}
use Rattle.law_actor_pace.proofs.Paces.{Follows, follows, sends_paces}
use Rattle.law_actor_pace.proofs.Controllers.{cell_follows, injected_paces, ticks_paces, restarts_paces}
use Rattle.law_steady_routes.specs.Tables.{changes_route, ChangesNoRoute}

-- *A controller* to which no change of a route came, and which holds these routes
record Holds (routes : List Route) (c : Controller) : Type 0 where
  none : changes_of c ≡ 0
  table : table_to_be c ≡ routes

-- a node; one that isn't there has no routes
abbrev IsSteady : (routes : List Route) → Option Site → Type 0
IsSteady routes None = routes ≡ []
IsSteady routes (Some site) = Holds routes site.controller

follows_hold : (floor : ℕ) (a b : Acted) → Follows floor a b → (routes : List Route) → Holds routes a.controller → Holds routes b.controller
follows_hold floor a b f routes h = record { none = f.changes ∙ h.none; table = f.to_be ∙ h.table }

table_is : (routes : List Route) (found : Option Site) → IsSteady routes found → option_map_or (λ (site : Site). site.controller.table) found [] ≡ routes
table_is routes None h = sym h
table_is routes (Some site) h = unchanged site.controller.waiting h.none ∙ h.table
  where
    unchanged : (waiting : List RouteChange) → site.controller.changes + length waiting ≡ 0 → site.controller.table ≡ fold changed site.controller.table waiting
    unchanged [] none = refl
    unchanged (change ∷ waiting) none = absurd (omega (arith, none))

-- *One node more*
at_more : (number : ℕ) (sites : List Site) (site : Site) → site_key site ≢ number → at site_key number (sites ++ site ∷ []) ≡ at site_key number sites
at_more number [] site away = by_eq (site_key site) number
    (λ same is. absurd (away same))
    (λ other is. ap (λ (b : Bool). if b then Some site else None) is)
at_more number (x ∷ sites) site away = ap (λ (o : Option Site). if nat_eq (site_key x) number then Some x else o) (at_more number sites site away)

at_last : (sites : List Site) (site : Site) → at site_key (site_key site) sites ≡ None → at site_key (site_key site) (sites ++ site ∷ []) ≡ Some site
at_last [] site none = by_eq (site_key site) (site_key site)
    (λ same is. ap (λ (b : Bool). if b then Some site else None) is)
    (λ other is. absurd (other refl))
at_last (x ∷ sites) site none = by_eq (site_key x) (site_key site)
    (λ same is. (let found : Some x ≡ None = subst (λ (b : Bool). (if b then Some x else at site_key (site_key site) sites) ≡ None) is none in absurd (cc found)))
    (λ other is. ap (λ (b : Bool). if b then Some x else at site_key (site_key site) (sites ++ site ∷ [])) is
    ∙ at_last sites site (subst (λ (b : Bool). (if b then Some x else at site_key (site_key site) sites) ≡ None) is none))

neither : (a b : Bool) → (a || b) ≡ false → (a ≡ false) × (b ≡ false)
neither true b e = absurd (true≢false e)
neither false b e = (refl, e)

module _ (t : Topology) where
  abbrev routes_at : ℕ → List Route
  routes_at number = routes_of t (record { 0 = number })

  -- *All nodes*
  abbrev AreSteady : List Site → Type 0
  AreSteady sites = (number : ℕ) → IsSteady (routes_at number) (at site_key number sites)

  -- a node is put in the place of itself
  put_steady : (sites : List Site) (number : ℕ) (old new : Site) → at site_key number sites ≡ Some old → site_key new ≡ number
      → ((routes : List Route) → Holds routes old.controller → Holds routes new.controller) → AreSteady sites → AreSteady (put site_key new sites)
  put_steady sites number old new found same keeps steady other = by_eq (site_key new) other
      (λ here is. subst (λ n. IsSteady (routes_at n) (at site_key n (put site_key new sites))) here
      (subst (IsSteady (routes_at (site_key new))) (sym (at_put_same site_key new sites old there))
      (keeps (routes_at (site_key new)) (subst (IsSteady (routes_at (site_key new))) there (steady (site_key new))))))
      (λ away is. subst (IsSteady (routes_at other)) (sym (at_put_other site_key new other sites away)) (steady other))
    where
      there : at site_key (site_key new) sites ≡ Some old
      there = subst (λ n. at site_key n sites ≡ Some old) (sym same) found

  module _ (w : World) (steady : AreSteady w.sites) where
    controller_steady : (floor : ℕ) (node : NodeId) (rule : Acted → Acted) → ((a : Acted) → Follows floor a (rule a)) → AreSteady (at_controller w node rule).sites
    controller_steady floor node rule goes = by (site_at w node) refl
      where
        by : (o : Option Site) → site_at w node ≡ o → AreSteady (controller_acts w o rule).sites
        by None found = steady
        by (Some site) found =
            let a : Acted = record { controller = site.controller; notes = w.notes; numbers = w.numbers } in
            let f : Follows floor a (rule a) = goes a in
            put_steady w.sites node.0 site (record site { controller = (rule a).controller }) found
            (ap (λ (n : NodeId). n.0) f.node ∙ at_key site_key node.0 w.sites site found) (follows_hold floor a (rule a) f) steady

    switch_steady : (node : NodeId) (rule : switches.ActedSwitch → switches.ActedSwitch) → AreSteady (at_switch w node rule).sites
    switch_steady node rule = by (site_at w node) refl
      where
        by : (o : Option Site) → site_at w node ≡ o → AreSteady (switch_acts w o rule).sites
        by None found = steady
        by (Some site) found =
            put_steady w.sites node.0 site (record site { switch = (rule (record { switch = site.switch; notes = w.notes; numbers = w.numbers })).switch }) found
            (at_key site_key node.0 w.sites site found) (λ routes h. h) steady

    queue_steady : (place : Place) (cells : List Cell) → AreSteady (with_queue w place cells).sites
    queue_steady place cells = by (site_at w (place_node place)) refl
      where
        key : (p : Place) (site : Site) → site_key (with_queue_in site p cells) ≡ site_key site
        key (Down node) site = refl
        key (Up node) site = refl
        key (Out node port) site = refl

        keeps : (p : Place) (site : Site) (routes : List Route) → Holds routes site.controller → Holds routes (with_queue_in site p cells).controller
        keeps (Down node) site routes h = record { none = h.none; table = h.table }
        keeps (Up node) site routes h = h
        keeps (Out node port) site routes h = h

        by : (o : Option Site) → site_at w (place_node place) ≡ o → AreSteady (with_queue_of w place cells o).sites
        by None found = steady
        by (Some site) found =
            put_steady w.sites (place_node place).0 site (with_queue_in site place cells) found
            (key place site ∙ at_key site_key (place_node place).0 w.sites site found) (keeps place site) steady

  -- *An event*
  injects_steady : (w : World) → AreSteady w.sites → (node : NodeId) (octets : List ℕ) → AreSteady (injects w node octets).sites
  injects_steady w steady node octets = by (inject_refusal octets)
    where
      counted : World
      counted = record w { sent = w.sent + 1 }

      by : (o : Option Refusal) → AreSteady (injects_by (record w { sent = w.sent + 1 }) node octets o).sites
      by (Some name) = steady
      by None = controller_steady counted steady 1 node (λ a. injected a (w.sent + 1) octets)
          (λ a. follows 1 a (injected a (w.sent + 1) octets) (injected_paces 1 a (w.sent + 1) octets (omega arith)))

  arrives_steady : (w : World) → AreSteady w.sites → (place : Place) (cell : Cell) → AreSteady (arrives t w place cell).sites
  arrives_steady w steady (Down node) cell = switch_steady w steady node (λ a. switch.cell_comes a control_port cell)
  arrives_steady w steady (Up node) cell = controller_steady w steady (cell.mark.frame + 1) node (λ a. controller.cell_comes a cell)
      (λ a. cell_follows (cell.mark.frame + 1) a cell (omega arith))
  arrives_steady w steady (Out node port) cell = by (peer_of t node port)
    where
      by : (o : Option LinkEnd) → AreSteady (arrives_at w cell o).sites
      by None = steady
      by (Some far) = switch_steady w steady far.node (λ a. switch.cell_comes a far.port cell)

  carries_steady : (w : World) → AreSteady w.sites → (place : Place) (cells : List Cell) → AreSteady (carries_head t w place cells).sites
  carries_steady w steady place [] = steady
  carries_steady w steady place (cell ∷ cells) = arrives_steady (with_queue w place cells) (queue_steady w steady place cells) place cell

  loses_steady : (w : World) → AreSteady w.sites → (place : Place) (cells : List Cell) → AreSteady (loses_head w place cells).sites
  loses_steady w steady place [] = steady
  loses_steady w steady place (cell ∷ cells) = queue_steady w steady place cells

  forges_steady : (w : World) → AreSteady w.sites → (place : Place) (channel : Channel) (payload : List ℕ) → AreSteady (forges w place channel payload).sites
  forges_steady w steady (Down node) channel payload =
      let mark = next_control w.numbers in
      controller_steady (record (note w (Forged (Down node))) { numbers = with_control w.numbers }) steady mark.frame node (λ a. sends a channel mark payload)
      (λ a. follows mark.frame a (sends a channel mark payload) (sends_paces mark.frame a channel mark payload (λ most from le. from)))
  forges_steady w steady (Up node) channel payload =
      switch_steady (record (note w (Forged (Up node))) { numbers = with_control w.numbers }) steady node (λ a. switch.forged a control_port channel (next_control w.numbers) payload)
  forges_steady w steady (Out node port) channel payload =
      switch_steady (record (note w (Forged (Out node port))) { numbers = with_control w.numbers }) steady node (λ a. switch.forged a port channel (next_control w.numbers) payload)

  acts_steady : (w : World) → AreSteady w.sites → (event : Event) → changes_route event ≡ false → AreSteady (acts t w event).sites
  acts_steady w steady (Inject node octets) none = injects_steady w steady node octets
  acts_steady w steady (Carry place) none = carries_steady w steady place (queue_at w place)
  acts_steady w steady (Lose place) none = loses_steady w steady place (queue_at w place)
  acts_steady w steady (Tick node) none = controller_steady w steady 0 node ticks (λ a. follows 0 a (ticks a) (ticks_paces 0 a))
  acts_steady w steady (TickSwitch node) none = switch_steady w steady node switch.tick_comes
  acts_steady w steady (Restart node) none = controller_steady w steady 0 node node_restarts (λ a. follows 0 a (node_restarts a) (restarts_paces 0 a))
  acts_steady w steady (RestartSwitch node) none = switch_steady w steady node switch.restarted
  acts_steady w steady (Forge place channel payload) none = forges_steady w steady place channel payload
  acts_steady w steady (RouteComes node change) none = absurd (true≢false none)

  -- *The opening*
  opens_before : (policy : Policy) (w : World) (place : ℕ) (nodes : List Node) (number : ℕ) → number < place
      → at site_key number (opens_each policy t w place nodes).sites ≡ at site_key number w.sites
  opens_before policy w place [] number low = refl
  opens_before policy w place (node ∷ nodes) number low =
      opens_before policy (with_opened policy t w place node) (suc place) nodes number (omega (arith, low))
      ∙ at_more number w.sites (opened_site policy t (record { 0 = place }) node w.numbers) (λ same. omega (arith, low, same))

  opens_steady : (policy : Policy) (w : World) (place : ℕ) (nodes : List Node) → ((number : ℕ) → place ≤ number → at site_key number w.sites ≡ None) → (k : ℕ)
      → IsSteady (option_map_or (λ (node : Node). node.routes) (slice_get nodes k) []) (at site_key (place + k) (opens_each policy t w place nodes).sites)
  opens_steady policy w place [] free k = subst (IsSteady []) (sym (free (place + k) (omega arith))) refl
  opens_steady policy w place (node ∷ nodes) free zero =
      let site : Site = opened_site policy t (record { 0 = place }) node w.numbers in
      let there : at site_key place (opens_each policy t (with_opened policy t w place node) (suc place) nodes).sites ≡ Some site =
      opens_before policy (with_opened policy t w place node) (suc place) nodes place (omega arith) ∙ at_last w.sites site (free place (omega arith)) in
      subst (λ n. IsSteady node.routes (at site_key n (opens_each policy t w place (node ∷ nodes)).sites)) (omega arith)
      (subst (IsSteady node.routes) (sym there) (record { none = refl; table = refl }))
  opens_steady policy w place (node ∷ nodes) free (suc k) =
      let site : Site = opened_site policy t (record { 0 = place }) node w.numbers in
      subst (λ n. IsSteady (option_map_or (λ (x : Node). x.routes) (slice_get nodes k) []) (at site_key n (opens_each policy t w place (node ∷ nodes)).sites)) (omega arith)
      (opens_steady policy (with_opened policy t w place node) (suc place) nodes
      (λ number low. at_more number w.sites site (λ same. omega (arith, low, same)) ∙ free number (omega (arith, low))) k)

  opened_steady : (policy : Policy) → AreSteady (opened policy t).sites
  opened_steady policy zero = subst (IsSteady []) (sym (opens_before policy empty_world 1 t.nodes zero (omega arith))) refl
  opened_steady policy (suc k) = subst (λ n. IsSteady (routes_at (suc k)) (at site_key n (opened policy t).sites)) (omega arith)
      (opens_steady policy empty_world 1 t.nodes (λ number low. refl) k)

  -- *A run*
  steady_at : (w : World) (events : List Event) → AreSteady w.sites → ChangesNoRoute events → (node : NodeId) (time : ℕ) → time < length (worlds_from t w events)
      → option_map_or (table_in node) (slice_get (worlds_from t w events) time) [] ≡ routes_of t node
  steady_at w [] steady none node zero low = table_is (routes_of t node) (site_at w node) (steady node.0)
  steady_at w [] steady none node (suc time) low = absurd (omega (arith, low))
  steady_at w (event ∷ events) steady none node zero low = table_is (routes_of t node) (site_at w node) (steady node.0)
  steady_at w (event ∷ events) steady none node (suc time) low =
      let both = neither (changes_route event) (list_any changes_route events) none in
      steady_at (next t w event) events (acts_steady (put_away w) steady event both.0) both.1 node time (omega (arith, low))

pub held_steady : (policy : Policy) (topology : Topology) (events : List Event) → ChangesNoRoute events → (node : NodeId) (time : ℕ)
    → time < length (past_of policy topology events).worlds → (past_of policy topology events).history.held node time ≡ routes_of topology node
held_steady policy topology events none = steady_at topology (opened policy topology) events (opened_steady topology policy) none
