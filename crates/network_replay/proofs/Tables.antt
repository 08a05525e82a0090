-- the table that each node's controller will hold once all changes that came have been taken: an event leaves it as it
-- is, but for a change of a route, which it takes in

use Rattle.std.proofs.Common.{◌≡◌, ℕ, zero, suc, ◌+◌, ◌-◌, ◌≤◌, Bool, true, List, [], ◌∷◌, ◌++◌, map, slice_set, Option, None, Some, refl, sym, ◌∙◌, ap, subst, arith, fold, if◌then◌else◌}
use Rattle.std.specs.Prelude.{nat_eq}
use Rattle.std.specs.List.{repeat}
use Rattle.net_types.specs.declared.node.NodeId.{NodeId}
use Rattle.net_types.specs.declared.node.Place.{Place}
use Rattle.net_types.specs.declared.node.Place.TheVariants.{Down, Up, Out}
use Rattle.net_types.specs.declared.channel.Channel.{Channel}
use Rattle.net_types.specs.Number.{next_control, with_control}
use Rattle.atm_cells.specs.declared.cell.Cell.{Cell}
use Rattle.ipv4_forward.specs.Change.{changed}
use Rattle.ipv4_forward.specs.declared.change.RouteChange.{RouteChange}
use Rattle.ipv4_forward.specs.declared.table.Route.{Route}
use Rattle.link_model.specs.declared.record.Record.TheVariants.{Forged}
use Rattle.link_model.specs.declared.record.Refusal.{Refusal}
use Rattle.keyed_lists.specs.Keyed.{at, put}
use Rattle.port_model.specs.Setup.{Policy}
use Rattle.script_model.specs.world_model.Switch as switches
use Rattle.script_model.specs.world_model.Switch.{control_port}
use Rattle.script_model.specs.world_model.Conduct as switch
use Rattle.script_model.specs.world_model.Controller as controllers
use Rattle.script_model.specs.world_model.Controller.{Controller}
use Rattle.script_model.specs.world_model.Sending.{sends}
use Rattle.script_model.specs.world_model.Packets.{inject_refusal, injected}
use Rattle.script_model.specs.world_model.Cells as controller
use Rattle.script_model.specs.world_model.Ticks.{ticks}
use Rattle.script_model.specs.world_model.Resets.{node_restarts}
use Rattle.script_model.specs.world_model.Changes.{change_comes}
use Rattle.script_model.specs.world_model.network_model.declared.event.Event.{Event}
use Rattle.script_model.specs.world_model.network_model.declared.event.Event.TheVariants.{Inject, Carry, Lose, Tick, TickSwitch, Restart, RestartSwitch, Forge, Route as RouteComes}
use Rattle.script_model.specs.world_model.network_model.declared.link.LinkEnd.{LinkEnd}
use Rattle.script_model.specs.world_model.Conditions.{table_to_be}
use Rattle.script_model.specs.world_model.Places.{place_node, places, queue_at, with_queue, with_queue_in, with_queue_of}
use Rattle.script_model.specs.world_model.Run.{next, round, switch_tick_of, tick_of, tick_of_all, world_after}
use Rattle.script_model.specs.world_model.Step.{acts, arrives, arrives_at, carries_head, forges, injects, injects_by, loses_head, note}
use Rattle.script_model.specs.world_model.Topology.{Topology, Node, peer_of}
use Rattle.script_model.specs.world_model.World.{World, Site, at_controller, at_switch, controller_acts, empty_world, opened, opened_site, opens_each, site_at, site_key, switch_acts, with_opened}
use Rattle.script_model.proofs.world_model.Lists.{at_key, by_eq}
use Rattle.world.proofs.law_actor_pace.Paces.{Follows, Paces, sends_paces}
use Rattle.world.proofs.law_actor_pace.Controllers.{cell_follows, change_changes, injected_paces, restarts_paces, ticks_paces}
use Rattle.world.specs.law_world_pace.Running.{AreNumbered}

abbrev pub site_table : Site → List Route
site_table site = table_to_be site.controller

abbrev pub tables_of : World → List (List Route)
tables_of w = map site_table w.sites

-- *A node is put in the place of itself*
key_least : (number k : ℕ) (sites : List Site) (site : Site) → AreNumbered number sites → at site_key k sites ≡ Some site → number ≤ k
key_least number k [] site h e = absurd (cc e)
key_least number k (x ∷ sites) site h e = by_eq (site_key x) k
    (λ same is. omega (arith, h.0, same))
    (λ n is. (let later : suc number ≤ k = key_least (suc number) k sites site h.1 (subst (λ (b : Bool). (if b then Some x else at site_key k sites) ≡ Some site) is e) in omega (arith, later)))

found_here : (x site : Site) (k : ℕ) (sites : List Site) → nat_eq (site_key x) k ≡ true → at site_key k (x ∷ sites) ≡ Some site → x ≡ site
found_here x site k sites is e = (let got : Some x ≡ Some site = subst (λ (b : Bool). (if b then Some x else at site_key k sites) ≡ Some site) is e in cc)

numbered_put : (new old : Site) (number : ℕ) (sites : List Site) → at site_key (site_key new) sites ≡ Some old → AreNumbered number sites → AreNumbered number (put site_key new sites)
numbered_put new old number [] e h = tt
numbered_put new old number (x ∷ sites) e h = by_eq (site_key x) (site_key new)
    (λ same is. subst (λ (b : Bool). AreNumbered number (if b then new ∷ sites else x ∷ put site_key new sites)) (sym is) (sym same ∙ h.0, h.1))
    (λ n is. subst (λ (b : Bool). AreNumbered number (if b then new ∷ sites else x ∷ put site_key new sites)) (sym is)
    (h.0, numbered_put new old (suc number) sites (subst (λ (b : Bool). (if b then Some x else at site_key (site_key new) sites) ≡ Some old) is e) h.1))

tables_put : (new old : Site) (sites : List Site) → at site_key (site_key new) sites ≡ Some old → site_table new ≡ site_table old → map site_table (put site_key new sites) ≡ map site_table sites
tables_put new old [] e same = refl
tables_put new old (x ∷ sites) e same = by_eq (site_key x) (site_key new)
    (λ eq is. ap (λ (b : Bool). map site_table (if b then new ∷ sites else x ∷ put site_key new sites)) is
    ∙ ap (λ (t : List Route). t ∷ map site_table sites) (same ∙ sym (ap site_table (found_here x old (site_key new) sites is e))))
    (λ n is. ap (λ (b : Bool). map site_table (if b then new ∷ sites else x ∷ put site_key new sites)) is
    ∙ ap (λ (ts : List (List Route)). site_table x ∷ ts) (tables_put new old sites (subst (λ (b : Bool). (if b then Some x else at site_key (site_key new) sites) ≡ Some old) is e) same))

tables_set : (new old : Site) (number : ℕ) (sites : List Site) → at site_key (site_key new) sites ≡ Some old → AreNumbered number sites
    → map site_table (put site_key new sites) ≡ slice_set (map site_table sites) (site_key new - number) (site_table new)
tables_set new old number [] e h = refl
tables_set new old number (x ∷ sites) e h = by_eq (site_key x) (site_key new)
    (λ same is. (let none : 0 ≡ site_key new - number = omega (arith, same, h.0) in
    ap (λ (b : Bool). map site_table (if b then new ∷ sites else x ∷ put site_key new sites)) is
    ∙ ap (λ k. slice_set (map site_table (x ∷ sites)) k (site_table new)) none))
    (λ n is. (let rest : at site_key (site_key new) sites ≡ Some old = subst (λ (b : Bool). (if b then Some x else at site_key (site_key new) sites) ≡ Some old) is e in
    let least : suc number ≤ site_key new = key_least (suc number) (site_key new) sites old h.1 rest in
    let some : suc (site_key new - suc number) ≡ site_key new - number = omega (arith, least) in
    ap (λ (b : Bool). map site_table (if b then new ∷ sites else x ∷ put site_key new sites)) is
    ∙ ap (λ (ts : List (List Route)). site_table x ∷ ts) (tables_set new old (suc number) sites rest h.1)
    ∙ ap (λ k. slice_set (map site_table (x ∷ sites)) k (site_table new)) some))

-- *What an event keeps*
pub record Charts (w after : World) : Type 0 where
  pub numbered : AreNumbered 1 after.sites
  pub tables : tables_of after ≡ tables_of w

charts_then : (a b c : World) → Charts a b → Charts b c → Charts a c
charts_then a b c p q = record { numbered = q.numbered; tables = q.tables ∙ p.tables }

module _ (w : World) (h : AreNumbered 1 w.sites) where
  rests : (after : World) → after.sites ≡ w.sites → Charts w after
  rests after same = record { numbered = subst (AreNumbered 1) (sym same) h; tables = ap (map site_table) same }

  abbrev acting : Site → controllers.Acted
  acting site = record { controller = site.controller; notes = w.notes; numbers = w.numbers }

  -- a controller whose node stays, and the table that it will hold
  record Stays (a b : controllers.Acted) : Type 0 where
    node : b.controller.node ≡ a.controller.node
    table : table_to_be b.controller ≡ table_to_be a.controller

  at_key_of : (node : NodeId) (site new : Site) → site_at w node ≡ Some site → site_key new ≡ site_key site → at site_key (site_key new) w.sites ≡ Some site
  at_key_of node site new found same = subst (λ k. at site_key k w.sites ≡ Some site) (sym (same ∙ at_key site_key node.0 w.sites site found)) found

  controller_stays : (node : NodeId) (rule : controllers.Acted → controllers.Acted) → ((site : Site) → Stays (acting site) (rule (acting site))) → Charts w (at_controller w node rule)
  controller_stays node rule stays = by_site (site_at w node) refl
    where
      by_site : (o : Option Site) → site_at w node ≡ o → Charts w (controller_acts w o rule)
      by_site None e = rests w refl
      by_site (Some site) e =
          let new : Site = record site { controller = (rule (acting site)).controller } in
          let found : at site_key (site_key new) w.sites ≡ Some site = at_key_of node site new e (ap (λ (n : NodeId). n.0) (stays site).node) in
          record { numbered = numbered_put new site 1 w.sites found h; tables = tables_put new site w.sites found (stays site).table }

  switch_stays : (node : NodeId) (rule : switches.ActedSwitch → switches.ActedSwitch) → Charts w (at_switch w node rule)
  switch_stays node rule = by_site (site_at w node) refl
    where
      by_site : (o : Option Site) → site_at w node ≡ o → Charts w (switch_acts w o rule)
      by_site None e = rests w refl
      by_site (Some site) e =
          let new : Site = record site { switch = (rule (record { switch = site.switch; notes = w.notes; numbers = w.numbers })).switch } in
          let found : at site_key (site_key new) w.sites ≡ Some site = at_key_of node site new e refl in
          record { numbered = numbered_put new site 1 w.sites found h; tables = tables_put new site w.sites found refl }

  queue_stays : (place : Place) (cells : List Cell) → Charts w (with_queue w place cells)
  queue_stays place cells = by_site (site_at w (place_node place)) refl
    where
      here : (p : Place) (site : Site) → (site_key (with_queue_in site p cells) ≡ site_key site) × (site_table (with_queue_in site p cells) ≡ site_table site)
      here (Down node) site = (refl, refl)
      here (Up node) site = (refl, refl)
      here (Out node port) site = (refl, refl)

      by_site : (o : Option Site) → site_at w (place_node place) ≡ o → Charts w (with_queue_of w place cells o)
      by_site None e = rests w refl
      by_site (Some site) e =
          let new : Site = with_queue_in site place cells in
          let found : at site_key (site_key new) w.sites ≡ Some site = at_key_of (place_node place) site new e (here place site).0 in
          record { numbered = numbered_put new site 1 w.sites found h; tables = tables_put new site w.sites found (here place site).1 }

  -- *A change of a route*
  pub record Changes (node : NodeId) (change : RouteChange) (after : World) : Type 0 where
    pub numbered : AreNumbered 1 after.sites
    pub tables : (site : Site) → site_at w node ≡ Some site → tables_of after ≡ slice_set (tables_of w) (node.0 - 1) (changed (site_table site) change)

  pub route_changes : (node : NodeId) (change : RouteChange) → Changes node change (at_controller w node (λ a. change_comes a change))
  route_changes node change = by_site (site_at w node) refl
    where
      by_site : (o : Option Site) → site_at w node ≡ o → Changes node change (controller_acts w o (λ a. change_comes a change))
      by_site None e = record { numbered = h; tables = λ site is. (let none : None ≡ Some site = sym e ∙ is in absurd (cc none)) }
      by_site (Some site) e =
          let done = change_changes 0 (acting site) change in
          let new : Site = record site { controller = (change_comes (acting site) change).controller } in
          let found : at site_key (site_key new) w.sites ≡ Some site = at_key_of node site new e (ap (λ (n : NodeId). n.0) done.node) in
          let key : site_key new ≡ node.0 = ap (λ (n : NodeId). n.0) done.node ∙ at_key site_key node.0 w.sites site e in
          record {
            numbered = numbered_put new site 1 w.sites found h;
            tables = λ other is. (let both : Some site ≡ Some other = sym e ∙ is in
                let same : site ≡ other = cc in
                tables_set new site 1 w.sites found h ∙ ap (λ k. slice_set (tables_of w) (k - 1) (site_table new)) key
                ∙ ap (slice_set (tables_of w) (node.0 - 1)) (done.to_be ∙ ap (λ (s : Site). changed (site_table s) change) same));
          }

paces_stay : (floor : ℕ) (w : World) (h : AreNumbered 1 w.sites) (a b : controllers.Acted) → Paces floor a b → Stays w h a b
paces_stay floor w h a b p = record { node = p.node; table = λ i. fold changed (p.table i) (p.waiting i) }

follows_stay : (floor : ℕ) (w : World) (h : AreNumbered 1 w.sites) (a b : controllers.Acted) → Follows floor a b → Stays w h a b
follows_stay floor w h a b f = record { node = f.node; table = f.to_be }

-- an event that is no change of a route
abbrev pub IsNoChange : Event → Type 0
IsNoChange (RouteComes node change) = ⊥
IsNoChange event = Unit {0}

module _ (t : Topology) (w : World) (h : AreNumbered 1 w.sites) where
  injects_stay : (node : NodeId) (octets : List ℕ) → Charts w (injects w node octets)
  injects_stay node octets = by_refusal (inject_refusal octets)
    where
      v : World
      v = record w { sent = w.sent + 1 }

      by_refusal : (o : Option Refusal) → Charts w (injects_by (record w { sent = w.sent + 1 }) node octets o)
      by_refusal (Some name) = rests w h (note v (Rattle.link_model.specs.declared.record.Record.TheVariants.Refused node v.sent name)) refl
      by_refusal None =
          (let s = controller_stays v h node (λ a. injected a v.sent octets)
          (λ site. paces_stay 1 v h (acting v h site) (injected (acting v h site) v.sent octets) (injected_paces 1 (acting v h site) v.sent octets (omega arith))) in
          record { numbered = s.numbered; tables = s.tables })

  arrives_stay : (v : World) (k : AreNumbered 1 v.sites) (place : Place) (cell : Cell) → Charts v (arrives t v place cell)
  arrives_stay v k (Down node) cell = switch_stays v k node (λ a. switch.cell_comes a control_port cell)
  arrives_stay v k (Up node) cell = controller_stays v k node (λ a. controller.cell_comes a cell)
      (λ site. follows_stay (cell.mark.frame + 1) v k (acting v k site) (controller.cell_comes (acting v k site) cell) (cell_follows (cell.mark.frame + 1) (acting v k site) cell (omega arith)))
  arrives_stay v k (Out node port) cell = by_peer (peer_of t node port)
    where
      by_peer : (o : Option LinkEnd) → Charts v (arrives_at v cell o)
      by_peer None = rests v k v refl
      by_peer (Some far) = switch_stays v k far.node (λ a. switch.cell_comes a far.port cell)

  carries_stay : (place : Place) (q : List Cell) → Charts w (carries_head t w place q)
  carries_stay place [] = rests w h w refl
  carries_stay place (cell ∷ cells) =
      let v : World = with_queue w place cells in
      let first : Charts w v = queue_stays w h place cells in
      charts_then w v (arrives t v place cell) first (arrives_stay v first.numbered place cell)

  loses_stay : (place : Place) (q : List Cell) → Charts w (loses_head w place q)
  loses_stay place [] = rests w h w refl
  loses_stay place (cell ∷ cells) = (let k : Charts w (with_queue w place cells) = queue_stays w h place cells in record { numbered = k.numbered; tables = k.tables })

  forges_stay : (place : Place) (channel : Channel) (payload : List ℕ) → Charts w (forges w place channel payload)
  forges_stay (Down node) channel payload =
      let v : World = record (note w (Forged (Down node))) { numbers = with_control w.numbers } in
      let s = controller_stays v h node (λ a. sends a channel (next_control w.numbers) payload)
      (λ site. paces_stay (next_control w.numbers).frame v h (acting v h site) (sends (acting v h site) channel (next_control w.numbers) payload)
      (sends_paces (next_control w.numbers).frame (acting v h site) channel (next_control w.numbers) payload (λ most from le. from))) in
      record { numbered = s.numbered; tables = s.tables }
  forges_stay (Up node) channel payload =
      let s = switch_stays (record (note w (Forged (Up node))) { numbers = with_control w.numbers }) h node (λ a. switch.forged a control_port channel (next_control w.numbers) payload) in
      record { numbered = s.numbered; tables = s.tables }
  forges_stay (Out node port) channel payload =
      let s = switch_stays (record (note w (Forged (Out node port))) { numbers = with_control w.numbers }) h node (λ a. switch.forged a port channel (next_control w.numbers) payload) in
      record { numbered = s.numbered; tables = s.tables }

  pub acts_stay : (e : Event) → IsNoChange e → Charts w (acts t w e)
  acts_stay (Inject node octets) is = injects_stay node octets
  acts_stay (Carry place) is = carries_stay place (queue_at w place)
  acts_stay (Lose place) is = loses_stay place (queue_at w place)
  acts_stay (Tick node) is = controller_stays w h node ticks (λ site. paces_stay 0 w h (acting w h site) (ticks (acting w h site)) (ticks_paces 0 (acting w h site)))
  acts_stay (TickSwitch node) is = switch_stays w h node switch.tick_comes
  acts_stay (Restart node) is = controller_stays w h node node_restarts (λ site. paces_stay 0 w h (acting w h site) (node_restarts (acting w h site)) (restarts_paces 0 (acting w h site)))
  acts_stay (RestartSwitch node) is = switch_stays w h node switch.restarted
  acts_stay (Forge place channel payload) is = forges_stay place channel payload
  acts_stay (RouteComes node change) is = absurd is

-- *An event*, and some
pub next_stays : (t : Topology) (w : World) (e : Event) → AreNumbered 1 w.sites → IsNoChange e → Charts w (next t w e)
next_stays t w e h is = (let s = acts_stay t (Rattle.script_model.specs.world_model.Run.put_away w) h e is in record { numbered = s.numbered; tables = s.tables })

pub next_changes : (t : Topology) (w : World) (node : NodeId) (change : RouteChange) → (h : AreNumbered 1 w.sites) → Changes w h node change (next t w (RouteComes node change))
next_changes t w node change h = (let s = route_changes (Rattle.script_model.specs.world_model.Run.put_away w) h node change in record { numbered = s.numbered; tables = s.tables })

abbrev pub AreNoChanges : List Event → Type 0
AreNoChanges [] = Unit {0}
AreNoChanges (event ∷ events) = IsNoChange event × AreNoChanges events

pub after_stays : (t : Topology) (w : World) (events : List Event) → AreNumbered 1 w.sites → AreNoChanges events → Charts w (world_after t w events)
after_stays t w [] h is = rests w h w refl
after_stays t w (event ∷ events) h is =
    (let one : Charts w (next t w event) = next_stays t w event h is.0 in
    charts_then w (next t w event) (world_after t (next t w event) events) one (after_stays t (next t w event) events one.numbered is.1))

-- *The world that is opened*: each node has its routes, and no change waits
map_push : (sites : List Site) (site : Site) → map site_table (sites ++ site ∷ []) ≡ map site_table sites ++ site_table site ∷ []
map_push [] site = refl
map_push (x ∷ sites) site = ap (λ (ts : List (List Route)). site_table x ∷ ts) (map_push sites site)

append_one : (ts us : List (List Route)) (t : List Route) → (ts ++ t ∷ []) ++ us ≡ ts ++ (t ∷ us)
append_one [] us t = refl
append_one (x ∷ ts) us t = ap (λ (vs : List (List Route)). x ∷ vs) (append_one ts us t)

append_nil : (ts : List (List Route)) → ts ++ [] ≡ ts
append_nil [] = refl
append_nil (x ∷ ts) = ap (λ (vs : List (List Route)). x ∷ vs) (append_nil ts)

opens_tables : (policy : Policy) (t : Topology) (w : World) (place : ℕ) (nodes : List Node) → tables_of (opens_each policy t w place nodes) ≡ tables_of w ++ map (λ (node : Node). node.routes) nodes
opens_tables policy t w place [] = sym (append_nil (tables_of w))
opens_tables policy t w place (node ∷ nodes) =
    opens_tables policy t (with_opened policy t w place node) (suc place) nodes
    ∙ ap (λ (ts : List (List Route)). ts ++ map (λ (d : Node). d.routes) nodes) (map_push w.sites (opened_site policy t (record { 0 = place }) node w.numbers))
    ∙ append_one (tables_of w) (map (λ (d : Node). d.routes) nodes) node.routes

pub opened_tables : (policy : Policy) (t : Topology) → tables_of (opened policy t) ≡ map (λ (node : Node). node.routes) t.nodes
opened_tables policy t = opens_tables policy t empty_world 1 t.nodes

-- *No changes* among ticks and carries
no_changes_both : (some others : List Event) → AreNoChanges some → AreNoChanges others → AreNoChanges (some ++ others)
no_changes_both [] others h k = k
no_changes_both (event ∷ some) others h k = (h.0, no_changes_both some others h.1 k)

no_changes_of : {A : Type 0} (f : A → Event) → ((x : A) → IsNoChange (f x)) → (xs : List A) → AreNoChanges (map f xs)
no_changes_of f each [] = tt
no_changes_of f each (x ∷ xs) = (each x, no_changes_of f each xs)

pub ticks_change_nothing : (w : World) → AreNoChanges (tick_of_all w)
ticks_change_nothing w =
    no_changes_both (map tick_of w.sites) (map switch_tick_of w.sites) (no_changes_of tick_of (λ site. tt) w.sites) (no_changes_of switch_tick_of (λ site. tt) w.sites)

pub rounds_change_nothing : (n : ℕ) (w : World) → AreNoChanges (repeat n (round w))
rounds_change_nothing zero w = tt
rounds_change_nothing (suc n) w = no_changes_both (round w) (repeat n (round w)) (no_changes_of Carry (λ place. tt) (places w)) (rounds_change_nothing n w)
