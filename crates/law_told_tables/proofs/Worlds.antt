-- each event leaves all nodes so that they hold what they were told, and record what they took

use Rattle.std.proofs.Common.{◌≡◌, ◌≢◌, ℕ, ◌+◌, Bool, true, false, List, [], ◌∷◌, ◌++◌, append-nil, Option, None, Some, refl, sym, ◌∙◌, ap, subst, if◌then◌else◌}
use Rattle.std.specs.Prelude.{nat_eq}
use Rattle.world_model.specs.Words.{NodeId, Place, Down, Up, Out, Channel, Mark, next_control, with_control, Cell, RouteChange, Record, Refused, Loss, Forged, Lost, Refusal, at, put, control_port, inject_refusal, injected, node_restarts, change_comes, changes_of, Topology, Node, node_at, routes_of, World, Site, site_key, site_at, controller_acts, switch_acts, place_node, queue_at, with_queue_in, with_queue_of, with_queue, injects_by, arrives_at, arrives, carries_head, loses_head, forges_at}
use Rattle.world_model.specs.ipv4_forward.declared.table.Route.{Route as RouteOf}
use Rattle.world_model.specs.Switch as switches
use Rattle.world_model.specs.Conduct as switch
use Rattle.world_model.specs.Controller.{Acted}
use Rattle.world_model.specs.Sending.{sends}
use Rattle.world_model.specs.Cells as controller
use Rattle.world_model.specs.Ticks.{ticks}
use Rattle.world_model.specs.network_model.declared.event.Event.{Event}
use Rattle.world_model.specs.network_model.declared.event.Event.TheVariants.{Inject, Carry, Lose, Tick, TickSwitch, Restart, RestartSwitch, Forge, Route}
use Rattle.world_model.specs.network_model.declared.link.LinkEnd.{LinkEnd}
use Rattle.world_model.specs.Topology.{peer_of}
use Rattle.world_model.specs.World.{at_controller, at_switch}
use Rattle.world_model.specs.Step.{note, acts}
use Rattle.world_model.proofs.Lists.{by_eq, at_key, at_put_same, at_put_other}
use Rattle.law_told_tables.specs.Tables.{numbers_told}
use Rattle.law_told_tables.proofs.Notes.{IsOther, noted_alike}
use Rattle.law_told_tables.proofs.Walk.{sends_kept, routes_kept, node_restarts_kept, ticks_kept}
use Rattle.law_told_tables.proofs.Taking.{cell_kept}
use Rattle.law_told_tables.proofs.Switches.{Tells, sent_alike, cell_alike, tick_alike, restart_alike}
use Rattle.law_told_tables.proofs.Nodes.{Holds, Told, told_alike, told_takes, told_comes}

-- *A node of the topology* holds what it was told; one that isn't of it isn't there, and records nothing
abbrev pub IsSo : (routes : List RouteOf) (told : List RouteChange) (already : ℕ) → Option Node → Option Site → (numbers : List ℕ) → Type 0
IsSo routes told already None None numbers = (numbers ≡ []) × (already ≡ 0)
IsSo routes told already (Some own) (Some site) numbers = Holds routes told already site.controller numbers
IsSo routes told already own found numbers = ⊥

-- one that isn't there may be told anything
told_nothing : (routes : List RouteOf) (told other : List RouteChange) (already : ℕ) (own : Option Node) (numbers : List ℕ) → IsSo routes told already own None numbers → IsSo routes other already own None numbers
told_nothing routes told other already None numbers h = h
told_nothing routes told other already (Some own) numbers h = absurd h

-- one that is there is of the topology
there : (routes : List RouteOf) (told : List RouteChange) (already : ℕ) (own : Option Node) (site : Site) (numbers : List ℕ) → IsSo routes told already own (Some site) numbers → Holds routes told already site.controller numbers
there routes told already None site numbers h = absurd h
there routes told already (Some own) site numbers h = h

-- another in its place holds so too
replaced : (routes : List RouteOf) (told other : List RouteChange) (already : ℕ) (own : Option Node) (old new : Site) (numbers others : List ℕ) → IsSo routes told already own (Some old) numbers
    → Holds routes other already new.controller others → IsSo routes other already own (Some new) others
replaced routes told other already None old new numbers others h k = absurd h
replaced routes told other already (Some own) old new numbers others h k = k

module _ (t : Topology) (already : NodeId → ℕ) where
  abbrev pub IsNodeSo : (told : List RouteChange) → NodeId → Option Site → (numbers : List ℕ) → Type 0
  IsNodeSo told node found numbers = IsSo (routes_of t node) told (already node) (node_at t node) found numbers

  abbrev pub AreSo : (told : NodeId → List RouteChange) → World → Type 0
  AreSo told w = (node : NodeId) → IsNodeSo (told node) node (site_at w node) (numbers_told node w.notes.records)

  -- *A node* by its number
  same_node : (a b : NodeId) → a.0 ≡ b.0 → a ≡ b
  same_node a b e = ap (λ (n : ℕ). record { 0 = n }) e

  -- a site is put in the place of itself
  put_so : (told after : NodeId → List RouteChange) (w v : World) (here : NodeId) (old new : Site) → v.sites ≡ put site_key new w.sites → site_at w here ≡ Some old → site_key new ≡ here.0
      → (Holds (routes_of t here) (told here) (already here) old.controller (numbers_told here w.notes.records) → Holds (routes_of t here) (after here) (already here) new.controller (numbers_told here v.notes.records))
      → ((n : NodeId) → here.0 ≢ n.0 → after n ≡ told n) → ((n : NodeId) → here.0 ≢ n.0 → numbers_told n v.notes.records ≡ numbers_told n w.notes.records)
      → AreSo told w → AreSo after v
  put_so told after w v here old new sites found key holds elsewhere others so n = by_eq here.0 n.0
      (λ same test. subst Now (same_node here n same) now)
      (λ away test. subst (λ (changes : List RouteChange). IsNodeSo changes n (site_at v n) (numbers_told n v.notes.records)) (sym (elsewhere n away))
      (subst (IsNodeSo (told n) n (site_at v n)) (sym (others n away))
      (subst (λ (o : Option Site). IsNodeSo (told n) n o (numbers_told n w.notes.records)) (sym (away_site n away)) (so n))))
    where
      Now : NodeId → Type 0
      Now m = IsNodeSo (after m) m (site_at v m) (numbers_told m v.notes.records)

      away_site : (m : NodeId) → here.0 ≢ m.0 → site_at v m ≡ site_at w m
      away_site m away = ap (at site_key m.0) sites ∙ at_put_other site_key new m.0 w.sites (λ same. away (sym key ∙ same))

      was : IsNodeSo (told here) here (Some old) (numbers_told here w.notes.records)
      was = subst (λ (o : Option Site). IsNodeSo (told here) here o (numbers_told here w.notes.records)) found (so here)

      here_is : site_at v here ≡ Some new
      here_is = ap (at site_key here.0) sites ∙ subst (λ (k : ℕ). at site_key k (put site_key new w.sites) ≡ Some new) key
          (at_put_same site_key new w.sites old (subst (λ (k : ℕ). at site_key k w.sites ≡ Some old) (sym key) found))

      now : Now here
      now = subst (λ (o : Option Site). IsNodeSo (after here) here o (numbers_told here v.notes.records)) (sym here_is)
          (replaced (routes_of t here) (told here) (after here) (already here) (node_at t here) old new (numbers_told here w.notes.records) (numbers_told here v.notes.records) was
          (holds (there (routes_of t here) (told here) (already here) (node_at t here) old (numbers_told here w.notes.records) was)))

  -- *A controller acts*
  acts_so : (told after : NodeId → List RouteChange) (w : World) (here : NodeId) (act : Acted → Acted) → ((n : NodeId) → here.0 ≢ n.0 → after n ≡ told n)
      → ((others : NodeId → List ℕ) (a : Acted) → Told (routes_of t here) (already here) here others (told here) a → Told (routes_of t here) (already here) here others (after here) (act a))
      → AreSo told w → AreSo after (at_controller w here act)
  acts_so told after w here act elsewhere keeps so = by (site_at w here) refl
    where
      others : NodeId → List ℕ
      others n = numbers_told n w.notes.records

      at_here : site_at w here ≡ None → IsNodeSo (after here) here (site_at w here) (others here)
      at_here found = subst (λ (o : Option Site). IsNodeSo (after here) here o (others here)) (sym found)
          (told_nothing (routes_of t here) (told here) (after here) (already here) (node_at t here) (others here)
          (subst (λ (o : Option Site). IsNodeSo (told here) here o (others here)) found (so here)))

      by : (o : Option Site) → site_at w here ≡ o → AreSo after (controller_acts w o act)
      by None found = λ n. by_eq here.0 n.0
          (λ same test. subst (λ (m : NodeId). IsNodeSo (after m) m (site_at w m) (others m)) (same_node here n same) (at_here found))
          (λ away test. subst (λ (changes : List RouteChange). IsNodeSo changes n (site_at w n) (others n)) (sym (elsewhere n away)) (so n))
      by (Some site) found =
          let a : Acted = record { controller = site.controller; notes = w.notes; numbers = w.numbers } in
          let was_key : site_key site ≡ here.0 = at_key site_key here.0 w.sites site found in
          let was : Holds (routes_of t here) (told here) (already here) site.controller (others here) =
          there (routes_of t here) (told here) (already here) (node_at t here) site (others here)
          (subst (λ (o : Option Site). IsNodeSo (told here) here o (others here)) found (so here)) in
          let now : Told (routes_of t here) (already here) here others (after here) (act a) =
          keeps others a (record { node = was_key; holds = was; elsewhere = λ n away. refl }) in
          put_so told after w (controller_acts w (Some site) act) here site (record site { controller = (act a).controller }) refl found now.node
          (λ h. now.holds) elsewhere now.elsewhere so

  -- *A switch acts*, a record of something else is made, a queue holds other cells: the nodes hold what they held
  module _ (told : NodeId → List RouteChange) (w : World) (so : AreSo told w) where
    rule_so : (here : NodeId) (act : Acted → Acted)
        → ((others : NodeId → List ℕ) (a : Acted) → Told (routes_of t here) (already here) here others (told here) a → Told (routes_of t here) (already here) here others (told here) (act a))
        → AreSo told (at_controller w here act)
    rule_so here act keeps = acts_so told told w here act (λ n away. refl) keeps so

    switch_so : (here : NodeId) (act : switches.ActedSwitch → switches.ActedSwitch) → ((a : switches.ActedSwitch) → Tells a (act a)) → AreSo told (at_switch w here act)
    switch_so here act tells = by (site_at w here) refl
      where
        by : (o : Option Site) → site_at w here ≡ o → AreSo told (switch_acts w o act)
        by None found = so
        by (Some site) found =
            let a : switches.ActedSwitch = record { switch = site.switch; notes = w.notes; numbers = w.numbers } in
            put_so told told w (switch_acts w (Some site) act) here site (record site { switch = (act a).switch }) refl found (at_key site_key here.0 w.sites site found)
            (λ h. subst (Holds (routes_of t here) (told here) (already here) site.controller) (sym (tells a here)) h) (λ n away. refl) (λ n away. tells a n) so

    note_so : (item : Record) → IsOther item → AreSo told (note w item)
    note_so item other n = subst (IsNodeSo (told n) n (site_at w n)) (sym (noted_alike w.notes item other n)) (so n)

    queue_so : (place : Place) (cells : List Cell) → AreSo told (with_queue w place cells)
    queue_so place cells = by (site_at w (place_node place)) refl
      where
        key : (p : Place) (site : Site) → site_key (with_queue_in site p cells) ≡ site_key site
        key (Down node) site = refl
        key (Up node) site = refl
        key (Out node port) site = refl

        keeps : (p : Place) (site : Site) (routes : List RouteOf) (changes : List RouteChange) (earlier : ℕ) (numbers : List ℕ) → Holds routes changes earlier site.controller numbers → Holds routes changes earlier (with_queue_in site p cells).controller numbers
        keeps (Down node) site routes changes earlier numbers h =
            record { front = h.front; splits = h.splits; table = h.table; changes = h.changes; since = h.since; count = h.count; recorded = h.recorded }
        keeps (Up node) site routes changes earlier numbers h = h
        keeps (Out node port) site routes changes earlier numbers h = h

        by : (o : Option Site) → site_at w (place_node place) ≡ o → AreSo told (with_queue_of w place cells o)
        by None found = so
        by (Some site) found = (let here : NodeId = place_node place in
            put_so told told w (with_queue_of w place cells (Some site)) here site (with_queue_in site place cells) refl found
            (key place site ∙ at_key site_key here.0 w.sites site found) (keeps place site (routes_of t here) (told here) (already here) (numbers_told here w.notes.records)) (λ n away. refl) (λ n away. refl) so)

    cell_so : (here : NodeId) (cell : Cell) → AreSo told (at_controller w here (λ a. controller.cell_comes a cell))
    cell_so here cell = rule_so here (λ a. controller.cell_comes a cell) (λ others a h. cell_kept (Told (routes_of t here) (already here) here others (told here))
        (told_alike (routes_of t here) (already here) here others (told here)) (told_takes (routes_of t here) (already here) here others (told here)) a cell h)

    arrives_so : (place : Place) (cell : Cell) → AreSo told (arrives t w place cell)
    arrives_so (Down node) cell = switch_so node (λ a. switch.cell_comes a control_port cell) (λ a. cell_alike a control_port cell)
    arrives_so (Up node) cell = cell_so node cell
    arrives_so (Out node port) cell = by (peer_of t node port)
      where
        by : (o : Option LinkEnd) → AreSo told (arrives_at w cell o)
        by None = so
        by (Some far) = switch_so far.node (λ a. switch.cell_comes a far.port cell) (λ a. cell_alike a far.port cell)

    forges_so : (place : Place) (channel : Channel) (mark : Mark) (payload : List ℕ) → AreSo told (forges_at w place channel mark payload)
    forges_so (Down node) channel mark payload = rule_so node (λ a. sends a channel mark payload)
        (λ others a h. sends_kept (Told (routes_of t node) (already node) node others (told node)) (told_alike (routes_of t node) (already node) node others (told node)) a channel mark payload h)
    forges_so (Up node) channel mark payload = switch_so node (λ a. switch.forged a control_port channel mark payload) (λ a. sent_alike a control_port channel mark payload)
    forges_so (Out node port) channel mark payload = switch_so node (λ a. switch.forged a port channel mark payload) (λ a. sent_alike a port channel mark payload)

  -- *Each event*
  module _ (told : NodeId → List RouteChange) (w : World) (so : AreSo told w) where
    injects_so : (node : NodeId) (octets : List ℕ) (o : Option Refusal) → AreSo told (injects_by (record w { sent = w.sent + 1 }) node octets o)
    injects_so node octets (Some name) = note_so told (record w { sent = w.sent + 1 }) so (Refused node (w.sent + 1) name) (λ n. refl)
    injects_so node octets None = rule_so told (record w { sent = w.sent + 1 }) so node (λ a. injected a (w.sent + 1) octets)
        (λ others a h. routes_kept (Told (routes_of t node) (already node) node others (told node)) (told_alike (routes_of t node) (already node) node others (told node)) a (record { packet = w.sent + 1; frame = 0 }) octets h)

    carries_so : (place : Place) (cells : List Cell) → AreSo told (carries_head t w place cells)
    carries_so place [] = so
    carries_so place (cell ∷ cells) = arrives_so told (with_queue w place cells) (queue_so told w so place cells) place cell

    loses_so : (place : Place) (cells : List Cell) → AreSo told (loses_head w place cells)
    loses_so place [] = so
    loses_so place (cell ∷ cells) = note_so told (with_queue w place cells) (queue_so told w so place cells) (Loss cell.mark Lost) (λ n. refl)

    -- one by which no change comes
    none_told : (event : Event) → ((n : NodeId) → changes_of n (event ∷ []) ≡ []) → (v : World) → AreSo told v → AreSo (λ n. told n ++ changes_of n (event ∷ [])) v
    none_told event none v h n = subst (λ (changes : List RouteChange). IsNodeSo changes n (site_at v n) (numbers_told n v.notes.records))
        (sym (ap (λ (changes : List RouteChange). told n ++ changes) (none n) ∙ append-nil (told n))) (h n)

    comes_so : (node : NodeId) (change : RouteChange) → AreSo (λ n. told n ++ changes_of n (Route node change ∷ [])) (at_controller w node (λ a. change_comes a change))
    comes_so node change = acts_so told (λ n. told n ++ changes_of n (Route node change ∷ [])) w node (λ a. change_comes a change)
        (λ n away. ap (λ (b : Bool). told n ++ ((if b then change ∷ [] else []) ++ [])) (other_node n away) ∙ append-nil (told n))
        (λ others a h. subst (λ (changes : List RouteChange). Told (routes_of t node) (already node) node others changes (change_comes a change))
        (ap (λ (b : Bool). told node ++ ((if b then change ∷ [] else []) ++ [])) own_node)
        (told_comes (routes_of t node) (already node) node others (told node) a change h)) so
      where
        own_node : true ≡ nat_eq node.0 node.0
        own_node = by_eq node.0 node.0 (λ same test. sym test) (λ other test. absurd (other refl))

        other_node : (n : NodeId) → node.0 ≢ n.0 → nat_eq node.0 n.0 ≡ false
        other_node n away = by_eq node.0 n.0 (λ same test. absurd (away same)) (λ other test. test)

    pub event_so : (event : Event) → AreSo (λ n. told n ++ changes_of n (event ∷ [])) (acts t w event)
    event_so (Inject node octets) = none_told (Inject node octets) (λ n. refl) (acts t w (Inject node octets)) (injects_so node octets (inject_refusal octets))
    event_so (Carry place) = none_told (Carry place) (λ n. refl) (acts t w (Carry place)) (carries_so place (queue_at w place))
    event_so (Lose place) = none_told (Lose place) (λ n. refl) (acts t w (Lose place)) (loses_so place (queue_at w place))
    event_so (Tick node) = none_told (Tick node) (λ n. refl) (acts t w (Tick node)) (rule_so told w so node ticks
        (λ others a h. ticks_kept (Told (routes_of t node) (already node) node others (told node)) (told_alike (routes_of t node) (already node) node others (told node)) a h))
    event_so (TickSwitch node) = none_told (TickSwitch node) (λ n. refl) (acts t w (TickSwitch node)) (switch_so told w so node switch.tick_comes tick_alike)
    event_so (Restart node) = none_told (Restart node) (λ n. refl) (acts t w (Restart node)) (rule_so told w so node node_restarts
        (λ others a h. node_restarts_kept (Told (routes_of t node) (already node) node others (told node)) (told_alike (routes_of t node) (already node) node others (told node)) a h))
    event_so (RestartSwitch node) = none_told (RestartSwitch node) (λ n. refl) (acts t w (RestartSwitch node)) (switch_so told w so node switch.restarted restart_alike)
    event_so (Forge place channel payload) = none_told (Forge place channel payload) (λ n. refl) (acts t w (Forge place channel payload))
        (forges_so told (record (note w (Forged place)) { numbers = with_control w.numbers }) (note_so told w so (Forged place) (λ n. refl)) place channel (next_control w.numbers) payload)
    event_so (Route node change) = comes_so node change
