-- a part of a node that an event leaves as it is, and what holds along a stretch of events

use Rattle.std.proofs.Common.{◌≡◌, ◌≢◌, ℕ, List, [], ◌∷◌, ◌++◌, Option, None, Some, refl, sym, ◌∙◌, ap, subst}
use Rattle.std.specs.Option.{option_map}
use Rattle.world_model.specs.Words.{NodeId, PortNo, Place, Down, Up, Out, Cell, at, put, control_port, Switch, Controller, Topology, World, Site, site_key, site_at, controller_acts, switch_acts, queue_at, with_queue_in, with_queue_of, with_queue, place_node, carries_head, arrives_at, put_away, next, world_after}
use Rattle.world_model.specs.Switch as switches
use Rattle.world_model.specs.Conduct as switch
use Rattle.world_model.specs.Controller as controllers
use Rattle.world_model.specs.Cells as controller
use Rattle.world_model.specs.Topology.{peer_of}
use Rattle.world_model.specs.World.{at_controller, at_switch}
use Rattle.world_model.specs.network_model.declared.link.LinkEnd.{LinkEnd}
use Rattle.world_model.specs.network_model.declared.event.Event.{Event}
use Rattle.world_model.specs.network_model.declared.event.Event.TheVariants.{Carry}
use Rattle.world_model.proofs.Lists.{by_eq, at_key, at_put_same, at_put_other}
use Rattle.law_passing.proofs.Controllers.{cell_adds}

-- *Along a stretch*
pub along : (topology : Topology) (P : World → Type 0) (events : List Event) (w : World) → P w
    → ((front rest : List Event) (event : Event) → events ≡ front ++ event ∷ rest → P (world_after topology w front) → P (next topology (world_after topology w front) event))
    → (front rest : List Event) → events ≡ front ++ rest → P (world_after topology w front)
along topology P events w p step [] rest e = p
along topology P events w p step (event ∷ front) rest e = along topology P (front ++ rest) (next topology w event) (step [] (front ++ rest) event e p)
    (λ first later x f. step (event ∷ first) later x (e ∙ ap (λ (es : List Event). event ∷ es) f)) front rest refl

-- a node is found by its own number
pub found_own : (w : World) (here : NodeId) (site : Site) → site_at w here ≡ Some site → at site_key (site_key site) w.sites ≡ Some site
found_own w here site found = subst (λ (n : ℕ). at site_key n w.sites ≡ Some site) (sym (at_key site_key here.0 w.sites site found)) found

key_kept : (place : Place) (site : Site) (cells : List Cell) → site_key (with_queue_in site place cells) ≡ site_key site
key_kept (Down node) site cells = refl
key_kept (Up node) site cells = refl
key_kept (Out node port) site cells = refl

module _ {B : Type 0} (f : Site → B) where
  -- the part of a node
  abbrev pub part_at : World → NodeId → Option B
  part_at w node = option_map f (site_at w node)

  put_part : (sites : List Site) (k : ℕ) (old new : Site) → at site_key (site_key new) sites ≡ Some old → f new ≡ f old
      → option_map f (at site_key k (put site_key new sites)) ≡ option_map f (at site_key k sites)
  put_part sites k old new found same = by_eq (site_key new) k
      (λ is t. subst (λ (n : ℕ). option_map f (at site_key n (put site_key new sites)) ≡ option_map f (at site_key n sites)) is
      (ap (option_map f) (at_put_same site_key new sites old found) ∙ (ap (λ (b : B). Some b) same ∙ sym (ap (option_map f) found))))
      (λ apart t. ap (option_map f) (at_put_other site_key new k sites apart))

  -- *Where a controller acts*
  module _ (keeps_controller : (site : Site) (c : Controller) → f (record site { controller = c }) ≡ f site) where
    pub controller_part : (w : World) (node here : NodeId) (act : controllers.Acted → controllers.Acted) → ((a : controllers.Acted) → (act a).controller.node ≡ a.controller.node)
        → part_at (at_controller w here act) node ≡ part_at w node
    controller_part w node here act same = by (site_at w here) refl
      where
        by : (o : Option Site) → site_at w here ≡ o → part_at (controller_acts w o act) node ≡ part_at w node
        by None found = refl
        by (Some site) found =
            let a : controllers.Acted = record { controller = site.controller; notes = w.notes; numbers = w.numbers } in
            let now : Site = record site { controller = (act a).controller } in
            put_part w.sites node.0 site now
            (ap (λ (n : NodeId). at site_key n.0 w.sites) (same a) ∙ found_own w here site found) (keeps_controller site now.controller)

  -- *Where a switch acts*
  module _ (keeps_switch : (site : Site) (s : Switch) → f (record site { switch = s }) ≡ f site) where
    pub switch_part : (w : World) (node here : NodeId) (act : switches.ActedSwitch → switches.ActedSwitch) → part_at (at_switch w here act) node ≡ part_at w node
    switch_part w node here act = by (site_at w here) refl
      where
        by : (o : Option Site) → site_at w here ≡ o → part_at (switch_acts w o act) node ≡ part_at w node
        by None found = refl
        by (Some site) found =
            let now : Site = record site { switch = (act (record { switch = site.switch; notes = w.notes; numbers = w.numbers })).switch } in
            put_part w.sites node.0 site now (found_own w here site found) (keeps_switch site now.switch)

  -- *Where a queue is changed*
  module _ (keeps_queue : (place : Place) (site : Site) (cells : List Cell) → f (with_queue_in site place cells) ≡ f site) where
    pub popped_part : (w : World) (node : NodeId) (place : Place) (cells : List Cell) → part_at (with_queue w place cells) node ≡ part_at w node
    popped_part w node place cells = by (site_at w (place_node place)) refl
      where
        by : (o : Option Site) → site_at w (place_node place) ≡ o → part_at (with_queue_of w place cells o) node ≡ part_at w node
        by None found = refl
        by (Some site) found = put_part w.sites node.0 site (with_queue_in site place cells)
            (ap (λ (n : ℕ). at site_key n w.sites) (key_kept place site cells) ∙ found_own w (place_node place) site found) (keeps_queue place site cells)

    -- *and what comes to a switch*
    module _ (keeps_switch : (site : Site) (s : Switch) → f (record site { switch = s }) ≡ f site) where
      -- *a carry to a switch* leaves it
      pub down_part : (topology : Topology) (w : World) (node here : NodeId) → part_at (next topology w (Carry (Down here))) node ≡ part_at w node
      down_part topology w node here = by (queue_at w (Down here))
        where
          by : (q : List Cell) → part_at (carries_head topology (put_away w) (Down here) q) node ≡ part_at w node
          by [] = refl
          by (cell ∷ cells) = switch_part keeps_switch (with_queue (put_away w) (Down here) cells) node here (λ b. switch.cell_comes b control_port cell)
              ∙ popped_part (put_away w) node (Down here) cells

      pub out_part : (topology : Topology) (w : World) (node here : NodeId) (port : PortNo) → part_at (next topology w (Carry (Out here port))) node ≡ part_at w node
      out_part topology w node here port = by (queue_at w (Out here port))
        where
          arrived : (cell : Cell) (cells : List Cell) (o : Option LinkEnd) → part_at (arrives_at (with_queue (put_away w) (Out here port) cells) cell o) node ≡ part_at w node
          arrived cell cells None = popped_part (put_away w) node (Out here port) cells
          arrived cell cells (Some end) = switch_part keeps_switch (with_queue (put_away w) (Out here port) cells) node end.node (λ b. switch.cell_comes b end.port cell)
              ∙ popped_part (put_away w) node (Out here port) cells

          by : (q : List Cell) → part_at (carries_head topology (put_away w) (Out here port) q) node ≡ part_at w node
          by [] = refl
          by (cell ∷ cells) = arrived cell cells (peer_of topology here port)

    -- a carry to another controller
    pub up_elsewhere : (topology : Topology) (w : World) (node here : NodeId) → here.0 ≢ node.0 → part_at (next topology w (Carry (Up here))) node ≡ part_at w node
    up_elsewhere topology w node here apart = by (queue_at w (Up here))
      where
        acted : (u : World) (cell : Cell) (o : Option Site) → site_at u here ≡ o → part_at (controller_acts u o (λ b. controller.cell_comes b cell)) node ≡ part_at u node
        acted u cell None found = refl
        acted u cell (Some site) found =
            let a : controllers.Acted = record { controller = site.controller; notes = u.notes; numbers = u.numbers } in
            let now : Site = record site { controller = (controller.cell_comes a cell).controller } in
            ap (option_map f) (at_put_other site_key now node.0 u.sites
            (λ e. apart (sym (ap (λ (n : NodeId). n.0) (cell_adds a cell).node ∙ at_key site_key here.0 u.sites site found) ∙ e)))

        by : (q : List Cell) → part_at (carries_head topology (put_away w) (Up here) q) node ≡ part_at w node
        by [] = refl
        by (cell ∷ cells) = (let u : World = with_queue (put_away w) (Up here) cells in acted u cell (site_at u here) refl ∙ popped_part (put_away w) node (Up here) cells)
