-- carries to switches, to other controllers, and of cells that end no frame

use Rattle.std.proofs.Common.{◌≡◌, ◌≢◌, ℕ, Bool, true, false, List, [], ◌∷◌, ◌++◌, length, Option, None, Some, refl, sym, ◌∙◌, ap, subst, ◌⊎◌, inl, inr, if◌then◌else◌}
use Rattle.std.specs.Prelude.{nat_le, nat_lt, not}
use Rattle.std.specs.Option.{option_and_then}
use Rattle.world_model.specs.Words.{NodeId, Place, Down, Up, Out, Cell, Channel, Journal, at, control_port, Controller, Linked, linked_at, port_key, label_at, label_number_of, default_channel, same_channel, taker_of, reassembly_of, takes_cell, with_reassembly, ForGsmp, ForDefault, ForLabel, Reassembly, Label, is_bound, Topology, World, Site, site_key, site_at, controller_acts, switch_acts, queue_at, with_queue, with_queue_in, with_queue_of, place_node, carries_head, arrives_at, put_away, next}
use Rattle.world_model.specs.Switch as switches
use Rattle.world_model.specs.Conduct as switch
use Rattle.world_model.specs.Controller as controllers
use Rattle.world_model.specs.Cells as controller
use Rattle.world_model.specs.Cells.{Taker, taker_at, label_taker, port_on, on_link}
use Rattle.world_model.specs.Topology.{peer_of}
use Rattle.world_model.specs.World.{at_switch, at_controller}
use Rattle.world_model.specs.Controller.{free_slots, chains_with}
use Rattle.world_model.specs.frame_model.Reassembly.{Taken, taken, most_cells, passed_over, without_slot, too_long, cell_joined}
use Rattle.world_model.specs.network_model.declared.link.LinkEnd.{LinkEnd}
use Rattle.world_model.specs.network_model.declared.event.Event.TheVariants.{Carry}
use Rattle.world_model.proofs.Lists.{at_key}
use Rattle.law_passing.proofs.Controllers.{cell_adds}
use Rattle.law_live_unseen.specs.Law.{AreAlike}
use Rattle.law_live_worlds.specs.Law.{Shows, IsLeftAlike}
use Rattle.law_live_worlds.proofs.Staying.{like_worlds_agree}
use Rattle.law_live_elsewhere.specs.Law.{EndsNoFrame, IsElsewhere, CarriesElsewhereKeepAgreement}
use Rattle.law_live_elsewhere.proofs.Kept.{KeptAt, KeepsController, same_ports, port_put, KeepsNode, KeepsSites, sites_same, sites_then, site_put, site_put_elsewhere}

-- *A queue* without its head
queue_keeps : (v : World) (place : Place) (cells : List Cell) (k : ℕ) → KeepsSites v.sites (with_queue v place cells).sites k
queue_keeps v place cells k = by (site_at v (place_node place)) refl
  where
    kept : (p : Place) (site : Site) → KeepsController site.controller (with_queue_in site p cells).controller
    kept (Down node) site = same_ports site.controller (with_queue_in site (Down node) cells).controller refl refl
    kept (Up node) site = same_ports site.controller site.controller refl refl
    kept (Out node port) site = same_ports site.controller site.controller refl refl

    same_key : (p : Place) (site : Site) → site_key (with_queue_in site p cells) ≡ site_key site
    same_key (Down node) site = refl
    same_key (Up node) site = refl
    same_key (Out node port) site = refl

    by : (o : Option Site) → site_at v (place_node place) ≡ o → KeepsSites v.sites (with_queue_of v place cells o).sites k
    by None found = sites_same v.sites k
    by (Some site) found = site_put v.sites (place_node place).0 site (with_queue_in site place cells) found
        (same_key place site ∙ at_key site_key (place_node place).0 v.sites site found) (kept place site) k

-- *A switch acts*
switch_keeps : (v : World) (node : NodeId) (act : switches.ActedSwitch → switches.ActedSwitch) (k : ℕ) → KeepsSites v.sites (at_switch v node act).sites k
switch_keeps v node act k = by (site_at v node) refl
  where
    by : (o : Option Site) → site_at v node ≡ o → KeepsSites v.sites (switch_acts v o act).sites k
    by None found = sites_same v.sites k
    by (Some site) found = site_put v.sites node.0 site (record site { switch = (act (record { switch = site.switch; notes = v.notes; numbers = v.numbers })).switch }) found
        (at_key site_key node.0 v.sites site found) (same_ports site.controller site.controller refl refl) k

-- *A controller acts*: it keeps its ports, or it is another's
controller_keeps : (v : World) (node : NodeId) (act : controllers.Acted → controllers.Acted) (k : ℕ) → ((b : controllers.Acted) → (act b).controller.node ≡ b.controller.node)
    → (node.0 ≢ k) ⊎ ((b : controllers.Acted) → KeepsController b.controller (act b).controller) → KeepsSites v.sites (at_controller v node act).sites k
controller_keeps v node act k stays either = by (site_at v node) refl either
  where
    by : (o : Option Site) → site_at v node ≡ o → (node.0 ≢ k) ⊎ ((b : controllers.Acted) → KeepsController b.controller (act b).controller) → KeepsSites v.sites (controller_acts v o act).sites k
    by None found e = sites_same v.sites k
    by (Some site) found (inl differs) =
        site_put_elsewhere v.sites node.0 (record site { controller = (act (record { controller = site.controller; notes = v.notes; numbers = v.numbers })).controller })
        (ap (λ (n : NodeId). n.0) (stays (record { controller = site.controller; notes = v.notes; numbers = v.numbers })) ∙ at_key site_key node.0 v.sites site found) k differs
    by (Some site) found (inr keeps) =
        site_put v.sites node.0 site (record site { controller = (act (record { controller = site.controller; notes = v.notes; numbers = v.numbers })).controller }) found
        (ap (λ (n : NodeId). n.0) (stays (record { controller = site.controller; notes = v.notes; numbers = v.numbers })) ∙ at_key site_key node.0 v.sites site found)
        (keeps (record { controller = site.controller; notes = v.notes; numbers = v.numbers })) k

-- *A cell that ends no frame* waits in the chain of its taker
ends_none : (notes : Journal) (slot : Bool) (r : Reassembly) (cell : Cell) → cell.header.last ≡ false → (taken notes slot r cell).ended ≡ []
ends_none notes slot r cell part = by r.is_skipping slot (nat_le most_cells (length r.chain))
  where
    by : (skips room long : Bool) → (if skips then passed_over notes r cell else (if not room then without_slot notes r cell else (if long then too_long notes r cell else cell_joined notes r cell))).ended ≡ []
    by true room long = refl
    by false false long = refl
    by false true true = refl
    by false true false = ap (λ (b : Bool). (if b then joined_last else joined_more).ended) part
      where
        joined_last : Taken
        joined_last = record { reassembly = record r { chain = [] }; notes = notes; ended = r.chain ++ cell ∷ [] }

        joined_more : Taken
        joined_more = record { reassembly = record r { chain = r.chain ++ cell ∷ [] }; notes = notes; ended = [] }

-- a taker is of a port that is linked
abbrev pub IsOf : Controller → Taker → Type 0
IsOf c ForGsmp = Unit {0}
IsOf c (ForDefault linked) = linked_at c linked.setup.port ≡ Some linked
IsOf c (ForLabel linked label) = linked_at c linked.setup.port ≡ Some linked

pub taker_is_of : (c : Controller) (channel : Channel) (taker : Taker) → taker_of c channel ≡ Some taker → IsOf c taker
taker_is_of c channel taker takes = by (same_channel channel default_channel) takes
  where
    one : (x y : Taker) → Some x ≡ Some y → x ≡ y
    one x y e = cc

    of_label : (linked : Linked) → linked_at c linked.setup.port ≡ Some linked → (o : Option Label) → label_taker linked o ≡ Some taker → IsOf c taker
    of_label linked found None e = absurd (cc e)
    of_label linked found (Some label) e = in_state (is_bound label.state) e
      where
        in_state : (b : Bool) → (if b then Some (ForLabel linked label) else None) ≡ Some taker → IsOf c taker
        in_state true e = subst (IsOf c) (one (ForLabel linked label) taker e) found
        in_state false e = absurd (cc e)

    of_port : (o : Option Linked) → linked_at c (port_on channel) ≡ o → taker_at o (on_link channel) ≡ Some taker → IsOf c taker
    of_port None found e = absurd (cc e)
    of_port (Some linked) found e = on_channel (same_channel (on_link channel) default_channel) e
      where
        own : linked_at c linked.setup.port ≡ Some linked
        own = ap (λ k. at port_key k c.ports) (at_key port_key (port_on channel).0 c.ports linked found) ∙ found

        on_channel : (b : Bool) → (if b then Some (ForDefault linked) else label_taker linked (option_and_then (label_at linked.port) (label_number_of (on_link channel)))) ≡ Some taker → IsOf c taker
        on_channel true e = subst (IsOf c) (one (ForDefault linked) taker e) own
        on_channel false e = of_label linked own (option_and_then (label_at linked.port) (label_number_of (on_link channel))) e

    by : (b : Bool) → (if b then Some ForGsmp else taker_at (linked_at c (port_on channel)) (on_link channel)) ≡ Some taker → IsOf c taker
    by true e = subst (IsOf c) (one ForGsmp taker e) tt
    by false e = of_port (linked_at c (port_on channel)) refl e

pub gathered : (b : controllers.Acted) (taker : Taker) (r : Reassembly) → IsOf b.controller taker → KeepsController b.controller (with_reassembly b taker r).controller
gathered b ForGsmp r is = same_ports b.controller (with_reassembly b ForGsmp r).controller refl refl
gathered b (ForDefault linked) r is = port_put b.controller (with_reassembly b (ForDefault linked) r).controller linked (record linked { reassembly = r }) is refl refl refl refl
gathered b (ForLabel linked label) r is =
    port_put b.controller (with_reassembly b (ForLabel linked label) r).controller linked (record linked { chains = chains_with linked.chains label.number r }) is refl refl refl refl

part_keeps : (cell : Cell) → cell.header.last ≡ false → (b : controllers.Acted) → KeepsController b.controller (controller.cell_comes b cell).controller
part_keeps cell part b = by (taker_of b.controller cell.header.channel) refl
  where
    by : (o : Option Taker) → taker_of b.controller cell.header.channel ≡ o → KeepsController b.controller (takes_cell b cell o).controller
    by None is = same_ports b.controller b.controller refl refl
    by (Some taker) is =
        let t : Taken = taken b.notes (nat_lt 0 (free_slots b.controller)) (reassembly_of b.controller taker) cell in
        let with_chain : controllers.Acted = with_reassembly (record b { notes = t.notes }) taker t.reassembly in
        subst (λ (ended : List Cell). KeepsController b.controller (controller.ends_frame with_chain taker ended).controller)
        (sym (ends_none b.notes (nat_lt 0 (free_slots b.controller)) (reassembly_of b.controller taker) cell part))
        (gathered (record b { notes = t.notes }) taker t.reassembly (taker_is_of b.controller cell.header.channel taker is))

-- *A node* isn't reached, or by a cell that ends no frame
abbrev pub IsKept : Place → List Cell → ℕ → Type 0
IsKept (Up node) (cell ∷ cells) k = (node.0 ≢ k) ⊎ (cell.header.last ≡ false)
IsKept place queue k = Unit {0}

-- *A carry elsewhere* keeps the nodes of both ends
module _ (topology : Topology) (w : World) (one far : LinkEnd) where
  abbrev v : World
  v = put_away w

  pub carry_keeps : (place : Place) (queue : List Cell) (k : ℕ) → IsKept place queue k → KeepsSites w.sites (carries_head topology v place queue).sites k
  carry_keeps place [] k is = sites_same w.sites k
  carry_keeps (Down node) (cell ∷ cells) k is = sites_then w.sites (with_queue v (Down node) cells).sites (at_switch (with_queue v (Down node) cells) node (λ a. switch.cell_comes a control_port cell)).sites k
      (queue_keeps v (Down node) cells k) (switch_keeps (with_queue v (Down node) cells) node (λ a. switch.cell_comes a control_port cell) k)
  carry_keeps (Out node port) (cell ∷ cells) k is = by (peer_of topology node port)
    where
      by : (o : Option LinkEnd) → KeepsSites w.sites (arrives_at (with_queue v (Out node port) cells) cell o).sites k
      by None = queue_keeps v (Out node port) cells k
      by (Some there) = sites_then w.sites (with_queue v (Out node port) cells).sites (at_switch (with_queue v (Out node port) cells) there.node (λ a. switch.cell_comes a there.port cell)).sites k
          (queue_keeps v (Out node port) cells k) (switch_keeps (with_queue v (Out node port) cells) there.node (λ a. switch.cell_comes a there.port cell) k)
  carry_keeps (Up node) (cell ∷ cells) k is = sites_then w.sites (with_queue v (Up node) cells).sites (at_controller (with_queue v (Up node) cells) node (λ a. controller.cell_comes a cell)).sites k
      (queue_keeps v (Up node) cells k) (controller_keeps (with_queue v (Up node) cells) node (λ a. controller.cell_comes a cell) k (λ b. (cell_adds b cell).node) (by is))
    where
      by : (node.0 ≢ k) ⊎ (cell.header.last ≡ false) → (node.0 ≢ k) ⊎ ((b : controllers.Acted) → KeepsController b.controller (controller.cell_comes b cell).controller)
      by (inl differs) = inl differs
      by (inr part) = inr (part_keeps cell part)

  pub left_alike : (place : Place) (at_end : LinkEnd) (linked : Linked) → Shows w at_end linked → KeepsSites w.sites (carries_head topology v place (queue_at w place)).sites at_end.node.0
      → IsLeftAlike linked (next topology w (Carry place)) at_end
  left_alike place at_end linked shows keeps = record {
    linked = kept.after;
    shows = record {
      site = node.after;
      there = node.there;
      of_port = kept.there;
      address = ap (λ p. p.adjacency.own.address) kept.port ∙ (shows.address ∙ sym node.controller.address);
    };
    setup = kept.setup;
    alike = subst (λ p. AreAlike linked.port p) (sym kept.port) (record { adjacency = refl; in_session = refl; number = refl; expected = refl; labels = refl; grants = refl });
  }
    where
      node : KeepsNode shows.site (at site_key at_end.node.0 (carries_head topology v place (queue_at w place)).sites)
      node = keeps shows.site shows.there

      kept : KeptAt linked (linked_at node.after.controller at_end.port)
      kept = node.controller.ports at_end.port linked shows.of_port

-- *Each end's port* is left alike
module _ (topology : Topology) (w : World) (one far : LinkEnd) (place : Place) (elsewhere : IsElsewhere w one far place) where
  pub one_left : (linked : Linked) → Shows w one linked → IsLeftAlike linked (next topology w (Carry place)) one
  one_left linked shows = left_alike topology w one far place one linked shows (carry_keeps topology w one far place (queue_at w place) one.node.0 (to_one place (queue_at w place) refl elsewhere))
    where
      to_one : (p : Place) (queue : List Cell) → queue_at w p ≡ queue → IsElsewhere w one far p → IsKept p queue one.node.0
      to_one (Down node) queue is e = tt
      to_one (Out node port) queue is e = tt
      to_one (Up node) [] is e = tt
      to_one (Up node) (cell ∷ cells) is (inl others) = inl others.0
      to_one (Up node) (cell ∷ cells) is (inr ends_none) = inr (subst EndsNoFrame is ends_none)

  pub far_left : (linked : Linked) → Shows w far linked → IsLeftAlike linked (next topology w (Carry place)) far
  far_left linked shows = left_alike topology w one far place far linked shows (carry_keeps topology w one far place (queue_at w place) far.node.0 (to_far place (queue_at w place) refl elsewhere))
    where
      to_far : (p : Place) (queue : List Cell) → queue_at w p ≡ queue → IsElsewhere w one far p → IsKept p queue far.node.0
      to_far (Down node) queue is e = tt
      to_far (Out node port) queue is e = tt
      to_far (Up node) [] is e = tt
      to_far (Up node) (cell ∷ cells) is (inl others) = inl others.1
      to_far (Up node) (cell ∷ cells) is (inr ends_none) = inr (subst EndsNoFrame is ends_none)

pub carries_elsewhere_keep_agreement : CarriesElsewhereKeepAgreement
carries_elsewhere_keep_agreement topology w one far place said far_said elsewhere agree =
    like_worlds_agree w (next topology w (Carry place)) one far said far_said agree
    (one_left topology w one far place elsewhere agree.linked agree.shows)
    (far_left topology w one far place elsewhere agree.far_linked agree.far_shows)
