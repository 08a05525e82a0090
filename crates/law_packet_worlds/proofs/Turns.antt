-- what an actor's turn makes of a network

use Rattle.std.proofs.Common.{◌≡◌, ◌≢◌, ◌⊎◌, inr, ℕ, suc, ◌<◌, Bool, true, false, cond, List, [], ◌∷◌, ◌++◌, length, Option, Some, refl, sym, ◌∙◌, ap, subst, arith, slice_set, count_by}
use Rattle.std.specs.Prelude.{Contains, ◌==◌}
use Rattle.std.specs.Option.{option_map_or}
use Rattle.law_arrival_views.specs.world_model.Words.{NodeId, PortNo, Place, Down, End, Mark, destination_of, best, Via, Cell, Frame, Record, Entry, losses_of, at, put, is_fate_of, default_channel, same_channel, Topology, is_linked, IsTopology, IsNode, IsPlace, World, Site, site_key, site_at, with_site, place_node, queue_in, queue_at, with_queue, with_queue_of, with_queue_in, queue_number, same_queue, Past}
use Rattle.law_arrival_views.specs.ordered_lists.Ordered.{Every}
use Rattle.law_arrival_views.proofs.ordered_lists.Every.{every_join}
use Rattle.law_packet_worlds.proofs.Lists.{count_by-append, count_by-cons, count_by-skip, none_front}
use Rattle.law_arrival_views.proofs.law_port_facts.Keyed.{at_key}
use Rattle.law_arrival_views.specs.world_model.crossbar_model.Crossbar.{output_of}
use Rattle.law_arrival_views.specs.world_model.Switch as switches
use Rattle.law_arrival_views.specs.world_model.Controller.{Acted, ports_of}
use Rattle.law_arrival_views.specs.world_model.network_model.declared.link.LinkEnd.{LinkEnd}
use Rattle.law_arrival_views.specs.world_model.Topology.{peer_of}
use Rattle.law_arrival_views.specs.world_model.Step.{note}
use Rattle.law_arrival_views.proofs.world_model.Lists.{at_put_same, at_put_other}
use Rattle.law_arrival_views.proofs.world_model.Queues.{Sets, set_queue, sets_down, sets_out}
use Rattle.law_run_facts.specs.law_world_views.Marks.{Heading, heading_at, Means, ends, ends_in}
use Rattle.law_packet_worlds.proofs.Quiet.{is_fate}
use Rattle.law_packet_worlds.proofs.Meant.{in_frames, IsProper, MeansAt}
use Rattle.law_packet_worlds.proofs.Good.{Turn, IsTrueRecord, IsGood, nothing, good_set}
use Rattle.law_packet_worlds.proofs.Frames.{in_hand}
use Rattle.law_packet_worlds.proofs.Sends.{now_of, HasGrants}
use Rattle.law_packet_worlds.proofs.Quietly.{BindsNone, AreFew}
use Rattle.law_packet_worlds.proofs.Takes.{HasLabels}
use Rattle.law_packet_worlds.proofs.Worlds.{IsNet, low, one_place, two_places, queue_net, IsGoodWorld, turn_at, to_turn, from_turn}

-- *Where a cell that comes to a switch on a port leads*, and where a branch leads it on
abbrev pub arrives_as : Topology → NodeId → (input : End) → Heading
arrives_as topology node input = cond (input.port.0 == 0) (heading_at topology (Down node) input.channel) (record { end = Some (record { node = node; port = input.port }); channel = input.channel })

pub record LeadsOn (base : Past) (node : NodeId) (input output : End) : Type 0 where
  pub place : Place
  pub is_place : IsPlace base.topology place
  pub of_node : (place_node place).0 ≡ node.0
  pub of_port : queue_number place ≡ suc output.port.0
  pub means : (frames : List Frame) (last : Bool) (mark : Mark) → Means (in_frames base frames) (arrives_as base.topology node input) last mark
      → Means (in_frames base frames) (heading_at base.topology place output.channel) last mark
  pub proper : IsProper base.topology (arrives_as base.topology node input) → IsProper base.topology (heading_at base.topology place output.channel)

-- *What is known of a node* before the event: its table, its grants and labels, and where its branches lead
pub record IsKnown (base : Past) (time : ℕ) (node : NodeId) (site : Site) : Type 0 where
  pub number : IsNode base.topology node
  pub held : base.history.held node time ≡ site.controller.table
  pub linked : (packet : List ℕ) (port : PortNo) → best site.controller.table (destination_of packet) ≡ Some (Via port)
      → (far : LinkEnd) × (peer_of base.topology node port ≡ Some far) × (is_linked base.topology far.node far.port ≡ true)
  pub granted : (t : Turn) → t.base ≡ base → Every (HasGrants t node) site.controller.ports
  pub labels : (t : Turn) → t.base ≡ base → Every (HasLabels t node) site.controller.ports
  pub leads : (input output : End) → output_of site.switch.crossbar.branches input ≡ Some output → LeadsOn base node input output
  pub queues : length site.switch.crossbar.queues ≡ 9

abbrev pub IsKnownWorld : Past → (time : ℕ) → World → Type 0
IsKnownWorld base time w = (node : NodeId) (site : Site) → site_at w node ≡ Some site → IsKnown base time node site

-- *What an event leaves*: a good world, and no label was bound, or each cell on a label stood there before
abbrev pub IsOld : Topology → World → Place → Cell → Type 0
IsOld topology w place cell = (same_channel (heading_at topology place cell.header.channel).channel default_channel ≡ true) ⊎ Contains (queue_at w place) cell

abbrev pub IsUnlabelled : Topology → World → World → Type 0
IsUnlabelled topology w v = (place : Place) → IsPlace topology place → Every (IsOld topology w place) (queue_at v place)

pub record Ends (base : Past) (time : ℕ) (w v : World) : Type 0 where
  pub good : IsGoodWorld base time nothing v
  pub binds : BindsNone v.notes.records ⊎ IsUnlabelled base.topology w v

-- *Lists*
among_tail : (y : Cell) (xs : List Cell) (x : Cell) → Contains xs x → Contains (y ∷ xs) x
among_tail y xs x c = (suc c.0, omega (arith, c.1), c.2)

pub every_of : (P : Cell → Type 0) (xs : List Cell) → ((x : Cell) → Contains xs x → P x) → Every P xs
every_of P [] each = tt
every_of P (x ∷ xs) each = (each x (0, omega arith, refl), every_of P xs (λ y c. each y (among_tail x xs y c)))

pub all_old : (topology : Topology) (w : World) (place : Place) → Every (IsOld topology w place) (queue_at w place)
all_old topology w place = every_of (IsOld topology w place) (queue_at w place) (λ x c. inr c)

-- *Look-ups*
pub node_is : (w : World) (node : NodeId) (site : Site) → site_at w node ≡ Some site → site.controller.node ≡ node
node_is w node site found = (let key : site_key site ≡ node.0 = at_key site_key node.0 w.sites site found in ap (λ (n : ℕ). let i : NodeId = record { 0 = n } in i) key)

pub own_found : (w : World) (node : NodeId) (site new : Site) → site_at w node ≡ Some site → new.controller.node ≡ site.controller.node → at site_key (site_key new) w.sites ≡ Some site
own_found w node site new found same = subst (λ (n : NodeId). at site_key n.0 w.sites ≡ Some site) (sym (same ∙ node_is w node site found)) found

pub found_put : (w : World) (node : NodeId) (site new : Site) → site_at w node ≡ Some site → new.controller.node ≡ site.controller.node → site_at (with_site w new) node ≡ Some new
found_put w node site new found same =
    subst (λ (n : NodeId). at site_key n.0 (put site_key new w.sites) ≡ Some new) (same ∙ node_is w node site found) (at_put_same site_key new w.sites site (own_found w node site new found same))

pub other_put : (w : World) (node other : NodeId) (site new : Site) → site_at w node ≡ Some site → new.controller.node ≡ site.controller.node → node.0 ≢ other.0 → site_at (with_site w new) other ≡ site_at w other
other_put w node other site new found same away =
    at_put_other site_key new other.0 w.sites (λ e. away (sym (ap (λ (n : NodeId). n.0) (same ∙ node_is w node site found)) ∙ e))

pub in_site : (w : World) (place : Place) (site : Site) → site_at w (place_node place) ≡ Some site → queue_at w place ≡ queue_in site place
in_site w place site found = ap (λ (o : Option Site). option_map_or (λ s. queue_in s place) o []) found

module _ (base : Past) (topology_is : IsTopology base.topology) (time : ℕ) (timed : length base.events ≡ suc time) where
  abbrev pub Good : (ℕ → ℕ) → World → Type 0
  Good hand w = IsGoodWorld base time hand w

  -- *A record alone*
  pub noted_world : (w : World) (item : Record) → is_fate item ≡ false → IsTrueRecord base time item → ((k : ℕ) → is_fate_of k item ≡ false) → Good nothing w → Good nothing (note w item)
  noted_world w item quiet is_true none good = record {
    meant = good.meant;
    unmade = good.unmade;
    unused = good.unused;
    once = λ k some. omega (arith, good.once k some, same k);
    later = λ k above. omega (arith, good.later k above, same k);
    kept = λ k was free. omega (arith, good.kept k was (none_front (λ (entry : Entry). entry.mark.packet == k) w.notes.entries (losses_of (item ∷ [])) free), same k);
    truths = every_join (IsTrueRecord base time) w.notes.records (item ∷ []) good.truths (is_true, tt);
  }
    where
      same : (k : ℕ) → count_by (is_fate_of k) (w.notes.records ++ item ∷ []) ≡ count_by (is_fate_of k) w.notes.records
      same k = (let zero_one : count_by (is_fate_of k) (item ∷ []) ≡ count_by (is_fate_of k) [] = count_by-skip (is_fate_of k) item [] (none k) in
          let nil : count_by (is_fate_of k) [] ≡ 0 = refl in
          omega (arith, count_by-append (is_fate_of k) w.notes.records (item ∷ []), zero_one, nil))

  module _ (w : World) (net : IsNet base.topology w) where
    abbrev pub turn : Place → Turn
    turn place = turn_at base topology_is time timed w net place

    -- *A controller has acted*
    pub controller_world : (hand : ℕ → ℕ) (node : NodeId) (site : Site) (b : Acted) → IsNode base.topology node → site_at w node ≡ Some site
        → b.controller.node ≡ site.controller.node → ports_of b.controller ≡ ports_of site.controller → IsGood (turn (Down node)) hand (now_of b)
        → Good hand (record (with_site w (record site { controller = b.controller })) { notes = b.notes; numbers = b.numbers })
    controller_world hand node site b is found same ports good =
        let new : Site = record site { controller = b.controller } in
        let s = sets_down w site new (own_found w node site new found same) ports same refl in
        let placed : Sets w (with_site w new) (Down node) b.controller.queue = subst (λ (n : NodeId). Sets w (with_site w new) (Down n) b.controller.queue) (same ∙ node_is w node site found) s in
        from_turn base topology_is time timed w net hand (record (with_site w new) { notes = b.notes; numbers = b.numbers }) (Down node) b.controller.queue is
        (record { here = placed.here; away = placed.away; order = placed.order; shaped = placed.shaped }) refl good

    -- and its queue alone has changed
    pub controller_unlabelled : (node : NodeId) (site : Site) (b : Acted) → IsNode base.topology node → site_at w node ≡ Some site
        → b.controller.node ≡ site.controller.node → ports_of b.controller ≡ ports_of site.controller → AreFew (IsOld base.topology w (Down node)) b
        → IsUnlabelled base.topology w (record (with_site w (record site { controller = b.controller })) { notes = b.notes; numbers = b.numbers })
    controller_unlabelled node site b is found same ports few place there =
        let new : Site = record site { controller = b.controller } in
        let s = sets_down w site new (own_found w node site new found same) ports same refl in
        let placed : Sets w (with_site w new) (Down node) b.controller.queue = subst (λ (n : NodeId). Sets w (with_site w new) (Down n) b.controller.queue) (same ∙ node_is w node site found) s in
        by_place (with_site w new) placed (same_queue (Down node) place) refl
      where
        by_place : (v : World) → Sets w v (Down node) b.controller.queue → (t : Bool) → same_queue (Down node) place ≡ t → Every (IsOld base.topology w place) (queue_at v place)
        by_place v placed true e =
            let one : Down node ≡ place = one_place base.topology topology_is (Down node) place is there e in
            subst (λ (p : Place). Every (IsOld base.topology w p) (queue_at v p)) one (subst (Every (IsOld base.topology w (Down node))) (sym (placed.here (Down node) refl refl)) few)
        by_place v placed false e = subst (Every (IsOld base.topology w place)) (sym (placed.away place (two_places (Down node) place e))) (all_old base.topology w place)

    -- *A switch has acted*, and one of its queues has changed
    pub switch_world : (hand : ℕ → ℕ) (node : NodeId) (site : Site) (a : switches.ActedSwitch) (place : Place) (port : ℕ) (cells : List Cell) → IsPlace base.topology place → (place_node place).0 ≡ node.0
        → queue_number place ≡ suc port → site_at w node ≡ Some site → a.switch.crossbar.queues ≡ slice_set site.switch.crossbar.queues port cells → port < length site.switch.crossbar.queues
        → IsGood (turn place) hand (record { cells = cells; notes = a.notes; controls = a.numbers.controls })
        → Good hand (record (with_site w (record site { switch = a.switch })) { notes = a.notes; numbers = a.numbers })
    switch_world hand node site a place port cells is of_node of_port found queues few good =
        let new : Site = record site { switch = a.switch } in
        let key : (place_node place).0 ≡ site_key new = of_node ∙ sym (ap (λ (n : NodeId). n.0) (node_is w node site found)) in
        let s = sets_out w site new (own_found w node site new found refl) place port cells key of_port refl refl refl queues few in
        from_turn base topology_is time timed w net hand (record (with_site w new) { notes = a.notes; numbers = a.numbers }) place cells is
        (record { here = s.here; away = s.away; order = s.order; shaped = s.shaped }) refl good

    -- or none
    pub switch_still : (hand : ℕ → ℕ) (node : NodeId) (site : Site) (a : switches.ActedSwitch) → IsNode base.topology node → site_at w node ≡ Some site
        → a.switch.crossbar.queues ≡ site.switch.crossbar.queues
        → IsGood (turn (Down node)) hand (record { cells = queue_at w (Down node); notes = a.notes; controls = a.numbers.controls })
        → Good hand (record (with_site w (record site { switch = a.switch })) { notes = a.notes; numbers = a.numbers })
    switch_still hand node site a is found queues good =
        let new : Site = record site { switch = a.switch } in
        let s = sets_down w site new (own_found w node site new found refl) refl refl queues in
        let placed : Sets w (with_site w new) (Down node) site.controller.queue = subst (λ (n : NodeId). Sets w (with_site w new) (Down n) site.controller.queue) (node_is w node site found) s in
        let queue : queue_at w (Down node) ≡ site.controller.queue = in_site w (Down node) site found in
        from_turn base topology_is time timed w net hand (record (with_site w new) { notes = a.notes; numbers = a.numbers }) (Down node) site.controller.queue is
        (record { here = placed.here; away = placed.away; order = placed.order; shaped = placed.shaped }) refl
        (subst (λ (cs : List Cell). IsGood (turn (Down node)) hand (record { cells = cs; notes = a.notes; controls = a.numbers.controls })) queue good)

    -- *The head of a queue leaves it*
    pub record Pops (place : Place) (cell : Cell) (cells : List Cell) (site : Site) : Type 0 where
      pub good : Good (in_hand cell) (with_site w (with_queue_in site place cells))
      pub means : Means (in_frames base w.notes.frames) (heading_at base.topology place cell.header.channel) cell.header.last cell.mark
      pub proper : IsProper base.topology (heading_at base.topology place cell.header.channel)
      pub still : IsNet base.topology (with_site w (with_queue_in site place cells))
      pub turned : IsGood (turn place) (in_hand cell) (record { cells = cells; notes = w.notes; controls = w.numbers.controls })
      pub sets : Sets w (with_site w (with_queue_in site place cells)) place cells

    pub queue_is : (place : Place) (site : Site) (cells : List Cell) → site_at w (place_node place) ≡ Some site → with_queue w place cells ≡ with_site w (with_queue_in site place cells)
    queue_is place site cells found = ap (with_queue_of w place cells) found

    pub pops : (place : Place) (cell : Cell) (cells : List Cell) (site : Site) → IsPlace base.topology place → site_at w (place_node place) ≡ Some site → queue_at w place ≡ cell ∷ cells → Good nothing w
        → Pops place cell cells site
    pops place cell cells site is found queue good =
        let v : World = with_site w (with_queue_in site place cells) in
        let whole : with_queue w place cells ≡ v = queue_is place site cells found in
        let sets : Sets w v place cells = subst (λ (x : World). Sets w x place cells) whole (set_queue w place site cells net.shaped found (low base.topology topology_is place is)) in
        let all : Every (MeansAt base w.notes.frames place) (cell ∷ cells) = subst (Every (MeansAt base w.notes.frames place)) queue (good.meant place is) in
        let before : IsGood (turn place) nothing (record { cells = queue_at w place; notes = w.notes; controls = w.numbers.controls }) = to_turn base topology_is time timed w net nothing place is good in
        let after = good_set (turn place) nothing (in_hand cell) (record { cells = queue_at w place; notes = w.notes; controls = w.numbers.controls }) cells all.1
        (λ k some. omega (arith, ap (ends_in k) queue, count_by-cons (ends k) cell cells)) before in
        record {
          good = from_turn base topology_is time timed w net (in_hand cell) v place cells is sets refl after;
          means = all.0.0;
          proper = all.0.1;
          still = subst (IsNet base.topology) whole (queue_net base.topology topology_is w place cells is net);
          turned = after;
          sets = sets;
        }
