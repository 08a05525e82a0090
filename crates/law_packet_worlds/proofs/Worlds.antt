-- a network between two turns of its actors: what holds of one queue and of all others holds of all

use Rattle.std.proofs.Common.{◌≡◌, ◌≢◌, ◌⊎◌, inl, inr, ℕ, suc, ◌<◌, ◌≤◌, ◌+◌, ◌==◌, Bool, true, false, List, [], length, Option, None, Some, refl, sym, ◌∙◌, ap, ap₂, subst, arith, count_by}
use Rattle.std.specs.Prelude.{is_some}
use Rattle.std.specs.List.{list_any}
use Rattle.std.proofs.lemmas.Bool.Decides.{nat_tests}
use Rattle.law_arrival_views.specs.world_model.Words.{NodeId, PortNo, Place, Down, Up, Out, Cell, payload_of, at, put, is_fate_of, has_loss_of, Topology, IsTopology, IsPlace, World, Site, site_key, site_at, with_site, place_node, queue_at, with_queue, with_queue_of, with_queue_in, queue_number, same_queue, places_of, IsShaped, IsPlaceOf, IsPlaceIn, Past, WasAccepted}
use Rattle.law_arrival_views.specs.ordered_lists.Ordered.{Every}
use Rattle.law_arrival_views.proofs.law_port_facts.Keyed.{by_eq, at_key}
use Rattle.law_arrival_views.specs.world_model.network_model.declared.link.LinkEnd.{LinkEnd}
use Rattle.law_arrival_views.specs.world_model.Topology.{peer_of}
use Rattle.law_arrival_views.proofs.world_model.Lists.{at_put_same, at_put_other}
use Rattle.law_arrival_views.proofs.world_model.Queues.{Sets, set_queue, weighs}
use Rattle.law_run_facts.specs.law_world_views.Marks.{ends_in, last_cells}
use Rattle.law_unused_labels.proofs.law_causes.Shown.{peer_back}
use Rattle.law_packet_worlds.proofs.Meant.{MeansAt}
use Rattle.law_packet_worlds.proofs.Good.{Turn, IsTurn, IsTrueRecord, IsGood}
use Rattle.law_packet_worlds.proofs.Bound.{and_parts}

-- *The network of a topology*
pub record IsNet (topology : Topology) (w : World) : Type 0 where
  pub shaped : IsShaped w
  pub within : (place : Place) → IsPlace topology place → IsPlaceIn w place

pub record HasSiteAt (w : World) (place : Place) : Type 0 where
  pub site : Site
  pub found : site_at w (place_node place) ≡ Some site

pub site_there : (topology : Topology) (w : World) (place : Place) → IsNet topology w → IsPlace topology place → HasSiteAt w place
site_there topology w place net is = by (site_at w (place_node place)) refl (net.within place is)
  where
    by : (o : Option Site) → site_at w (place_node place) ≡ o → IsPlaceOf place o → HasSiteAt w place
    by None e in_none = absurd in_none
    by (Some site) e in_some = record { site = site; found = e }

-- ports of links are 1 to 8
pub port_above : (topology : Topology) (is : IsTopology topology) (node : NodeId) (port : PortNo) → is_some (peer_of topology node port) ≡ true → (1 ≤ port.0) × (port.0 ≤ 8)
port_above topology is node port linked = by (peer_of topology node port) refl linked
  where
    by : (o : Option LinkEnd) → peer_of topology node port ≡ o → is_some o ≡ true → (1 ≤ port.0) × (port.0 ≤ 8)
    by None e f = absurd (cc f)
    by (Some far) e f = (peer_back topology is (record { node = node; port = port }) far e).own

pub low : (topology : Topology) (is : IsTopology topology) (place : Place) → IsPlace topology place → queue_number place ≤ 9
low topology is (Down n) there = omega arith
low topology is (Up n) there = omega arith
low topology is (Out n p) there = (let own = port_above topology is n p there.1 in omega (arith, own.1))

pub no_peer : (topology : Topology) (is : IsTopology topology) (node : NodeId) → peer_of topology node (record { 0 = 0 }) ≡ None
no_peer topology is node = by (peer_of topology node (record { 0 = 0 })) refl
  where
    by : (o : Option LinkEnd) → peer_of topology node (record { 0 = 0 }) ≡ o → o ≡ None
    by None e = refl
    by (Some far) e = (let own = (peer_back topology is (record { node = node; port = record { 0 = 0 } }) far e).own in absurd (omega (arith, own.0)))

-- *Two places are one queue*, or aren't

pub one_place : (topology : Topology) (is : IsTopology topology) (place other : Place) → IsPlace topology place → IsPlace topology other → same_queue place other ≡ true → place ≡ other
one_place topology is place other here there same = by place other here there node number
  where
    parts : (((place_node place).0 == (place_node other).0) ≡ true) × ((queue_number place == queue_number other) ≡ true)
    parts = and_parts ((place_node place).0 == (place_node other).0) (queue_number place == queue_number other) same

    node : (place_node place).0 ≡ (place_node other).0
    node = (let e = parts.0 in grind (arith, nat_tests, e))

    number : queue_number place ≡ queue_number other
    number = (let e = parts.1 in grind (arith, nat_tests, e))

    by : (p q : Place) → IsPlace topology p → IsPlace topology q → (place_node p).0 ≡ (place_node q).0 → queue_number p ≡ queue_number q → p ≡ q
    by (Down m) (Down n) h k node number = ap (λ (i : ℕ). Down (record { 0 = i })) node
    by (Down m) (Up n) h k node number = absurd (omega (arith, number))
    by (Down m) (Out n q) h k node number = absurd (omega (arith, number))
    by (Up m) (Down n) h k node number = absurd (omega (arith, number))
    by (Up m) (Up n) h k node number = ap (λ (i : ℕ). Up (record { 0 = i })) node
    by (Up m) (Out n q) h k node number = (let own = port_above topology is n q k.1 in absurd (omega (arith, number, own.0)))
    by (Out m p) (Down n) h k node number = absurd (omega (arith, number))
    by (Out m p) (Up n) h k node number = (let own = port_above topology is m p h.1 in absurd (omega (arith, number, own.0)))
    by (Out m p) (Out n q) h k node number = (let same_port : p.0 ≡ q.0 = omega (arith, number) in ap₂ (λ (i j : ℕ). Out (record { 0 = i }) (record { 0 = j })) node same_port)

pub two_places : (place other : Place) → same_queue place other ≡ false → ((place_node place).0 ≢ (place_node other).0) ⊎ (queue_number place ≢ queue_number other)
two_places place other e = by_eq (place_node place).0 (place_node other).0
    (λ same t. by_eq (queue_number place) (queue_number other)
    (λ number u. absurd (clash same number))
    (λ number u. inr number))
    (λ apart t. inl apart)
  where
    clash : (place_node place).0 ≡ (place_node other).0 → queue_number place ≡ queue_number other → ⊥
    clash same number =
        let first : ((place_node place).0 == (place_node other).0) ≡ true = grind (arith, nat_tests, same) in
        let second : (queue_number place == queue_number other) ≡ true = grind (arith, nat_tests, number) in
        let both : same_queue place other ≡ true = rw (first, second) refl in
        let no : true ≡ false = sym both ∙ e in
        cc no

same_itself : (place : Place) → same_queue place place ≡ true
same_itself place =
    let first : ((place_node place).0 == (place_node place).0) ≡ true = grind (arith, nat_tests) in
    let second : (queue_number place == queue_number place) ≡ true = grind (arith, nat_tests) in
    rw (first, second) refl

-- *A site is put in the place of another with the same places*: it is the network still
pub still_net : (topology : Topology) (w : World) (old new : Site) → at site_key (site_key new) w.sites ≡ Some old → places_of new ≡ places_of old → (IsShaped w → IsShaped (with_site w new))
    → IsNet topology w → IsNet topology (with_site w new)
still_net topology w old new found same shaped net = record {
  shaped = shaped net.shaped;
  within = λ place is. by_eq (site_key new) (place_node place).0
      (λ here t. (
      let now : site_at (with_site w new) (place_node place) ≡ Some new = subst (λ j. at site_key j (put site_key new w.sites) ≡ Some new) here (at_put_same site_key new w.sites old found) in
      let was : site_at w (place_node place) ≡ Some old = subst (λ j. at site_key j w.sites ≡ Some old) here found in
      let then : list_any (same_queue place) (places_of old) ≡ true = subst (IsPlaceOf place) was (net.within place is) in
      subst (IsPlaceOf place) (sym now) (ap (list_any (same_queue place)) same ∙ then)))
      (λ away t. subst (IsPlaceOf place) (sym (at_put_other site_key new (place_node place).0 w.sites away)) (net.within place is));
}

pub queue_net : (topology : Topology) (is : IsTopology topology) (w : World) (place : Place) (cells : List Cell) → IsPlace topology place → IsNet topology w → IsNet topology (with_queue w place cells)
queue_net topology is w place cells there net =
    let s : HasSiteAt w place = site_there topology w place net there in
    let sets : Sets w (with_queue w place cells) place cells = set_queue w place s.site cells net.shaped s.found (low topology is place there) in
    let whole : with_queue w place cells ≡ with_site w (with_queue_in s.site place cells) = ap (with_queue_of w place cells) s.found in
    let kept : IsShaped w → IsShaped (with_site w (with_queue_in s.site place cells)) = subst (λ (v : World). IsShaped w → IsShaped v) whole sets.shaped in
    subst (IsNet topology) (sym whole) (still_net topology w s.site (with_queue_in s.site place cells) (own_key place s.site s.found) (own_places place s.site) kept net)
  where
    own_places : (place : Place) (site : Site) → places_of (with_queue_in site place cells) ≡ places_of site
    own_places (Down n) site = refl
    own_places (Up n) site = refl
    own_places (Out n p) site = refl

    own_site : (place : Place) (site : Site) → site_key (with_queue_in site place cells) ≡ site_key site
    own_site (Down n) site = refl
    own_site (Up n) site = refl
    own_site (Out n p) site = refl

    key_is : (k : ℕ) (sites : List Site) (site : Site) → at site_key k sites ≡ Some site → site_key site ≡ k
    key_is k sites site e = at_key site_key k sites site e

    own_key : (place : Place) (site : Site) → site_at w (place_node place) ≡ Some site → at site_key (site_key (with_queue_in site place cells)) w.sites ≡ Some site
    own_key place site found = subst (λ j. at site_key j w.sites ≡ Some site) (sym (own_site place site ∙ key_is (place_node place).0 w.sites site found)) found

-- *A good world*: as in a turn, of all queues
pub record IsGoodWorld (base : Past) (time : ℕ) (hand : ℕ → ℕ) (w : World) : Type 0 where
  pub meant : (place : Place) → IsPlace base.topology place → Every (MeansAt base w.notes.frames place) (queue_at w place)
  pub unmade : (k i : ℕ) → w.sent < k → payload_of w.notes.frames (record { packet = k; frame = i }) ≡ None
  pub unused : (i : ℕ) → w.numbers.controls < i → payload_of w.notes.frames (record { packet = 0; frame = i }) ≡ None
  pub once : (k : ℕ) → 0 < k → last_cells w k + (count_by (is_fate_of k) base.records + count_by (is_fate_of k) w.notes.records) + hand k ≤ 1
  pub later : (k : ℕ) → w.sent < k → last_cells w k + (count_by (is_fate_of k) base.records + count_by (is_fate_of k) w.notes.records) + hand k ≡ 0
  pub kept : (k : ℕ) → WasAccepted base k → has_loss_of k w.notes.entries ≡ false
      → 1 ≤ last_cells w k + (count_by (is_fate_of k) base.records + count_by (is_fate_of k) w.notes.records) + hand k
  pub truths : Every (IsTrueRecord base time) w.notes.records

module _ (base : Past) (topology_is : IsTopology base.topology) (time : ℕ) (timed : length base.events ≡ suc time) (w : World) (net : IsNet base.topology w) where
  abbrev pub turn_at : Place → Turn
  turn_at place = record { base = base; time = time; place = place; others = queue_at w; rest = last_cells (with_queue w place []); sent = w.sent }

  sets_none : (place : Place) → IsPlace base.topology place → Sets w (with_queue w place []) place []
  sets_none place is = (let s : HasSiteAt w place = site_there base.topology w place net is in set_queue w place s.site [] net.shaped s.found (low base.topology topology_is place is))

  rest_is : (place : Place) → IsPlace base.topology place → (k : ℕ) → last_cells (with_queue w place []) k + ends_in k (queue_at w place) ≡ last_cells w k
  rest_is place is k =
      let none : ends_in k [] ≡ 0 = refl in
      omega (arith, weighs (ends_in k) w (with_queue w place []) place [] net.shaped (net.within place is) (sets_none place is), none)

  pub is_turn : (place : Place) → IsPlace base.topology place → IsTurn (turn_at place)
  is_turn place is = record {
    timed = timed;
    below = λ k other away. (
        let v : World = with_queue w place [] in
        let v_net : IsNet base.topology v = queue_net base.topology topology_is w place [] is net in
        let s : HasSiteAt v other = site_there base.topology v other v_net away.0 in
        let none : ends_in k [] ≡ 0 = refl in
        let sum = weighs (ends_in k) v (with_queue v other []) other [] v_net.shaped (v_net.within other away.0)
        (set_queue v other s.site [] v_net.shaped s.found (low base.topology topology_is other away.0)) in
        let same : queue_at v other ≡ queue_at w other = (sets_none place is).away other (two_places place other away.1) in
        let sized : ends_in k (queue_at v other) ≡ ends_in k (queue_at w other) = ap (ends_in k) same in
        omega (arith, sum, none, sized));
  }

  pub to_turn : (hand : ℕ → ℕ) (place : Place) → IsPlace base.topology place → IsGoodWorld base time hand w
      → IsGood (turn_at place) hand (record { cells = queue_at w place; notes = w.notes; controls = w.numbers.controls })
  to_turn hand place is good = record {
    meant = record { here = good.meant place is; away = λ other away. good.meant other away.0; unmade = good.unmade; unused = good.unused };
    counted = record {
      once = λ k some. omega (arith, good.once k some, rest_is place is k);
      later = λ k above. omega (arith, good.later k above, rest_is place is k);
      kept = λ k was none. omega (arith, good.kept k was none, rest_is place is k);
    };
    truths = good.truths;
  }

  pub from_turn : (hand : ℕ → ℕ) (v : World) (place : Place) (cells : List Cell) → IsPlace base.topology place → Sets w v place cells → v.sent ≡ w.sent
      → IsGood (turn_at place) hand (record { cells = cells; notes = v.notes; controls = v.numbers.controls }) → IsGoodWorld base time hand v
  from_turn hand v place cells is sets sent good =
      let ended : (k : ℕ) → last_cells v k ≡ last_cells (with_queue w place []) k + ends_in k cells = λ k.
      omega (arith, weighs (ends_in k) w v place cells net.shaped (net.within place is) sets, rest_is place is k) in
      record {
        meant = λ other there. by_place other there (same_queue place other) refl;
        unmade = λ k i above. good.meant.unmade k i (subst (λ n. n < k) sent above);
        unused = good.meant.unused;
        once = λ k some. omega (arith, good.counted.once k some, ended k);
        later = λ k above. omega (arith, good.counted.later k (subst (λ n. n < k) sent above), ended k);
        kept = λ k was none. omega (arith, good.counted.kept k was none, ended k);
        truths = good.truths;
      }
    where
      by_place : (other : Place) → IsPlace base.topology other → (b : Bool) → same_queue place other ≡ b → Every (MeansAt base v.notes.frames other) (queue_at v other)
      by_place other there true e =
          let same : place ≡ other = one_place base.topology topology_is place other is there e in
          let queue : queue_at v place ≡ cells = sets.here place refl refl in
          subst (λ (p : Place). Every (MeansAt base v.notes.frames p) (queue_at v p)) same (subst (Every (MeansAt base v.notes.frames place)) (sym queue) good.meant.here)
      by_place other there false e = subst (Every (MeansAt base v.notes.frames other)) (sym (sets.away other (two_places place other e))) (good.meant.away other (there, e))
