-- the queues of a world: one of them is another, and nothing else is

use Rattle.std.proofs.Common.{◌≡◌, ◌≢◌, ◌⊎◌, inl, inr, ℕ, suc, ◌<◌, ◌≤◌, ◌+◌, ◌==◌, ◌&&◌, ◌||◌, Bool, true, false, true≢false, List, [], ◌∷◌, ◌++◌, length, map, slice_set, slice_index, slice_index_or, Option, None, Some, refl, sym, ◌∙◌, ap, ap₂, subst, arith, sum_by, count_by, flat_map, if◌then◌else◌}
use Rattle.std.specs.Prelude.{nat_eq}
use Rattle.std.specs.List.{list_any}
use Rattle.std.specs.List.Sorted.{IsStrictlyIncreasing}
use Rattle.std.specs.Option.{option_map_or}
use Rattle.std.proofs.lemmas.Bool.Decides.{nat_tests}
use Rattle.std.proofs.lemmas.List.Concat.{flat_map-cons}
use Rattle.network_model.specs.net_types.declared.node.NodeId.{NodeId}
use Rattle.network_model.specs.net_types.declared.node.PortNo.{PortNo}
use Rattle.network_model.specs.net_types.declared.node.Place.{Place}
use Rattle.network_model.specs.net_types.declared.node.Place.TheVariants.{Down, Up, Out}
use Rattle.network_model.specs.atm_cells.declared.cell.Cell.{Cell}
use Rattle.network_model.specs.keyed_lists.Keyed.{at, put}
use Rattle.network_model.specs.crossbar_model.Channels.{ArePorts}
use Rattle.world_model.specs.Controller.{ports_of}
use Rattle.world_model.specs.World.{World, Site, site_key, site_at, with_site}
use Rattle.world_model.specs.Places.{place_node, queue_in, queue_at, with_queue, with_queue_of, with_queue_in, queue_number, same_queue, places_of, places, IsShapedSite, AreShaped, IsShaped, IsPlaceOf, IsPlaceIn}
use Rattle.world_model.proofs.Lists.{by_eq, at_key, at_put_same, at_put_other, index_set, index_here, length_set, count_append, count_here, count_there, sum_once}

-- *Two places are one queue*, or aren't
are_one : (place other : Place) → (place_node place).0 ≡ (place_node other).0 → queue_number place ≡ queue_number other → same_queue place other ≡ true
are_one place other node number = grind (arith, nat_tests, node, number)

are_two : (place other : Place) → ((place_node place).0 ≢ (place_node other).0) ⊎ (queue_number place ≢ queue_number other) → same_queue place other ≡ false
are_two place other (inl node) = by_eq (place_node place).0 (place_node other).0 (λ e t. absurd (node e))
    (λ e t. ap (λ (b : Bool). b && (queue_number place == queue_number other)) t)
are_two place other (inr number) = by_eq (queue_number place) (queue_number other) (λ e t. absurd (number e))
    (λ e t. both ((place_node place).0 == (place_node other).0) t)
  where
    both : (a : Bool) → nat_eq (queue_number place) (queue_number other) ≡ false → (a && (queue_number place == queue_number other)) ≡ false
    both true t = t
    both false t = refl

by_queue : {P : Type 0} (place other : Place)
    → ((place_node place).0 ≡ (place_node other).0 → queue_number place ≡ queue_number other → same_queue place other ≡ true → P)
    → (((place_node place).0 ≢ (place_node other).0) ⊎ (queue_number place ≢ queue_number other) → same_queue place other ≡ false → P) → P
by_queue place other one two = by_eq (place_node place).0 (place_node other).0
    (λ node t. by_eq (queue_number place) (queue_number other)
    (λ number t. one node number (are_one place other node number))
    (λ number t. two (inr number) (are_two place other (inr number))))
    (λ node t. two (inl node) (are_two place other (inl node)))

-- *Each queue of a site has one place*: the numbers of their queues rise
abbrev Mounts : ℕ → List Place → Type 0
Mounts least [] = Unit {0}
Mounts least (place ∷ places) = (least ≤ queue_number place) × Mounts (suc (queue_number place)) places

mounts_none : (place : Place) (least : ℕ) (ps : List Place) → Mounts least ps → queue_number place < least → count_by (same_queue place) ps ≡ 0
mounts_none place least [] m low = refl
mounts_none place least (p ∷ ps) m low =
    count_there (same_queue place) p ps (are_two place p (inr (λ e. omega (arith, e, m.0, low))))
    ∙ mounts_none place (suc (queue_number p)) ps m.1 (omega (arith, m.0, low))

mounts_once : (place : Place) (least : ℕ) (ps : List Place) → Mounts least ps → count_by (same_queue place) ps ≤ 1
mounts_once place least [] m = omega arith
mounts_once place least (p ∷ ps) m = by_queue place p
    (λ node number t. omega (arith, count_here (same_queue place) p ps t, mounts_none place (suc (queue_number p)) ps m.1 (omega (arith, number))))
    (λ two t. omega (arith, count_there (same_queue place) p ps t, mounts_once place (suc (queue_number p)) ps m.1))

-- ports ascend from above a number
abbrev Climbs : ℕ → List PortNo → Type 0
Climbs below [] = Unit {0}
Climbs below (port ∷ ports) = (below < port.0) × Climbs port.0 ports

climbs : (below : ℕ) (ports : List PortNo) → IsStrictlyIncreasing (map (λ (p : PortNo). p.0) ports)
    → (0 < length ports → below < slice_index (map (λ (p : PortNo). p.0) ports) 0) → Climbs below ports
climbs below [] rises first = tt
climbs below (port ∷ ports) rises first =
    (first (omega arith), climbs port.0 ports shifted (λ some. rises 0 (second ports some)))
  where
    second : (ports : List PortNo) → 0 < length ports → 0 + 1 < length (map (λ (p : PortNo). p.0) (port ∷ ports))
    second [] some = absurd (omega (arith, some))
    second (next ∷ ports) some = omega arith

    shifted : IsStrictlyIncreasing (map (λ (p : PortNo). p.0) ports)
    shifted k low =
        let up : suc k + 1 ≡ suc (k + 1) = omega arith in
        subst (λ j. slice_index (map (λ (p : PortNo). p.0) ports) k < slice_index (map (λ (p : PortNo). p.0) (port ∷ ports)) j) up
        (rises (suc k) (omega (arith, low)))

mounts_outs : (node : NodeId) (below : ℕ) (ports : List PortNo) → Climbs below ports → Mounts (suc (suc below)) (map (λ port. Out node port) ports)
mounts_outs node below [] c = tt
mounts_outs node below (port ∷ ports) c = (omega (arith, c.0), mounts_outs node port.0 ports c.1)

first_port : (ports : List PortNo) → ArePorts ports → 0 < length ports → 0 < slice_index (map (λ (p : PortNo). p.0) ports) 0
first_port [] p some = absurd (omega (arith, some))
first_port (port ∷ ports) p some = (p.of_links 0 port (omega arith)).0

mounts_site : (number : ℕ) (site : Site) → IsShapedSite number site → Mounts 0 (places_of site)
mounts_site number site s = (
  omega arith,
  (
    omega arith,
    mounts_outs site.controller.node 0 (ports_of site.controller) (climbs 0 (ports_of site.controller) s.ports.ascending (first_port (ports_of site.controller) s.ports)),
  ),
)

any_counts : (test : Place → Bool) (ps : List Place) → list_any test ps ≡ true → 1 ≤ count_by test ps
any_counts test [] any = absurd (cc any)
any_counts test (p ∷ ps) any = elim (test p) as (λ t. test p ≡ t → (t || list_any test ps) ≡ true → 1 ≤ count_by test (p ∷ ps)) [
  | true ↦ λ e a. omega (arith, count_here test p ps e)
  | false ↦ λ e a. omega (arith, count_there test p ps e, any_counts test ps a)
] refl any

-- none is at another node
none_outs : (place : Place) (node : NodeId) (ports : List PortNo) → (place_node place).0 ≢ node.0
    → count_by (same_queue place) (map (λ port. Out node port) ports) ≡ 0
none_outs place node [] away = refl
none_outs place node (port ∷ ports) away =
    count_there (same_queue place) (Out node port) (map (λ port. Out node port) ports) (are_two place (Out node port) (inl away))
    ∙ none_outs place node ports away

none_at : (place : Place) (site : Site) → (place_node place).0 ≢ site.controller.node.0 → count_by (same_queue place) (places_of site) ≡ 0
none_at place site away =
    let outs = map (λ port. Out site.controller.node port) (ports_of site.controller) in
    count_there (same_queue place) (Down site.controller.node) (Up site.controller.node ∷ outs) (are_two place (Down site.controller.node) (inl away))
    ∙ count_there (same_queue place) (Up site.controller.node) outs (are_two place (Up site.controller.node) (inl away))
    ∙ none_outs place site.controller.node (ports_of site.controller) away

none_later : (place : Place) (number : ℕ) (sites : List Site) → AreShaped number sites → (place_node place).0 < number
    → count_by (same_queue place) (flat_map places_of sites) ≡ 0
none_later place number [] s low = refl
none_later place number (site ∷ sites) s low =
    ap (count_by (same_queue place)) (flat_map-cons places_of site sites)
    ∙ omega (
      arith,
      count_append (same_queue place) (places_of site) (flat_map places_of sites),
      none_at place site (λ e. omega (arith, e, s.0.node, low)),
      none_later place (suc number) sites s.1 (omega (arith, low)),
    )

-- a place of the world is one of its places once
once_in : (place : Place) (number : ℕ) (sites : List Site) → AreShaped number sites
    → IsPlaceOf place (at site_key (place_node place).0 sites) → count_by (same_queue place) (flat_map places_of sites) ≡ 1
once_in place number [] s is = absurd is
once_in place number (site ∷ sites) s is =
    ap (count_by (same_queue place)) (flat_map-cons places_of site sites)
    ∙ by_eq site.controller.node.0 (place_node place).0
    (λ here t. (
    let any : list_any (same_queue place) (places_of site) ≡ true =
    subst (λ (b : Bool). IsPlaceOf place (if b then Some site else at site_key (place_node place).0 sites)) t is in
    omega (
      arith,
      count_append (same_queue place) (places_of site) (flat_map places_of sites),
      any_counts (same_queue place) (places_of site) any,
      mounts_once place 0 (places_of site) (mounts_site number site s.0),
      none_later place (suc number) sites s.1 (omega (arith, here, s.0.node)),
    )))
    (λ away t. (
    let later : IsPlaceOf place (at site_key (place_node place).0 sites) =
    subst (λ (b : Bool). IsPlaceOf place (if b then Some site else at site_key (place_node place).0 sites)) t is in
    omega (
      arith,
      count_append (same_queue place) (places_of site) (flat_map places_of sites),
      none_at place site (λ e. away (sym e)),
      once_in place (suc number) sites s.1 later,
    )))

-- *A site is put in the place of another with the same places*
flat_put : (new old : Site) (sites : List Site) → at site_key (site_key new) sites ≡ Some old → places_of new ≡ places_of old
    → flat_map places_of (put site_key new sites) ≡ flat_map places_of sites
flat_put new old [] found same = refl
flat_put new old (site ∷ sites) found same = elim (nat_eq (site_key site) (site_key new)) as (λ t. (if t then Some site else at site_key (site_key new) sites) ≡ Some old
    → flat_map places_of (if t then new ∷ sites else site ∷ put site_key new sites) ≡ flat_map places_of (site ∷ sites)) [
      | true ↦ λ h. (let it : site ≡ old = cc in
          flat_map-cons places_of new sites ∙ ap (λ ps. ps ++ flat_map places_of sites) (same ∙ ap places_of (sym it)) ∙ sym (flat_map-cons places_of site sites))
      | false ↦ λ h. flat_map-cons places_of site (put site_key new sites) ∙ ap (λ ps. places_of site ++ ps) (flat_put new old sites h same) ∙ sym (flat_map-cons places_of site sites)
    ] found

shaped_put : (new old : Site) (number : ℕ) (sites : List Site) → at site_key (site_key new) sites ≡ Some old
    → ((number : ℕ) → IsShapedSite number old → IsShapedSite number new) → AreShaped number sites → AreShaped number (put site_key new sites)
shaped_put new old number [] found keeps s = tt
shaped_put new old number (site ∷ sites) found keeps s = elim (nat_eq (site_key site) (site_key new)) as (λ t. (if t then Some site else at site_key (site_key new) sites) ≡ Some old
    → AreShaped number (if t then new ∷ sites else site ∷ put site_key new sites)) [
      | true ↦ λ h. (let it : old ≡ site = cc in (keeps number (subst (IsShapedSite number) (sym it) s.0), s.1))
      | false ↦ λ h. (s.0, shaped_put new old (suc number) sites h keeps s.1)
    ] found

-- *Nothing but what waits in one queue is another*: that queue has the cells, all others have what they had, the
-- places are the same, and so is each sum over all queues but for this one
pub record Sets (old new : World) (place : Place) (cells : List Cell) : Type 0 where
  pub here : (other : Place) → (place_node place).0 ≡ (place_node other).0 → queue_number place ≡ queue_number other
      → queue_at new other ≡ cells
  pub away : (other : Place) → ((place_node place).0 ≢ (place_node other).0) ⊎ (queue_number place ≢ queue_number other)
      → queue_at new other ≡ queue_at old other
  pub order : places new ≡ places old
  pub shaped : IsShaped old → IsShaped new

module _ (w : World) (old new : Site) (found : at site_key (site_key new) w.sites ≡ Some old) where
  found_new : (number : ℕ) → site_key new ≡ number → at site_key number (put site_key new w.sites) ≡ Some new
  found_new number same = subst (λ j. at site_key j (put site_key new w.sites) ≡ Some new) same (at_put_same site_key new w.sites old found)

  found_old : (number : ℕ) → site_key new ≡ number → at site_key number w.sites ≡ Some old
  found_old number same = subst (λ j. at site_key j w.sites ≡ Some old) same found

  now_at : (place : Place) → site_key new ≡ (place_node place).0 → queue_at (with_site w new) place ≡ queue_in new place
  now_at place same = ap (λ (o : Option Site). option_map_or (λ site. queue_in site place) o []) (found_new (place_node place).0 same)

  then_at : (place : Place) → site_key new ≡ (place_node place).0 → queue_at w place ≡ queue_in old place
  then_at place same = ap (λ (o : Option Site). option_map_or (λ site. queue_in site place) o []) (found_old (place_node place).0 same)

  elsewhere : (place : Place) → site_key new ≢ (place_node place).0 → queue_at (with_site w new) place ≡ queue_at w place
  elsewhere place away = ap (λ (o : Option Site). option_map_or (λ site. queue_in site place) o []) (at_put_other site_key new (place_node place).0 w.sites away)

  -- its controller's queue alone is another
  pub sets_down : ports_of new.controller ≡ ports_of old.controller → new.controller.node ≡ old.controller.node
      → new.switch.crossbar.queues ≡ old.switch.crossbar.queues → Sets w (with_site w new) (Down new.controller.node) new.controller.queue
  sets_down ports node queues =
      record {
        here = here;
        away = λ other two. by_eq (site_key new) (place_node other).0 (λ same t. away other same two) (λ other_node t. elsewhere other other_node);
        order = flat_put new old w.sites found (places_same ports node);
        shaped = shaped_put new old 1 w.sites found (λ number s. record { node = ap (λ (n : NodeId). n.0) node ∙ s.node; queues = ap length queues ∙ s.queues; ports = subst ArePorts (sym ports) s.ports });
      }
    where
      places_same : ports_of new.controller ≡ ports_of old.controller → new.controller.node ≡ old.controller.node → places_of new ≡ places_of old
      places_same p n = ap₂ (λ (node : NodeId) (ports : List PortNo). Down node ∷ Up node ∷ map (λ port. Out node port) ports) n p

      here : (other : Place) → new.controller.node.0 ≡ (place_node other).0 → 0 ≡ queue_number other → queue_at (with_site w new) other ≡ new.controller.queue
      here (Down n) same number = now_at (Down n) same
      here (Up n) same number = absurd (omega (arith, number))
      here (Out n p) same number = absurd (omega (arith, number))

      away : (other : Place) → site_key new ≡ (place_node other).0 → (new.controller.node.0 ≢ (place_node other).0) ⊎ (0 ≢ queue_number other)
          → queue_at (with_site w new) other ≡ queue_at w other
      away other same (inl apart) = absurd (apart same)
      away (Down n) same (inr apart) = absurd (apart refl)
      away (Up n) same (inr apart) = now_at (Up n) same ∙ ap (λ (qs : List (List Cell)). slice_index_or qs 0 []) queues ∙ sym (then_at (Up n) same)
      away (Out n p) same (inr apart) = now_at (Out n p) same ∙ ap (λ (qs : List (List Cell)). slice_index_or qs p.0 []) queues ∙ sym (then_at (Out n p) same)

  -- one queue of its switch alone is another
  pub sets_out : (place : Place) (port : ℕ) (cells : List Cell) → (place_node place).0 ≡ site_key new → queue_number place ≡ suc port
      → ports_of new.controller ≡ ports_of old.controller → new.controller.node ≡ old.controller.node → new.controller.queue ≡ old.controller.queue
      → new.switch.crossbar.queues ≡ slice_set old.switch.crossbar.queues port cells → port < length old.switch.crossbar.queues
      → Sets w (with_site w new) place cells
  sets_out place port cells of_node of_port ports node queue queues low =
      record {
        here = λ other same number. here other (sym of_node ∙ same) (sym of_port ∙ number);
        away = λ other two. by_eq (site_key new) (place_node other).0 (λ same t. away other same (apart_by other same two)) (λ other_node t. elsewhere other other_node);
        order = flat_put new old w.sites found (places_same ports node);
        shaped = shaped_put new old 1 w.sites found (λ number s. record { node = ap (λ (n : NodeId). n.0) node ∙ s.node; queues = ap length queues ∙ length_set old.switch.crossbar.queues port cells ∙ s.queues; ports = subst ArePorts (sym ports) s.ports });
      }
    where
      places_same : ports_of new.controller ≡ ports_of old.controller → new.controller.node ≡ old.controller.node → places_of new ≡ places_of old
      places_same p n = ap₂ (λ (node : NodeId) (ports : List PortNo). Down node ∷ Up node ∷ map (λ port. Out node port) ports) n p

      set_at : (r : ℕ) → port ≡ r → slice_index_or new.switch.crossbar.queues r [] ≡ cells
      set_at r same = ap (λ (qs : List (List Cell)). slice_index_or qs r []) queues
          ∙ subst (λ j. slice_index_or (slice_set old.switch.crossbar.queues port cells) j [] ≡ cells) same (index_here old.switch.crossbar.queues port cells [] low)

      kept_at : (r : ℕ) → port ≢ r → slice_index_or new.switch.crossbar.queues r [] ≡ slice_index_or old.switch.crossbar.queues r []
      kept_at r apart = ap (λ (qs : List (List Cell)). slice_index_or qs r []) queues ∙ index_set old.switch.crossbar.queues port r cells [] apart

      here : (other : Place) → site_key new ≡ (place_node other).0 → suc port ≡ queue_number other → queue_at (with_site w new) other ≡ cells
      here (Down n) same number = absurd (omega (arith, number))
      here (Up n) same number = now_at (Up n) same ∙ set_at 0 (omega (arith, number))
      here (Out n p) same number = now_at (Out n p) same ∙ set_at p.0 (omega (arith, number))

      apart_by : (other : Place) → site_key new ≡ (place_node other).0 → ((place_node place).0 ≢ (place_node other).0) ⊎ (queue_number place ≢ queue_number other)
          → suc port ≢ queue_number other
      apart_by other same (inl apart) = absurd (apart (of_node ∙ same))
      apart_by other same (inr apart) = λ e. apart (of_port ∙ e)

      away : (other : Place) → site_key new ≡ (place_node other).0 → suc port ≢ queue_number other → queue_at (with_site w new) other ≡ queue_at w other
      away (Down n) same apart = now_at (Down n) same ∙ queue ∙ sym (then_at (Down n) same)
      away (Up n) same apart = now_at (Up n) same ∙ kept_at 0 (λ e. apart (ap suc e)) ∙ sym (then_at (Up n) same)
      away (Out n p) same apart = now_at (Out n p) same ∙ kept_at p.0 (λ e. apart (ap suc e)) ∙ sym (then_at (Out n p) same)

-- *The sum over all places*: one queue counts otherwise
pub weighs : (f : List Cell → ℕ) (old new : World) (place : Place) (cells : List Cell) → IsShaped old → IsPlaceIn old place → Sets old new place cells
    → sum_by (λ p. f (queue_at new p)) (places new) + f (queue_at old place) ≡ sum_by (λ p. f (queue_at old p)) (places old) + f cells
weighs f old new place cells shaped is s =
    ap (λ ps. sum_by (λ p. f (queue_at new p)) ps + f (queue_at old place)) s.order
    ∙ sum_once (same_queue place) (λ p. f (queue_at old p)) (λ p. f (queue_at new p))
    (λ other t. by_queue place other (λ node number e. absurd (true≢false (sym e ∙ t))) (λ two e. ap f (s.away other two)))
    (f (queue_at old place)) (f cells)
    (λ other t. by_queue place other (λ node number e. ap f (one_queue other node number)) (λ two e. absurd (true≢false (sym t ∙ e))))
    (λ other t. by_queue place other (λ node number e. ap f (s.here other node number)) (λ two e. absurd (true≢false (sym t ∙ e))))
    (places old) (once_in place 1 old.sites shaped is)
  where
    one_queue : (other : Place) → (place_node place).0 ≡ (place_node other).0 → queue_number place ≡ queue_number other → queue_at old other ≡ queue_at old place
    one_queue other node number = sym (same_at place other node number)
      where
        in_site : (site : Site) (p q : Place) → queue_number p ≡ queue_number q → queue_in site p ≡ queue_in site q
        in_site site (Down m) (Down n) e = refl
        in_site site (Down m) (Up n) e = absurd (omega (arith, e))
        in_site site (Down m) (Out n r) e = absurd (omega (arith, e))
        in_site site (Up m) (Down n) e = absurd (omega (arith, e))
        in_site site (Up m) (Up n) e = refl
        in_site site (Up m) (Out n r) e = (let z : 0 ≡ r.0 = omega (arith, e) in ap (λ (i : ℕ). slice_index_or site.switch.crossbar.queues i []) z)
        in_site site (Out m r) (Down n) e = absurd (omega (arith, e))
        in_site site (Out m r) (Up n) e = (let z : r.0 ≡ 0 = omega (arith, e) in ap (λ (i : ℕ). slice_index_or site.switch.crossbar.queues i []) z)
        in_site site (Out m r) (Out n v) e = (let z : r.0 ≡ v.0 = omega (arith, e) in ap (λ (i : ℕ). slice_index_or site.switch.crossbar.queues i []) z)

        found_same : (p q : Place) (o : Option Site) → queue_number p ≡ queue_number q
            → option_map_or (λ site. queue_in site p) o [] ≡ option_map_or (λ site. queue_in site q) o []
        found_same p q None e = refl
        found_same p q (Some site) e = in_site site p q e

        same_at : (p q : Place) → (place_node p).0 ≡ (place_node q).0 → queue_number p ≡ queue_number q → queue_at old p ≡ queue_at old q
        same_at p q node number = ap (λ (k : ℕ). option_map_or (λ site. queue_in site p) (at site_key k old.sites) []) node
            ∙ found_same p q (at site_key (place_node q).0 old.sites) number

queues_of : (number : ℕ) (sites : List Site) (k : ℕ) (site : Site) → AreShaped number sites → at site_key k sites ≡ Some site
    → length site.switch.crossbar.queues ≡ 9
queues_of number [] k site s e = absurd (cc e)
queues_of number (z ∷ sites) k site s e = elim (nat_eq (site_key z) k) as (λ t. (if t then Some z else at site_key k sites) ≡ Some site
    → length site.switch.crossbar.queues ≡ 9) [
      | true ↦ λ h. (let it : z ≡ site = cc in subst (λ (x : Site). length x.switch.crossbar.queues ≡ 9) it s.0.queues)
      | false ↦ λ h. queues_of (suc number) sites k site s.1 h
    ] e

-- a queue that two places name
same_node : {old new : World} {cells : List Cell} (one other : Place) → (place_node one).0 ≡ (place_node other).0 → queue_number one ≡ queue_number other
    → Sets old new one cells → Sets old new other cells
same_node one other node number s = record {
  here = λ place n q. s.here place (node ∙ n) (number ∙ q);
  away = λ place two. s.away place (moved place two);
  order = s.order;
  shaped = s.shaped;
}
  where
    moved : (place : Place) → ((place_node other).0 ≢ (place_node place).0) ⊎ (queue_number other ≢ queue_number place)
        → ((place_node one).0 ≢ (place_node place).0) ⊎ (queue_number one ≢ queue_number place)
    moved place (inl apart) = inl (λ e. apart (sym node ∙ e))
    moved place (inr apart) = inr (λ e. apart (sym number ∙ e))

-- *The setter sets*: a queue of the world
pub set_queue : (w : World) (place : Place) (site : Site) (cells : List Cell) → IsShaped w → site_at w (place_node place) ≡ Some site
    → queue_number place ≤ 9 → Sets w (with_queue w place cells) place cells
set_queue w place site cells shaped found low =
    subst (λ (o : Option Site). Sets w (with_queue_of w place cells o) place cells) (sym found) (put_queue place found low)
  where
    key_is : (n : NodeId) → at site_key n.0 w.sites ≡ Some site → site_key site ≡ n.0
    key_is n e = at_key site_key n.0 w.sites site e

    own_key : (n : NodeId) → at site_key n.0 w.sites ≡ Some site → at site_key (site_key site) w.sites ≡ Some site
    own_key n e = subst (λ j. at site_key j w.sites ≡ Some site) (sym (key_is n e)) e

    nine : length site.switch.crossbar.queues ≡ 9
    nine = queues_of 1 w.sites (place_node place).0 site shaped found

    put_queue : (place : Place) → at site_key (place_node place).0 w.sites ≡ Some site → queue_number place ≤ 9
        → Sets w (with_site w (with_queue_in site place cells)) place cells
    put_queue (Down n) e low = same_node (Down site.controller.node) (Down n) (key_is n e) refl
        (sets_down w site (with_queue_in site (Down n) cells) (own_key n e) refl refl refl)
    put_queue (Up n) e low = sets_out w site (with_queue_in site (Up n) cells) (own_key n e) (Up n) 0 cells (sym (key_is n e)) refl refl refl refl refl (omega (arith, nine))
    put_queue (Out n p) e low = sets_out w site (with_queue_in site (Out n p) cells) (own_key n e) (Out n p) p.0 cells (sym (key_is n e)) refl refl refl refl refl (omega (arith, nine, low))
