-- a network that passed over empty queues

use Rattle.std.proofs.Common.{◌≡◌, ℕ, ◌+◌, ◌-◌, ◌≤◌, List, [], ◌∷◌, ◌++◌, append-nil, drop, length, slice_get, take, Option, None, Some, refl, sym, ◌∙◌, ap, subst, arith}
use Rattle.lab_io.specs.Report.{IsPut, Writer}
use Rattle.net_types.specs.declared.node.Place.{Place}
use Rattle.world_model.specs.network_model.declared.event.Event.{Event}
use Rattle.world_model.specs.Controller.{Controller}
use Rattle.world_model.specs.Places.{places}
use Rattle.world_model.specs.Run.{put_away, round, world_after}
use Rattle.world_model.specs.Topology.{Topology}
use Rattle.world_model.specs.World.{Site, World}
use Rattle.telling_model.specs.Placed.{placed_events}
use Rattle.telling_model.specs.Tale.{Tale, told}
use Rattle.world.specs.declared.counts.Meter.{Meter}
use Rattle.world.specs.declared.world.World.{World as Network}
use Rattle.world.specs.Counted.{reading_of}
use Rattle.world.specs.Network.{sites_of}
use Rattle.world.specs.Waiting.{IsEmptyIn, IsFirstHolding}
use Rattle.world.proofs.Starts.{by_less}
use Rattle.network_run.specs.Empty.{PassesOverEmptyQueues}
use Rattle.network_run.specs.Telling.{meter_behind}
use Rattle.network_run.proofs.Empty.{AreEmptyCarries, cells_at, empty_turns, over_meter, over_octets, over_state, over_world, take_more, taken_length}
use Rattle.network_run.proofs.Turns.{all_taken}

-- *The queues of a round*, from this place up to that one
pub empty_between : {C : Type 0} (seen : C → Controller) (n : Network C) (first : World) (sites : List Site) (i end : ℕ) → n.round.items ≡ places first → sites_of seen n.sites.items ≡ sites → i ≤ end
    → IsEmptyIn seen n i end → AreEmptyCarries sites (take (end - i) (drop i (round first)))
empty_between seen n first sites i end queues same low h = empty_turns sites (places first) i (end - i) (λ k place from below e.
    ap (λ (ss : List Site). cells_at ss place) (sym same) ∙ h k place from (omega (arith, below, low)) (ap (λ (ps : List Place). slice_get ps k) queues ∙ e))

-- all of them
pub empty_round : {C : Type 0} (seen : C → Controller) (n : Network C) (first : World) (sites : List Site) → n.round.items ≡ places first → sites_of seen n.sites.items ≡ sites
    → IsEmptyIn seen n 0 (length n.round.items) → length (round first) ≡ length n.round.items → AreEmptyCarries sites (round first)
empty_round seen n first sites queues same h size =
    let whole : take (length n.round.items - 0) (round first) ≡ round first = ap (λ (k : ℕ). take k (round first)) (omega (arith, size)) ∙ all_taken (round first) in
    subst (AreEmptyCarries sites) whole (empty_between seen n first sites 0 (length n.round.items) queues same (omega arith) h)

-- none was found
pub none_holding : {C : Type 0} (seen : C → Controller) (n : Network C) (from end : ℕ) (found : Option ℕ) → IsFirstHolding seen n from end found → ((i : ℕ) → found ≡ Some i → ⊥) → IsEmptyIn seen n from end
none_holding seen n from end None h none = h
none_holding seen n from end (Some i) h none = absurd (none i refl)

no_more : (events : List Event) → length events ≡ 0 → events ≡ []
no_more [] e = cc
no_more (event ∷ events) e = absurd (omega (arith, e))

-- *What was passed over* behind other events
module _ (t : Topology) (first w v : World) (some others whole : List Event) (count : ℕ) (all : some ++ others ≡ whole) (long : length others ≡ count)
    (same : w ≡ put_away (world_after t first some)) (empty : AreEmptyCarries w.sites others) (over : v ≡ record w { events = w.events + count }) where
  counted : v ≡ record w { events = w.events + length others }
  counted = over ∙ ap (λ (k : ℕ). record w { events = w.events + k }) (sym long)

  pub passed_world : v ≡ put_away (world_after t first whole)
  passed_world = counted ∙ over_world t first w some others same empty ∙ ap (λ (es : List Event). put_away (world_after t first es)) all

  pub passed_meter : (before held meter : Meter) → held ≡ meter_behind before t first some → (1 ≤ count → meter ≡ reading_of v) → (count ≡ 0 → meter ≡ held) → meter ≡ meter_behind before t first whole
  passed_meter before held meter was more none = by_less 0 count
      (λ h. over_meter t first w some others same empty before meter (omega (arith, h, long)) (more (omega (arith, h)) ∙ ap reading_of counted) ∙ ap (meter_behind before t first) all)
      (λ h. (let nil : others ≡ [] = no_more others (omega (arith, h, long)) in
      let stays : some ≡ whole = sym (append-nil some) ∙ ap (λ (es : List Event). some ++ es) (sym nil) ∙ all in
      none (omega (arith, h)) ∙ was ∙ ap (meter_behind before t first) stays))

  module _ {S : Type 0} (tale : Tale S) (passes : PassesOverEmptyQueues tale) (state : S) (line : ℕ) where
    pub passed_put : (a b : Writer) (x y : Option (List ℕ)) → IsPut a b x y (told tale state t first (placed_events line some)).octets → IsPut a b x y (told tale state t first (placed_events line whole)).octets
    passed_put a b x y p = subst (IsPut a b x y) (over_octets t first w some others same empty tale passes state line ∙ ap (λ (es : List Event). (told tale state t first (placed_events line es)).octets) all) p

    pub passed_state : (known : S) → known ≡ (told tale state t first (placed_events line some)).state → known ≡ (told tale state t first (placed_events line whole)).state
    passed_state known is = is ∙ over_state t first w some others same empty tale passes state line ∙ ap (λ (es : List Event). (told tale state t first (placed_events line es)).state) all

-- *So far*: behind the first so many events of a round
pub record IsAt {S : Type 0} (tale : Tale S) (state : S) (line : ℕ) (t : Topology) (first : World) (before : Meter) (a : Writer) (x : Option (List ℕ)) (i : ℕ)
    (w : World) (known : S) (meter : Meter) (b : Writer) (y : Option (List ℕ)) : Type 0 where
  pub world : w ≡ put_away (world_after t first (take i (round first)))
  pub put : IsPut a b x y (told tale state t first (placed_events line (take i (round first)))).octets
  pub knows : known ≡ (told tale state t first (placed_events line (take i (round first)))).state
  pub meter_is : meter ≡ meter_behind before t first (take i (round first))

module _ {C S : Type 0} (seen : C → Controller) (tale : Tale S) (passes : PassesOverEmptyQueues tale) (state : S) (line : ℕ) (t : Topology) (first : World) (before : Meter)
    (a : Writer) (x : Option (List ℕ)) where
  -- the queues from a place up to another were passed over
  pub at_later : (n : Network C) (i end : ℕ) (w v : World) (known : S) (held meter : Meter) (b : Writer) (y : Option (List ℕ)) → IsAt tale state line t first before a x i w known held b y
      → n.round.items ≡ places first → sites_of seen n.sites.items ≡ w.sites → i ≤ end → end ≤ length (round first) → IsEmptyIn seen n i end
      → v ≡ record w { events = w.events + (end - i) } → (1 ≤ end - i → meter ≡ reading_of v) → (end - i ≡ 0 → meter ≡ held)
      → IsAt tale state line t first before a x end v known meter b y
  at_later n i end w v known held meter b y h queues sites low high empties over more none =
      let events : List Event = round first in
      let others : List Event = take (end - i) (drop i events) in
      let all : take i events ++ others ≡ take end events = take_more events i (end - i) end (omega (arith, low)) in
      let long : length others ≡ end - i = taken_length events i (end - i) (omega (arith, low, high)) in
      let empty : AreEmptyCarries w.sites others = empty_between seen n first w.sites i end queues sites low empties in
      record {
        world = passed_world t first w v (take i events) others (take end events) (end - i) all long h.world empty over;
        put = passed_put t first w v (take i events) others (take end events) (end - i) all long h.world empty over tale passes state line a b x y h.put;
        knows = passed_state t first w v (take i events) others (take end events) (end - i) all long h.world empty over tale passes state line known h.knows;
        meter_is = passed_meter t first w v (take i events) others (take end events) (end - i) all long h.world empty over before held meter h.meter_is more none;
      }
