-- what a carry of an empty queue takes, puts and makes, and what many of them come to

use Rattle.std.proofs.Common.{◌≡◌, ℕ, zero, suc, ◌+◌, ◌≤◌, List, [], ◌∷◌, ◌++◌, append-nil, drop, flat_map, length, map, slice_get, slice_index_or, take, Option, None, Some, refl, sym, ◌∙◌, ap, subst, arith, if◌then◌else◌}
use Rattle.std.specs.Prelude.{◌<◌, ◌&&◌, nat_eq}
use Rattle.std.specs.List.{repeat}
use Rattle.std.specs.Option.{option_map, option_map_or}
use Rattle.std.proofs.lemmas.List.Concat.{flat_map-cons}
use Rattle.net_types.specs.declared.node.Place.{Place}
use Rattle.net_types.specs.declared.node.Place.TheVariants.{Down, Up, Out}
use Rattle.atm_cells.specs.declared.cell.Cell.{Cell}
use Rattle.world_model.specs.network_model.declared.event.Event.{Event}
use Rattle.world_model.specs.network_model.declared.event.Event.TheVariants.{Inject, Carry, Lose, Tick, TickSwitch, Restart, RestartSwitch, Forge, Route}
use Rattle.world_model.specs.Places.{place_node, queue_at, queue_in, queue_number, places}
use Rattle.world_model.specs.Run.{next, put_away, world_after}
use Rattle.world_model.specs.Topology.{Topology}
use Rattle.world_model.specs.World.{World, Site, site_key}
use Rattle.keyed_lists.specs.Keyed.{at}
use Rattle.world_model.proofs.Lists.{by_eq}
use Rattle.telling_model.specs.Passing.{left_from, frames_made, cells_put, cells_put_at, standing, cell_taken}
use Rattle.telling_model.specs.Placed.{placed, placed_events}
use Rattle.telling_model.specs.Tale.{Tale, Telling, after, told}
use Rattle.telling_model.proofs.Told.{line_octets, line_state}
use Rattle.world.specs.declared.counts.Meter.{Meter}
use Rattle.world.specs.Counted.{reading_of}
use Rattle.world.proofs.Empty.{empty_carry}
use Rattle.network_run.specs.Empty.{PassesOverEmptyQueues}
use Rattle.network_run.specs.Telling.{meter_behind}
use Rattle.network_run.proofs.Repeated.{world_then}
use Rattle.network_run.proofs.Turns.{behind_some}

-- *One carry*
abbrev pub counted : World → World
counted w = record (put_away w) { events = w.events + 1 }

pub next_empty : (t : Topology) (w : World) (place : Place) → queue_at w place ≡ [] → next t w (Carry place) ≡ counted w
next_empty t w place e = empty_carry t (put_away w) place e

pub taken_none : (w : World) (place : Place) → queue_at w place ≡ [] → cell_taken w (Carry place) ≡ None
taken_none w place e = ap (λ (cells : List Cell). option_map (standing place) (slice_get cells 0)) e

drop_whole : {A : Type 0} (xs : List A) → drop (length xs) xs ≡ []
drop_whole [] = refl
drop_whole (x ∷ xs) = drop_whole xs

pub made_none : (t : Topology) (w : World) (place : Place) → queue_at w place ≡ [] → frames_made t w (Carry place) ≡ []
made_none t w place e = ap (λ (v : World). drop (length w.notes.frames) v.notes.frames) (next_empty t w place e) ∙ drop_whole w.notes.frames

-- two places of one queue
one_queue : (site : Site) (one other : Place) → queue_number one ≡ queue_number other → queue_in site other ≡ queue_in site one
one_queue site (Down a) (Down b) e = refl
one_queue site (Down a) (Up b) e = absurd (omega (arith, e))
one_queue site (Down a) (Out b port) e = absurd (omega (arith, e))
one_queue site (Up a) (Down b) e = absurd (omega (arith, e))
one_queue site (Up a) (Up b) e = refl
one_queue site (Up a) (Out b port) e = (let is : port.0 ≡ 0 = omega (arith, e) in ap (λ (k : ℕ). slice_index_or site.switch.crossbar.queues k []) is)
one_queue site (Out a port) (Down b) e = absurd (omega (arith, e))
one_queue site (Out a port) (Up b) e = (let is : 0 ≡ port.0 = omega (arith, e) in ap (λ (k : ℕ). slice_index_or site.switch.crossbar.queues k []) is)
one_queue site (Out a port) (Out b far) e = (let is : far.0 ≡ port.0 = omega (arith, e) in ap (λ (k : ℕ). slice_index_or site.switch.crossbar.queues k []) is)

same_sites : (sites : List Site) (one other : Place) → (place_node one).0 ≡ (place_node other).0 → queue_number one ≡ queue_number other
    → option_map_or (λ (site : Site). queue_in site other) (at site_key (place_node other).0 sites) [] ≡ option_map_or (λ (site : Site). queue_in site one) (at site_key (place_node one).0 sites) []
same_sites sites one other node number =
    ap (λ (k : ℕ). option_map_or (λ (site : Site). queue_in site other) (at site_key k sites) []) (sym node)
    ∙ by_site (at site_key (place_node one).0 sites)
  where
    by_site : (o : Option Site) → option_map_or (λ (site : Site). queue_in site other) o [] ≡ option_map_or (λ (site : Site). queue_in site one) o []
    by_site None = refl
    by_site (Some site) = one_queue site one other number

-- what is put in a queue
behind_none : (w : World) (source place : Place) → queue_at w source ≡ [] → drop (length (left_from w (Some source) place)) (queue_at w place) ≡ []
behind_none w source place e =
    by_eq (place_node source).0 (place_node place).0
    (λ node t. by_eq (queue_number source) (queue_number place)
    (λ number u. (let none : queue_at w place ≡ [] = same_sites w.sites source place node number ∙ e in
    (λ i. drop (length (if (t i) && (u i) then drop 1 (queue_at w place) else queue_at w place)) (queue_at w place)) ∙ ap (λ (cells : List Cell). drop (length (drop 1 cells)) cells) none))
    (λ away u. (λ i. drop (length (if (t i) && (u i) then drop 1 (queue_at w place) else queue_at w place)) (queue_at w place)) ∙ drop_whole (queue_at w place)))
    (λ away t. (λ i. drop (length (if (t i) && (nat_eq (queue_number source) (queue_number place)) then drop 1 (queue_at w place) else queue_at w place)) (queue_at w place)) ∙ drop_whole (queue_at w place))

put_at_none : (t : Topology) (w : World) (source place : Place) → queue_at w source ≡ [] → cells_put_at t w (Carry source) place ≡ []
put_at_none t w source place e =
    ap (λ (v : World). drop (length (left_from w (Some source) place)) (queue_at v place)) (next_empty t w source e) ∙ behind_none w source place e

put_each : (t : Topology) (w : World) (source : Place) (ps : List Place) → queue_at w source ≡ [] → flat_map (λ place. map (standing place) (cells_put_at t w (Carry source) place)) ps ≡ []
put_each t w source [] e = refl
put_each t w source (p ∷ ps) e =
    flat_map-cons (λ place. map (standing place) (cells_put_at t w (Carry source) place)) p ps
    ∙ ap (λ (cells : List Cell). map (standing p) cells ++ flat_map (λ place. map (standing place) (cells_put_at t w (Carry source) place)) ps) (put_at_none t w source p e)
    ∙ put_each t w source ps e

pub put_none : (t : Topology) (w : World) (place : Place) → queue_at w place ≡ [] → cells_put t w (Carry place) ≡ []
put_none t w place e = put_each t w place (places w) e

-- *Many of them*, in a world of these nodes
abbrev pub cells_at : List Site → Place → List Cell
cells_at sites place = option_map_or (λ (site : Site). queue_in site place) (at site_key (place_node place).0 sites) []

abbrev pub IsEmptyCarry : List Site → Event → Type 0
IsEmptyCarry sites (Carry place) = cells_at sites place ≡ []
IsEmptyCarry sites event = ⊥

abbrev pub AreEmptyCarries : List Site → List Event → Type 0
AreEmptyCarries sites [] = Unit {0}
AreEmptyCarries sites (event ∷ events) = IsEmptyCarry sites event × AreEmptyCarries sites events

pub empty_both : (sites : List Site) (some others : List Event) → AreEmptyCarries sites some → AreEmptyCarries sites others → AreEmptyCarries sites (some ++ others)
empty_both sites [] others h k = k
empty_both sites (event ∷ some) others h k = (h.0, empty_both sites some others h.1 k)

pub empty_repeated : (sites : List Site) (count : ℕ) (events : List Event) → AreEmptyCarries sites events → AreEmptyCarries sites (repeat count events)
empty_repeated sites zero events h = tt
empty_repeated sites (suc count) events h = empty_both sites events (repeat count events) h (empty_repeated sites count events h)

-- so many queues of a round, from this place on
pub empty_turns : (sites : List Site) (ps : List Place) (i count : ℕ) → ((k : ℕ) (place : Place) → i ≤ k → k < i + count → slice_get ps k ≡ Some place → cells_at sites place ≡ [])
    → AreEmptyCarries sites (take count (drop i (map Carry ps)))
empty_turns sites [] zero zero h = tt
empty_turns sites [] zero (suc count) h = tt
empty_turns sites [] (suc i) zero h = tt
empty_turns sites [] (suc i) (suc count) h = tt
empty_turns sites (p ∷ ps) zero zero h = tt
empty_turns sites (p ∷ ps) zero (suc count) h =
    (h 0 p (omega arith) (omega arith) refl, empty_turns sites ps 0 count (λ k place low high e. h (suc k) place (omega arith) (omega (arith, high)) e))
empty_turns sites (p ∷ ps) (suc i) count h = empty_turns sites ps i count (λ k place low high e. h (suc k) place (omega (arith, low)) (omega (arith, high)) e)

pub take_more : (events : List Event) (i count end : ℕ) → end ≡ i + count → take i events ++ take count (drop i events) ≡ take end events
take_more events zero count end e = ap (λ (k : ℕ). take k events) (omega (arith, e))
take_more [] (suc i) zero end e = ends_none end
  where
    ends_none : (k : ℕ) → [] ≡ take {A = Event} k []
    ends_none zero = refl
    ends_none (suc k) = refl
take_more [] (suc i) (suc count) end e = ends_none end
  where
    ends_none : (k : ℕ) → [] ≡ take {A = Event} k []
    ends_none zero = refl
    ends_none (suc k) = refl
take_more (event ∷ events) (suc i) count zero e = absurd (omega (arith, e))
take_more (event ∷ events) (suc i) count (suc end) e = ap (λ (es : List Event). event ∷ es) (take_more events i count end (omega (arith, e)))

pub taken_length : (events : List Event) (i count : ℕ) → i + count ≤ length events → length (take count (drop i events)) ≡ count
taken_length events zero zero h = refl
taken_length [] zero (suc count) h = absurd (omega (arith, h))
taken_length (event ∷ events) zero (suc count) h = ap suc (taken_length events 0 count (omega (arith, h)))
taken_length [] (suc i) zero h = refl
taken_length [] (suc i) (suc count) h = absurd (omega (arith, h))
taken_length (event ∷ events) (suc i) count h = taken_length events i count (omega (arith, h))

-- what they come to
pub world_over : (t : Topology) (w : World) (events : List Event) → AreEmptyCarries w.sites events → put_away (world_after t w events) ≡ record (put_away w) { events = w.events + length events }
world_over t w [] h = ap (λ (k : ℕ). record (put_away w) { events = k }) (omega arith)
world_over t w (Carry place ∷ events) h =
    (let more : (w.events + 1) + length events ≡ w.events + suc (length events) = omega arith in
    ap (λ (v : World). put_away (world_after t v events)) (next_empty t w place h.0) ∙ world_over t (counted w) events h.1 ∙ ap (λ (k : ℕ). record (put_away w) { events = k }) more)
world_over t w (Inject node octets ∷ events) h = absurd h.0
world_over t w (Lose place ∷ events) h = absurd h.0
world_over t w (Tick node ∷ events) h = absurd h.0
world_over t w (TickSwitch node ∷ events) h = absurd h.0
world_over t w (Restart node ∷ events) h = absurd h.0
world_over t w (RestartSwitch node ∷ events) h = absurd h.0
world_over t w (Forge place channel payload ∷ events) h = absurd h.0
world_over t w (Route node change ∷ events) h = absurd h.0

module _ {S : Type 0} (tale : Tale S) (passes : PassesOverEmptyQueues tale) (line : ℕ) (t : Topology) where
  pub told_over : (known : S) (w : World) (events : List Event) → AreEmptyCarries w.sites events → told tale known t w (placed_events line events) ≡ record { octets = []; state = known }
  told_over known w [] h = refl
  told_over known w (Carry place ∷ events) h =
      let one : tale.tells known t (put_away w) (placed line (Carry place)) ≡ record { octets = []; state = known } = passes known t (put_away w) line place h.0 in
      let on : next t w (Carry place) ≡ counted w = next_empty t w place h.0 in
      (λ i. after (one i) (told tale (one i).state t (on i) (placed_events line events)))
      ∙ ap (λ (rest : Telling S). after (record { octets = []; state = known }) rest) (told_over known (counted w) events h.1)
  told_over known w (Inject node octets ∷ events) h = absurd h.0
  told_over known w (Lose place ∷ events) h = absurd h.0
  told_over known w (Tick node ∷ events) h = absurd h.0
  told_over known w (TickSwitch node ∷ events) h = absurd h.0
  told_over known w (Restart node ∷ events) h = absurd h.0
  told_over known w (RestartSwitch node ∷ events) h = absurd h.0
  told_over known w (Forge place channel payload ∷ events) h = absurd h.0
  told_over known w (Route node change ∷ events) h = absurd h.0

-- *Behind other events*
module _ (t : Topology) (first w : World) (some others : List Event) (same : w ≡ put_away (world_after t first some)) (empty : AreEmptyCarries w.sites others) where
  away : put_away w ≡ w
  away = ap put_away same ∙ sym same

  pub over_world : record w { events = w.events + length others } ≡ put_away (world_after t first (some ++ others))
  over_world = world_then t first w (record w { events = w.events + length others }) some others same
      (ap (λ (v : World). record v { events = w.events + length others }) (sym away) ∙ sym (world_over t w others empty))

  pub over_meter : (before meter : Meter) → 0 < length others → meter ≡ reading_of (record w { events = w.events + length others }) → meter ≡ meter_behind before t first (some ++ others)
  over_meter before meter more is = is ∙ ap reading_of over_world ∙ sym (behind_some before t first (some ++ others) (longer some others more))
    where
      longer : (xs ys : List Event) → 0 < length ys → 0 < length (xs ++ ys)
      longer [] ys h = h
      longer (x ∷ xs) ys h = omega arith

  reached : AreEmptyCarries (world_after t first some).sites others
  reached = subst (λ (v : World). AreEmptyCarries v.sites others) same empty

  module _ {S : Type 0} (tale : Tale S) (passes : PassesOverEmptyQueues tale) (state : S) (line : ℕ) where
    there : told tale (told tale state t first (placed_events line some)).state t (world_after t first some) (placed_events line others)
        ≡ record { octets = []; state = (told tale state t first (placed_events line some)).state }
    there = told_over tale passes line t (told tale state t first (placed_events line some)).state (world_after t first some) others reached

    pub over_octets : (told tale state t first (placed_events line some)).octets ≡ (told tale state t first (placed_events line (some ++ others))).octets
    over_octets = sym (line_octets tale t line state first some others
        ∙ ap (λ (rest : Telling S). (told tale state t first (placed_events line some)).octets ++ rest.octets) there ∙ append-nil (told tale state t first (placed_events line some)).octets)

    pub over_state : (told tale state t first (placed_events line some)).state ≡ (told tale state t first (placed_events line (some ++ others))).state
    over_state = sym (line_state tale t line state first some others ∙ ap (λ (rest : Telling S). rest.state) there)
