-- what is told of some events and those behind them, and the queues of a round

use Rattle.std.proofs.Common.{◌≡◌, ℕ, zero, suc, ◌+◌, ◌≤◌, List, [], ◌∷◌, ◌++◌, drop, length, map, slice_get, take, Some, refl, sym, ◌∙◌, ap, subst, arith}
use Rattle.net_types.specs.declared.node.Place.{Place}
use Rattle.world_model.specs.network_model.declared.event.Event.{Event}
use Rattle.world_model.specs.Conditions.{IsPlace}
use Rattle.world_model.specs.Run.{next, world_after}
use Rattle.world_model.specs.Topology.{Topology}
use Rattle.world_model.specs.World.{World}
use Rattle.telling_model.specs.Placed.{placed, placed_events}
use Rattle.telling_model.specs.Tale.{Tale, Telling, told}
use Rattle.telling_model.proofs.Told.{after_append, line_octets, line_state}
use Rattle.std.specs.Prelude.{Option, Result}
use Rattle.std.specs.Result.{IsErrAnd}
use Rattle.lab_io.specs.Report.{IsPut, Writer}
use Rattle.lab_io.specs.declared.stop.Stop.{Stop}
use Rattle.lab_io.specs.Puts.{Puts, StopsIn}
use Rattle.network_run.specs.Telling.{IsMeterIn, meter_behind}
use Rattle.lab_io.proofs.Stops.{put_then, stops_at}
use Rattle.std.specs.Prelude.{◌⊎◌, ◌<◌}
use Rattle.std.proofs.Common.{inl, inr}
use Rattle.std.proofs.lemmas.Option.{slice_get_within}
use Rattle.world_model.specs.network_model.declared.event.Event.TheVariants.{Carry}
use Rattle.world_model.specs.Conditions.{CanCome, IsEvent}
use Rattle.world_model.specs.Limits.{event_limit}
use Rattle.world_model.specs.Places.{places}
use Rattle.world_model.specs.Run.{put_away, round}
use Rattle.world.specs.declared.counts.Meter.{Meter}
use Rattle.world.specs.Counted.{reading_of}

-- *Events*, some and those behind them
append_nil : (xs : List ℕ) → xs ++ [] ≡ xs
append_nil [] = refl
append_nil (x ∷ xs) = ap (λ ys. x ∷ ys) (append_nil xs)

take_push : (events : List Event) (i : ℕ) (event : Event) → slice_get events i ≡ Some event → take (suc i) events ≡ take i events ++ event ∷ []
take_push [] i event e = absurd (cc e)
take_push (x ∷ events) zero event e = (let same : x ≡ event = cc in ap (λ y. y ∷ []) same)
take_push (x ∷ events) (suc i) event e = ap (λ ys. x ∷ ys) (take_push events i event e)

drop_pull : (events : List Event) (i : ℕ) (event : Event) → slice_get events i ≡ Some event → take i events ++ (event ∷ drop (suc i) events) ≡ events
drop_pull [] i event e = absurd (cc e)
drop_pull (x ∷ events) zero event e = (let same : event ≡ x = cc in ap (λ y. y ∷ events) same)
drop_pull (x ∷ events) (suc i) event e = ap (λ ys. x ∷ ys) (drop_pull events i event e)

pub all_taken : (events : List Event) → take (length events) events ≡ events
all_taken [] = refl
all_taken (event ∷ events) = ap (λ ys. event ∷ ys) (all_taken events)

pub after_next : (t : Topology) (w : World) (events : List Event) (i : ℕ) (event : Event) → slice_get events i ≡ Some event
    → next t (world_after t w (take i events)) event ≡ world_after t w (take (i + 1) events)
after_next t w events i event e =
    let up : suc i ≡ i + 1 = omega arith in
    sym (after_append t w (take i events) (event ∷ [])) ∙ ap (world_after t w) (sym (take_push events i event e)) ∙ ap (λ k. world_after t w (take k events)) up

-- *What is told* of events up to one, of it, and of those behind it
module _ {S : Type 0} (tale : Tale S) (state : S) (line : ℕ) (t : Topology) (w : World) (events : List Event) (i : ℕ) (event : Event) (e : slice_get events i ≡ Some event) where
  abbrev so_far : Telling S
  so_far = told tale state t w (placed_events line (take i events))

  abbrev here : Telling S
  here = tale.tells so_far.state t (put_away (world_after t w (take i events))) (placed line event)

  up : suc i ≡ i + 1
  up = omega arith

  pub told_next : so_far.octets ++ here.octets ≡ (told tale state t w (placed_events line (take (i + 1) events))).octets
  told_next =
      ap (λ xs. so_far.octets ++ xs) (sym (append_nil here.octets)) ∙ sym (line_octets tale t line state w (take i events) (event ∷ []))
      ∙ ap (λ es. (told tale state t w (placed_events line es)).octets) (sym (take_push events i event e))
      ∙ ap (λ k. (told tale state t w (placed_events line (take k events))).octets) up

  pub state_next : here.state ≡ (told tale state t w (placed_events line (take (i + 1) events))).state
  state_next =
      sym (line_state tale t line state w (take i events) (event ∷ []))
      ∙ ap (λ es. (told tale state t w (placed_events line es)).state) (sym (take_push events i event e))
      ∙ ap (λ k. (told tale state t w (placed_events line (take k events))).state) up

  pub told_behind : so_far.octets ++ (here.octets ++ (told tale here.state t (next t (world_after t w (take i events)) event) (placed_events line (drop (suc i) events))).octets)
      ≡ (told tale state t w (placed_events line events)).octets
  told_behind =
      sym (line_octets tale t line state w (take i events) (event ∷ drop (suc i) events)) ∙ ap (λ es. (told tale state t w (placed_events line es)).octets) (drop_pull events i event e)

-- *The event of a place*
pub map_length : {A B : Type 0} (f : A → B) (xs : List A) → length (map f xs) ≡ length xs
map_length f [] = refl
map_length f (x ∷ xs) = ap suc (map_length f xs)

map_get : {A B : Type 0} (f : A → B) (xs : List A) (k : ℕ) (x : A) → slice_get xs k ≡ Some x → slice_get (map f xs) k ≡ Some (f x)
map_get f [] k x e = absurd (cc e)
map_get f (y ∷ xs) zero x e = (let same : y ≡ x = cc in ap (λ z. Some (f z)) same)
map_get f (y ∷ xs) (suc k) x e = map_get f xs k x e

pub turn_is : (w : World) (i : ℕ) (place : Place) → slice_get (places w) i ≡ Some place → slice_get (round w) i ≡ Some (Carry place)
turn_is w i place e = map_get Carry (places w) i place e

pub round_length : (w : World) → length (round w) ≡ length (places w)
round_length w = map_length Carry (places w)

pub can_come : (t : Topology) (first w : World) (i : ℕ) (place : Place) → w.events ≡ first.events + i → i < length (round first) → first.events + length (round first) ≤ event_limit → IsPlace t place
    → CanCome t w (Carry place)
can_come t first w i place events low few is = record { few = omega (arith, events, low, few); meant = is }

-- *A turn*: an event among others, and what is told of it behind what is told of those before it
module _ {S : Type 0} (tale : Tale S) (state : S) (line : ℕ) (t : Topology) (first w : World) (events : List Event) (i : ℕ) (event : Event) (known : S) where
  abbrev told_up_to : ℕ → Telling S
  told_up_to k = told tale state t first (placed_events line (take k events))

  abbrev told_here : Telling S
  told_here = tale.tells (told_up_to i).state t (put_away (world_after t first (take i events))) (placed line event)

  told_is : w ≡ put_away (world_after t first (take i events)) → known ≡ (told_up_to i).state → tale.tells known t w (placed line event) ≡ told_here
  told_is same knows = (λ j. tale.tells (knows j) t (same j) (placed line event))

  pub turn_puts : (a b c : Writer) (x y z : Option (List ℕ)) → slice_get events i ≡ Some event → w ≡ put_away (world_after t first (take i events)) → known ≡ (told_up_to i).state
      → IsPut a b x y (told_up_to i).octets → IsPut b c y z (tale.tells known t w (placed line event)).octets → IsPut a c x z (told_up_to (i + 1)).octets
  turn_puts a b c x y z e same knows p q =
      subst (IsPut a c x z) (told_next tale state line t first events i event e)
      (put_then a b c x y z (told_up_to i).octets told_here.octets p (subst (λ (told : Telling S). IsPut b c y z told.octets) (told_is same knows) q))

  pub turn_knows : (now : S) → slice_get events i ≡ Some event → w ≡ put_away (world_after t first (take i events)) → known ≡ (told_up_to i).state
      → now ≡ (tale.tells known t w (placed line event)).state → now ≡ (told_up_to (i + 1)).state
  turn_knows now e same knows is = is ∙ ap (λ (told : Telling S). told.state) (told_is same knows) ∙ state_next tale state line t first events i event e

  pub turn_stops : {B : Type 0} (r : Result B Stop) (stop : Stop) (a b c : Writer) (x y z : Option (List ℕ))
      → IsErrAnd r (λ s. s ≡ stop) → slice_get events i ≡ Some event → w ≡ put_away (world_after t first (take i events)) → known ≡ (told_up_to i).state
      → IsPut a b x y (told_up_to i).octets → StopsIn stop b c y z (tale.tells known t w (placed line event)).octets → Puts r a c x z (told tale state t first (placed_events line events)).octets
  turn_stops r stop a b c x y z is e same knows p h =
      subst (Puts r a c x z) (told_behind tale state line t first events i event e)
      (stops_at r stop a b c x y z (told_up_to i).octets told_here.octets (told tale told_here.state t (next t (world_after t first (take i events)) event) (placed_events line (drop (suc i) events))).octets is p
      (subst (λ (told : Telling S). StopsIn stop b c y z told.octets) (told_is same knows) h))

-- *A meter* behind some of the events
pub behind_some : (before : Meter) (t : Topology) (w : World) (events : List Event) → 0 < length events → meter_behind before t w events ≡ reading_of (world_after t w events)
behind_some before t w [] some = absurd (omega (arith, some))
behind_some before t w (event ∷ events) some = refl

some_taken : (events : List Event) (i : ℕ) (event : Event) → slice_get events i ≡ Some event → 0 < length (take (suc i) events)
some_taken [] i event e = absurd (cc e)
some_taken (x ∷ events) i event e = omega arith

pub meter_next : (before : Meter) (t : Topology) (first w : World) (events : List Event) (i : ℕ) (event : Event) (meter : Meter) → slice_get events i ≡ Some event
    → w ≡ put_away (world_after t first (take i events)) → meter ≡ reading_of (next t w event) → meter ≡ meter_behind before t first (take (i + 1) events)
meter_next before t first w events i event meter e same is =
    let up : suc i ≡ i + 1 = omega arith in
    is ∙ ap (λ (v : World). reading_of (next t v event)) same ∙ ap reading_of (after_next t first events i event e)
    ∙ sym (behind_some before t first (take (i + 1) events) (subst (λ k. 0 < length (take k events)) up (some_taken events i event e)))

pub meter_in : (before : Meter) (t : Topology) (first w : World) (events : List Event) (i : ℕ) (event : Event) (meter held : Meter) → slice_get events i ≡ Some event
    → w ≡ put_away (world_after t first (take i events)) → held ≡ meter_behind before t first (take i events) → (meter ≡ held) ⊎ (meter ≡ reading_of (next t w event)) → IsMeterIn before t first events meter
meter_in before t first w events i event meter held e same was (inl p) =
    (let low : i < length events = slice_get_within events i event e in
    record { count = i; within = omega (arith, low); reading = p ∙ was })
meter_in before t first w events i event meter held e same was (inr p) =
    (let low : i < length events = slice_get_within events i event e in
    record { count = i + 1; within = omega (arith, low); reading = meter_next before t first w events i event meter e same p })

pub all_at : (events : List Event) (i : ℕ) → i ≡ length events → take i events ≡ events
all_at events i e = ap (λ k. take k events) e ∙ all_taken events

pub can_come_in : (t : Topology) (first w : World) (events : List Event) (i : ℕ) (event : Event) → slice_get events i ≡ Some event → w.events ≡ first.events + i → first.events + length events ≤ event_limit → IsEvent t w event
    → CanCome t w event
can_come_in t first w events i event e count few is =
    (let low : i < length events = slice_get_within events i event e in record { few = omega (arith, count, low, few); meant = is })
