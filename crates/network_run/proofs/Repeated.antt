-- several rounds, one after the other

use Rattle.std.proofs.Common.{◌≡◌, ℕ, zero, suc, ◌+◌, ◌≤◌, ◌<◌, List, [], ◌∷◌, ◌++◌, append_assoc, append-nil, length, length-append, take, refl, sym, ◌∙◌, ap, subst, arith}
use Rattle.std.specs.Prelude.{◌*◌, map, Option, Result}
use Rattle.std.proofs.Math.Nat.{suc-mul}
use Rattle.std.proofs.Math.Seq.{take-append-add}
use Rattle.std.proofs.lemmas.List.{take-append-le}
use Rattle.std.specs.List.{repeat}
use Rattle.std.specs.Result.{IsErrAnd}
use Rattle.lab_io.specs.Report.{IsPut, Writer}
use Rattle.net_types.specs.declared.node.Place.{Place}
use Rattle.world_model.specs.network_model.declared.event.Event.{Event}
use Rattle.world_model.specs.network_model.declared.event.Event.TheVariants.{Carry}
use Rattle.world_model.specs.Limits.{event_limit}
use Rattle.world_model.specs.Run.{next, put_away, round, world_after}
use Rattle.world_model.specs.Topology.{Topology}
use Rattle.world_model.specs.World.{World}
use Rattle.world.specs.declared.counts.Meter.{Meter}
use Rattle.world.specs.Counted.{reading_of}
use Rattle.world.specs.law_world_pace.Running.{IsRunning}
use Rattle.lab_io.specs.declared.stop.Stop.{Stop}
use Rattle.telling_model.specs.Placed.{placed_events}
use Rattle.telling_model.specs.Tale.{Tale, Telling, told}
use Rattle.telling_model.proofs.Told.{after_append, line_octets, line_state, told_away}
use Rattle.lab_io.specs.Puts.{Puts, StopsIn}
use Rattle.network_run.specs.Telling.{IsMeterIn, meter_behind}
use Rattle.lab_io.proofs.Stops.{put_then, stops_at}
use Rattle.network_run.proofs.Turns.{behind_some}
use Rattle.world.proofs.Places.{same_places}

-- *Records that were put away* have no part in what follows
away_after : (t : Topology) (w : World) (events : List Event) → put_away (world_after t (put_away w) events) ≡ put_away (world_after t w events)
away_after t w [] = refl
away_after t w (event ∷ events) = refl

away_meter : (m : Meter) (t : Topology) (w : World) (events : List Event) → meter_behind m t (put_away w) events ≡ meter_behind m t w events
away_meter m t w [] = refl
away_meter m t w (event ∷ events) = refl

-- *A meter* behind some events and others
some_behind : (xs : List Event) (y : Event) (ys : List Event) → 0 < length (xs ++ y ∷ ys)
some_behind [] y ys = omega arith
some_behind (x ∷ xs) y ys = omega arith

pub meter_append : (m : Meter) (t : Topology) (w : World) (some others : List Event) → meter_behind (meter_behind m t w some) t (world_after t w some) others ≡ meter_behind m t w (some ++ others)
meter_append m t w some [] = ap (meter_behind m t w) (sym (append-nil some))
meter_append m t w some (event ∷ others) =
    ap reading_of (sym (after_append t w some (event ∷ others))) ∙ sym (behind_some m t w (some ++ event ∷ others) (some_behind some event others))

-- *Events count*
pub events_after : (t : Topology) (w : World) (events : List Event) → (world_after t w events).events ≡ w.events + length events
events_after t w [] = omega arith
events_after t w (event ∷ events) = (let later : (world_after t (next t w event) events).events ≡ (w.events + 1) + length events = events_after t (next t w event) events in omega (arith, later))

-- *Events behind events*, where the records of those before are put away
pub world_then : (t : Topology) (first w after : World) (some others : List Event) → w ≡ put_away (world_after t first some) → after ≡ put_away (world_after t w others) → after ≡ put_away (world_after t first (some ++ others))
world_then t first w after some others same is =
    is ∙ ap (λ (v : World). put_away (world_after t v others)) same ∙ away_after t (world_after t first some) others ∙ ap put_away (sym (after_append t first some others))

pub meter_then : (m : Meter) (t : Topology) (first w : World) (some others : List Event) → w ≡ put_away (world_after t first some) → meter_behind m t w others ≡ meter_behind m t (world_after t first some) others
meter_then m t first w some others same = ap (λ (v : World). meter_behind m t v others) same ∙ away_meter m t (world_after t first some) others

-- *A meter* behind some of the events that follow others
pub meter_among : (m : Meter) (t : Topology) (first : World) (some others rest : List Event) (meter : Meter) → IsMeterIn (meter_behind m t first some) t (world_after t first some) others meter
    → IsMeterIn m t first (some ++ (others ++ rest)) meter
meter_among m t first some others rest meter k = record {
  count = length some + k.count;
  within = omega (arith, k.within, length-append some (others ++ rest), length-append others rest);
  reading = k.reading ∙ meter_append m t first some (take k.count others)
      ∙ ap (meter_behind m t first) (sym (take-append-add some (others ++ rest) k.count ∙ ap (λ (es : List Event). some ++ es) (take-append-le k.count others rest k.within)));
}

-- whose records were put away
pub meter_there : (m : Meter) (t : Topology) (first w : World) (some others : List Event) (meter : Meter) → w ≡ put_away (world_after t first some) → IsMeterIn m t w others meter
    → IsMeterIn m t (world_after t first some) others meter
meter_there m t first w some others meter same k = record {
  count = k.count;
  within = k.within;
  reading = k.reading ∙ meter_then m t first w some (take k.count others) same;
}

-- *Repeated*
one_up : (k : ℕ) → suc k ≡ k + 1
one_up k = omega arith

repeat_more : (k : ℕ) (xs : List Event) → repeat k xs ++ xs ≡ repeat (suc k) xs
repeat_more zero xs = sym (append-nil xs)
repeat_more (suc k) xs = append_assoc xs (repeat k xs) xs ∙ ap (λ ys. xs ++ ys) (repeat_more k xs)

repeat_next : (k : ℕ) (xs : List Event) → repeat k xs ++ xs ≡ repeat (k + 1) xs
repeat_next k xs = repeat_more k xs ∙ ap (λ n. repeat n xs) (one_up k)

-- so many, one more, and those behind
record HasRest (k n : ℕ) (xs : List Event) : Type 0 where
  rest : List Event
  is : repeat k xs ++ (xs ++ rest) ≡ repeat n xs

rest_of : (k n : ℕ) (xs : List Event) → k < n → HasRest k n xs
rest_of k zero xs low = absurd (omega (arith, low))
rest_of zero (suc n) xs low = record { rest = repeat n xs; is = refl }
rest_of (suc k) (suc n) xs low =
    (let r : HasRest k n xs = rest_of k n xs (omega (arith, low)) in
    record { rest = r.rest; is = append_assoc xs (repeat k xs) (xs ++ r.rest) ∙ ap (λ ys. xs ++ ys) r.is })

-- *The queues of a round* stay
pub same_round : (t : Topology) (first w : World) → IsRunning t first → IsRunning t w → round w ≡ round first
same_round t first w one other =
    ap (λ (ps : List Place). map Carry ps) (same_places t w.events first.events 1 w.sites first.sites other.sites one.sites (other.nodes ∙ sym one.nodes))

module _ (t : Topology) (first w : World) (k : ℕ) (same : w ≡ put_away (world_after t first (repeat k (round first)))) (turns : round w ≡ round first) where
  abbrev reached : World
  reached = world_after t first (repeat k (round first))

  -- what another round makes of what is behind so many
  pub rounds_world : (after : World) → after ≡ put_away (world_after t w (round w)) → after ≡ put_away (world_after t first (repeat (k + 1) (round first)))
  rounds_world after is =
      world_then t first w after (repeat k (round first)) (round first) same (is ∙ ap (λ events. put_away (world_after t w events)) turns)
      ∙ ap (λ events. put_away (world_after t first events)) (repeat_next k (round first))

  -- and what is told of it
  module _ {S : Type 0} (tale : Tale S) (state : S) (line : ℕ) (known : S) where
    abbrev told_turns : ℕ → Telling S
    told_turns n = told tale state t first (placed_events line (repeat n (round first)))

    abbrev told_turn : Telling S
    told_turn = told tale known t w (placed_events line (round w))

    abbrev told_there : Telling S
    told_there = told tale (told_turns k).state t reached (placed_events line (round first))

    turn_is_there : known ≡ (told_turns k).state → told_turn ≡ told_there
    turn_is_there knows = (λ i. told tale (knows i) t (same i) (placed_events line (turns i))) ∙ told_away tale t (told_turns k).state reached (placed_events line (round first))

    pub rounds_put : (a b c : Writer) (x y z : Option (List ℕ)) → known ≡ (told_turns k).state → IsPut a b x y (told_turns k).octets → IsPut b c y z told_turn.octets → IsPut a c x z (told_turns (k + 1)).octets
    rounds_put a b c x y z knows p q =
        subst (IsPut a c x z) (sym (line_octets tale t line state first (repeat k (round first)) (round first)) ∙ ap (λ es. (told tale state t first (placed_events line es)).octets) (repeat_next k (round first)))
        (put_then a b c x y z (told_turns k).octets told_there.octets p (subst (λ (one : Telling S). IsPut b c y z one.octets) (turn_is_there knows) q))

    pub rounds_know : (now : S) → known ≡ (told_turns k).state → now ≡ told_turn.state → now ≡ (told_turns (k + 1)).state
    rounds_know now knows is =
        is ∙ ap (λ (one : Telling S). one.state) (turn_is_there knows) ∙ sym (line_state tale t line state first (repeat k (round first)) (round first))
        ∙ ap (λ es. (told tale state t first (placed_events line es)).state) (repeat_next k (round first))

    pub rounds_stop : {B : Type 0} (r : Result B Stop) (stop : Stop) (n : ℕ) (a b c : Writer) (x y z : Option (List ℕ)) → k < n → IsErrAnd r (λ s. s ≡ stop) → known ≡ (told_turns k).state → IsPut a b x y (told_turns k).octets
        → StopsIn stop b c y z told_turn.octets → Puts r a c x z (told_turns n).octets
    rounds_stop r stop n a b c x y z low is knows p h =
        let r2 : HasRest k n (round first) = rest_of k n (round first) low in
        let behind : List ℕ = (told tale told_there.state t (world_after t reached (round first)) (placed_events line r2.rest)).octets in
        subst (Puts r a c x z)
        (ap (λ xs. (told_turns k).octets ++ xs) (sym (line_octets tale t line (told_turns k).state reached (round first) r2.rest))
        ∙ sym (line_octets tale t line state first (repeat k (round first)) (round first ++ r2.rest)) ∙ ap (λ es. (told tale state t first (placed_events line es)).octets) r2.is)
        (stops_at r stop a b c x y z (told_turns k).octets told_there.octets behind is p (subst (λ (one : Telling S). StopsIn stop b c y z one.octets) (turn_is_there knows) h))

  pub rounds_few : (n : ℕ) → k < n → first.events + length (repeat n (round first)) ≤ event_limit → w.events + length (round w) ≤ event_limit
  rounds_few n low few =
      let r2 : HasRest k n (round first) = rest_of k n (round first) low in
      let now : w.events ≡ first.events + length (repeat k (round first)) = ap (λ (v : World). v.events) same ∙ events_after t first (repeat k (round first)) in
      let size : length (round w) ≡ length (round first) = ap length turns in
      let all : length (repeat k (round first) ++ (round first ++ r2.rest)) ≡ length (repeat n (round first)) = ap length r2.is in
      let one : length (repeat k (round first) ++ (round first ++ r2.rest)) ≡ length (repeat k (round first)) + length (round first ++ r2.rest) = length-append (repeat k (round first)) (round first ++ r2.rest) in
      let two : length (round first ++ r2.rest) ≡ length (round first) + length r2.rest = length-append (round first) r2.rest in
      omega (arith, now, size, all, one, two, few)

  pub rounds_meter : (before held meter : Meter) → held ≡ meter_behind before t first (repeat k (round first)) → meter ≡ meter_behind held t w (round w) → meter ≡ meter_behind before t first (repeat (k + 1) (round first))
  rounds_meter before held meter was is =
      is ∙ (λ i. meter_behind (was i) t w (turns i)) ∙ meter_then _ t first w (repeat k (round first)) (round first) same
      ∙ meter_append before t first (repeat k (round first)) (round first) ∙ ap (meter_behind before t first) (repeat_next k (round first))

  pub rounds_in : (n : ℕ) (before held meter : Meter) → k < n → held ≡ meter_behind before t first (repeat k (round first)) → IsMeterIn held t w (round w) meter → IsMeterIn before t first (repeat n (round first)) meter
  rounds_in n before held meter low was h =
      let r2 : HasRest k n (round first) = rest_of k n (round first) low in
      let turned : IsMeterIn held t w (round first) meter = subst (λ (es : List Event). IsMeterIn held t w es meter) turns h in
      let there : IsMeterIn held t reached (round first) meter = meter_there held t first w (repeat k (round first)) (round first) meter same turned in
      subst (λ (es : List Event). IsMeterIn before t first es meter) r2.is
      (meter_among before t first (repeat k (round first)) (round first) r2.rest meter (subst (λ (m : Meter). IsMeterIn m t reached (round first) meter) was there))

-- *The rest* of them, behind some
pub repeat_both : (k rest n : ℕ) (xs : List Event) → n ≡ k + rest → repeat k xs ++ repeat rest xs ≡ repeat n xs
repeat_both zero rest n xs e = ap (λ (j : ℕ). repeat j xs) (omega (arith, e))
repeat_both (suc k) rest zero xs e = absurd (omega (arith, e))
repeat_both (suc k) rest (suc n) xs e = append_assoc xs (repeat k xs) (repeat rest xs) ∙ ap (λ (ys : List Event). xs ++ ys) (repeat_both k rest n xs (omega (arith, e)))

pub repeat_length : (k : ℕ) (xs : List Event) → length (repeat k xs) ≡ k * length xs
repeat_length zero xs = omega arith
repeat_length (suc k) xs = omega (arith, length-append xs (repeat k xs), repeat_length k xs, suc-mul k (length xs))
