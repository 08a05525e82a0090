-- what the headline says of a front of the run gives what the records of its last event claim

use Rattle.std.proofs.Common.{◌≡◌, ℕ, zero, suc, ◌<◌, Bool, true, false, List, [], ◌∷◌, ◌++◌, append_assoc, length, Some, refl, sym, ◌∙◌, ap, subst, arith, slice_get}
use Rattle.std.specs.Prelude.{◌||◌, Contains, slice_index_or}
use Rattle.std.specs.List.{list_any}
use Rattle.std.proofs.lemmas.List.Concat.{flat_map-cons}
use Rattle.world_model.specs.Words.{Lost, Unconnected, PoolFull, Cut, Unbound, Broken, Record, Delivered, Dropped, Refused, Loss, Chance, Bad, Opened, Closed, Bind, Free, Part, Forged, Routes, Policy, Topology, World, next, worlds_from, world_after, records_of, Past, past_of, IsTame, IsTrueToRouting, is_bad}
use Rattle.world_model.specs.link_model.declared.record.Record.TheVariants.{Join}
use Rattle.world_model.specs.network_model.declared.event.Event.{Event}
use Rattle.world_model.specs.World.{opened}
use Rattle.script_model.specs.Script.{Script}
use Rattle.law_true_lines.specs.Lines.{Claims}
use Rattle.law_true_lines.specs.Law.{IsTrueOf}

module _ (t : Topology) where
  -- *The worlds before and after an event*
  first_world : (w : World) (events : List Event) → slice_get (worlds_from t w events) 0 ≡ Some w
  first_world w [] = refl
  first_world w (event ∷ events) = refl

  world_before : (w : World) (before after : List Event) → slice_get (worlds_from t w (before ++ after)) (length before) ≡ Some (world_after t w before)
  world_before w [] after = first_world w after
  world_before w (event ∷ before) after = world_before (next t w event) before after

  world_behind : (w : World) (before : List Event) (event : Event) (after : List Event)
      → slice_get (worlds_from t w (before ++ event ∷ after)) (suc (length before)) ≡ Some (next t (world_after t w before) event)
  world_behind w [] event after = first_world (next t w event) after
  world_behind w (first ∷ before) event after = world_behind (next t w first) before event after

-- *What no record of a run is*, none of a world of it
neither : (a b : Bool) → (a || b) ≡ false → (a ≡ false) × (b ≡ false)
neither true b e = absurd (cc e)
neither false b e = (refl, e)

none_of_both : (test : Record → Bool) (xs ys : List Record) → list_any test (xs ++ ys) ≡ false → (list_any test xs ≡ false) × (list_any test ys ≡ false)
none_of_both test [] ys h = (refl, h)
none_of_both test (x ∷ xs) ys h =
    let parts = neither (test x) (list_any test (xs ++ ys)) h in
    let rest = none_of_both test xs ys parts.1 in
    (rw (parts.0, rest.0) refl, rest.1)

some_same : {A : Type 0} (x y : A) → Some x ≡ Some y → x ≡ y
some_same x y e = cc

none_in_both : (test : Record → Bool) (x : World) (worlds : List World) → list_any test (records_of (x ∷ worlds)) ≡ false → (list_any test x.notes.records ≡ false) × (list_any test (records_of worlds) ≡ false)
none_in_both test x worlds h =
    none_of_both test x.notes.records (records_of worlds) (subst (λ (items : List Record). list_any test items ≡ false) (flat_map-cons (λ (v : World). v.notes.records) x worlds) h)

none_in_world : (test : Record → Bool) (worlds : List World) (k : ℕ) (w : World) → list_any test (records_of worlds) ≡ false → slice_get worlds k ≡ Some w → list_any test w.notes.records ≡ false
none_in_world test [] k w h e = absurd (cc e)
none_in_world test (x ∷ worlds) zero w h e = subst (λ (v : World). list_any test v.notes.records ≡ false) (some_same x w e) (none_in_both test x worlds h).0
none_in_world test (x ∷ worlds) (suc k) w h e = none_in_world test worlds k w (none_in_both test x worlds h).1 e

none_among : (test : Record → Bool) (items : List Record) (item : Record) (k : ℕ) → list_any test items ≡ false → slice_get items k ≡ Some item → test item ≡ false
none_among test [] item k h e = absurd (cc e)
none_among test (x ∷ items) item zero h e = subst (λ (y : Record). test y ≡ false) (some_same x item e) (neither (test x) (list_any test items) h).0
none_among test (x ∷ items) item (suc k) h e = none_among test items item k (neither (test x) (list_any test items) h).1 e

got : (items : List Record) (k : ℕ) (item : Record) → k < length items → slice_index_or items k item ≡ item → slice_get items k ≡ Some item
got [] k item low e = absurd (omega (arith, low))
got (x ∷ items) zero item low e = ap Some e
got (x ∷ items) (suc k) item low e = got items k item (omega (arith, low)) e

-- *Claims*
module _ (policy : Policy) (script : Script) (true_of : IsTrueOf policy script) where
  abbrev t : Topology
  t = script.topology

  abbrev w : List Event → World
  w before = world_after t (opened policy t) before

  module _ (before : List Event) (event : Event) (after : List Event) (split : script.events ≡ before ++ event ∷ after) (item : Record) (made : Contains (next t (w before) event).notes.records item)
      (tame : IsTame (past_of policy t (before ++ event ∷ [])).records) where
    abbrev past : Past
    past = past_of policy t (before ++ event ∷ [])

    joined : script.events ≡ (before ++ event ∷ []) ++ after
    joined = split ∙ sym (append_assoc before (event ∷ []) after)

    routed : IsTrueToRouting past
    routed = true_of.routing.fronts (before ++ event ∷ []) after joined tame

    old_is : slice_get past.worlds (length before) ≡ Some (w before)
    old_is = world_before t (opened policy t) before (event ∷ [])

    new_is : slice_get past.worlds (suc (length before)) ≡ Some (next t (w before) event)
    new_is = world_behind t (opened policy t) before event []

    none_bad : is_bad item ≡ false
    none_bad = none_among is_bad (next t (w before) event).notes.records item made.0
        (none_in_world is_bad past.worlds (suc (length before)) (next t (w before) event) (true_of.harmony (before ++ event ∷ []) after joined tame).none_bad new_is)
        (got (next t (w before) event).notes.records made.0 item made.1 made.2)

  pub claimed : (before : List Event) (event : Event) (after : List Event) → script.events ≡ before ++ event ∷ after → (item : Record) → Contains (next t (w before) event).notes.records item
      → IsTame (past_of policy t (before ++ event ∷ [])).records → Claims policy t before event item
  claimed before event after split (Delivered node number packet) made tame =
      let item : Record = Delivered node number packet in
      let true_past = routed before event after split item made tame in
      record {
        can_be = true_past.deliveries.delivered (length before) (next t (w before) event) node number packet (new_is before event after split item made tame) made;
        once = true_past.once number;
      }
  claimed before event after split (Dropped node number cause) made tame =
      let item : Record = Dropped node number cause in
      let true_past = routed before event after split item made tame in
      record {
        can_be = true_past.deliveries.dropped (length before) (next t (w before) event) node number cause (new_is before event after split item made tame) made;
        once = true_past.once number;
      }
  claimed before event after split (Bind node port label flow) made tame = λ up is.
      let item : Record = Bind node port label flow in
      (routed before event after split item made tame).labels (length before) (w before) (next t (w before) event) (record { down = record { node = node; port = port }; up = up }) label flow
      (old_is before event after split item made tame) (new_is before event after split item made tame) made is
  claimed before event after split (Bad node layer name) made tame = absurd (cc (none_bad before event after split (Bad node layer name) made tame))
  claimed before event after split (Refused node packet name) made tame = tt
  claimed before event after split (Loss mark Broken) made tame = λ place entry new entered own is.
      (true_of.causes (before ++ event ∷ []) after (joined before event after split (Loss mark Broken) made tame) tame).causes before [] event refl place entry new entered is
  claimed before event after split (Loss mark Lost) made tame = tt
  claimed before event after split (Loss mark Unconnected) made tame = tt
  claimed before event after split (Loss mark PoolFull) made tame = tt
  claimed before event after split (Loss mark Cut) made tame = tt
  claimed before event after split (Loss mark Unbound) made tame = tt
  claimed before event after split (Chance mark) made tame = tt
  claimed before event after split (Opened node port) made tame = tt
  claimed before event after split (Closed node port) made tame = tt
  claimed before event after split (Free node port label) made tame = tt
  claimed before event after split (Join node port label to_port to_label) made tame = tt
  claimed before event after split (Part node port label) made tame = tt
  claimed before event after split (Forged place) made tame = tt
  claimed before event after split (Routes node number) made tame = tt
