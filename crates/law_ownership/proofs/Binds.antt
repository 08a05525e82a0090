-- two worlds of a run of which one follows the other are those before and behind an event of it

use Rattle.std.proofs.Common.{◌≡◌, ℕ, zero, suc, List, [], ◌∷◌, ◌++◌, Some, refl, sym, ◌∙◌, ap, subst}
use Rattle.std.specs.Prelude.{Contains, slice_get}
use Rattle.law_frame_readings.specs.world_model.Words.{Bind, Topology, World, next, worlds_from, world_after, IsUnused}
use Rattle.law_frame_readings.specs.world_model.network_model.declared.event.Event.{Event}
use Rattle.law_frame_readings.specs.world_model.World.{opened}
use Rattle.law_ownership.specs.Binds.{EachBindIsUnused}

record IsStep (topology : Topology) (w : World) (events : List Event) (old new : World) : Type 0 where
  before : List Event
  event : Event
  after : List Event
  is : events ≡ before ++ event ∷ after
  old_is : world_after topology w before ≡ old
  new_is : world_after topology w (before ++ event ∷ []) ≡ new

some_is : {X : Type 0} (x y : X) → Some x ≡ Some y → x ≡ y
some_is x y e = cc

first_is : (topology : Topology) (w : World) (events : List Event) → slice_get (worlds_from topology w events) 0 ≡ Some w
first_is topology w [] = refl
first_is topology w (event ∷ events) = refl

steps : (topology : Topology) (w : World) (events : List Event) (time : ℕ) (old new : World) → slice_get (worlds_from topology w events) time ≡ Some old
    → slice_get (worlds_from topology w events) (suc time) ≡ Some new → IsStep topology w events old new
steps topology w [] time old new e f = absurd (cc f)
steps topology w (event ∷ events) zero old new e f = record {
  before = [];
  event = event;
  after = events;
  is = refl;
  old_is = some_is w old e;
  new_is = some_is (next topology w event) new (sym (first_is topology (next topology w event) events) ∙ f);
}
steps topology w (event ∷ events) (suc time) old new e f =
    let s : IsStep topology (next topology w event) events old new = steps topology (next topology w event) events time old new e f in
    record { before = event ∷ s.before; event = s.event; after = s.after; is = ap (λ (xs : List Event). event ∷ xs) s.is; old_is = s.old_is; new_is = s.new_is }

pub each_bind : EachBindIsUnused
each_bind policy topology events each time old new way label flow is_old is_new among on =
    let s : IsStep topology (opened policy topology) events old new = steps topology (opened policy topology) events time old new is_old is_new in
    subst (λ (w : World). IsUnused w way label) s.old_is
    (each s.before s.after s.event s.is way label flow (subst (λ (w : World). Contains w.notes.records (Bind way.down.node way.down.port label flow)) (sym s.new_is) among) on)
