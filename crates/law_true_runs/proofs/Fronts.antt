-- the fronts of a run

use Rattle.std.proofs.Common.{◌≡◌, Bool, true, false, List, [], ◌∷◌, ◌++◌, append_assoc, refl, ◌∙◌, ap, subst}
use Rattle.std.specs.Prelude.{◌||◌}
use Rattle.std.specs.List.{list_any}
use Rattle.std.proofs.lemmas.Grind.{flat_map-append}
use Rattle.world_model.specs.Words.{Policy, Topology, World, next, worlds_from, records_of, run, past_of, is_wild, IsTame, IsRun}
use Rattle.world_model.specs.network_model.declared.event.Event.{Event}
use Rattle.world_model.specs.World.{opened}

-- *The worlds of a front* are a front of the worlds
later : Topology → World → (before after : List Event) → List World
later t w [] [] = []
later t w [] (event ∷ after) = worlds_from t (next t w event) after
later t w (event ∷ before) after = later t (next t w event) before after

worlds_front : (t : Topology) (w : World) (before after : List Event) → worlds_from t w (before ++ after) ≡ worlds_from t w before ++ later t w before after
unfolding later
worlds_front t w [] [] = refl
worlds_front t w [] (event ∷ after) = refl
worlds_front t w (event ∷ before) after = ap (λ (ws : List World). w ∷ ws) (worlds_front t (next t w event) before after)

-- so are its records, and none of them is wild where none of all is
pub none_in_front : {X : Type 0} (test : X → Bool) (xs ys : List X) → list_any test (xs ++ ys) ≡ false → list_any test xs ≡ false
none_in_front test [] ys h = refl
none_in_front test (x ∷ xs) ys h = by (test x) h (none_in_front test xs ys)
  where
    by : (b : Bool) → (b || list_any test (xs ++ ys)) ≡ false → (list_any test (xs ++ ys) ≡ false → list_any test xs ≡ false) → (b || list_any test xs) ≡ false
    by true h rest = h
    by false h rest = rest h

pub front_tame : (policy : Policy) (topology : Topology) (before after : List Event) → IsTame (past_of policy topology (before ++ after)).records
    → IsTame (past_of policy topology before).records
front_tame policy topology before after tame =
    none_in_front is_wild (records_of (run policy topology before)) (records_of (later topology (opened policy topology) before after))
    (subst IsTame (ap records_of (worlds_front topology (opened policy topology) before after)
    ∙ flat_map-append (λ (w : World). w.notes.records) (run policy topology before) (later topology (opened policy topology) before after)) tame)

-- *A front of a run is a run*
pub front_run : (policy : Policy) (topology : Topology) (before after : List Event) → IsRun policy topology (before ++ after) → IsRun policy topology before
front_run policy topology before after r = record {
  topology_is = r.topology_is;
  each = λ first rest event split. r.each first (rest ++ after) event (ap (λ (es : List Event). es ++ after) split ∙ append_assoc first (event ∷ rest) after);
}
