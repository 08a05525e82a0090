-- what holds at the opening of a run and is kept by each event holds in every run

use Rattle.std.proofs.Common.{◌≡◌, List, [], ◌∷◌, ◌++◌, append_assoc, append-nil, sym, subst, ◌∙◌}
use Rattle.world_model.specs.Words.{Policy, Topology, Past, past_of, IsRun, IsTame}
use Rattle.world_model.specs.network_model.declared.event.Event.{Event}
use Rattle.law_run_facts.specs.law_world_views.Kept.{Comes, Begins, behind}
use Rattle.law_run_facts.specs.law_world_views.Fronts.{HasAddresses}
use Rattle.law_true_runs.specs.Runs.{HoldsInRuns}
use Rattle.law_true_runs.proofs.Fronts.{front_run, front_tame}

-- kept with nothing but itself
abbrev pub KeepsItself : (Past → Type 0) → Type 0
KeepsItself P = (policy : Policy) (topology : Topology) (before : List Event) (event : Event)
    → Comes policy topology before event → P (past_of policy topology before) → P (behind policy topology before event)

module _ (P : Past → Type 0) (keeps : KeepsItself P) (policy : Policy) (topology : Topology) (addresses : HasAddresses topology) where
  walk : (before after : List Event) → IsRun policy topology (before ++ after) → IsTame (past_of policy topology (before ++ after)).records
      → P (past_of policy topology before) → P (past_of policy topology (before ++ after))
  walk before [] run tame w = subst (λ (es : List Event). P (past_of policy topology es)) (sym (append-nil before)) w
  walk before (event ∷ after) run tame w =
      let joined : (before ++ event ∷ []) ++ after ≡ before ++ event ∷ after = append_assoc before (event ∷ []) after in
      let run_joined = subst (IsRun policy topology) (sym joined) run in
      let tame_joined = subst (λ (es : List Event). IsTame (past_of policy topology es).records) (sym joined) tame in
      let comes : Comes policy topology before event = record {
        run = front_run policy topology (before ++ event ∷ []) after run_joined;
        addresses = addresses;
        tame = front_tame policy topology (before ++ event ∷ []) after tame_joined;
      } in
      subst (λ (es : List Event). P (past_of policy topology es)) joined
      (walk (before ++ event ∷ []) after run_joined tame_joined (keeps policy topology before event comes w))

pub holds_in_runs : (P : Past → Type 0) → KeepsItself P → Begins P → HoldsInRuns P
holds_in_runs P keeps begins policy topology events run addresses tame =
    walk P keeps policy topology addresses [] events run tame (begins policy topology run.topology_is addresses)

-- it holds of each front of such a run, and each of its events comes
module _ (policy : Policy) (topology : Topology) (addresses : HasAddresses topology) where
  pub holds_at : (P : Past → Type 0) → HoldsInRuns P → (events before after : List Event) → IsRun policy topology events → IsTame (past_of policy topology events).records
      → events ≡ before ++ after → P (past_of policy topology before)
  holds_at P holds events before after run tame split =
      holds policy topology before (front_run policy topology before after (subst (IsRun policy topology) split run)) addresses
      (front_tame policy topology before after (subst (λ (es : List Event). IsTame (past_of policy topology es).records) split tame))

  pub comes_at : (events before after : List Event) (event : Event) → IsRun policy topology events → IsTame (past_of policy topology events).records
      → events ≡ before ++ event ∷ after → Comes policy topology before event
  comes_at events before after event run tame split =
      let joined : events ≡ (before ++ event ∷ []) ++ after = split ∙ sym (append_assoc before (event ∷ []) after) in
      record {
        run = front_run policy topology (before ++ event ∷ []) after (subst (IsRun policy topology) joined run);
        addresses = addresses;
        tame = front_tame policy topology (before ++ event ∷ []) after (subst (λ (es : List Event). IsTame (past_of policy topology es).records) joined tame);
      }
