-- a tick of lifetimes, one grant after another

use Rattle.std.proofs.Common.{◌≡◌, ◌≢◌, ℕ, ◌≤◌, Bool, false, List, [], ◌∷◌, ◌++◌, append_assoc, Some, refl, sym, ◌∙◌, ap, arith, if◌then◌else◌, map, fold}
use Rattle.std.specs.Prelude.{◌==◌}
use Rattle.std.proofs.lemmas.Bool.Decides.{nat_tests}
use Rattle.port_model.specs.Words.{Peer, Side, put, Setup, Grant, GrantState, Idle, ByController, ByInput, Leaving, grant_label, is_leaving, Session, Work, with_grant, expires, ages_in, ages_found, ages}
use Rattle.port_model.specs.declared.action.Action.{Action}
use Rattle.law_port_facts.specs.ordered_lists.Ordered.{Every, InOrder}
use Rattle.law_live_ticks.specs.Law.{Lasts, shorter}
use Rattle.law_live_ticks.proofs.Places.{at_place, put_place, one_before}

-- a port at work in a session, with these grants and actions
abbrev pub at_work : Side Peer → (redirects instances : ℕ) → Session → List Grant → List Action → Work
at_work side redirects instances s grants actions = record {
  port = record { adjacency = side; session = Some s; grants = grants; redirects = redirects };
  actions = actions;
  halted = false;
  instances = instances;
}

module _ (setup : Setup) (side : Side Peer) (redirects instances : ℕ) (s : Session) (actions : List Action) where
  abbrev with_these : List Grant → Work
  with_these grants = at_work side redirects instances s grants actions

  -- one that lasts has one tick less
  one_ages : (grants : List Grant) (grant : Grant) (state : GrantState) → is_leaving state ≡ false → 2 ≤ grant.lifetime
      → ages_in setup (with_these grants) grant state ≡ with_these (put grant_label (shorter grant) grants)
  one_ages grants grant (Leaving input owed) stays left = absurd (cc stays)
  one_ages grants grant Idle stays left =
      ap (λ (b : Bool). if b then expires setup (with_these grants) grant Idle else with_grant (with_these grants) (shorter grant)) (longer grant.lifetime left)
    where
      longer : (n : ℕ) → 2 ≤ n → (n == 1) ≡ false
      longer n more = grind (arith, nat_tests)
  one_ages grants grant ByController stays left =
      ap (λ (b : Bool). if b then expires setup (with_these grants) grant ByController else with_grant (with_these grants) (shorter grant)) (longer grant.lifetime left)
    where
      longer : (n : ℕ) → 2 ≤ n → (n == 1) ≡ false
      longer n more = grind (arith, nat_tests)
  one_ages grants grant (ByInput input) stays left =
      ap (λ (b : Bool). if b then expires setup (with_these grants) grant (ByInput input) else with_grant (with_these grants) (shorter grant)) (longer grant.lifetime left)
    where
      longer : (n : ℕ) → 2 ≤ n → (n == 1) ≡ false
      longer n more = grind (arith, nat_tests)

  abbrev AreApart : List Grant → List Grant → Type 0
  AreApart before after = Every (λ (a : Grant). Every (λ (b : Grant). grant_label b ≢ grant_label a) before) after

  more_apart : (before : List Grant) (grant : Grant) (after : List Grant) → AreApart before after → Every (λ (a : Grant). grant_label grant ≢ grant_label a) after
      → AreApart (before ++ shorter grant ∷ []) after
  more_apart before grant [] apart other = tt
  more_apart before grant (a ∷ after) apart other =
      (one_before grant_label before grant (shorter grant) (grant_label a) other.0 apart.0 refl, more_apart before grant after apart.1 other.1)

  pub each_ages : (before after : List Grant) → AreApart before after → InOrder (λ (a b : Grant). grant_label a ≢ grant_label b) after → Every Lasts after
      → fold (ages setup) (with_these (before ++ after)) (map grant_label after) ≡ with_these (before ++ map shorter after)
  each_ages before [] apart order last = refl
  each_ages before (grant ∷ after) apart order last =
      ap (λ (w : Work). fold (ages setup) w (map grant_label after)) (own ∙ moved)
      ∙ (each_ages (before ++ shorter grant ∷ []) after (more_apart before grant after apart.1 order.0) order.1 last.1
      ∙ ap with_these (append_assoc before (shorter grant ∷ []) (map shorter after)))
    where
      own : ages setup (with_these (before ++ grant ∷ after)) (grant_label grant) ≡ with_these (put grant_label (shorter grant) (before ++ grant ∷ after))
      own = ap (ages_found setup (with_these (before ++ grant ∷ after))) (at_place grant_label before grant after apart.0)
          ∙ one_ages (before ++ grant ∷ after) grant grant.state last.0.stays last.0.left

      moved : with_these (put grant_label (shorter grant) (before ++ grant ∷ after)) ≡ with_these ((before ++ shorter grant ∷ []) ++ after)
      moved = ap with_these (put_place grant_label before grant (shorter grant) after refl apart.0 ∙ sym (append_assoc before (shorter grant ∷ []) after))
