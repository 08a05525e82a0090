-- where an input leads once a request is carried out, and that the switch carries it out

use Rattle.std.proofs.Common.{◌≡◌, ℕ, Bool, true, false, not, ◌||◌, List, [], ◌∷◌, Option, None, Some, refl, ◌∙◌, ap, subst, filter, inl, inr, if◌then◌else◌}
use Rattle.std.specs.Prelude.{find}
use Rattle.std.specs.Option.{option_map_or}
use Rattle.world_model.specs.Words.{End, Branches, same_end, Request, AddBranch, MoveBranch, DeleteTree, VerifyTree, PortManagement, Desk, Linked, Changed, branches_after, is_busy, lacks_branch, applies, failure_of, is_last_session}
use Rattle.world_model.specs.crossbar_model.Crossbar.{output_of}
use Rattle.world_model.specs.gsmp_wire.declared.request.Request.TheVariants.{DeleteAll, AllPorts}
use Rattle.world_model.specs.port_model.Requests.{request_input}
use Rattle.world_model.specs.switch_model.declared.request.Asked.{Asked}
use Rattle.world_model.specs.gsmp_wire.declared.failure.Failure.{Failure}
use Rattle.world_model.specs.gsmp_wire.declared.failure.Failure.TheVariants.{NoPort, BadSession, PortDown, OutOfRange, Busy, NoConnection, SessionsSpent}
use Rattle.world_model.specs.Switch.{Switch}
use Rattle.law_input_steps.specs.law_branch_line.Words.{OnInput}
use Rattle.law_input_steps.specs.law_branch_line.Switch.{branch_after}
use Rattle.law_input_steps.specs.Asking.{IsAsked, concerns, on_input}
use Rattle.law_input_steps.proofs.Lists.{filter_front, filter_skips}
use Rattle.law_input_steps.proofs.Ends.{same_self, word_on, word_away}
use Rattle.law_input_steps.proofs.Branches.{branch_is}
use Rattle.law_live_mirrors.specs.Mirrors.{leads_to, MayFollow, LeadOn, IsBelieved, Mirrors}
use Rattle.law_live_mirrors.specs.Fit.{IsFit}

-- *Where it leads* behind a request that finds the branch that it speaks of
module _ (c : Changed) (request : Request) (input : End) (is : IsAsked request) (free : is_busy c.branches request ≡ false) (found : lacks_branch c.branches request ≡ false) where
  pub led_on : concerns input request ≡ true → output_of (branches_after c request).branches input ≡ leads_to request
  led_on here = branch_is input c request is free found ∙ (ap (λ word. branch_after word (output_of c.branches input)) (word_on input request here) ∙ by request)
    where
      by : (r : Request) → branch_after (OnInput (on_input r)) (output_of c.branches input) ≡ leads_to r
      by (AddBranch i o) = refl
      by (MoveBranch i from to) = refl
      by (DeleteTree i) = refl
      by (VerifyTree i) = refl
      by (DeleteAll port) = refl
      by (PortManagement port function) = refl
      by AllPorts = refl

  pub led_as_before : concerns input request ≡ false → output_of (branches_after c request).branches input ≡ output_of c.branches input
  led_as_before away = branch_is input c request is free found ∙ ap (λ word. branch_after word (output_of c.branches input)) (word_away input request away)

-- *The first on its way*
module _ (ports : List Linked) (desk : Desk) (m : Branches) (request : Request) (way : List Request) (input : End) where
  pub first_on : concerns input request ≡ true → Mirrors ports desk m (request ∷ way) input
      → MayFollow request (output_of m input) × LeadOn (leads_to request) (filter (concerns input) way) (IsBelieved ports desk input)
  first_on here h = subst (λ (on : List Request). LeadOn (output_of m input) on (IsBelieved ports desk input)) (filter_front (concerns input) request way here) h

  pub first_away : concerns input request ≡ false → Mirrors ports desk m (request ∷ way) input → Mirrors ports desk m way input
  first_away away h = subst (λ (on : List Request). LeadOn (output_of m input) on (IsBelieved ports desk input)) (filter_skips (concerns input) request way away) h

-- *The branch that it speaks of* is there, where it may follow
module _ (m : Branches) where
  pub not_busy : (request : Request) → ((input : End) → request_input request ≡ Some input → MayFollow request (output_of m input)) → is_busy m request ≡ false
  not_busy (AddBranch input output) follows = elim (follows input refl) [
    | inl none ↦ ap (λ (led : Option End). option_map_or (λ (other : End). not (same_end other output)) led false) none
    | inr own ↦ ap (λ (led : Option End). option_map_or (λ (other : End). not (same_end other output)) led false) own ∙ ap (λ (b : Bool). not b) (same_self output)
  ]
  not_busy (MoveBranch input from to) follows = refl
  not_busy (DeleteTree input) follows = refl
  not_busy (VerifyTree input) follows = refl
  not_busy (DeleteAll port) follows = refl
  not_busy (PortManagement port function) follows = refl
  not_busy AllPorts follows = refl

  pub not_lacking : (request : Request) → IsAsked request → ((input : End) → request_input request ≡ Some input → MayFollow request (output_of m input)) → lacks_branch m request ≡ false
  not_lacking (MoveBranch input from to) is follows = elim (follows input refl) [
    | inl old ↦ ap has old ∙ ap (λ (b : Bool). not (b || same_end from to)) (same_self from)
    | inr new ↦ ap has new ∙ last (same_end to from) (same_end to to) (same_self to)
  ]
    where
      has : Option End → Bool
      has led = not (option_map_or (λ (output : End). same_end output from || same_end output to) led false)

      last : (a b : Bool) → b ≡ true → not (a || b) ≡ false
      last true b e = refl
      last false b e = ap (λ (x : Bool). not x) e
  not_lacking (AddBranch input output) is follows = refl
  not_lacking (DeleteTree input) is follows = refl
  not_lacking (VerifyTree input) is follows = absurd is
  not_lacking (DeleteAll port) is follows = refl
  not_lacking (PortManagement port function) is follows = absurd is
  not_lacking AllPorts is follows = refl

-- *So no failure applies*
passed : {A : Type 0} (test : A → Bool) (x : A) (xs : List A) → test x ≡ false → find test xs ≡ None → find test (x ∷ xs) ≡ None
passed test x xs fails rest = ap (λ (b : Bool). if b then Some x else find test xs) fails ∙ rest

never_managed : (session : ℕ) (request : Request) → IsAsked request → is_last_session session request ≡ false
never_managed session (AddBranch input output) is = refl
never_managed session (MoveBranch input from to) is = refl
never_managed session (DeleteTree input) is = refl
never_managed session (VerifyTree input) is = refl
never_managed session (DeleteAll port) is = refl
never_managed session (PortManagement port function) is = absurd is
never_managed session AllPorts is = refl

pub none_fails : (s : Switch) (asked : Asked) → IsFit s asked → is_busy s.crossbar.branches asked.request ≡ false → lacks_branch s.crossbar.branches asked.request ≡ false
    → failure_of s.ports s.vpis s.crossbar.branches asked ≡ None
none_fails s asked fit free found =
    passed test NoPort (BadSession ∷ PortDown ∷ OutOfRange ∷ Busy ∷ NoConnection ∷ SessionsSpent ∷ []) (ap (λ (b : Bool). not b) fit.ports)
    (passed test BadSession (PortDown ∷ OutOfRange ∷ Busy ∷ NoConnection ∷ SessionsSpent ∷ []) (ap (λ (b : Bool). not b) fit.session)
    (passed test PortDown (OutOfRange ∷ Busy ∷ NoConnection ∷ SessionsSpent ∷ []) (ap (λ (b : Bool). not b) fit.up)
    (passed test OutOfRange (Busy ∷ NoConnection ∷ SessionsSpent ∷ []) (ap (λ (b : Bool). not b) fit.channels)
    (passed test Busy (NoConnection ∷ SessionsSpent ∷ []) free
    (passed test NoConnection (SessionsSpent ∷ []) found
    (passed test SessionsSpent [] (never_managed asked.session asked.request fit.is_asked) refl))))))
  where
    test : Failure → Bool
    test = applies s.ports s.vpis s.crossbar.branches asked
