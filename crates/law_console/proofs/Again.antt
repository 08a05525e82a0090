-- a command that comes again right after itself

use Rattle.std.proofs.Common.{◌≡◌, ℕ, Bool, true, false, cond, not, ◌||◌, Option, None, Some, refl, sym, ◌∙◌, ap, inl, inr}
use Rattle.std.specs.Prelude.{◌==◌}
use Rattle.std.specs.FinMap.{get, insert, remove, retain_keys}
use Rattle.world_model.specs.Words.{End, same_end, Request, AddBranch, MoveBranch, DeleteTree, VerifyTree, PortManagement, leads_elsewhere}
use Rattle.world_model.specs.gsmp_wire.declared.request.Request.TheVariants.{DeleteAll, AllPorts}
use Rattle.world_model.specs.gsmp_wire.declared.failure.Failure.{Failure}
use Rattle.world_model.specs.gsmp_wire.declared.failure.Failure.TheVariants.{NoPort, OutOfRange, Busy, NoConnection}
use Rattle.console_model.specs.Plain.{Links, is_busy, leads_there, lacks_branch, applies, failure_of, success, answer_by, answer, changed, after_by, after}
use Rattle.law_console.specs.Again.{IsSame, ComesAgain}
use Rattle.law_console.proofs.Maps.{same_input, same_self, insert_here, insert_away, remove_here, remove_away, retained}

-- *What fails* is found by its four tests
pub record AreUnfailed (ports : ℕ) (m : Links) (q : Request) : Type 0 where
  pub port : applies ports m q NoPort ≡ false
  pub range : applies ports m q OutOfRange ≡ false
  pub free : is_busy m q ≡ false
  pub leads : lacks_branch m q ≡ false

passed : {A : Type 0} (b : Bool) (x : A) (rest : Option A) → cond b (Some x) rest ≡ None → (b ≡ false) × (rest ≡ None)
passed true x rest e = absurd (cc e)
passed false x rest e = (refl, e)

pub unfailed : (ports : ℕ) (m : Links) (q : Request) → failure_of ports m q ≡ None → AreUnfailed ports m q
unfailed ports m q e =
    let one = passed (applies ports m q NoPort) NoPort _ e in
    let two = passed (applies ports m q OutOfRange) OutOfRange _ one.1 in
    let three = passed (applies ports m q Busy) Busy _ two.1 in
    let four = passed (applies ports m q NoConnection) NoConnection _ three.1 in
    record { port = one.0; range = two.0; free = three.0; leads = four.0 }

pub none_fails : (ports : ℕ) (m : Links) (q : Request) → AreUnfailed ports m q → failure_of ports m q ≡ None
none_fails ports m q f =
    λ i. cond (f.port i) (Some NoPort) (cond (f.range i) (Some OutOfRange) (cond (f.free i) (Some Busy) (cond (f.leads i) (Some NoConnection) None)))

-- *Afterwards* the branch is as the command wants it
free_again : (m : Links) (q : Request) → is_busy m q ≡ false → is_busy (changed m q) q ≡ false
free_again m (AddBranch input output) free = ap (leads_elsewhere output) (insert_here m input output) ∙ ap not (same_self output)
free_again m (MoveBranch input from to) free = refl
free_again m (DeleteTree input) free = refl
free_again m (VerifyTree input) free = refl
free_again m (DeleteAll port) free = refl
free_again m (PortManagement port function) free = refl
free_again m AllPorts free = refl

either : (a b : Bool) → b ≡ true → not (a || b) ≡ false
either true b e = refl
either false b e = ap not e

leads_again : (m : Links) (q : Request) → lacks_branch m q ≡ false → lacks_branch (changed m q) q ≡ false
leads_again m (AddBranch input output) leads = refl
leads_again m (MoveBranch input from to) leads =
    ap (λ (o : Option End). not (leads_there from to o)) (insert_here m input to) ∙ either (same_end to from) (same_end to to) (same_self to)
leads_again m (DeleteTree input) leads = refl
leads_again m (VerifyTree input) leads = leads
leads_again m (DeleteAll port) leads = refl
leads_again m (PortManagement port function) leads = refl
leads_again m AllPorts leads = refl

unfailed_again : (ports : ℕ) (m : Links) (q : Request) → AreUnfailed ports m q → AreUnfailed ports (changed m q) q
unfailed_again ports m q f = record { port = f.port; range = f.range; free = free_again m q f.free; leads = leads_again m q f.leads }

success_again : (m : Links) (q : Request) → success (changed m q) q ≡ success m q
success_again m (AddBranch input output) = refl
success_again m (MoveBranch input from to) = refl
success_again m (DeleteTree input) = refl
success_again m (VerifyTree input) = refl
success_again m (DeleteAll port) = refl
success_again m (PortManagement port function) = refl
success_again m AllPorts = refl

inserted_again : (m : Links) (k v : End) → IsSame (insert (insert m k v) k v) (insert m k v)
inserted_again m k v e = elim (same_input e k) [
  | inl same ↦ ap (get (insert (insert m k v) k v)) same ∙ insert_here (insert m k v) k v ∙ sym (insert_here m k v) ∙ ap (get (insert m k v)) (sym same)
  | inr other ↦ insert_away (insert m k v) k e v other
]

removed_again : (m : Links) (k : End) → IsSame (remove (remove m k) k) (remove m k)
removed_again m k e = elim (same_input e k) [
  | inl same ↦ ap (get (remove (remove m k) k)) same ∙ remove_here (remove m k) k ∙ sym (remove_here m k) ∙ ap (get (remove m k)) (sym same)
  | inr other ↦ remove_away (remove m k) k e other
]

twice : {A : Type 0} (b : Bool) (x y : Option A) → x ≡ cond b y None → cond b x None ≡ x
twice true x y e = refl
twice false x y e = sym e

retained_again : (m : Links) (p : End → Bool) → IsSame (retain_keys (retain_keys m p) p) (retain_keys m p)
retained_again m p e = retained (retain_keys m p) p e ∙ twice (p e) (get (retain_keys m p) e) (get m e) (retained m p e)

changed_again : (m : Links) (q : Request) → IsSame (changed (changed m q) q) (changed m q)
changed_again m (AddBranch input output) = inserted_again m input output
changed_again m (MoveBranch input from to) = inserted_again m input to
changed_again m (DeleteTree input) = removed_again m input
changed_again m (VerifyTree input) = λ e. refl
changed_again m (DeleteAll port) = retained_again m (λ input. not (input.port.0 == port.0))
changed_again m (PortManagement port function) = λ e. refl
changed_again m AllPorts = λ e. refl

-- *Again*
pub come_twice : (ports : ℕ) (m : Links) (q : Request) → ComesAgain ports m q
come_twice ports m q = by (failure_of ports m q) refl
  where
    by : (o : Option Failure) → failure_of ports m q ≡ o → ComesAgain ports m q
    by (Some failure) e = (let same : after ports m q ≡ m = ap (after_by m q) e in
        record { answer = ap (λ (x : Links). answer ports x q) same; map = λ input. ap (λ (x : Links). get (after ports x q) input) same })
    by None e =
        let same : after ports m q ≡ changed m q = ap (after_by m q) e in
        let none : failure_of ports (changed m q) q ≡ None = none_fails ports (changed m q) q (unfailed_again ports m q (unfailed ports m q e)) in
        record {
          answer = ap (λ (x : Links). answer ports x q) same ∙ ap (answer_by (changed m q) q) none ∙ success_again m q ∙ sym (ap (answer_by m q) e);
          map = λ input. ap (λ (x : Links). get (after ports x q) input) same ∙ ap (λ (o : Option Failure). get (after_by (changed m q) q o) input) none
              ∙ changed_again m q input ∙ ap (λ (x : Links). get x input) (sym same);
        }
