-- an input that nothing which stands concerns

use Rattle.std.proofs.Common.{◌≡◌, Bool, true, false, List, [], ◌∷◌, Option, refl, sym, ◌∙◌, ap, subst, filter, if◌then◌else◌}
use Rattle.std.specs.Prelude.{◌||◌}
use Rattle.std.specs.List.{list_any}
use Rattle.world_model.specs.Words.{End, same_end, is_on, is_delete_all, on_input, all_on, Request, AddBranch, MoveBranch, DeleteTree, VerifyTree, PortManagement, Desk, Standing, Linked}
use Rattle.world_model.specs.gsmp_wire.declared.request.Request.TheVariants.{DeleteAll, AllPorts}
use Rattle.law_input_steps.specs.Asking.{concerns, deletes_port, NoDeleteAll}
use Rattle.law_input_steps.proofs.Ends.{same_is, same_self}
use Rattle.law_live_mirrors.specs.Mirrors.{MayFollow, IsHeld, IsBelievedBy}
use Rattle.law_live_mirrors.specs.Standing.{MayAsk}
use Rattle.law_live_mirrors.specs.Asking.{IsFree}

not_deleting : (input : End) (request : Request) → concerns input request ≡ false → deletes_port input request ≡ false
not_deleting input (AddBranch i output) away = refl
not_deleting input (MoveBranch i from to) away = refl
not_deleting input (DeleteTree i) away = refl
not_deleting input (VerifyTree i) away = refl
not_deleting input (DeleteAll port) away = away
not_deleting input (PortManagement port function) away = refl
not_deleting input AllPorts away = refl

none_deletes : (input : End) (standing : List Standing) → filter (λ (s : Standing). concerns input s.request) standing ≡ [] → NoDeleteAll input standing
none_deletes input [] none = tt
none_deletes input (s ∷ standing) none = elim (concerns input s.request) as (λ t. concerns input s.request ≡ t
    → (if t then s ∷ filter (λ (x : Standing). concerns input x.request) standing else filter (λ (x : Standing). concerns input x.request) standing) ≡ []
    → (deletes_port input s.request ≡ false) × NoDeleteAll input standing) [
      | true ↦ λ t e. absurd (cc e)
      | false ↦ λ t e. (not_deleting input s.request t, none_deletes input standing e)
    ] refl none

-- a request may be asked of it that may follow on where it is held
pub free_asks : (ports : List Linked) (desk : Desk) (request : Request) (input : End) → IsFree desk input
    → ((led : Option End) → IsHeld ports input led → MayFollow request led) → MayAsk ports desk request input
free_asks ports desk request input free follows = record {
  apart = none_deletes input desk.standing free;
  follows = λ led is. follows led (subst (λ (standing : List Standing). IsBelievedBy ports input standing led) free is);
}

-- *Nothing stands on it*, nor of its port
turned : (a b : End) → same_end a b ≡ false → same_end b a ≡ false
turned a b away = elim (same_end b a) as (λ t. same_end b a ≡ t → t ≡ false) [
  | true ↦ λ t. absurd (cc (sym (subst (λ (e : End). same_end e b ≡ true) (same_is b a t) (same_self b)) ∙ away))
  | false ↦ λ t. refl
] refl

off_both : (input : End) (request : Request) → is_on input request ≡ false → is_delete_all input.port request ≡ false → concerns input request ≡ false
off_both input (AddBranch i output) off apart = off
off_both input (MoveBranch i from to) off apart = off
off_both input (DeleteTree i) off apart = off
off_both input (VerifyTree i) off apart = refl
off_both input (DeleteAll port) off apart = apart
off_both input (PortManagement port function) off apart = refl
off_both input AllPorts off apart = refl

pub off_free : (desk : Desk) (input : End) → on_input desk input ≡ false → all_on desk input.port ≡ false → IsFree desk input
off_free desk input off apart = each desk.standing off apart
  where
    first : (x y : Bool) → (x || y) ≡ false → x ≡ false
    first true y e = absurd (cc e)
    first false y e = refl

    rest : (x y : Bool) → (x || y) ≡ false → y ≡ false
    rest true y e = absurd (cc e)
    rest false y e = e

    each : (standing : List Standing) → list_any (λ (s : Standing). is_on input s.request) standing ≡ false → list_any (λ (s : Standing). is_delete_all input.port s.request) standing ≡ false
        → filter (λ (s : Standing). concerns input s.request) standing ≡ []
    each [] p q = refl
    each (s ∷ standing) p q = ap (λ (b : Bool). if b then s ∷ filter (λ (x : Standing). concerns input x.request) standing else filter (λ (x : Standing). concerns input x.request) standing)
        (off_both input s.request (first _ _ p) (first _ _ q)) ∙ each standing (rest _ _ p) (rest _ _ q)
