-- what stands at the desk stays: a Delete All is withdrawn by its like alone, and a Move Branch that is asked is of a join

use Rattle.std.proofs.Common.{◌≡◌, ℕ, Bool, true, false, List, [], ◌∷◌, ◌++◌, Option, None, refl, sym, ◌∙◌, ap, arith, if◌then◌else◌}
use Rattle.std.specs.Prelude.{◌==◌, ◌||◌, not, filter}
use Rattle.std.specs.List.{list_any}
use Rattle.std.specs.Option.{option_map_or}
use Rattle.std.proofs.lemmas.Bool.Decides.{nat_tests}
use Rattle.law_controller_facts.specs.world_model.Words.{PortNo, End, Request, AddBranch, MoveBranch, DeleteTree, VerifyTree, PortManagement, same_end, is_on, is_delete_all, withdraws, Desk, Standing, all_on, withdrawn, Linked}
use Rattle.law_controller_facts.specs.world_model.gsmp_wire.declared.request.Request.TheVariants.{DeleteAll, AllPorts}
use Rattle.law_controller_facts.specs.ordered_lists.Ordered.{Every}
use Rattle.law_controller_facts.proofs.ordered_lists.Every.{every_join}
use Rattle.law_controller_facts.specs.world_model.port_model.Requests.{request_input}
use Rattle.law_controller_facts.specs.world_model.port_model.Desk.{asked}
use Rattle.law_controller_facts.specs.law_port_facts.Port.{MovesNone}
use Rattle.law_controller_facts.proofs.Joining.{every_filter}
use Rattle.law_controller.specs.Match.{MovesJoined, IsOfJoin}

-- *The desk*: a Delete All that stands stands on, unless it is answered
deleting_is : (port : PortNo) (request : Request) → is_delete_all port request ≡ true → request_input request ≡ None
deleting_is port (DeleteAll other) e = refl
deleting_is port (AddBranch i output) e = absurd (cc e)
deleting_is port (MoveBranch i from to) e = absurd (cc e)
deleting_is port (DeleteTree i) e = absurd (cc e)
deleting_is port (VerifyTree i) e = absurd (cc e)
deleting_is port (PortManagement other function) e = absurd (cc e)
deleting_is port AllPorts e = absurd (cc e)

off_input : (i : End) (standing : Request) → request_input standing ≡ None → is_on i standing ≡ true → ⊥
off_input i standing none on = absurd (cc (sym (ap (λ (o : Option End). option_map_or (same_end i) o false) none) ∙ on))

-- it is withdrawn by its like alone
replaced_by : (port : PortNo) (request standing : Request) → is_delete_all port standing ≡ true → withdraws request standing ≡ true → is_delete_all port request ≡ true
replaced_by port (DeleteAll p) (DeleteAll q) on w = grind (arith, nat_tests)
replaced_by port (DeleteAll p) (AddBranch i output) on w = absurd (cc on)
replaced_by port (DeleteAll p) (MoveBranch i from to) on w = absurd (cc on)
replaced_by port (DeleteAll p) (DeleteTree i) on w = absurd (cc on)
replaced_by port (DeleteAll p) (VerifyTree i) on w = absurd (cc on)
replaced_by port (DeleteAll p) (PortManagement q function) on w = absurd (cc on)
replaced_by port (DeleteAll p) AllPorts on w = absurd (cc on)
replaced_by port (AddBranch i output) standing on w = absurd (off_input i standing (deleting_is port standing on) w)
replaced_by port (MoveBranch i from to) standing on w = absurd (off_input i standing (deleting_is port standing on) w)
replaced_by port (DeleteTree i) standing on w = absurd (off_input i standing (deleting_is port standing on) w)
replaced_by port (VerifyTree i) standing on w = absurd (off_input i standing (deleting_is port standing on) w)
replaced_by port (PortManagement q function) standing on w = absurd (cc w)
replaced_by port AllPorts standing on w = absurd (cc w)

any_kept : {A : Type 0} (f w : A → Bool) (y : A) → ((x : A) → f x ≡ true → w x ≡ true → f y ≡ true) → (xs : List A) → list_any f xs ≡ true → list_any f (filter (λ x. not (w x)) xs ++ y ∷ []) ≡ true
any_kept f w y like [] e = absurd (cc e)
any_kept {A} f w y like (x ∷ xs) e = by_tests (λ later. any_kept f w y like xs later) (f x) (w x) refl refl e
  where
    last : (ys : List A) → f y ≡ true → list_any f (ys ++ y ∷ []) ≡ true
    last [] t = ap (λ (b : Bool). b || false) t
    last (z ∷ ys) t = behind (f z) (last ys t)
      where
        behind : (b : Bool) {c : Bool} → c ≡ true → (b || c) ≡ true
        behind true e = refl
        behind false e = e

    behind : (b : Bool) {c : Bool} → c ≡ true → (b || c) ≡ true
    behind true e = refl
    behind false e = e

    by_tests : (list_any f xs ≡ true → list_any f (filter (λ x. not (w x)) xs ++ y ∷ []) ≡ true) → (a b : Bool) → f x ≡ a → w x ≡ b → (a || list_any f xs) ≡ true
        → list_any f ((if not b then x ∷ filter (λ x. not (w x)) xs else filter (λ x. not (w x)) xs) ++ y ∷ []) ≡ true
    by_tests rest true true is gone e = last (filter (λ x. not (w x)) xs) (like x is gone)
    by_tests rest true false is stays e = ap (λ (t : Bool). t || list_any f (filter (λ x. not (w x)) xs ++ y ∷ [])) is
    by_tests rest false true is gone e = rest e
    by_tests rest false false is stays e = behind (f x) (rest e)

any_left : {A : Type 0} (f w : A → Bool) → ((x : A) → f x ≡ true → w x ≡ true → ⊥) → (xs : List A) → list_any f xs ≡ true → list_any f (filter (λ x. not (w x)) xs) ≡ true
any_left f w never [] e = e
any_left {A} f w never (x ∷ xs) e = by_tests (λ later. any_left f w never xs later) (f x) (w x) refl refl e
  where
    behind : (b : Bool) {c : Bool} → c ≡ true → (b || c) ≡ true
    behind true e = refl
    behind false e = e

    by_tests : (list_any f xs ≡ true → list_any f (filter (λ x. not (w x)) xs) ≡ true) → (a b : Bool) → f x ≡ a → w x ≡ b → (a || list_any f xs) ≡ true
        → list_any f (if not b then x ∷ filter (λ x. not (w x)) xs else filter (λ x. not (w x)) xs) ≡ true
    by_tests rest true true is gone e = absurd (never x is gone)
    by_tests rest true false is stays e = ap (λ (t : Bool). t || list_any f (filter (λ x. not (w x)) xs)) is
    by_tests rest false true is gone e = rest e
    by_tests rest false false is stays e = behind (f x) (rest e)

pub asked_all : (desk : Desk) (request : Request) (port : PortNo) → all_on desk port ≡ true → all_on (asked desk request) port ≡ true
asked_all desk request port on = any_kept (λ (s : Standing). is_delete_all port s.request) (λ (s : Standing). withdraws request s.request) (record { number = desk.next; request = request })
    (λ s deletes gone. replaced_by port request s.request deletes gone) desk.standing on

pub withdrawn_all : (desk : Desk) (input : End) (port : PortNo) → all_on desk port ≡ true → all_on (withdrawn desk input) port ≡ true
withdrawn_all desk input port on = any_left (λ (s : Standing). is_delete_all port s.request) (λ (s : Standing). is_on input s.request)
    (λ s deletes on. off_input input s.request (deleting_is port s.request deletes) on) desk.standing on

-- a Delete All is asked of it
pub asked_of : (desk : Desk) (port : PortNo) → all_on (asked desk (DeleteAll port)) port ≡ true
asked_of desk port = last (filter (λ (s : Standing). not (withdraws (DeleteAll port) s.request)) desk.standing)
  where
    itself : (n : ℕ) → (n == n) ≡ true
    itself n = grind (arith, nat_tests)

    behind : (b : Bool) {c : Bool} → c ≡ true → (b || c) ≡ true
    behind true e = refl
    behind false e = e

    last : (xs : List Standing) → list_any (λ (s : Standing). is_delete_all port s.request) (xs ++ record { number = desk.next; request = DeleteAll port } ∷ []) ≡ true
    last [] = ap (λ (b : Bool). b || false) (itself port.0)
    last (x ∷ xs) = behind (is_delete_all port x.request) (last xs)

-- what is asked is of a join
pub asked_moving : (ports : List Linked) (desk : Desk) (request : Request) → MovesJoined ports request → Every (IsOfJoin ports) desk.standing → Every (IsOfJoin ports) (asked desk request).standing
asked_moving ports desk request joined h = every_join (IsOfJoin ports) (filter (λ (s : Standing). not (withdraws request s.request)) desk.standing) (record { number = desk.next; request = request } ∷ [])
    (every_filter (IsOfJoin ports) (λ (s : Standing). not (withdraws request s.request)) desk.standing h) (joined, tt)

-- a request that moves no branch
pub none_moving : (ports : List Linked) (request : Request) → MovesNone request → MovesJoined ports request
none_moving ports (MoveBranch input from to) none = absurd none
none_moving ports (AddBranch input output) none = tt
none_moving ports (DeleteTree input) none = tt
none_moving ports (VerifyTree input) none = tt
none_moving ports (DeleteAll port) none = tt
none_moving ports (PortManagement port function) none = tt
none_moving ports AllPorts none = tt
