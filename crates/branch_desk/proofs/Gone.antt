-- A number that no request stands under, and that was given out: no later request stands under it.

use Rattle.std.proofs.Common.{◌≡◌, ℕ, ◌<◌, ◌==◌, Bool, true, false, not, cond, List, [], ◌∷◌, refl, ◌∙◌, arith, filter}
use Rattle.std.specs.List.{list_any}
use Rattle.std.proofs.lemmas.Bool.{eqb-true}
use Rattle.std.proofs.lemmas.List.Folds.{list_any-append}
use Rattle.gsmp_wire.specs.declared.request.Request.{Request}
use Rattle.port_model.specs.Requests.{withdraws}
use Rattle.port_model.specs.Desk.{Desk, Standing}
use Rattle.port_model.specs.DeskAnswers.{Answered, answered, after_answer}
use Rattle.port_model.specs.DeskAnswers.Answered.{Unknown, Done, Ports, Failed}
use Rattle.branch_desk.specs.Later.{Call, after_call, after_calls, stands_under}
use Rattle.branch_desk.specs.Later.Call.{Ask, Withdraw, Answer}
use Rattle.branch_desk.proofs.Numbers.{has, not_true, or_left, or_right}

pub record IsGone (n : ℕ) (desk : Desk) : Type 0 where
  pub given : n < desk.next
  pub none : stands_under n desk ≡ false

any-filter : {X : Type 0} (p q : X → Bool) (xs : List X) → list_any p xs ≡ false → list_any p (filter q xs) ≡ false
any-filter p q [] h = refl
any-filter p q (x ∷ xs) h = by (any-filter p q xs (or_right (p x) _ h)) (q x) where
  by : list_any p (filter q xs) ≡ false → (b : Bool) → list_any p (cond b (x ∷ filter q xs) (filter q xs)) ≡ false
  by rest true = rw (or_left (p x) _ h) rest
  by rest false = rest

-- what is kept of those that stand has it neither
pub gone-filter : (n : ℕ) (q : Standing → Bool) (desk : Desk) → IsGone n desk → IsGone n (record desk { standing = filter q desk.standing })
gone-filter n q desk gone = record { given = gone.given; none = any-filter (has n) q desk.standing gone.none }

gone-ask : (n : ℕ) (desk : Desk) (request : Request) → IsGone n desk → IsGone n (after_call desk (Ask request))
gone-ask n desk request gone =
    let new : Standing = record { number = desk.next; request = request } in
    let q : Standing → Bool = λ s. not (withdraws request s.request) in
    let given : n < desk.next = gone.given in
    record {
      given = omega (arith, given);
      none =
          list_any-append (has n) (filter q desk.standing) (new ∷ [])
          ∙ (rw (any-filter (has n) q desk.standing gone.none, not_true (desk.next == n) (λ h. absurd (omega (arith, given, eqb-true desk.next n h)))) refl);
    }

gone-answer : (n : ℕ) (desk : Desk) (a : Answered) → IsGone n desk → IsGone n (after_answer desk a)
gone-answer n desk Unknown gone = gone
gone-answer n desk (Done s) gone = gone-filter n _ desk gone
gone-answer n desk (Ports s rows) gone =
    let left = gone-filter n (λ other. not (other.number == s.number)) desk gone in
    record { given = left.given; none = left.none }
gone-answer n desk (Failed s code) gone = gone-filter n _ desk gone

gone-call : (n : ℕ) (desk : Desk) (call : Call) → IsGone n desk → IsGone n (after_call desk call)
gone-call n desk (Ask request) gone = gone-ask n desk request gone
gone-call n desk (Withdraw s) gone = gone-filter n _ desk gone
gone-call n desk (Answer message) gone = gone-answer n desk (answered desk message) gone

pub gone-calls : (n : ℕ) (desk : Desk) (calls : List Call) → IsGone n desk → stands_under n (after_calls desk calls) ≡ false
gone-calls n desk [] gone = gone.none
gone-calls n desk (call ∷ calls) gone = gone-calls n (after_call desk call) calls (gone-call n desk call gone)

none_after_filter : (n : ℕ) (xs : List Standing) → list_any (has n) (filter (λ s. not (has n s)) xs) ≡ false
none_after_filter n [] = refl
none_after_filter n (s ∷ xs) = by (none_after_filter n xs) (has n s) refl where
  by : list_any (has n) (filter (λ x. not (has n x)) xs) ≡ false → (b : Bool) → has n s ≡ b → list_any (has n) (cond (not b) (s ∷ filter (λ x. not (has n x)) xs) (filter (λ x. not (has n x)) xs)) ≡ false
  by rest true e = rest
  by rest false e = rw e rest

-- a request is withdrawn
pub gone_withdrawn : (n : ℕ) (desk : Desk) → n < desk.next → IsGone n (record desk { standing = filter (λ s. not (has n s)) desk.standing })
gone_withdrawn n desk given = record { given = given; none = none_after_filter n desk.standing }
