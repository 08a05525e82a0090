-- Done means answered, and the other way round.

use Rattle.std.proofs.Common.{◌≡◌, ◌↔◌, ℕ, zero, suc, ◌==◌, ◌&&◌, Bool, true, false, cond, List, [], ◌∷◌, get_or, Option, None, Some, Contains, find, refl, sym, ap, ◌∙◌, arith}
use Rattle.std.proofs.lemmas.Bool.{eqb-true}
use Rattle.gsmp_wire.specs.declared.message.Message.{Message}
use Rattle.gsmp_wire.specs.declared.message.Message.TheVariants as messages
use Rattle.port_model.specs.Desk.{Desk, Standing}
use Rattle.port_model.specs.DeskAnswers.{Head, head_of, is_of_type, answered, outcome, succeeded}
use Rattle.port_model.specs.DeskAnswers.Answered.{Failed, Unknown}
use Rattle.branch_desk.specs.declared.answered.Answered.{Answered as Told}
use Rattle.branch_desk.specs.Answers.{told, done_of, IsDoneBy}
use Rattle.branch_desk.specs.Requests.{AreRising}
use Rattle.branch_desk.proofs.Answering.{succeeded_is}
use Rattle.branch_desk.proofs.Numbers.{has, found_at}

find_passes : {X : Type 0} (p : X → Bool) (xs : List X) (x : X) → find p xs ≡ Some x → p x ≡ true
find_passes p [] x h = absurd (cc h)
find_passes p (y ∷ ys) x h = by (find_passes p ys x) (p y) refl h where
  by : (find p ys ≡ Some x → p x ≡ true) → (b : Bool) → p y ≡ b → cond b (Some y) (find p ys) ≡ Some x → p x ≡ true
  by rest true e h = let same : y ≡ x = cc h in rw (← same) e
  by rest false e h = rest h

find_contains : {X : Type 0} (p : X → Bool) (xs : List X) (x : X) → find p xs ≡ Some x → Contains xs x
find_contains p [] x h = absurd (cc h)
find_contains p (y ∷ ys) x h = by (find_contains p ys x) (p y) h where
  by : (find p ys ≡ Some x → Contains ys x) → (b : Bool) → cond b (Some y) (find p ys) ≡ Some x → Contains (y ∷ ys) x
  by rest true h = let same : y ≡ x = cc h in (zero, omega arith, same)
  by rest false h = let there = rest h in (suc there.0, omega (arith, there.1), there.2)

left : (a b : Bool) → (a && b) ≡ true → a ≡ true
left true b h = refl
left false b h = h

right : (a b : Bool) → (a && b) ≡ true → b ≡ true
right true b h = h
right false b h = absurd (cc h)

done_told : (m : Message) (s : Standing) → done_of (told (succeeded m s)) ≡ Some s
done_told (messages.Adjacency greeting) s = refl
done_told (messages.Branch kind result code number session input_port input output_port output branches priority) s = refl
done_told (messages.Move result code number session input_port input output_port output target_port target branches priority) s = refl
done_told (messages.Port result code number port session function) s = refl
done_told (messages.AllPorts result code number rows) s = refl

not_failed : (s x : Standing) (code : ℕ) (b : Bool) → done_of (told (cond b (Failed x code) Unknown)) ≡ Some s → ⊥
not_failed s x code true h = cc h
not_failed s x code false h = cc h

module _ (desk : Desk) (m : Message) (s : Standing) where
  outcome_done : (head : Head) (x : Standing) → head_of m ≡ Some head → find (λ y. y.number == head.number && is_of_type m y.request) desk.standing ≡ Some x
      → (b : Bool) → (head.result == 3) ≡ b → done_of (told (cond b (succeeded m x) (cond (head.result == 4) (Failed x head.code) Unknown))) ≡ Some s
      → Contains desk.standing s × IsDoneBy m s
  outcome_done head x is found false e h = absurd (not_failed s x head.code (head.result == 4) h)
  outcome_done head x is found true e h =
      let same : x ≡ s = cc (sym (done_told m x) ∙ h) in
      let passes : ((s.number == head.number) && is_of_type m s.request) ≡ true = rw (← same) (find_passes _ desk.standing x found) in
      let three : head.result ≡ 3 = eqb-true head.result 3 e in
      let number : head.number ≡ s.number = sym (eqb-true s.number head.number (left (s.number == head.number) _ passes)) in
      let shown : head ≡ record { result = 3; code = head.code; number = s.number } = λ i. record { result = three i; code = head.code; number = number i } in
      (rw (← same) (find_contains _ desk.standing x found), record { kind = right (s.number == head.number) _ passes; code = head.code; head = is ∙ ap Some shown })

  found_done : (head : Head) (o : Option Standing) → head_of m ≡ Some head → find (λ y. y.number == head.number && is_of_type m y.request) desk.standing ≡ o → done_of (told (outcome m head o)) ≡ Some s → Contains desk.standing s × IsDoneBy m s
  found_done head None is found h = absurd (cc h)
  found_done head (Some x) is found h = outcome_done head x is found (head.result == 3) refl h

  pub done_means_answered : done_of (told (answered desk m)) ≡ Some s → Contains desk.standing s × IsDoneBy m s
  done_means_answered h = by (head_of m) refl h where
    by : (o : Option Head) → head_of m ≡ o → done_of (told (answered desk m)) ≡ Some s → Contains desk.standing s × IsDoneBy m s
    by None e h = absurd (cc (rw e at h))
    by (Some head) e h = found_done head (find (λ y. y.number == head.number && is_of_type m y.request) desk.standing) e refl (rw e at h)

  pub answered_means_done : AreRising desk.standing → Contains desk.standing s → IsDoneBy m s → done_of (told (answered desk m)) ≡ Some s
  answered_means_done rising there by_answer =
      let p : Standing → Bool = λ x. is_of_type m x.request in
      let at : get_or desk.standing there.0 s ≡ s = there.2 in
      let found : find (λ x. has s.number x && p x) desk.standing ≡ Some s =
      rw (at, by_answer.kind) at (found_at s.number p desk.standing there.0 s rising there.1 (ap (λ x. x.number) at)) in
      ap (λ a. done_of (told a)) (succeeded_is desk m (record { result = 3; code = by_answer.code; number = s.number }) by_answer.head s found refl)
      ∙ done_told m s

  pub done_exactly : (a : Told) → AreRising desk.standing → a ≡ told (answered desk m) → (done_of a ≡ Some s) ↔ (Contains desk.standing s × IsDoneBy m s)
  done_exactly a rising e = (
    λ h. done_means_answered (sym (ap done_of e) ∙ h),
    λ both. ap done_of e ∙ answered_means_done rising both.0 both.1,
  )

  pub none_done : head_of m ≡ None → (done_of (told Unknown) ≡ Some s) ↔ (Contains desk.standing s × IsDoneBy m s)
  none_done e = (λ h. absurd (cc h), λ both. absurd (cc (sym both.1.head ∙ e)))
