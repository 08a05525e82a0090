-- a request that is answered stands no longer

use Rattle.std.proofs.Common.{◌≡◌, ◌⊎◌, ℕ, ◌==◌, ◌&&◌, Bool, true, false, true≢false, not, List, [], ◌∷◌, filter, Option, None, Some, refl, sym, ◌∙◌, ap, inl, inr, arith, if◌then◌else◌}
use Rattle.std.specs.Prelude.{find}
use Rattle.std.proofs.lemmas.Bool.Decides.{nat_tests}
use Rattle.world_model.specs.Words.{Standing, Desk, Head, head_of, is_of_type, Unknown, Failed, answered_with, after_answer, outcome, succeeded}
use Rattle.world_model.specs.gsmp_wire.declared.message.Message.{Message}
use Rattle.world_model.specs.gsmp_wire.declared.message.Message.TheVariants.{Adjacency, Branch, Move, Port, AllPorts}
use Rattle.law_port_facts.specs.ordered_lists.Ordered.{Every}
use Rattle.law_port_facts.proofs.ordered_lists.Every.{every_map}
use Rattle.law_live_desks.specs.Law.{Answers}
use Rattle.law_live_desks.proofs.Frames.{answered_part}

-- *What is kept* passed the test
kept_each : (Q : Standing → Type 0) (test : Standing → Bool) (standing : List Standing) → Every (λ (s : Standing). test s ≡ true → Q s) standing → Every Q (filter test standing)
kept_each Q test [] h = tt
kept_each Q test (s ∷ standing) h = by (test s) h.0 (kept_each Q test standing h.1)
  where
    by : (b : Bool) → (b ≡ true → Q s) → Every Q (filter test standing) → Every Q (if b then s ∷ filter test standing else filter test standing)
    by true is later = (is refl, later)
    by false is later = later

-- *None is found* where none passes
none_found : (test : Standing → Bool) (standing : List Standing) → find test standing ≡ None → Every (λ (s : Standing). test s ≡ false) standing
none_found test [] e = tt
none_found test (s ∷ standing) e = by (test s) refl e (none_found test standing)
  where
    by : (b : Bool) → test s ≡ b → (if b then Some s else find test standing) ≡ None → (find test standing ≡ None → Every (λ (x : Standing). test x ≡ false) standing)
        → (test s ≡ false) × Every (λ (x : Standing). test x ≡ false) standing
    by true is e later = absurd (cc e)
    by false is e later = (is, later e)

one_found : (test : Standing → Bool) (standing : List Standing) (s : Standing) → find test standing ≡ Some s → test s ≡ true
one_found test [] s e = absurd (cc e)
one_found test (x ∷ standing) s e = by (test x) refl e (one_found test standing s)
  where
    by : (b : Bool) → test x ≡ b → (if b then Some x else find test standing) ≡ Some s → (find test standing ≡ Some s → test s ≡ true) → test s ≡ true
    by true is e later = (let same : x ≡ s = cc in ap test (sym same) ∙ is)
    by false is e later = later e

module _ (P : Standing → Type 0) (desk : Desk) (message : Message) where
  -- what stands is so, or the message answers it
  abbrev IsEither : Standing → Type 0
  IsEither s = P s ⊎ Answers s message

  not_answered : (standing : List Standing) → ((s : Standing) → Answers s message → ⊥) → Every IsEither standing → Every P standing
  not_answered standing none h = every_map IsEither P standing (λ s either. elim either [
    | inl so ↦ so
    | inr answers ↦ absurd (none s answers)
  ]) h

  same_head : (head : Head) → head_of message ≡ Some head → (s : Standing) → (a : Answers s message) → a.head ≡ head
  same_head head is s a = cc (sym a.of_message ∙ is)

  abbrev test : Head → Standing → Bool
  test head s = s.number == head.number && is_of_type message s.request

  -- the desk takes the success of a request
  passes : (head : Head) (is : head_of message ≡ Some head) (s : Standing) → Answers s message → test head s ≡ true
  passes head is s a = both (s.number == head.number) (is_of_type message s.request) (number_is s.number head.number (sym a.number ∙ ap (λ (h : Head). h.number) (same_head head is s a))) a.of_type
    where
      number_is : (m n : ℕ) → m ≡ n → (m == n) ≡ true
      number_is m n e = grind (arith, nat_tests)

      both : (x y : Bool) → x ≡ true → y ≡ true → (x && y) ≡ true
      both true y p q = q
      both false y p q = absurd (cc p)

  gone : (head : Head) (is : head_of message ≡ Some head) (t s : Standing) → test head t ≡ true → not (s.number == t.number) ≡ true → Answers s message → ⊥
  gone head is t s passed left a = differ s.number t.number (sym a.number ∙ (ap (λ (h : Head). h.number) (same_head head is s a) ∙ sym (first t.number head.number (is_of_type message t.request) passed))) left
    where
      first : (m n : ℕ) (b : Bool) → ((m == n) && b) ≡ true → m ≡ n
      first m n b e = grind (arith, nat_tests)

      differ : (m n : ℕ) → m ≡ n → not (m == n) ≡ true → ⊥
      differ m n e left = grind (arith, nat_tests)

  module _ (each : Every IsEither desk.standing) where
    left_each : (head : Head) (is : head_of message ≡ Some head) (t : Standing) → test head t ≡ true → Every P (filter (λ (other : Standing). not (other.number == t.number)) desk.standing)
    left_each head is t passed = kept_each P (λ (other : Standing). not (other.number == t.number)) desk.standing (every_map IsEither (λ (s : Standing). not (s.number == t.number) ≡ true → P s) desk.standing
        (λ s either left. elim either [
          | inl so ↦ so
          | inr answers ↦ absurd (gone head is t s passed left answers)
        ]) each)

    success : (head : Head) (is : head_of message ≡ Some head) (t : Standing) → test head t ≡ true → (m : Message) → Every P (after_answer desk (succeeded m t)).standing
    success head is t passed (Adjacency greeting) = left_each head is t passed
    success head is t passed (Branch kind result code number session input_port input output_port output count priority) = left_each head is t passed
    success head is t passed (Move result code number session input_port input output_port output target_port target count priority) = left_each head is t passed
    success head is t passed (Port result code number port session function) = left_each head is t passed
    success head is t passed (AllPorts result code number rows) = left_each head is t passed

    by_result : (head : Head) (is : head_of message ≡ Some head) (t : Standing) → test head t ≡ true → (b : Bool) → (head.result == 3) ≡ b
        → Every P (after_answer desk (if b then succeeded message t else (if head.result == 4 then Failed t head.code else Unknown))).standing
    by_result head is t passed true e = success head is t passed message
    by_result head is t passed false e = answered_part P desk (if head.result == 4 then Failed t head.code else Unknown)
        (not_answered desk.standing (λ s a. differs (ap (λ (h : Head). h.result) (sym (same_head head is s a)) ∙ a.succeeds)) each)
      where
        differs : head.result ≡ 3 → ⊥
        differs three = true≢false (sym (ap (λ (n : ℕ). n == 3) three) ∙ e)

    by_found : (head : Head) (is : head_of message ≡ Some head) (o : Option Standing) → find (test head) desk.standing ≡ o → Every P (after_answer desk (outcome message head o)).standing
    by_found head is None e = none_left desk.standing (none_found (test head) desk.standing e) each
      where
        none_left : (standing : List Standing) → Every (λ (s : Standing). test head s ≡ false) standing → Every IsEither standing → Every P standing
        none_left [] fails either = tt
        none_left (s ∷ standing) fails either = (
          elim either.0 [
            | inl so ↦ so
            | inr answers ↦ absurd (true≢false (sym (passes head is s answers) ∙ fails.0))
          ],
          none_left standing fails.1 either.1,
        )
    by_found head is (Some t) e = by_result head is t (one_found (test head) desk.standing t e) (head.result == 3) refl

    by_head : (o : Option Head) → head_of message ≡ o → Every P (after_answer desk (answered_with desk.standing message o)).standing
    by_head None is = not_answered desk.standing (λ s a. cc (sym a.of_message ∙ is)) each
    by_head (Some head) is = by_found head is (find (test head) desk.standing) refl

    pub answered_each : Every P (after_answer desk (answered_with desk.standing message (head_of message))).standing
    answered_each = by_head (head_of message) refl
