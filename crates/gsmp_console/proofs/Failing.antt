-- A failure is of a request of the message's type

use Rattle.std.proofs.Common.{◌≡◌, ℕ, Bool, true, false, cond, ◌==◌, ◌&&◌, List, [], ◌∷◌, Option, None, Some, find, refl, ap, sym, ◌∙◌}
use Rattle.std.specs.Prelude.{if◌then◌else◌}
use Rattle.adjacency_table.specs.Side.{is_estab}
use Rattle.link_model.specs.Notes.{Journal}
use Rattle.gsmp_wire.specs.declared.message.BranchKind.{BranchKind}
use Rattle.gsmp_wire.specs.declared.message.BranchKind.TheVariants as kinds
use Rattle.gsmp_wire.specs.declared.message.Message.{Message}
use Rattle.gsmp_wire.specs.declared.message.Message.TheVariants as messages
use Rattle.gsmp_wire.specs.declared.request.Request.{Request}
use Rattle.gsmp_wire.specs.declared.request.Request.TheVariants.{AddBranch, MoveBranch, DeleteTree, VerifyTree, DeleteAll, PortManagement, AllPorts}
use Rattle.port_model.specs.Desk.{Desk, Standing}
use Rattle.port_model.specs.DeskAnswers.{Answered, Unknown, Done, Ports, Failed, Head, head_of, is_of_type, after_answer, answered, answered_with, outcome, succeeded}
use Rattle.controller_requests.specs.declared.answer.Answer.TheVariants as book
use Rattle.controller_requests.specs.Answers.{told}
use Rattle.console_model.specs.Lab.{Console, Lab}
use Rattle.console_model.specs.Hearing.{answer_comes, answers_by, fails, takes_answer}
use Rattle.gsmp_console.specs.Bench.{Held, fails_at, lab_in}

find_passes : {X : Type 0} (p : X → Bool) (xs : List X) (x : X) → find p xs ≡ Some x → p x ≡ true
find_passes p [] x h = absurd (cc h)
find_passes p (y ∷ ys) x h = by (find_passes p ys x) (p y) refl h where
  by : (find p ys ≡ Some x → p x ≡ true) → (b : Bool) → p y ≡ b → cond b (Some y) (find p ys) ≡ Some x → p x ≡ true
  by rest true e h = let same : y ≡ x = cc h in rw (← same) e
  by rest false e h = rest h

right : (a b : Bool) → (a && b) ≡ true → b ≡ true
right true b h = h
right false b h = absurd (cc h)

no_failure : (m : Message) (x s : Standing) (code : ℕ) → succeeded m x ≡ Failed s code → ⊥
no_failure (messages.Adjacency greeting) x s code h = cc h
no_failure (messages.Branch kind result cause number session input_port input output_port output branches priority) x s code h = cc h
no_failure (messages.Move result cause number session input_port input output_port output target_port target branches priority) x s code h = cc h
no_failure (messages.Port result cause number port session function) x s code h = cc h
no_failure (messages.AllPorts result cause number rows) x s code h = cc h

same_failed : (m : Message) (x s : Standing) (cause code : ℕ) (three four : Bool)
    → cond three (succeeded m x) (cond four (Failed x cause) Unknown) ≡ Failed s code → x ≡ s
same_failed m x s cause code true four h = absurd (no_failure m x s code h)
same_failed m x s cause code false true h = cc h
same_failed m x s cause code false false h = absurd (cc h)

module _ (standing : List Standing) (m : Message) (s : Standing) (code : ℕ) where
  type_of : (head : Head) (found : Option Standing)
      → find (λ y. y.number == head.number && is_of_type m y.request) standing ≡ found → outcome m head found ≡ Failed s code → is_of_type m s.request ≡ true
  type_of head None is h = absurd (cc h)
  type_of head (Some x) is h =
      let same : x ≡ s = same_failed m x s head.code code (head.result == 3) (head.result == 4) h in
      right (s.number == head.number) _ (rw (← same) (find_passes (λ y. y.number == head.number && is_of_type m y.request) standing x is))

  type_with : (o : Option Head) → answered_with standing m o ≡ Failed s code → is_of_type m s.request ≡ true
  type_with None h = absurd (cc h)
  type_with (Some head) h = type_of head _ refl h

fails_alike : (lab : Lab) (m : Message) (request : Request) (code : ℕ) → is_of_type m request ≡ true → fails lab request code ≡ fails_at lab m code
fails_alike lab (messages.Adjacency greeting) request code is = absurd (cc is)
fails_alike lab (messages.Branch kind result cause number session input_port input output_port output branches priority) AllPorts code is = absurd (by kind is) where
  by : (kind : BranchKind) → is_of_type (messages.Branch kind result cause number session input_port input output_port output branches priority) AllPorts ≡ true → ⊥
  by kinds.Add is = cc is
  by kinds.Delete is = cc is
  by kinds.Verify is = cc is
  by kinds.DeleteAll is = cc is
fails_alike lab (messages.Branch kind result cause number session input_port input output_port output branches priority) (AddBranch a b) code is = refl
fails_alike lab (messages.Branch kind result cause number session input_port input output_port output branches priority) (MoveBranch a b c) code is = refl
fails_alike lab (messages.Branch kind result cause number session input_port input output_port output branches priority) (DeleteTree a) code is = refl
fails_alike lab (messages.Branch kind result cause number session input_port input output_port output branches priority) (VerifyTree a) code is = refl
fails_alike lab (messages.Branch kind result cause number session input_port input output_port output branches priority) (DeleteAll a) code is = refl
fails_alike lab (messages.Branch kind result cause number session input_port input output_port output branches priority) (PortManagement a b) code is = refl
fails_alike lab (messages.Move result cause number session input_port input output_port output target_port target branches priority) (MoveBranch a b c) code is = refl
fails_alike lab (messages.Move result cause number session input_port input output_port output target_port target branches priority) (AddBranch a b) code is = absurd (cc is)
fails_alike lab (messages.Move result cause number session input_port input output_port output target_port target branches priority) (DeleteTree a) code is = absurd (cc is)
fails_alike lab (messages.Move result cause number session input_port input output_port output target_port target branches priority) (VerifyTree a) code is = absurd (cc is)
fails_alike lab (messages.Move result cause number session input_port input output_port output target_port target branches priority) (DeleteAll a) code is = absurd (cc is)
fails_alike lab (messages.Move result cause number session input_port input output_port output target_port target branches priority) (PortManagement a b) code is = absurd (cc is)
fails_alike lab (messages.Move result cause number session input_port input output_port output target_port target branches priority) AllPorts code is = absurd (cc is)
fails_alike lab (messages.Port result cause number port session function) (PortManagement a b) code is = refl
fails_alike lab (messages.Port result cause number port session function) (AddBranch a b) code is = absurd (cc is)
fails_alike lab (messages.Port result cause number port session function) (MoveBranch a b c) code is = absurd (cc is)
fails_alike lab (messages.Port result cause number port session function) (DeleteTree a) code is = absurd (cc is)
fails_alike lab (messages.Port result cause number port session function) (VerifyTree a) code is = absurd (cc is)
fails_alike lab (messages.Port result cause number port session function) (DeleteAll a) code is = absurd (cc is)
fails_alike lab (messages.Port result cause number port session function) AllPorts code is = absurd (cc is)
fails_alike lab (messages.AllPorts result cause number rows) AllPorts code is = refl
fails_alike lab (messages.AllPorts result cause number rows) (AddBranch a b) code is = absurd (cc is)
fails_alike lab (messages.AllPorts result cause number rows) (MoveBranch a b c) code is = absurd (cc is)
fails_alike lab (messages.AllPorts result cause number rows) (DeleteTree a) code is = absurd (cc is)
fails_alike lab (messages.AllPorts result cause number rows) (VerifyTree a) code is = absurd (cc is)
fails_alike lab (messages.AllPorts result cause number rows) (DeleteAll a) code is = absurd (cc is)
fails_alike lab (messages.AllPorts result cause number rows) (PortManagement a b) code is = absurd (cc is)

failed_by : (lab : Lab) (standing : List Standing) (m : Message) (n code : ℕ) (a : Answered)
    → answered_with standing m (head_of m) ≡ a → book.Failed n code ≡ told a → answers_by lab m a ≡ fails_at lab m code
failed_by lab standing m n code Unknown e is = absurd (cc is)
failed_by lab standing m n code (Done s) e is = absurd (cc is)
failed_by lab standing m n code (Ports s rows) e is = absurd (cc is)
failed_by lab standing m n code (Failed s cause) e is =
    let same : cause ≡ code = cc is in
    fails_alike lab m s.request cause (type_with standing m s cause (head_of m) e) ∙ ap (fails_at lab m) same

-- what a failure does is told by its message
failed_is : (lab : Lab) (desk : Desk) (m : Message) (n code : ℕ) → book.Failed n code ≡ told (answered desk m) → answers_by lab m (answered desk m) ≡ fails_at lab m code
failed_is lab desk m n code is = failed_by lab desk.standing m n code (answered desk m) refl is

pub failure_taken : (h : Held) (notes : Journal) (m : Message) (k : Console) (n code : ℕ) (lab : Lab)
    → is_estab h.console.adjacency.state ≡ true → k ≡ record h.console { desk = after_answer h.console.desk (answered h.console.desk m) }
    → book.Failed n code ≡ told (answered h.console.desk m) → lab ≡ fails_at (lab_in (record h { console = k }) notes) m code
    → lab ≡ answer_comes (lab_in h notes) m
failure_taken h notes m k n code lab estab left is e =
    e
    ∙ ap (λ (x : Console). fails_at (lab_in (record h { console = x }) notes) m code) left
    ∙ sym (failed_is (lab_in (record h { console = record h.console { desk = after_answer h.console.desk (answered h.console.desk m) } }) notes) h.console.desk m n code is)
    ∙ ap (λ b. if b then takes_answer (lab_in h notes) m (answered h.console.desk m) else lab_in h notes) (sym estab)
