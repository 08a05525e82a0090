-- what a cell that comes to the console keeps

use Rattle.std.proofs.Common.{◌≡◌, ℕ, ◌+◌, ◌<◌, ◌≤◌, ◌^◌, ◌==◌, ◌&&◌, Bool, true, false, cond, not, List, [], ◌∷◌, ◌++◌, length, take, filter, find, slice_get, slice_index_or, Option, None, Some, Result, refl, sym, ◌∙◌, ap, subst, arith, inl, inr, nat_lt, if◌then◌else◌}
use Rattle.std.proofs.lemmas.Bool.Decides.{nat_tests}
use Rattle.world_model.specs.Words.{Cell, is_estab, Request, AddBranch, MoveBranch, DeleteTree, VerifyTree, PortManagement, Loss, Unbound, payload_of, Journal, tested, Reassembly, Standing, Head, Answered, Unknown, Failed, head_of, is_of_type, succeeded, outcome, answered_with, answered, without_request, after_answer}
use Rattle.world_model.specs.gsmp_wire.declared.fault.Fault.{Fault}
use Rattle.world_model.specs.gsmp_wire.declared.message.Message.{Message}
use Rattle.world_model.specs.gsmp_wire.declared.message.Message.TheVariants as messages
use Rattle.world_model.specs.gsmp_wire.declared.request.Request.TheVariants.{DeleteAll, AllPorts}
use Rattle.world_model.specs.gsmp_wire.Layout.{octets_of}
use Rattle.world_model.specs.gsmp_wire.Fields.{decoded}
use Rattle.world_model.specs.frame_model.Reassembly.{Taken, taken}
use Rattle.console_model.specs.declared.reply.Reply.{Reply}
use Rattle.console_model.specs.declared.reply.Reply.TheVariants as replies
use Rattle.console_model.specs.Lab.{Lab, free_slots, note, with_desk}
use Rattle.console_model.specs.Hearing.{answers, fails, answers_by, takes_answer, answer_comes, told, holds, opened_frame, ends_frame, gsmp_cell, is_gsmp, cell_comes}
use Rattle.console_model.specs.Steps.{without_head}
use Rattle.console_model.specs.Plain.{answer, map_after}
use Rattle.law_console.specs.Words.{Stood, Nothing, Lists, Commands, first_rows, IsCommand, SuitsList, SuitsCommand, Tells, IsTold, greeting_told, list_told, answer_told, Answers}
use Rattle.law_console.specs.Kept.{view, made_in, course, StandsAs, IsFirst, IsKept, Holds}
use Rattle.law_console.proofs.Reading.{IsGreeting, greeting, refused, greeting_read, told_read}
use Rattle.law_console.proofs.Along.{every_at}
use Rattle.law_console.proofs.Views.{on_both, renoted}
use Rattle.law_console.proofs.Chances.{IsFree, console_reads}
use Rattle.law_console.proofs.Testing.{opened, ended, taken_is}
use Rattle.law_console.proofs.Changes.{answer_taken, answer_gone, listed, answered as answered_now}
use Rattle.law_console.proofs.Asking as asking

-- what stands is found by its number and its type
abbrev fits : Message → (number : ℕ) → Standing → Bool
fits message number s = s.number == number && is_of_type message s.request

-- what is made of what was found
abbrev made_of : Lab → Message → Head → Option Standing → Lab
made_of lab message head o = answers_by (with_desk lab (after_answer lab.console.desk (outcome message head o))) message (outcome message head o)

not_both : (a b : Bool) → a ≡ false → (a && b) ≡ false
not_both true b e = absurd (cc e)
not_both false b e = refl

kept_none : (k : ℕ) (q : Request) → filter (λ (other : Standing). not (other.number == k)) (record { number = k; request = q } ∷ []) ≡ []
kept_none k q = by (k == k) same
  where
    same : (k == k) ≡ true
    same = grind (arith, nat_tests)

    by : (b : Bool) → b ≡ true → cond {A = List Standing} (not b) (record { number = k; request = q } ∷ []) [] ≡ []
    by true e = refl
    by false e = absurd (cc e)

unlike : (k n : ℕ) → (k ≡ n → ⊥) → (k == n) ≡ false
unlike k n other = grind (arith, nat_tests)

alike : (k n : ℕ) → (k == n) ≡ true → k ≡ n
alike k n e = grind (arith, nat_tests)

module _ (ports most : ℕ) where
  abbrev Is : Lab → Type 0
  Is lab = Holds ports most (view lab)

  abbrev Then : Lab → Type 0
  Then lab = Holds ports (most + 1) (view lab)

  -- *Nothing that stands* is answered
  unknown : (lab : Lab) (message : Message) (head : Head) → Is lab → Then (made_of lab message head None)
  unknown lab message head h = asking.then_more ports most lab h

  missed : (lab : Lab) (message : Message) (head : Head) (s : Standing) (b : Bool) → b ≡ false → Is lab → Then (made_of lab message head (cond b (Some s) None))
  missed lab message head s true e h = absurd (cc e)
  missed lab message head s false e h = unknown lab message head h

  -- *All Ports* is answered
  module _ (lab : Lab) (carried n : ℕ) where
    abbrev list : Message
    list = messages.AllPorts 3 0 n (first_rows ports)

    abbrev list_head : Head
    list_head = record { result = 3; code = 0; number = n }

    list_found : (k : ℕ) (b : Bool) → StandsAs lab.console.desk k AllPorts → IsKept ports most carried (Lists k) (view lab) → Then (made_of lab list list_head (cond b (Some (record { number = k; request = AllPorts })) None))
    list_found k false s h = unknown lab list list_head (record { carried = carried; stood = Lists k; kept = h })
    list_found k true s h = asking.next_asked ports most (with_desk lab (record (without_request lab.console.desk (record { number = k; request = AllPorts })) { rows = first_rows ports })) (record {
      carried = carried;
      stood = Nothing;
      kept = listed ports most carried (Lists k) (view lab) (filter (λ other. not (other.number == k)) lab.console.desk.standing) (ap (filter (λ (other : Standing). not (other.number == k))) s.standing ∙ kept_none k AllPorts) h;
    })

    list_taken : (stood : Stood) → SuitsList stood n → IsKept ports most carried stood (view lab) → Then (takes_answer lab list (answered lab.console.desk list))
    list_taken Nothing suits h = subst (λ (standing : List Standing). Then (made_of lab list list_head (find (fits list n) standing))) (sym h.stands) (unknown lab list list_head (record { carried = carried; stood = Nothing; kept = h }))
    list_taken (Lists k) suits h = (let s : StandsAs lab.console.desk k AllPorts = h.stands in
        subst (λ (standing : List Standing). Then (made_of lab list list_head (find (fits list n) standing))) (sym s.standing) (list_found k (k == n && true) s h))
    list_taken (Commands k) suits h = (let s : IsFirst ports lab.commands (length lab.answers) lab.console.desk k = h.stands in
        subst (λ (standing : List Standing). Then (made_of lab list list_head (find (fits list n) standing))) (sym s.stands.standing)
        (missed lab list list_head (record { number = k; request = s.command }) (fits list n (record { number = k; request = s.command })) (not_both (k == n) (is_of_type list s.command) (unlike k n suits))
        (record { carried = carried; stood = Commands k; kept = h })))

  -- *A command* is answered
  module _ (lab : Lab) (carried n place : ℕ) (q : Request) (message : Message) (reply : Reply) (is : IsCommand q) (low : place < carried)
      (command : slice_get lab.commands place ≡ Some q) (right : reply ≡ answer ports (map_after ports (take place lab.commands)) q) (tells : Tells q n reply message) where
    abbrev head : Head
    head = tells.head

    failed_is : (x : Lab) (q : Request) (code : ℕ) → IsCommand q → fails x q code ≡ answers x (replies.Failed code)
    failed_is x (AddBranch input output) code is = refl
    failed_is x (MoveBranch input from to) code is = refl
    failed_is x (DeleteTree input) code is = refl
    failed_is x (VerifyTree input) code is = refl
    failed_is x (DeleteAll port) code is = refl
    failed_is x (PortManagement port function) code is = absurd is
    failed_is x AllPorts code is = absurd is

    -- it stood first
    module _ (k : ℕ) (s : IsFirst ports lab.commands (length lab.answers) lab.console.desk k) (at : place ≡ length lab.answers) (h : IsKept ports most carried (Commands k) (view lab)) where
      abbrev stands : Standing
      stands = record { number = k; request = q }

      abbrev cleared : Lab
      cleared = with_desk lab (without_request lab.console.desk stands)

      same_command : s.command ≡ q
      same_command = (let both : Some s.command ≡ Some q = sym s.first ∙ ap (slice_get lab.commands) (sym at) ∙ command in cc both)

      answered_kept : Then (answers cleared reply)
      answered_kept = asking.next_asked ports most (record cleared { answers = lab.answers ++ reply ∷ [] }) (record {
        carried = carried;
        stood = Nothing;
        kept = answered_now ports most carried (Commands k) (view lab) q reply (filter (λ other. not (other.number == k)) lab.console.desk.standing)
            (ap (filter (λ (other : Standing). not (other.number == k))) s.stands.standing ∙ kept_none k s.command) (ap (slice_get lab.commands) (sym at) ∙ command) s.known
            (subst (λ (m : ℕ). m < carried) at low) (right ∙ ap (λ (m : ℕ). answer ports (map_after ports (take m lab.commands)) q) at) h;
      })

      found : Then (made_of lab message head (Some stands))
      found = elim tells.means [
        | inl success ↦ subst (λ (x : Answered). Then (answers_by (with_desk lab (after_answer lab.console.desk x)) message x))
            (sym (ap (λ (r : ℕ). if r == 3 then succeeded message stands else (if r == 4 then Failed stands head.code else Unknown)) success.0 ∙ success.2 stands))
            (subst (λ (r : Reply). Then (answers cleared r)) (sym success.1) answered_kept)
        | inr failure ↦ subst (λ (x : Answered). Then (answers_by (with_desk lab (after_answer lab.console.desk x)) message x))
            (sym (ap (λ (r : ℕ). if r == 3 then succeeded message stands else (if r == 4 then Failed stands head.code else Unknown)) failure.0))
            (subst Then (sym (failed_is cleared q head.code is)) (subst (λ (r : Reply). Then (answers cleared r)) (sym failure.1) answered_kept))
      ]

      found_as : Then (made_of lab message head (Some (record { number = k; request = s.command })))
      found_as = subst (λ (x : Request). Then (made_of lab message head (Some (record { number = k; request = x })))) (sym same_command) found

    command_found : (k : ℕ) (b : Bool) → (k == head.number) ≡ b → (s : IsFirst ports lab.commands (length lab.answers) lab.console.desk k) → (k ≡ n → place ≡ length lab.answers) → IsKept ports most carried (Commands k) (view lab)
        → (c : Bool) → Then (made_of lab message head (cond (b && c) (Some (record { number = k; request = s.command })) None))
    command_found k false e s suits h c = unknown lab message head (record { carried = carried; stood = Commands k; kept = h })
    command_found k true e s suits h false = unknown lab message head (record { carried = carried; stood = Commands k; kept = h })
    command_found k true e s suits h true = found_as k s (suits (alike k head.number e ∙ tells.number)) h

    by_stood : (stood : Stood) → SuitsCommand stood (length lab.answers) n place → IsKept ports most carried stood (view lab) → Then (made_of lab message head (find (fits message head.number) lab.console.desk.standing))
    by_stood Nothing suits h = subst (λ (standing : List Standing). Then (made_of lab message head (find (fits message head.number) standing))) (sym h.stands) (unknown lab message head (record { carried = carried; stood = Nothing; kept = h }))
    by_stood (Lists k) suits h = (let s : StandsAs lab.console.desk k AllPorts = h.stands in
        subst (λ (standing : List Standing). Then (made_of lab message head (find (fits message head.number) standing))) (sym s.standing)
        (missed lab message head (record { number = k; request = AllPorts }) (fits message head.number (record { number = k; request = AllPorts }))
        (not_both (k == head.number) (is_of_type message AllPorts) (unlike k head.number (λ e. suits (e ∙ tells.number)))) (record { carried = carried; stood = Lists k; kept = h })))
    by_stood (Commands k) suits h = (let s : IsFirst ports lab.commands (length lab.answers) lab.console.desk k = h.stands in
        subst (λ (standing : List Standing). Then (made_of lab message head (find (fits message head.number) standing))) (sym s.stands.standing)
        (command_found k (k == head.number) refl s suits h (is_of_type message s.command)))

    command_taken : (stood : Stood) → SuitsCommand stood (length lab.answers) n place → IsKept ports most carried stood (view lab) → Then (takes_answer lab message (answered lab.console.desk message))
    command_taken stood suits h = subst (λ (o : Option Head). Then (takes_answer lab message (answered_with lab.console.desk.standing message o))) (sym tells.is_head) (by_stood stood suits h)

  -- *An answer comes*
  told_is : (lab : Lab) (message : Message) (head : Head) → head_of message ≡ Some head → told lab message ≡ answer_comes lab message
  told_is lab (messages.Adjacency g) head e = absurd (cc e)
  told_is lab (messages.Branch kind result code number session input_port input output_port output branches priority) head e = refl
  told_is lab (messages.Move result code number session input_port input output_port output target_port target branches priority) head e = refl
  told_is lab (messages.Port result code number port session function) head e = refl
  told_is lab (messages.AllPorts result code number rows) head e = refl

  greeting_kept : (lab : Lab) (r : Result Message Fault) → IsGreeting r → Is lab → Then (holds lab r)
  greeting_kept lab _ (greeting g) h = asking.greeting_kept ports most lab g h
  greeting_kept lab _ (refused fault) h = asking.then_more ports most lab h

module _ (ports most : ℕ) (few : ports ≤ 8) (low : most < 2 ^ 32) (lab : Lab) (carried : ℕ) (stood : Stood) (cell : Cell) (cells : List Cell)
    (first : slice_index_or lab.switch.crossbar.queues 0 [] ≡ cell ∷ cells) (h : IsKept ports most carried stood (view lab)) where
  abbrev left : Lab
  left = without_head lab

  abbrev Ends : Lab → Type 0
  Ends x = Holds ports (most + 1) (view x)

  gone : IsKept ports most carried stood (view left)
  gone = answer_gone ports most carried stood (view lab) cell cells first h

  abbrev with_chain : Reassembly → Journal → Lab
  with_chain r notes = record left { console = record lab.console { reassembly = r }; notes = notes }

  is_kept : (r : Reassembly) (notes : Journal) → notes.frames ≡ lab.notes.frames → Holds ports most (view (with_chain r notes))
  is_kept r notes same = record { carried = carried; stood = stood; kept = renoted ports most carried stood (view left) notes.frames same gone }

  kept : (r : Reassembly) (notes : Journal) → notes.frames ≡ lab.notes.frames → Ends (with_chain r notes)
  kept r notes same = asking.then_more ports most (with_chain r notes) (is_kept r notes same)

  reads : (r : Reassembly) (payload : List ℕ) → payload_of lab.notes.frames cell.mark ≡ Some payload → Ends (holds (with_chain r lab.notes) (decoded payload))
  reads r payload made =
      let answers : Answers ports (course carried stood (view lab)) (made_in (view lab)) cell = answer_taken ports most carried stood (view lab) cell cells first h in
      let same : answers.payload ≡ payload = (let both : Some answers.payload ≡ Some payload = sym answers.of.kept ∙ made in cc both) in
      subst (λ (p : List ℕ). Ends (holds (with_chain r lab.notes) (decoded p))) same (by answers.payload answers.told)
    where
      x : Lab
      x = with_chain r lab.notes

      by : (payload : List ℕ) → IsTold ports (course carried stood (view lab)) payload → Ends (holds (with_chain r lab.notes) (decoded payload))
      by payload (greeting_told g f) = subst (λ (p : List ℕ). Ends (holds (with_chain r lab.notes) (decoded p))) (sym f)
          (greeting_kept ports most (with_chain r lab.notes) (decoded (octets_of (messages.Adjacency g))) (greeting_read g) (is_kept r lab.notes refl))
      by payload (list_told number early suits f) = subst (λ (p : List ℕ). Ends (holds (with_chain r lab.notes) (decoded p))) (sym f)
          (subst (λ (o : Result Message Fault). Ends (holds (with_chain r lab.notes) o)) (sym (told_read ports number few (omega (arith, early, h.few, low))))
          (on_both Ends (is_estab lab.console.adjacency.state) (takes_answer (with_chain r lab.notes) (messages.AllPorts 3 0 number (first_rows ports)) (answered lab.console.desk (messages.AllPorts 3 0 number (first_rows ports))))
          (with_chain r lab.notes) (list_taken ports most (with_chain r lab.notes) carried number stood suits gone) (kept r lab.notes refl)))
      by payload (answer_told number place q message done early suits command tells f) = subst (λ (p : List ℕ). Ends (holds (with_chain r lab.notes) (decoded p))) (sym f)
          (subst (λ (o : Result Message Fault). Ends (holds (with_chain r lab.notes) o)) (sym tells.read)
          (subst Ends (sym (told_is ports most (with_chain r lab.notes) message tells.head tells.is_head))
          (on_both Ends (is_estab lab.console.adjacency.state) (takes_answer (with_chain r lab.notes) message (answered lab.console.desk message)) (with_chain r lab.notes)
          (command_taken ports most (with_chain r lab.notes) carried number place q message _ (every_at IsCommand lab.commands place q h.requests command) done command refl tells stood suits gone)
          (kept r lab.notes refl))))

  -- *The cell*
  abbrev notes_of : Lab → Journal
  notes_of x = x.notes

  abbrev opens : Lab → List ℕ → Lab
  opens x payload = holds x (decoded payload)

  bridge : (r : Reassembly) (notes : Journal) (chain : List Cell) → (IsFree (ended notes_of with_chain opens r notes chain).notes → Ends (ended notes_of with_chain opens r notes chain))
      → IsFree (ends_frame (with_chain r notes) chain).notes → Ends (ends_frame (with_chain r notes) chain)
  bridge r notes [] k = k
  bridge r notes (c ∷ chain) k = by (tested notes (c ∷ chain)).payload k
    where
      after : Journal
      after = (tested notes (c ∷ chain)).notes

      by : (o : Option (List ℕ)) → (IsFree (opened notes_of with_chain opens (with_chain r after) o).notes → Ends (opened notes_of with_chain opens (with_chain r after) o))
          → IsFree (opened_frame (with_chain r after) o).notes → Ends (opened_frame (with_chain r after) o)
      by None k = k
      by (Some payload) k = k

  pub cell_kept : IsFree (cell_comes left cell).notes → Ends (cell_comes left cell)
  cell_kept = by (is_gsmp cell.header.channel)
    where
      t : Taken
      t = taken lab.notes (nat_lt 0 (free_slots lab.console)) lab.console.reassembly cell

      here : IsFree (gsmp_cell left cell).notes → Ends (gsmp_cell left cell)
      here = bridge t.reassembly t.notes t.ended
          (taken_is notes_of with_chain opens Ends lab.notes (nat_lt 0 (free_slots lab.console)) lab.console.reassembly cell
          (λ r notes payload has. console_reads (with_chain r notes) (decoded payload) has) kept reads)

      elsewhere : Lab
      elsewhere = note left (Loss cell.mark Unbound)

      by : (b : Bool) → IsFree (if b then gsmp_cell left cell else elsewhere).notes → Ends (if b then gsmp_cell left cell else elsewhere)
      by true = here
      by false = λ free. asking.then_more ports most left (record { carried = carried; stood = stood; kept = gone })
