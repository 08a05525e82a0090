-- what a command wrote over octets in memory is what its task gives of all of them

use Rattle.std.proofs.Common.{◌≡◌, ℕ, zero, suc, ◌<◌, ◌≤◌, ◌==◌, Bool, true, false, true≢false, List, [], ◌++◌, length, length-append, take, append-nil, Option, None, Some, Result, Err, refl, sym, ◌∙◌, ap, subst, arith, inl, inr}
use Rattle.std.specs.Prelude.{◌⊎◌, nat_le, IfSome, if◌then◌else◌}
use Rattle.std.specs.Io.KnownBytes.{Appends}
use Rattle.std.proofs.lemmas.Bool.Decides.{nat_tests, Decides-eqb}
use Rattle.std.proofs.lemmas.List.{take_all, take_at}
use Rattle.lab_text.specs.Words as lined_words
use Rattle.lab_io.specs.Fault.{Rose, count_after}
use Rattle.lab_io.specs.Memory.{written_over}
use Rattle.line_by_line.specs.declared.task.Ending.{Ending}
use Rattle.line_by_line.specs.declared.task.Ending.TheVariants.{Done, Refused, Denied}
use Rattle.line_by_line.specs.Account.{Account, report as account_report}
use Rattle.line_by_line.specs.Report as lines
use Rattle.world.specs.declared.counts.Meter.{Meter}
use Rattle.world_model.specs.Topology.{policy_of}
use Rattle.script_model.specs.declared.refusal.DocumentRefusal.{DocumentRefusal}
use Rattle.script_model.specs.declared.refusal.DocumentRefusal.TheVariants.{ScriptTooLong}
use Rattle.script_model.specs.Documents.{Lines, document_of, script_in, rules_in, policy_with}
use Rattle.script_model.specs.Reports.{report, report_under}
use Rattle.script_model.specs.Script.{Script, script_of}
use Rattle.telling_model.specs.Placed.{Placed, placed_of}
use Rattle.commands.specs.script_replay.Report as replays
use Rattle.commands.specs.declared.task.Task.{Task}
use Rattle.commands.specs.declared.task.Task.TheVariants.{Replay, View, Document, Drill, Whole, Lined}
use Rattle.commands.specs.declared.task.View as views
use Rattle.commands.specs.declared.task.Whole as wholes
use Rattle.commands.specs.declared.task.Lined as lineds
use Rattle.commands.specs.Ending.{ending_status, status_of}
use Rattle.commands.specs.Lined.{lined_account}
use Rattle.commands.specs.Run as runs
use Rattle.commands.specs.Run.{HasDone, IsAnswered, IsReport}
use Rattle.commands.specs.Task.{AskForNone, AskForTask, usage_line}
use Rattle.commands.specs.View.{view_account}
use Rattle.true_commands.specs.Law.{IsTrueTask, TasksAreTrue}
use Rattle.true_commands.specs.Told.{AreTaskLines, OutputsAreTrue}
use Rattle.true_commands.specs.Call.{Gives, IsOutput, OfTask, OfNone, Given, NoRoom, IsCall}

-- *Up to the limit*, what was read is what was there
below_or_at : (i n : ℕ) → i ≤ n → (i < n) ⊎ (n ≡ i)
below_or_at zero zero h = inr refl
below_or_at zero (suc n) h = inl (omega arith)
below_or_at (suc i) zero h = absurd (omega arith)
below_or_at (suc i) (suc n) h = elim (below_or_at i n (omega arith)) [ inl low ↦ inl (omega arith) | inr at ↦ inr (omega arith) ]

first_of : (there read left : List ℕ) → there ≡ read ++ left → length read ≤ 16777217 → (length read < 16777217 → left ≡ []) → read ≡ take 16777217 there
first_of there read left e within whole =
    elim (below_or_at (length read) 16777217 within) [
      | inl low ↦ sym (rw (e, whole low, append-nil read) (take_all 16777217 read within))
      | inr at ↦ sym (rw e (take_at read left 16777217 (sym at)))
    ]

-- *A document* that is as long as the limit is refused, whatever follows
long_document : (octets : List ℕ) → 16777217 ≤ length octets → document_of octets ≡ Err ScriptTooLong
unfolding document_of
long_document octets long = let yes : nat_le 16777217 (length octets) ≡ true = grind (nat_tests, arith, long) in rw yes refl

same_document : (there read left : List ℕ) → there ≡ read ++ left → length read ≤ 16777217 → (length read < 16777217 → left ≡ []) → document_of read ≡ document_of there
same_document there read left e within whole =
    elim (below_or_at (length read) 16777217 within) [
      | inl low ↦ ap document_of (sym (e ∙ (ap (λ (xs : List ℕ). read ++ xs) (whole low) ∙ append-nil read)))
      | inr at ↦ long_document read (omega (arith, at))
          ∙ sym (long_document there (omega (arith, at, ap length e, length-append read left)))
    ]

module _ (input left output : List ℕ) (before meter : Meter) where
  -- *A script*
  script_read : (read : List ℕ) → replays.IsReadOut (Some input) (Some left) read → script_of read ≡ script_of input
  script_read read is =
      let whole : input ≡ read ++ left = is.read in
      sym (is.settled left refl) ∙ ap script_of (sym whole)

  placed_read : (read : List ℕ) → replays.IsReadOut (Some input) (Some left) read → placed_of read ≡ placed_of input
  placed_read read is =
      let whole : input ≡ read ++ left = is.read in
      sym (is.placed left refl) ∙ ap placed_of (sym whole)

  replayed : (refused : Bool) → replays.IsDone policy_of (replays.report_by policy_of) (Some input) (Some left) (Some []) (Some output) before meter refused
      → Gives Replay input output
  replayed refused done =
      let shown : output ≡ report (script_of done.input) = done.written in
      shown ∙ ap report (script_read done.input done.is_read)

  viewed : (view : views.View) (refused : Bool) → replays.IsDone policy_of (view_account view) (Some input) (Some left) (Some []) (Some output) before meter refused
      → Gives (View view) input output
  viewed view refused done =
      let shown : output ≡ view_account view (script_of done.input) (placed_of done.input) = done.written in
      shown ∙ ap (λ (script : Script). view_account view script (placed_of done.input)) (script_read done.input done.is_read)
      ∙ ap (λ (placed : List Placed). view_account view (script_of input) placed) (placed_read done.input done.is_read)

  -- *A document*
  documented : (refused : Bool) → runs.IsDocumentDone (Some input) (Some left) (Some []) (Some output) before meter refused → Gives Document input output
  documented refused done =
      let shown : output ≡ report_under (policy_with (rules_in (document_of done.input)) (script_in (document_of done.input)).topology) (script_in (document_of done.input)) = done.written in
      shown ∙ ap (λ (found : Result Lines DocumentRefusal). report_under (policy_with (rules_in found) (script_in found).topology) (script_in found))
      (same_document input done.input left done.is_read.read done.is_read.within done.is_read.whole)

  -- *A whole input*
  reported : (whole : wholes.Whole) (refused : Bool) → runs.IsDone whole (Some input) (Some left) (Some []) (Some output) refused → Gives (Whole whole) input output
  reported whole refused done =
      let shown : output ≡ done.report = done.written in
      let first : done.input ≡ take 16777217 input = first_of input done.input left done.is_read.read done.is_read.within done.is_read.whole in
      subst (λ (octets : List ℕ). IsReport whole octets output) first (subst (λ (octets : List ℕ). IsReport whole done.input octets) (sym shown) done.is_report)

  -- *Lines*
  lined : (task : lineds.Lined) (ending : Ending) → lines.IsDone (lined_account task) (Some input) (Some left) (Some []) (Some output) ending → Gives (Lined task) input output
  lined task ending done =
      let shown : output ≡ account_report (lines.account_of (lined_account task) done.input) = done.written in
      let whole : input ≡ done.input ++ left = done.is_read.read in
      shown ∙ ap (λ (account : Account Ending). account_report account)
      (sym (done.is_read.settled left refl) ∙ ap (λ (octets : List ℕ). lines.account_of (lined_account task) octets) (sym whole))

  gives : (task : Task) (ending : Ending) → HasDone task (Some input) (Some left) (Some []) (Some output) before meter ending → Gives task input output
  gives Replay Done d = replayed _ d
  gives Replay Refused d = replayed _ d
  gives Replay Denied d = absurd d
  gives (View view) Done d = viewed view _ d
  gives (View view) Refused d = viewed view _ d
  gives (View view) Denied d = absurd d
  gives Document Done d = documented _ d
  gives Document Refused d = documented _ d
  gives Document Denied d = absurd d
  gives (Drill number) Done d = d.written
  gives (Drill number) Refused d = d.written
  gives (Drill number) Denied d = absurd d
  gives (Whole whole) Done d = reported whole _ d.0
  gives (Whole whole) Refused d = reported whole _ d.0
  gives (Whole whole) Denied d = absurd d.0
  gives (Lined task) ending d = lined task ending d.0

  -- *Its lines* are true
  task_lines : OutputsAreTrue → (task : Task) → Gives task input output → AreTaskLines task input output
  task_lines fronts Replay is = fronts Replay input output [] (append-nil output ∙ is)
  task_lines fronts (View view) is = tt
  task_lines fronts Document is = fronts Document input output [] (append-nil output ∙ is)
  task_lines fronts (Drill number) is = fronts (Drill number) input output [] (append-nil output ∙ is)
  task_lines fronts (Whole whole) is = tt
  task_lines fronts (Lined task) is = tt

  -- *A run* that no fault ended
  module _ (fronts : OutputsAreTrue) (words : List (List ℕ)) (status : ℕ) (wanted : status ≡ 5 → ⊥)
      (complete : (task : Task) → AskForTask words task → (status ≡ status_of task input) ⊎ (status ≡ 5)) where
    ended : (ending : Ending) → IsAnswered words (Some input) (Some left) (Some []) (Some output) before meter ending → IsOutput words input output status
    ended ending a =
        let is : Gives a.task input output = gives a.task ending a.done in
        OfTask a.task a.asked is (task_lines fronts a.task is) (elim (complete a.task a.asked) [ inl at ↦ at | inr want ↦ absurd (wanted want) ])

    told : (number : ℕ) → status ≡ number → number ≤ 6 → (number ≡ 3 → ⊥) → (number ≡ 4 → ⊥)
        → (status ≡ 1 → AskForNone words × (output ≡ usage_line))
        → ((ending : Ending) → status ≡ ending_status ending → IsAnswered words (Some input) (Some left) (Some []) (Some output) before meter ending)
        → IsOutput words input output status
    told zero is range unread unwritten usage answered = ended Done (answered Done is)
    told (suc zero) is range unread unwritten usage answered = OfNone (usage is).0 (usage is).1 is
    told (suc (suc zero)) is range unread unwritten usage answered = ended Refused (answered Refused is)
    told (suc (suc (suc zero))) is range unread unwritten usage answered = absurd (unread refl)
    told (suc (suc (suc (suc zero)))) is range unread unwritten usage answered = absurd (unwritten refl)
    told (suc (suc (suc (suc (suc zero))))) is range unread unwritten usage answered = absurd (wanted is)
    told (suc (suc (suc (suc (suc (suc zero)))))) is range unread unwritten usage answered = ended Denied (answered Denied is)
    told (suc (suc (suc (suc (suc (suc (suc n))))))) is range unread unwritten usage answered = absurd (omega (arith, range))

-- *Faults*: a source that has none, and a sink whose write didn't fail
no_read : (failed : Bool) → 0 ≡ count_after failed 0 → failed ≡ true → ⊥
no_read true is e = omega (arith, is)
no_read false is e = true≢false (sym e)

no_write : (failed : Bool) (old new : ℕ) → (failed ≡ true → ⊥) → old ≡ 0 → new ≡ count_after failed old → Rose old new → ⊥
no_write true old new fails none is rose = fails refl
no_write false old new fails none is rose =
    let same : new ≡ 0 = is ∙ none in
    let risen : Rose 0 0 = subst (λ (n : ℕ). Rose 0 n) same (subst (λ (n : ℕ). Rose n new) none rose) in
    omega (arith, risen)

no_rise : Rose 0 0 → ⊥
no_rise rose = omega (arith, rose)

-- *A run whose status is kept* has its output, of an input that the source tells, in a sink that had taken nothing
pub is_output : (fronts : OutputsAreTrue) (words : List (List ℕ)) (seen left start output : List ℕ) (before meter : Meter) (status old new : ℕ) (input : List ℕ)
    → seen ≡ input → start ≡ [] → old ≡ 0 → status ≤ 6 → 0 ≡ count_after (status == 3) 0 → new ≡ count_after (status == 4) old
    → (status ≡ 1 → AskForNone words × Appends (Some start) (Some output) usage_line)
    → ((ending : Ending) → status ≡ ending_status ending → IsAnswered words (Some seen) (Some left) (Some start) (Some output) before meter ending)
    → ((task : Task) (given : List ℕ) → AskForTask words task → Some seen ≡ Some given → (Rose 0 0 → ⊥) → (Rose old new → ⊥) → (status ≡ status_of task given) ⊎ (status ≡ 5))
    → (found : Option ℕ) → IfSome found (λ kept. (kept ≡ status) × ((kept ≡ 4 → ⊥) × (kept ≡ 5 → ⊥)))
    → IfSome found (λ kept. IsOutput words input output kept)
is_output fronts words seen left start output before meter status old new input same empty sound range read write usage answered complete None kept = tt
is_output fronts words seen left start output before meter status old new input same empty sound range read write usage answered complete (Some number) kept =
    let is : status ≡ number = sym kept.0 in
    let unwritten : status ≡ 4 → ⊥ = λ e. kept.1.0 (kept.0 ∙ e) in
    let wanted : status ≡ 5 → ⊥ = λ e. kept.1.1 (kept.0 ∙ e) in
    let unread : status ≡ 3 → ⊥ = λ e. no_read (status == 3) read ((Decides-eqb status 3).1 e) in
    let unrisen : Rose old new → ⊥ = no_write (status == 4) old new (λ e. unwritten ((Decides-eqb status 4).0 e)) sound write in
    let whole : IsOutput words seen output status =
    told seen left output before meter fronts words status wanted
    (λ task asks. complete task seen asks refl no_rise unrisen)
    status refl range unread unwritten
    (λ e. ((usage e).0, subst (λ (front : List ℕ). output ≡ front ++ usage_line) empty (usage e).1))
    (λ ending e. subst (λ (front : List ℕ). IsAnswered words (Some seen) (Some left) (Some front) (Some output) before meter ending) empty (answered ending e))
    in
    subst (λ (octets : List ℕ). IsOutput words octets output number) same (subst (λ (n : ℕ). IsOutput words seen output n) is whole)

-- *A call*
module _ (true_tasks : TasksAreTrue) (text input room_old room_new shown output : List ℕ) (words : List (List ℕ)) (count status : ℕ)
    (words_are : words ≡ lined_words.words text) (is : IsOutput words input output status) (same : shown ≡ output) (count_is : count ≡ length shown) where
  output_of_text : IsOutput (lined_words.words text) input output status
  output_of_text = subst (λ (ws : List (List ℕ)). IsOutput ws input output status) words_are is

  count_of_output : count ≡ length output
  count_of_output = count_is ∙ ap (λ (xs : List ℕ). length xs) same

  headline : (task : Task) (any : List ℕ) → AskForTask (lined_words.words text) task → IsTrueTask task any
  headline task any asks = true_tasks task any

  pub fits : (result : Bool) → result ≡ true → result ≡ nat_le (length shown) (length room_old)
      → room_new ≡ (if result then written_over room_old shown else room_old) → IsCall text input room_old room_new count status
  fits false is tested room = absurd (true≢false (sym is))
  fits true is tested room =
      let within : length shown ≤ length room_old = grind (nat_tests, arith, tested) in
      record {
        leaves = Given output output_of_text (subst (λ (xs : List ℕ). length xs ≤ length room_old) same within)
            (room ∙ ap (λ (xs : List ℕ). written_over room_old xs) same) count_of_output;
        headline = headline;
      }

  pub exceeds : (result : Bool) → result ≡ false → result ≡ nat_le (length shown) (length room_old)
      → room_new ≡ (if result then written_over room_old shown else room_old) → IsCall text input room_old room_new count 4
  exceeds true is tested room = absurd (true≢false is)
  exceeds false is tested room =
      let beyond : length room_old < length shown = grind (nat_tests, arith, tested) in
      record {
        leaves = NoRoom output status output_of_text (subst (λ (xs : List ℕ). length room_old < length xs) same beyond) room count_of_output refl;
        headline = headline;
      }
