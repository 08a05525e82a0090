-- what each task leaves, however it ends, is a front of its output

use Rattle.std.proofs.Common.{◌≡◌, ℕ, zero, suc, ◌≤◌, List, [], ◌∷◌, ◌++◌, take, drop, append_assoc, append-nil, Option, None, Some, refl, sym, ◌∙◌, ap, subst, arith}
use Rattle.std.proofs.Common.{inl, inr}
use Rattle.std.specs.Option.{option_map}
use Rattle.std.specs.Io.KnownBytes.{Appends, Consumes}
use Rattle.std.proofs.lemmas.List.{take-append-drop}
use Rattle.lab_io.specs.Transfer.{AppendsFront}
use Rattle.line_by_line.specs.declared.task.Ending.{Ending}
use Rattle.line_by_line.specs.declared.task.Ending.TheVariants.{Done, Refused, Denied}
use Rattle.world.specs.declared.counts.Meter.{Meter}
use Rattle.world_model.specs.Topology.{policy_of}
use Rattle.script_model.specs.Reports.{body_under, last_line}
use Rattle.script_model.specs.Script.{Script, script_of}
use Rattle.commands.specs.script_replay.Report as replays
use Rattle.command_line.specs.declared.command.Command.{Command}
use Rattle.command_line.specs.declared.command.Command.TheVariants as command
use Rattle.command_line.specs.Commands.{words_of, HasItsNumber}
use Rattle.command_line.specs.Reading.{asked}
use Rattle.command_line.proofs.Numbers.{drill_read}
use Rattle.commands.specs.declared.task.Task.{Task}
use Rattle.commands.specs.declared.task.Task.TheVariants.{Replay, View, Document, Drill, Whole, Lined}
use Rattle.commands.specs.Ending.{ending_status}
use Rattle.commands.specs.Run as runs
use Rattle.commands.specs.Run.{HasDone, LeavesUnread, LeavesFront, LeavesAtWant, IsAnswered, IsCutOff, IsCutShort, InUsage, InReport, IsGivenUp, Unread, InTask}
use Rattle.commands.specs.Task.{task_of, AskForTask, AskForNone, usage_line}
use Rattle.true_commands.specs.Told.{TellsTrue, HasTrueLines, output_of, OutputsAreTrue}

-- *Words ask for one task*: they are read as one command
said : List (List ℕ) → Option Command
said [] = None
said (name ∷ []) = asked name None
said (name ∷ word ∷ []) = asked name (Some word)
said (name ∷ word ∷ next ∷ words) = None

said_is : (c : Command) → HasItsNumber c → said (words_of c) ≡ Some c
unfolding said
said_is command.Replay has = refl
said_is command.ReplayToml has = refl
said_is command.Ideal has = refl
said_is command.Rules has = refl
said_is command.DecodeIfmp has = refl
said_is command.DecodeGsmp has = refl
said_is (command.Drill number) has = ap (option_map (λ (n : ℕ). command.Drill n)) (drill_read number has.0 has.1)
said_is command.Audit has = refl
said_is command.Console has = refl
said_is command.Trace has = refl
said_is command.Show has = refl
said_is command.Journal has = refl
said_is command.Capture has = refl

one_task : (words : List (List ℕ)) (a b : Task) → AskForTask words a → AskForTask words b → a ≡ b
one_task words a b first second =
    let read : Some first.command ≡ Some second.command =
    sym (said_is first.command first.asked.number) ∙ ap said (sym first.asked.words_are ∙ second.asked.words_are) ∙ said_is second.command second.asked.number in
    let same : first.command ≡ second.command = cc in
    sym first.does ∙ ap task_of same ∙ second.does

-- *Fronts* of the output
consumes_none : (left : Option (List ℕ)) → Consumes left left []
consumes_none None = tt
consumes_none (Some octets) = refl

appends_none : (written : Option (List ℕ)) → Appends written written []
appends_none None = tt
appends_none (Some octets) = sym (append-nil octets)

module _ (fronts : OutputsAreTrue) (left_old left_new written_old written_new : Option (List ℕ)) where
  abbrev Tells : Task → Type 0
  Tells task = TellsTrue task left_old left_new written_old written_new

  -- of some octets that are all that was read
  front_of : (task : Task) (input front rest : List ℕ) → Consumes left_old left_new input → Appends written_old written_new front → front ++ rest ≡ output_of task input → Tells task
  front_of task input front rest read written is = record {
    read = input;
    others = [];
    octets = front;
    consumed = subst (Consumes left_old left_new) (sym (append-nil input)) read;
    appended = written;
    lines = fronts task input front rest is;
  }

  whole_of : (task : Task) (input : List ℕ) → Consumes left_old left_new input → Appends written_old written_new (output_of task input) → Tells task
  whole_of task input read written = front_of task input (output_of task input) [] read written (append-nil (output_of task input))

  some_of : (task : Task) (input : List ℕ) → Consumes left_old left_new input → AppendsFront written_old written_new (output_of task input) → Tells task
  some_of task input read written = front_of task input (take written.count (output_of task input)) (drop written.count (output_of task input)) read written.appended
      (take-append-drop written.count (output_of task input))

  none_of : (task : Task) → runs.IsSilent left_old left_new written_old written_new → Tells task
  none_of task silent = front_of task silent.read.octets [] (output_of task silent.read.octets) silent.read.consumed silent.written refl

  -- *Scripts*: a front of the lines of records, for whole lines that were read
  body_of : (whole rest front lacking : List ℕ) → Consumes left_old left_new (whole ++ rest) → Appends written_old written_new front
      → front ++ lacking ≡ body_under (policy_of (script_of whole).topology) (script_of whole) → Tells Replay
  body_of whole rest front lacking read written is =
      let script : Script = script_of whole in
      let last : List ℕ = last_line (policy_of script.topology) script in
      record {
        read = whole;
        others = rest;
        octets = front;
        consumed = read;
        appended = written;
        lines = fronts Replay whole front (lacking ++ last) (sym (append_assoc front lacking last) ∙ ap (λ (xs : List ℕ). xs ++ last) is);
      }

  replay_front : replays.IsFront (replays.report_by policy_of) (replays.body_by policy_of) left_old left_new written_old written_new → Tells Replay
  replay_front (replays.in_lines whole rest are written) =
      let body : List ℕ = body_under (policy_of (script_of whole).topology) (script_of whole) in
      body_of whole rest (take written.count body) (drop written.count body) are.read written.appended (take-append-drop written.count body)
  replay_front (replays.at_last input is written) = some_of Replay input is.read written

  -- *A drill* reads nothing
  unread : left_new ≡ left_old → Consumes left_old left_new []
  unread same = subst (λ (left : Option (List ℕ)). Consumes left_old left []) (sym same) (consumes_none left_old)

  drill_front : (number : ℕ) → runs.IsDrillFront number left_old left_new written_old written_new → Tells (Drill number)
  drill_front number front = some_of (Drill number) [] (unread front.unread) front.written

  -- *Each way to end*
  done_told : (task : Task) (before meter : Meter) (ending : Ending) → HasDone task left_old left_new written_old written_new before meter ending
      → HasTrueLines task left_old left_new written_old written_new
  done_told Replay before meter Done d = whole_of Replay d.input d.is_read.read d.written
  done_told Replay before meter Refused d = whole_of Replay d.input d.is_read.read d.written
  done_told Replay before meter Denied d = absurd d
  done_told (View view) before meter ending d = tt
  done_told Document before meter Done d = whole_of Document d.input d.is_read.read d.written
  done_told Document before meter Refused d = whole_of Document d.input d.is_read.read d.written
  done_told Document before meter Denied d = absurd d
  done_told (Drill number) before meter Done d = whole_of (Drill number) [] (unread d.unread) d.written
  done_told (Drill number) before meter Refused d = whole_of (Drill number) [] (unread d.unread) d.written
  done_told (Drill number) before meter Denied d = absurd d
  done_told (Whole whole) before meter ending d = tt
  done_told (Lined lined) before meter ending d = tt

  unread_told : (task : Task) → LeavesUnread task left_old left_new written_old written_new → HasTrueLines task left_old left_new written_old written_new
  unread_told Replay cut = body_of cut.whole cut.rest cut.told cut.lacking cut.lines.read cut.written cut.all
  unread_told (View view) cut = tt
  unread_told Document silent = none_of Document silent
  unread_told (Drill number) never = absurd never
  unread_told (Whole whole) silent = tt
  unread_told (Lined lined) cut = tt

  front_told : (task : Task) → LeavesFront task left_old left_new written_old written_new → HasTrueLines task left_old left_new written_old written_new
  front_told Replay front = replay_front front
  front_told (View view) front = tt
  front_told Document front = some_of Document front.input front.is_read.read front.written
  front_told (Drill number) front = drill_front number front
  front_told (Whole whole) front = tt
  front_told (Lined lined) front = tt

  want_told : (task : Task) → LeavesAtWant task left_old left_new written_old written_new → HasTrueLines task left_old left_new written_old written_new
  want_told Replay front = replay_front front
  want_told (View view) front = tt
  want_told Document (inl silent) = none_of Document silent
  want_told Document (inr front) = some_of Document front.input front.is_read.read front.written
  want_told (Drill number) front = drill_front number front
  want_told (Whole whole) left = tt
  want_told (Lined lined) left = tt

  silent_told : (task : Task) → runs.IsSilent left_old left_new written_old written_new → HasTrueLines task left_old left_new written_old written_new
  silent_told Replay silent = none_of Replay silent
  silent_told (View view) silent = tt
  silent_told Document silent = none_of Document silent
  silent_told (Drill number) silent = none_of (Drill number) silent
  silent_told (Whole whole) silent = tt
  silent_told (Lined lined) silent = tt

  -- nothing was read or written
  still : left_new ≡ left_old → written_new ≡ written_old → runs.IsSilent left_old left_new written_old written_new
  still same kept = record {
    read = record { octets = []; consumed = unread same };
    written = subst (λ (written : Option (List ℕ)). Appends written_old written []) (sym kept) (appends_none written_old);
  }

  -- *Of a run* of a command
  module _ (words : List (List ℕ)) (task : Task) (asks : AskForTask words task) where
    abbrev Told : Task → Type 0
    Told other = HasTrueLines other left_old left_new written_old written_new

    at_task : (other : Task) → AskForTask words other → Told other → Told task
    at_task other is told = subst Told (one_task words other task is asks) told

    answered_told : (before meter : Meter) (ending : Ending) → IsAnswered words left_old left_new written_old written_new before meter ending → Told task
    answered_told before meter ending a = at_task a.task a.asked (done_told a.task before meter ending a.done)

    short_told : IsCutShort words left_old left_new written_old written_new → Told task
    short_told (InUsage none written) = absurd (none task asks)
    short_told (InReport other is front) = at_task other is (front_told other front)

    given_up_told : IsGivenUp words left_old left_new written_old written_new → Told task
    given_up_told (Unread same kept) = silent_told task (still same kept)
    given_up_told (InTask other is left) = at_task other is (want_told other left)

    -- whatever its status
    pub run_told : (before meter : Meter) (status : ℕ) → status ≤ 6
        → (status ≡ 1 → AskForNone words × Appends written_old written_new usage_line)
        → ((ending : Ending) → status ≡ ending_status ending → IsAnswered words left_old left_new written_old written_new before meter ending)
        → (status ≡ 3 → IsCutOff words left_old left_new written_old written_new)
        → (status ≡ 4 → IsCutShort words left_old left_new written_old written_new)
        → (status ≡ 5 → IsGivenUp words left_old left_new written_old written_new)
        → Told task
    run_told before meter zero range usage answered cut_off cut given_up = answered_told before meter Done (answered Done refl)
    run_told before meter (suc zero) range usage answered cut_off cut given_up = absurd ((usage refl).0 task asks)
    run_told before meter (suc (suc zero)) range usage answered cut_off cut given_up = answered_told before meter Refused (answered Refused refl)
    run_told before meter (suc (suc (suc zero))) range usage answered cut_off cut given_up =
        let c : IsCutOff words left_old left_new written_old written_new = cut_off refl in
        at_task c.task c.asked (unread_told c.task c.left)
    run_told before meter (suc (suc (suc (suc zero)))) range usage answered cut_off cut given_up = short_told (cut refl)
    run_told before meter (suc (suc (suc (suc (suc zero))))) range usage answered cut_off cut given_up = given_up_told (given_up refl)
    run_told before meter (suc (suc (suc (suc (suc (suc zero)))))) range usage answered cut_off cut given_up = answered_told before meter Denied (answered Denied refl)
    run_told before meter (suc (suc (suc (suc (suc (suc (suc n))))))) range usage answered cut_off cut given_up = absurd (omega (arith, range))
