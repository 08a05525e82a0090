-- the lines of a document are taken one after another

use Rattle.std.proofs.Common.{◌≡◌, ◌∙◌, ℕ, zero, suc, ◌≤◌, ◌==◌, Bool, true, false, List, [], ◌∷◌, ◌++◌, refl, if◌then◌else◌, length, take, drop, slice_get, Option, None, Some, Result, Ok, Err, sym, ap, subst, append-nil, arith, option_map}
use Rattle.std.proofs.lemmas.List.{take_all}
use Rattle.std.specs.Result.{IsErrAnd}
use Rattle.lab_io.specs.Report.{IsPut, Writer}
use Rattle.port_model.specs.Setup.{Policy}
use Rattle.world_model.specs.Controller.{Controller}
use Rattle.world_model.specs.Topology.{Topology}
use Rattle.script_model.specs.declared.refusal.Refused.{Refused}
use Rattle.script_model.specs.Reading.{string_says}
use Rattle.script_model.specs.Documents.{Lines, behind_rules, numbered_behind, script_texts}
use Rattle.script_model.specs.Script.{Script}
use Rattle.script_model.specs.State.{nothing_read}
use Rattle.telling_model.specs.Placed.{Placed, events_in}
use Rattle.telling_model.specs.Tale.{body, told_at_last, told_of}
use Rattle.telling_model.proofs.Scripts.{script_events}
use Rattle.net_types.specs.declared.memory.OutOfMemory.{OutOfMemory}
use Rattle.world.specs.declared.counts.Meter.{Meter}
use Rattle.lab_io.specs.declared.stop.Stop.{Stop}
use Rattle.lab_io.specs.declared.stop.Stop.TheVariants.{OutOfMemory as NoMemory}
use Rattle.network_run.specs.declared.told.Told.{Told}
use Rattle.lab_io.specs.Puts.{StopsIn}
use Rattle.lab_io.proofs.Stops.{nothing_put, put_then, stops_by}
use Rattle.network_replay.specs.declared.replay.Replay.{Replay}
use Rattle.network_replay.specs.Along.{GoesOn, IsAlong, IsAtLast, IsBegun, IsGoing, IsKept, IsMetered, IsWhole, last_told}
use Rattle.network_replay.proofs.Metered.{unread_metered}
use Rattle.network_replay.proofs.Onward.{along_ends, along_first, along_wanting}
use Rattle.network_replay.proofs.Taking.{strings_are_read}
use Rattle.network_run.specs.declared.plain.PlainTeller.{PlainTeller}
use Rattle.tell_report.specs.declared.report.ReportParts.{ReportParts}
use Rattle.tell_report.specs.Report.{report_tale}
use Rattle.law_told_scripts.proofs.Reports.{account_is_report}
use Rattle.script_replay.specs.DocumentLines.{Comes, placed_of_lines, report_by, script_behind_rules, script_of_lines}

-- *A line in its place*
record IsSplit (lines : List (List ℕ)) (place : ℕ) (text : List ℕ) : Type 0 where
  whole : lines ≡ take place lines ++ text ∷ drop (suc place) lines
  next : take (suc place) lines ≡ take place lines ++ text ∷ []

split_at : (lines : List (List ℕ)) (place : ℕ) (text : List ℕ) → slice_get lines place ≡ Some text → IsSplit lines place text
split_at [] place text e = absurd (cc)
split_at (line ∷ lines) zero text e =
    let same : line ≡ text = cc in
    record { whole = ap (λ x. x ∷ lines) same; next = ap (λ x. x ∷ []) same }
split_at (line ∷ lines) (suc place) text e =
    let rest = split_at lines place text e in
    record { whole = ap (λ xs. line ∷ xs) rest.whole; next = ap (λ xs. line ∷ xs) rest.next }

-- what one who tells a report knows
abbrev pub ReportTeller : Type 0
ReportTeller = PlainTeller ReportParts ReportParts

abbrev pub known : ReportTeller → Unit {0}
known teller = tt

module _ {C : Type 0} (seen : C → Controller) (choice : Topology → Policy) (first : Writer) (start : Option (List ℕ)) (before : Meter) (lines : List (List ℕ)) where
  abbrev pub AlongTo : ℕ → Replay C → Told ReportTeller → Option (List ℕ) → Meter → Type 0
  AlongTo place r told written meter = IsAlong seen known report_tale choice string_says first start before (take place lines) r told written meter

  abbrev ComesTo : Result (Option Refused) Stop → Replay C → Writer → Option (List ℕ) → Meter → Type 0
  ComesTo result r writer written meter = Comes seen choice first start before (script_of_lines lines) (placed_of_lines lines) result r writer written meter

  pub is_going : (place : ℕ) (r : Replay C) (told : Told ReportTeller) (written : Option (List ℕ)) (meter : Meter) → AlongTo place r told written meter → IsGoing seen choice r
  is_going place r told written meter along = record { events = events_in along.placed; network = along.network }

  pub goes_on : (place : ℕ) (text : List ℕ) → slice_get lines place ≡ Some text → (r : Replay C) (told : Told ReportTeller) (written : Option (List ℕ)) (meter : Meter)
      → GoesOn seen known report_tale choice string_says first start before (take place lines) text (Ok None) r told written meter → AlongTo (suc place) r told written meter
  goes_on place text e r told written meter along =
      subst (λ (xs : List (List ℕ)). IsAlong seen known report_tale choice string_says first start before xs r told written meter) (sym (split_at lines place text e).next) along

  -- whatever lines follow a line, they are those that do
  these : (place : ℕ) (text : List ℕ) → slice_get lines place ≡ Some text → take place lines ++ text ∷ drop (suc place) lines ≡ lines
  these place text e = sym (split_at lines place text e).whole

  pub ends_refused : (place : ℕ) (text : List ℕ) → slice_get lines place ≡ Some text → (refused : Refused) (r : Replay C) (told : Told ReportTeller) (written : Option (List ℕ)) (meter : Meter)
      → GoesOn seen known report_tale choice string_says first start before (take place lines) text (Ok (Some refused)) r told written meter
      → ComesTo (Ok (Some refused)) r told.writer written meter
  ends_refused place text e refused r told written meter last =
      let script : last.script ≡ script_of_lines lines = sym (last.same (drop (suc place) lines)) ∙ ap script_of_lines (these place text e) in
      let placed : last.placed ≡ placed_of_lines lines = sym (last.same_placed (drop (suc place) lines)) ∙ ap placed_of_lines (these place text e) in
      subst (λ (s : Script). IsAtLast seen report_tale choice first start before s (placed_of_lines lines) (Some refused) r told.writer written meter) script
      (subst (λ (events : List Placed). IsAtLast seen report_tale choice first start before last.script events (Some refused) r told.writer written meter) placed last.last)

  pub ends_early : (place : ℕ) (text : List ℕ) → slice_get lines place ≡ Some text → (stop : Stop) (r : Replay C) (told : Told ReportTeller) (written : Option (List ℕ)) (meter : Meter)
      → GoesOn seen known report_tale choice string_says first start before (take place lines) text (Err stop) r told written meter
      → ComesTo (Err stop) r told.writer written meter
  ends_early place text e stop r told written meter front =
      subst (λ (xs : List (List ℕ)). StopsIn stop first told.writer start written (body report_tale (choice (script_of_lines xs).topology) (script_of_lines xs) (placed_of_lines xs))) (these place text e)
      (front (drop (suc place) lines))

  -- no room for a line
  pub ends_without_room : (place : ℕ) (text : List ℕ) → slice_get lines place ≡ Some text → (error : OutOfMemory) (r : Replay C) (told : Told ReportTeller) (written : Option (List ℕ)) (meter : Meter)
      → AlongTo place r told written meter → ComesTo (Err (NoMemory error)) r told.writer written meter
  ends_without_room place text e error r told written meter along =
      ends_early place text e (NoMemory error) r told written meter
      (λ others. along_wanting report_tale choice seen known string_says strings_are_read first start written before meter (take place lines) others text r told error along)

  -- and the meter
  pub kept_early : (place : ℕ) (text : List ℕ) → slice_get lines place ≡ Some text → (stop : Stop) (meter : Meter) → IsKept choice string_says before (take place lines) text (Err stop) meter
      → IsMetered choice before (script_of_lines lines) meter
  kept_early place text e stop meter kept = subst (λ (xs : List (List ℕ)). IsMetered choice before (script_of_lines xs) meter) (these place text e) (kept (drop (suc place) lines))

  pub kept_without_room : (place : ℕ) (text : List ℕ) → slice_get lines place ≡ Some text → (r : Replay C) (told : Told ReportTeller) (written : Option (List ℕ)) (meter : Meter)
      → AlongTo place r told written meter → IsMetered choice before (script_of_lines lines) meter
  kept_without_room place text e r told written meter along =
      subst (λ (xs : List (List ℕ)). IsMetered choice before (script_of_lines xs) meter) (these place text e)
      (unread_metered seen choice string_says strings_are_read (take place lines) text before r.state r.notes r.world along.placed along.taken along.network meter along.meter_is (drop (suc place) lines))

  pub ends : (place : ℕ) → length lines ≤ place → (r : Replay C) (told : Told ReportTeller) (written : Option (List ℕ)) (meter : Meter) → AlongTo place r told written meter
      → ComesTo (Ok None) r told.writer written meter
  ends place all r told written meter along =
      subst (λ (xs : List (List ℕ)). IsAtLast seen report_tale choice first start before (script_of_lines xs) (placed_of_lines xs) None r told.writer written meter) (take_all place lines all)
      (along_ends report_tale choice seen known string_says strings_are_read first told start written before meter (take place lines) r along)

pub begins : {C : Type 0} (seen : C → Controller) (choice : Topology → Policy) (told : Told ReportTeller) (start : Option (List ℕ)) (before : Meter) (lines : List (List ℕ)) (r : Replay C) → IsBegun r
    → AlongTo seen choice told.writer start before lines 0 r told start before
begins seen choice told start before lines r begun = along_first report_tale choice seen known string_says told start before r begun.state begun.notes begun.world

-- *Numbered behind rules*, the script is as whole
pub whole_behind : {C : Type 0} (seen : C → Controller) (choice : Topology → Policy) (count : ℕ) (script : Script) (placed : List Placed) (refused told : Option Refused) (r : Replay C) → told ≡ option_map (numbered_behind count) refused
    → IsWhole seen choice script placed refused r → IsWhole seen choice (behind_rules count script) placed told r
whole_behind seen choice count script placed refused told r is whole = record {
  topology = whole.topology;
  event_lines = whole.event_lines;
  refusal = ap (option_map (numbered_behind count)) whole.refusal ∙ sym is;
  events = whole.events;
  network = whole.network;
}

-- *The script behind rules*: of its events the same is told
module _ (choice : Topology → Policy) (lines : Lines) where
  abbrev script : Script
  script = script_behind_rules lines

  abbrev placed : List Placed
  placed = placed_of_lines (script_texts lines)

  abbrev policy : Policy
  policy = choice script.topology

  -- what is told at last stands behind what was told before, and together they are the report
  whole_report : body report_tale policy script placed ++ last_told report_tale policy script placed ≡ report_by choice script
  whole_report =
      by (script.event_lines == 0) (told_of report_tale policy script.topology placed).octets (told_at_last report_tale policy script)
      ∙ account_is_report policy script placed (script_events string_says nothing_read (script_texts lines))
    where
      by : (b : Bool) (octets last : List ℕ) → (if b then [] else octets) ++ ((if b then octets else []) ++ last) ≡ octets ++ last
      by true octets last = refl
      by false octets last = refl

  -- *The report*
  pub report_put : (a b c : Writer) (x y z : Option (List ℕ)) → IsPut a b x y (body report_tale policy script placed) → IsPut b c y z (last_told report_tale policy script placed) → IsPut a c x z (report_by choice script)
  report_put a b c x y z before last =
      subst (IsPut a c x z) whole_report (put_then a b c x y z (body report_tale policy script placed) (last_told report_tale policy script placed) before last)

  -- or a front of it
  pub report_cut : (stop : Stop) (a c : Writer) (x z : Option (List ℕ)) → StopsIn stop a c x z (body report_tale policy script placed) → StopsIn stop a c x z (report_by choice script)
  report_cut stop a c x z front =
      subst (StopsIn stop a c x z) whole_report
      (stops_by stop a a c x x z [] (body report_tale policy script placed) (last_told report_tale policy script placed) (nothing_put a x) front)

  pub last_cut : (stop : Stop) (a b c : Writer) (x y z : Option (List ℕ)) → IsPut a b x y (body report_tale policy script placed) → StopsIn stop b c y z (last_told report_tale policy script placed)
      → StopsIn stop a c x z (report_by choice script)
  last_cut stop a b c x y z before front =
      subst (StopsIn stop a c x z) (ap (λ xs. body report_tale policy script placed ++ xs) (append-nil (last_told report_tale policy script placed)) ∙ whole_report)
      (stops_by stop a b c x y z (body report_tale policy script placed) (last_told report_tale policy script placed) [] before front)

-- *Past the last line* there is none
pub past_last : (lines : List (List ℕ)) (place : ℕ) → slice_get lines place ≡ None → length lines ≤ place
past_last [] place none = omega arith
past_last (line ∷ lines) zero none = absurd (cc none)
past_last (line ∷ lines) (suc place) none = omega (arith, past_last lines place none)

-- *A fault handed on* is the one that came
pub err_is : {A : Type 0} (result : Result A Stop) (stop : Stop) → IsErrAnd result (λ (s : Stop). s ≡ stop) → result ≡ Err stop
err_is (Ok value) stop h = absurd h
err_is (Err s) stop h = ap Err h
