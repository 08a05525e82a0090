-- the lines of a drill are taken one after another

use Rattle.std.proofs.Common.{◌≡◌, ◌∙◌, ℕ, suc, ◌+◌, ◌<◌, ◌≤◌, ◌^◌, ◌==◌, Option, length, length-append, arith, if◌then◌else◌, List, [], ◌∷◌, ◌++◌, append_assoc, append-nil, Bool, true, false, None, Some, Result, Ok, Err, refl, sym, ap, subst}
use Rattle.std.specs.List.{sum_by}
use Rattle.std.specs.Io.KnownBytes.{Appends}
use Rattle.std.proofs.lemmas.Bool.Decides.{nat_tests}
use Rattle.std.proofs.lemmas.List.Sums.{sum_by-append, sum_by-cons}
use Rattle.net_types.specs.declared.memory.OutOfMemory.{OutOfMemory}
use Rattle.lab_io.specs.Report.{IsPut, Writer}
use Rattle.port_model.specs.Setup.{Policy}
use Rattle.world_model.specs.Controller.{Controller}
use Rattle.world_model.specs.Topology.{Topology}
use Rattle.script_model.specs.declared.refusal.Refused.{Refused}
use Rattle.script_model.specs.Drill.{drill_script}
use Rattle.script_model.specs.Reading.{line_says}
use Rattle.script_model.specs.Reports.{last_line}
use Rattle.script_model.specs.Script.{Script, script_from}
use Rattle.script_model.specs.State.{nothing_read}
use Rattle.telling_model.specs.Placed.{Placed, events_in, placed_from}
use Rattle.telling_model.specs.Tale.{told_at_last, told_of}
use Rattle.world.specs.declared.counts.Meter.{Meter}
use Rattle.world.specs.declared.world.World.{World as Network}
use Rattle.network_replay.specs.declared.replay.Replay.{Replay}
use Rattle.lab_io.specs.declared.stop.Stop.{Stop}
use Rattle.network_run.specs.declared.told.Told.{Told}
use Rattle.lab_io.specs.Puts.{Puts, StopsIn}
use Rattle.network_replay.specs.Ending.{EndsAs}
use Rattle.network_replay.specs.Along.{GoesOn, HasNetwork, IsAlong, IsAtLast, IsBegun, IsGoing, IsKept, IsMetered, IsWhole, last_told}
use Rattle.network_replay.proofs.Metered.{all_metered, unread_metered}
use Rattle.network_replay.proofs.Onward.{along_ends, along_first}
use Rattle.network_replay.proofs.Taking.{lines_are_read}
use Rattle.drill_script.specs.Places.{drill_lines}
use Rattle.drill_script.specs.Giving.{Gives}
use Rattle.drill_script.proofs.Sizes.{few_lines, few_octets}
use Rattle.tell_report.specs.Report.{report_tale}
use Rattle.law_told_scripts.proofs.Reports.{end_is_last, nothing_told}
use Rattle.network_run.specs.declared.plain.PlainTeller.{PlainTeller}
use Rattle.network_run.specs.declared.plain.Silence.{Silence}
use Rattle.script_replay.specs.Drill.{meter_by}
use Rattle.script_replay.specs.Silence.{silent_tale}

drill_is : (drill : ℕ) → script_from line_says nothing_read (drill_lines drill) ≡ drill_script drill
unfolding drill_lines drill_script
drill_is drill = refl

-- what one who tells nothing knows
abbrev pub SilentTeller : Type 0
SilentTeller = PlainTeller Silence Silence

abbrev pub known : SilentTeller → Unit {0}
known teller = tt

module _ {C : Type 0} (seen : C → Controller) (choice : Topology → Policy) (drill : ℕ) (before : Meter) where
  -- *Some lines were taken*, and these are left
  pub record IsTaking (left : List (List ℕ)) (r : Replay C) (told : Told SilentTeller) (meter : Meter) : Type 0 where
    pub first : Writer
    pub taken : List (List ℕ)
    pub split : taken ++ left ≡ drill_lines drill
    pub along : IsAlong seen known silent_tale choice line_says first None before taken r told None meter

  pub begins : (left : List (List ℕ)) → left ≡ drill_lines drill → (r : Replay C) → IsBegun r → (told : Told SilentTeller) → IsTaking left r told before
  begins left all r begun told = record {
    first = told.writer;
    taken = [];
    split = all;
    along = along_first silent_tale choice seen known line_says told None before r begun.state begun.notes begun.world;
  }

  pub is_going : (left : List (List ℕ)) (r : Replay C) (told : Told SilentTeller) (meter : Meter) → IsTaking left r told meter → IsGoing seen choice r
  is_going left r told meter t = record { events = events_in t.along.placed; network = t.along.network }

  -- a line was taken
  pub goes_on : (line : List ℕ) (left : List (List ℕ)) (old new : Replay C) (told later : Told SilentTeller) (meter after : Meter) (t : IsTaking (line ∷ left) old told meter)
      → GoesOn seen known silent_tale choice line_says t.first None before t.taken line (Ok None) new later None after → IsTaking left new later after
  goes_on line left old new told later meter after t along = record {
    first = t.first;
    taken = t.taken ++ line ∷ [];
    split = append_assoc t.taken (line ∷ []) left ∙ t.split;
    along = along;
  }

  -- *The lines have ended*: the script has run, and the meter is at the last of its events
  pub record HasEnded (refused : Option Refused) (r : Replay C) (meter : Meter) : Type 0 where
    pub placed : List Placed
    pub whole : IsWhole seen choice (drill_script drill) placed refused r
    pub meter_is : meter ≡ meter_by choice before (drill_script drill)

  ended : (first : Writer) (script : Script) (placed : List Placed) (refused : Option Refused) (r : Replay C) (writer : Writer) (meter : Meter) → script ≡ drill_script drill
      → IsAtLast seen silent_tale choice first None before script placed refused r writer None meter → HasEnded refused r meter
  ended first script placed refused r writer meter is last = record {
    placed = placed;
    whole = subst (λ (s : Script). IsWhole seen choice s placed refused r) is last.whole;
    meter_is = subst (λ (s : Script). meter ≡ meter_by choice before s) is last.meter_is;
  }

  -- one is refused
  pub ends_refused : (line : List ℕ) (left : List (List ℕ)) (old new : Replay C) (told later : Told SilentTeller) (meter after : Meter) (refused : Refused) (t : IsTaking (line ∷ left) old told meter)
      → GoesOn seen known silent_tale choice line_says t.first None before t.taken line (Ok (Some refused)) new later None after → HasEnded (Some refused) new after
  ends_refused line left old new told later meter after refused t last =
      ended t.first last.script last.placed (Some refused) new later.writer after (sym (last.same left) ∙ (ap (script_from line_says nothing_read) t.split ∙ drill_is drill)) last.last

  -- none is left
  pub ends : (left : List (List ℕ)) → left ≡ [] → (r : Replay C) (told : Told SilentTeller) (meter : Meter) → IsTaking left r told meter → HasEnded None r meter
  ends left none r told meter t =
      let all : t.taken ≡ drill_lines drill = sym (append-nil t.taken) ∙ ap (λ (xs : List (List ℕ)). t.taken ++ xs) (sym none) ∙ t.split in
      ended t.first (script_from line_says nothing_read t.taken) (placed_from line_says nothing_read t.taken) None r told.writer meter (ap (script_from line_says nothing_read) all ∙ drill_is drill)
      (along_ends silent_tale choice seen known line_says lines_are_read t.first told None None before meter t.taken r t.along)

  -- *There is room* for the next line, since a drill is short
  pub has_room : (line : List ℕ) (left : List (List ℕ)) (r : Replay C) (told : Told SilentTeller) (meter : Meter) → IsTaking (line ∷ left) r told meter
      → (r.state.octets + length line < 2 ^ 32) × (r.state.lines + 1 < 2 ^ 32)
  has_room line left r told meter t =
      let count : length t.taken + suc (length left) ≡ length (drill_lines drill) = sym (length-append t.taken (line ∷ left)) ∙ ap length t.split in
      let more : sum_by length (line ∷ left) ≡ length line + sum_by length left = sum_by-cons length line left in
      let octets : sum_by length t.taken + sum_by length (line ∷ left) ≡ sum_by length (drill_lines drill) = sym (sum_by-append length t.taken (line ∷ left)) ∙ ap (sum_by length) t.split in
      let short : sum_by length (drill_lines drill) ≤ 866400 = few_octets drill in
      let few : length (drill_lines drill) ≤ 2888 = few_lines drill in
      let taken : r.state.octets ≡ sum_by length t.taken = t.along.taken.octets in
      let number : r.state.lines ≡ length t.taken = t.along.taken.count in
      (omega (arith, octets, more, short, taken), omega (arith, count, few, number))

  -- *The meter*, whatever lines are left
  pub metered : (left : List (List ℕ)) (r : Replay C) (told : Told SilentTeller) (meter : Meter) → IsTaking left r told meter → IsMetered choice before (drill_script drill) meter
  metered [] r told meter t = all_metered choice before meter (drill_script drill) (ends [] refl r told meter t).meter_is
  metered (line ∷ left) r told meter t =
      subst (λ (s : Script). IsMetered choice before s meter) (ap (script_from line_says nothing_read) t.split ∙ drill_is drill)
      (unread_metered seen choice line_says lines_are_read t.taken line before r.state r.notes r.world t.along.placed t.along.taken t.along.network meter t.along.meter_is left)

  -- where one ends early
  pub kept_early : (line : List ℕ) (left : List (List ℕ)) (r : Replay C) (told : Told SilentTeller) (meter after : Meter) (stop : Stop) (t : IsTaking (line ∷ left) r told meter)
      → IsKept choice line_says before t.taken line (Err stop) after → IsMetered choice before (drill_script drill) after
  kept_early line left r told meter after stop t kept =
      subst (λ (s : Script). IsMetered choice before s after) (ap (script_from line_says nothing_read) t.split ∙ drill_is drill) (kept left)

-- *What a reader of lines gave*: none where none is left, else the first of them
pub none_left : (lines left : List (List ℕ)) (text longer : List ℕ) (given : Bool) → Gives {E = OutOfMemory} lines left text longer (Ok given) → given ≡ false → lines ≡ []
none_left [] left text longer given h e = refl
none_left (line ∷ lines) left text longer given h e = absurd (cc (h.0, e))

pub first_given : (lines left : List (List ℕ)) (text longer shown : List ℕ) (given : Bool) → Gives {E = OutOfMemory} lines left text longer (Ok given) → given ≡ true → text ≡ [] → shown ≡ longer
    → lines ≡ shown ∷ left
first_given [] left text longer shown given h e empty same = absurd (cc (h.0, e))
first_given (line ∷ lines) left text longer shown given h e empty same =
    ap (λ (x : List (List ℕ)). line ∷ x) (sym h.1) ∙ ap (λ (x : List ℕ). x ∷ left) (sym (same ∙ (h.2 ∙ ap (λ (x : List ℕ). x ++ line) empty)))

-- *A script that is whole*: what is told at its end is its last line
pub last_is : {C : Type 0} (seen : C → Controller) (choice : Topology → Policy) (script : Script) (placed : List Placed) (refused : Option Refused) (r : Replay C) → IsWhole seen choice script placed refused r
    → last_told report_tale (choice script.topology) script placed ≡ last_line (choice script.topology) script
last_is {C = C} seen choice script placed refused r whole = by (script.event_lines == 0) refl
  where
    none : script.event_lines ≡ 0 → script.events ≡ []
    none e = at r.world whole.network
      where
        at : (world : Option (Network C)) → HasNetwork seen choice r.state r.notes world script.events → script.events ≡ []
        at None h = h.events_are
        at (Some n) h = absurd (omega (arith, h.0.event_lines, e, whole.event_lines))

    by : (b : Bool) → script.event_lines == 0 ≡ b
        → (if b then (told_of report_tale (choice script.topology) script.topology placed).octets else []) ++ told_at_last report_tale (choice script.topology) script ≡ last_line (choice script.topology) script
    by true e =
        ap (λ xs. xs ++ told_at_last report_tale (choice script.topology) script) (nothing_told (choice script.topology) script placed (sym whole.events) (none (grind (arith, nat_tests, e))))
        ∙ end_is_last (choice script.topology) script
    by false e = end_is_last (choice script.topology) script

-- there is a network for what is told then
pub whole_going : {C : Type 0} (seen : C → Controller) (choice : Topology → Policy) (script : Script) (placed : List Placed) (refused : Option Refused) (r : Replay C) → IsWhole seen choice script placed refused r → IsGoing seen choice r
whole_going seen choice script placed refused r whole = record { events = script.events; network = whole.network }

-- what was put at the end, whatever is handed on of how it ended
module _ (ended : Result (Unit {0}) Stop) (outcome : Result (Option Refused) Stop) (a b : Writer) (x y : Option (List ℕ)) (octets last : List ℕ) (same : octets ≡ last) (put : Puts ended a b x y octets) where
  pub put_ok : (value : Unit {0}) (refused : Option Refused) → ended ≡ Ok value → outcome ≡ Ok refused → Puts outcome a b x y last
  put_ok value refused was is =
      subst (λ (r : Result (Option Refused) Stop). Puts r a b x y last) (sym is) (subst (IsPut a b x y) same (subst (λ (r : Result (Unit {0}) Stop). Puts r a b x y octets) was put))

  pub put_err : (stop : Stop) → ended ≡ Err stop → outcome ≡ Err stop → Puts outcome a b x y last
  put_err stop was is =
      subst (λ (r : Result (Option Refused) Stop). Puts r a b x y last) (sym is) (subst (StopsIn stop a b x y) same (subst (λ (r : Result (Unit {0}) Stop). Puts r a b x y octets) was put))

-- *How a drill ends*: as its last line is written; or early, where nothing was
pub ends_with : (outcome ended : Result Bool Stop) (start old new : Option (List ℕ)) (report : List ℕ) → outcome ≡ ended → new ≡ old → EndsAs ended start old report → EndsAs outcome start new report
ends_with outcome ended start old new report is same ends =
    subst (λ (r : Result Bool Stop). EndsAs r start new report) (sym is) (subst (λ (x : Option (List ℕ)). EndsAs ended start x report) (sym same) ends)

appends_none : (written : Option (List ℕ)) → Appends written written []
appends_none None = tt
appends_none (Some octets) = sym (append-nil octets)

pub ends_unwritten : (outcome : Result Bool Stop) (stop : Stop) (old new : Option (List ℕ)) (report : List ℕ) → outcome ≡ Err stop → new ≡ old → EndsAs outcome old new report
ends_unwritten outcome stop old new report is same =
    ends_with outcome (Err stop) old old new report is same (record { count = 0; within = omega arith; appended = appends_none old })
