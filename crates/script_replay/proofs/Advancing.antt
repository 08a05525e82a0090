-- a replay goes on in its input

use Rattle.std.proofs.Common.{◌≡◌, ◌⊎◌, inl, inr, ℕ, ◌+◌, ◌-◌, ◌<◌, ◌≤◌, ◌==◌, Bool, true, false, List, [], ◌∷◌, ◌++◌, append_assoc, append-nil, length, length-append, take, Option, None, Some, Result, Ok, Err, IsErrAnd, refl, sym, ◌∙◌, ap, subst, arith, if◌then◌else◌}
use Rattle.std.specs.Io.KnownBytes.{Consumes, IsAtEnd}
use Rattle.std.proofs.KnownBytes.{Consumes-trans}
use Rattle.std.proofs.lemmas.Bool.Decides.{nat_tests}
use Rattle.lab_io.specs.Lines.{Answer, Given, Long, Past, Over, Reader, answer_in, feed, is_all}
use Rattle.lab_io.specs.Reading as reading
use Rattle.lab_io.specs.Report.{IsPut, Writer}
use Rattle.lab_text.specs.Line.{input_limit}
use Rattle.lab_text.specs.Lines.{lines_of}
use Rattle.lab_text.proofs.LineLemmas.{only_line}
use Rattle.port_model.specs.Setup.{Policy}
use Rattle.world_model.specs.Controller.{Controller}
use Rattle.world_model.specs.Topology.{Topology}
use Rattle.script_model.specs.declared.refusal.LineRefusal.{LineRefusal}
use Rattle.script_model.specs.declared.refusal.LineRefusal.TheVariants.{LineTooLong, ScriptTooLong}
use Rattle.script_model.specs.declared.refusal.Refused.{Refused}
use Rattle.script_model.specs.declared.refusal.Refused.TheVariants.{Line as LineIs}
use Rattle.script_model.specs.Reading.{line_says}
use Rattle.script_model.specs.Script.{Script, number_of, script_of}
use Rattle.network_run.specs.telling_model.Placed.{Placed, placed_of}
use Rattle.network_run.specs.telling_model.Tale.{Tale, told_at_last, told_of}
use Rattle.world.specs.declared.counts.Meter.{Meter}
use Rattle.lab_io.specs.declared.stop.Stop.{Stop}
use Rattle.lab_io.specs.declared.stop.Stop.TheVariants as stop
use Rattle.network_run.specs.declared.told.Told.{Told}
use Rattle.lab_io.specs.Puts.{StopsIn}
use Rattle.lab_io.proofs.Stops.{put_then, stops_by}
use Rattle.network_replay.specs.declared.replay.Replay.{Replay}
use Rattle.network_replay.specs.Along.{EndsScript, IsAlong, IsAtLast, last_told}
use Rattle.network_replay.proofs.Onward.{along_ends, along_refused}
use Rattle.network_replay.proofs.Taking.{lines_are_read}
use Rattle.line_by_line.specs.declared.fault.LineFault.{LineFault}
use Rattle.script_replay.specs.declared.script_run.ScriptRun.{ScriptRun}
use Rattle.script_replay.specs.declared.script_run.Step.{Step}
use Rattle.line_by_line.specs.Faults.{fault_of}
use Rattle.script_replay.specs.Report.{account_by, telling_by}
use Rattle.network_replay.specs.Lines.{HasCounted}
use Rattle.script_replay.specs.Reading.{Advances, Halts, HasLineRoom, HasNext, HasShape, IsAtLine, IsCounted, IsInMidst, IsSettled, IsStopped, IsTold, Stops, ends_line, at_last}
use Rattle.script_replay.proofs.InputLines.{Answers, IsFirst, all_of_it, answer_at_end, answer_is, answer_says, front_line, has_end, has_no_end, no_answer, with_end}
use Rattle.script_replay.proofs.InputScripts.{Fits, Read, Refuses, long_refused, past_refused, read_at, read_end, read_in, read_last, read_next, read_of}

-- nothing stands behind all of it
nil_behind : (line held : List ℕ) → line ≡ line ++ held → held ≡ []
nil_behind [] held e = sym e
nil_behind (x ∷ line) held e = nil_behind line held cc

-- where no octet may come, the source is at its end or the limit is reached
whole_is : (given : ℕ) (is_ended : Bool) (seen : List ℕ) → is_all given is_ended seen ≡ true → (is_ended ≡ true) ⊎ (input_limit ≤ given + length seen)
whole_is given true seen e = inl refl
whole_is given false seen e = inr (grind (arith, nat_tests, e))

-- nothing was seen, and nothing is left
record IsOver (octets : List ℕ) (left : Option (List ℕ)) : Type 0 where
  none : octets ≡ []
  end : IsAtEnd left

-- what is left at the end
pub none_left : (left : Option (List ℕ)) (others : List ℕ) → IsAtEnd left → left ≡ Some others → others ≡ []
none_left None others end is = absurd (cc is)
none_left (Some xs) others end is = (let same : xs ≡ others = cc in sym same ∙ end)

-- a line that is given counts
pub line_room : {C T : Type 0} (run : ScriptRun C T) (now : Reader) (left later : Option (List ℕ)) (line : List ℕ) → IsCounted run → reading.IsNext run.reader now left later (Given line) → HasLineRoom run.replay.state (length line)
line_room run now left later line k n =
    let an : Answers run.reader.given (is_all run.reader.given now.is_ended n.seen) n.seen (Given line) = answer_is run.reader.given now.is_ended n.seen (Given line) n.answered in
    let says = answer_says run.reader.given an.line (Given line) an.answered in
    let size : length an.line ≡ length line = ap length says.0 in
    (omega (arith, k.octets, says.1.low, size), omega (arith, k.lines, k.low))

-- and was counted
pub line_counted : {C T : Type 0} (run now : ScriptRun C T) (left later : Option (List ℕ)) (line : List ℕ) → IsCounted run → reading.IsNext run.reader now.reader left later (Given line) → HasCounted run.replay.state line now.replay.state → IsCounted now
line_counted run now left later line k n c =
    let an : Answers run.reader.given (is_all run.reader.given now.reader.is_ended n.seen) n.seen (Given line) = answer_is run.reader.given now.reader.is_ended n.seen (Given line) n.answered in
    let says = answer_says run.reader.given an.line (Given line) an.answered in
    let size : length an.line ≡ length line = ap length says.0 in
    record {
      octets = omega (arith, c.0, k.octets, n.kept.1);
      lines = omega (arith, c.1, k.lines, n.kept.1, says.1.some, size);
      low = omega (arith, n.kept.1, says.1.low, size);
    }

-- and less is to come
pub line_less : (old now : Reader) (left later : Option (List ℕ)) (line : List ℕ) → reading.IsNext old now left later (Given line) → old.given + 1 ≤ now.given
line_less old now left later line n =
    let an : Answers old.given (is_all old.given now.is_ended n.seen) n.seen (Given line) = answer_is old.given now.is_ended n.seen (Given line) n.answered in
    let says = answer_says old.given an.line (Given line) an.answered in
    let size : length an.line ≡ length line = ap length says.0 in
    omega (arith, n.kept.1, says.1.some, size)

-- a source that was at its end still is
pub still_at_end : {S : Type 0} (left_of : S → Option (List ℕ)) (old new : S) (r : Reader) → (r.is_ended ≡ true → IsAtEnd (left_of old))
    → ((answer : Answer) → answer_in r.given r.is_ended r.held ≡ Some answer → new ≡ old) → (r.is_ended ≡ true) ⊎ IsAtEnd (left_of new) → IsAtEnd (left_of new)
still_at_end left_of old new r was unread (inl is) =
    (let answer = answer_at_end r.given r.is_ended r.held is in subst (λ s. IsAtEnd (left_of s)) (sym (unread answer.0 answer.1)) (was is))
still_at_end left_of old new r was unread (inr is) = is

module _ {C T S : Type 0} (seen : C → Controller) (known : T → S) (tale : Tale S) (choice : Topology → Policy) (first : Writer) (start : Option (List ℕ)) (before : Meter) (from : Option (List ℕ)) where
  -- *The reader* has read on
  read_on : (given held seen_octets read : List ℕ) (left later : Option (List ℕ)) → Consumes from left (given ++ held) → Consumes left later read → seen_octets ≡ held ++ read → Consumes from later (given ++ seen_octets)
  read_on given held octets read left later h n behind =
      subst (Consumes from later) (append_assoc given held read ∙ ap (λ xs. given ++ xs) (sym behind)) (Consumes-trans from left later (given ++ held) read h n)

  -- *A line is given*
  pub next_line : (run now : ScriptRun C T) (left later written : Option (List ℕ)) (meter : Meter) (line : List ℕ) → IsAtLine seen known tale choice first start before from run left written meter
      → now.replay ≡ run.replay → now.told ≡ run.told → reading.IsNext run.reader now.reader left later (Given line) → (now.reader.is_ended ≡ true → IsAtEnd later)
      → HasNext seen known tale choice first start before from line now later written meter
  next_line run now left later written meter line h same_replay same_told n ended =
      let an : Answers run.reader.given (is_all run.reader.given now.reader.is_ended n.seen) n.seen (Given line) = answer_is run.reader.given now.reader.is_ended n.seen (Given line) n.answered in
      let says = answer_says run.reader.given an.line (Given line) an.answered in
      let is_first : IsFirst (is_all run.reader.given now.reader.is_ended n.seen) n.seen line = subst (IsFirst (is_all run.reader.given now.reader.is_ended n.seen) n.seen) says.0 an.first in
      let size : length an.line ≡ length line = ap length says.0 in
      record {
        lines = h.lines;
        given = h.given;
        read = subst (Consumes from later) (ap (λ xs. h.given ++ xs) n.kept.0 ∙ sym (append_assoc h.given line now.reader.held))
            (read_on h.given run.reader.held n.seen n.saw.read left later h.read n.saw.consumed n.saw.behind);
        split = h.split;
        size = omega (arith, h.size, n.kept.1);
        low = omega (arith, n.kept.1, says.1.low, size);
        shape = shape_of is_first (omega (arith, says.1.some, size)) (omega (arith, says.1.low, size)) n.kept.0;
        ended = ended;
        along = subst (λ (r : Replay C). IsAlong seen known tale choice line_says first start before h.lines r now.told written meter) (sym same_replay)
            (subst (λ (w : Told T). IsAlong seen known tale choice line_says first start before h.lines run.replay w written meter) (sym same_told) h.along);
      }
    where
      shape_of : IsFirst (is_all run.reader.given now.reader.is_ended n.seen) n.seen line → 0 < length line → run.reader.given + length line < input_limit → n.seen ≡ line ++ now.reader.held
          → HasShape (ends_line line) line now.reader.held later
      shape_of (with_end others e f) some low kept = subst (λ (b : Bool). HasShape b line now.reader.held later) (sym (has_end line f)) (λ more. front_line line more f)
      shape_of (all_of_it w same f) some low kept =
          let high : feed line ≡ length line = subst (λ xs. feed xs ≡ length xs) (sym same) f in
          let size : length line ≡ length n.seen = ap length same in
          let at_end : IsAtEnd later = elim (whole_is run.reader.given now.reader.is_ended n.seen w) [ inl e ↦ ended e | inr past ↦ absurd (omega (arith, past, low, size)) ] in
          subst (λ (b : Bool). HasShape b line now.reader.held later) (sym (has_no_end line high))
          (only_line line some (omega (arith, high)), nil_behind line now.reader.held (same ∙ kept), at_end)

  -- *What became of a line*
  module _ (line : List ℕ) (run : ScriptRun C T) (left written : Option (List ℕ)) (meter : Meter) (h : HasNext seen known tale choice first start before from line run left written meter) where
    low : length h.given < input_limit
    low = omega (arith, h.size, h.low)

    few : length h.given + length line < input_limit
    few = omega (arith, h.size, h.low)

    one_line : (b : Bool) → HasShape b line run.reader.held left → lines_of line ≡ line ∷ []
    one_line true shape = ap lines_of (sym (append-nil line)) ∙ shape []
    one_line false shape = shape.0

    whole_script : read_of (h.given ++ line) ≡ read_in (h.lines ++ line ∷ [])
    whole_script = read_last h.given h.lines low h.split line few (one_line (ends_line line) h.shape)

    pub taken_with_end : (now : ScriptRun C T) (wrote : Option (List ℕ)) (after : Meter) → ends_line line ≡ true → now.reader ≡ run.reader
        → IsAlong seen known tale choice line_says first start before (h.lines ++ line ∷ []) now.replay now.told wrote after → IsAtLine seen known tale choice first start before from now left wrote after
    taken_with_end now wrote after e same along =
        let shape : (others : List ℕ) → lines_of (line ++ others) ≡ line ∷ lines_of others = subst (λ (b : Bool). HasShape b line run.reader.held left) e h.shape in
        record {
          lines = h.lines ++ line ∷ [];
          given = h.given ++ line;
          read = subst (λ (r : Reader). Consumes from left ((h.given ++ line) ++ r.held)) (sym same) h.read;
          split = λ others. ap lines_of (append_assoc h.given line others) ∙ h.split (line ++ others) ∙ ap (λ ls. h.lines ++ ls) (shape others)
              ∙ sym (append_assoc h.lines (line ∷ []) (lines_of others));
          size = length-append h.given line ∙ h.size ∙ ap (λ (r : Reader). r.given) (sym same);
          ended = λ is. h.ended (sym (ap (λ (r : Reader). r.is_ended) same) ∙ is);
          along = along;
        }

    pub taken_last : (now : ScriptRun C T) (wrote : Option (List ℕ)) (after : Meter) → ends_line line ≡ false
        → IsAlong seen known tale choice line_says first start before (h.lines ++ line ∷ []) now.replay now.told wrote after → IsSettled seen tale choice first start before from None now left wrote after
    taken_last now wrote after e along =
        let shape = subst (λ (b : Bool). HasShape b line run.reader.held left) e h.shape in
        record {
          input = h.given ++ line;
          is_read = record {
            read = subst (Consumes from left) (ap (λ xs. (h.given ++ line) ++ xs) shape.1 ∙ append-nil (h.given ++ line)) h.read;
            settled = λ others is. ap script_of (ap (λ xs. (h.given ++ line) ++ xs) (none_left left others shape.2 is) ∙ append-nil (h.given ++ line));
            placed = λ others is. ap placed_of (ap (λ xs. (h.given ++ line) ++ xs) (none_left left others shape.2 is) ∙ append-nil (h.given ++ line));
          };
          at_end = λ none. shape.2;
          last = subst (λ (s : Read). IsAtLast seen tale choice first start before s.0 s.1 None now.replay now.told.writer wrote after) (sym whole_script)
              (along_ends tale choice seen known line_says lines_are_read first now.told start wrote before after (h.lines ++ line ∷ []) now.replay along);
        }

    -- what is so of the script, whatever lines follow, is so of it whatever is left
    pub read_with : (P : Read → Type 0) → ((others : List (List ℕ)) → P (read_in (h.lines ++ line ∷ others))) → (b : Bool) → HasShape b line run.reader.held left → (others : List ℕ) → (b ≡ false → others ≡ [])
        → P (read_of (((h.given ++ line) ++ run.reader.held) ++ others))
    read_with P each true shape others none =
        subst P (sym (ap read_of (append_assoc (h.given ++ line) run.reader.held others ∙ append_assoc h.given line (run.reader.held ++ others))
        ∙ read_next h.given h.lines low h.split line (run.reader.held ++ others) few shape))
        (each (lines_of (take (input_limit - length h.given - length line) (run.reader.held ++ others))))
    read_with P each false shape others none =
        subst P (sym ((λ i. read_of (((h.given ++ line) ++ shape.1 i) ++ none refl i)) ∙ ap read_of (append-nil ((h.given ++ line) ++ []) ∙ append-nil (h.given ++ line)) ∙ whole_script)) (each [])

    pub end_of_shape : (b : Bool) → HasShape b line run.reader.held left → b ≡ false → IsAtEnd left
    end_of_shape true shape e = absurd (cc e)
    end_of_shape false shape e = shape.2

    pub taken_refused : (now : ScriptRun C T) (wrote : Option (List ℕ)) (after : Meter) (refused : Refused) → EndsScript seen tale choice line_says first start before h.lines line refused now.replay now.told.writer wrote after
        → IsSettled seen tale choice first start before from (Some refused) now left wrote after
    taken_refused now wrote after refused ends =
        let input : List ℕ = (h.given ++ line) ++ run.reader.held in
        let same_as : Read = (ends.script, ends.placed) in
        let same : ((others : List (List ℕ)) → read_in (h.lines ++ line ∷ others) ≡ same_as) = λ others i. (ends.same others i, ends.same_placed others i) in
        let bare : read_of input ≡ same_as = ap read_of (sym (append-nil input)) ∙ read_with (λ (r : Read). r ≡ same_as) same (ends_line line) h.shape [] (λ e. refl) in
        let settled : ((others : List ℕ) → left ≡ Some others → read_of (input ++ others) ≡ read_of input) =
        λ others is. read_with (λ (r : Read). r ≡ same_as) same (ends_line line) h.shape others (λ e. none_left left others (end_of_shape (ends_line line) h.shape e) is) ∙ sym bare in
        record {
          input = input;
          is_read = record {
            read = h.read;
            settled = λ others is. ap (λ (s : Read). s.0) (settled others is);
            placed = λ others is. ap (λ (s : Read). s.1) (settled others is);
          };
          at_end = λ none. absurd (cc none);
          last = subst (λ (s : Read). IsAtLast seen tale choice first start before s.0 s.1 (Some refused) now.replay now.told.writer wrote after) (sym bare) ends.last;
        }

    lines_stay : (b : Bool) → HasShape b line run.reader.held left → (others : List ℕ) → (b ≡ false → others ≡ [])
        → lines_of ((h.given ++ line) ++ (run.reader.held ++ others)) ≡ lines_of (h.given ++ line) ++ lines_of (run.reader.held ++ others)
    lines_stay true shape others none =
        let rest : List ℕ = run.reader.held ++ others in
        ap lines_of (append_assoc h.given line rest) ∙ h.split (line ++ rest) ∙ ap (λ ls. h.lines ++ ls) (shape rest)
        ∙ sym (append_assoc h.lines (line ∷ []) (lines_of rest))
        ∙ ap (λ ls. ls ++ lines_of rest) (sym (h.split line ∙ ap (λ ls. h.lines ++ ls) (one_line true shape)))
    lines_stay false shape others none =
        (λ i. lines_of ((h.given ++ line) ++ (shape.1 i ++ none refl i))) ∙ ap lines_of (append-nil (h.given ++ line)) ∙ sym (append-nil (lines_of (h.given ++ line)))
        ∙ sym (λ i. lines_of (h.given ++ line) ++ lines_of (shape.1 i ++ none refl i))

    pub taken_stopped : (later : Writer) (wrote : Option (List ℕ)) (stop : Stop)
        → ((others : List (List ℕ)) → StopsIn stop first later start wrote (telling_by tale choice (read_in (h.lines ++ line ∷ others)).0 (read_in (h.lines ++ line ∷ others)).1))
        → IsStopped (telling_by tale choice) first start from stop later left wrote
    taken_stopped later wrote stop p = record {
      whole = h.given ++ line;
      rest = run.reader.held;
      lines = record {
        read = h.read;
        lines = λ others is. lines_stay (ends_line line) h.shape others (λ e. none_left left others (end_of_shape (ends_line line) h.shape e) is);
      };
      put = subst (λ (s : Read). StopsIn stop first later start wrote (telling_by tale choice s.0 s.1)) (sym whole_script) (p []);
    }

    -- as a fault tells it
    pub taken_halted : (later : Writer) (wrote : Option (List ℕ)) (stop : Stop)
        → ((others : List (List ℕ)) → StopsIn stop first later start wrote (telling_by tale choice (read_in (h.lines ++ line ∷ others)).0 (read_in (h.lines ++ line ∷ others)).1))
        → Halts (telling_by tale choice) first start from (fault_of stop) later left wrote
    taken_halted later wrote stop.Failed p = taken_stopped later wrote stop.Failed p
    taken_halted later wrote (stop.OutOfMemory error) p = taken_stopped later wrote (stop.OutOfMemory error) p

  pub as_told : (result : Result Step LineFault) (fault : LineFault) (now : ScriptRun C T) (left wrote : Option (List ℕ)) (after : Meter) → IsErrAnd result (λ f. f ≡ fault) → Halts (telling_by tale choice) first start from fault now.told.writer left wrote
      → Advances seen known tale choice first start before from result now left wrote after
  as_told (Ok step) fault now left wrote after is h = absurd is
  as_told (Err other) fault now left wrote after is h = subst (λ (f : LineFault). Halts (telling_by tale choice) first start from f now.told.writer left wrote) (sym is) h

  -- *A line that is refused for its length*
  refused_for : (run now : ScriptRun C T) (left later written : Option (List ℕ)) (meter : Meter) (name : LineRefusal) (answer : Answer) (h : IsAtLine seen known tale choice first start before from run left written meter)
      (n : reading.IsNext run.reader now.reader left later answer) → now.replay ≡ run.replay → now.told ≡ run.told → run.replay.state.octets ≡ run.reader.given → run.reader.given < input_limit
      → (now.reader.is_ended ≡ true → IsAtEnd later) → Refuses run.replay.state (input_limit - run.replay.state.octets) (is_all run.reader.given now.reader.is_ended n.seen) n.seen name
      → IsSettled seen tale choice first start before from (Some (LineIs (number_of now.replay.state) name)) now later written meter
  refused_for run now left later written meter name answer h n same_replay same_told octets low ended r =
      subst (λ (p : Replay C). IsSettled seen tale choice first start before from (Some (LineIs (number_of p.state) name)) (record now { replay = p }) later written meter) (sym same_replay)
      (subst (λ (w : Told T). IsSettled seen tale choice first start before from (Some (LineIs (number_of run.replay.state) name)) (record now { replay = run.replay; told = w }) later written meter) (sym same_told) settled)
    where
      size : length h.given ≡ run.replay.state.octets
      size = h.size ∙ sym octets

      short : length h.given < input_limit
      short = omega (arith, h.size, low)

      ends : EndsScript seen tale choice line_says first start before h.lines r.line (LineIs (number_of run.replay.state) name) run.replay run.told.writer written meter
      ends = along_refused tale choice seen known line_says lines_are_read first run.told start written before meter h.lines r.line name run.replay h.along r.says

      at : (others : List ℕ) → Fits run.replay.state.octets (is_all run.reader.given now.reader.is_ended n.seen) n.seen others → read_of ((h.given ++ n.seen) ++ others) ≡ (ends.script, ends.placed)
      at others fits =
          (let found = r.at others fits in
          let same : read_in (h.lines ++ r.line ∷ found.0) ≡ (ends.script, ends.placed) = λ i. (ends.same found.0 i, ends.same_placed found.0 i) in
          ap read_of (append_assoc h.given n.seen others) ∙ read_at h.given h.lines short h.split (n.seen ++ others)
          ∙ ap (λ k. read_in (h.lines ++ lines_of (take (input_limit - k) (n.seen ++ others)))) size
          ∙ ap (λ ls. read_in (h.lines ++ ls)) found.1 ∙ same)

      bare : read_of (h.given ++ n.seen) ≡ (ends.script, ends.placed)
      bare = ap read_of (sym (append-nil (h.given ++ n.seen))) ∙ at [] (λ w. inr refl)

      fits_left : (others : List ℕ) → later ≡ Some others → Fits run.replay.state.octets (is_all run.reader.given now.reader.is_ended n.seen) n.seen others
      fits_left others is w = elim (whole_is run.reader.given now.reader.is_ended n.seen w) [ inl e ↦ inr (none_left later others (ended e) is) | inr past ↦ inl (omega (arith, past, octets)) ]

      settled : IsSettled seen tale choice first start before from (Some (LineIs (number_of run.replay.state) name)) (record now { replay = run.replay; told = run.told }) later written meter
      settled = record {
        input = h.given ++ n.seen;
        is_read = record {
          read = read_on h.given run.reader.held n.seen n.saw.read left later h.read n.saw.consumed n.saw.behind;
          settled = λ others is. ap (λ (s : Read). s.0) (at others (fits_left others is) ∙ sym bare);
          placed = λ others is. ap (λ (s : Read). s.1) (at others (fits_left others is) ∙ sym bare);
        };
        at_end = λ none. absurd (cc none);
        last = subst (λ (s : Read). IsAtLast seen tale choice first start before s.0 s.1 (Some (LineIs (number_of run.replay.state) name)) run.replay run.told.writer written meter) (sym bare) ends.last;
      }

  pub long_line : (run now : ScriptRun C T) (left later written : Option (List ℕ)) (meter : Meter) → IsAtLine seen known tale choice first start before from run left written meter
      → reading.IsNext run.reader now.reader left later Long → now.replay ≡ run.replay → now.told ≡ run.told → run.replay.state.octets ≡ run.reader.given → run.reader.given < input_limit
      → (now.reader.is_ended ≡ true → IsAtEnd later) → IsSettled seen tale choice first start before from (Some (LineIs (number_of now.replay.state) LineTooLong)) now later written meter
  long_line run now left later written meter h n same_replay same_told octets low ended =
      let an : Answers run.reader.given (is_all run.reader.given now.reader.is_ended n.seen) n.seen Long = answer_is run.reader.given now.reader.is_ended n.seen Long n.answered in
      let says = answer_says run.reader.given an.line Long an.answered in
      refused_for run now left later written meter LineTooLong Long h n same_replay same_told octets low ended
      (long_refused run.replay.state (is_all run.reader.given now.reader.is_ended n.seen) n.seen an.line an.first (omega (arith, says.0, octets)) says.1)

  pub past_end : (run now : ScriptRun C T) (left later written : Option (List ℕ)) (meter : Meter) → IsAtLine seen known tale choice first start before from run left written meter
      → reading.IsNext run.reader now.reader left later Past → now.replay ≡ run.replay → now.told ≡ run.told → run.replay.state.octets ≡ run.reader.given → run.reader.given < input_limit
      → (now.reader.is_ended ≡ true → IsAtEnd later) → IsSettled seen tale choice first start before from (Some (LineIs (number_of now.replay.state) ScriptTooLong)) now later written meter
  past_end run now left later written meter h n same_replay same_told octets low ended =
      let an : Answers run.reader.given (is_all run.reader.given now.reader.is_ended n.seen) n.seen Past = answer_is run.reader.given now.reader.is_ended n.seen Past n.answered in
      let says = answer_says run.reader.given an.line Past an.answered in
      refused_for run now left later written meter ScriptTooLong Past h n same_replay same_told octets low ended
      (past_refused run.replay.state (is_all run.reader.given now.reader.is_ended n.seen) n.seen an.line an.first (omega (arith, low, octets)) (omega (arith, says, octets)))

  -- *The lines that were taken*
  lines_given : (run : ScriptRun C T) (left written : Option (List ℕ)) (meter : Meter) (h : IsAtLine seen known tale choice first start before from run left written meter) → lines_of h.given ≡ h.lines
  lines_given run left written meter h = ap lines_of (sym (append-nil h.given)) ∙ h.split [] ∙ append-nil h.lines

  given_last : (run : ScriptRun C T) (left written : Option (List ℕ)) (meter : Meter) (h : IsAtLine seen known tale choice first start before from run left written meter) → run.reader.given < input_limit
      → IsAtLast seen tale choice first start before (script_of h.given) (placed_of h.given) None run.replay run.told.writer written meter
  given_last run left written meter h low =
      subst (λ (s : Read). IsAtLast seen tale choice first start before s.0 s.1 None run.replay run.told.writer written meter) (sym (read_end h.given h.lines (omega (arith, h.size, low)) h.split))
      (along_ends tale choice seen known line_says lines_are_read first run.told start written before meter h.lines run.replay h.along)

  -- *The end*
  pub input_ends : (run now : ScriptRun C T) (left later written : Option (List ℕ)) (meter : Meter) → IsAtLine seen known tale choice first start before from run left written meter
      → reading.IsNext run.reader now.reader left later Over → now.replay ≡ run.replay → now.told ≡ run.told → run.reader.given < input_limit
      → (now.reader.is_ended ≡ true → IsAtEnd later) → IsSettled seen tale choice first start before from None now later written meter
  input_ends run now left later written meter h n same_replay same_told low ended =
      let an : Answers run.reader.given (is_all run.reader.given now.reader.is_ended n.seen) n.seen Over = answer_is run.reader.given now.reader.is_ended n.seen Over n.answered in
      let says = answer_says run.reader.given an.line Over an.answered in
      subst (λ (p : Replay C). IsSettled seen tale choice first start before from None (record now { replay = p }) later written meter) (sym same_replay)
      (subst (λ (w : Told T). IsSettled seen tale choice first start before from None (record now { replay = run.replay; told = w }) later written meter) (sym same_told) (settled (over an.line an.first says)))
    where
      empty : (xs : List ℕ) → length xs ≡ 0 → xs ≡ []
      empty [] e = refl
      empty (x ∷ xs) e = absurd (omega (arith, e))

      over : (line : List ℕ) → IsFirst (is_all run.reader.given now.reader.is_ended n.seen) n.seen line → length line ≡ 0 → IsOver n.seen later
      over line (with_end others e f) bare = absurd (omega (arith, f, bare))
      over line (all_of_it w same f) bare =
          let size : length n.seen ≡ 0 = sym (ap length same) ∙ bare in
          record {
            none = empty n.seen size;
            end = elim (whole_is run.reader.given now.reader.is_ended n.seen w) [ inl e ↦ ended e | inr past ↦ absurd (omega (arith, past, low, size)) ];
          }

      settled : IsOver n.seen later → IsSettled seen tale choice first start before from None (record now { replay = run.replay; told = run.told }) later written meter
      settled over = record {
        input = h.given;
        is_read = record {
          read = subst (Consumes from later) (ap (λ xs. h.given ++ xs) over.none ∙ append-nil h.given)
              (read_on h.given run.reader.held n.seen n.saw.read left later h.read n.saw.consumed n.saw.behind);
          settled = λ others is. ap script_of (ap (λ xs. h.given ++ xs) (none_left later others over.end is) ∙ append-nil h.given);
          placed = λ others is. ap placed_of (ap (λ xs. h.given ++ xs) (none_left later others over.end is) ∙ append-nil h.given);
        };
        at_end = λ none. over.end;
        last = given_last run left written meter h low;
      }

  -- *A read failed*
  pub read_failed : (run now : ScriptRun C T) (left later written : Option (List ℕ)) (meter : Meter) → IsAtLine seen known tale choice first start before from run left written meter
      → reading.IsCutOff run.reader left later → run.reader.given < input_limit → IsInMidst (telling_by tale choice) first start from run.told.writer later written
  read_failed run now left later written meter h cut low =
      let last = given_last run left written meter h low in
      record {
        whole = h.given;
        rest = cut.seen;
        lines = record {
          read = read_on h.given run.reader.held cut.seen cut.saw.read left later h.read cut.saw.consumed cut.saw.behind;
          lines = λ others is. h.split (cut.seen ++ others) ∙ ap (λ ls. ls ++ lines_of (cut.seen ++ others)) (sym (lines_given run left written meter h));
        };
        no_line = no_answer run.reader.given run.reader.is_ended cut.seen cut.unanswered;
        accepted = last.whole.refusal;
        put = last.put;
      }

  -- *The end*: what is told wrote is the last of the account
  account_whole : (script : Script) (placed : List Placed) → telling_by tale choice script placed ++ last_told tale (choice script.topology) script placed ≡ account_by tale choice script placed
  account_whole script placed = by (script.event_lines == 0) (told_of tale (choice script.topology) script.topology placed).octets (told_at_last tale (choice script.topology) script)
    where
      by : (b : Bool) (octets last : List ℕ) → (if b then [] else octets) ++ ((if b then octets else []) ++ last) ≡ octets ++ last
      by true octets last = refl
      by false octets last = refl

  pub told_whole : (refused : Option Refused) (run : ScriptRun C T) (later : Writer) (left written wrote : Option (List ℕ)) (meter : Meter) (s : IsSettled seen tale choice first start before from refused run left written meter)
      → IsPut run.told.writer later written wrote (last_told tale (choice (script_of s.input).topology) (script_of s.input) (placed_of s.input)) → IsTold choice (account_by tale choice) first start before from refused later left wrote meter
  told_whole refused run later left written wrote meter s p =
      let script : Script = script_of s.input in
      let placed : List Placed = placed_of s.input in
      record {
        input = s.input;
        is_read = s.is_read;
        at_end = s.at_end;
        put = subst (IsPut first later start wrote) (account_whole script placed)
            (put_then first run.told.writer later start written wrote (telling_by tale choice script placed) (last_told tale (choice script.topology) script placed) s.last.put p);
        outcome = s.last.whole.refusal;
        meter_is = s.last.meter_is;
      }

  pub told_in_part : (refused : Option Refused) (run : ScriptRun C T) (later : Writer) (left written wrote : Option (List ℕ)) (meter : Meter) (stop : Stop) (s : IsSettled seen tale choice first start before from refused run left written meter)
      → StopsIn stop run.told.writer later written wrote (last_told tale (choice (script_of s.input).topology) (script_of s.input) (placed_of s.input)) → Stops (account_by tale choice) (telling_by tale choice) first start from stop later left wrote
  told_in_part refused run later left written wrote meter stop s p =
      let script : Script = script_of s.input in
      let placed : List Placed = placed_of s.input in
      let last : List ℕ = last_told tale (choice script.topology) script placed in
      at_last s.input s.is_read
      (subst (StopsIn stop first later start wrote) (ap (λ xs. telling_by tale choice script placed ++ xs) (append-nil last) ∙ account_whole script placed)
      (stops_by stop first run.told.writer later start written wrote (telling_by tale choice script placed) last [] s.last.put p))
