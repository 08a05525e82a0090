-- a task goes on in its input

use Rattle.std.proofs.Common.{◌≡◌, ◌⊎◌, inl, inr, ℕ, ◌+◌, ◌-◌, ◌<◌, ◌≤◌, Bool, true, false, List, [], ◌∷◌, ◌++◌, append_assoc, append-nil, length, length-append, take, Option, None, Some, Result, Ok, Err, refl, sym, ◌∙◌, ap, subst, arith}
use Rattle.std.specs.Io.KnownBytes.{Consumes, IsAtEnd}
use Rattle.std.proofs.KnownBytes.{Consumes-trans}
use Rattle.std.proofs.lemmas.Bool.Decides.{nat_tests}
use Rattle.lab_io.specs.Lines.{Answer, Given, Long, Past, Over, Reader, answer_in, feed, is_all}
use Rattle.lab_io.specs.Reading as reading
use Rattle.lab_io.specs.Report.{IsPut, Writer}
use Rattle.lab_text.specs.Line.{input_limit, line_limit}
use Rattle.lab_text.specs.Lines.{lines_of}
use Rattle.lab_text.specs.Words.{line_text}
use Rattle.lab_text.proofs.LineLemmas.{only_line}
use Rattle.line_by_line.specs.declared.line_run.LineRun.{LineRun}
use Rattle.lab_io.specs.declared.stop.Stop.{Stop}
use Rattle.lab_io.specs.declared.stop.Stop.TheVariants as stop
use Rattle.line_by_line.specs.Faults.{ended_as, fault_of}
use Rattle.line_by_line.specs.Account.{Account, IsOpen, caused, led_by, report}
use Rattle.lab_io.specs.Puts.{StopsIn}
use Rattle.line_by_line.specs.Report.{IsReadOut, account_of}
use Rattle.line_by_line.specs.Steps.{Concludes, GoesOn, IsPast, IsTooLong, Settles}
use Rattle.line_by_line.specs.Reading.{Advances, Halts, HasNext, HasShape, IsAtLine, IsCounted, IsInMidst, IsSettled, Stops, ends_line, at_last, in_lines}
use Rattle.line_by_line.proofs.InputLines.{Answers, IsFirst, all_of_it, answer_at_end, answer_is, answer_says, front_line, has_end, has_no_end, no_answer, with_end}
use Rattle.line_by_line.proofs.InputAccounts.{Fits, Follows, account_at, account_end, account_last, account_next, long_follows, past_follows}
use Rattle.lab_io.proofs.Stops.{put_then, stops_then}

-- nothing stands behind all of it
nil_behind : (line held : List ℕ) → line ≡ line ++ held → held ≡ []
nil_behind [] held e = sym e
nil_behind (x ∷ line) held e = nil_behind line held cc

-- where no octet may come, the source is at its end or the limit is reached
whole_is : (given : ℕ) (is_ended : Bool) (seen : List ℕ) → is_all given is_ended seen ≡ true → (is_ended ≡ true) ⊎ (input_limit ≤ given + length seen)
whole_is given true seen e = inl refl
whole_is given false seen e = inr (grind (arith, nat_tests, e))

-- nothing was seen, and nothing is left
record IsOver (octets : List ℕ) (left : Option (List ℕ)) : Type 0 where
  none : octets ≡ []
  end : IsAtEnd left

-- what is left at the end
none_left : (left : Option (List ℕ)) (others : List ℕ) → IsAtEnd left → left ≡ Some others → others ≡ []
none_left None others end is = absurd (cc is)
none_left (Some xs) others end is = (let same : xs ≡ others = cc in sym same ∙ end)

-- *A line that is given* has octets, not too many, and counts
pub record IsFit (octets : ℕ) (old now : Reader) (line : List ℕ) : Type 0 where
  pub some : 0 < length line
  pub short : length (line_text line) ≤ line_limit
  pub room : octets + length line < input_limit
  pub given : now.given ≡ old.given + length line

pub line_fits : (octets : ℕ) (run : LineRun) (now : Reader) (left later : Option (List ℕ)) (line : List ℕ) → IsCounted octets run → reading.IsNext run.reader now left later (Given line) → IsFit octets run.reader now line
line_fits octets run now left later line k n =
    let an : Answers run.reader.given (is_all run.reader.given now.is_ended n.seen) n.seen (Given line) = answer_is run.reader.given now.is_ended n.seen (Given line) n.answered in
    let says = answer_says run.reader.given an.line (Given line) an.answered in
    let size : length an.line ≡ length line = ap length says.0 in
    record {
      some = omega (arith, says.1.some, size);
      short = subst (λ xs. length (line_text xs) ≤ line_limit) says.0 says.1.short;
      room = omega (arith, k.octets_are, says.1.low, size);
      given = n.kept.1;
    }

-- a source that was at its end still is
pub still_at_end : {S : Type 0} (left_of : S → Option (List ℕ)) (old new : S) (r : Reader) → (r.is_ended ≡ true → IsAtEnd (left_of old))
    → ((answer : Answer) → answer_in r.given r.is_ended r.held ≡ Some answer → new ≡ old) → (r.is_ended ≡ true) ⊎ IsAtEnd (left_of new) → IsAtEnd (left_of new)
still_at_end left_of old new r was unread (inl is) =
    (let answer = answer_at_end r.given r.is_ended r.held is in subst (λ s. IsAtEnd (left_of s)) (sym (unread answer.0 answer.1)) (was is))
still_at_end left_of old new r was unread (inr is) = is

-- *What octets lead* an account by
led_twice : {O : Type 0} (one other : List ℕ) (account : Account O) → led_by one (led_by other account) ≡ led_by (one ++ other) account
led_twice one other account = ap (λ xs. record account { body = xs }) (sym (append_assoc one other account.body))

report_led : {O : Type 0} (octets : List ℕ) (account : Account O) → report (led_by octets account) ≡ octets ++ report account
report_led octets account = append_assoc octets account.body account.last

caused_led : {O : Type 0} (octets : List ℕ) (account : Account O) → caused (led_by octets account) ≡ octets ++ caused account
caused_led octets account = by account.is_ended refl
  where
    by : (b : Bool) → account.is_ended ≡ b → caused (led_by octets account) ≡ octets ++ caused account
    by true e = rw e (report_led octets account)
    by false e = rw e refl

module _ {O : Type 0} (account : List (List ℕ) → Account O) (first : Writer) (start from : Option (List ℕ)) where
  -- *The reader* has read on
  read_on : (given held seen_octets read : List ℕ) (left later : Option (List ℕ)) → Consumes from left (given ++ held) → Consumes left later read → seen_octets ≡ held ++ read → Consumes from later (given ++ seen_octets)
  read_on given held octets read left later h n behind =
      subst (Consumes from later) (append_assoc given held read ∙ ap (λ xs. given ++ xs) (sym behind)) (Consumes-trans from left later (given ++ held) read h n)

  -- *What an input comes to*, of which some is put and this is still to come
  settled : (input octets : List ℕ) (still : Account O) (left : Option (List ℕ)) → IsReadOut account from left input → account_of account input ≡ led_by octets still → (still.is_ended ≡ false → IsAtEnd left)
      → (old new : Writer) (written then : Option (List ℕ)) (outcome : O) → IsPut first old start written octets → Concludes still (Ok outcome) old new written then → IsSettled account first start from outcome new left then
  settled input octets still left is_read same at_end old new written then outcome put c = record {
    input = input;
    is_read = is_read;
    at_end = λ e. at_end (sym (ap (λ (a : Account O). a.is_ended) same) ∙ e);
    put = subst (IsPut first new start then) (sym (ap report same ∙ report_led octets still)) (put_then first old new start written then octets (report still) put c.1);
    outcome_is = c.0 ∙ sym (ap (λ (a : Account O). a.outcome) same);
  }

  stopped : (input octets : List ℕ) (still : Account O) (left : Option (List ℕ)) → IsReadOut account from left input → account_of account input ≡ led_by octets still
      → (old new : Writer) (written then : Option (List ℕ)) (stop : Stop) → IsPut first old start written octets → Concludes still (Err stop) old new written then → Stops account first start from stop new left then
  stopped input octets still left is_read same old new written then stop put c =
      at_last input is_read (subst (StopsIn stop first new start then) (sym (ap report same ∙ report_led octets still)) (stops_then stop first old new start written then octets (report still) put c))

  -- as a fault tells it
  pub halts : (it : Stop) (writer : Writer) (left then : Option (List ℕ)) → Stops account first start from it writer left then → Halts account first start from (fault_of it) writer left then
  halts stop.Failed writer left then s = s
  halts (stop.OutOfMemory error) writer left then s = s

  -- the end of a task: it is settled, or it stopped
  ends_as : (result : Result O Stop) (after : List (List ℕ) → Account O) (run : LineRun) (left then : Option (List ℕ)) → ((outcome : O) → result ≡ Ok outcome → IsSettled account first start from outcome run.writer left then)
      → ((it : Stop) → result ≡ Err it → Stops account first start from it run.writer left then) → Advances account first start from (ended_as result) after run left then
  ends_as (Ok outcome) after run left then good bad = good outcome refl
  ends_as (Err it) after run left then good bad = halts it run.writer left then (bad it refl)

  -- *A line is given*
  pub next_line : (now : List (List ℕ) → Account O) (run : LineRun) (reader : Reader) (left later written : Option (List ℕ)) (line : List ℕ) → IsAtLine account first start from now run left written
      → reading.IsNext run.reader reader left later (Given line) → (reader.is_ended ≡ true → IsAtEnd later) → HasNext account first start from line now (record run { reader = reader }) later written
  next_line now run reader left later written line h n ended =
      let an : Answers run.reader.given (is_all run.reader.given reader.is_ended n.seen) n.seen (Given line) = answer_is run.reader.given reader.is_ended n.seen (Given line) n.answered in
      let says = answer_says run.reader.given an.line (Given line) an.answered in
      let is_first : IsFirst (is_all run.reader.given reader.is_ended n.seen) n.seen line = subst (IsFirst (is_all run.reader.given reader.is_ended n.seen) n.seen) says.0 an.first in
      let size : length an.line ≡ length line = ap length says.0 in
      record {
        lines = h.lines;
        given = h.given;
        octets = h.octets;
        read = subst (Consumes from later) (ap (λ xs. h.given ++ xs) n.kept.0 ∙ sym (append_assoc h.given line reader.held))
            (read_on h.given run.reader.held n.seen n.saw.read left later h.read n.saw.consumed n.saw.behind);
        split = h.split;
        size = omega (arith, h.size, n.kept.1);
        low = omega (arith, n.kept.1, says.1.low, size);
        shape = shape_of is_first (omega (arith, says.1.some, size)) (omega (arith, says.1.low, size)) n.kept.0;
        ended = ended;
        same = h.same;
        put = h.put;
      }
    where
      shape_of : IsFirst (is_all run.reader.given reader.is_ended n.seen) n.seen line → 0 < length line → run.reader.given + length line < input_limit → n.seen ≡ line ++ reader.held
          → HasShape (ends_line line) line reader.held later
      shape_of (with_end others e f) some low kept = subst (λ (b : Bool). HasShape b line reader.held later) (sym (has_end line f)) (λ more. front_line line more f)
      shape_of (all_of_it w same f) some low kept =
          let high : feed line ≡ length line = subst (λ xs. feed xs ≡ length xs) (sym same) f in
          let size : length line ≡ length n.seen = ap length same in
          let at_end : IsAtEnd later = elim (whole_is run.reader.given reader.is_ended n.seen w) [ inl e ↦ ended e | inr past ↦ absurd (omega (arith, past, low, size)) ] in
          subst (λ (b : Bool). HasShape b line reader.held later) (sym (has_no_end line high))
          (only_line line some (omega (arith, high)), nil_behind line reader.held (same ∙ kept), at_end)

  -- *What became of a line*
  module _ (line : List ℕ) (now : List (List ℕ) → Account O) (run : LineRun) (left written : Option (List ℕ)) (h : HasNext account first start from line now run left written) where
    low : length h.given < input_limit
    low = omega (arith, h.size, h.low)

    few : length h.given + length line < input_limit
    few = omega (arith, h.size, h.low)

    one_line : (b : Bool) → HasShape b line run.reader.held left → lines_of line ≡ line ∷ []
    one_line true shape = ap lines_of (sym (append-nil line)) ∙ shape []
    one_line false shape = shape.0

    whole_is_made : account_of account (h.given ++ line) ≡ account (h.lines ++ line ∷ [])
    whole_is_made = account_last account h.given h.lines low h.split line few (one_line (ends_line line) h.shape)

    end_of_shape : (b : Bool) → HasShape b line run.reader.held left → b ≡ false → IsAtEnd left
    end_of_shape true shape e = absurd (cc e)
    end_of_shape false shape e = shape.2

    -- another may follow
    pub taken_goes : (behind : List (List ℕ) → Account O) (later : LineRun) (then : Option (List ℕ)) → ends_line line ≡ true → later.reader ≡ run.reader
        → GoesOn now behind line run.writer later.writer written then → IsAtLine account first start from behind later left then
    taken_goes behind later then e same g =
        let shape : (others : List ℕ) → lines_of (line ++ others) ≡ line ∷ lines_of others = subst (λ (b : Bool). HasShape b line run.reader.held left) e h.shape in
        record {
          lines = h.lines ++ line ∷ [];
          given = h.given ++ line;
          octets = h.octets ++ g.octets;
          read = subst (λ (r : Reader). Consumes from left ((h.given ++ line) ++ r.held)) (sym same) h.read;
          split = λ others. ap lines_of (append_assoc h.given line others) ∙ h.split (line ++ others) ∙ ap (λ ls. h.lines ++ ls) (shape others)
              ∙ sym (append_assoc h.lines (line ∷ []) (lines_of others));
          size = length-append h.given line ∙ h.size ∙ ap (λ (r : Reader). r.given) (sym same);
          ended = λ is. h.ended (sym (ap (λ (r : Reader). r.is_ended) same) ∙ is);
          same = λ others. ap account (append_assoc h.lines (line ∷ []) others) ∙ h.same (line ∷ others) ∙ ap (led_by h.octets) (g.same others) ∙ led_twice h.octets g.octets (behind others);
          put = put_then first run.writer later.writer start written then h.octets g.octets h.put g.put;
        }

    -- it has no end, so none follows
    last_read : ends_line line ≡ false → IsReadOut account from left (h.given ++ line)
    last_read e =
        let shape = subst (λ (b : Bool). HasShape b line run.reader.held left) e h.shape in
        record {
          read = subst (Consumes from left) (ap (λ xs. (h.given ++ line) ++ xs) shape.1 ∙ append-nil (h.given ++ line)) h.read;
          settled = λ others is. ap (λ xs. account_of account ((h.given ++ line) ++ xs)) (none_left left others shape.2 is) ∙ ap (account_of account) (append-nil (h.given ++ line));
        }

    last_made : (behind : List (List ℕ) → Account O) (middle : Writer) (between : Option (List ℕ)) (g : GoesOn now behind line run.writer middle written between)
        → account_of account (h.given ++ line) ≡ led_by (h.octets ++ g.octets) (behind [])
    last_made behind middle between g = whole_is_made ∙ h.same (line ∷ []) ∙ ap (led_by h.octets) (g.same []) ∙ led_twice h.octets g.octets (behind [])

    taken_last : (behind : List (List ℕ) → Account O) (middle later : Writer) (between then : Option (List ℕ)) (outcome : O) → ends_line line ≡ false
        → GoesOn now behind line run.writer middle written between → Concludes (behind []) (Ok outcome) middle later between then → IsSettled account first start from outcome later left then
    taken_last behind middle later between then outcome e g c =
        settled (h.given ++ line) (h.octets ++ g.octets) (behind []) left (last_read e) (last_made behind middle between g) (λ kept. end_of_shape (ends_line line) h.shape e) middle later between then outcome
        (put_then first run.writer middle start written between h.octets g.octets h.put g.put) c

    last_stopped : (behind : List (List ℕ) → Account O) (middle later : Writer) (between then : Option (List ℕ)) (stop : Stop) → ends_line line ≡ false
        → GoesOn now behind line run.writer middle written between → Concludes (behind []) (Err stop) middle later between then → Stops account first start from stop later left then
    last_stopped behind middle later between then stop e g c =
        stopped (h.given ++ line) (h.octets ++ g.octets) (behind []) left (last_read e) (last_made behind middle between g) middle later between then stop
        (put_then first run.writer middle start written between h.octets g.octets h.put g.put) c

    pub last_advances : (behind after : List (List ℕ) → Account O) (middle : Writer) (later : LineRun) (between then : Option (List ℕ)) (result : Result O Stop) → ends_line line ≡ false
        → GoesOn now behind line run.writer middle written between → Concludes (behind []) result middle later.writer between then → Advances account first start from (ended_as result) after later left then
    last_advances behind after middle later between then result e g c =
        ends_as result after later left then
        (λ outcome is. taken_last behind middle later.writer between then outcome e g (subst (λ (r : Result O Stop). Concludes (behind []) r middle later.writer between then) is c))
        (λ it is. last_stopped behind middle later.writer between then it e g (subst (λ (r : Result O Stop). Concludes (behind []) r middle later.writer between then) is c))

    -- *It ends the task*: what is made of the input is the same, whatever is left
    account_stays : (made : Account O) → ((others : List (List ℕ)) → account (h.lines ++ line ∷ others) ≡ made) → (b : Bool) → HasShape b line run.reader.held left → (others : List ℕ) → (b ≡ false → others ≡ [])
        → account_of account (((h.given ++ line) ++ run.reader.held) ++ others) ≡ made
    account_stays made same true shape others none =
        ap (account_of account) (append_assoc (h.given ++ line) run.reader.held others ∙ append_assoc h.given line (run.reader.held ++ others))
        ∙ account_next account h.given h.lines low h.split line (run.reader.held ++ others) few shape ∙ same _
    account_stays made same false shape others none =
        (λ i. account_of account (((h.given ++ line) ++ shape.1 i) ++ none refl i)) ∙ ap (account_of account) (append-nil ((h.given ++ line) ++ []) ∙ append-nil (h.given ++ line)) ∙ whole_is_made ∙ same []

    pub taken_ends : (later : Writer) (then : Option (List ℕ)) (outcome : O) → Settles now line (Ok outcome) run.writer later written then → IsSettled account first start from outcome later left then
    taken_ends later then outcome s =
        let input : List ℕ = (h.given ++ line) ++ run.reader.held in
        let made : Account O = led_by h.octets s.account in
        let same : (others : List (List ℕ)) → account (h.lines ++ line ∷ others) ≡ made = λ others. h.same (line ∷ others) ∙ ap (led_by h.octets) (s.same others) in
        let bare : account_of account input ≡ made = ap (account_of account) (sym (append-nil input)) ∙ account_stays made same (ends_line line) h.shape [] (λ e. refl) in
        settled input h.octets s.account left
        (record {
          read = h.read;
          settled = λ others is. account_stays made same (ends_line line) h.shape others (λ e. none_left left others (end_of_shape (ends_line line) h.shape e) is) ∙ sym bare;
        })
        bare (λ kept. absurd (cc (sym s.is_ended ∙ kept))) run.writer later written then outcome h.put s.concluded

    -- *It stopped* in what the line has caused
    lines_stay : (b : Bool) → HasShape b line run.reader.held left → (others : List ℕ) → (b ≡ false → others ≡ [])
        → lines_of ((h.given ++ line) ++ (run.reader.held ++ others)) ≡ lines_of (h.given ++ line) ++ lines_of (run.reader.held ++ others)
    lines_stay true shape others none =
        let rest : List ℕ = run.reader.held ++ others in
        ap lines_of (append_assoc h.given line rest) ∙ h.split (line ++ rest) ∙ ap (λ ls. h.lines ++ ls) (shape rest)
        ∙ sym (append_assoc h.lines (line ∷ []) (lines_of rest))
        ∙ ap (λ ls. ls ++ lines_of rest) (sym (h.split line ∙ ap (λ ls. h.lines ++ ls) (one_line true shape)))
    lines_stay false shape others none =
        (λ i. lines_of ((h.given ++ line) ++ (shape.1 i ++ none refl i))) ∙ ap lines_of (append-nil (h.given ++ line)) ∙ sym (append-nil (lines_of (h.given ++ line)))
        ∙ sym (λ i. lines_of (h.given ++ line) ++ lines_of (shape.1 i ++ none refl i))

    pub taken_stopped : (later : Writer) (then : Option (List ℕ)) (stop : Stop) → StopsIn stop run.writer later written then (caused (now (line ∷ []))) → Stops account first start from stop later left then
    taken_stopped later then stop s =
        in_lines (h.given ++ line) run.reader.held
        (record {
          read = h.read;
          lines = λ others is. lines_stay (ends_line line) h.shape others (λ e. none_left left others (end_of_shape (ends_line line) h.shape e) is);
        })
        (subst (StopsIn stop first later start then) (sym (ap caused (whole_is_made ∙ h.same (line ∷ [])) ∙ caused_led h.octets (now (line ∷ []))))
        (stops_then stop first run.writer later start written then h.octets (caused (now (line ∷ []))) h.put s))

  -- *A line that isn't kept*
  module _ (now : List (List ℕ) → Account O) (run : LineRun) (reader : Reader) (left later written : Option (List ℕ)) (h : IsAtLine account first start from now run left written)
      (under : run.reader.given < input_limit) (ended : reader.is_ended ≡ true → IsAtEnd later) where
    short : length h.given < input_limit
    short = omega (arith, h.size, under)

    module _ (Is : List ℕ → Type 0) (answer : Answer) (n : reading.IsNext run.reader reader left later answer) (f : Follows Is run.reader.given (is_all run.reader.given reader.is_ended n.seen) n.seen) (made : Account O)
        (same : (others : List (List ℕ)) → now (f.line ∷ others) ≡ made) where
      at : (others : List ℕ) → Fits run.reader.given (is_all run.reader.given reader.is_ended n.seen) n.seen others → account_of account ((h.given ++ n.seen) ++ others) ≡ led_by h.octets made
      at others fits =
          (let found = f.at others fits in
          ap (account_of account) (append_assoc h.given n.seen others) ∙ account_at account h.given h.lines short h.split (n.seen ++ others)
          ∙ ap (λ k. account (h.lines ++ lines_of (take (input_limit - k) (n.seen ++ others)))) h.size
          ∙ ap (λ ls. account (h.lines ++ ls)) found.1 ∙ h.same (f.line ∷ found.0) ∙ ap (led_by h.octets) (same found.0))

      bare : account_of account (h.given ++ n.seen) ≡ led_by h.octets made
      bare = ap (account_of account) (sym (append-nil (h.given ++ n.seen))) ∙ at [] (λ w. inr refl)

      fits_left : (others : List ℕ) → later ≡ Some others → Fits run.reader.given (is_all run.reader.given reader.is_ended n.seen) n.seen others
      fits_left others is w = elim (whole_is run.reader.given reader.is_ended n.seen w) [ inl e ↦ inr (none_left later others (ended e) is) | inr past ↦ inl past ]

      seen_read : IsReadOut account from later (h.given ++ n.seen)
      seen_read = record {
        read = read_on h.given run.reader.held n.seen n.saw.read left later h.read n.saw.consumed n.saw.behind;
        settled = λ others is. at others (fits_left others is) ∙ sym bare;
      }

    unkept_ends : (Is : List ℕ → Type 0) (answer : Answer) (n : reading.IsNext run.reader reader left later answer) → Follows Is run.reader.given (is_all run.reader.given reader.is_ended n.seen) n.seen
        → (new : Writer) (then : Option (List ℕ)) (outcome : O) → ((line : List ℕ) → Is line → Settles now line (Ok outcome) run.writer new written then) → IsSettled account first start from outcome new later then
    unkept_ends Is answer n f new then outcome s =
        let it = s f.line f.is in
        settled (h.given ++ n.seen) h.octets it.account later (seen_read Is answer n f it.account it.same) (bare Is answer n f it.account it.same) (λ kept. absurd (cc (sym it.is_ended ∙ kept)))
        run.writer new written then outcome h.put it.concluded

    unkept_stops : (Is : List ℕ → Type 0) (answer : Answer) (n : reading.IsNext run.reader reader left later answer) → Follows Is run.reader.given (is_all run.reader.given reader.is_ended n.seen) n.seen
        → (new : Writer) (then : Option (List ℕ)) (stop : Stop) → ((line : List ℕ) → Is line → Settles now line (Err stop) run.writer new written then) → Stops account first start from stop new later then
    unkept_stops Is answer n f new then stop s =
        let it = s f.line f.is in
        stopped (h.given ++ n.seen) h.octets it.account later (seen_read Is answer n f it.account it.same) (bare Is answer n f it.account it.same)
        run.writer new written then stop h.put it.concluded

    long_comes : (n : reading.IsNext run.reader reader left later Long) → Follows (IsTooLong run.reader.given) run.reader.given (is_all run.reader.given reader.is_ended n.seen) n.seen
    long_comes n =
        let an : Answers run.reader.given (is_all run.reader.given reader.is_ended n.seen) n.seen Long = answer_is run.reader.given reader.is_ended n.seen Long n.answered in
        let says = answer_says run.reader.given an.line Long an.answered in
        long_follows run.reader.given (is_all run.reader.given reader.is_ended n.seen) n.seen an.line an.first says.0 says.1

    past_comes : (n : reading.IsNext run.reader reader left later Past) → Follows (IsPast run.reader.given) run.reader.given (is_all run.reader.given reader.is_ended n.seen) n.seen
    past_comes n =
        let an : Answers run.reader.given (is_all run.reader.given reader.is_ended n.seen) n.seen Past = answer_is run.reader.given reader.is_ended n.seen Past n.answered in
        let says = answer_says run.reader.given an.line Past an.answered in
        past_follows run.reader.given (is_all run.reader.given reader.is_ended n.seen) n.seen an.line an.first under says

    unkept_advances : (Is : List ℕ → Type 0) (answer : Answer) (n : reading.IsNext run.reader reader left later answer) → Follows Is run.reader.given (is_all run.reader.given reader.is_ended n.seen) n.seen
        → (after : List (List ℕ) → Account O) (new : LineRun) (then : Option (List ℕ)) (result : Result O Stop) → ((line : List ℕ) → Is line → Settles now line result run.writer new.writer written then)
        → Advances account first start from (ended_as result) after new later then
    unkept_advances Is answer n f after new then result s =
        ends_as result after new later then
        (λ outcome is. unkept_ends Is answer n f new.writer then outcome (λ line it. subst (λ (r : Result O Stop). Settles now line r run.writer new.writer written then) is (s line it)))
        (λ stops is. unkept_stops Is answer n f new.writer then stops (λ line it. subst (λ (r : Result O Stop). Settles now line r run.writer new.writer written then) is (s line it)))

    pub long_advances : reading.IsNext run.reader reader left later Long → (after : List (List ℕ) → Account O) (new : LineRun) (then : Option (List ℕ)) (result : Result O Stop)
        → ((line : List ℕ) → IsTooLong run.reader.given line → Settles now line result run.writer new.writer written then) → Advances account first start from (ended_as result) after new later then
    long_advances n after new then result s = unkept_advances (IsTooLong run.reader.given) Long n (long_comes n) after new then result s

    pub past_advances : reading.IsNext run.reader reader left later Past → (after : List (List ℕ) → Account O) (new : LineRun) (then : Option (List ℕ)) (result : Result O Stop)
        → ((line : List ℕ) → IsPast run.reader.given line → Settles now line result run.writer new.writer written then) → Advances account first start from (ended_as result) after new later then
    past_advances n after new then result s = unkept_advances (IsPast run.reader.given) Past n (past_comes n) after new then result s

    -- *The lines that were taken*
    given_made : account_of account h.given ≡ led_by h.octets (now [])
    given_made = account_end account h.given h.lines short h.split ∙ ap account (sym (append-nil h.lines)) ∙ h.same []

    -- *The end*
    over : reading.IsNext run.reader reader left later Over → IsReadOut account from later h.given × IsAtEnd later
    over n =
        let an : Answers run.reader.given (is_all run.reader.given reader.is_ended n.seen) n.seen Over = answer_is run.reader.given reader.is_ended n.seen Over n.answered in
        let is = nothing an.line an.first (answer_says run.reader.given an.line Over an.answered) in (
          record {
            read = subst (Consumes from later) (ap (λ xs. h.given ++ xs) is.none ∙ append-nil h.given)
                (read_on h.given run.reader.held n.seen n.saw.read left later h.read n.saw.consumed n.saw.behind);
            settled = λ others left_is. ap (λ xs. account_of account (h.given ++ xs)) (none_left later others is.end left_is) ∙ ap (account_of account) (append-nil h.given);
          },
          is.end,
        )
      where
        empty : (xs : List ℕ) → length xs ≡ 0 → xs ≡ []
        empty [] e = refl
        empty (x ∷ xs) e = absurd (omega (arith, e))

        nothing : (line : List ℕ) → IsFirst (is_all run.reader.given reader.is_ended n.seen) n.seen line → length line ≡ 0 → IsOver n.seen later
        nothing line (with_end others e f) bare = absurd (omega (arith, f, bare))
        nothing line (all_of_it w same f) bare =
            let size : length n.seen ≡ 0 = sym (ap length same) ∙ bare in
            record {
              none = empty n.seen size;
              end = elim (whole_is run.reader.given reader.is_ended n.seen w) [ inl e ↦ ended e | inr past ↦ absurd (omega (arith, past, under, size)) ];
            }

    pub end_advances : reading.IsNext run.reader reader left later Over → (after : List (List ℕ) → Account O) (new : LineRun) (then : Option (List ℕ)) (result : Result O Stop)
        → Concludes (now []) result run.writer new.writer written then → Advances account first start from (ended_as result) after new later then
    end_advances n after new then result c =
        let o = over n in
        ends_as result after new later then
        (λ outcome is. settled h.given h.octets (now []) later o.0 given_made (λ kept. o.1) run.writer new.writer written then outcome h.put (subst (λ (r : Result O Stop). Concludes (now []) r run.writer new.writer written then) is c))
        (λ it is. stopped h.given h.octets (now []) later o.0 given_made run.writer new.writer written then it h.put (subst (λ (r : Result O Stop). Concludes (now []) r run.writer new.writer written then) is c))

  -- *A read failed*
  pub read_failed : (now : List (List ℕ) → Account O) (run : LineRun) (left later written : Option (List ℕ)) (h : IsAtLine account first start from now run left written) → run.reader.given < input_limit
      → reading.IsCutOff run.reader left later → IsOpen (now []) → IsInMidst account first start from run.writer later written
  read_failed now run left later written h under cut none =
      let short : length h.given < input_limit = omega (arith, h.size, under) in
      let made : account_of account h.given ≡ led_by h.octets (now []) = account_end account h.given h.lines short h.split ∙ ap account (sym (append-nil h.lines)) ∙ h.same [] in
      record {
        whole = h.given;
        rest = cut.seen;
        lines = record {
          read = read_on h.given run.reader.held cut.seen cut.saw.read left later h.read cut.saw.consumed cut.saw.behind;
          lines = λ others is. h.split (cut.seen ++ others) ∙ ap (λ ls. ls ++ lines_of (cut.seen ++ others)) (sym (ap lines_of (sym (append-nil h.given)) ∙ h.split [] ∙ append-nil h.lines));
        };
        no_line = no_answer run.reader.given run.reader.is_ended cut.seen cut.unanswered;
        unended = ap (λ (a : Account O). a.is_ended) made ∙ none.is_ended;
        put = subst (IsPut first run.writer start written) (sym (ap (λ (a : Account O). a.body) made ∙ ap (λ xs. h.octets ++ xs) none.body ∙ append-nil h.octets)) h.put;
      }
