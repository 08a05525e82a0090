-- an audit reads the lines of a trace one by one, and says yes where each is good

use Rattle.std.proofs.Common.{◌≡◌, ℕ, ◌+◌, ◌<◌, ◌≤◌, ◌==◌, ◌&&◌, not, Bool, true, false, nat_lt, nat_le, List, [], ◌∷◌, ◌++◌, length, codes, decimal, Option, Some, Result, Ok, refl, sym, ◌∙◌, ap, subst, arith, append_assoc, eqb-true, if◌then◌else◌}
use Rattle.std.specs.List.{list_all}
use Rattle.std.specs.Option.{option_and_then}
use Rattle.std.proofs.lemmas.Bool.{and_parts}
use Rattle.std.proofs.lemmas.Bool.Decides.{nat_tests}
use Rattle.std.proofs.lemmas.List.{length-append, take_all}
use Rattle.std.proofs.lemmas.List.Concat.{flat_map-cons}
use Rattle.world_model.specs.Words.{identifier, Topology}
use Rattle.law_trace_truth.specs.lab_text.Forms.{is_name, is_name_octet}
use Rattle.law_trace_truth.specs.lab_text.Line.{input_limit, holds_octet, text_fault}
use Rattle.law_trace_truth.specs.lab_text.declared.line.LineFault.TheVariants.{ScriptTooLong}
use Rattle.law_trace_truth.specs.lab_text.Lines.{lines_of, begun_with}
use Rattle.law_trace_truth.specs.lab_text.Text.{line_of}
use Rattle.law_trace_truth.specs.lab_text.Words.{line_text}
use Rattle.law_passing.specs.ordered_lists.Ordered.{Every}
use Rattle.law_trace_truth.specs.script_model.Texts.{name_of}
use Rattle.law_trace_truth.specs.trace_model.declared.line.TraceLine.{TraceLine}
use Rattle.law_trace_truth.specs.trace_model.declared.line.TraceLine.TheVariants as traces
use Rattle.law_trace_truth.specs.trace_model.declared.refusal.TraceRefusal.{TraceRefusal}
use Rattle.law_trace_truth.specs.trace_model.declared.verdict.Step.TheVariants.{Good}
use Rattle.law_trace_truth.specs.trace_model.Audit.{ReadSoFar, nothing_read, judged_said, with_said, outcome_by, audit_from, audit_of}
use Rattle.law_trace_truth.specs.trace_model.Judgement.{judged}
use Rattle.law_trace_truth.specs.trace_model.Known.{known}
use Rattle.law_trace_truth.specs.trace_model.Lines.{after, line_says, fault_name, says_by, text_says}
use Rattle.law_true_lines.proofs.Texts.{IsText, AreTexts, IsLine, text_join, decimal_text, hex_digits_text, line_is}
use Rattle.world_model.specs.network_model.declared.link.LinkEnd.{LinkEnd}
use Rattle.tell_trace.specs.Passages.{Passage, Linked, Taken, Lost, Framed, Put, Bound, line_said, end_word, passage_words, passage_line, passage_lines}
use Rattle.tell_trace.specs.Reading.{IsSayable, PassagesAreRead}
use Rattle.law_trace_truth.specs.Told.{lines_said}
use Rattle.law_trace_truth.specs.Law.{AreGood}
use Rattle.law_trace_reading.specs.Law.{SaysYes}

-- *Words have no LF*
name_octet : (octet : ℕ) → is_name_octet octet ≡ true → not (octet == 10) ≡ true
name_octet octet e = by (octet == 10) refl
  where
    by : (b : Bool) → (octet == 10) ≡ b → not b ≡ true
    by false f = refl
    by true f = (let ten : octet ≡ 10 = eqb-true octet 10 f in let no : is_name_octet 10 ≡ true = subst (λ (n : ℕ). is_name_octet n ≡ true) ten e in absurd (cc no))

and_both : (a b : Bool) → a ≡ true → b ≡ true → a && b ≡ true
and_both true b e f = f
and_both false b e f = absurd (cc e)

name_octets : (octets : List ℕ) → list_all is_name_octet octets ≡ true → IsText octets
name_octets [] e = refl
name_octets (octet ∷ octets) e =
    let parts = and_parts (is_name_octet octet) (list_all is_name_octet octets) e in
    and_both (not (octet == 10)) _ (name_octet octet parts.0) (name_octets octets parts.1)

name_text : (name : List ℕ) → is_name name ≡ true → IsText name
name_text name e =
    let some = and_parts (nat_le 1 (length name)) _ e in
    let few = and_parts (nat_le (length name) 16) _ some.1 in
    name_octets name (and_parts _ (list_all is_name_octet name) few.1).1

end_text : (topology : Topology) (end : LinkEnd) → is_name (name_of topology end.node) ≡ true → IsText (end_word topology end)
end_text topology end e = text_join (name_of topology end.node) (codes ":" ++ decimal end.port.0) (name_text (name_of topology end.node) e) (text_join (codes ":") (decimal end.port.0) refl (decimal_text end.port.0))

two_text : (sign : List ℕ) (a b : ℕ) → IsText sign → IsText (decimal a ++ (sign ++ decimal b))
two_text sign a b s = text_join (decimal a) (sign ++ decimal b) (decimal_text a) (text_join sign (decimal b) s (decimal_text b))

words_text : (topology : Topology) (passage : Passage) → IsSayable topology passage → AreTexts (passage_words topology passage)
words_text topology (Linked first second) s = (refl, (end_text topology first s.0.0, (end_text topology second s.1.0, tt)))
words_text topology (Taken end) s = (refl, (end_text topology end s.0, tt))
words_text topology (Lost end) s = (refl, (end_text topology end s.0, tt))
words_text topology (Framed mark payload) s = (refl, (two_text (codes ".") mark.packet mark.frame refl, (hex_digits_text payload, tt)))
words_text topology (Put end channel mark) s = (refl, (end_text topology end s.0.0, (two_text (codes "/") channel.vpi channel.vci refl, (two_text (codes ".") mark.packet mark.frame refl, tt))))
words_text topology (Bound end channel flow) s =
    (refl, (name_text (name_of topology end.node) s.0.0, (decimal_text end.port.0, (two_text (codes "/") channel.vpi channel.vci refl, (hex_digits_text (identifier flow), tt)))))

-- *Lines of a text*
first_of : (text rest : List ℕ) → IsText text → lines_of ((text ++ 10 ∷ []) ++ rest) ≡ (text ++ 10 ∷ []) ∷ lines_of rest
first_of [] rest e = refl
first_of (octet ∷ text) rest e =
    let parts = and_parts (not (octet == 10)) _ e in
    ap (λ (b : Bool). if b then (octet ∷ []) ∷ lines_of ((text ++ 10 ∷ []) ++ rest) else begun_with octet (lines_of ((text ++ 10 ∷ []) ++ rest))) (not_ten (octet == 10) parts.0)
    ∙ ap (begun_with octet) (first_of text rest parts.1)
  where
    not_ten : (b : Bool) → not b ≡ true → b ≡ false
    not_ten true f = absurd (cc f)
    not_ten false f = refl

line_first : (line rest : List ℕ) → IsLine line → lines_of (line ++ rest) ≡ line ∷ lines_of rest
line_first line rest l =
    ap (λ (xs : List ℕ). lines_of (xs ++ rest)) l.ends ∙ first_of l.text rest l.is_text ∙ ap (λ (xs : List ℕ). xs ∷ lines_of rest) (sym l.ends)

-- *The end* of a trace
abbrev end_line : List ℕ
end_line = line_of (codes "end" ∷ [])

end_is : (octets : ℕ) → octets + 4 < input_limit → line_says octets (line_of (codes "end" ∷ [])) ≡ Ok (Some traces.End)
end_is octets low = ap (λ (b : Bool). says_by (option_and_then fault_name (if b then Some ScriptTooLong else text_fault (line_text (line_of (codes "end" ∷ []))))) (text_says (line_text (line_of (codes "end" ∷ []))))) within
  where
    below : (n : ℕ) → n + 4 < 16777217 → nat_le 16777217 (n + 4) ≡ false
    below n less = grind (arith, nat_tests, less)

    and_false : (a b : Bool) → b ≡ false → a && b ≡ false
    and_false true b e = e
    and_false false b e = refl

    within : holds_octet octets (line_of (codes "end" ∷ [])) input_limit ≡ false
    within = and_false (nat_lt octets 16777217) (nat_le 16777217 (octets + 4)) (below octets low)

module _ (topology : Topology) (read : PassagesAreRead) where
  read_on : (past : ReadSoFar) (line : List ℕ) (lines : List (List ℕ)) (said : TraceLine) → line_says past.octets line ≡ Ok (Some said) → judged (known past.trace) said ≡ Ok Good
      → audit_from past (line ∷ lines) ≡ audit_from (record { lines = past.lines + 1; octets = past.octets + length line; trace = said ∷ past.trace }) lines
  read_on past line lines said e good =
      ap (λ (s : Result (Option TraceLine) TraceRefusal). outcome_by past (audit_from (record { lines = past.lines + 1; octets = past.octets + length line; trace = with_said past.trace s }) lines) (after (judged_said (known past.trace)) s)) e
      ∙ ap (outcome_by past (audit_from (record { lines = past.lines + 1; octets = past.octets + length line; trace = said ∷ past.trace }) lines)) good

  reads : (passages : List Passage) (past : ReadSoFar) → Every (IsSayable topology) passages → past.octets + length (passage_lines topology passages ++ end_line) < input_limit → AreGood past.trace (lines_said topology passages)
      → SaysYes (audit_from past (lines_of (passage_lines topology passages ++ end_line)))
  reads [] past all low good =
      subst SaysYes (sym (read_on past end_line [] traces.End (end_is past.octets low) good.0)) tt
  reads (passage ∷ passages) past all low good =
      let line : List ℕ = passage_line topology passage in
      let rest : List ℕ = passage_lines topology passages ++ end_line in
      let joined : passage_lines topology (passage ∷ passages) ++ end_line ≡ line ++ rest =
      ap (λ (xs : List ℕ). xs ++ end_line) (flat_map-cons (passage_line topology) passage passages) ∙ append_assoc line (passage_lines topology passages) end_line in
      let size : length (line ++ rest) ≡ length line + length rest = length-append line rest in
      let whole : past.octets + (length line + length rest) < input_limit = subst (λ (n : ℕ). past.octets + n < input_limit) (ap length joined ∙ size) low in
      let said = read past.octets topology passage all.0 (within past.octets (length line) (length rest) whole) in
      subst SaysYes (sym (ap (λ (xs : List ℕ). audit_from past (lines_of xs)) joined
      ∙ ap (audit_from past) (line_first line rest (line_is (passage_words topology passage) (words_text topology passage all.0)))
      ∙ read_on past line (lines_of rest) (line_said topology passage) said good.0))
      (reads passages (record { lines = past.lines + 1; octets = past.octets + length line; trace = line_said topology passage ∷ past.trace }) all.1 (behind past.octets (length line) (length rest) whole) good.1)
    where
      within : (o a b : ℕ) → o + (a + b) < 16777217 → o + a < 16777217
      within o a b less = omega (arith, less)

      behind : (o a b : ℕ) → o + (a + b) < 16777217 → (o + a) + b < 16777217
      behind o a b less = omega (arith, less)

  -- *The whole*
  pub audited : (passages : List Passage) → Every (IsSayable topology) passages → length (passage_lines topology passages ++ end_line) < input_limit → AreGood [] (lines_said topology passages)
      → SaysYes (audit_of (passage_lines topology passages ++ line_of (codes "end" ∷ [])))
  unfolding audit_of
  audited passages all low good =
      subst SaysYes (sym (ap (λ (xs : List ℕ). audit_from nothing_read (lines_of xs)) (take_all input_limit (passage_lines topology passages ++ end_line) (below (length (passage_lines topology passages ++ end_line)) low))))
      (reads passages nothing_read all (from_none (length (passage_lines topology passages ++ end_line)) low) good)
    where
      below : (n : ℕ) → n < 16777217 → n ≤ 16777217
      below n less = omega (arith, less)

      from_none : (n : ℕ) → n < 16777217 → 0 + n < 16777217
      from_none n less = omega (arith, less)
