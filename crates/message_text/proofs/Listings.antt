-- The lines of an input are decoded one after the other

use Rattle.std.proofs.Common.{◌≡◌, List, ℕ, [], ◌∷◌, ◌+◌, ◌≤◌, ◌++◌, length, Option, None, Some, Result, Ok, Err, is_some, true, false, codes, refl, sym, ap, ◌∙◌, subst, arith}
use Rattle.std.proofs.lemmas.List.{append_assoc, append-nil, take_all}
use Rattle.lab_text.specs.declared.line.LineFault.{LineFault}
use Rattle.lab_text.specs.Line.{hex_line}
use Rattle.lab_text.specs.Lines.{lines_of}
use Rattle.message_text.specs.declared.protocol.Protocol.{Protocol}
use Rattle.message_text.specs.Listing.{IsFollowed, AppendsAnswer, IsLineListed, IsListedFrom, IsListing, listed_by, fault_by, fault_from, fault_in, refused_line, lines_in}

-- what a line adds, and what the others add behind it, add up
line_step : (p : Protocol) (number : ℕ) (others : List ℕ → Type 0) (whole : List ℕ → Type 0) (read : Result (Option (List ℕ)) LineFault) (old new : List ℕ)
    → IsLineListed p read None old new → ((text : List ℕ) → listed_by p number others read text → whole (old ++ text))
    → (text : List ℕ) → others text → whole (new ++ text)
line_step p number others whole (Ok None) old new same onward text rest =
    subst (λ (xs : List ℕ). whole (xs ++ text)) (sym same.1) (onward text rest)
line_step p number others whole (Ok (Some octets)) old new listed onward text rest =
    let answered : AppendsAnswer p octets old new = listed.1 in
    let line : List ℕ = codes "\n" in
    let follows : IsFollowed p octets others (answered.answer ++ (line ++ text)) =
    record { answer = answered.answer; rest = text; is_answer = answered.is_answer; is_rest = rest; whole = refl } in
    let joined : new ++ text ≡ old ++ (answered.answer ++ (line ++ text)) =
    ap (λ (xs : List ℕ). xs ++ text) answered.appended ∙ (append_assoc old (answered.answer ++ line) text ∙ ap (λ (xs : List ℕ). old ++ xs) (append_assoc answered.answer line text)) in
    subst whole (sym joined) (onward (answered.answer ++ (line ++ text)) follows)
line_step p number others whole (Err fault) old new never onward text rest = absurd (cc never.0)

-- the same of the first line of a text that is left
pub line_listed : (p : Protocol) (before number : ℕ) (rest line others : List ℕ) (whole : List ℕ → Type 0) (old new : List ℕ)
    → lines_of rest ≡ line ∷ lines_of others → IsLineListed p (hex_line before line) None old new
    → ((text : List ℕ) → IsListedFrom p before number (lines_of rest) text → whole (old ++ text))
    → (text : List ℕ) → IsListedFrom p (before + length line) (number + 1) (lines_of others) text → whole (new ++ text)
line_listed p before number rest line others whole old new split listed onward =
    line_step p (number + 1) (IsListedFrom p (before + length line) (number + 1) (lines_of others)) whole (hex_line before line) old new listed
    (λ text follows. onward text (subst (λ (lines : List (List ℕ)). IsListedFrom p before number lines text) (sym split) follows))

fault_kept : (p : Protocol) (read : Result (Option (List ℕ)) LineFault) (others : Option LineFault) (old new : List ℕ) → IsLineListed p read None old new → fault_by read others ≡ others
fault_kept p (Ok None) others old new listed = refl
fault_kept p (Ok (Some octets)) others old new listed = refl
fault_kept p (Err fault) others old new never = absurd (cc never.0)

pub fault_later : (p : Protocol) (before : ℕ) (rest line others old new : List ℕ) (whole : Option LineFault)
    → lines_of rest ≡ line ∷ lines_of others → IsLineListed p (hex_line before line) None old new
    → fault_from before (lines_of rest) ≡ whole → fault_from (before + length line) (lines_of others) ≡ whole
fault_later p before rest line others old new whole split listed same =
    sym (ap (fault_from before) split ∙ fault_kept p (hex_line before line) (fault_from (before + length line) (lines_of others)) old new listed) ∙ same

-- the lines of an input that isn't too long are all read
pub all_lines : (input : List ℕ) → length input ≤ 16777217 → lines_of input ≡ lines_in input
unfolding lines_in
all_lines input within = ap lines_of (sym (take_all 16777217 input within))

-- a line that is refused was read so
line_refused : (p : Protocol) (read : Result (Option (List ℕ)) LineFault) (fault : LineFault) (old new : List ℕ)
    → IsLineListed p read (Some fault) old new → (read ≡ Err fault) × (new ≡ old)
line_refused p (Ok None) fault old new never = absurd (cc never.0)
line_refused p (Ok (Some octets)) fault old new never = absurd (cc never.0)
line_refused p (Err found) fault old new listed =
    let same : ◌≡◌ {A = Option LineFault} (Some fault) (Some found) = listed.0 in
    (cc same, listed.1)

-- a refused line ends the text
pub refused_listed : (p : Protocol) (before number : ℕ) (rest line others input : List ℕ) (fault : LineFault) (old now new : List ℕ)
    → length input ≤ 16777217 → lines_of rest ≡ line ∷ lines_of others → IsLineListed p (hex_line before line) (Some fault) old now → new ≡ now ++ refused_line (number + 1) fault
    → ((text : List ℕ) → IsListedFrom p before number (lines_of rest) text → IsListedFrom p 0 0 (lines_of input) (old ++ text))
    → IsListing p input new
refused_listed p before number rest line others input fault old now new within split listed written onward =
    let refused : hex_line before line ≡ Err fault = (line_refused p (hex_line before line) fault old now listed).0 in
    let same : now ≡ old = (line_refused p (hex_line before line) fault old now listed).1 in
    let text : List ℕ = refused_line (number + 1) fault in
    let O : List ℕ → Type 0 = IsListedFrom p (before + length line) (number + 1) (lines_of others) in
    let by_line : IsListedFrom p before number (line ∷ lines_of others) text =
    subst (λ (read : Result (Option (List ℕ)) LineFault). listed_by p (number + 1) O read text) (sym refused) refl in
    let by_rest : IsListedFrom p before number (lines_of rest) text =
    subst (λ (lines : List (List ℕ)). IsListedFrom p before number lines text) (sym split) by_line in
    let at_new : IsListedFrom p 0 0 (lines_of input) new =
    subst (λ (xs : List ℕ). IsListedFrom p 0 0 (lines_of input) xs) (sym (written ∙ ap (λ (xs : List ℕ). xs ++ text) same)) (onward text by_rest) in
    subst (λ (lines : List (List ℕ)). IsListedFrom p 0 0 lines new) (all_lines input within) at_new

pub refused_fault : (p : Protocol) (before : ℕ) (rest line others input : List ℕ) (fault : LineFault) (old now : List ℕ)
    → length input ≤ 16777217 → lines_of rest ≡ line ∷ lines_of others → IsLineListed p (hex_line before line) (Some fault) old now
    → fault_from before (lines_of rest) ≡ fault_from 0 (lines_of input) → true ≡ is_some (fault_in input)
refused_fault p before rest line others input fault old now within split listed same =
    let refused : hex_line before line ≡ Err fault = (line_refused p (hex_line before line) fault old now listed).0 in
    let found : fault_from before (lines_of rest) ≡ Some fault =
    ap (fault_from before) split ∙ ap (λ (read : Result (Option (List ℕ)) LineFault). fault_by read (fault_from (before + length line) (lines_of others))) refused in
    sym (ap (λ (f : Option LineFault). is_some f) (sym (ap (fault_from 0) (all_lines input within)) ∙ (sym same ∙ found)))

-- no line is left
pub none_listed : (p : Protocol) (before number : ℕ) (rest input out new : List ℕ)
    → length input ≤ 16777217 → length rest ≡ 0 → new ≡ out
    → ((text : List ℕ) → IsListedFrom p before number (lines_of rest) text → IsListedFrom p 0 0 (lines_of input) (out ++ text))
    → IsListing p input new
none_listed p before number [] input out new within none same onward =
    let at_new : IsListedFrom p 0 0 (lines_of input) new =
    subst (λ (xs : List ℕ). IsListedFrom p 0 0 (lines_of input) xs) (append-nil out ∙ sym same) (onward [] refl) in
    subst (λ (lines : List (List ℕ)). IsListedFrom p 0 0 lines new) (all_lines input within) at_new
none_listed p before number (octet ∷ rest) input out new within none same onward = absurd (omega (arith, none))

pub none_fault : (before : ℕ) (rest input : List ℕ)
    → length input ≤ 16777217 → length rest ≡ 0 → fault_from before (lines_of rest) ≡ fault_from 0 (lines_of input) → false ≡ is_some (fault_in input)
none_fault before [] input within none same =
    sym (ap (λ (f : Option LineFault). is_some f) (sym (ap (fault_from 0) (all_lines input within)) ∙ sym same))
none_fault before (octet ∷ rest) input within none same = absurd (omega (arith, none))
