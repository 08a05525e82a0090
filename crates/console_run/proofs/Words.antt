-- the lines of answers, and of records, one by one

use Rattle.std.proofs.Common.{◌≡◌, ℕ, zero, suc, ◌+◌, ◌<◌, ◌≤◌, List, [], ◌∷◌, ◌++◌, append_assoc, append-nil, drop, length, slice_get, slice_index_or, Some, take, sym, ◌∙◌, ap, arith}
use Rattle.std.proofs.lemmas.List.{drop_all}
use Rattle.std.proofs.lemmas.List.Concat.{flat_map-append, flat_map-cons}
use Rattle.std.proofs.lemmas.Option.{slice_get-get_or}
use Rattle.link_model.specs.declared.record.Record.{Record}
use Rattle.console_model.specs.declared.reply.Reply.{Reply}
use Rattle.console_model.specs.declared.reply.Reply.TheVariants as reply
use Rattle.console_run.specs.Report.{chance_line, chance_lines, reply_line, reply_lines}

drop_here : (replies : List Reply) (place : ℕ) (given : Reply) → slice_get replies place ≡ Some given → drop place replies ≡ given ∷ drop (place + 1) replies
drop_here [] place given is = absurd (cc is)
drop_here (first ∷ replies) zero given is = (let same : first ≡ given = cc in ap (λ g. g ∷ replies) same)
drop_here (first ∷ replies) (suc place) given is =
    (let up : suc (place + 1) ≡ suc place + 1 = omega arith in
    drop_here replies place given is ∙ ap (λ (n : ℕ). given ∷ drop n (first ∷ replies)) up)

-- so many were told: the lines of the others are still to come
pub record AreTold (before out : List ℕ) (told place : ℕ) (replies : List Reply) : Type 0 where
  pub all : out ++ reply_lines (place + 1) (drop place replies) ≡ before ++ reply_lines (told + 1) (drop told replies)

-- one more
pub told_more : (before out then : List ℕ) (told place : ℕ) (replies : List Reply) → place < length replies
    → ((given : Reply) → slice_get replies place ≡ Some given → then ≡ out ++ reply_line (place + 1) given)
    → AreTold before out told place replies → AreTold before then told (place + 1) replies
told_more before out then told place replies low written told_before =
    let given : Reply = slice_index_or replies place reply.Done in
    let is : slice_get replies place ≡ Some given = slice_get-get_or replies place reply.Done low in
    record {
      all = ap (λ xs. xs ++ reply_lines ((place + 1) + 1) (drop (place + 1) replies)) (written given is)
          ∙ append_assoc out (reply_line (place + 1) given) (reply_lines ((place + 1) + 1) (drop (place + 1) replies))
          ∙ ap (λ rest. out ++ reply_lines (place + 1) rest) (sym (drop_here replies place given is))
          ∙ told_before.all;
    }

-- none is left
pub told_all : (before out : List ℕ) (told place : ℕ) (replies : List Reply) → length replies ≤ place → AreTold before out told place replies
    → out ≡ before ++ reply_lines (told + 1) (drop told replies)
told_all before out told place replies end are =
    sym (append-nil out) ∙ ap (λ rest. out ++ reply_lines (place + 1) rest) (sym (drop_all place replies end)) ∙ are.all

-- *Records*: one more
take_push : (records : List Record) (i : ℕ) (item : Record) → slice_get records i ≡ Some item → take (suc i) records ≡ take i records ++ item ∷ []
take_push [] i item e = absurd (cc e)
take_push (x ∷ records) zero item e = (let same : x ≡ item = cc in ap (λ y. y ∷ []) same)
take_push (x ∷ records) (suc i) item e = ap (λ ys. x ∷ ys) (take_push records i item e)

pub chances_more : (before out then : List ℕ) (records : List Record) (i : ℕ) (item : Record) → i < length records → item ≡ slice_index_or records i item
    → out ≡ before ++ chance_lines (take i records) → then ≡ out ++ chance_line item → then ≡ before ++ chance_lines (take (i + 1) records)
chances_more before out then records i item low is was written =
    let e : slice_get records i ≡ Some item = slice_get-get_or records i item low ∙ ap Some (sym is) in
    let up : suc i ≡ i + 1 = omega arith in
    let one : chance_lines (item ∷ []) ≡ chance_line item = flat_map-cons chance_line item [] ∙ append-nil (chance_line item) in
    written ∙ ap (λ xs. xs ++ chance_line item) was ∙ append_assoc before (chance_lines (take i records)) (chance_line item)
    ∙ ap (λ xs. before ++ (chance_lines (take i records) ++ xs)) (sym one)
    ∙ ap (λ xs. before ++ xs) (sym (flat_map-append chance_line (take i records) (item ∷ [])))
    ∙ ap (λ xs. before ++ chance_lines xs) (sym (take_push records i item e))
    ∙ ap (λ (k : ℕ). before ++ chance_lines (take k records)) up
