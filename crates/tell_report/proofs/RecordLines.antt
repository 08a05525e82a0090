-- the lines of records, up to one, of it, and behind it

use Rattle.std.proofs.Common.{◌≡◌, ℕ, zero, suc, ◌+◌, ◌<◌, List, [], ◌∷◌, ◌++◌, drop, length, slice_get, slice_index_or, take, Some, sym, ◌∙◌, ap, arith}
use Rattle.std.proofs.lemmas.Grind.{flat_map-append}
use Rattle.std.proofs.lemmas.List.Concat.{flat_map-cons}
use Rattle.std.proofs.lemmas.Option.{slice_get-get_or}
use Rattle.std.proofs.Common.{append-nil}
use Rattle.link_model.specs.declared.record.Record.{Record}
use Rattle.world_model.specs.Topology.{Topology}
use Rattle.record_text.specs.script_model.Records.{record_line}
use Rattle.record_text.specs.script_model.Reports.{record_lines}

pub lines_append : (t : Topology) (xs ys : List Record) → record_lines t (xs ++ ys) ≡ record_lines t xs ++ record_lines t ys
lines_append t xs ys = flat_map-append (record_line t) xs ys

one_line : (t : Topology) (item : Record) → record_lines t (item ∷ []) ≡ record_line t item
one_line t item = flat_map-cons (record_line t) item [] ∙ append-nil (record_line t item)

take_push : (records : List Record) (i : ℕ) (item : Record) → slice_get records i ≡ Some item → take (suc i) records ≡ take i records ++ item ∷ []
take_push [] i item e = absurd (cc e)
take_push (x ∷ records) zero item e = (let same : x ≡ item = cc in ap (λ y. y ∷ []) same)
take_push (x ∷ records) (suc i) item e = ap (λ ys. x ∷ ys) (take_push records i item e)

drop_pull : (records : List Record) (i : ℕ) (item : Record) → slice_get records i ≡ Some item → take i records ++ (item ∷ drop (suc i) records) ≡ records
drop_pull [] i item e = absurd (cc e)
drop_pull (x ∷ records) zero item e = (let same : item ≡ x = cc in ap (λ y. y ∷ records) same)
drop_pull (x ∷ records) (suc i) item e = ap (λ ys. x ∷ ys) (drop_pull records i item e)

pub lines_next : (t : Topology) (records : List Record) (i : ℕ) (item : Record) → i < length records → item ≡ slice_index_or records i item
    → record_lines t (take i records) ++ record_line t item ≡ record_lines t (take (i + 1) records)
lines_next t records i item low is =
    let e : slice_get records i ≡ Some item = slice_get-get_or records i item low ∙ ap Some (sym is) in
    let up : suc i ≡ i + 1 = omega arith in
    ap (λ xs. record_lines t (take i records) ++ xs) (sym (one_line t item)) ∙ sym (lines_append t (take i records) (item ∷ [])) ∙ ap (record_lines t) (sym (take_push records i item e))
    ∙ ap (λ k. record_lines t (take k records)) up

pub lines_behind : (t : Topology) (records : List Record) (i : ℕ) (item : Record) → i < length records → item ≡ slice_index_or records i item
    → record_lines t (take i records) ++ (record_line t item ++ record_lines t (drop (suc i) records)) ≡ record_lines t records
lines_behind t records i item low is =
    let e : slice_get records i ≡ Some item = slice_get-get_or records i item low ∙ ap Some (sym is) in
    ap (λ xs. record_lines t (take i records) ++ xs) (sym (flat_map-cons (record_line t) item (drop (suc i) records)))
    ∙ sym (lines_append t (take i records) (item ∷ drop (suc i) records)) ∙ ap (record_lines t) (drop_pull records i item e)
