-- The marks of a chain, each once

use Rattle.std.proofs.Common.{◌≡◌, ℕ, ◌+◌, ◌<◌, ◌≤◌, Bool, true, false, cond, not, ◌||◌, List, [], ◌∷◌, ◌++◌, length, map, take, get_or, refl, sym, ap, ◌∙◌, arith}
use Rattle.std.specs.Prelude.{filter, if◌then◌else◌}
use Rattle.std.specs.List.{list_any}
use Rattle.std.proofs.lemmas.Grind.{common_steps}
use Rattle.net_types.specs.declared.number.Mark.{Mark}
use Rattle.atm_cells.specs.declared.cell.Cell.{Cell}
use Rattle.link_model.specs.declared.record.Record.{Record}
use Rattle.link_model.specs.declared.record.Record.TheVariants.{Loss}
use Rattle.link_model.specs.declared.record.Cause.TheVariants.{Cut}
use Rattle.link_model.specs.Ledger.{same_mark}
use Rattle.link_model.specs.Notes.{Journal, noted}
use Rattle.frame_model.specs.Reassembly.{cut_chain, distinct, marks_of, noted_all}

abbrev cuts_of : List Mark → List Record
cuts_of marks = map (λ mark. Loss mark Cut) marks

abbrev if_new : Bool → Mark → List Mark
if_new known mark = cond known [] (mark ∷ [])

by : (b : Bool) (test : Mark → Bool) (x : Mark) (xs ys : List Mark) → filter test (xs ++ ys) ≡ filter test xs ++ filter test ys → cond b (x ∷ filter test (xs ++ ys)) (filter test (xs ++ ys)) ≡ cond b (x ∷ filter test xs) (filter test xs) ++ filter test ys
by true test x xs ys h = ap (λ (zs : List Mark). x ∷ zs) h
by false test x xs ys h = h

filter-append : (test : Mark → Bool) (xs ys : List Mark) → filter test (xs ++ ys) ≡ filter test xs ++ filter test ys
filter-append test [] ys = refl
filter-append test (x ∷ xs) ys = by (test x) test x xs ys (filter-append test xs ys)

-- one more mark at the end
new_by : (mark x : Mark) (a b : Bool) → same_mark x mark ≡ a → filter (λ other. not (same_mark x other)) (if_new b mark) ≡ if_new (a || b) mark
new_by mark x true true h = refl
new_by mark x false true h = refl
new_by mark x true false h = rw h refl
new_by mark x false false h = rw h refl

distinct_push : (xs : List Mark) (mark : Mark) → distinct (xs ++ mark ∷ []) ≡ distinct xs ++ if_new (list_any (λ x. same_mark x mark) xs) mark
distinct_push [] mark = refl
distinct_push (x ∷ xs) mark =
    let rest = distinct_push xs mark in
    let test = λ (other : Mark). not (same_mark x other) in
    ap (λ (ys : List Mark). x ∷ ys) (ap (filter test) rest ∙ filter-append test (distinct xs) _ ∙ ap (λ (ys : List Mark). filter test (distinct xs) ++ ys) (new_by mark x (same_mark x mark) (list_any (λ y. same_mark y mark) xs) refl))

noted_all-append : (notes : Journal) (xs ys : List Record) → noted_all notes (xs ++ ys) ≡ noted_all (noted_all notes xs) ys
noted_all-append notes [] ys = refl
noted_all-append notes (x ∷ xs) ys = noted_all-append (noted notes x) xs ys

any_mark : (xs : List Cell) (mark : Mark) → list_any (λ x. same_mark x mark) (marks_of xs) ≡ list_any (λ cell. same_mark cell.mark mark) xs
any_mark [] mark = refl
any_mark (x ∷ xs) mark = ap (λ (b : Bool). same_mark x.mark mark || b) (any_mark xs mark)

marks_of-push : (xs : List Cell) (cell : Cell) → marks_of (xs ++ cell ∷ []) ≡ marks_of xs ++ cell.mark ∷ []
marks_of-push [] cell = refl
marks_of-push (x ∷ xs) cell = ap (λ (ms : List Mark). x.mark ∷ ms) (marks_of-push xs cell)

cuts_of-append : (xs ys : List Mark) → cuts_of (xs ++ ys) ≡ cuts_of xs ++ cuts_of ys
cuts_of-append [] ys = refl
cuts_of-append (x ∷ xs) ys = ap (λ (rs : List Record). Loss x Cut ∷ rs) (cuts_of-append xs ys)

new_noted : (notes : Journal) (known : Bool) (mark : Mark) → noted_all notes (cuts_of (if_new known mark)) ≡ (if known then notes else noted notes (Loss mark Cut))
new_noted notes true mark = refl
new_noted notes false mark = refl

-- the entries of one more cell
cuts_more : (notes : Journal) (xs : List Cell) (i : ℕ) (d : Cell) → i < length xs → cut_chain notes (take (i + 1) xs) ≡ (if list_any (λ cell. same_mark cell.mark (get_or xs i d).mark) (take i xs) then cut_chain notes (take i xs) else noted (cut_chain notes (take i xs)) (Loss (get_or xs i d).mark Cut))
cuts_more notes xs i d within =
    let cell = get_or xs i d in
    let before = take i xs in
    let known = list_any (λ x. same_mark x.mark cell.mark) before in
    let more : take (i + 1) xs ≡ before ++ cell ∷ [] = grind (arith, common_steps, within) in
    ap (cut_chain notes) more
    ∙ ap (λ (ms : List Mark). noted_all notes (cuts_of (distinct ms))) (marks_of-push before cell)
    ∙ ap (λ (ms : List Mark). noted_all notes (cuts_of ms)) (distinct_push (marks_of before) cell.mark ∙ ap (λ (b : Bool). distinct (marks_of before) ++ if_new b cell.mark) (any_mark before cell.mark))
    ∙ ap (noted_all notes) (cuts_of-append (distinct (marks_of before)) (if_new known cell.mark))
    ∙ noted_all-append notes (cuts_of (distinct (marks_of before))) (cuts_of (if_new known cell.mark))
    ∙ new_noted (cut_chain notes before) known cell.mark

pub cuts_step : (notes now next : Journal) (xs : List Cell) (i : ℕ) (d : Cell) → i < length xs → now ≡ cut_chain notes (take i xs) → next ≡ (if list_any (λ cell. same_mark cell.mark (get_or xs i d).mark) (take i xs) then now else noted now (Loss (get_or xs i d).mark Cut)) → next ≡ cut_chain notes (take (i + 1) xs)
cuts_step notes now next xs i d within before h =
    h
    ∙ ap (λ (n : Journal). if list_any (λ cell. same_mark cell.mark (get_or xs i d).mark) (take i xs) then n else noted n (Loss (get_or xs i d).mark Cut)) before
    ∙ sym (cuts_more notes xs i d within)

pub cuts_all : (notes now : Journal) (xs : List Cell) (i : ℕ) → length xs ≤ i → now ≡ cut_chain notes (take i xs) → now ≡ cut_chain notes xs
cuts_all notes now xs i whole h =
    let all : take i xs ≡ xs = grind (arith, common_steps, whole) in
    h ∙ ap (cut_chain notes) all
