-- The marks of cells, each once, as text

use Rattle.std.proofs.Common.{◌≡◌, ℕ, ◌+◌, ◌<◌, ◌≤◌, Bool, true, false, cond, not, ◌||◌, List, [], ◌∷◌, ◌++◌, append_assoc, length, map, take, get_or, refl, sym, ap, ◌∙◌, arith}
use Rattle.std.specs.Prelude.{codes, filter, if◌then◌else◌}
use Rattle.std.specs.List.{list_any, flat_map}
use Rattle.std.proofs.lemmas.Grind.{common_steps, flat_map-append}
use Rattle.net_types.specs.declared.number.Mark.{Mark}
use Rattle.atm_cells.specs.declared.cell.Cell.{Cell}
use Rattle.link_model.specs.Ledger.{same_mark}
use Rattle.frame_model.specs.Reassembly.{distinct, marks_of}
use Rattle.script_model.specs.Texts.{mark_text}
use Rattle.frame_packets.specs.Packet.{marks_text}

abbrev if_new : Bool → Mark → List Mark
if_new known mark = cond known [] (mark ∷ [])

by : (b : Bool) (test : Mark → Bool) (x : Mark) (xs ys : List Mark) → filter test (xs ++ ys) ≡ filter test xs ++ filter test ys → cond b (x ∷ filter test (xs ++ ys)) (filter test (xs ++ ys)) ≡ cond b (x ∷ filter test xs) (filter test xs) ++ filter test ys
by true test x xs ys h = ap (λ (zs : List Mark). x ∷ zs) h
by false test x xs ys h = h

filter-append : (test : Mark → Bool) (xs ys : List Mark) → filter test (xs ++ ys) ≡ filter test xs ++ filter test ys
filter-append test [] ys = refl
filter-append test (x ∷ xs) ys = by (test x) test x xs ys (filter-append test xs ys)

-- one more mark at the end
new_by : (mark x : Mark) (a b : Bool) → same_mark x mark ≡ a → filter (λ other. not (same_mark x other)) (if_new b mark) ≡ if_new (a || b) mark
new_by mark x true true h = refl
new_by mark x false true h = refl
new_by mark x true false h = rw h refl
new_by mark x false false h = rw h refl

distinct_push : (xs : List Mark) (mark : Mark) → distinct (xs ++ mark ∷ []) ≡ distinct xs ++ if_new (list_any (λ x. same_mark x mark) xs) mark
distinct_push [] mark = refl
distinct_push (x ∷ xs) mark =
    let rest = distinct_push xs mark in
    let test = λ (other : Mark). not (same_mark x other) in
    ap (λ (ys : List Mark). x ∷ ys) (ap (filter test) rest ∙ filter-append test (distinct xs) _ ∙ ap (λ (ys : List Mark). filter test (distinct xs) ++ ys) (new_by mark x (same_mark x mark) (list_any (λ y. same_mark y mark) xs) refl))

any_mark : (xs : List Cell) (mark : Mark) → list_any (λ x. same_mark x mark) (marks_of xs) ≡ list_any (λ cell. same_mark cell.mark mark) xs
any_mark [] mark = refl
any_mark (x ∷ xs) mark = ap (λ (b : Bool). same_mark x.mark mark || b) (any_mark xs mark)

marks_of-push : (xs : List Cell) (cell : Cell) → marks_of (xs ++ cell ∷ []) ≡ marks_of xs ++ cell.mark ∷ []
marks_of-push [] cell = refl
marks_of-push (x ∷ xs) cell = ap (λ (ms : List Mark). x.mark ∷ ms) (marks_of-push xs cell)

append_nil : (xs : List ℕ) → xs ++ [] ≡ xs
append_nil [] = refl
append_nil (x ∷ xs) = ap (λ ys. x ∷ ys) (append_nil xs)

-- a text goes on with a mark that is new
new_told : (text : List ℕ) (known : Bool) (mark : Mark) → text ++ marks_text (if_new known mark) ≡ (if known then text else text ++ (codes " " ++ mark_text mark))
new_told text true mark = append_nil text
new_told text false mark = ap (λ ys. text ++ ys) (append_nil (codes " " ++ mark_text mark))

marks_more : (xs : List Cell) (i : ℕ) (d : Cell) → i < length xs
    → marks_text (distinct (marks_of (take (i + 1) xs))) ≡ marks_text (distinct (marks_of (take i xs))) ++ marks_text (if_new (list_any (λ cell. same_mark cell.mark (get_or xs i d).mark) (take i xs)) (get_or xs i d).mark)
marks_more xs i d within =
    let cell = get_or xs i d in
    let before = take i xs in
    let more : take (i + 1) xs ≡ before ++ cell ∷ [] = grind (arith, common_steps, within) in
    ap (λ cells. marks_text (distinct (marks_of cells))) more
    ∙ ap (λ ms. marks_text (distinct ms)) (marks_of-push before cell)
    ∙ ap marks_text (distinct_push (marks_of before) cell.mark ∙ ap (λ (b : Bool). distinct (marks_of before) ++ if_new b cell.mark) (any_mark before cell.mark))
    ∙ flat_map-append (λ mark. codes " " ++ mark_text mark) (distinct (marks_of before)) (if_new (list_any (λ x. same_mark x.mark cell.mark) before) cell.mark)

pub marks_step : (old now next : List ℕ) (xs : List Cell) (i : ℕ) (d : Cell) → i < length xs
    → now ≡ old ++ marks_text (distinct (marks_of (take i xs)))
    → next ≡ (if list_any (λ cell. same_mark cell.mark (get_or xs i d).mark) (take i xs) then now else now ++ (codes " " ++ mark_text (get_or xs i d).mark))
    → next ≡ old ++ marks_text (distinct (marks_of (take (i + 1) xs)))
marks_step old now next xs i d within before h =
    let mark = (get_or xs i d).mark in
    let known = list_any (λ cell. same_mark cell.mark mark) (take i xs) in
    let told = marks_text (distinct (marks_of (take i xs))) in
    h
    ∙ sym (new_told now known mark)
    ∙ ap (λ ys. ys ++ marks_text (if_new known mark)) before
    ∙ append_assoc old told (marks_text (if_new known mark))
    ∙ ap (λ ys. old ++ ys) (sym (marks_more xs i d within))

pub marks_all : (old now : List ℕ) (xs : List Cell) (i : ℕ) → length xs ≤ i → now ≡ old ++ marks_text (distinct (marks_of (take i xs))) → now ≡ old ++ marks_text (distinct (marks_of xs))
marks_all old now xs i whole h =
    let all : take i xs ≡ xs = grind (arith, common_steps, whole) in
    h ∙ ap (λ cells. old ++ marks_text (distinct (marks_of cells))) all
