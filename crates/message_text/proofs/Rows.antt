-- The records of ports are written one after the other, and the writing breaks off

use Rattle.std.proofs.Common.{◌≡◌, List, ℕ, [], ◌∷◌, ◌+◌, ◌<◌, ◌++◌, append_assoc, length, take, drop, get_or, take-append-drop, refl, sym, ap, ◌∙◌}
use Rattle.std.proofs.lemmas.List.{drop_more}
use Rattle.gsmp_wire.specs.declared.rows.PortRow.{PortRow}
use Rattle.message_text.specs.Gsmp.{row_text, rows_text}
use Rattle.lab_text.specs.Kept.{BreaksOff}
use Rattle.lab_text.proofs.Fronts.{as_text, next, here}

joined : (xs ys : List PortRow) → rows_text xs ++ rows_text ys ≡ rows_text (xs ++ ys)
joined [] ys = refl
joined (x ∷ xs) ys = append_assoc (row_text x) (rows_text xs) (rows_text ys) ∙ ap (λ t. row_text x ++ t) (joined xs ys)

split_at : (rows : List PortRow) (k : ℕ) (d : PortRow) → k < length rows
    → rows_text (take k rows) ++ (row_text (get_or rows k d) ++ rows_text (drop (k + 1) rows)) ≡ rows_text rows
split_at rows k d lt =
    ap (λ t. rows_text (take k rows) ++ rows_text t) (sym (drop_more rows k d lt))
    ∙ (joined (take k rows) (drop k rows) ∙ ap rows_text (take-append-drop k rows))

pub rows_broke : (old mid new : List ℕ) (rows : List PortRow) (k : ℕ) (row d : PortRow) → k < length rows → row ≡ get_or rows k d
    → mid ≡ old ++ rows_text (take k rows) → BreaksOff mid (mid ++ row_text row) new → BreaksOff old (old ++ rows_text rows) new
rows_broke old mid new rows k row d lt is told broke =
    let others : List ℕ = rows_text (drop (k + 1) rows) in
    as_text old (rows_text (take k rows) ++ (row_text row ++ others)) (rows_text rows) new
    (ap (λ (r : PortRow). rows_text (take k rows) ++ (row_text r ++ others)) is ∙ split_at rows k d lt)
    (next old mid (rows_text (take k rows)) (row_text row ++ others) new told (here mid (row_text row) others new broke))
