-- What writes in a row leave

use Rattle.std.proofs.Common.{◌≡◌, ℕ, ◌+◌, ◌*◌, ◌<◌, ◌≤◌, List, [], ◌∷◌, ◌++◌, length, get_or, take, drop, replicate, refl, sym, ◌∙◌, ap, subst, arith, zero-add}
use Rattle.std.specs.Int.{w32, to_be_bytes}
use Rattle.std.proofs.lemmas.List.{length-take, take_more}
use Rattle.gsmp_wire.specs.declared.rows.PortRow.{PortRow}
use Rattle.octet_fields.specs.Fields.{written}
use Rattle.octet_fields.proofs.FieldLemmas.{written_then}
use Rattle.gsmp_wire.specs.Layout.{row_octets, rows_octets}
use Rattle.gsmp_wire.proofs.Reading.{six}

pub length-rows_octets : (rows : List PortRow) → length (rows_octets rows) ≡ 16 * length rows
length-rows_octets [] = refl
length-rows_octets (r ∷ rows) = omega (arith, length-rows_octets rows)

rows_octets-append : (xs ys : List PortRow) → rows_octets (xs ++ ys) ≡ rows_octets xs ++ rows_octets ys
rows_octets-append [] ys = refl
rows_octets-append (r ∷ xs) ys = ap (λ (rest : List ℕ). row_octets r ++ rest) (rows_octets-append xs ys)

-- one more record is written
pub rows_written : (place k : ℕ) (rows : List PortRow) (blank : PortRow) (old out : List ℕ) → k < length rows → place + length (rows_octets rows) ≤ length old
    → out ≡ written old place (rows_octets (take k rows)) → written out (place + 16 * k) (row_octets (get_or rows k blank)) ≡ written old place (rows_octets (take (k + 1) rows))
rows_written place k rows blank old out inside room so_far =
    let count : length (take k rows) ≡ k = omega (arith, length-take k rows) in
    let size : length (rows_octets (take k rows)) ≡ 16 * k = length-rows_octets (take k rows) ∙ ap (λ (n : ℕ). 16 * n) count in
    let fits : place + length (rows_octets (take k rows)) ≤ length old = omega (arith, size, length-rows_octets rows) in
    let more : rows_octets (take (k + 1) rows) ≡ rows_octets (take k rows) ++ row_octets (get_or rows k blank) =
    ap rows_octets (take_more rows k blank inside) ∙ rows_octets-append (take k rows) (get_or rows k blank ∷ []) in
    ap (λ (octets : List ℕ). written octets (place + 16 * k) (row_octets (get_or rows k blank))) so_far
    ∙ written_then place (place + 16 * k) (rows_octets (take k rows)) (row_octets (get_or rows k blank)) old (omega (arith, size)) fits
    ∙ ap (λ (octets : List ℕ). written old place octets) (sym more)

abbrev pub GreetingWritten : (s r : List ℕ) (sp rp si ri : ℕ) → Type 0
GreetingWritten s r sp rp si ri =
    written (written (written (written (written (written (replicate 28 0) 0 s) 6 r) 12 (to_be_bytes w32 sp)) 16 (to_be_bytes w32 rp)) 20 (to_be_bytes w32 si)) 24 (to_be_bytes w32 ri)
    ≡ s ++ (r ++ (to_be_bytes w32 sp ++ (to_be_bytes w32 rp ++ (to_be_bytes w32 si ++ to_be_bytes w32 ri))))

greeting_by_octets : (a b c d e f u v w x y z sp rp si ri : ℕ) → GreetingWritten (a ∷ b ∷ c ∷ d ∷ e ∷ f ∷ []) (u ∷ v ∷ w ∷ x ∷ y ∷ z ∷ []) sp rp si ri
greeting_by_octets a b c d e f u v w x y z sp rp si ri = refl

-- the fields of an adjacency message are written in their order
pub greeting_written : (s r : List ℕ) (sp rp si ri : ℕ) → length s ≡ 6 → length r ≡ 6 → GreetingWritten s r sp rp si ri
greeting_written s r sp rp si ri s_size r_size =
    subst (λ (name : List ℕ). GreetingWritten name r sp rp si ri) (six s s_size)
    (subst (λ (name : List ℕ). GreetingWritten (get_or s 0 0 ∷ get_or s 1 0 ∷ get_or s 2 0 ∷ get_or s 3 0 ∷ get_or s 4 0 ∷ get_or s 5 0 ∷ []) name sp rp si ri) (six r r_size)
    (greeting_by_octets _ _ _ _ _ _ _ _ _ _ _ _ sp rp si ri))

-- a further write behind what was written from the front on
pub written_more : (j : ℕ) (xs ys old before after : List ℕ) → before ≡ written old 0 xs → after ≡ written before j ys → j ≡ 0 + length xs → 0 + length xs ≤ length old → after ≡ written old 0 (xs ++ ys)
written_more j xs ys old before after first then here room = then ∙ ap (λ (octets : List ℕ). written octets j ys) first ∙ written_then 0 j xs ys old here room

-- all octets are written
pub written_whole : (octets whole old out : List ℕ) → octets ≡ whole → out ≡ written old 0 octets → out ≡ whole ++ drop (length whole) old
written_whole octets whole old out is all =
    all ∙ ap (λ (xs : List ℕ). written old 0 xs) is ∙ ap (λ (n : ℕ). whole ++ drop n old) (zero-add (length whole))
