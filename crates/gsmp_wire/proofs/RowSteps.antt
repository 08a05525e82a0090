-- One more record of an All Ports answer

use Rattle.std.proofs.Common.{◌≡◌, ℕ, ◌+◌, ◌-◌, ◌*◌, ◌<◌, ◌&&◌, List, [], ◌∷◌, ◌++◌, suc, drop, arith, ap, refl, append_assoc}
use Rattle.std.proofs.lemmas.List.{drop-drop}
use Rattle.gsmp_wire.specs.declared.rows.PortRow.{PortRow}
use Rattle.gsmp_wire.specs.Refusal.{are_rows, is_row}
use Rattle.gsmp_wire.specs.Fields.{row_in, rows_in}

next_drop : (k : ℕ) (xs : List ℕ) → drop 16 (drop (16 * k) xs) ≡ drop (16 * (k + 1)) xs
next_drop k xs = let e : 16 * k + 16 ≡ 16 * (k + 1) = omega arith in rw (drop-drop 16 (16 * k) xs, e) refl

pub are_rows-step : (n k : ℕ) (xs : List ℕ) → k < n →
    are_rows (n - k) (drop (16 * k) xs) ≡ (is_row (drop (16 * k) xs) && are_rows (n - (k + 1)) (drop (16 * (k + 1)) xs))
are_rows-step n k xs lt =
    let e : n - k ≡ suc (n - (k + 1)) = omega arith in
    rw e (ap (λ (rest : List ℕ). is_row (drop (16 * k) xs) && are_rows (n - (k + 1)) rest) (next_drop k xs))

pub rows_in-step : (n k : ℕ) (xs : List ℕ) → k < n →
    rows_in (n - k) (drop (16 * k) xs) ≡ row_in (drop (16 * k) xs) ∷ rows_in (n - (k + 1)) (drop (16 * (k + 1)) xs)
rows_in-step n k xs lt =
    let e : n - k ≡ suc (n - (k + 1)) = omega arith in
    rw e (ap (λ (rest : List ℕ). row_in (drop (16 * k) xs) ∷ rows_in (n - (k + 1)) rest) (next_drop k xs))

-- a record that is read goes from the octets to the list
pub rows_in-push : (n k : ℕ) (xs : List ℕ) (read : List PortRow) (row : PortRow) → k < n → row ≡ row_in (drop (16 * k) xs) →
    (read ++ row ∷ []) ++ rows_in (n - (k + 1)) (drop (16 * (k + 1)) xs) ≡ read ++ rows_in (n - k) (drop (16 * k) xs)
rows_in-push n k xs read row lt is = rw (append_assoc, is, rows_in-step n k xs lt) refl
