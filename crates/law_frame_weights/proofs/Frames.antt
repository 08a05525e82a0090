-- what the cells of a frame weigh together: each as much as any of them, and the last one what the frame may cause

use Rattle.std.proofs.Common.{◌≡◌, ℕ, zero, suc, ◌≤◌, ◌<◌, ◌+◌, ◌-◌, ◌*◌, false, List, [], ◌∷◌, ◌++◌, map, length, refl, sym, ◌∙◌, ap, subst, arith, zero-add, add-one}
use Rattle.std.specs.Prelude.{◌==◌}
use Rattle.std.specs.List.{range_with_len}
use Rattle.std.proofs.lemmas.List.FromFn.{map-range_with_len_more}
use Rattle.std.proofs.lemmas.Bool.Decides.{nat_tests}
use Rattle.law_port_weights.specs.world_model.Words.{Channel, Mark, Cell, frame_cells}
use Rattle.aal5_frames.specs.Frame.{cell_of, cells_for, pdu_of}
use Rattle.aal5_frames.proofs.Cells.{cells_all, length-pdu_of}
use Rattle.law_port_weights.specs.claims_model.Costs.{total_weight}
use Rattle.law_port_weights.proofs.Sums.{total_more}

module _ (weigh : Cell → ℕ) (each cost : ℕ) (channel : Channel) (mark : Mark) where
  module _ (octets : List ℕ) (early : (k : ℕ) → (48 * (k + 1) == length octets) ≡ false → weigh (cell_of channel mark octets k) ≤ each) where
    not_last : (k n size : ℕ) → k < n → size ≡ 48 * (n + 1) → (48 * (k + 1) == size) ≡ false
    not_last k n size below is = grind (arith, nat_tests)

    front_total : (m n : ℕ) → m ≤ n → length octets ≡ 48 * (n + 1) → total_weight weigh (map (cell_of channel mark octets) (range_with_len 0 m)) ≤ m * each
    front_total zero n le size = omega arith
    front_total (suc m) n le size =
        let f : ℕ → Cell = cell_of channel mark octets in
        let more : map f (range_with_len 0 (m + 1)) ≡ map f (range_with_len 0 m) ++ f m ∷ [] = map-range_with_len_more f 0 m m (zero-add m) in
        let one : total_weight weigh (map f (range_with_len 0 (m + 1))) ≡ total_weight weigh (map f (range_with_len 0 m)) + weigh (f m) = ap (total_weight weigh) more ∙ total_more weigh (map f (range_with_len 0 m)) (f m) in
        let last : weigh (f m) ≤ each = early m (not_last m n (length octets) (omega (arith, le)) size) in
        let both : total_weight weigh (map f (range_with_len 0 (m + 1))) ≤ (m + 1) * each = omega (arith, one, last, front_total m n (omega (arith, le)) size) in
        subst (λ k. total_weight weigh (map f (range_with_len 0 k)) ≤ k * each) (add-one m) both

  pub frame_total : (payload : List ℕ) → length payload ≤ 1528
      → ((cell : Cell) → cell.header.channel ≡ channel → cell.header.last ≡ false → weigh cell ≤ each)
      → ((cell : Cell) → cell.header.channel ≡ channel → cell.mark ≡ mark → weigh cell ≤ each + cost)
      → total_weight weigh (frame_cells channel mark payload) ≤ 32 * each + cost
  frame_total payload short early any =
      let octets : List ℕ = pdu_of payload in
      let n : ℕ = cells_for (length payload) - 1 in
      let f : ℕ → Cell = cell_of channel mark octets in
      let size : length octets ≡ 48 * (n + 1) = omega (arith, length-pdu_of payload) in
      let front : total_weight weigh (map f (range_with_len 0 n)) ≤ n * each = front_total octets (λ k e. early (f k) refl e) n n (omega arith) size in
      let whole : frame_cells channel mark payload ≡ map f (range_with_len 0 n) ++ f n ∷ [] = cells_all channel mark octets (n + 1) size ∙ map-range_with_len_more f 0 n n (zero-add n) in
      let sum : total_weight weigh (frame_cells channel mark payload) ≡ total_weight weigh (map f (range_with_len 0 n)) + weigh (f n) = ap (total_weight weigh) whole ∙ total_more weigh (map f (range_with_len 0 n)) (f n) in
      let few : n ≤ 31 = omega (arith, short) in
      bounded n (total_weight weigh (map f (range_with_len 0 n))) (weigh (f n)) (total_weight weigh (frame_cells channel mark payload)) few front (any (f n) refl refl) sum
    where
      times : (n : ℕ) → n ≤ 31 → n * each ≤ 31 * each
      times n few = by n (31 - n) (omega (arith, few))
        where
          by : (n m : ℕ) → n + m ≡ 31 → n * each ≤ 31 * each
          by n m e = (let all : 31 * each ≡ n * each + m * each = ap (λ k. k * each) (sym e) ∙ right n m in omega (arith, all))
            where
              right : (n m : ℕ) → (n + m) * each ≡ n * each + m * each
              right n zero = omega arith
              right n (suc m) = (let more : (n + suc m) * each ≡ (n + m) * each + each = omega arith in omega (arith, more, right n m))

      bounded : (n front last all : ℕ) → n ≤ 31 → front ≤ n * each → last ≤ each + cost → all ≡ front + last → all ≤ 32 * each + cost
      bounded n front last all few le final is = omega (arith, times n few, le, final, is)
