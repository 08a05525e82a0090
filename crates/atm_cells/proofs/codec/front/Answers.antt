use Rattle.std.proofs.Common.{◌≡◌, ℕ, ◌+◌, ◌*◌, ◌%◌, ◌^◌, ◌<◌, Bool, true, false, bit_or, refl, sym, ap, ap₂, ◌∙◌, arith}
use Rattle.std.specs.Int.{w32, to_be_bytes}
use mir.Val.{bool_byte}
use Rattle.atm_cells.specs.declared.cell.Header.{Header}
use Rattle.atm_cells.specs.Cell.{pt_of}
use Rattle.std.proofs.lemmas.Nat.{or_shifted}
use Rattle.atm_cells.proofs.Fields.{number-header_bits}
use Rattle.atm_cells.proofs.codec.front.Goals as goal

-- the fields stand in places of their own
word : (vpi vci pt : ℕ) → vpi < 2 ^ 8 → vci < 2 ^ 16 → pt < 2
    → bit_or (bit_or (vpi * 2 ^ 20 % 2 ^ 32) (vci * 2 ^ 4 % 2 ^ 32)) (pt * 2 ^ 1 % 2 ^ 32) ≡ vpi * 2 ^ 20 + vci * 2 ^ 4 + pt * 2
word vpi vci pt p c t =
    let ep : vpi * 2 ^ 20 % 2 ^ 32 ≡ vpi * 2 ^ 20 = omega arith in
    let ec : vci * 2 ^ 4 % 2 ^ 32 ≡ vci * 2 ^ 4 = omega arith in
    let et : pt * 2 ^ 1 % 2 ^ 32 ≡ pt * 2 = omega arith in
    let e : vpi * 2 ^ 20 + vci * 2 ^ 4 ≡ (vpi * 2 ^ 16 + vci) * 2 ^ 4 = omega arith in
    ap₂ bit_or (ap₂ bit_or ep ec ∙ or_shifted vpi 20 (vci * 2 ^ 4) (omega arith) ∙ e) et
    ∙ or_shifted (vpi * 2 ^ 16 + vci) 4 (pt * 2) (omega arith)
    ∙ ap (λ n. n + pt * 2) (sym e)

pt_bit : (last : Bool) → (pt_of last < 2) × (bool_byte last ≡ pt_of last)
pt_bit true = (omega arith, refl)
pt_bit false = (omega arith, refl)

pub returns : goal.returns
returns c =
    let h : Header = c.args.header.now in
    let vpi : ℕ = h.channel.vpi in
    let vci : ℕ = h.channel.vci in
    let bit : (pt_of h.last < 2) × (bool_byte h.last ≡ pt_of h.last) = pt_bit h.last in
    let small : vci < 2 ^ 16 = omega arith in
    let is : bit_or (bit_or (c.from.result * 2 ^ 20 % 2 ^ 32) (c.from-2.result * 2 ^ 4 % 2 ^ 32)) (c.from-3.result * 2 ^ 1 % 2 ^ 32) ≡ vpi * 2 ^ 20 + vci * 2 ^ 4 + pt_of h.last * 2
    = rw (c.from.ensures, c.from-2.ensures, c.from-3.ensures, bit.1) (word vpi vci (pt_of h.last) (omega arith) small bit.0) in
    c.write_u32.ensures ∙ ap (to_be_bytes w32) (is ∙ sym (number-header_bits h (omega arith) small))
