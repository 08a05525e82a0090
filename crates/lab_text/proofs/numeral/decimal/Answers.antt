use Rattle.std.proofs.Common.{◌∙◌, sym}
use Rattle.lab_text.proofs.NumeralLemmas.{too_large, whole_number}
use Rattle.lab_text.proofs.numeral.decimal.Goals as goal

pub returns-in_err-number : goal.returns-in_err-number
returns-in_err-number c =
    let none = sym c.with_digit.ensures ∙ c.in_err-number.was in
    c.from_residual.ensures ∙ too_large _ _ _ _ c.in-len1-up.len_at_least c.loop-left.invariant.value none

pub returns : goal.returns
returns c =
    whole_number _ _ _ _ c.in_default.len_below c.loop-left.invariant.value c.loop-left.invariant.fits
