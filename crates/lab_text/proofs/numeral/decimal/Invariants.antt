use Rattle.std.proofs.Common.{◌≡◌, ◌<◌, ◌+◌, true, length}
use Rattle.std.specs.Char.{is_ascii_digit}
use Rattle.std.specs.List.{list_all}
use Rattle.std.specs.Str.Parse.{digits_value, digits_value_after}
use Rattle.lab_text.proofs.numeral.decimal.Given as goal

abbrev pub invariant-loop-left : goal.invariant-loop-left
invariant-loop-left l = record {
  value : digits_value_after 10 l.number l.left ≡ digits_value 10 l.digits;
  digits : list_all is_ascii_digit l.left ≡ true;
  fits : l.number < l.greatest + 1;
}

abbrev pub decreases-loop-left : goal.decreases-loop-left
decreases-loop-left l = length l.left
