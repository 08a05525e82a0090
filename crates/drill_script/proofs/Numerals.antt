-- numbers as they stand in the lines of a drill

use Rattle.std.proofs.Common.{◌≡◌, codes, decimal, arith}
use Rattle.std.proofs.lemmas.Fmt.{decimal-digits_of}

pub one : decimal 1 ≡ codes "1"
one = decimal-digits_of 1 (omega arith) (omega arith)

pub two : decimal 2 ≡ codes "2"
two = decimal-digits_of 2 (omega arith) (omega arith)

pub three : decimal 3 ≡ codes "3"
three = decimal-digits_of 3 (omega arith) (omega arith)

pub twenty : decimal 20 ≡ codes "20"
twenty = decimal-digits_of 20 (omega arith) (omega arith)

pub sixty : decimal 60 ≡ codes "60"
sixty = decimal-digits_of 60 (omega arith) (omega arith)

pub two_hundred : decimal 200 ≡ codes "200"
two_hundred = decimal-digits_of 200 (omega arith) (omega arith)

pub thousand : decimal 1000 ≡ codes "1000"
thousand = decimal-digits_of 1000 (omega arith) (omega arith)
