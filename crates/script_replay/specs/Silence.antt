-- Nothing told, as a tale. No claim needs this file.

use Rattle.std.specs.Prelude.{[]}
use Rattle.telling_model.specs.Tale.{Tale}

abbrev pub silent_tale : Tale (Unit {0})
silent_tale = record {
  opens = λ topology w. record { octets = []; state = tt };
  tells = λ state topology w placed. record { octets = []; state = tt };
  ends = λ topology w ended. [];
}
