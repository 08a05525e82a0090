-- early ends before octets that were to come

use Rattle.std.proofs.Common.{◌≡◌, ℕ, List, [], ◌++◌, append_assoc, Option, Result, Ok, Err, refl, sym, ◌∙◌, ap, subst}
use Rattle.std.specs.Result.{IsErrAnd}
use Rattle.lab_io.specs.Report.{IsPut, IsStuck, Writer}
use Rattle.lab_io.specs.declared.stop.Stop.{Stop}
use Rattle.lab_io.specs.declared.stop.Stop.TheVariants.{Failed, OutOfMemory}
use Rattle.lab_io.specs.Puts.{HasFrontPut, StopsIn}
use Rattle.lab_io.proofs.Stops.{nothing_put, stops_then}
use Rattle.console_run.specs.Task.{Puts}

-- more was to come
stuck_before : (a b : Writer) (x y : Option (List ℕ)) (octets others : List ℕ) → IsStuck a b x y octets → IsStuck a b x y (octets ++ others)
stuck_before a b x y octets others s = record {
  written = s.written;
  count = s.count;
  rest = s.rest ++ others;
  within = s.within;
  appended = s.appended;
  all = sym (append_assoc (s.written ++ b.held) s.rest others) ∙ ap (λ xs. xs ++ others) s.all ∙ append_assoc a.held octets others;
}

front_before : (a b : Writer) (x y : Option (List ℕ)) (octets others : List ℕ) → HasFrontPut a b x y octets → HasFrontPut a b x y (octets ++ others)
front_before a b x y octets others h = record {
  front = h.front;
  rest = h.rest ++ others;
  all = sym (append_assoc h.front h.rest others) ∙ ap (λ xs. xs ++ others) h.all;
  put = h.put;
}

stops_before : (stop : Stop) (a b : Writer) (x y : Option (List ℕ)) (octets others : List ℕ) → StopsIn stop a b x y octets → StopsIn stop a b x y (octets ++ others)
stops_before Failed a b x y octets others s = stuck_before a b x y octets others s
stops_before (OutOfMemory error) a b x y octets others h = front_before a b x y octets others h

-- none of it was put
pub none_of : (w : Writer) (s : Option (List ℕ)) (octets : List ℕ) → HasFrontPut w w s s octets
none_of w s octets = record { front = []; rest = octets; all = refl; put = nothing_put w s }

-- *An early end*, as the result tells it
pub passes_on : {B : Type 0} (r : Result B Stop) (stop : Stop) (a b : Writer) (x y : Option (List ℕ)) (octets : List ℕ) → IsErrAnd r (λ s. s ≡ stop) → StopsIn stop a b x y octets
    → Puts r a b x y octets
passes_on (Ok v) stop a b x y octets is h = absurd is
passes_on (Err s) stop a b x y octets is h = subst (λ (t : Stop). StopsIn t a b x y octets) (sym is) h

-- behind some octets that were put, and before some that were not
pub stops_at : {B : Type 0} (r : Result B Stop) (stop : Stop) (a b c : Writer) (x y z : Option (List ℕ)) (one octets others : List ℕ) → IsErrAnd r (λ s. s ≡ stop) → IsPut a b x y one
    → StopsIn stop b c y z octets → Puts r a c x z (one ++ (octets ++ others))
stops_at r stop a b c x y z one octets others is p h =
    passes_on r stop a c x z (one ++ (octets ++ others)) is (stops_then stop a b c x y z one (octets ++ others) p (stops_before stop b c y z octets others h))
