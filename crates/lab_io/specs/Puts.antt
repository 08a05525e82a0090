-- What was put to a report, also where it stopped

use Rattle.std.specs.Prelude.{◌≡◌, ℕ, ◌≤◌, ◌++◌, Bool, true, false, List, length, Option, Result, Ok, Err}
use Rattle.lab_io.specs.Report.{IsPut, IsStuck, Writer}
use Rattle.lab_io.specs.declared.stop.Stop.{Stop}
use Rattle.lab_io.specs.declared.stop.Stop.TheVariants.{Failed, OutOfMemory}

-- a front of these octets was put
pub record HasFrontPut (old new : Writer) (written_old written_new : Option (List ℕ)) (octets : List ℕ) : Type 0 where
  pub front : List ℕ
  pub rest : List ℕ
  pub all : front ++ rest ≡ octets
  pub put : IsPut old new written_old written_new front

-- *An early end* in these octets: a write failed in their midst, or memory was wanting behind a front of them
abbrev pub StopsIn : Stop → (old new : Writer) → (written_old written_new : Option (List ℕ)) → (octets : List ℕ) → Type 0
StopsIn Failed old new written_old written_new octets = IsStuck old new written_old written_new octets
StopsIn (OutOfMemory error) old new written_old written_new octets = HasFrontPut old new written_old written_new octets

-- *These octets were put*, or an early end came
abbrev pub Puts : {A : Type 0} → Result A Stop → (old new : Writer) → (written_old written_new : Option (List ℕ)) → (octets : List ℕ) → Type 0
Puts (Ok x) old new written_old written_new octets = IsPut old new written_old written_new octets
Puts (Err stop) old new written_old written_new octets = StopsIn stop old new written_old written_new octets

-- a writer holds no more than it may
pub record StaysWithin (old new : Writer) : Type 0 where
  pub room : new.room ≡ old.room
  pub bound : length old.held ≤ old.room → length new.held ≤ new.room

-- a write failed
abbrev pub is_failed : {A : Type 0} → Result A Stop → Bool
is_failed (Ok x) = false
is_failed (Err Failed) = true
is_failed (Err (OutOfMemory error)) = false
