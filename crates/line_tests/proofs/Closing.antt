-- lines that end the writing of lines again

use Rattle.std.proofs.Common.{◌≡◌, ℕ, ◌+◌, ◌<◌, ◌≤◌, true, false, List, ◌∷◌, length, Option, Result, Ok, IsErrAnd, refl, sym, subst, arith}
use Rattle.std.specs.Prelude.{codes, nat_eq, nat_le, nat_lt}
use Rattle.std.specs.List.{starts_with}
use Rattle.std.proofs.lemmas.Bool.Decides.{nat_tests}
use Rattle.lab_io.specs.Report.{IsPut, IsStuck, Writer}
use Rattle.lab_text.specs.Line.{input_limit, line_limit}
use Rattle.lab_text.specs.Words.{line_text}
use Rattle.lab_io.specs.declared.stop.Stop.{Stop}
use Rattle.lab_io.specs.declared.stop.Stop.TheVariants.{Failed}
use Rattle.line_by_line.specs.declared.task.Ending.{Ending}
use Rattle.line_by_line.specs.declared.task.Ending.TheVariants.{Refused, Denied}
use Rattle.line_by_line.specs.Steps.{Concludes, IsPast, IsTooLong, Settles}
use Rattle.line_by_line.proofs.Outcomes.{err_is}
use Rattle.line_tests.specs.Echo.{closed, echoed}

module _ (octets : ℕ) (line : List ℕ) (others : List (List ℕ)) where
  past_is : IsPast octets line → echoed octets (line ∷ others) ≡ closed (codes "past\n") Refused true
  past_is p = (let past : nat_le input_limit (octets + length line) ≡ true = grind (arith, nat_tests, p.past) in rw past refl)

  long_is : IsTooLong octets line → echoed octets (line ∷ others) ≡ closed (codes "long\n") Refused true
  long_is t =
      let within : nat_le input_limit (octets + length line) ≡ false = grind (arith, nat_tests, t.within) in
      let long : nat_lt line_limit (length (line_text line)) ≡ true = grind (arith, nat_tests, t.long) in
      rw within (rw long refl)

  stop_is : octets + length line < input_limit → length (line_text line) ≤ line_limit → starts_with nat_eq line (codes "stop") ≡ true → echoed octets (line ∷ others) ≡ closed (codes "stopped\n") Denied true
  stop_is low few stops =
      let within : nat_le input_limit (octets + length line) ≡ false = grind (arith, nat_tests, low) in
      let short : nat_lt line_limit (length (line_text line)) ≡ false = grind (arith, nat_tests, few) in
      rw within (rw short (rw stops refl))

module _ (octets : ℕ) (line : List ℕ) (old new : Writer) (written then : Option (List ℕ)) where
  pub past_settles : (result : Result Ending Stop) → IsPast octets line → Concludes (closed (codes "past\n") Refused true) result old new written then → Settles (echoed octets) line result old new written then
  past_settles result p c = record { account = closed (codes "past\n") Refused true; same = λ others. past_is octets line others p; is_ended = refl; concluded = c }

  pub long_settles : (result : Result Ending Stop) → IsTooLong octets line → Concludes (closed (codes "long\n") Refused true) result old new written then → Settles (echoed octets) line result old new written then
  long_settles result t c = record { account = closed (codes "long\n") Refused true; same = λ others. long_is octets line others t; is_ended = refl; concluded = c }

  pub stop_settles : octets + length line < input_limit → length (line_text line) ≤ line_limit → starts_with nat_eq line (codes "stop") ≡ true → IsPut old new written then (codes "stopped\n")
      → Settles (echoed octets) line (Ok Denied) old new written then
  stop_settles low few stops p = record { account = closed (codes "stopped\n") Denied true; same = λ others. stop_is octets line others low few stops; is_ended = refl; concluded = (refl, p) }

-- a write failed
pub stuck_concludes : (text : List ℕ) (result : Result Ending Stop) (old new : Writer) (written then : Option (List ℕ)) → IsErrAnd result (λ stop. stop ≡ Failed) → IsStuck old new written then text
    → Concludes (closed text Refused true) result old new written then
stuck_concludes text result old new written then is s =
    subst (λ (r : Result Ending Stop). Concludes (closed text Refused true) r old new written then) (sym (err_is result Failed is)) s
