-- What an answer of the switch is, by what the book of requests tells of it.

use Rattle.std.proofs.Common.{◌≡◌, ℕ, List, refl, sym}
use Rattle.gsmp_wire.specs.declared.rows.PortRow.{PortRow}
use Rattle.port_model.specs.DeskAnswers as meaning
use Rattle.port_model.specs.DeskAnswers.{Answered}
use Rattle.port_model.specs.Desk.{Standing}
use Rattle.controller_requests.specs.Answers.{told}
use Rattle.controller_requests.specs.declared.answer.Answer.TheVariants.{Unknown, Done, Ports, Failed}

pub unknown_is : (x : Answered) → Unknown ≡ told x → x ≡ meaning.Unknown
unknown_is meaning.Unknown e = refl
unknown_is (meaning.Done s) e = absurd (cc e)
unknown_is (meaning.Ports s rows) e = absurd (cc e)
unknown_is (meaning.Failed s code) e = absurd (cc e)

pub done_is : (x : Answered) (s : Standing) → Done s ≡ told x → x ≡ meaning.Done s
done_is meaning.Unknown s e = absurd (cc e)
done_is (meaning.Done t) s e = (let same : s ≡ t = cc e in λ i. meaning.Done (sym same i))
done_is (meaning.Ports t rows) s e = absurd (cc e)
done_is (meaning.Failed t code) s e = absurd (cc e)

pub record IsPorts (x : Answered) : Type 0 where
  pub standing : Standing
  pub rows : List PortRow
  pub is : x ≡ meaning.Ports standing rows

pub ports_are : (x : Answered) (rows : List PortRow) (s : Standing) → Ports rows s ≡ told x → IsPorts x
ports_are meaning.Unknown rows s e = absurd (cc e)
ports_are (meaning.Done t) rows s e = absurd (cc e)
ports_are (meaning.Ports t others) rows s e = record { standing = t; rows = others; is = refl }
ports_are (meaning.Failed t code) rows s e = absurd (cc e)

pub record IsFailed (x : Answered) : Type 0 where
  pub standing : Standing
  pub code : ℕ
  pub is : x ≡ meaning.Failed standing code

pub failed_is : (x : Answered) (number code : ℕ) → Failed number code ≡ told x → IsFailed x
failed_is meaning.Unknown number code e = absurd (cc e)
failed_is (meaning.Done t) number code e = absurd (cc e)
failed_is (meaning.Ports t rows) number code e = absurd (cc e)
failed_is (meaning.Failed t other) number code e = record { standing = t; code = other; is = refl }
