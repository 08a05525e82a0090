use Rattle.std.proofs.Common.{◌≡◌, ℕ, List, Option, None, Some, IsSome, Err}
use Rattle.lab_text.specs.declared.line.LineFault.{LineFault}
use Rattle.lab_text.specs.Line.{hex_word}
use Rattle.lab_text.proofs.hex_line.hex_word.Goals as goal

-- a word that spells octets isn't refused
not_refused : (octets : Option (List ℕ)) (fault : LineFault) → IsSome octets → hex_word octets ≡ Err fault → ⊥
not_refused None fault some refused = cc
not_refused (Some xs) fault some refused = cc

pub returns-in-Err-clause-refused : goal.returns-in-Err-clause-refused
returns-in-Err-clause-refused c = λ fault refused. absurd (not_refused _ fault c.in-Err.ensures.memory refused)
