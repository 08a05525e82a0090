use Rattle.atm_cells.proofs.Quotient.{remainder_found, remainder_one}
use Rattle.atm_cells.proofs.polynomial.remainder_law.Goals as goal

pub returns-clause-some : goal.returns-clause-some
returns-clause-some c = remainder_found

pub returns-clause-one : goal.returns-clause-one
returns-clause-one c = remainder_one
