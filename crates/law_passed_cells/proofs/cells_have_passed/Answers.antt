-- the laws are proved over definitions alone, and what broken frames are caused by is asked of the law that is called

use Rattle.law_passed_cells.proofs.Whole.{cells_pass}
use Rattle.law_passed_cells.proofs.Opening.{passed_begins, requests_begin}
use Rattle.law_passed_cells.proofs.Causes.{breaks_are_caused}
use Rattle.law_passed_cells.proofs.cells_have_passed.Goals as goal

pub returns : goal.returns
returns c = record { events = cells_pass; opening = passed_begins; requests = requests_begin; causes = breaks_are_caused c.worlds_are_fed.ensures.causes }
