-- the laws are proved over definitions alone

use Rattle.law_true_lines.proofs.Names.{scripts, documents, drills}
use Rattle.law_true_lines.proofs.Reports.{fronts, last}
use Rattle.law_true_lines.proofs.lines_are_true.Goals as goal

pub returns : goal.returns
returns c = record { fronts = fronts; last = last; scripts = scripts; documents = documents; drills = drills }
