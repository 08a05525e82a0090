use Rattle.lab_text.specs.Words.{is_blank}
use Rattle.lab_text.proofs.Searches.{found_first, found_nowhere}
use Rattle.lab_text.proofs.line.octets_before_blank.Goals as goal

pub returns-in-Some-clause-count : goal.returns-in-Some-clause-count
returns-in-Some-clause-count c = found_first is_blank c.args.octets.now c.in-Some.place c.in-Some.ensures

pub returns-in-None-clause-count : goal.returns-in-None-clause-count
returns-in-None-clause-count c = found_nowhere is_blank c.args.octets.now c.in-None.ensures
