use Rattle.lab_text.proofs.LineLemmas.{split_found, split_missing}
use Rattle.lab_text.proofs.lines.split_line.Goals as goal

pub returns-in-Some-clause-lines : goal.returns-in-Some-clause-lines
returns-in-Some-clause-lines c =
    split_found c.args.octets.now _ _ c.in-Some.place c.in-Some.ensures.place c.in-Some.ensures.within c.split_at.ensures.front c.split_at.ensures.back

pub returns-in-None-clause-lines : goal.returns-in-None-clause-lines
returns-in-None-clause-lines c =
    split_missing c.args.octets.now _ _ c.in-None.ensures.place c.requires c.split_at-in-None.ensures.front c.split_at-in-None.ensures.back
