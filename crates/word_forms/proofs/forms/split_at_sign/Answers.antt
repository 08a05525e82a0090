use Rattle.word_forms.proofs.Halves.{parts_at}
use Rattle.word_forms.proofs.forms.split_at_sign.Goals as goal

pub returns-in-Some : goal.returns-in-Some
returns-in-Some c = parts_at c.args.sign c.args.word.now c.in-Some.place c.in-Some.ensures.place
