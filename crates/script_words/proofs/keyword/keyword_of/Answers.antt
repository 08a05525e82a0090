use Rattle.std.proofs.Common.{◌∙◌}
use Rattle.script_words.proofs.Keywords.{found_in_table}
use Rattle.script_words.proofs.keyword.keyword_of.Goals as goal

pub returns : goal.returns
returns c = c.among.ensures ∙ found_in_table c.args.word.now c.of_length.result.now c.of_length.ensures.texts c.of_length.ensures.keywords
