use Rattle.std.proofs.Common.{arith}
use Rattle.std.proofs.lemmas.Bool.Decides.{nat_tests}
use Rattle.std.proofs.lemmas.List.{take_rest}
use Rattle.lab_text.proofs.WordLemmas.{no_words, first_word}
use Rattle.lab_text.proofs.line.split_word.Goals as goal

pub returns-then-is_empty-clause-none : goal.returns-then-is_empty-clause-none
returns-then-is_empty-clause-none c =
    no_words c.args.octets.now _ _ c.blanks_in_front.ensures.count (take_rest c.args.octets.now c.blanks_in_front.result)
    (grind (arith, nat_tests, c.if-is_empty.ensures))

pub returns-clause-some : goal.returns-clause-some
returns-clause-some c =
    rw (c.split_at.ensures.front, c.split_at.ensures.back)
    (first_word c.args.octets.now _ _ _ c.blanks_in_front.ensures.count (take_rest c.args.octets.now c.blanks_in_front.result) c.octets_before_blank.ensures.count (grind (arith, nat_tests, c.if-is_empty.ensures)))
