use Rattle.std.proofs.Common.{◌≡◌, ◌∙◌, ℕ, ◌+◌, ◌≤◌, List, ◌++◌, ap, sym, arith}
use Rattle.script_model.specs.Judgement.{rule_line}
use Rattle.rule_report.proofs.Counting.{count_to, one_line_more, one_covered_more, none_covered_more}
use Rattle.rule_report.proofs.lines.write_rules.Goals as goal
use Rattle.rule_report.proofs.lines.write_rules.Goals.{then-branch, else-branch}

pub loop-place-preserved : goal.loop-place-preserved
loop-place-preserved c =
    let place = c.loop-place.place in
    let counted : c.if-branch.count ≡ count_to c.args.read.now (place + 1) =
    elim c.if-branch.branch [
      | then-branch w ↦ w.count-is
          ∙ (ap (λ (n : ℕ). n + 1) c.loop-place.invariant.counted ∙ one_covered_more c.args.read.now place (sym c.in_ok-write_rule.ensures.covered ∙ w.if-branch.true))
      | else-branch w ↦ w.count-is
          ∙ (c.loop-place.invariant.counted ∙ none_covered_more c.args.read.now place (sym c.in_ok-write_rule.ensures.covered ∙ w.if-branch.false))
    ] in
    let few : c.if-branch.count ≤ place + 1 =
    elim c.if-branch.branch [
      | then-branch w ↦ omega (arith, w.count-is, c.loop-place.invariant.few)
      | else-branch w ↦ omega (arith, w.count-is, c.loop-place.invariant.few)
    ] in
    record {
      written = c.in_ok-write_rule.ensures.written
          ∙ (ap (λ (xs : List ℕ). xs ++ rule_line c.args.read.now place) c.loop-place.invariant.written ∙ one_line_more c.args.read.now place c.args.out.now);
      counted = counted;
      few = few;
    }
