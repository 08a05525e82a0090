use Rattle.std.proofs.Common.{◌≡◌, ◌∙◌, ◌+◌, length, slice_get, ap, arith}
use Rattle.std.specs.Prelude.{option_copied}
use Rattle.script_model.specs.Documents.{Lines}
use Rattle.document_text.proofs.Tables.{line_behind, none_behind}
use Rattle.document_text.proofs.lines.Lines.script_at.Goals as goal

pub returns-then-place-behind : goal.returns-then-place-behind
returns-then-place-behind c =
    line_behind c.args.self.now.texts c.rule_len-rules.result c.args.place _ (option_copied c.at.result) c.rule_len-rules.ensures
    (c.at.ensures ∙ ap (λ (lines : Lines). slice_get lines.texts (c.rule_len-rules.result + c.args.place)) c.self.view_is)

pub returns-else-place-behind : goal.returns-else-place-behind
returns-else-place-behind c =
    let size : length c.self.inside.texts ≡ length c.args.self.now.texts = ap (λ (lines : Lines). length lines.texts) c.self.view_is in
    none_behind c.args.self.now.texts c.rule_len-rules.result c.args.place _ c.rule_len-rules.ensures
    (omega (arith, c.if-place-behind.false, c.saturating_sub-behind.ensures, c.len-count.ensures, size))
