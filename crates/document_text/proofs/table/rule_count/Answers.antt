use Rattle.std.proofs.Common.{None, Some, sym, ap, ◌∙◌}
use Rattle.std.specs.Prelude.{codes}
use Rattle.toml.specs.View.{view, table_view}
use Rattle.document_text.proofs.Tables.{counted}
use Rattle.document_text.proofs.table.rule_count.Goals as goal

pub returns-in-None : goal.returns-in-None
returns-in-None c = sym (counted (codes "rules") (table_view c.args.table.now) c.args.texts.now c.requires None (sym c.in-None.ensures))

pub returns-in-Some : goal.returns-in-Some
returns-in-Some c =
    ap Some c.len.ensures
    ∙ sym (counted (codes "rules") (table_view c.args.table.now) c.args.texts.now c.requires (Some (view c.in-Some.field-0.now)) (sym c.in-Some.ensures))
