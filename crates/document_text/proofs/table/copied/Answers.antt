use Rattle.std.proofs.Common.{◌∙◌, ◌++◌, Some, option_map, sym, ap}
use Rattle.std.specs.Prelude.{codes}
use Rattle.toml.specs.View.{table_view}
use Rattle.script_model.specs.Documents.{texts_at}
use Rattle.document_text.proofs.Tables.{first_found, lines_in-keys}
use Rattle.document_text.proofs.table.copied.Goals as goal

pub rule_count-rules-requires : goal.rule_count-rules-requires
rule_count-rules-requires c =
    first_found (texts_at (codes "rules") (table_view c.args.table.now)) c.new-texts.result c.push_strings.new.texts c.new-texts.ensures
    (ap (option_map (λ texts. c.new-texts.result ++ texts)) (sym c.requires.rules) ∙ c.in_ok-push_strings.ensures)

pub returns : goal.returns
returns c =
    lines_in-keys (table_view c.args.table.now) c.new-texts.result c.push_strings.new.texts c.push_strings-2.new.texts c.push_strings-3.new.texts c.rule_count-rules.result c.requires.alone c.new-texts.ensures
    (ap (option_map (λ texts. c.new-texts.result ++ texts)) (sym c.requires.rules) ∙ c.in_ok-push_strings.ensures)
    c.rule_count-rules.ensures
    (ap (option_map (λ texts. c.push_strings.new.texts ++ texts)) (sym c.requires.topology) ∙ c.in_ok-push_strings-2.ensures)
    (ap (option_map (λ texts. c.push_strings-2.new.texts ++ texts)) (sym c.requires.events) ∙ c.in_ok-push_strings-3.ensures)
    ∙ ap Some (sym c.new.ensures)
