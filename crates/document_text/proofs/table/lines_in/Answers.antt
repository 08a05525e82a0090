use Rattle.std.proofs.Common.{◌≡◌, false, refl}
use Rattle.toml.specs.View.{table_view}
use Rattle.script_model.specs.Documents.{has_keys_alone}
use Rattle.document_text.proofs.Tables.{keys_alone, some_lines}
use Rattle.document_text.proofs.table.lines_in.Goals as goal

pub returns-then-not-has_keys_alone : goal.returns-then-not-has_keys_alone
returns-then-not-has_keys_alone c =
    let others : has_keys_alone (table_view c.args.table.now) ≡ false = cc (keys_alone c.args.table.now.entries) in
    (refl, rw others)

pub copied-requires : goal.copied-requires
copied-requires c =
    record {
      alone = cc (keys_alone c.args.table.now.entries);
      rules = c.in-Some.ensures.texts;
      topology = c.in-Some-strings_at.ensures.texts;
      events = c.in-Some-strings_at-2.ensures.texts;
      some = (c.in-Some.ensures.strings, c.in-Some-strings_at.ensures.strings, c.in-Some-strings_at-2.ensures.strings);
    }

pub returns-in-Err : goal.returns-in-Err
returns-in-Err c =
    some_lines (table_view c.args.table.now) _ _ _ (cc (keys_alone c.args.table.now.entries)) c.in-Some.ensures.texts c.in-Some-strings_at.ensures.texts c.in-Some-strings_at-2.ensures.texts
    c.in-Some.ensures.strings c.in-Some-strings_at.ensures.strings c.in-Some-strings_at-2.ensures.strings
