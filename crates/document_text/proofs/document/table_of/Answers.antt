use Rattle.std.proofs.lemmas.Str.{is_utf8-from_IsUtf8}
use Rattle.toml.specs.Errors.{IsMemory}
use Rattle.toml.specs.View.{table_view}
use Rattle.document_text.proofs.Answering.{refused_table}
use Rattle.document_text.proofs.document.table_of.Goals as goal

pub returns-in-Ok : goal.returns-in-Ok
returns-in-Ok c = rw (is_utf8-from_IsUtf8 _ c.in-Ok.ensures.ok.0) c.in-Ok.ensures.ok.1

pub returns-in-Err : goal.returns-in-Err
returns-in-Err c =
    refused_table table_view (IsMemory c.in-Err.error) c.args.octets.now c.table_fault.result c.table_fault.ensures c.in-Err.ensures.refused
