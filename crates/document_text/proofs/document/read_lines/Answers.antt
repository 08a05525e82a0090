use Rattle.toml.specs.View.{table_view}
use Rattle.document_text.proofs.Answering.{table_lines, refused_lines}
use Rattle.document_text.proofs.document.read_lines.Goals as goal

pub returns-in-Ok : goal.returns-in-Ok
returns-in-Ok c = table_lines c.args.octets.now (table_view c.in-Ok.table) c.lines_in.result c.in-Ok.ensures c.lines_in.ensures

pub returns-in-Err : goal.returns-in-Err
returns-in-Err c = refused_lines table_view c.args.octets.now c.in-Err.fault c.in-Err.ensures
