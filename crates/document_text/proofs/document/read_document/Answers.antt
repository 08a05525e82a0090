use Rattle.std.proofs.Common.{arith}
use Rattle.document_text.proofs.Answering.{long_is, read_is}
use Rattle.document_text.proofs.document.read_document.Goals as goal

pub returns-then-octets-ge-INPUT_LIMIT-clause-read : goal.returns-then-octets-ge-INPUT_LIMIT-clause-read
returns-then-octets-ge-INPUT_LIMIT-clause-read c = long_is c.args.octets.now (omega arith)

pub returns-clause-read : goal.returns-clause-read
returns-clause-read c = read_is c.args.octets.now c.read_lines.result (omega arith) c.read_lines.ensures
