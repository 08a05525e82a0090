use Rattle.script_text.proofs.Sayings.{line_taken, line_is_sayable}
use Rattle.script_text.proofs.reading.read_line.Goals as goal

pub returns-in-Ok-clause-said : goal.returns-in-Ok-clause-said
returns-in-Ok-clause-said c =
    line_taken c.args.state.now c.count_line.new.self c.read_text.new.state c.args.line.now c.in-Ok.text.now c.octets-before.result c.read_text.result
    c.count_line.ensures c.octets-before.ensures c.in-Ok.ensures.fault c.in-Ok.ensures.text c.read_text.ensures

pub returns-in-Ok-clause-sayable : goal.returns-in-Ok-clause-sayable
returns-in-Ok-clause-sayable c =
    line_is_sayable c.args.state.now c.read_text.new.state c.args.line.now c.read_text.result
    (line_taken c.args.state.now c.count_line.new.self c.read_text.new.state c.args.line.now c.in-Ok.text.now c.octets-before.result c.read_text.result
    c.count_line.ensures c.octets-before.ensures c.in-Ok.ensures.fault c.in-Ok.ensures.text c.read_text.ensures)
