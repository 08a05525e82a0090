use Rattle.script_text.proofs.Sayings.{string_taken, string_is_sayable}
use Rattle.script_text.proofs.reading.read_string.Goals as goal

pub returns-in-None-clause-said : goal.returns-in-None-clause-said
returns-in-None-clause-said c =
    string_taken c.args.state.now c.count_line.new.self c.read_text.new.state c.args.text.now c.read_text.result
    c.count_line.ensures c.in-None.ensures c.read_text.ensures

pub returns-in-None-clause-sayable : goal.returns-in-None-clause-sayable
returns-in-None-clause-sayable c =
    string_is_sayable c.args.state.now c.read_text.new.state c.args.text.now c.read_text.result
    (string_taken c.args.state.now c.count_line.new.self c.read_text.new.state c.args.text.now c.read_text.result
    c.count_line.ensures c.in-None.ensures c.read_text.ensures)
