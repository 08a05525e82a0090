use Rattle.std.proofs.Common.{sym, ◌∙◌}
use Rattle.record_text.proofs.Readings.{read_nothing, read_told, read_other}
use Rattle.record_text.proofs.read.read_record.Goals as goal

pub returns-then-branch : goal.returns-then-branch
returns-then-branch c =
    read_told c.args.names.now c.args.octets.now c.line_text.result.now c.in-Some.item c.in_ok-is_line_of-in-Some.field-0 c.tell_topology.ensures c.line_text.ensures (sym c.in-Some.is ∙ c.in_ok-item.ensures) c.in_ok-is_line_of-in-Some.ensures c.if-branch.true

pub returns-else-branch : goal.returns-else-branch
returns-else-branch c =
    read_other c.args.names.now c.args.octets.now c.line_text.result.now c.in-Some.item c.in_ok-is_line_of-in-Some.field-0 c.tell_topology.ensures c.line_text.ensures (sym c.in-Some.is ∙ c.in_ok-item.ensures) c.in_ok-is_line_of-in-Some.ensures c.if-branch.false

pub returns-in-None : goal.returns-in-None
returns-in-None c =
    read_nothing c.args.names.now c.args.octets.now c.line_text.result.now c.tell_topology.ensures c.line_text.ensures (sym c.in-None.is ∙ c.in_ok-item.ensures)
