use Rattle.std.proofs.Common.{◌∙◌, ap, sym}
use Rattle.command_line.specs.Reading.{command_in}
use Rattle.command_line.proofs.Asked.{barred_read, found_read, none_read, refused_read, some_asked}
use Rattle.command_line.proofs.reading.read_command.Goals as goal

pub returns-in_default-clause-reading : goal.returns-in_default-clause-reading
returns-in_default-clause-reading c = none_read c.args.words.now (sym c.said.ensures ∙ c.in_default.is)

pub returns-then-has_barred-clause-reading : goal.returns-then-has_barred-clause-reading
returns-then-has_barred-clause-reading c = barred_read c.args.words.now (cc)

pub returns-in-Ok-clause-reading : goal.returns-in-Ok-clause-reading
returns-in-Ok-clause-reading c =
    found_read c.args.words.now c.command_in.result (cc) c.in-Ok.ensures.faults
    (c.command_in.ensures ∙ ap command_in c.in-Ok.ensures.subcommand)

pub returns-in-Err-clause-reading : goal.returns-in-Err-clause-reading
returns-in-Err-clause-reading c = refused_read c.args.words.now c.in-Err.error c.refused.result c.in-Err.ensures.faults c.refused.ensures

pub returns-in-Err-clause-memory : goal.returns-in-Err-clause-memory
returns-in-Err-clause-memory c = some_asked c.args.words.now c.said.result _ c.refused.result c.said.ensures c.in-Some.is
