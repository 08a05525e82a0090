use Rattle.std.proofs.Common.{◌≡◌, ◌+◌, ◌≤◌, ◌++◌, length}
use Rattle.lab_text.specs.Lines.{lines_of}
use Rattle.script_model.specs.Reading.{line_says}
use Rattle.script_model.specs.Script.{script_from}
use Rattle.ideal_fates.specs.Told.{rest_of, Follows}
use Rattle.ideal_fates.proofs.fates.lines.read_lines.Given as goal

-- what is written and what is left to be told are together what was left before
abbrev pub invariant-loop-rest : goal.invariant-loop-rest
invariant-loop-rest l = record {
  follows : Follows l.state l.fates;
  room : l.state.octets + length l.rest ≤ 16777217;
  lines : l.state.lines ≤ l.state.octets;
  told : l.out ++ rest_of l.fates (script_from line_says l.state (lines_of l.rest)) ≡ l.fn.out ++ rest_of l.fn.fates (script_from line_says l.fn.state (lines_of l.fn.octets));
  refused : (script_from line_says l.state (lines_of l.rest)).refused ≡ (script_from line_says l.fn.state (lines_of l.fn.octets)).refused;
}

abbrev pub decreases-loop-rest : goal.decreases-loop-rest
decreases-loop-rest l = length l.rest
