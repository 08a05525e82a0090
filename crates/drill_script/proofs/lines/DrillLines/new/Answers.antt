use Rattle.drill_script.proofs.Following.{drill_lines-first}
use Rattle.drill_script.proofs.lines.DrillLines.new.Goals as goal

pub returns : goal.returns
returns c = drill_lines-first c.args.drill c.draw.result c.draw.ensures
