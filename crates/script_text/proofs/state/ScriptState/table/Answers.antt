use Rattle.std.proofs.Common.{sym, ◌∙◌}
use Rattle.script_text.proofs.OpeningTables.{opening_table}
use Rattle.script_text.proofs.state.ScriptState.table.Goals as goal

pub returns-in-None : goal.returns-in-None
returns-in-None c = rw (← c.self.view_is) (rw c.in-None.is (c.route_list.ensures ∙ sym (opening_table c.self.inside.topology c.args.node c.requires.0)))
