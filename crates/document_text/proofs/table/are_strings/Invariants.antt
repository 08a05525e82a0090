use Rattle.std.proofs.Common.{◌≡◌, drop, is_some}
use Rattle.toml.specs.View.{items_view}
use Rattle.script_model.specs.Documents.{strings}
use Rattle.document_text.proofs.table.are_strings.Given as goal

-- all are strings where those to come are
abbrev pub invariant-loop-value : goal.invariant-loop-value
invariant-loop-value l = is_some (strings (items_view (drop l.value-index l.values))) ≡ is_some (strings (items_view l.values))
