use Rattle.std.proofs.Common.{◌≡◌, ◌++◌, drop, option_map}
use Rattle.toml.specs.View.{items_view}
use Rattle.script_model.specs.Documents.{strings}
use Rattle.document_text.proofs.table.push_strings.Given as goal

-- what is still to come behind the texts so far is what was to come at first
abbrev pub invariant-loop-value : goal.invariant-loop-value
invariant-loop-value l =
    option_map (λ more. l.texts ++ more) (strings (items_view (drop l.value-index l.values)))
    ≡ option_map (λ more. l.initial.texts ++ more) (strings (items_view l.values))
