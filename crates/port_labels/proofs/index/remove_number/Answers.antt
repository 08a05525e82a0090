use Rattle.std.proofs.Common.{◌∙◌}
use Rattle.port_labels.proofs.Numbers.{removed_found, removed_nowhere}
use Rattle.port_labels.proofs.index.remove_number.Goals as goal

pub returns-in-Ok : goal.returns-in-Ok
returns-in-Ok c =
    c.remove.ensures.items ∙ removed_found c.args.label c.args.numbers.now.items c.deref.result.now c.in-Ok.place c.deref.ensures.value c.requires c.in-Ok.ensures.position

pub returns-in_default : goal.returns-in_default
returns-in_default c =
    removed_nowhere c.args.label c.args.numbers.now.items c.deref.result.now c.in_default.field-0 c.deref.ensures.value c.requires c.in_default.ensures.position
