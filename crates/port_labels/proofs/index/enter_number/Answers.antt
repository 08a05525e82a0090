use Rattle.std.proofs.Common.{◌≡◌, ◌∙◌}
use Rattle.std.specs.Prelude.{nat_le}
use Rattle.std.specs.List.{insert}
use Rattle.keyed_lists.specs.Keyed.{entered}
use Rattle.port_labels.proofs.Numbers.{entered_found, entered_gap}
use Rattle.port_labels.proofs.index.enter_number.Goals as goal
use Rattle.port_labels.proofs.index.enter_number.Goals.{in-Ok, in-Err}

pub returns : goal.returns
returns c =
    let placed : insert c.args.numbers.now.items c.match-binary_search.place c.args.label ≡ entered nat_le c.args.label c.args.numbers.now.items =
    elim c.match-binary_search.branch [
      | in-Ok w ↦ rw w.place-is (entered_found c.args.label c.args.numbers.now.items c.deref.result.now w.in-Ok.place c.deref.ensures.value c.requires.rising w.in-Ok.ensures.position)
      | in-Err w ↦ rw w.place-is (entered_gap c.args.label c.args.numbers.now.items c.deref.result.now w.in-Err.place c.deref.ensures.value c.requires.rising w.in-Err.ensures.position)
    ] in
    c.in-Ok-insert.ensures.items ∙ placed
