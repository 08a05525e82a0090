use Rattle.std.proofs.Common.{◌∙◌}
use Rattle.grant_table.specs.Held.{shown}
use Rattle.grant_table.proofs.Apart.{at-label, apart_without}
use Rattle.grant_table.proofs.OfLabels.{label_found, labels_without}
use Rattle.grant_table.proofs.Places.{gap}
use Rattle.grant_table.proofs.table.GrantTable.take_out.Goals as goal

pub invariant_of-self : goal.invariant_of-self
invariant_of-self c =
    rw (c.take_out.ensures.rest, c.in-Some.ensures.some.ended c.self.invariant.apart) (record {
      apart = apart_without c.args.label c.self.inside.grants c.self.invariant.apart;
      labels = labels_without c.args.label c.self.inside.grants c.self.invariant.labels;
    })

pub returns-clause-label : goal.returns-clause-label
returns-clause-label c =
    at-label c.args.label c.self.inside.grants (shown c.take_out.result) (c.in-Some.ensures.some.found ∙ c.take_out.ensures.grant)

pub returns-clause-place : goal.returns-clause-place
returns-clause-place c =
    rw (← c.self.view_is, c.take_out.ensures.rest)
    (gap c.self.inside.grants c.args.label c.in-Some.place c.in-Some.ensures.some c.self.invariant.apart (rw c.take_out.ensures.rest at c.take_out.ensures.room))

pub returns-clause-number : goal.returns-clause-number
returns-clause-number c =
    let found = c.in-Some.ensures.some.found ∙ c.take_out.ensures.grant in
    rw (at-label c.args.label c.self.inside.grants (shown c.take_out.result) found) at (label_found c.args.label c.self.inside.grants (shown c.take_out.result) c.self.invariant.labels found)
