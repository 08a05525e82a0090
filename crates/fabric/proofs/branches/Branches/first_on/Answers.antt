use Rattle.std.proofs.Common.{◌≡◌, ◌<◌, [], None, false, true, ℕ, Some, get_or, length, subst, sym, ap, ◌∙◌, arith}
use Rattle.std.specs.Prelude.{is_some}
use Rattle.std.proofs.lemmas.List.{get_or_read}
use Rattle.fabric.proofs.Rows.{past_start, past_one, first_here, first_past, ports_within, columns_most}
use Rattle.fabric.proofs.branches.Branches.first_on.Goals as goal

pub loop-row-init : goal.loop-row-init
loop-row-init c =
    past_start c.self.inside.rows.items c.args.port c.rows_of-from.result.0 c.rows_of-from.result.1
    (record { low = c.rows_of-from.ensures.low; order = c.rows_of-from.ensures.order; these = c.rows_of-from.ensures.these; others = c.rows_of-from.ensures.others })

pub loop-row-preserved : goal.loop-row-preserved
loop-row-preserved c =
    let within : c.loop-row.row < length c.self.inside.rows.items = omega (arith, c.loop-row-test.true, c.rows_of-from.ensures.low, c.self.invariant.sixteen) in
    let row = get_or_read c.self.inside.rows.items c.loop-row.row c.index.result.now within c.index.ensures [] in
    past_one c.self.inside.rows.items c.args.port.0 c.loop-row.row c.loop-row.invariant
    (subst (λ r. (j : ℕ) → j < length r → is_some (get_or r j None) ≡ false) row c.in_default.ensures.none)

pub end_of-requires-clause-column : goal.end_of-requires-clause-column
end_of-requires-clause-column c =
    let within : c.loop-row.row < length c.self.inside.rows.items = omega (arith, c.loop-row-test.true, c.rows_of-from.ensures.low, c.self.invariant.sixteen) in
    let row = get_or_read c.self.inside.rows.items c.loop-row.row c.index.result.now within c.index.ensures [] in
    let most = columns_most c.self.inside.ports.items c.self.inside.vpis c.self.inside.rows.items c.loop-row.row c.self.invariant (omega (arith, c.loop-row-test.true, c.rows_of-from.ensures.low)) in
    omega (arith, c.in-Some.ensures.within, ap length row, most)

pub returns-in-Some-clause-first : goal.returns-in-Some-clause-first
returns-in-Some-clause-first c =
    let within : c.loop-row.row < length c.self.inside.rows.items = omega (arith, c.loop-row-test.true, c.rows_of-from.ensures.low, c.self.invariant.sixteen) in
    let row = get_or_read c.self.inside.rows.items c.loop-row.row c.index.result.now within c.index.ensures [] in
    let most = columns_most c.self.inside.ports.items c.self.inside.vpis c.self.inside.rows.items c.loop-row.row c.self.invariant (omega (arith, c.loop-row-test.true, c.rows_of-from.ensures.low)) in
    let column : c.in-Some.column < 15888 = omega (arith, c.in-Some.ensures.within, ap length row, most) in
    rw (← c.self.view_is) (ap Some c.end_of.ensures ∙ sym (first_here c.self.inside.rows.items c.args.port c.loop-row.row c.in-Some.column (omega (arith, within, c.self.invariant.sixteen)) column c.loop-row.invariant
    (c.rows_of-from.ensures.these c.loop-row.row c.in-Some.column c.loop-row.auto.row c.loop-row-test.true)
    (subst (λ r. is_some (get_or r c.in-Some.column None) ≡ true) row c.in-Some.ensures.some)
    (subst (λ r. (j : ℕ) → j < c.in-Some.column → is_some (get_or r j None) ≡ false) row c.in-Some.ensures.before)))

pub returns-in-Some-clause-ports : goal.returns-in-Some-clause-ports
returns-in-Some-clause-ports c = rw (← c.self.view_is) (ports_within c.self.inside.ports.items c.self.inside.vpis c.self.inside.rows.items c.self.invariant)

pub returns-clause-first : goal.returns-clause-first
returns-clause-first c =
    rw (← c.self.view_is) (sym (first_past c.self.inside.rows.items c.args.port c.rows_of-from.result.0 c.rows_of-from.result.1 c.loop-row.row
    (record { low = c.rows_of-from.ensures.low; order = c.rows_of-from.ensures.order; these = c.rows_of-from.ensures.these; others = c.rows_of-from.ensures.others })
    (omega (arith, c.loop-row-test.false)) c.loop-row.invariant))

pub returns-clause-ports : goal.returns-clause-ports
returns-clause-ports c = rw (← c.self.view_is) (ports_within c.self.inside.ports.items c.self.inside.vpis c.self.inside.rows.items c.self.invariant)
