use Rattle.std.proofs.Common.{◌≡◌, ◌<◌, ◌≤◌, ◌*◌, ◌+◌, ℕ, [], None, Some, get_or, length, subst, sym, ap, ◌∙◌, arith}
use Rattle.std.proofs.lemmas.List.{get_or_read}
use Rattle.net_types.specs.declared.channel.End.{End}
use Rattle.fabric.proofs.Rows.{columns_most}
use Rattle.fabric.proofs.Followings.{behind_here, behind_none}
use Rattle.fabric.proofs.branches.Branches.first_behind.Goals as goal

pub returns-in-Some : goal.returns-in-Some
returns-in-Some c =
    let rows = c.self.inside.rows.items in
    let low : c.loop-row.row < 16 = c.loop-row-test.true in
    let within : c.loop-row.row < length rows = omega (arith, low, c.self.invariant.sixteen) in
    let row = get_or_read rows c.loop-row.row c.index.result.now within c.index.ensures [] in
    let most = columns_most c.self.inside.ports.items c.self.inside.vpis rows c.loop-row.row c.self.invariant low in
    let column : c.in-Some.column < 15888 = omega (arith, c.in-Some.ensures.within.1, ap (λ r. length r) row, most) in
    let behind = c.places_up_to-place.ensures.others (15888 * c.loop-row.row + c.in-Some.column) (omega (arith, c.loop-row.invariant.later, c.in-Some.ensures.within.0)) (omega (arith, low, column)) in
    rw (← c.self.view_is) (ap (λ (e : End). Some (e, c.in-Some.branch.output)) c.end_of.ensures
    ∙ sym (behind_here rows c.args.other c.loop-row.row c.in-Some.column c.loop-row.from c.in-Some.branch low column c.in-Some.ensures.within.0 c.loop-row.invariant.passed
    (ap (λ r. get_or r c.in-Some.column None) (sym row) ∙ c.in-Some.ensures.some) behind
    (subst (λ r. (j : ℕ) → c.loop-row.from ≤ j → j < c.in-Some.column → get_or r j None ≡ None) row c.in-Some.ensures.before)))

pub returns : goal.returns
returns c = rw (← c.self.view_is) (sym (behind_none c.self.inside.rows.items c.args.other c.loop-row.row c.loop-row.from c.loop-row-test.false c.loop-row.invariant.passed))
