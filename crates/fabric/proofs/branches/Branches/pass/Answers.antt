use Rattle.std.specs.Prelude.{Option}
use Rattle.std.specs.Option.{option_map}
use Rattle.crossbar_model.specs.declared.branch.Branch.{Branch}
use Rattle.std.proofs.Common.{◌<◌, ◌≤◌, List, [], None, get_or, set, length, refl, sym, ap, subst, ◌∙◌, arith}
use Rattle.std.proofs.lemmas.List.{get_or_read}
use Rattle.fabric.specs.Table.{IsTable, after, branches_in}
use Rattle.fabric.proofs.Rows.{found, not_found, table_with, Connects, connects, some_with}
use Rattle.fabric.proofs.Passing.{here, same_rows, table_passed, map_passed, if_none, if_some}
use Rattle.fabric.proofs.branches.Branches.pass.Goals as goal

pub invariant_of-self-2 : goal.invariant_of-self-2
invariant_of-self-2 c =
    let place = c.in_ok-place.place in
    let within : place.row < length c.self.inside.rows.items = omega (arith, c.in_ok-place.ensures.row, c.self.invariant.sixteen) in
    let row = get_or_read c.self.inside.rows.items place.row c.index_mut.result.now within c.index_mut.ensures.value [] in
    subst (λ (r : List (Option Branch)). IsTable c.self.inside.ports.items c.self.inside.vpis (set c.self.inside.rows.items place.row r)) (sym (c.pass.ensures.after ∙ ap (λ (r : List (Option Branch)). set r place.column (after (get_or r place.column None) c.args.cell.now)) row))
    (table_passed c.self.inside.ports.items c.self.inside.vpis c.self.inside.rows.items place.row place.column c.args.cell.now c.args.input c.self.invariant c.in_ok-place.ensures.row c.in_ok-place.ensures.column c.in_ok-place.ensures.end (here c.self.inside.ports.items c.self.inside.vpis c.self.inside.rows.items place.row place.column c.args.cell.now c.args.input c.self.invariant c.in_ok-place.ensures.row c.in_ok-place.ensures.column c.in_ok-place.ensures.end) refl)

pub returns-in_err-place-clause-output : goal.returns-in_err-place-clause-output
returns-in_err-place-clause-output c =
    rw (← c.self.view_is) (c.from_residual.ensures ∙ ap (option_map (λ (b : Branch). b.output)) (not_found c.self.inside.rows.items c.args.input c.in_err-place.ensures.none))

pub returns-in_err-place-clause-after : goal.returns-in_err-place-clause-after
returns-in_err-place-clause-after c =
    rw (← c.self.view_is, ← not_found c.self.inside.rows.items c.args.input c.in_err-place.ensures.none) tt

pub returns-clause-output : goal.returns-clause-output
returns-clause-output c =
    let place = c.in_ok-place.place in
    let within : place.row < length c.self.inside.rows.items = omega (arith, c.in_ok-place.ensures.row, c.self.invariant.sixteen) in
    let row = get_or_read c.self.inside.rows.items place.row c.index_mut.result.now within c.index_mut.ensures.value [] in
    rw (← c.self.view_is) ((c.pass.ensures.output ∙ ap (λ (r : List (Option Branch)). option_map (λ (b : Branch). b.output) (get_or r place.column None)) row)
    ∙ ap (option_map (λ (b : Branch). b.output)) (found c.self.inside.rows.items place.row place.column c.args.input c.in_ok-place.ensures.row c.in_ok-place.ensures.column c.in_ok-place.ensures.end))

pub returns-clause-none : goal.returns-clause-none
returns-clause-none c =
    let place = c.in_ok-place.place in
    let within : place.row < length c.self.inside.rows.items = omega (arith, c.in_ok-place.ensures.row, c.self.invariant.sixteen) in
    let row = get_or_read c.self.inside.rows.items place.row c.index_mut.result.now within c.index_mut.ensures.value [] in
    rw (← c.self.view_is) (if_none c.pass.result (here c.self.inside.ports.items c.self.inside.vpis c.self.inside.rows.items place.row place.column c.args.cell.now c.args.input c.self.invariant c.in_ok-place.ensures.row c.in_ok-place.ensures.column c.in_ok-place.ensures.end) _ (c.pass.ensures.output ∙ ap (λ (r : List (Option Branch)). option_map (λ (b : Branch). b.output) (get_or r place.column None)) row)
    (λ none. table_with c.self.inside.ports.items c.self.inside.vpis _ _
    (ap (λ (r : List (Option Branch)). branches_in (set c.self.inside.rows.items place.row r)) (c.pass.ensures.after ∙ ap (λ (r : List (Option Branch)). set r place.column (after (get_or r place.column None) c.args.cell.now)) row)
    ∙ ap branches_in (same_rows c.self.inside.ports.items c.self.inside.vpis c.self.inside.rows.items place.row place.column c.args.cell.now c.args.input c.self.invariant c.in_ok-place.ensures.row c.in_ok-place.ensures.column c.in_ok-place.ensures.end none))))

pub returns-clause-after : goal.returns-clause-after
returns-clause-after c =
    let place = c.in_ok-place.place in
    let within : place.row < length c.self.inside.rows.items = omega (arith, c.in_ok-place.ensures.row, c.self.invariant.sixteen) in
    let row = get_or_read c.self.inside.rows.items place.row c.index_mut.result.now within c.index_mut.ensures.value [] in
    rw (← c.self.view_is, ← found c.self.inside.rows.items place.row place.column c.args.input c.in_ok-place.ensures.row c.in_ok-place.ensures.column c.in_ok-place.ensures.end)
    (some_with _ _ (here c.self.inside.ports.items c.self.inside.vpis c.self.inside.rows.items place.row place.column c.args.cell.now c.args.input c.self.invariant c.in_ok-place.ensures.row c.in_ok-place.ensures.column c.in_ok-place.ensures.end)
    (λ b same. table_with c.self.inside.ports.items c.self.inside.vpis _ _
    (ap (λ (r : List (Option Branch)). branches_in (set c.self.inside.rows.items place.row r)) (c.pass.ensures.after ∙ ap (λ (r : List (Option Branch)). set r place.column (after (get_or r place.column None) c.args.cell.now)) row) ∙ same))
    (map_passed c.self.inside.ports.items c.self.inside.vpis c.self.inside.rows.items place.row place.column c.args.cell.now c.args.input c.self.invariant c.in_ok-place.ensures.row c.in_ok-place.ensures.column c.in_ok-place.ensures.end (here c.self.inside.ports.items c.self.inside.vpis c.self.inside.rows.items place.row place.column c.args.cell.now c.args.input c.self.invariant c.in_ok-place.ensures.row c.in_ok-place.ensures.column c.in_ok-place.ensures.end) refl))

pub returns-clause-port : goal.returns-clause-port
returns-clause-port c =
    let place = c.in_ok-place.place in
    let within : place.row < length c.self.inside.rows.items = omega (arith, c.in_ok-place.ensures.row, c.self.invariant.sixteen) in
    let row = get_or_read c.self.inside.rows.items place.row c.index_mut.result.now within c.index_mut.ensures.value [] in
    if_some c.pass.result (here c.self.inside.ports.items c.self.inside.vpis c.self.inside.rows.items place.row place.column c.args.cell.now c.args.input c.self.invariant c.in_ok-place.ensures.row c.in_ok-place.ensures.column c.in_ok-place.ensures.end) (λ output. output.port.0 ≤ 8) (c.pass.ensures.output ∙ ap (λ (r : List (Option Branch)). option_map (λ (b : Branch). b.output) (get_or r place.column None)) row)
    (some_with (Connects c.self.inside.ports.items c.self.inside.vpis c.args.input) _ (here c.self.inside.ports.items c.self.inside.vpis c.self.inside.rows.items place.row place.column c.args.cell.now c.args.input c.self.invariant c.in_ok-place.ensures.row c.in_ok-place.ensures.column c.in_ok-place.ensures.end) (λ b is. is.port)
    (connects c.self.inside.ports.items c.self.inside.vpis c.self.inside.rows.items place.row place.column c.args.input (here c.self.inside.ports.items c.self.inside.vpis c.self.inside.rows.items place.row place.column c.args.cell.now c.args.input c.self.invariant c.in_ok-place.ensures.row c.in_ok-place.ensures.column c.in_ok-place.ensures.end) c.self.invariant c.in_ok-place.ensures.column c.in_ok-place.ensures.end refl))
