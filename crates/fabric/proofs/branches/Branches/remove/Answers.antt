use Rattle.std.specs.Prelude.{Option}
use Rattle.crossbar_model.specs.declared.branch.Branch.{Branch}
use Rattle.std.proofs.Common.{◌≡◌, ◌<◌, List, [], true, None, set, length, refl, sym, ap, subst, ◌∙◌, arith}
use Rattle.std.proofs.lemmas.List.{get_or_read}
use Rattle.crossbar_model.specs.Channels.{is_connectable}
use Rattle.fabric.specs.Table.{IsTable, branches_in}
use Rattle.fabric.proofs.Channels.{inside_row, has_place}
use Rattle.fabric.proofs.Rows.{table_with, table_written, map_removed}
use Rattle.fabric.proofs.branches.Branches.remove.Goals as goal

pub unreachable-requires : goal.unreachable-requires
unreachable-requires c =
    has_place c.self.inside.ports.items c.self.inside.vpis c.args.input c.self.invariant.of_links c.self.invariant.some c.self.invariant.few
    (rw (← c.self.view_is) at c.requires) c.in_default.ensures.none

pub clear-requires : goal.clear-requires
clear-requires c =
    let place = c.in-Some.place in
    let within : place.row < length c.self.inside.rows.items = omega (arith, c.in-Some.ensures.row, c.self.invariant.sixteen) in
    let row = get_or_read c.self.inside.rows.items place.row c.index_mut.result.now within c.index_mut.ensures.value [] in
    let inside = inside_row c.self.inside.ports.items c.self.inside.vpis c.args.input place.row place.column c.self.invariant.of_links c.self.invariant.some c.self.invariant.few
    (rw (← c.self.view_is) at c.requires) c.in-Some.ensures.column c.in-Some.ensures.end in
    omega (arith, inside, c.self.invariant.columns place.row c.in-Some.ensures.row, ap (λ r. length r) row)

pub invariant_of-self : goal.invariant_of-self
invariant_of-self c =
    let place = c.in-Some.place in
    let within : place.row < length c.self.inside.rows.items = omega (arith, c.in-Some.ensures.row, c.self.invariant.sixteen) in
    let row = get_or_read c.self.inside.rows.items place.row c.index_mut.result.now within c.index_mut.ensures.value [] in
    let input : is_connectable c.self.inside.ports.items c.self.inside.vpis c.args.input ≡ true = rw (← c.self.view_is) at c.requires in
    let inside = inside_row c.self.inside.ports.items c.self.inside.vpis c.args.input place.row place.column c.self.invariant.of_links c.self.invariant.some c.self.invariant.few
    input c.in-Some.ensures.column c.in-Some.ensures.end in
    subst (λ (r : List (Option Branch)). IsTable c.self.inside.ports.items c.self.inside.vpis (set c.self.inside.rows.items place.row r)) (sym (c.clear.ensures ∙ ap (λ r. set r place.column None) row))
    (table_written c.self.inside.ports.items c.self.inside.vpis c.self.inside.rows.items place.row place.column None c.self.invariant c.in-Some.ensures.row c.in-Some.ensures.column inside tt)

pub returns : goal.returns
returns c =
    let place = c.in-Some.place in
    let within : place.row < length c.self.inside.rows.items = omega (arith, c.in-Some.ensures.row, c.self.invariant.sixteen) in
    let row = get_or_read c.self.inside.rows.items place.row c.index_mut.result.now within c.index_mut.ensures.value [] in
    let input : is_connectable c.self.inside.ports.items c.self.inside.vpis c.args.input ≡ true = rw (← c.self.view_is) at c.requires in
    let inside = inside_row c.self.inside.ports.items c.self.inside.vpis c.args.input place.row place.column c.self.invariant.of_links c.self.invariant.some c.self.invariant.few
    input c.in-Some.ensures.column c.in-Some.ensures.end in
    rw (← c.self.view_is) (table_with c.self.inside.ports.items c.self.inside.vpis _ _
    (ap (λ (r : List (Option Branch)). branches_in (set c.self.inside.rows.items place.row r)) (c.clear.ensures ∙ ap (λ r. set r place.column None) row)
    ∙ map_removed c.self.inside.ports.items c.self.inside.vpis c.self.inside.rows.items place.row place.column None c.self.invariant c.in-Some.ensures.row c.in-Some.ensures.column inside
    c.args.input refl c.in-Some.ensures.end))
