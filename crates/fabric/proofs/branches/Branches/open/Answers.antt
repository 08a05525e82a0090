use Rattle.std.specs.Prelude.{Option}
use Rattle.crossbar_model.specs.declared.branch.Branch.{Branch}
use Rattle.std.proofs.Common.{◌≡◌, ◌+◌, ◌*◌, true, false, None, replicate, List, length, length-append, subst, sym, ap, ◌∙◌, arith, rules}
use Rattle.net_types.specs.declared.node.PortNo.{PortNo}
use Rattle.fabric.specs.Table.{IsTable, Table, branches_in, columns_of}
use Rattle.fabric.proofs.Rows.{AreEmpty, columns_by, rows_push, table_empty, table_with, map_empty}
use Rattle.fabric.proofs.branches.Branches.open.Goals as goal
use Rattle.fabric.proofs.branches.Branches.open.Goals.{then-has_port, else-has_port}

pub invariant_of-result : goal.invariant_of-result
invariant_of-result c =
    let same : c.in_ok-to_vec.field-0.items ≡ c.args.ports.now = search rules in
    subst (λ (ps : List PortNo). IsTable ps c.args.vpis c.loop-row.rows.items) (sym same)
    (table_empty c.args.ports.now c.args.vpis c.loop-row.rows.items c.requires.ports c.requires.vpis.0 c.requires.vpis.1 (omega (arith, c.loop-row.invariant.count)) c.loop-row.invariant.empty)

pub loop-row-preserved : goal.loop-row-preserved
loop-row-preserved c =
    let room : 993 * c.if-has_port.paths ≡ columns_of c.args.ports.now c.args.vpis c.loop-row.row =
    elim c.if-has_port.branch [
      | then-has_port w ↦ columns_by c.args.ports.now c.args.vpis c.loop-row.row c.if-has_port.paths true (sym c.has_port.ensures ∙ w.if-has_port.true) w.paths-is
      | else-has_port w ↦ columns_by c.args.ports.now c.args.vpis c.loop-row.row c.if-has_port.paths false (sym c.has_port.ensures ∙ w.if-has_port.false) w.paths-is
    ] in
    record {
      count = ap length c.in_ok-push.ensures.items ∙ length-append {A = List (Option Branch)} c.loop-row.rows.items _ ∙ ap (λ n. n + 1) c.loop-row.invariant.count;
      empty = subst (AreEmpty c.args.ports.now c.args.vpis) (sym c.in_ok-push.ensures.items)
          (rows_push c.args.ports.now c.args.vpis c.loop-row.rows.items c.in_ok-open.field-0 c.loop-row.invariant.empty
          (c.in_ok-open.ensures ∙ ap (λ n. replicate n None) (room ∙ ap (columns_of c.args.ports.now c.args.vpis) (sym c.loop-row.invariant.count))));
    }

pub returns : goal.returns
returns c =
    let same : c.in_ok-to_vec.field-0.items ≡ c.args.ports.now = search rules in
    ap (λ (ps : List PortNo). let t : Table = record { ports = ps; vpis = c.args.vpis; branches = branches_in c.loop-row.rows.items } in t) same
    ∙ table_with c.args.ports.now c.args.vpis _ _ (map_empty c.args.ports.now c.args.vpis c.loop-row.rows.items c.loop-row.invariant.empty)
