use Rattle.std.proofs.Common.{◌∙◌, ◌+◌, ◌≤◌, ◌++◌, [], ◌∷◌, ℕ, List, length, ap, arith, refl, subst, sym}
use Rattle.std.specs.Int.{w16, w32, to_be_bytes}
use Rattle.gsmp_wire.specs.declared.message.Connection.{Connection}
use Rattle.gsmp_wire.specs.declared.message.Head.{Head}
use Rattle.gsmp_wire.specs.declared.message.Message.{Message}
use Rattle.gsmp_wire.specs.declared.message.MessageType.TheVariants as kinds
use Rattle.octet_fields.specs.Fields.{written}
use Rattle.gsmp_wire.specs.Layout.{connection_octets, connection_of, end_octets, header, octets_of, rows_octets, snap_header}
use Rattle.gsmp_wire.specs.Parts.{head_of}
use Rattle.gsmp_wire.proofs.Writing.{written_more, written_whole}
use Rattle.gsmp_wire.proofs.write.encode.Goals as goal

pub returns-in-Branch-clause-written : goal.returns-in-Branch-clause-written
returns-in-Branch-clause-written c =
    let m = c.in-Branch in
    let old = c.args.out.now in
    let room : 40 ≤ length old = subst (λ (x : Message). length (octets_of x) ≤ length c.args.out.now) m.is c.requires.room in
    let connection : Connection = record { transaction = m.transaction; session = m.session; input_port = m.input_port; input = m.input; output_port = m.output_port; output = m.output; branches = m.branches; priority = m.priority } in
    let begins : Head = record { result = m.result; code = m.code; number = m.transaction } in
    let head = snap_header ++ header (kinds.Branch m.kind) m.result m.code in
    let front = c.put_head.ensures begins (ap head_of m.is) in
    let body = c.put_connection.ensures connection (ap connection_of m.is) in
    written_whole (head ++ connection_octets connection) (octets_of c.args.message.now) old c.put_connection.new.out (ap octets_of (sym m.is))
    (written_more 12 head (connection_octets connection) old c.put_head.new.out c.put_connection.new.out front body refl (omega (arith, room)))

pub returns-in-Move-clause-written : goal.returns-in-Move-clause-written
returns-in-Move-clause-written c =
    let m = c.in-Move in
    let old = c.args.out.now in
    let room : 48 ≤ length old = subst (λ (x : Message). length (octets_of x) ≤ length c.args.out.now) m.is c.requires.room in
    let connection : Connection = record { transaction = m.transaction; session = m.session; input_port = m.input_port; input = m.input; output_port = m.output_port; output = m.output; branches = m.branches; priority = m.priority } in
    let begins : Head = record { result = m.result; code = m.code; number = m.transaction } in
    let head = snap_header ++ header kinds.Move m.result m.code in
    let front = c.put_head-in-Move.ensures begins (ap head_of m.is) in
    let body = c.put_connection-in-Move.ensures connection (ap connection_of m.is) in
    let target = c.put_octets-in-Move.ensures ∙ ap (λ (octets : List ℕ). written c.put_connection-in-Move.new.out 40 octets) c.end_octets.ensures in
    written_whole ((head ++ connection_octets connection) ++ end_octets m.target_port m.target) (octets_of c.args.message.now) old c.put_octets-in-Move.new.octets (ap octets_of (sym m.is))
    (written_more 40 (head ++ connection_octets connection) (end_octets m.target_port m.target) old c.put_connection-in-Move.new.out c.put_octets-in-Move.new.octets
    (written_more 12 head (connection_octets connection) old c.put_head-in-Move.new.out c.put_connection-in-Move.new.out front body refl (omega (arith, room)))
    target refl (omega (arith, room)))

pub returns-in-Port-clause-written : goal.returns-in-Port-clause-written
returns-in-Port-clause-written c =
    let m = c.in-Port in
    let old = c.args.out.now in
    let room : 28 ≤ length old = subst (λ (x : Message). length (octets_of x) ≤ length c.args.out.now) m.is c.requires.room in
    let begins : Head = record { result = m.result; code = m.code; number = m.transaction } in
    let head = snap_header ++ header kinds.Port m.result m.code in
    let order = to_be_bytes w32 m.transaction ++ to_be_bytes w32 m.port ++ to_be_bytes w32 m.session ++ (m.function ∷ 0 ∷ 0 ∷ 0 ∷ []) in
    let front = c.put_head-in-Port.ensures begins (ap head_of m.is) in
    let body = c.put_octets-in-Port.ensures ∙ ap (λ (octets : List ℕ). written c.put_head-in-Port.new.out 12 octets) c.order_octets.ensures in
    written_whole (head ++ order) (octets_of c.args.message.now) old c.put_octets-in-Port.new.octets (ap octets_of (sym m.is))
    (written_more 12 head order old c.put_head-in-Port.new.out c.put_octets-in-Port.new.octets front body refl (omega (arith, room)))

pub returns-in-AllPorts-clause-written : goal.returns-in-AllPorts-clause-written
returns-in-AllPorts-clause-written c =
    let m = c.in-AllPorts in
    let old = c.args.out.now in
    let room : 20 + length (rows_octets m.rows) ≤ length old = omega (arith, subst (λ (x : Message). length (octets_of x) ≤ length c.args.out.now) m.is c.requires.room) in
    let begins : Head = record { result = m.result; code = m.code; number = m.transaction } in
    let head = snap_header ++ header kinds.AllPorts m.result m.code in
    let listed = λ (n : ℕ). to_be_bytes w32 m.transaction ++ to_be_bytes w16 n ++ (0 ∷ 0 ∷ []) in
    let list = listed (length m.rows) in
    let front = c.put_head-in-AllPorts.ensures begins (ap head_of m.is) in
    let body = c.put_octets-in-AllPorts.ensures ∙ ap (λ (octets : List ℕ). written c.put_head-in-AllPorts.new.out 12 octets) (c.list_octets.ensures ∙ ap listed c.len.ensures.len) in
    let first = written_more 12 head list old c.put_head-in-AllPorts.new.out c.put_octets-in-AllPorts.new.octets front body refl (omega (arith, room)) in
    written_whole ((head ++ list) ++ rows_octets m.rows) (octets_of c.args.message.now) old c.put_rows.new.out (ap octets_of (sym m.is))
    (written_more 20 (head ++ list) (rows_octets m.rows) old c.put_octets-in-AllPorts.new.octets c.put_rows.new.out first c.put_rows.ensures refl (omega (arith, room)))
