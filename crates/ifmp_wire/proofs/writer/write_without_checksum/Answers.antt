use Rattle.std.proofs.Common.{◌≡◌, [], ◌++◌, drop, refl, ap₂, ◌∙◌}
use Rattle.ifmp_wire.specs.Message.{op_code, names_of, rest_of, with_names, without_checksum}
use Rattle.ifmp_wire.proofs.WriteLemmas.{written-behind}
use Rattle.ifmp_wire.proofs.writer.write_without_checksum.Goals as goal

pub returns-clause-written : goal.returns-clause-written
returns-clause-written c =
    let message = c.args.message.now in
    let front = without_checksum (op_code message) (with_names (names_of message) []) in
    let whole : c.write_names.new.out ≡ front ++ drop 16 c.args.out.now =
    c.write_names.ensures ∙ ap₂ (λ op names. without_checksum op (with_names names (drop 16 c.args.out.now))) c.op_code.ensures c.names.ensures in
    written-behind 16 front c.args.out.now c.write_names.new.out c.write_rest.new.out (rest_of message) c.write_rest.result
    refl c.write_rest.ensures.len whole c.write_rest.ensures.written
