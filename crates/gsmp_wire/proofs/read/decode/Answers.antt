use Rattle.std.proofs.Common.{◌≡◌, ◌∙◌, List, ℕ, Ok, true, ap, sym, subst, arith, rules}
use Rattle.gsmp_wire.specs.Fields.{message_in}
use Rattle.gsmp_wire.specs.Refusal.{has_fields, has_size}
use Rattle.gsmp_wire.proofs.Decoding.{decoded_accepted, decoded_refused}
use Rattle.gsmp_wire.proofs.Inverse.{accepted, exact}
use Rattle.gsmp_wire.proofs.Places.{AreOctets}
use Rattle.gsmp_wire.proofs.Tails.{tail_is}
use Rattle.gsmp_wire.proofs.read.decode.Goals as goal

pub read_message-requires-clause-size : goal.read_message-requires-clause-size
read_message-requires-clause-size c =
    let octets : AreOctets c.args.octets.now = record { each = λ k. omega (arith, c.type_inv.octets k) } in
    let whole = accepted c.args.octets.now c.in_ok-kind.kind octets c.in_ok-kind.ensures.0 c.in_ok-kind.ensures.1 in
    subst (λ (m : List ℕ). has_size c.in_ok-kind.kind m ≡ true) (sym (tail_is 8 c.args.octets.now)) whole.message.has_its_size

pub read_message-requires-clause-fields : goal.read_message-requires-clause-fields
read_message-requires-clause-fields c =
    let octets : AreOctets c.args.octets.now = record { each = λ k. omega (arith, c.type_inv.octets k) } in
    let whole = accepted c.args.octets.now c.in_ok-kind.kind octets c.in_ok-kind.ensures.0 c.in_ok-kind.ensures.1 in
    subst (λ (m : List ℕ). has_fields c.in_ok-kind.kind m ≡ true) (sym (tail_is 8 c.args.octets.now)) whole.message.has_its_fields

pub returns-clause-exact : goal.returns-clause-exact
returns-clause-exact c =
    let octets : AreOctets c.args.octets.now = record { each = λ k. omega (arith, c.type_inv.octets k) } in
    let read = c.read_message.ensures ∙ ap (message_in c.in_ok-kind.kind) (tail_is 8 c.args.octets.now) in
    exact c.args.octets.now c.in_ok-kind.kind c.read_message.result octets c.in_ok-kind.ensures.0 c.in_ok-kind.ensures.1 read

pub returns-in_err-kind-clause-decoded : goal.returns-in_err-kind-clause-decoded
returns-in_err-kind-clause-decoded c =
    let refused = decoded_refused c.args.octets.now c.in_err-kind.field-0.0 c.in_err-kind.ensures in
    search (rules, refused)

pub returns-clause-decoded : goal.returns-clause-decoded
returns-clause-decoded c =
    let read = c.read_message.ensures ∙ ap (message_in c.in_ok-kind.kind) (tail_is 8 c.args.octets.now) in
    ap Ok read ∙ sym (decoded_accepted c.args.octets.now c.in_ok-kind.kind c.in_ok-kind.ensures.0 c.in_ok-kind.ensures.1)
