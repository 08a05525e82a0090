use Rattle.std.proofs.Common.{◌≡◌, ◌-◌, ℕ, List, sym, subst, length, take, drop, arith}
use Rattle.std.proofs.lemmas.List.{take_all, length-drop}
use Rattle.ipv4_packet.specs.declared.flow.FlowKind.{FlowKind}
use Rattle.ipv4_packet.specs.Identifier.{Identifies}
use Rattle.ifmp_wire.proofs.reader.read_redirection.Goals as goal

pub redirection-requires-clause-flow : goal.redirection-requires-clause-flow
redirection-requires-clause-flow c =
    let octets = c.args.octets.now in
    let whole : take (length octets - 24) (drop 24 octets) ≡ drop 24 octets = take_all (length octets - 24) (drop 24 octets) (rw length-drop (omega arith)) in
    let found = subst (λ (part : List ℕ). Identifies c.in_ok-kind.kind part c.in_ok-flow.flow) whole c.in_ok-flow.ensures.found in
    subst (λ (kind : FlowKind). Identifies kind (drop 24 octets) c.in_ok-flow.flow) (sym found.of_kind) found
