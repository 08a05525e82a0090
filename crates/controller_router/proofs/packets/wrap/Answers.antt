use Rattle.std.proofs.Common.{◌≡◌, ◌++◌, ℕ, List, Option, Some, length, take, ap, sym, subst, ◌∙◌, arith}
use Rattle.std.specs.Prelude.{IfSome}
use Rattle.std.specs.Option.{option_map}
use Rattle.ipv4_packet.proofs.MessageLemmas.{take-front}
use Rattle.ipv4_packet.specs.Flow.{flow_of, kind_of}
use Rattle.flow_encaps.specs.Default.{default_payload}
use Rattle.flow_encaps.specs.Labelled.{labelled_payload}
use Rattle.controller_router.specs.Packets.{payload_by, shown}
use Rattle.controller_router.specs.declared.packets.Permit.{Permit}
use Rattle.controller_router.proofs.Permits.{short_is}
use Rattle.controller_router.proofs.packets.wrap.Goals as goal

front : (xs rest out : List ℕ) (n : ℕ) → out ≡ xs ++ rest → length xs ≡ n → take n out ≡ xs
front xs rest out n written long = rw written (take-front xs rest n long)

-- a permit is of the packet's flow
abbrev IsOf : List ℕ → Option Permit → Type 0
IsOf packet permit = IfSome permit (λ p. flow_of (kind_of p.flow) packet ≡ Some p.flow)

pub returns-in-None-clause-payload : goal.returns-in-None-clause-payload
returns-in-None-clause-payload c =
    front (default_payload c.args.packet.now) _ c.wrap_default.new.out c.wrap_default.result c.wrap_default.ensures.written (omega (arith, c.wrap_default.ensures.len))
    ∙ ap (λ (permit : Option Permit). payload_by c.args.packet.now (option_map shown permit)) (sym c.in-None.is)

pub wrap_flow-requires-clause-room : goal.wrap_flow-requires-clause-room
wrap_flow-requires-clause-room c =
    let short = short_is c.args.packet.now c.in-Some.permit.flow c.requires.packet.has_header (subst (IsOf c.args.packet.now) c.in-Some.is c.requires.flow) in
    omega (arith, short.most, c.requires.room)

pub returns-in-Some-clause-payload : goal.returns-in-Some-clause-payload
returns-in-Some-clause-payload c =
    front (labelled_payload (kind_of c.in-Some.permit.flow) c.args.packet.now) _ c.wrap_flow.new.out c.wrap_flow.result c.wrap_flow.ensures.written (sym c.wrap_flow.ensures.len)
    ∙ ap (λ (permit : Option Permit). payload_by c.args.packet.now (option_map shown permit)) (sym c.in-Some.is)

pub returns-in-Some-clause-size : goal.returns-in-Some-clause-size
returns-in-Some-clause-size c =
    let short = short_is c.args.packet.now c.in-Some.permit.flow c.requires.packet.has_header (subst (IsOf c.args.packet.now) c.in-Some.is c.requires.flow) in
    (omega (arith, short.least, c.wrap_flow.ensures.len), omega (arith, short.most, c.wrap_flow.ensures.len))
