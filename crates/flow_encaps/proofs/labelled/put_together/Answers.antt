use Rattle.std.proofs.Common.{◌≡◌, ◌≢◌, ℕ, ◌+◌, take, ap, sym, ◌∙◌, subst}
use Rattle.ipv4_packet.specs.declared.flow.FlowKind.{FlowKind}
use Rattle.ipv4_packet.specs.Flow.{kind_of}
use Rattle.flow_encaps.specs.Labelled.{rebuilt, head_size, left_out, said_checksum, checksum_at_ttl_zero, HasLayout}
use Rattle.flow_encaps.proofs.RebuiltLemmas.{long-rebuilt, checksum_at_ttl_zero-front, layout_fault-passed, unwrap_fault-checksum, unwrap_fault-none}
use Rattle.flow_encaps.proofs.AnswerLemmas.{packet-joined}
use Rattle.flow_encaps.proofs.labelled.put_together.Goals as goal

pub returns-then-said_checksum-checksum_at_ttl_zero-clause-fault : goal.returns-then-said_checksum-checksum_at_ttl_zero-clause-fault
returns-then-said_checksum-checksum_at_ttl_zero-clause-fault c =
    let flow = c.args.flow.now in
    let payload = c.args.payload.now in
    let kind = kind_of flow in
    let layout = subst (λ (k : FlowKind). HasLayout k payload) c.kind.ensures c.in_ok-check_layout.ensures.ok in
    let said : c.said_checksum.result ≡ said_checksum kind payload = c.said_checksum.ensures ∙ ap (λ (k : FlowKind). said_checksum k payload) c.kind-2.ensures in
    let front : take c.head_of-size.result.1 c.head_of-size.result.0 ≡ take (head_size kind + left_out kind) (rebuilt flow payload) =
    c.head_of-size.ensures.rebuilt ∙ ap (λ (n : ℕ). take n (rebuilt flow payload)) c.head_of-size.ensures.size in
    let still : c.checksum_at_ttl_zero.result ≡ checksum_at_ttl_zero (rebuilt flow payload) = c.checksum_at_ttl_zero.ensures ∙ ap checksum_at_ttl_zero front ∙ checksum_at_ttl_zero-front kind (rebuilt flow payload) (long-rebuilt flow payload layout.head) in
    let differs : said_checksum kind payload ≢ checksum_at_ttl_zero (rebuilt flow payload) = λ (same : said_checksum kind payload ≡ checksum_at_ttl_zero (rebuilt flow payload)). c.if-said_checksum-checksum_at_ttl_zero.true (said ∙ same ∙ sym still) in
    sym (unwrap_fault-checksum flow payload (layout_fault-passed kind payload layout) differs)

pub returns-clause-fault : goal.returns-clause-fault
returns-clause-fault c =
    let flow = c.args.flow.now in
    let payload = c.args.payload.now in
    let kind = kind_of flow in
    let layout = subst (λ (k : FlowKind). HasLayout k payload) c.kind.ensures c.in_ok-check_layout.ensures.ok in
    let said : c.said_checksum.result ≡ said_checksum kind payload = c.said_checksum.ensures ∙ ap (λ (k : FlowKind). said_checksum k payload) c.kind-2.ensures in
    let front : take c.head_of-size.result.1 c.head_of-size.result.0 ≡ take (head_size kind + left_out kind) (rebuilt flow payload) =
    c.head_of-size.ensures.rebuilt ∙ ap (λ (n : ℕ). take n (rebuilt flow payload)) c.head_of-size.ensures.size in
    let still : c.checksum_at_ttl_zero.result ≡ checksum_at_ttl_zero (rebuilt flow payload) = c.checksum_at_ttl_zero.ensures ∙ ap checksum_at_ttl_zero front ∙ checksum_at_ttl_zero-front kind (rebuilt flow payload) (long-rebuilt flow payload layout.head) in
    sym (unwrap_fault-none flow payload (layout_fault-passed kind payload layout) (sym said ∙ c.if-said_checksum-checksum_at_ttl_zero.false ∙ still))

pub returns-clause-written : goal.returns-clause-written
returns-clause-written c =
    let flow = c.args.flow.now in
    let payload = c.args.payload.now in
    let kind = kind_of flow in
    let layout = subst (λ (k : FlowKind). HasLayout k payload) c.kind.ensures c.in_ok-check_layout.ensures.ok in
    let place : c.head_size.result ≡ head_size kind = c.head_size.ensures ∙ ap head_size c.kind-3.ensures in
    packet-joined flow payload c.head_of-size.result.0 c.write_checksum.new.packet c.args.out.now c.write_packet.new.out c.head_of-size.result.1 c.head_size.result c.write_packet.result
    layout.head c.head_of-size.ensures.size place c.head_of-size.ensures.rebuilt c.write_checksum.ensures c.write_packet.ensures.written
