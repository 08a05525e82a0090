use Rattle.std.proofs.Common.{◌≡◌, ◌∙◌, ◌==◌, Some, true, ap, rules, subst, sym, ℕ}
use Rattle.net_types.specs.declared.channel.Channel.{Channel}
use Rattle.gsmp_wire.specs.Range.{Bits, FitsChannel, IsInRange}
use Rattle.gsmp_wire.specs.Layout.{connection_of}
use Rattle.gsmp_wire.specs.declared.message.Connection.{Connection}
use Rattle.gsmp_wire.specs.declared.message.Message.{Message}
use Rattle.gsmp_wire.specs.declared.message.Message.TheVariants.{Branch}
use Rattle.world_model.specs.Answers.{count_of, told_output}
use Rattle.world_model.specs.Requests.{end_at}
use Rattle.gsmp_switch.proofs.Ranges.{branch_in_range, rows_in_range}
use Rattle.gsmp_switch.proofs.answer.success_answer.Goals as goal

pub returns-in-Branch-clause-range : goal.returns-in-Branch-clause-range
returns-in-Branch-clause-range c =
    let m = c.in-Branch in
    let found = c.branch_of-found.result in
    let asked : Connection = record { transaction = m.transaction; session = m.session; input_port = m.input_port; input = m.input; output_port = m.output_port; output = m.output; branches = m.branches; priority = m.priority } in
    let same : Some c.connection_in-asked.result ≡ Some asked = c.connection_in-asked.ensures ∙ ap connection_of m.is in
    let is : c.connection_in-asked.result ≡ asked = cc same in
    let range : IsInRange (Branch m.kind m.result m.code m.transaction m.session m.input_port m.input m.output_port m.output m.branches m.priority) = rw m.is at c.requires.range in
    let asks : (m.result == 2) ≡ true = rw m.is at c.requires.request in
    let port : Bits 32 c.told_output-output_port.result.0 = search rules in
    let channel : FitsChannel c.told_output-output_port.result.1 = record { vpi = search rules; vci = search rules } in
    let port_is : c.told_output-output_port.result.0 ≡ (told_output m.kind (end_at m.output_port m.output) found).port.0 =
    c.told_output-output_port.ensures.port ∙ ap (λ (x : Connection). (told_output m.kind (end_at x.output_port x.output) found).port.0) is in
    let channel_is : c.told_output-output_port.result.1 ≡ (told_output m.kind (end_at m.output_port m.output) found).channel =
    c.told_output-output_port.ensures.channel ∙ ap (λ (x : Connection). (told_output m.kind (end_at x.output_port x.output) found).channel) is in
    let whole : c.branch-told.result ≡ Branch m.kind 3 0 m.transaction m.session m.input_port m.input (told_output m.kind (end_at m.output_port m.output) found).port.0 (told_output m.kind (end_at m.output_port m.output) found).channel (count_of found) m.priority =
    c.branch-told.ensures ∙ (λ i. Branch m.kind 3 0 (is i).transaction (is i).session (is i).input_port (is i).input (port_is i) (channel_is i) (c.count_of-branches.ensures i) (is i).priority) in
    subst (λ (x : Message). IsInRange x) (sym whole)
    (branch_in_range m.kind found m.result m.code m.transaction m.session m.input_port m.input m.output_port m.output m.branches m.priority asks range (subst (λ (n : ℕ). Bits 32 n) port_is port) (subst (λ (x : Channel). FitsChannel x) channel_is channel))

pub returns-in-AllPorts-clause-range : goal.returns-in-AllPorts-clause-range
returns-in-AllPorts-clause-range c =
    let time : Bits 32 c.in-AllPorts.transaction = search rules in
    rw (c.ports_message.ensures, c.rows_of.ensures.rows) (rows_in_range c.in-AllPorts.transaction c.args.ports.now time c.requires.ports.0 c.requires.ports.1 (rw c.rows_of.ensures.rows at c.rows_of.ensures.fits))
