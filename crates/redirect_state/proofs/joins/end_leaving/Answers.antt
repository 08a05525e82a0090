use Rattle.std.proofs.Common.{◌≡◌, ◌∙◌, sym, ap, subst, OnOk, Some}
use Rattle.net_types.specs.declared.channel.Channel.{Channel}
use Rattle.net_types.specs.Label.{label_channel_of}
use Rattle.ipv4_packet.specs.declared.flow.FlowId.{FlowId}
use Rattle.port_model.specs.Grants as grants
use Rattle.port_model.specs.Port.{Work}
use Rattle.port_model.specs.Saying.{reclaim_ack, tells}
use Rattle.port_saying.specs.Rules.{begun}
use Rattle.redirect_state.proofs.Backs.{ends_owed, ends_unowed}
use Rattle.redirect_state.proofs.joins.end_leaving.Goals as goal

pub returns-then-not-end_leaving-clause-work : goal.returns-then-not-end_leaving-clause-work
returns-then-not-end_leaving-clause-work g c = λ n grant found.
    let one : Some grant ≡ Some c.requires.grant.0 = sym found ∙ c.requires.grant.1 in
    let same : c.requires.grant.0 ≡ grant = cc one in
    ends_unowed c.args.state.now.port c.end_leaving.new.self.port c.args.out.now n c.args.label grant c.args.done.now.request found
    (rw same at c.requires.grant.2) c.end_leaving.ensures.port (c.end_leaving.ensures.owed ∙ ap Some c.if-not-end_leaving.true)

pub returns-clause-work : goal.returns-clause-work
returns-clause-work g c = λ n grant found.
    let one : Some grant ≡ Some c.requires.grant.0 = sym found ∙ c.requires.grant.1 in
    let same : c.requires.grant.0 ≡ grant = cc one in
    subst (λ (w : Work). OnOk c.tell.result (w ≡ begun c.tell.new.state.port c.tell.new.out n))
    (sym (
    ends_owed c.args.state.now.port c.end_leaving.new.self.port c.args.out.now n c.args.label grant c.args.done.now.request found
    (rw same at c.requires.grant.2) c.end_leaving.ensures.port (c.end_leaving.ensures.owed ∙ ap Some c.if-not-end_leaving.false)
    ∙ ap (λ (f : FlowId). tells (begun c.end_leaving.new.self.port c.args.out.now n) (reclaim_ack (label_channel_of c.args.label) f)) (sym (ap (λ (h : grants.Grant). h.flow) same) ∙ c.requires.grant.3)
    ∙ ap (λ (h : Channel). tells (begun c.end_leaving.new.self.port c.args.out.now n) (reclaim_ack h c.args.flow)) (sym c.label_channel.ensures)))
    (c.tell.ensures.work n)
