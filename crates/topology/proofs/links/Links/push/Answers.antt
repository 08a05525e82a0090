use Rattle.std.proofs.Common.{◌∙◌, Some, cond, ap, Option}
use Rattle.world_model.specs.network_model.declared.link.LinkEnd.{LinkEnd}
use Rattle.world_model.specs.Topology.{same_link_end}
use Rattle.topology.proofs.Peers.{lead-push}
use Rattle.topology.proofs.links.Links.push.Goals as goal

pub invariant_of-self-2 : goal.invariant_of-self-2
invariant_of-self-2 c =
    let first = c.args.first in
    let second = c.args.second in
    let one = c.in_ok-insert.ensures.updates in
    let two = c.in_ok-insert-2.ensures.updates in
    rw (c.push_reserved.ensures.items, c.in_ok-reserve.ensures.items)
    (lead-push c.self.inside.peers.entries c.insert-2.new.self.entries c.self.inside.list.items first second c.self.invariant
    (rw (← c.self.view_is) at c.requires.first) (rw (← c.self.view_is) at c.requires.second) c.requires.apart
    (λ end. two.0 end
    ∙ ap (λ (o : Option LinkEnd). cond (same_link_end second end) (Some first) o)
    (one.0 end ∙ ap (λ (o : Option LinkEnd). cond (same_link_end first end) (Some second) o) (c.in_ok-reserve-2.ensures.entries.2 end))))
