use Rattle.std.proofs.Common.{◌≡◌, ◌∙◌, ◌<◌, length, map, sym, ap, arith}
use Rattle.std.proofs.lemmas.List.{length-map, length-set}
use Rattle.branch_desk.specs.port_model.Grants.{Grant}
use Rattle.grant_table.specs.Held.{shown}
use Rattle.grant_table.specs.Tags.{flow_tag, held_tag}
use Rattle.grant_table.proofs.Places.{set_shown}
use Rattle.grant_table.proofs.Tagged.{tags_kept}
use Rattle.grant_table.proofs.grants.Grants.set_lifetime.Goals as goal

pub returns : goal.returns
returns c =
    let inside : c.args.place < length (map shown c.self.inside.held.items) = rw (← c.self.view_is) at c.requires in
    rw (← c.self.view_is)
    (set_shown c.self.inside.held.items c.args.place c.args.lifetime c.index_mut-grant.result.now c.set_lifetime.new.self
    (omega (arith, inside, length-map c.self.inside.held.items shown)) c.index_mut-grant.ensures.value c.set_lifetime.ensures)

pub invariant_of-self : goal.invariant_of-self
invariant_of-self c =
    let inside : c.args.place < length (map shown c.self.inside.held.items) = rw (← c.self.view_is) at c.requires in
    let same : held_tag c.set_lifetime.new.self ≡ held_tag c.index_mut-grant.result.now = ap (λ (g : Grant). flow_tag g.flow) c.set_lifetime.ensures in
    record {
      few = omega (arith, c.self.invariant.few, length-set c.self.inside.held.items c.args.place c.set_lifetime.new.self);
      room = c.self.invariant.room;
      tagged = c.self.invariant.tagged ∙ sym (tags_kept c.self.inside.held.items c.args.place c.index_mut-grant.result.now c.set_lifetime.new.self
          (omega (arith, inside, length-map c.self.inside.held.items shown)) c.index_mut-grant.ensures.value same);
      tags_room = c.self.invariant.tags_room;
    }
