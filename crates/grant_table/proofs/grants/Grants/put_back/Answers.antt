use Rattle.std.proofs.Common.{◌∙◌, ◌<◌, ℕ, List, length, map, sym, ap, arith}
use Rattle.std.specs.List.{insert}
use Rattle.std.proofs.lemmas.List.{length-map}
use Rattle.grant_table.specs.Held.{shown}
use Rattle.grant_table.specs.Tags.{flow_tag, held_tag}
use Rattle.grant_table.proofs.Places.{map_insert}
use Rattle.grant_table.proofs.Tagged.{tags_inserted}
use Rattle.grant_table.proofs.grants.Grants.put_back.Goals as goal

pub returns : goal.returns
returns c = rw (c.in-Ok-inserted.ensures.items, ← c.self.view_is) (map_insert c.self.inside.held.items c.args.place c.args.grant)

pub invariant_of-self : goal.invariant_of-self
invariant_of-self c =
    let room : length (map shown c.self.inside.held.items) < 256 = rw (← c.self.view_is) at c.requires.room in
    record {
      few = omega (arith, room, length-map c.self.inside.held.items shown, c.in-Ok-inserted.ensures.len);
      room = omega (arith, c.self.invariant.room, c.in-Ok-inserted.ensures.capacity);
      tagged = c.in-Ok.ensures.items ∙ (ap (λ (ts : List ℕ). insert ts c.args.place c.flow_tag.result) c.self.invariant.tagged
          ∙ (ap (λ (n : ℕ). insert (map held_tag c.self.inside.held.items) c.args.place n) (c.flow_tag.ensures ∙ ap flow_tag c.flow.ensures)
          ∙ sym (ap (map held_tag) c.in-Ok-inserted.ensures.items ∙ tags_inserted c.self.inside.held.items c.args.place c.args.grant)));
      tags_room = omega (arith, c.self.invariant.tags_room, c.in-Ok.ensures.capacity);
    }
