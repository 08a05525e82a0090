use Rattle.std.proofs.Common.{◌∙◌, ◌<◌, ℕ, List, length, map, sym, ap, arith}
use Rattle.std.specs.List.{remove}
use Rattle.std.proofs.lemmas.List.{length-map}
use Rattle.std.proofs.lemmas.List.Edits.{length-remove}
use Rattle.grant_table.specs.Held.{shown}
use Rattle.grant_table.specs.Tags.{held_tag}
use Rattle.grant_table.proofs.Places.{map_remove}
use Rattle.grant_table.proofs.Tagged.{got, tags_removed}
use Rattle.grant_table.proofs.grants.Grants.take_out.Goals as goal

pub returns-clause-rest : goal.returns-clause-rest
returns-clause-rest c = rw (c.remove-2.ensures.items, ← c.self.view_is) (map_remove c.self.inside.held.items c.args.place)

pub returns-clause-grant : goal.returns-clause-grant
returns-clause-grant c =
    let inside : c.args.place < length (map shown c.self.inside.held.items) = rw (← c.self.view_is) at c.requires in
    rw (← c.self.view_is) (got c.self.inside.held.items c.args.place c.remove-2.result (omega (arith, inside, length-map c.self.inside.held.items shown)) c.remove-2.ensures.value)

pub invariant_of-self : goal.invariant_of-self
invariant_of-self c =
    let inside : c.args.place < length (map shown c.self.inside.held.items) = rw (← c.self.view_is) at c.requires in
    let within : c.args.place < length c.self.inside.held.items = omega (arith, inside, length-map c.self.inside.held.items shown) in
    record {
      few = rw c.remove-2.ensures.items (omega (arith, c.self.invariant.few, length-remove c.self.inside.held.items c.args.place within));
      room = omega (arith, c.self.invariant.room, c.remove-2.ensures.capacity);
      tagged = c.remove.ensures.items ∙ (ap (λ (ts : List ℕ). remove ts c.args.place) c.self.invariant.tagged
          ∙ sym (ap (map held_tag) c.remove-2.ensures.items ∙ tags_removed c.self.inside.held.items c.args.place));
      tags_room = omega (arith, c.self.invariant.tags_room, c.remove.ensures.capacity);
    }
