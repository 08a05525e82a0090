use Rattle.std.proofs.Common.{◌≡◌, ◌==◌, not, filter, arith, rules}
use Rattle.std.proofs.lemmas.Fn.{filter_same}
use Rattle.controller_joins.specs.declared.places.Joined.{Joined}
use Rattle.controller_joins.proofs.Standing.{order_kept}
use Rattle.controller_joins.proofs.joins.Joins.end_to.Goals as goal

pub invariant_of-self : goal.invariant_of-self
invariant_of-self c =
    let kept : c.retain.new.self.items ≡ filter (λ (j : Joined). not (j.port.0 == c.args.port.0)) c.self.inside.list.items = filter_same _ _ _ (λ x b f' k. search rules) _ _ c.retain.ensures.filtered in
    record {
      order = rw kept (order_kept (λ j. not (j.port.0 == c.args.port.0)) c.self.inside.list.items c.self.invariant.order);
      room = omega (arith, c.retain.ensures.capacity, c.self.invariant.room);
    }

pub returns : goal.returns
returns c = rw (← c.self.view_is) (filter_same _ _ _ (λ x b f' k. search rules) _ _ c.retain.ensures.filtered)
