use Rattle.std.proofs.Common.{◌≡◌, true, false, ◌<◌, length, ap, arith}
use Rattle.std.proofs.lemmas.List.Quantifiers.{all_pairs_push}
use Rattle.std.proofs.lemmas.List.Elements.{All-push}
use Rattle.port_model.specs.Desk.{Standing}
use Rattle.port_model.specs.Requests.{request_input, withdraws}
use Rattle.branch_desk.specs.Requests.{deleted_of, has_function}
use Rattle.branch_desk.proofs.Keys.{keys-le, keys_push, none_passes}
use Rattle.branch_desk.proofs.requests.Requests.push.Goals as goal

pub insert-requires : goal.insert-requires
insert-requires c = omega (arith, keys-le request_input _ _ c.self.invariant.inputs, ap length c.self.view_is, c.requires.room)

pub insert-requires-2 : goal.insert-requires-2
insert-requires-2 c = omega (arith, keys-le deleted_of _ _ c.self.invariant.deletes, ap length c.self.view_is, c.requires.room)

pub invariant_of-self : goal.invariant_of-self
invariant_of-self c = record {
  rising = rw c.in-Ok.ensures.items (all_pairs_push (λ (a b : Standing). a.number < b.number) _ c.args.entry c.self.invariant.rising (rw (← c.self.view_is) at c.requires.last));
  apart = rw c.in-Ok.ensures.items (all_pairs_push (λ (a b : Standing). withdraws b.request a.request ≡ false) _ c.args.entry c.self.invariant.apart (λ k d w. none_passes (λ (s : Standing). withdraws c.args.entry.request s.request) _ k d (rw (← c.self.view_is) at c.requires.free) w));
  inputs = rw c.in-Ok.ensures.items (keys_push request_input _ c.args.entry _ _ c.self.invariant.inputs (rw (← c.input.ensures, ← c.number.ensures) c.insert.ensures));
  deletes = rw c.in-Ok.ensures.items (keys_push deleted_of _ c.args.entry _ _ c.self.invariant.deletes (rw (← c.deleted.ensures, ← c.number-2.ensures) c.insert-2.ensures));
  functions = rw c.in-Ok.ensures.items (All-push (λ (s : Standing). has_function s.request ≡ true) _ c.args.entry c.self.invariant.functions c.requires.function);
  most = omega (arith, c.in-Ok.ensures.len, ap length c.self.view_is, c.requires.room);
  room = omega (arith, c.in-Ok.ensures.capacity, c.self.invariant.room);
}
