use Rattle.std.proofs.Common.{◌≡◌, true, false, ◌<◌, ◌∙◌, ap, sym, arith}
use Rattle.std.proofs.lemmas.List.Quantifiers.{all_pairs_remove}
use Rattle.std.proofs.lemmas.List.Elements.{All-tail}
use Rattle.std.proofs.lemmas.List.Sorted.{All-permutation, IsPermutation-remove}
use Rattle.port_model.specs.Desk.{Standing}
use Rattle.port_model.specs.Requests.{request_input, withdraws}
use Rattle.branch_desk.specs.Requests.{deleted_of, has_function}
use Rattle.branch_desk.specs.ByEnd.{IsUnder}
use Rattle.branch_desk.proofs.Numbers.{has, none_left, left_at}
use Rattle.branch_desk.proofs.Apart.{apart_deletes, apart_inputs}
use Rattle.branch_desk.proofs.Keys.{key_alone, key_there, keys_remove}
use Rattle.branch_desk.proofs.requests.Requests.remove.Goals as goal

pub returns-in_default : goal.returns-in_default
returns-in_default c = sym (rw (← c.self.view_is, ← c.deref.ensures.value) (none_left (has c.args.number) c.deref.result.now c.in_default.ensures.absent))

pub remove-requires : goal.remove-requires
remove-requires c =
    let under : IsUnder c.args.number c.self.inside.entries.items c.in-Some.place = rw (← c.deref.ensures.value) c.in-Some.ensures.found in
    let number : c.remove-entry.result.number ≡ c.args.number = ap (λ (s : Standing). s.number) c.remove-entry.ensures.value ∙ under.here c.remove-entry.result in
    record {
      there = rw c.input.ensures (key_there request_input _ c.in-Some.place c.remove-entry.result _ under.within c.remove-entry.ensures.value c.self.invariant.inputs);
      alone = rw (c.input.ensures, ← number) (key_alone request_input _ c.in-Some.place c.remove-entry.result _ under.within c.remove-entry.ensures.value c.self.invariant.inputs (apart_inputs _ c.self.invariant.apart));
    }

pub remove-requires-2 : goal.remove-requires-2
remove-requires-2 c =
    let under : IsUnder c.args.number c.self.inside.entries.items c.in-Some.place = rw (← c.deref.ensures.value) c.in-Some.ensures.found in
    let number : c.remove-entry.result.number ≡ c.args.number = ap (λ (s : Standing). s.number) c.remove-entry.ensures.value ∙ under.here c.remove-entry.result in
    record {
      there = rw c.deleted.ensures (key_there deleted_of _ c.in-Some.place c.remove-entry.result _ under.within c.remove-entry.ensures.value c.self.invariant.deletes);
      alone = rw (c.deleted.ensures, ← number) (key_alone deleted_of _ c.in-Some.place c.remove-entry.result _ under.within c.remove-entry.ensures.value c.self.invariant.deletes (apart_deletes _ c.self.invariant.apart));
    }

pub invariant_of-self : goal.invariant_of-self
invariant_of-self c =
    let under : IsUnder c.args.number c.self.inside.entries.items c.in-Some.place = rw (← c.deref.ensures.value) c.in-Some.ensures.found in
    let number : c.remove-entry.result.number ≡ c.args.number = ap (λ (s : Standing). s.number) c.remove-entry.ensures.value ∙ under.here c.remove-entry.result in
    record {
      rising = rw c.remove-entry.ensures.items (all_pairs_remove (λ (a b : Standing). a.number < b.number) _ c.in-Some.place under.within c.self.invariant.rising);
      apart = rw c.remove-entry.ensures.items (all_pairs_remove (λ (a b : Standing). withdraws b.request a.request ≡ false) _ c.in-Some.place under.within c.self.invariant.apart);
      inputs = rw c.remove-entry.ensures.items (keys_remove request_input _ c.in-Some.place c.remove-entry.result _ _ under.within c.remove-entry.ensures.value c.self.invariant.inputs (rw (c.input.ensures, ← number) at c.remove.ensures));
      deletes = rw c.remove-entry.ensures.items (keys_remove deleted_of _ c.in-Some.place c.remove-entry.result _ _ under.within c.remove-entry.ensures.value c.self.invariant.deletes (rw (c.deleted.ensures, ← number) at c.remove-2.ensures));
      functions =
          rw c.remove-entry.ensures.items
          (All-tail (λ (s : Standing). has_function s.request ≡ true) c.remove-entry.result _
          (All-permutation (λ (s : Standing). has_function s.request ≡ true) _ _ (IsPermutation-remove _ c.in-Some.place c.remove-entry.result under.within c.remove-entry.ensures.value) c.self.invariant.functions));
      most = omega (arith, c.remove-entry.ensures.len, c.self.invariant.most);
      room = omega (arith, c.remove-entry.ensures.capacity, c.self.invariant.room);
    }

pub returns : goal.returns
returns c =
    let under : IsUnder c.args.number c.self.inside.entries.items c.in-Some.place = rw (← c.deref.ensures.value) c.in-Some.ensures.found in
    c.remove-entry.ensures.items
    ∙ sym (rw (← c.self.view_is) (left_at c.args.number _ c.in-Some.place c.remove-entry.result c.self.invariant.rising under.within (under.here c.remove-entry.result)))
