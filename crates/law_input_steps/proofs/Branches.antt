-- where an input leads after a request that succeeded, and after a restart of the switch

use Rattle.std.proofs.Common.{◌≡◌, ℕ, Bool, true, false, cond, not, ◌||◌, List, [], ◌∷◌, Option, None, Some, is_some, refl, sym, ◌∙◌, ap, subst, filter, arith, if◌then◌else◌}
use Rattle.std.specs.declared.cmp.Ordering.{Ordering}
use Rattle.std.specs.declared.cmp.Ordering.TheVariants.{Less, Equal, Greater}
use Rattle.std.specs.Ordering.{nat_cmp, ordering_then, eq_by_cmp, is_eq}
use Rattle.std.specs.Prelude.{◌==◌, ◌&&◌, find}
use Rattle.std.proofs.lemmas.Bool.Decides.{nat_tests}
use Rattle.std.specs.List.{list_any}
use Rattle.std.specs.Cmp.{IsTotalOrder, then_total, on_total, nat_cmp_total}
use Rattle.std.specs.FinMap as finite
use Rattle.std.specs.FinMap.{IsAntisymmetric, nat_cmp-IsAntisymmetric}
use Rattle.std.specs.Option.{option_map, option_map_or}
use Rattle.std.proofs.lemmas.Cmp.{tied_itself}
use Rattle.law_input_views.specs.world_model.Words.{End, PortNo, end_cmp, Branches, new_branch, same_end, Request, AddBranch, MoveBranch, DeleteTree, VerifyTree, PortManagement, Changed, added_by, moved_by, ended_by, all_ended, inputs_on, branches_after, is_busy, lacks_branch}
use Rattle.law_input_views.specs.ordered_lists.Ordered.{Every}
use Rattle.law_input_views.specs.world_model.crossbar_model.declared.branch.Branch.{Branch}
use Rattle.law_input_views.specs.world_model.crossbar_model.Crossbar.{output_of}
use Rattle.law_input_views.specs.world_model.gsmp_wire.declared.request.Request.TheVariants.{DeleteAll, AllPorts}
use Rattle.law_input_views.specs.world_model.Requests.{branch_ended, deleted_all}
use Rattle.law_input_views.specs.law_branch_line.Words as lines
use Rattle.law_input_views.specs.law_branch_line.Switch.{branch_after}
use Rattle.law_input_views.specs.Words.{word_of}
use Rattle.law_input_steps.proofs.Ends.{same_is, same_self, IsAsked, concerns, on_input, word_on, word_away}

-- *The order of ends* tells them apart
end_cmp_total : IsTotalOrder end_cmp
end_cmp_total =
    then_total (on_total (λ (e : End). e.port.0) nat_cmp_total) (then_total (on_total (λ (e : End). e.channel.vpi) nat_cmp_total) (on_total (λ (e : End). e.channel.vci) nat_cmp_total))

first_tied : (r s : Ordering) → ordering_then r s ≡ Equal → r ≡ Equal
first_tied Less s e = absurd (cc e)
first_tied Equal s e = refl
first_tied Greater s e = absurd (cc e)

then_tied : (r s : Ordering) → ordering_then r s ≡ Equal → s ≡ Equal
then_tied Less s e = absurd (cc e)
then_tied Equal s e = e
then_tied Greater s e = absurd (cc e)

end_cmp-IsAntisymmetric : IsAntisymmetric end_cmp
end_cmp-IsAntisymmetric x y e =
    let rest : ordering_then (nat_cmp x.channel.vpi y.channel.vpi) (nat_cmp x.channel.vci y.channel.vci) ≡ Equal = then_tied _ _ e in
    let ports = nat_cmp-IsAntisymmetric x.port.0 y.port.0 (first_tied _ _ e) in
    let paths = nat_cmp-IsAntisymmetric x.channel.vpi y.channel.vpi (first_tied _ _ rest) in
    let channels = nat_cmp-IsAntisymmetric x.channel.vci y.channel.vci (then_tied _ _ rest) in
    λ i. record { port = record { 0 = ports i }; channel = record { vpi = paths i; vci = channels i } }

is_equal : (r : Ordering) → is_eq r ≡ true → r ≡ Equal
is_equal Less h = absurd (cc h)
is_equal Equal h = refl
is_equal Greater h = absurd (cc h)

key_is : (a b : End) → eq_by_cmp end_cmp a b ≡ true → a ≡ b
key_is a b h = end_cmp-IsAntisymmetric a b (is_equal (end_cmp a b) h)

key_self : (a : End) → eq_by_cmp end_cmp a a ≡ true
key_self a = ap is_eq (tied_itself end_cmp_total a)

key_same : (a b : End) → eq_by_cmp end_cmp a b ≡ same_end a b
key_same a b = by (eq_by_cmp end_cmp a b) (same_end a b) refl refl
  where
    by : (s t : Bool) → eq_by_cmp end_cmp a b ≡ s → same_end a b ≡ t → s ≡ t
    by true true p q = refl
    by false false p q = refl
    by true false p q = absurd (cc (sym q ∙ subst (λ (z : End). same_end a z ≡ true) (key_is a b p) (same_self a)))
    by false true p q = absurd (cc (sym p ∙ subst (λ (z : End). eq_by_cmp end_cmp a z ≡ true) (same_is a b q) (key_self a)))

abbrev led : Option Branch → Option End
led found = option_map (λ (b : Branch). b.output) found

-- *One test in a list*
any_filtered : {A : Type 0} (test kept : A → Bool) (b : Bool) (xs : List A) → ((x : A) → test x ≡ true → kept x ≡ b) → list_any test (filter kept xs) ≡ (b && list_any test xs)
any_filtered test kept true [] f = refl
any_filtered test kept false [] f = refl
any_filtered test kept b (x ∷ xs) f = by (test x) (kept x) b refl refl (λ t. f x t) (any_filtered test kept b xs f)
  where
    by : (s k c : Bool) → test x ≡ s → kept x ≡ k → (s ≡ true → k ≡ c) → list_any test (filter kept xs) ≡ (c && list_any test xs)
        → list_any test (if k then x ∷ filter kept xs else filter kept xs) ≡ (c && (s || list_any test xs))
    by true true true p q g rest = ap (λ (t : Bool). t || list_any test (filter kept xs)) p
    by true false false p q g rest = rest
    by true true false p q g rest = absurd (cc (g refl))
    by true false true p q g rest = absurd (cc (g refl))
    by false true c p q g rest = ap (λ (t : Bool). t || list_any test (filter kept xs)) p ∙ rest
    by false false c p q g rest = rest

find_none : {A : Type 0} (test : A → Bool) (xs : List A) → find test xs ≡ None → Every (λ x. test x ≡ false) xs
find_none test [] h = tt
find_none test (x ∷ xs) h = elim (test x) as (λ t. test x ≡ t → (if t then Some x else find test xs) ≡ None → (test x ≡ false) × Every (λ y. test y ≡ false) xs) [
  | true ↦ λ t k. absurd (cc k)
  | false ↦ λ t k. (t, find_none test xs k)
] refl h

pub none_found : {A : Type 0} (test : A → Bool) (xs : List A) → find test xs ≡ None → Every (λ x. test x ≡ false) xs
none_found test xs h = find_none test xs h

module _ (e : End) where
  test_led : (b : Bool) (x y : Option Branch) → led (cond b x y) ≡ (if b then led x else led y)
  test_led true x y = refl
  test_led false x y = refl

  inserted : (m : Branches) (i o : End) → output_of (finite.insert m i (new_branch o)) e ≡ (if same_end e i then Some o else output_of m e)
  inserted m i o = ap led (finite.get-insert end_cmp_total m i (new_branch o) e)
      ∙ (ap (λ (t : Bool). led (cond t (Some (new_branch o)) (finite.get m e))) (key_same e i) ∙ test_led (same_end e i) (Some (new_branch o)) (finite.get m e))

  -- a branch that leads where another led
  pub kept_output : (m : Branches) (i : End) (b changed : Branch) → finite.get m i ≡ Some b → changed.output ≡ b.output → output_of (finite.insert m i changed) e ≡ output_of m e
  kept_output m i b changed is same = ap led (finite.get-insert end_cmp_total m i changed e)
      ∙ (ap (λ (t : Bool). led (cond t (Some changed) (finite.get m e))) (key_same e i) ∙ by (same_end e i) refl)
    where
      by : (t : Bool) → same_end e i ≡ t → led (cond t (Some changed) (finite.get m e)) ≡ output_of m e
      by true t = ap (λ (o : End). Some o) same ∙ sym (ap (output_of m) (same_is e i t) ∙ ap led is)
      by false t = refl

  removed : (m : Branches) (i : End) → output_of (finite.remove m i) e ≡ (if same_end e i then None else output_of m e)
  removed m i = ap led (finite.get-remove end_cmp_total m i e)
      ∙ (ap (λ (t : Bool). led (cond t None (finite.get m e))) (key_same e i) ∙ test_led (same_end e i) None (finite.get m e))

  found_here : (m : Branches) (i : End) → same_end e i ≡ true → output_of m e ≡ output_of m i
  found_here m i here = ap (output_of m) (same_is e i here)

  -- *Several end*
  ended_is : (c : Changed) (i : End) (found : Option Branch) → finite.get c.branches i ≡ found → output_of (ended_by c i found).branches e ≡ (if same_end e i then None else output_of c.branches e)
  ended_is c i None is = elim (same_end e i) as (λ t. same_end e i ≡ t → output_of c.branches e ≡ (if t then None else output_of c.branches e)) [
    | true ↦ λ t. found_here c.branches i t ∙ ap led is
    | false ↦ λ t. refl
  ] refl
  ended_is c i (Some b) is = removed c.branches i

  all_is : (c : Changed) (is : List End) → output_of (all_ended c is).branches e ≡ (if list_any (λ i. same_end e i) is then None else output_of c.branches e)
  all_is c [] = refl
  all_is c (i ∷ is) = all_is (branch_ended c i) is ∙ (ap (λ (o : Option End). if list_any (λ k. same_end e k) is then None else o) (ended_is c i (finite.get c.branches i) refl)
      ∙ by (same_end e i) (list_any (λ k. same_end e k) is))
    where
      by : (s t : Bool) → (if t then None else (if s then None else output_of c.branches e)) ≡ (if s || t then None else output_of c.branches e)
      by true true = refl
      by true false = refl
      by false true = refl
      by false false = refl

  any_key : (xs : List End) → list_any (eq_by_cmp end_cmp e) xs ≡ list_any (λ i. same_end e i) xs
  any_key [] = refl
  any_key (x ∷ xs) = λ k. key_same e x k || any_key xs k

  is_key : (m : Branches) → is_some (finite.get m e) ≡ list_any (λ i. same_end e i) (finite.keys m)
  is_key m = finite.contains_key-keys m e ∙ any_key (finite.keys m)

  gone : (m : Branches) (b : Bool) → (if b && is_some (finite.get m e) then None else output_of m e) ≡ (if b then None else output_of m e)
  gone m false = refl
  gone m true = by (finite.get m e)
    where
      by : (o : Option Branch) → (if is_some o then None else led o) ≡ None
      by None = refl
      by (Some b) = refl

  -- Delete All, and a restart
  cleared_is : (c : Changed) (port : PortNo) → output_of (deleted_all c port).branches e ≡ (if port.0 == e.port.0 then None else output_of c.branches e)
  cleared_is c port = all_is c (inputs_on c.branches port)
      ∙ (ap (λ (t : Bool). if t then None else output_of c.branches e)
      (any_filtered (λ i. same_end e i) (λ (i : End). i.port.0 == port.0) (port.0 == e.port.0) (finite.keys c.branches)
      (λ x t. subst (λ (z : End). (z.port.0 == port.0) ≡ (port.0 == e.port.0)) (same_is e x t) (turned e.port.0 port.0))
      ∙ ap (λ (t : Bool). (port.0 == e.port.0) && t) (sym (is_key c.branches)))
      ∙ gone c.branches (port.0 == e.port.0))
    where
      turned : (a b : ℕ) → (a == b) ≡ (b == a)
      turned a b = grind (arith, nat_tests)

  pub restarted_is : (c : Changed) → output_of (all_ended c (finite.keys c.branches)).branches e ≡ None
  restarted_is c = all_is c (finite.keys c.branches) ∙ (ap (λ (t : Bool). if t then None else output_of c.branches e) (sym (is_key c.branches)) ∙ gone c.branches true)

  -- *A request* that isn't refused
  same_if : (b : Bool) (x y z : Option End) → (b ≡ true → x ≡ y) → (b ≡ false → x ≡ z) → x ≡ (if b then y else z)
  same_if true x y z f g = f refl
  same_if false x y z f g = g refl

  added_is : (m : Branches) (i o : End) (found : Option Branch) → finite.get m i ≡ found → is_busy m (AddBranch i o) ≡ false
      → output_of (added_by m i o found) e ≡ (if same_end e i then Some o else output_of m e)
  added_is m i o None is busy = inserted m i o
  added_is m i o (Some b) is busy = same_if (same_end e i) (output_of m e) (Some o) (output_of m e)
      (λ t. found_here m i t ∙ (ap led is ∙ ap (λ (z : End). Some z) (same_is b.output o (held (same_end b.output o) (sym (ap (λ (f : Option Branch). option_map_or (λ other. not (same_end other o)) (led f) false) is) ∙ busy)))))
      (λ t. refl)
    where
      held : (b : Bool) → not b ≡ false → b ≡ true
      held true h = refl
      held false h = absurd (cc h)

  moved_is : (c : Changed) (i from to : End) (found : Option Branch) → finite.get c.branches i ≡ found → lacks_branch c.branches (MoveBranch i from to) ≡ false
      → output_of (moved_by c i to found).branches e ≡ (if same_end e i then Some to else output_of c.branches e)
  moved_is c i from to None is lacks = absurd (cc (sym (ap (λ (f : Option Branch). not (option_map_or (λ output. same_end output from || same_end output to) (led f) false)) is) ∙ lacks))
  moved_is c i from to (Some b) is lacks = by (same_end b.output to) refl
    where
      by : (t : Bool) → same_end b.output to ≡ t → output_of (if t then c.branches else finite.insert c.branches i (new_branch to)) e ≡ (if same_end e i then Some to else output_of c.branches e)
      by true t = same_if (same_end e i) (output_of c.branches e) (Some to) (output_of c.branches e)
          (λ s. found_here c.branches i s ∙ (ap led is ∙ ap (λ (z : End). Some z) (same_is b.output to t))) (λ s. refl)
      by false t = inserted c.branches i to

  by_word : (r : Request) (branch after : Option End) → after ≡ (if concerns e r then lines.asked_branch (on_input r) else branch) → after ≡ branch_after (word_of e r) branch
  by_word r branch after h = h ∙ by (concerns e r) refl
    where
      by : (t : Bool) → concerns e r ≡ t → (if t then lines.asked_branch (on_input r) else branch) ≡ branch_after (word_of e r) branch
      by true t = ap (λ (w : lines.Request). branch_after w branch) (sym (word_on e r t))
      by false t = ap (λ (w : lines.Request). branch_after w branch) (sym (word_away e r t))

  pub branch_is : (c : Changed) (r : Request) → IsAsked r → is_busy c.branches r ≡ false → lacks_branch c.branches r ≡ false
      → output_of (branches_after c r).branches e ≡ branch_after (word_of e r) (output_of c.branches e)
  branch_is c (AddBranch i o) shape busy lacks = by_word (AddBranch i o) (output_of c.branches e) _ (added_is c.branches i o (finite.get c.branches i) refl busy)
  branch_is c (MoveBranch i from to) shape busy lacks = by_word (MoveBranch i from to) (output_of c.branches e) _ (moved_is c i from to (finite.get c.branches i) refl lacks)
  branch_is c (DeleteTree i) shape busy lacks = by_word (DeleteTree i) (output_of c.branches e) _ (ended_is c i (finite.get c.branches i) refl)
  branch_is c (VerifyTree i) shape busy lacks = absurd shape
  branch_is c (DeleteAll port) shape busy lacks = by_word (DeleteAll port) (output_of c.branches e) _ (cleared_is c port)
  branch_is c (PortManagement port function) shape busy lacks = absurd shape
  branch_is c AllPorts shape busy lacks = refl
