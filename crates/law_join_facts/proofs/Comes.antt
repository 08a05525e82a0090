-- One join more, and one fewer.

use Rattle.std.proofs.Common.{◌≡◌, ℕ, ◌<◌, suc, zero, nat_eq, Bool, true, false, not, List, [], ◌∷◌, ◌++◌, filter, length, get_or, refl, sym, ap, subst, ◌∙◌, ◌⊎◌, ◌||◌, ◌&&◌, inl, inr, arith}
use Rattle.std.specs.List.{list_any, AllPairs}
use Rattle.std.proofs.lemmas.Bool.Decides.{nat_tests}
use Rattle.std.proofs.lemmas.List.Elements.{filter-append}
use Rattle.std.specs.declared.cmp.Ordering.TheVariants.{Less}
use Rattle.ordered_lists.specs.Ordered.{Every, InOrder}
use Rattle.ordered_lists.proofs.Every.{every_left, every_map}
use Rattle.ordered_lists.proofs.InOrder.{order_right, order_across}
use Rattle.keyed_lists.specs.Keyed.{entered, in_order}
use Rattle.net_types.specs.declared.channel.End.{End}
use Rattle.crossbar_model.specs.Channels.{end_cmp}
use Rattle.crossbar_model.specs.Crossbar.{same_end}
use Rattle.controller_joins.specs.world_model.Joins.{end_le}
use Rattle.controller_joins.specs.Joined.{AreInOrder}
use Rattle.controller_joins.specs.declared.places.Joined.{Joined}
use Rattle.controller_joins.proofs.Ends.{apart_below}
use Rattle.law_join_facts.proofs.Ordered.{Differ, each_unordered, filter_first, filter_in_order, filter_not, more_in_order, two_unordered}
use Rattle.law_join_facts.proofs.Ends.{end_both, end_further, end_total}

-- by their inputs
abbrev pub le : Joined → Joined → Bool
le a b = end_le a.input b.input

abbrev pub is_for : End → Joined → Bool
is_for input join = same_end join.input input

abbrev pub is_other : End → Joined → Bool
is_other input join = not (same_end join.input input)

abbrev pub Apart : Joined → Joined → Type 0
Apart a b = same_end a.input b.input ≡ false

total : (a b : Joined) → le a b ≡ false → le b a ≡ true
total a b = end_total a.input b.input

further : (a b c : Joined) → le a b ≡ true → le b c ≡ true → le a c ≡ true
further a b c = end_further a.input b.input c.input

pub same_turned : (a b : End) → same_end a b ≡ same_end b a
same_turned a b = (λ i. eq a.port.0 b.port.0 i && (eq a.channel.vpi b.channel.vpi i && eq a.channel.vci b.channel.vci i)) where
  eq : (x y : ℕ) → nat_eq x y ≡ nat_eq y x
  eq x y = grind (arith, nat_tests)

apart_turned : (a b : Joined) → Apart a b → Apart b a
apart_turned a b h = same_turned b.input a.input ∙ h

differ : (a b : Joined) → Apart a b → Differ le total further a b
differ a b h = by (le a b) refl (le b a) refl where
  by : (x : Bool) → le a b ≡ x → (y : Bool) → le b a ≡ y → (le a b ≡ false) ⊎ (le b a ≡ false)
  by false e y f = inl e
  by true e false f = inr f
  by true e true f = absurd (cc (sym h ∙ end_both a.input b.input e f))

-- the one list has a join more, wherever it stands
pub record OneMore (fewer more : List Joined) (join : Joined) : Type 0 where
  pub front : List Joined
  pub back : List Joined
  pub fewer_is : fewer ≡ front ++ back
  pub more_is : more ≡ front ++ join ∷ back

not_either : (a b : Bool) → (a || b) ≡ false → (a ≡ false) × (b ≡ false)
not_either true b h = absurd (cc h)
not_either false b h = (refl, h)

pub every_not : {A : Type 0} (p : A → Bool) (xs : List A) → list_any p xs ≡ false → Every (λ x. p x ≡ false) xs
every_not p [] h = tt
every_not p (x ∷ xs) h = (let both = not_either (p x) (list_any p xs) h in (both.0, every_not p xs both.1))

pub comes : (fewer more : List Joined) (join : Joined) → OneMore fewer more join → list_any (is_for join.input) (in_order le fewer) ≡ false → in_order le more ≡ entered le join (in_order le fewer)
comes fewer more join m none =
    let others : Every (λ x. same_end x.input join.input ≡ false) fewer = each_unordered le (λ x. same_end x.input join.input ≡ false) fewer (every_not (is_for join.input) (in_order le fewer) none) in
    let in_front : Every (λ x. same_end x.input join.input ≡ false) m.front = every_left (λ x. same_end x.input join.input ≡ false) m.front m.back (subst (Every (λ x. same_end x.input join.input ≡ false)) m.fewer_is others) in
    ap (in_order le) m.more_is
    ∙ more_in_order le total further m.front join m.back (every_map (λ x. same_end x.input join.input ≡ false) (λ x. Differ le total further x join) m.front (λ x h. differ x join h) in_front)
    ∙ ap (λ xs. entered le join (in_order le xs)) (sym m.fewer_is)

all_pass : (p : Joined → Bool) (xs : List Joined) → Every (λ x. p x ≡ true) xs → filter p xs ≡ xs
all_pass p [] h = refl
all_pass p (x ∷ xs) h = filter_first p x xs h.0 ∙ ap (λ ys. x ∷ ys) (all_pass p xs h.1)

end_itself : (e : End) → same_end e e ≡ true
end_itself e = (λ i. eq e.port.0 i && (eq e.channel.vpi i && eq e.channel.vci i)) where
  eq : (x : ℕ) → nat_eq x x ≡ true
  eq x = grind (arith, nat_tests)

pub goes : (fewer more : List Joined) (join : Joined) → OneMore fewer more join → InOrder Apart (in_order le more) → in_order le fewer ≡ filter (is_other join.input) (in_order le more)
goes fewer more join m apart =
    let all : InOrder Apart (m.front ++ join ∷ m.back) = subst (InOrder Apart) m.more_is (two_unordered le Apart apart_turned more apart) in
    let in_front : Every (λ x. Every (Apart x) (join ∷ m.back)) m.front = order_across Apart m.front (join ∷ m.back) all in
    let front_pass : Every (λ x. is_other join.input x ≡ true) m.front = every_map (λ x. Every (Apart x) (join ∷ m.back)) (λ x. is_other join.input x ≡ true) m.front (λ x h. ap not h.0) in_front in
    let behind : InOrder Apart (join ∷ m.back) = order_right Apart m.front (join ∷ m.back) all in
    let back_pass : Every (λ x. is_other join.input x ≡ true) m.back = every_map (Apart join) (λ x. is_other join.input x ≡ true) m.back (λ x h. ap not (same_turned x.input join.input ∙ h)) behind.0 in
    let left : filter (is_other join.input) (m.front ++ join ∷ m.back) ≡ m.front ++ m.back =
    filter-append (is_other join.input) m.front (join ∷ m.back)
    ∙ (λ i. all_pass (is_other join.input) m.front front_pass i ++ (filter_not (is_other join.input) join m.back (ap not (end_itself join.input)) ∙ all_pass (is_other join.input) m.back back_pass) i) in
    ap (in_order le) (m.fewer_is ∙ sym left ∙ ap (filter (is_other join.input)) (sym m.more_is)) ∙ sym (filter_in_order le total further (is_other join.input) more)

-- *The list that is kept* has no two of one input
pairs : (R : Joined → Joined → Type 0) (xs : List Joined) → AllPairs R xs → InOrder R xs
pairs R [] h = tt
pairs R (x ∷ xs) h = (first xs (λ j d low. h zero (suc j) d (omega arith) (omega (arith, low))), pairs R xs (λ i j d lt low. h (suc i) (suc j) d (omega (arith, lt)) (omega (arith, low)))) where
  first : (ys : List Joined) → ((j : ℕ) (d : Joined) → j < length ys → R x (get_or ys j d)) → Every (R x) ys
  first [] h = tt
  first (y ∷ ys) h = (h zero y (omega arith), first ys (λ j d low. h (suc j) d (omega (arith, low))))

order_to : (R S : Joined → Joined → Type 0) → ((a b : Joined) → R a b → S a b) → (xs : List Joined) → InOrder R xs → InOrder S xs
order_to R S f [] h = tt
order_to R S f (x ∷ xs) h = (every_map (R x) (S x) xs (f x) h.0, order_to R S f xs h.1)

pub kept_apart : (joins : List Joined) → AreInOrder joins → InOrder Apart joins
kept_apart joins order = order_to (λ a b. end_cmp a.input b.input ≡ Less) Apart (λ a b h. apart_below a.input b.input h) joins (pairs (λ a b. end_cmp a.input b.input ≡ Less) joins order.ascending)
