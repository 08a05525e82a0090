-- The order of ends is total.

use Rattle.std.proofs.Common.{◌≡◌, ℕ, ◌<◌, ◌==◌, nat_lt, nat_le, nat_eq, Bool, true, false, ◌||◌, ◌&&◌, refl, sym, ap, ◌∙◌, ◌⊎◌, inl, inr, arith}
use Rattle.std.proofs.lemmas.Bool.Decides.{nat_tests}
use Rattle.net_types.specs.declared.channel.End.{End}
use Rattle.crossbar_model.specs.Crossbar.{same_end}
use Rattle.controller_joins.specs.world_model.Joins.{end_le}

-- one level: its number, and then the rest
abbrev level : ℕ → ℕ → Bool → Bool
level x y rest = nat_lt x y || (x == y && rest)

level_low : (x y : ℕ) (rest : Bool) → x < y → level x y rest ≡ true
level_low x y rest lt = (let test : nat_lt x y ≡ true = grind (arith, nat_tests) in ap (λ (b : Bool). b || (x == y && rest)) test)

level_same : (x y : ℕ) (rest : Bool) → x ≡ y → rest ≡ true → level x y rest ≡ true
level_same x y rest same is = by (nat_lt x y) where
  equal : (x == y) ≡ true
  equal = grind (arith, nat_tests)

  by : (b : Bool) → (b || (x == y && rest)) ≡ true
  by true = refl
  by false = (λ i. equal i && is i)

level_is : (x y : ℕ) (rest : Bool) → level x y rest ≡ true → (x < y) ⊎ ((x ≡ y) × (rest ≡ true))
level_is x y rest h = by (nat_lt x y) (x == y) rest refl refl refl h where
  by : (lt eq r : Bool) → nat_lt x y ≡ lt → (x == y) ≡ eq → rest ≡ r → (lt || (eq && r)) ≡ true → (x < y) ⊎ ((x ≡ y) × (rest ≡ true))
  by true eq r p q s h = inl (grind (arith, nat_tests))
  by false true true p q s h = inr (grind (arith, nat_tests), s)
  by false true false p q s h = absurd (cc h)
  by false false r p q s h = absurd (cc h)

level_not : (x y : ℕ) (rest : Bool) → level x y rest ≡ false → (y < x) ⊎ ((x ≡ y) × (rest ≡ false))
level_not x y rest h = by (nat_lt x y) (x == y) rest refl refl refl h where
  by : (lt eq r : Bool) → nat_lt x y ≡ lt → (x == y) ≡ eq → rest ≡ r → (lt || (eq && r)) ≡ false → (y < x) ⊎ ((x ≡ y) × (rest ≡ false))
  by true eq r p q s h = absurd (cc h)
  by false true true p q s h = absurd (cc h)
  by false true false p q s h = inr (grind (arith, nat_tests), s)
  by false false r p q s h = inl (grind (arith, nat_tests))

level_further : (x y z : ℕ) (r s t : Bool) → (r ≡ true → s ≡ true → t ≡ true) → level x y r ≡ true → level y z s ≡ true → level x z t ≡ true
level_further x y z r s t rest p q = elim (level_is x y r p) [
  | inl lt ↦ elim (level_is y z s q) [
    | inl over ↦ level_low x z t (omega (arith, lt, over))
    | inr same ↦ level_low x z t (omega (arith, lt, same.0))
  ]
  | inr here ↦ elim (level_is y z s q) [
    | inl over ↦ level_low x z t (omega (arith, here.0, over))
    | inr same ↦ level_same x z t (here.0 ∙ same.0) (rest here.1 same.1)
  ]
]

level_total : (x y : ℕ) (r s : Bool) → (r ≡ false → s ≡ true) → level x y r ≡ false → level y x s ≡ true
level_total x y r s rest p = elim (level_not x y r p) [
  | inl lt ↦ level_low y x s lt
  | inr here ↦ level_same y x s (sym here.0) (rest here.1)
]

level_both : (x y : ℕ) (r s same : Bool) → (r ≡ true → s ≡ true → same ≡ true) → level x y r ≡ true → level y x s ≡ true → (nat_eq x y && same) ≡ true
level_both x y r s same rest p q = elim (level_is x y r p) [
  | inl lt ↦ elim (level_is y x s q) [
    | inl over ↦ absurd (omega (arith, lt, over))
    | inr here ↦ absurd (omega (arith, lt, here.0))
  ]
  | inr here ↦ elim (level_is y x s q) [
    | inl over ↦ absurd (omega (arith, here.0, over))
    | inr also ↦ (let equal : nat_eq x y ≡ true = is_equal x y here.0 in λ i. equal i && rest here.1 also.1 i)
  ]
] where
  is_equal : (a b : ℕ) → a ≡ b → nat_eq a b ≡ true
  is_equal a b e = grind (arith, nat_tests)

last_further : (x y z : ℕ) → nat_le x y ≡ true → nat_le y z ≡ true → nat_le x z ≡ true
last_further x y z p q = grind (arith, nat_tests)

last_total : (x y : ℕ) → nat_le x y ≡ false → nat_le y x ≡ true
last_total x y p = grind (arith, nat_tests)

last_both : (x y : ℕ) → nat_le x y ≡ true → nat_le y x ≡ true → nat_eq x y ≡ true
last_both x y p q = grind (arith, nat_tests)

pub end_further : (a b c : End) → end_le a b ≡ true → end_le b c ≡ true → end_le a c ≡ true
end_further a b c = level_further a.port.0 b.port.0 c.port.0 _ _ _ (level_further a.channel.vpi b.channel.vpi c.channel.vpi _ _ _ (last_further a.channel.vci b.channel.vci c.channel.vci))

pub end_total : (a b : End) → end_le a b ≡ false → end_le b a ≡ true
end_total a b = level_total a.port.0 b.port.0 _ _ (level_total a.channel.vpi b.channel.vpi _ _ (last_total a.channel.vci b.channel.vci))

pub end_both : (a b : End) → end_le a b ≡ true → end_le b a ≡ true → same_end a b ≡ true
end_both a b = level_both a.port.0 b.port.0 _ _ _ (level_both a.channel.vpi b.channel.vpi _ _ _ (last_both a.channel.vci b.channel.vci))
