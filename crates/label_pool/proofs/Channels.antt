-- the order of channels, and the channels that are left between two narrower ones

use Rattle.std.proofs.Common.{◌≡◌, ◌<◌, ◌≤◌, ◌⊎◌, true, false, refl, sym, ◌∙◌, arith, inl, inr}
use Rattle.std.specs.Prelude.{◌&&◌, ◌==◌, nat_lt, nat_le}
use Rattle.std.proofs.lemmas.Bool.{cases_Bool, cases_order, cases_lt, true≢false, or_cases, and_parts, and_from, ltb-true, leb-true, eqb-true, lt-ltb, le-leb, eq-eqb}
use Rattle.net_types.specs.declared.channel.Channel.{Channel}
use Rattle.branch_desk.specs.port_model.Setup.{channel_le, is_between}
use Rattle.branch_desk.specs.port_model.Reclaiming.{greater_of, lesser_of}

abbrev Le : Channel → Channel → Type 0
Le a b = (a.vpi < b.vpi) ⊎ ((a.vpi ≡ b.vpi) × (a.vci ≤ b.vci))

le_is : (a b : Channel) → channel_le a b ≡ true → Le a b
le_is a b e = elim (or_cases (nat_lt a.vpi b.vpi) (a.vpi == b.vpi && nat_le a.vci b.vci) e) [
  | inl below ↦ inl (ltb-true a.vpi b.vpi below)
  | inr level ↦ (let parts = and_parts (a.vpi == b.vpi) (nat_le a.vci b.vci) level in inr (eqb-true a.vpi b.vpi parts.0, leb-true a.vci b.vci parts.1))
]

le_from : (a b : Channel) → Le a b → channel_le a b ≡ true
le_from a b (inl below) = rw (lt-ltb a.vpi b.vpi below) refl
le_from a b (inr level) = elim (cases_Bool (nat_lt a.vpi b.vpi)) [
  | inl below ↦ rw below refl
  | inr other ↦ rw (other, eq-eqb a.vpi b.vpi level.0, le-leb a.vci b.vci level.1) refl
]

le_trans : (a b c : Channel) → Le a b → Le b c → Le a c
le_trans a b c (inl x) (inl y) = inl (omega arith)
le_trans a b c (inl x) (inr y) = inl (omega (arith, y.0))
le_trans a b c (inr x) (inl y) = inl (omega (arith, x.0))
le_trans a b c (inr x) (inr y) = inr (omega (arith, x.0, y.0), omega (arith, x.1, y.1))

le_total : (a b : Channel) → channel_le a b ≡ false → channel_le b a ≡ true
le_total a b under = le_from b a (elim (cases_order a.vpi b.vpi) [
  | inl same ↦ elim (cases_lt b.vci a.vci) [
    | inl below ↦ inr (sym same, omega arith)
    | inr above ↦ absurd (true≢false (sym (le_from a b (inr (same, above))) ∙ under))
  ]
  | inr other ↦ elim other [
    | inl below ↦ absurd (true≢false (sym (le_from a b (inl below)) ∙ under))
    | inr above ↦ inl above
  ]
])

-- what lies above the greater of two lies above the first, and so below the lesser
above_greater : (a b c : Channel) → channel_le (greater_of a b) c ≡ true → channel_le a c ≡ true
above_greater a b c is = elim (cases_Bool (channel_le a b)) [
  | inl it ↦ le_from a c (le_trans a b c (le_is a b it) (le_is b c (rw it at is)))
  | inr other ↦ rw other at is
]

below_lesser : (a b c : Channel) → channel_le c (lesser_of a b) ≡ true → channel_le c a ≡ true
below_lesser a b c is = elim (cases_Bool (channel_le a b)) [
  | inl it ↦ rw it at is
  | inr other ↦ le_from c a (le_trans c b a (le_is c b (rw other at is)) (le_is b a (le_total a b other)))
]

pub narrower : (from to from2 to2 c : Channel) → is_between from to c ≡ false → is_between (greater_of from from2) (lesser_of to to2) c ≡ false
narrower from to from2 to2 c outside = elim (cases_Bool (is_between (greater_of from from2) (lesser_of to to2) c)) [
  | inl it ↦ (
      let parts = and_parts (channel_le (greater_of from from2) c) (channel_le c (lesser_of to to2)) it in
      let old : is_between from to c ≡ true = and_from (channel_le from c) (channel_le c to) (above_greater from from2 c parts.0) (below_lesser to to2 c parts.1) in
      absurd (true≢false (sym old ∙ outside)))
  | inr none ↦ none
]
