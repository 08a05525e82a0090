-- The order of ends: what it tells of one end, and of the order that a controller keeps.

use Rattle.std.proofs.Common.{◌≡◌, ◌≢◌, ℕ, ◌==◌, nat_lt, nat_le, Bool, true, false, ◌||◌, ◌&&◌, cond, refl, sym, ap, ◌∙◌, arith}
use Rattle.std.proofs.lemmas.Bool.Decides.{nat_tests}
use Rattle.std.specs.declared.cmp.Ordering.{Ordering}
use Rattle.std.specs.declared.cmp.Ordering.TheVariants.{Less, Equal, Greater}
use Rattle.std.specs.Ordering.{nat_cmp, ordering_then, ordering_reverse}
use Rattle.std.specs.Cmp.{tied_itself}
use Rattle.net_types.specs.declared.channel.End.{End}
use Rattle.crossbar_model.specs.Channels.{end_cmp}
use Rattle.crossbar_model.specs.Crossbar.{same_end}
use Rattle.world_model.specs.Joins.{end_le}
use Rattle.branch_desk.proofs.Ends.{end_cmp_total, end_from_same}

-- *The order of ends*
tied : (e : End) → end_cmp e e ≡ Equal
tied e = tied_itself end_cmp_total e

apart : (a b : End) (order : Ordering) → end_cmp a b ≡ order → order ≢ Equal → same_end a b ≡ false
apart a b order is differs = by (same_end a b) refl where
  by : (same : Bool) → same_end a b ≡ same → same ≡ false
  by false e = refl
  by true e = absurd (differs (sym is ∙ ap (λ x. end_cmp x b) (end_from_same a b e) ∙ tied b))

pub apart_below : (a b : End) → end_cmp a b ≡ Less → same_end a b ≡ false
apart_below a b h = apart a b Less h (λ e. absurd (cc e))

pub apart_above : (a b : End) → end_cmp a b ≡ Greater → same_end a b ≡ false
apart_above a b h = apart a b Greater h (λ e. absurd (cc e))

turned : (a b : End) (order : Ordering) → end_cmp a b ≡ order → end_cmp b a ≡ ordering_reverse order
turned a b order h = end_cmp_total.antisymm b a ∙ ap ordering_reverse h

-- one level of the order: its number, and then the rest
less_level : (x y : ℕ) (rest : Ordering) (le : Bool) → (rest ≡ Less → le ≡ false) → ordering_then (nat_cmp x y) rest ≡ Less → (nat_lt y x || (y == x && le)) ≡ false
less_level x y rest le below h = by (nat_lt x y) (x == y) (nat_lt y x) (y == x) refl refl refl refl h where
  by : (lt eq gt eq' : Bool) → nat_lt x y ≡ lt → (x == y) ≡ eq → nat_lt y x ≡ gt → (y == x) ≡ eq' → ordering_then (cond lt Less (cond eq Equal Greater)) rest ≡ Less → (gt || (eq' && le)) ≡ false
  by true eq false false p q r s h = refl
  by true eq true eq' p q r s h = grind (arith, nat_tests)
  by true eq false true p q r s h = grind (arith, nat_tests)
  by false true false false p q r s h = refl
  by false true false true p q r s h = below h
  by false true true eq' p q r s h = grind (arith, nat_tests)
  by false false gt eq' p q r s h = absurd (cc h)

greater_level : (x y : ℕ) (rest : Ordering) (le : Bool) → (rest ≡ Greater → le ≡ true) → ordering_then (nat_cmp x y) rest ≡ Greater → (nat_lt y x || (y == x && le)) ≡ true
greater_level x y rest le above h = by (nat_lt x y) (x == y) (nat_lt y x) (y == x) refl refl refl refl h where
  by : (lt eq gt eq' : Bool) → nat_lt x y ≡ lt → (x == y) ≡ eq → nat_lt y x ≡ gt → (y == x) ≡ eq' → ordering_then (cond lt Less (cond eq Equal Greater)) rest ≡ Greater → (gt || (eq' && le)) ≡ true
  by true eq gt eq' p q r s h = absurd (cc h)
  by false true true eq' p q r s h = refl
  by false true false true p q r s h = above h
  by false true false false p q r s h = grind (arith, nat_tests)
  by false false true eq' p q r s h = refl
  by false false false eq' p q r s h = grind (arith, nat_tests)

last_less : (x y : ℕ) → nat_cmp x y ≡ Less → nat_le y x ≡ false
last_less x y h = grind (arith, nat_tests)

last_greater : (x y : ℕ) → nat_cmp x y ≡ Greater → nat_le y x ≡ true
last_greater x y h = grind (arith, nat_tests)

pub not_le_below : (a b : End) → end_cmp a b ≡ Less → end_le b a ≡ false
not_le_below a b h =
    less_level a.port.0 b.port.0 _ _ (less_level a.channel.vpi b.channel.vpi _ _ (last_less a.channel.vci b.channel.vci)) h

pub le_above : (a b : End) → end_cmp a b ≡ Greater → end_le b a ≡ true
le_above a b h =
    greater_level a.port.0 b.port.0 _ _ (greater_level a.channel.vpi b.channel.vpi _ _ (last_greater a.channel.vci b.channel.vci)) h
