-- To clear all ports, one after the other, is to end all branches in ascending order of their inputs.

use Rattle.std.proofs.Common.{◌≡◌, ℕ, ◌+◌, ◌<◌, ◌≤◌, ◌==◌, Bool, true, false, cond, not, ◌&&◌, List, [], ◌∷◌, ◌++◌, Option, Some, None, T, refl, sym, ap, ◌∙◌, arith}
use Rattle.std.specs.Prelude.{filter, nat_le}
use Rattle.std.specs.List.{list_all}
use Rattle.std.specs.declared.cmp.Ordering.{Ordering}
use Rattle.std.specs.declared.cmp.Ordering.TheVariants.{Less, Equal, Greater}
use Rattle.std.specs.Ordering.{eq_by_cmp, is_eq, is_lt, nat_cmp, ordering_then}
use Rattle.std.specs.FinMap.{entries, entries_sorted, get, keys, nat_cmp-IsAntisymmetric}
use Rattle.std.specs.FinMap.Entries.{below_all, is_sorted}
use Rattle.std.proofs.lemmas.Bool.Decides.{nat_tests}
use Rattle.net_types.specs.declared.node.PortNo.{PortNo}
use Rattle.net_types.specs.declared.channel.End.{End}
use Rattle.crossbar_model.specs.declared.branch.Branch.{Branch}
use Rattle.crossbar_model.specs.Channels.{end_cmp}
use Rattle.crossbar_model.specs.Crossbar.{Branches}
use Rattle.fabric.proofs.Channels.{end_cmp-IsAntisymmetric}
use Rattle.world_model.specs.Requests.{Changed, all_ended, deleted_all, branch_ended, ended_by, inputs_on}
use Rattle.gsmp_switch.proofs.Inputs.{Entries, inputs_of, without, keys_removed, left, right}

abbrev is_from : ℕ → End → Bool
is_from p e = nat_le p e.port.0

abbrev is_on : ℕ → End → Bool
is_on p e = e.port.0 == p

-- the inputs on this port and those above it
abbrev pub inputs_from : ℕ → Branches → List End
inputs_from p m = filter (is_from p) (keys m)

nat_before : (x y : ℕ) → nat_cmp x y ≡ Less → x ≤ y
nat_before x y e = grind (arith, nat_tests, e)

port_by : (x y : ℕ) (r s : Ordering) → nat_cmp x y ≡ r → T (is_lt (ordering_then r s)) → x ≤ y
port_by x y Less s e h = nat_before x y e
port_by x y Equal s e h = let same = nat_cmp-IsAntisymmetric x y e in omega (arith, same)
port_by x y Greater s e h = absurd h

ports_rise : (k e : End) → T (is_lt (end_cmp k e)) → k.port.0 ≤ e.port.0
ports_rise k e h = port_by k.port.0 e.port.0 (nat_cmp k.port.0 e.port.0) _ refl h

-- above a key of a later port none is on this one
none_on : (p : ℕ) (k : End) (es : Entries) → p < k.port.0 → T (below_all end_cmp k es) → filter (is_on p) (inputs_of es) ≡ []
none_on p k [] later below = refl
none_on p k (e ∷ es) later below =
    let rise = ports_rise k e.0 (left (is_lt (end_cmp k e.0)) (below_all end_cmp k es) below) in
    let off : is_on p e.0 ≡ false = grind (arith, nat_tests, rise, later) in
    rw off (none_on p k es later (right (is_lt (end_cmp k e.0)) (below_all end_cmp k es) below))

split_by : (p : ℕ) (k : End) (es : Entries) (a b c : Bool) → is_from p k ≡ a → is_on p k ≡ b → is_from (p + 1) k ≡ c → T (below_all end_cmp k es) → filter (is_from p) (inputs_of es) ≡ filter (is_on p) (inputs_of es) ++ filter (is_from (p + 1)) (inputs_of es) → cond a (k ∷ filter (is_from p) (inputs_of es)) (filter (is_from p) (inputs_of es)) ≡ cond b (k ∷ filter (is_on p) (inputs_of es)) (filter (is_on p) (inputs_of es)) ++ cond c (k ∷ filter (is_from (p + 1)) (inputs_of es)) (filter (is_from (p + 1)) (inputs_of es))
split_by p k es true true false from on above below h = ap (λ (xs : List End). k ∷ xs) h
split_by p k es false false false from on above below h = h
split_by p k es true false true from on above below h =
    let later : p < k.port.0 = grind (arith, nat_tests, above) in
    let none = none_on p k es later below in
    rw none (ap (λ (xs : List End). k ∷ xs) (h ∙ ap (λ (xs : List End). xs ++ filter (is_from (p + 1)) (inputs_of es)) none))
split_by p k es true true true from on above below h = absurd (grind (arith, nat_tests, on, above))
split_by p k es true false false from on above below h = absurd (grind (arith, nat_tests, from, on, above))
split_by p k es false true c from on above below h = absurd (grind (arith, nat_tests, from, on))
split_by p k es false false true from on above below h = absurd (grind (arith, nat_tests, from, above))

split : (p : ℕ) (es : Entries) → T (is_sorted end_cmp es) → filter (is_from p) (inputs_of es) ≡ filter (is_on p) (inputs_of es) ++ filter (is_from (p + 1)) (inputs_of es)
split p [] sorted = refl
split p (e ∷ es) sorted =
    split_by p e.0 es (is_from p e.0) (is_on p e.0) (is_from (p + 1) e.0) refl refl refl (left (below_all end_cmp e.0 es) (is_sorted end_cmp es) sorted)
    (split p es (right (below_all end_cmp e.0 es) (is_sorted end_cmp es) sorted))

-- a key that a test doesn't pass makes no difference to those that it passes
kept_by : (test : End → Bool) (k : End) (e : End × Branch) (es : Entries) (b : Bool) → (b ≡ true → test e.0 ≡ false) → filter test (inputs_of (without k es)) ≡ filter test (inputs_of es) → filter test (inputs_of (cond (not b) (e ∷ without k es) (without k es))) ≡ cond (test e.0) (e.0 ∷ filter test (inputs_of es)) (filter test (inputs_of es))
kept_by test k e es true off h = rw (off refl) h
kept_by test k e es false off h = ap (λ (xs : List End). cond (test e.0) (e.0 ∷ xs) xs) h

kept : (test : End → Bool) (k : End) (es : Entries) → ((e : End) → eq_by_cmp end_cmp k e ≡ true → test e ≡ false) → filter test (inputs_of (without k es)) ≡ filter test (inputs_of es)
kept test k [] off = refl
kept test k (e ∷ es) off = kept_by test k e es (eq_by_cmp end_cmp k e.0) (off e.0) (kept test k es off)

equal_is : (r : Ordering) → is_eq r ≡ true → r ≡ Equal
equal_is Less h = absurd (cc h)
equal_is Equal h = refl
equal_is Greater h = absurd (cc h)

not_above : (p : ℕ) (k e : End) → k.port.0 ≡ p → eq_by_cmp end_cmp k e ≡ true → is_from (p + 1) e ≡ false
not_above p k e on tie =
    let same : k ≡ e = end_cmp-IsAntisymmetric k e (equal_is (end_cmp k e) tie) in
    let port : k.port.0 ≡ e.port.0 = ap (λ (x : End). x.port.0) same in
    grind (arith, nat_tests, port, on)

-- a branch of a port ends: the inputs above stay
above_by : (p : ℕ) (c : Changed) (input : End) (o : Option Branch) → input.port.0 ≡ p → inputs_from (p + 1) (ended_by c input o).branches ≡ inputs_from (p + 1) c.branches
above_by p c input None on = refl
above_by p c input (Some b) on =
    ap (filter (is_from (p + 1))) (keys_removed c.branches input)
    ∙ kept (is_from (p + 1)) input (entries c.branches) (λ e tie. not_above p input e on tie)

on_port : (p : ℕ) (e : End) → is_on p e ≡ true → e.port.0 ≡ p
on_port p e h = grind (arith, nat_tests, h)

above_stay_by : (p : ℕ) (c : Changed) (k : End) (ks : List End) (b : Bool) → is_on p k ≡ b → ((d : Changed) → inputs_from (p + 1) (all_ended d (filter (is_on p) ks)).branches ≡ inputs_from (p + 1) d.branches) → inputs_from (p + 1) (all_ended c (cond b (k ∷ filter (is_on p) ks) (filter (is_on p) ks))).branches ≡ inputs_from (p + 1) c.branches
above_stay_by p c k ks true on h = h (branch_ended c k) ∙ above_by p c k (get c.branches k) (on_port p k on)
above_stay_by p c k ks false on h = h c

above_stay : (p : ℕ) (c : Changed) (ks : List End) → inputs_from (p + 1) (all_ended c (filter (is_on p) ks)).branches ≡ inputs_from (p + 1) c.branches
above_stay p c [] = refl
above_stay p c (k ∷ ks) = above_stay_by p c k ks (is_on p k) refl (λ d. above_stay p d ks)

all_ended-append : (c : Changed) (xs ys : List End) → all_ended c (xs ++ ys) ≡ all_ended (all_ended c xs) ys
all_ended-append c [] ys = refl
all_ended-append c (x ∷ xs) ys = all_ended-append (branch_ended c x) xs ys

-- the inputs from a port on end: those of the port, and then those above
pub port_by_port : (c : Changed) (port : PortNo) → all_ended c (inputs_from port.0 c.branches) ≡ all_ended (deleted_all c port) (inputs_from (port.0 + 1) (deleted_all c port).branches)
port_by_port c port =
    ap (all_ended c) (split port.0 (entries c.branches) (entries_sorted c.branches))
    ∙ all_ended-append c (inputs_on c.branches port) (inputs_from (port.0 + 1) c.branches)
    ∙ ap (all_ended (deleted_all c port)) (sym (above_stay port.0 c (keys c.branches)))

all_from : (ks : List End) → filter (is_from 0) ks ≡ ks
all_from [] = refl
all_from (k ∷ ks) =
    let first : is_from 0 k ≡ true = grind (arith, nat_tests) in
    rw first (ap (λ (xs : List End). k ∷ xs) (all_from ks))

pub from_all : (m : Branches) → inputs_from 0 m ≡ keys m
from_all m = all_from (keys m)

none_by : (k : End) (a : Bool) (ks : List End) → (nat_le k.port.0 8 && a) ≡ true → (nat_le k.port.0 8 ≡ true) × (a ≡ true)
none_by k a ks h = grind (arith, h)

none_from : (ks : List End) → list_all (λ input. nat_le input.port.0 8) ks ≡ true → filter (is_from 9) ks ≡ []
none_from [] h = refl
none_from (k ∷ ks) h =
    let both = none_by k _ ks h in
    let off : is_from 9 k ≡ false = grind (arith, nat_tests, both.0) in
    rw off (none_from ks both.1)

pub from_none : (m : Branches) → list_all (λ input. nat_le input.port.0 8) (keys m) ≡ true → inputs_from 9 m ≡ []
from_none m h = none_from (keys m) h

-- when no port is left, all branches have ended
pub all_are_ended : (c d : Changed) (n : ℕ) (ks : List End) → n ≡ 9 → list_all (λ input. nat_le input.port.0 8) (keys c.branches) ≡ true → all_ended c (inputs_from n c.branches) ≡ all_ended d ks → c ≡ all_ended d ks
all_are_ended c d n ks last within h =
    ap (all_ended c) (sym (ap (λ (p : ℕ). inputs_from p c.branches) last ∙ from_none c.branches within)) ∙ h
