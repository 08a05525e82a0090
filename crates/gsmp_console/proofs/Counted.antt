-- Branches are counted input by input

use Rattle.std.proofs.Common.{◌≡◌, ℕ, zero, suc, ◌+◌, ◌≤◌, Bool, true, false, cond, List, [], ◌∷◌, ◌++◌, map, ap, sym, ◌∙◌, refl, arith, zero-add, append_assoc}
use Rattle.std.specs.Prelude.{count_by, flat_map}
use Rattle.std.specs.List.{range_with_len}
use Rattle.std.proofs.lemmas.List.{map-append}
use Rattle.std.proofs.lemmas.List.Sums.{sum_by-append}
use Rattle.world_model.specs.Switch.{Switch}
use Rattle.console_model.specs.Lab.{has_branch, input_at, inputs_on, inputs_to}

range_push : (a n : ℕ) → range_with_len a (suc n) ≡ range_with_len a n ++ (a + n) ∷ []
range_push a zero = let e : a ≡ a + 0 = omega arith in ap (λ b. b ∷ []) e
range_push a (suc n) =
    let e : a + 1 + n ≡ a + suc n = omega arith in
    ap (λ xs. a ∷ xs) (range_push (a + 1) n ∙ ap (λ b. range_with_len (a + 1) n ++ b ∷ []) e)

nothing_behind : {X : Type 0} (xs : List X) → xs ++ [] ≡ xs
nothing_behind [] = refl
nothing_behind (x ∷ xs) = ap (λ ys. x ∷ ys) (nothing_behind xs)

flat_push : {X : Type 0} (g : ℕ → List X) (xs : List ℕ) (y : ℕ) → flat_map g (xs ++ y ∷ []) ≡ flat_map g xs ++ g y
flat_push g [] y = nothing_behind (g y)
flat_push g (x ∷ xs) y = ap (λ ys. g x ++ ys) (flat_push g xs y) ∙ sym (append_assoc (g x) (flat_map g xs) (g y))

count_append : {X : Type 0} (test : X → Bool) (xs ys : List X) → count_by test (xs ++ ys) ≡ count_by test xs + count_by test ys
count_append test xs ys = sum_by-append (λ x. cond (test x) 1 0) xs ys

counted_more : {X : Type 0} (test : X → Bool) (f : ℕ → X) (a n : ℕ)
    → count_by test (map f (range_with_len a (suc n))) ≡ count_by test (map f (range_with_len a n)) + cond (test (f (a + n))) 1 0
counted_more test f a n =
    ap (λ xs. count_by test (map f xs)) (range_push a n)
    ∙ ap (count_by test) (map-append f (range_with_len a n) ((a + n) ∷ []))
    ∙ count_append test (map f (range_with_len a n)) (f (a + n) ∷ [])
    ∙ ap (λ m. count_by test (map f (range_with_len a n)) + m) (zero-add (cond (test (f (a + n))) 1 0))

all_more : {X : Type 0} (test : X → Bool) (g : ℕ → List X) (a n : ℕ)
    → count_by test (flat_map g (range_with_len a (suc n))) ≡ count_by test (flat_map g (range_with_len a n)) + count_by test (g (a + n))
all_more test g a n =
    ap (λ xs. count_by test (flat_map g xs)) (range_push a n)
    ∙ ap (count_by test) (flat_push g (range_with_len a n) (a + n))
    ∙ count_append test (flat_map g (range_with_len a n)) (g (a + n))

-- one VCI more
pub one_more : (s : Switch) (port vci : ℕ)
    → count_by (has_branch s) (inputs_on (vci + 1) port) ≡ count_by (has_branch s) (inputs_on vci port) + cond (has_branch s (input_at port vci)) 1 0
unfolding inputs_on
one_more s port vci =
    let e : vci + 1 ≡ suc vci = omega arith in
    ap (λ n. count_by (has_branch s) (map (input_at port) (range_with_len 0 n))) e
    ∙ counted_more (has_branch s) (input_at port) 0 vci
    ∙ ap (λ n. count_by (has_branch s) (map (input_at port) (range_with_len 0 vci)) + cond (has_branch s (input_at port n)) 1 0) (zero-add vci)

pub none_on : (s : Switch) (port : ℕ) → count_by (has_branch s) (inputs_on 0 port) ≡ 0
unfolding inputs_on
none_on s port = refl

-- one port more
pub port_more : (s : Switch) (ports vcis : ℕ)
    → count_by (has_branch s) (inputs_to (ports + 1) vcis) ≡ count_by (has_branch s) (inputs_to ports vcis) + count_by (has_branch s) (inputs_on vcis (ports + 1))
unfolding inputs_to
port_more s ports vcis =
    let e : ports + 1 ≡ suc ports = omega arith in
    let f : 1 + ports ≡ ports + 1 = omega arith in
    ap (λ n. count_by (has_branch s) (flat_map (inputs_on vcis) (range_with_len 1 n))) e
    ∙ all_more (has_branch s) (inputs_on vcis) 1 ports
    ∙ ap (λ n. count_by (has_branch s) (flat_map (inputs_on vcis) (range_with_len 1 ports)) + count_by (has_branch s) (inputs_on vcis n)) f

pub none_to : (s : Switch) (vcis : ℕ) → count_by (has_branch s) (inputs_to 0 vcis) ≡ 0
unfolding inputs_to
none_to s vcis = refl

few_more : (b : Bool) (count n : ℕ) → count ≤ n → count + cond b 1 0 ≤ n + 1
few_more true count n h = omega arith
few_more false count n h = omega arith

-- what is counted of an input is 1 at most
pub few_on : (b : Bool) (count one n : ℕ) → one ≡ cond b 1 0 → count ≤ n → count + one ≤ n + 1
few_on b count one n is h = rw is (few_more b count n h)
