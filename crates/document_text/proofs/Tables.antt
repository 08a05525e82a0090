-- what a table holds: its keys, and the texts at both

use Rattle.std.proofs.Common.{◌≡◌, ℕ, IsSome, subst, zero, suc, ◌+◌, ◌-◌, ◌≤◌, drop, slice_get, length-drop, arith, true, ◌&&◌, List, [], ◌∷◌, ◌++◌, Option, Some, None, option_map, string_bytes, refl, sym, ap, ◌∙◌, append-nil, append_assoc, length}
use Rattle.std.specs.Prelude.{codes}
use Rattle.std.proofs.lemmas.Option.{slice_get_past}
use Rattle.std.specs.List.{list_all}
use Rattle.std.specs.Map.{keys_of}
use Rattle.std.specs.Option.{option_and_then}
use Rattle.toml.specs.Data.{Data, Members, as_array, get_member}
use Rattle.toml.specs.View.{members_view}
use Rattle.toml.proofs.Views.{Entry}
use Rattle.script_model.specs.Documents.{strings, texts_at, count_at, is_key, has_keys_alone, lines_in}

-- the keys, one by one
pub keys_alone : (entries : List Entry) → list_all (λ key. is_key (string_bytes key)) (keys_of entries) ≡ has_keys_alone (members_view entries)
keys_alone [] = refl
keys_alone (entry ∷ entries) = ap (λ others. is_key (string_bytes entry.0) && others) (keys_alone entries)

-- the texts at three keys, one after another
three_keys : (one other last : Option (List (List ℕ))) (first second all : List (List ℕ)) → option_map (λ texts. [] ++ texts) one ≡ Some first
    → option_map (λ texts. first ++ texts) other ≡ Some second → option_map (λ texts. second ++ texts) last ≡ Some all
    → option_and_then (λ texts. option_map (λ more. texts ++ more) (option_and_then (λ texts. option_map (λ more. texts ++ more) (option_and_then (λ texts. option_map (λ more. texts ++ more) (Some [])) last)) other)) one
    ≡ Some all
three_keys None other last first second all a b c = cc
three_keys (Some x) None last first second all a b c = cc
three_keys (Some x) (Some y) None first second all a b c = cc
three_keys (Some x) (Some y) (Some z) first second all a b c =
    let same : x ≡ first = cc in
    let both : first ++ y ≡ second = cc in
    let whole : second ++ z ≡ all = cc in
    ap Some (rw (append-nil, ← append_assoc, same, both) whole)

-- where there are texts at each key, there are lines
all_some : {B : Type 0} (f : List (List ℕ) → B) (one other last : Option (List (List ℕ))) → IsSome one → IsSome other → IsSome last
    → IsSome (option_map f (option_and_then (λ texts. option_map (λ more. texts ++ more) (option_and_then (λ texts. option_map (λ more. texts ++ more) (option_and_then (λ texts. option_map (λ more. texts ++ more) (Some [])) last)) other)) one))
all_some f None other last a b c = absurd (cc a)
all_some f (Some x) None last a b c = absurd (cc b)
all_some f (Some x) (Some y) None a b c = absurd (cc c)
all_some f (Some x) (Some y) (Some z) a b c = refl

pub some_lines : (found : Members) (one other last : Option (List (List ℕ))) → has_keys_alone found ≡ true
    → one ≡ texts_at (codes "rules") found → other ≡ texts_at (codes "topology") found → last ≡ texts_at (codes "events") found
    → IsSome one → IsSome other → IsSome last → IsSome (lines_in found)
some_lines found one other last alone first second third a b c =
    rw alone
    (all_some (λ texts. record { rules = count_at (codes "rules") found; texts = texts }) (texts_at (codes "rules") found) (texts_at (codes "topology") found) (texts_at (codes "events") found)
    (subst IsSome first a) (subst IsSome second b) (subst IsSome third c))

-- where the texts at a key were found, so many there are, if it is there
pub counted : (key : List ℕ) (found : Members) (texts : List (List ℕ)) → texts_at key found ≡ Some texts → (o : Option Data) → get_member key found ≡ o
    → count_at key found ≡ option_map (λ (value : Data). length texts) o
counted key found texts at None e = rw e
counted key found texts at (Some value) e =
    let there : option_and_then strings (as_array value) ≡ Some texts = rw e at at in
    rw (e, there)

-- the lines of a table
pub lines_in-keys : (found : Members) (start first second all : List (List ℕ)) (rules : Option ℕ) → has_keys_alone found ≡ true → start ≡ []
    → option_map (λ texts. start ++ texts) (texts_at (codes "rules") found) ≡ Some first
    → rules ≡ count_at (codes "rules") found
    → option_map (λ texts. first ++ texts) (texts_at (codes "topology") found) ≡ Some second
    → option_map (λ texts. second ++ texts) (texts_at (codes "events") found) ≡ Some all
    → lines_in found ≡ Some (record { rules = rules; texts = all })
lines_in-keys found start first second all rules alone empty a count b c =
    let whole = three_keys (texts_at (codes "rules") found) (texts_at (codes "topology") found) (texts_at (codes "events") found) first second all (rw empty at a) b c in
    rw (alone, whole, count) refl

-- from nothing, the texts at a key are what was put
pub first_found : (found : Option (List (List ℕ))) (start first : List (List ℕ)) → start ≡ [] → option_map (λ texts. start ++ texts) found ≡ Some first → found ≡ Some first
first_found None start first empty put = cc
first_found (Some texts) start first empty put = ap (λ xs. Some (xs ++ texts)) (sym empty) ∙ put

-- *Behind so many*
drop_get : (n k : ℕ) (xs : List (List ℕ)) → slice_get (drop n xs) k ≡ slice_get xs (n + k)
drop_get zero k xs = ap (slice_get xs) (let same : k ≡ zero + k = omega arith in same)
drop_get (suc n) k [] = refl
drop_get (suc n) k (x ∷ xs) = drop_get n k xs ∙ ap (slice_get (x ∷ xs)) (let next : suc (n + k) ≡ suc n + k = omega arith in next)

pub line_behind : (texts : List (List ℕ)) (rules place count : ℕ) (found : Option (List ℕ)) → rules ≡ count → found ≡ slice_get texts (rules + place) → found ≡ slice_get (drop count texts) place
line_behind texts rules place count found same e = e ∙ (sym (drop_get rules place texts) ∙ ap (λ (n : ℕ). slice_get (drop n texts) place) same)

pub none_behind : (texts : List (List ℕ)) (rules place count : ℕ) → rules ≡ count → length texts - rules ≤ place → None ≡ slice_get (drop count texts) place
none_behind texts rules place count same high =
    let size : length (drop count texts) ≤ place = omega (arith, length-drop count texts, high, same) in
    sym (slice_get_past (drop count texts) place size)
