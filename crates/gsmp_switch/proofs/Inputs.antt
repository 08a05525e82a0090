-- The inputs that have a branch, and what is left of them when the first of a port ends

use Rattle.std.proofs.Common.{◌≡◌, ◌<◌, ◌==◌, Bool, true, false, cond, not, ◌&&◌, ◌||◌, List, [], ◌∷◌, length, map, Option, Some, None, is_some, T, refl, sym, ap, subst, ◌∙◌, arith}
use Rattle.std.specs.Prelude.{find, filter}
use Rattle.std.specs.List.{list_any}
use Rattle.std.specs.declared.cmp.Ordering.{Ordering}
use Rattle.std.specs.declared.cmp.Ordering.TheVariants.{Less, Equal, Greater}
use Rattle.std.specs.Ordering.{eq_by_cmp, is_eq, is_lt}
use Rattle.std.specs.Cmp.{tied_itself}
use Rattle.std.specs.FinMap.Entries.{where_key, below_all, is_sorted, is_sorted-where_key}
use Rattle.std.specs.FinMap.{contains_key-keys, entries, entries-from_sorted, entries_sorted, get, keys, remove, same_entries_map}
use Rattle.net_types.specs.declared.node.PortNo.{PortNo}
use Rattle.net_types.specs.declared.channel.End.{End}
use Rattle.crossbar_model.specs.declared.branch.Branch.{Branch}
use Rattle.crossbar_model.specs.Channels.{end_cmp}
use Rattle.crossbar_model.specs.Crossbar.{Branches, first_on}
use Rattle.fabric.proofs.Channels.{end_cmp_total}
use Rattle.fabric.proofs.Maps.{keys-map_of, map_of, remove-map_of}
use Rattle.world_model.specs.Requests.{Changed, all_ended, deleted_all, branch_ended, ended_by, inputs_on}

pub left : (a b : Bool) → T (a && b) → T a
left true b h = tt
left false b h = absurd h

pub right : (a b : Bool) → T (a && b) → T b
right true b h = h
right false b h = absurd h

pub both_some : {A : Type 0} (x y : A) → ◌≡◌ {A = Option A} (Some x) (Some y) → x ≡ y
both_some x y h = cc h

abbrev pub Entries : Type 0
Entries = List (End × Branch)

abbrev pub inputs_of : Entries → List End
inputs_of es = map (λ e. e.0) es

-- without a key
abbrev pub without : End → Entries → Entries
without k es = where_key end_cmp (λ x. not (eq_by_cmp end_cmp k x)) es

not_equal : (r : Ordering) → T (is_lt r) → not (is_eq r) ≡ true
not_equal Less h = refl
not_equal Equal h = absurd h
not_equal Greater h = absurd h

-- a key that is below all
without_below : (k : End) (es : Entries) → T (below_all end_cmp k es) → without k es ≡ es
without_below k [] below = refl
without_below k (e ∷ es) below =
    ap (λ (b : Bool). cond b (e ∷ without k es) (without k es)) (not_equal (end_cmp k e.0) (left (is_lt (end_cmp k e.0)) (below_all end_cmp k es) below))
    ∙ ap (λ (xs : Entries). e ∷ xs) (without_below k es (right (is_lt (end_cmp k e.0)) (below_all end_cmp k es) below))

without_itself : (k : End) (v : Branch) (es : Entries) → T (is_sorted end_cmp ((k, v) ∷ es)) → without k ((k, v) ∷ es) ≡ es
without_itself k v es sorted =
    ap (λ (r : Ordering). cond (not (is_eq r)) ((k, v) ∷ without k es) (without k es)) (tied_itself end_cmp_total k)
    ∙ without_below k es (left (below_all end_cmp k es) (is_sorted end_cmp es) sorted)

-- the first key that passes a test, and those that pass it besides
next_by : (b : Bool) (test : End → Bool) (k : End) (v : Branch) (es : Entries) (input : End) → test k ≡ b → T (is_sorted end_cmp ((k, v) ∷ es)) → (find test (inputs_of es) ≡ Some input → filter test (inputs_of es) ≡ input ∷ filter test (inputs_of (without input es))) → cond b (Some k) (find test (inputs_of es)) ≡ Some input → cond b (k ∷ filter test (inputs_of es)) (filter test (inputs_of es)) ≡ input ∷ filter test (inputs_of (without input ((k, v) ∷ es)))
next_by true test k v es input passes sorted later h =
    let same : k ≡ input = both_some k input h in
    subst (λ (i : End). k ∷ filter test (inputs_of es) ≡ i ∷ filter test (inputs_of (without i ((k, v) ∷ es)))) same
    (ap (λ (xs : Entries). k ∷ filter test (inputs_of xs)) (sym (without_itself k v es sorted)))
next_by false test k v es input passes sorted later h =
    later h ∙ ap (λ (xs : List End). input ∷ xs) (skipped (not (eq_by_cmp end_cmp input k)))
  where
    skipped : (b : Bool) → filter test (inputs_of (without input es)) ≡ filter test (inputs_of (cond b ((k, v) ∷ without input es) (without input es)))
    skipped true = rw passes refl
    skipped false = refl

next_in : (test : End → Bool) (es : Entries) (input : End) → T (is_sorted end_cmp es) → find test (inputs_of es) ≡ Some input → filter test (inputs_of es) ≡ input ∷ filter test (inputs_of (without input es))
next_in test [] input sorted h = absurd (cc h)
next_in test (e ∷ es) input sorted h =
    next_by (test e.0) test e.0 e.1 es input refl sorted (next_in test es input (right _ _ sorted)) h

none_by : (b : Bool) (test : End → Bool) (e : End) (es : List End) → cond b (Some e) (find test es) ≡ None → (find test es ≡ None → filter test es ≡ []) → cond b (e ∷ filter test es) (filter test es) ≡ []
none_by true test e es h later = absurd (cc h)
none_by false test e es h later = later h

none_in : (test : End → Bool) (es : List End) → find test es ≡ None → filter test es ≡ []
none_in test [] h = refl
none_in test (e ∷ es) h = none_by (test e) test e es h (none_in test es)

either : (a b : Bool) → b ≡ true → (a || b) ≡ true
either true b h = refl
either false b h = h

found_by : (b : Bool) (test : End → Bool) (e : End) (es : List End) (input : End) → cond b (Some e) (find test es) ≡ Some input → (find test es ≡ Some input → list_any (eq_by_cmp end_cmp input) es ≡ true) → (eq_by_cmp end_cmp input e || list_any (eq_by_cmp end_cmp input) es) ≡ true
found_by true test e es input h later =
    subst (λ (i : End). (eq_by_cmp end_cmp i e || list_any (eq_by_cmp end_cmp i) es) ≡ true) (both_some e input h)
    (ap (λ (r : Ordering). is_eq r || list_any (eq_by_cmp end_cmp e) es) (tied_itself end_cmp_total e))
found_by false test e es input h later = either (eq_by_cmp end_cmp input e) _ (later h)

found_any : (test : End → Bool) (es : List End) (input : End) → find test es ≡ Some input → list_any (eq_by_cmp end_cmp input) es ≡ true
found_any test [] input h = absurd (cc h)
found_any test (e ∷ es) input h = found_by (test e) test e es input h (found_any test es input)

same_map_of : (m : Branches) → m ≡ map_of (entries m)
same_map_of m = same_entries_map m (map_of (entries m)) (sym (entries-from_sorted end_cmp (entries m) (entries_sorted m)))

pub keys_removed : (m : Branches) (k : End) → keys (remove m k) ≡ inputs_of (without k (entries m))
keys_removed m k =
    let after = is_sorted-where_key end_cmp (λ x. not (eq_by_cmp end_cmp k x)) (entries m) (entries_sorted m) in
    ap (λ (n : Branches). keys (remove n k)) (same_map_of m)
    ∙ ap (λ (n : Branches). keys n) (sym (remove-map_of (entries m) (without k (entries m)) k (entries_sorted m) after refl))
    ∙ keys-map_of (without k (entries m)) after

removed_by : (c : Changed) (input : End) (o : Option Branch) → is_some o ≡ true → (ended_by c input o).branches ≡ remove c.branches input
removed_by c input None h = absurd (cc h)
removed_by c input (Some b) h = refl

-- where the first input that passes a test ends, the others stay
pub keys_next : (test : End → Bool) (c : Changed) (input : End) → find test (keys c.branches) ≡ Some input → filter test (keys c.branches) ≡ input ∷ filter test (keys (branch_ended c input).branches)
keys_next test c input h =
    let present = contains_key-keys c.branches input ∙ found_any test (keys c.branches) input h in
    next_in test (entries c.branches) input (entries_sorted c.branches) h
    ∙ ap (λ (ks : List End). input ∷ filter test ks) (sym (ap (λ (m : Branches). keys m) (removed_by c input (get c.branches input) present) ∙ keys_removed c.branches input))

pub cleared_next : (c : Changed) (port : PortNo) (input : End) → first_on c.branches port ≡ Some input → deleted_all c port ≡ deleted_all (branch_ended c input) port
cleared_next c port input h = ap (all_ended c) (keys_next (λ e. e.port.0 == port.0) c input h)

pub cleared_none : (c : Changed) (port : PortNo) → first_on c.branches port ≡ None → deleted_all c port ≡ c
cleared_none c port h = ap (all_ended c) (none_in (λ e. e.port.0 == port.0) (keys c.branches) h)

pub fewer_inputs : (c : Changed) (port : PortNo) (input : End) → first_on c.branches port ≡ Some input → length (inputs_on (branch_ended c input).branches port) < length (inputs_on c.branches port)
fewer_inputs c port input h =
    let lengths = ap (λ (ks : List End). length ks) (keys_next (λ e. e.port.0 == port.0) c input h) in
    omega (arith, lengths)
