-- A map of branches by its list of entries.

use Rattle.std.proofs.Common.{◌≡◌, Bool, true, false, cond, not, List, map, Option, None, T, refl, sym, ap, ◌∙◌}
use Rattle.std.specs.Ordering.{eq_by_cmp, is_eq}
use Rattle.std.specs.Cmp.{alike_right, eq_by_cmp_equiv}
use Rattle.std.specs.FinMap.Entries.{find, where_key, is_sorted, find-where_key}
use Rattle.std.specs.FinMap as finite
use Rattle.net_types.specs.declared.channel.End.{End}
use Rattle.crossbar_model.specs.declared.branch.Branch.{Branch}
use Rattle.crossbar_model.specs.Channels.{end_cmp}
use Rattle.fabric.proofs.Channels.{end_cmp_total, end_cmp-IsAntisymmetric}

-- the map of a list of entries in order
abbrev pub map_of : List (End × Branch) → finite.FinMap end_cmp Branch
map_of es = finite.from_sorted es

get-map_of : (es : List (End × Branch)) (k : End) → T (is_sorted end_cmp es) → finite.get (map_of es) k ≡ find end_cmp k es
get-map_of es k sorted = finite.get-from_sorted end_cmp es k sorted

turned : {A : Type 0} (b : Bool) (x y : A) → cond (not b) x y ≡ cond b y x
turned true x y = refl
turned false x y = refl

pub remove-map_of : (es new : List (End × Branch)) (k : End) → T (is_sorted end_cmp es) → T (is_sorted end_cmp new) → where_key end_cmp (λ x. not (eq_by_cmp end_cmp k x)) es ≡ new → map_of new ≡ finite.remove (map_of es) k
remove-map_of es new k sorted after is =
    finite.same_map end_cmp_total end_cmp-IsAntisymmetric (map_of new) (finite.remove (map_of es) k)
    (λ q. get-map_of new q after ∙ ap (find end_cmp q) (sym is)
    ∙ find-where_key end_cmp (λ x. not (eq_by_cmp end_cmp k x)) q (λ x t. ap (λ r. not (is_eq r)) (sym (alike_right end_cmp_total q x k t))) es
    ∙ turned (eq_by_cmp end_cmp k q) (find end_cmp q es) None
    ∙ ap (λ b. cond b None (find end_cmp q es)) ((eq_by_cmp_equiv end_cmp_total).symm k q)
    ∙ ap (λ (x : Option Branch). cond (eq_by_cmp end_cmp q k) None x) (sym (get-map_of es q sorted))
    ∙ sym (finite.get-remove end_cmp_total (map_of es) k q))

pub keys-map_of : (es : List (End × Branch)) → T (is_sorted end_cmp es) → finite.keys (map_of es) ≡ map (λ e. e.0) es
keys-map_of es sorted = ap (map (λ (e : End × Branch). e.0)) (finite.entries-from_sorted end_cmp es sorted)
