-- The branches behind an input, for callers that take them one by one.

use Rattle.std.proofs.Common.{◌≡◌, Bool, true, false, cond, ◌&&◌, T, List, [], ◌∷◌, filter, map, Some, None, refl, sym, ap, subst, ◌∙◌}
use Rattle.std.specs.Prelude.{Option, find}
use Rattle.std.specs.FinMap.{entries}
use Rattle.std.specs.FinMap as finite
use Rattle.std.specs.FinMap.Entries.{below_all, is_sorted}
use Rattle.std.specs.Ordering.{is_lt, ordering_reverse}
use Rattle.std.specs.Cmp.{tied_itself}
use Rattle.std.specs.declared.cmp.Ordering.{Ordering}
use Rattle.std.specs.declared.cmp.Ordering.TheVariants.{Less, Equal, Greater}
use Rattle.net_types.specs.declared.channel.End.{End}
use Rattle.crossbar_model.specs.declared.branch.Branch.{Branch}
use Rattle.crossbar_model.specs.Channels.{end_cmp}
use Rattle.crossbar_model.specs.Crossbar.{Branches}
use Rattle.fabric.specs.Following.{branch_behind, branches_of, is_behind}
use Rattle.fabric.proofs.Channels.{end_cmp_total}

-- the branches whose inputs stand behind another, where there is one
abbrev pub branches_behind : Branches → (other : Option End) → List (End × End)
branches_behind m other = filter (λ b. is_behind other b.0) (branches_of m)

abbrev outputs : List (End × Branch) → List (End × End)
outputs es = map (λ e. (e.0, e.1.output)) es

abbrev behind : Option End → List (End × Branch) → List (End × End)
behind other es = filter (λ b. is_behind other b.0) (outputs es)

abbrev first_behind : Option End → List (End × Branch) → Option (End × End)
first_behind other es = find (λ b. is_behind other b.0) (outputs es)

first : (a b : Bool) → T (a && b) → a ≡ true
first true b t = refl
first false b t = absurd t

second : (a b : Bool) → T (a && b) → T b
second true b t = t
second false b t = absurd t

less : (o : Ordering) → is_lt o ≡ true → o ≡ Less
less Less h = refl
less Equal h = absurd (cc h)
less Greater h = absurd (cc h)

-- what stands behind an end stands behind each that the end stands behind
behind_both : (other : Option End) (e f : End) → is_behind other e ≡ true → is_lt (end_cmp e f) ≡ true → is_behind other f ≡ true
behind_both None e f h k = refl
behind_both (Some x) e f h k = ap is_lt (end_cmp_total.trans x e f (less (end_cmp x e) h) (less (end_cmp e f) k))

all_behind : (other : Option End) (e : End) (es : List (End × Branch)) → is_behind other e ≡ true → T (below_all end_cmp e es) → behind other es ≡ outputs es
all_behind other e [] h below = refl
all_behind other e (x ∷ es) h below =
    let here : is_behind other x.0 ≡ true = behind_both other e x.0 h (first (is_lt (end_cmp e x.0)) (below_all end_cmp e es) below) in
    let rest = all_behind other e es h (second (is_lt (end_cmp e x.0)) (below_all end_cmp e es) below) in
    ap (λ (t : Bool). cond t ((x.0, x.1.output) ∷ behind other es) (behind other es)) here ∙ ap (λ (bs : List (End × End)). (x.0, x.1.output) ∷ bs) rest

all_of : (e : End) (es : List (End × Branch)) → T (below_all end_cmp e es) → behind (Some e) es ≡ outputs es
all_of e [] below = refl
all_of e (x ∷ es) below =
    ap (λ (t : Bool). cond t ((x.0, x.1.output) ∷ behind (Some e) es) (behind (Some e) es)) (first (is_lt (end_cmp e x.0)) (below_all end_cmp e es) below)
    ∙ ap (λ (bs : List (End × End)). (x.0, x.1.output) ∷ bs) (all_of e es (second (is_lt (end_cmp e x.0)) (below_all end_cmp e es) below))

-- what is found stands behind an end that all stand behind
found_below : (other : Option End) (e : End) (b : End × End) (es : List (End × Branch)) → T (below_all end_cmp e es) → first_behind other es ≡ Some b → end_cmp e b.0 ≡ Less
found_below other e b [] below found = absurd (cc found)
found_below other e b (x ∷ es) below found = by (is_behind other x.0) refl (λ later. found_below other e b es (second (is_lt (end_cmp e x.0)) (below_all end_cmp e es) below) later)
  where
    by : (t : Bool) → is_behind other x.0 ≡ t → (first_behind other es ≡ Some b → end_cmp e b.0 ≡ Less) → end_cmp e b.0 ≡ Less
    by true h in_rest =
        let same : ◌≡◌ {A = Option (End × End)} (Some (x.0, x.1.output)) (Some b) =
        sym (ap (λ (t : Bool). cond t (Some (x.0, x.1.output)) (first_behind other es)) h) ∙ found in
        let is : x.0 ≡ b.0 = cc same in
        subst (λ (f : End). end_cmp e f ≡ Less) is (less (end_cmp e x.0) (first (is_lt (end_cmp e x.0)) (below_all end_cmp e es) below))
    by false h in_rest = in_rest (sym (ap (λ (t : Bool). cond t (Some (x.0, x.1.output)) (first_behind other es)) h) ∙ found)

not_behind : (e f : End) → end_cmp e f ≡ Less → is_lt (end_cmp f e) ≡ false
not_behind e f h = ap is_lt (end_cmp_total.antisymm f e ∙ ap ordering_reverse h)

next_of : (other : Option End) (b : End × End) (es : List (End × Branch)) → T (is_sorted end_cmp es) → first_behind other es ≡ Some b → behind other es ≡ b ∷ behind (Some b.0) es
next_of other b [] sorted found = absurd (cc found)
next_of other b (x ∷ es) sorted found = by (is_behind other x.0) refl (λ later. next_of other b es (second (below_all end_cmp x.0 es) (is_sorted end_cmp es) sorted) later)
  where
    below : T (below_all end_cmp x.0 es)
    below = subst T (sym (first (below_all end_cmp x.0 es) (is_sorted end_cmp es) sorted)) tt

    by : (t : Bool) → is_behind other x.0 ≡ t → (first_behind other es ≡ Some b → behind other es ≡ b ∷ behind (Some b.0) es) → behind other (x ∷ es) ≡ b ∷ behind (Some b.0) (x ∷ es)
    by true h in_rest =
        let same : ◌≡◌ {A = Option (End × End)} (Some (x.0, x.1.output)) (Some b) =
        sym (ap (λ (t : Bool). cond t (Some (x.0, x.1.output)) (first_behind other es)) h) ∙ found in
        let is : ◌≡◌ {A = End × End} (x.0, x.1.output) b = cc same in
        let here : behind (Some x.0) (x ∷ es) ≡ behind (Some x.0) es =
        ap (λ (t : Bool). cond t ((x.0, x.1.output) ∷ behind (Some x.0) es) (behind (Some x.0) es)) (ap is_lt (tied_itself end_cmp_total x.0)) in
        ap (λ (t : Bool). cond t ((x.0, x.1.output) ∷ behind other es) (behind other es)) h
        ∙ ap (λ (bs : List (End × End)). (x.0, x.1.output) ∷ bs) (all_behind other x.0 es h below ∙ sym (all_of x.0 es below) ∙ sym here)
        ∙ ap (λ (c : End × End). c ∷ behind (Some c.0) (x ∷ es)) is
    by false h in_rest =
        let later : first_behind other es ≡ Some b = sym (ap (λ (t : Bool). cond t (Some (x.0, x.1.output)) (first_behind other es)) h) ∙ found in
        let here : behind (Some b.0) (x ∷ es) ≡ behind (Some b.0) es =
        ap (λ (t : Bool). cond t ((x.0, x.1.output) ∷ behind (Some b.0) es) (behind (Some b.0) es)) (not_behind x.0 b.0 (found_below other x.0 b es below later)) in
        ap (λ (t : Bool). cond t ((x.0, x.1.output) ∷ behind other es) (behind other es)) h
        ∙ in_rest later ∙ ap (λ (bs : List (End × End)). b ∷ bs) (sym here)

nothing_of : (P : End × End → Bool) (bs : List (End × End)) → find P bs ≡ None → filter P bs ≡ []
nothing_of P [] none = refl
nothing_of P (b ∷ bs) none = by (P b) none (nothing_of P bs)
  where
    by : (t : Bool) → cond t (Some b) (find P bs) ≡ None → (find P bs ≡ None → filter P bs ≡ []) → cond t (b ∷ filter P bs) (filter P bs) ≡ []
    by true e rest = absurd (cc e)
    by false e rest = rest e

all_pass : (bs : List (End × End)) → filter (λ b. is_behind None b.0) bs ≡ bs
all_pass [] = refl
all_pass (b ∷ bs) = ap (λ (cs : List (End × End)). b ∷ cs) (all_pass bs)

pub behind_all : (m : Branches) → branches_behind m None ≡ branches_of m
behind_all m = all_pass (branches_of m)

pub behind_next : (m : Branches) (other : Option End) (b : End × End) → branch_behind m other ≡ Some b → branches_behind m other ≡ b ∷ branches_behind m (Some b.0)
behind_next m other b found = next_of other b (entries m) (finite.entries_sorted m) found

pub behind_end : (m : Branches) (other : Option End) → branch_behind m other ≡ None → branches_behind m other ≡ []
behind_end m other none = nothing_of (λ b. is_behind other b.0) (branches_of m) none
