-- Joins whose flows have another route after a change.

use Rattle.std.proofs.Common.{◌≡◌, ℕ, suc, ◌+◌, Bool, true, false, not, List, [], ◌∷◌, filter, fold, drop, map, Some, None, refl, sym, ap, subst, ◌∙◌, arith, ◌&&◌, ◌||◌, inl, inr, if◌then◌else◌}
use Rattle.std.specs.Prelude.{slice_get}
use Rattle.std.specs.List.{list_any}
use Rattle.std.specs.Option.{option_map}
use Rattle.ipv4_forward.specs.declared.change.RouteChange.{RouteChange}
use Rattle.ipv4_forward.specs.declared.table.Route.{Route}
use Rattle.ordered_lists.specs.Ordered.{Every}
use Rattle.keyed_lists.specs.Keyed.{at}
use Rattle.grant_table.specs.Table.{Table, grant_of, view_of}
use Rattle.grant_table.specs.declared.table.GrantView.{GrantView}
use Rattle.port_model.specs.Grants.{Grant, grant_label}
use Rattle.controller_joins.specs.world_model.Controller.{Acted, Controller, Linked, linked_at, port_key}
use Rattle.controller_joins.specs.world_model.Changes.{begins_change, changed_joins, is_changed, may_take, takes_change, takes_changes, takes_each, takes_join_back}
use Rattle.controller_joins.specs.world_model.Joins.{Join, joins_of, output_joined}
use Rattle.controller_joins.specs.Joined.{joined_of}
use Rattle.controller_joins.specs.declared.places.Joined.{Joined}
use Rattle.law_join_facts.proofs.Changing.{Asked, At, Same, asked_itself, asked_onward, at_place, closed_takes, every_drop, takes_back_asked}
use Rattle.law_join_facts.proofs.Ordered.{filter_first, filter_not}
use Rattle.law_join_facts.proofs.Lasts.{AreDifferent, differ_after, stands, takes_back_lasts}
use Rattle.controller_router.specs.Conditions.{CanTakeBack}
use Rattle.controller_joining.specs.Conditions.{CanBeginChange, CanTakeChanges, EachCanBeTaken, EachCanBeTakenBack, HasGrants, IsGrantOf}

some_list : (x y : List Grant) → Some x ≡ Some y → x ≡ y
some_list x y e = cc e

-- the grant that is read is the join's
pub grant_is : (c : Controller) (joined : Joined) (join : Join) (t : Table) → IsGrantOf c join → joined_of join ≡ joined → option_map (λ (l : Linked). l.port.grants) (linked_at c joined.port) ≡ Some t.grants → grant_of t joined.label ≡ Some join.grant
grant_is c joined join t g is lends =
    let here : option_map (λ (l : Linked). l.port.grants) (linked_at c joined.port) ≡ Some g.linked.port.grants = (λ i. option_map (λ (l : Linked). l.port.grants) (linked_at c (sym is i).port)) ∙ ap (option_map (λ (l : Linked). l.port.grants)) g.found in
    let same : t.grants ≡ g.linked.port.grants = some_list t.grants g.linked.port.grants (sym lends ∙ here) in
    (λ i. at grant_label (sym is i).label (same i)) ∙ g.granted

some_view : (x y : GrantView) → Some x ≡ Some y → x ≡ y
some_view x y e = cc e

pub flow_is : (t : Table) (joined : Joined) (join : Join) (view : GrantView) → grant_of t joined.label ≡ Some join.grant → Some view ≡ option_map view_of (grant_of t joined.label) → view.flow ≡ join.grant.flow
flow_is t joined join view is e = (let same : view ≡ view_of join.grant = some_view view (view_of join.grant) (e ∙ ap (option_map view_of) is) in ap (λ (v : GrantView). v.flow) same)

pub none_not : (t : Table) (joined : Joined) (join : Join) → grant_of t joined.label ≡ Some join.grant → None ≡ option_map view_of (grant_of t joined.label) → ⊥
none_not t joined join is e = absurd (cc (e ∙ ap (option_map view_of) is))

-- *The same ports* have the same grants
grant_on : (c d : Controller) (join : Join) → d.ports ≡ c.ports → IsGrantOf c join → IsGrantOf d join
grant_on c d join same g = record { linked = g.linked; found = ap (at port_key join.port.0) same ∙ g.found; granted = g.granted; apart = g.apart }

every_as : (P Q : Join → Type 0) (joins : List Join) → ((j : Join) → P j → Q j) → Every P joins → Every Q joins
every_as P Q [] f h = tt
every_as P Q (j ∷ joins) f h = (f j h.0, every_as P Q joins f h.1)

pub grants_on : (c d : Controller) → d.ports ≡ c.ports → HasGrants c → HasGrants d
grants_on c d same h = every_as (IsGrantOf c) (IsGrantOf d) (joins_of d) (λ j. grant_on c d j same) (subst (Every (IsGrantOf c)) (sym (same_joins c d same)) h) where
  same_joins : (c d : Controller) → d.ports ≡ c.ports → joins_of d ≡ joins_of c
  same_joins c d same = ap (λ (ports : List Linked). joins_of (record c { ports = ports })) same

pub same_joins : (c d : Controller) → d.ports ≡ c.ports → joins_of d ≡ joins_of c
same_joins c d same = ap (λ (ports : List Linked). joins_of (record c { ports = ports })) same

-- *The joins are taken back in turn*
pub record Taking (a b : Acted) (change : RouteChange) (left : List Join) : Type 0 where
  pub differ : AreDifferent b
  pub asked : Asked a b
  pub can : EachCanBeTakenBack b (filter (is_changed a.controller.table change) left)
  pub acted : fold takes_join_back b (filter (is_changed a.controller.table change) left) ≡ fold takes_join_back a (changed_joins a.controller change)

pub same_here : (a b : Acted) → stands b ≡ true → Asked a b → Same a b
same_here a b estab asked = elim asked.either [ inl s ↦ s | inr u ↦ absurd (cc (sym estab ∙ u.estab)) ]

pub closed_ends : (a b : Acted) (change : RouteChange) (left : List Join) → stands b ≡ false → Taking a b change left → b ≡ fold takes_join_back a (changed_joins a.controller change)
closed_ends a b change left closed t = sym (closed_takes (filter (is_changed a.controller.table change) left) b closed) ∙ t.acted

pub none_left : (a b : Acted) (change : RouteChange) (left : List Join) → left ≡ [] → Taking a b change left → b ≡ fold takes_join_back a (changed_joins a.controller change)
none_left a b change left none t = ap (λ js. fold takes_join_back b (filter (is_changed a.controller.table change) js)) (sym none) ∙ t.acted

-- one that stays
pub skips : (a b : Acted) (change : RouteChange) (left : List Join) (join : Join) (rest : List Join) → left ≡ join ∷ rest → is_changed a.controller.table change join ≡ false → Taking a b change left → Taking a b change rest
skips a b change left join rest is stays t =
    let e : filter (is_changed a.controller.table change) left ≡ filter (is_changed a.controller.table change) rest = ap (filter (is_changed a.controller.table change)) is ∙ filter_not (is_changed a.controller.table change) join rest stays in
    record {
      differ = t.differ;
      asked = t.asked;
      can = subst (EachCanBeTakenBack b) e t.can;
      acted = ap (fold takes_join_back b) (sym e) ∙ t.acted;
    }

-- one that is taken back
pub back_can : (a b : Acted) (change : RouteChange) (left : List Join) (join : Join) (rest : List Join) → left ≡ join ∷ rest → is_changed a.controller.table change join ≡ true → Taking a b change left → CanTakeBack b join.input (output_joined join)
back_can a b change left join rest is changes t =
    (subst (EachCanBeTakenBack b) (ap (filter (is_changed a.controller.table change)) is ∙ filter_first (is_changed a.controller.table change) join rest changes) t.can).0

pub takes : (a b d : Acted) (change : RouteChange) (left : List Join) (join : Join) (rest : List Join) → left ≡ join ∷ rest → is_changed a.controller.table change join ≡ true → Same a b → d ≡ takes_join_back b join → Taking a b change left → Taking a d change rest
takes a b d change left join rest is changes same d_is t =
    let e : filter (is_changed a.controller.table change) left ≡ join ∷ filter (is_changed a.controller.table change) rest = ap (filter (is_changed a.controller.table change)) is ∙ filter_first (is_changed a.controller.table change) join rest changes in
    let one = takes_back_asked join.input (output_joined join) b t.differ in
    let l = takes_back_lasts join.input (output_joined join) b t.differ in
    subst (λ (x : Acted). Taking a x change rest) (sym d_is)
    (record {
      differ = differ_after b (takes_join_back b join) l t.differ;
      asked = asked_onward a b (takes_join_back b join) t.asked same one;
      can = (subst (EachCanBeTakenBack b) e t.can).1;
      acted = ap (fold takes_join_back b) (sym e) ∙ t.acted;
    })

-- *The changes in turn*
pub cannot : (c : Controller) (change : RouteChange) → c.has_met ≡ false → may_take c change ≡ false
cannot c change unmet = ap (λ (b : Bool). b && not (list_any (is_changed c.table change) (joins_of c))) unmet

pub held : (c : Controller) (change : RouteChange) → list_any (is_changed c.table change) (joins_of c) ≡ true → may_take c change ≡ false
held c change h = by c.has_met where
  by : (b : Bool) → (b && not (list_any (is_changed c.table change) (joins_of c))) ≡ false
  by true = ap not h
  by false = refl

pub may : (c : Controller) (change : RouteChange) → c.has_met ≡ true → list_any (is_changed c.table change) (joins_of c) ≡ false → may_take c change ≡ true
may c change met free = λ i. met i && not (free i)

pub stops : (a : Acted) (change : RouteChange) (later : List RouteChange) → a.controller.has_met ≡ true → a.controller.waiting ≡ change ∷ later → may_take (begins_change a change).controller change ≡ false → begins_change a change ≡ takes_changes a
stops a change later met waits stays = sym (
    ap (λ (b : Bool). if b then takes_each a a.controller.waiting else a) met ∙ ap (takes_each a) waits
    ∙ ap (λ (b : Bool). if b then takes_each (takes_change (begins_change a change) change later) later else begins_change a change) stays)

pub goes_on : (a : Acted) (change : RouteChange) (later : List RouteChange) → a.controller.has_met ≡ true → a.controller.waiting ≡ change ∷ later → (begins_change a change).controller.has_met ≡ true → may_take (begins_change a change).controller change ≡ true
    → takes_changes (takes_change (begins_change a change) change later) ≡ takes_changes a
goes_on a change later met waits still passes =
    ap (λ (b : Bool). if b then takes_each (takes_change (begins_change a change) change later) later else takes_change (begins_change a change) change later) still
    ∙ sym (ap (λ (b : Bool). if b then takes_each a a.controller.waiting else a) met ∙ ap (takes_each a) waits
    ∙ ap (λ (b : Bool). if b then takes_each (takes_change (begins_change a change) change later) later else begins_change a change) passes)

pub first_grants : (a : Acted) (change : RouteChange) (later : List RouteChange) → a.controller.has_met ≡ true → a.controller.waiting ≡ change ∷ later → CanTakeChanges a → HasGrants a.controller
first_grants a change later met waits can = (subst (EachCanBeTaken a) waits (can met)).0

pub first_begins : (a : Acted) (change : RouteChange) (later : List RouteChange) → a.controller.has_met ≡ true → a.controller.waiting ≡ change ∷ later → CanTakeChanges a → CanBeginChange a change
first_begins a change later met waits can = (subst (EachCanBeTaken a) waits (can met)).1

pub rest_can : (a : Acted) (change : RouteChange) (later : List RouteChange) → a.controller.has_met ≡ true → a.controller.waiting ≡ change ∷ later → CanTakeChanges a → may_take (begins_change a change).controller change ≡ true
    → CanTakeChanges (takes_change (begins_change a change) change later)
rest_can a change later met waits can passes = λ still. (subst (EachCanBeTaken a) waits (can met)).2 passes

-- *At a place*
pub at_joined : (c : Controller) (joins : List Joined) (k : ℕ) (joined : Joined) → map joined_of (joins_of c) ≡ joins → Some joined ≡ slice_get joins k → At (joins_of c) k joined
at_joined c joins k joined are e = at_place (joins_of c) k joined (ap (λ js. slice_get js k) are ∙ sym e)

pub at_grant : (c : Controller) (k : ℕ) (joined : Joined) (at : At (joins_of c) k joined) → HasGrants c → IsGrantOf c at.join
at_grant c k joined at has = (subst (Every (IsGrantOf c)) at.rest (every_drop (IsGrantOf c) (joins_of c) k has)).0

pub drop_next : (joins : List Join) (k : ℕ) → drop (k + 1) joins ≡ drop (suc k) joins
drop_next joins k = (let next : k + 1 ≡ suc k = omega arith in ap (λ n. drop n joins) next)

pub any_first : (p : Join → Bool) (left : List Join) (join : Join) (rest : List Join) → left ≡ join ∷ rest → p join ≡ true → list_any p left ≡ true
any_first p left join rest is t = ap (list_any p) is ∙ ap (λ (b : Bool). b || list_any p rest) t

pub any_rest : (p : Join → Bool) (left : List Join) (join : Join) (rest : List Join) → left ≡ join ∷ rest → p join ≡ false → list_any p rest ≡ list_any p left
any_rest p left join rest is f = sym (ap (list_any p) is ∙ ap (λ (b : Bool). b || list_any p rest) f)

-- one step
pub takes_or_skips : (a b d : Acted) (change : RouteChange) (left : List Join) (join : Join) (rest : List Join) → left ≡ join ∷ rest → Same a b
    → d ≡ (if is_changed b.controller.table change join then takes_join_back b join else b) → Taking a b change left → Taking a d change rest
takes_or_skips a b d change left join rest is same e t = by (is_changed a.controller.table change join) refl where
  tables : is_changed b.controller.table change join ≡ is_changed a.controller.table change join
  tables = ap (λ (rs : List Route). is_changed rs change join) t.asked.keeps.table

  by : (x : Bool) → is_changed a.controller.table change join ≡ x → Taking a d change rest
  by true x = takes a b d change left join rest is x same (e ∙ ap (λ (y : Bool). if y then takes_join_back b join else b) (tables ∙ x)) t
  by false x = subst (λ (v : Acted). Taking a v change rest) (sym (e ∙ ap (λ (y : Bool). if y then takes_join_back b join else b) (tables ∙ x))) (skips a b change left join rest is x t)

pub back_can_if : (a b : Acted) (change : RouteChange) (left : List Join) (join : Join) (rest : List Join) → left ≡ join ∷ rest → Taking a b change left → is_changed b.controller.table change join ≡ true → CanTakeBack b join.input (output_joined join)
back_can_if a b change left join rest is t changes = back_can a b change left join rest is (sym (ap (λ (rs : List Route). is_changed rs change join) t.asked.keeps.table) ∙ changes) t

pub taking_begins : (a : Acted) (change : RouteChange) → AreDifferent a → EachCanBeTakenBack a (changed_joins a.controller change) → Taking a a change (joins_of a.controller)
taking_begins a change differ can = record { differ = differ; asked = asked_itself a; can = can; acted = refl }

pub grant_on_same : (c d : Controller) (join : Join) → d.ports ≡ c.ports → IsGrantOf c join → IsGrantOf d join
grant_on_same c d join same g = grant_on c d join same g

-- *The first that waits*
pub first_is : (waiting : List RouteChange) (change : RouteChange) → slice_get waiting 0 ≡ Some change → waiting ≡ change ∷ drop 1 waiting
first_is [] change e = absurd (cc e)
first_is (x ∷ waiting) change e = (let same : x ≡ change = cc e in ap (λ c. c ∷ waiting) same)

pub none_waits : (waiting : List RouteChange) → slice_get waiting 0 ≡ None → waiting ≡ []
none_waits [] e = refl
none_waits (x ∷ waiting) e = absurd (cc e)

pub takes_none : (a : Acted) → a.controller.has_met ≡ true → a.controller.waiting ≡ [] → a ≡ takes_changes a
takes_none a met none = sym (ap (λ (b : Bool). if b then takes_each a a.controller.waiting else a) met ∙ ap (takes_each a) none)
