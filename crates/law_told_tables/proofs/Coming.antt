-- a change that comes is taken at once where the switch is met, none waits and no join stands against it; and where one
-- waits then and the switch is met, a join stands against the first

use Rattle.std.proofs.Common.{◌≡◌, Bool, true, false, true≢false, ◌&&◌, ◌||◌, not, List, [], ◌∷◌, ◌++◌, filter, fold, refl, sym, ◌∙◌, ap, subst, if◌then◌else◌}
use Rattle.std.specs.List.{list_any}
use Rattle.world_model.specs.Words.{RouteChange, Controller, joins_of, is_changed, changed_joins, takes_join_back, begins_change, takes_change, may_take, takes_each, change_comes}
use Rattle.law_causes.proofs.law_port_facts.Keyed.{on_both, on_each}
use Rattle.world_model.specs.Controller.{Acted}
use Rattle.world_model.specs.Joins.{Join}
use Rattle.law_told_tables.specs.Tables.{stands_against, taken_at_once, IsHeldUp, IsBrought}
use Rattle.law_told_tables.proofs.Taking.{begun_waits}

none_pass : {A : Type 0} (test : A → Bool) (xs : List A) → list_any test xs ≡ false → filter test xs ≡ []
none_pass test [] none = refl
none_pass {A} test (x ∷ xs) none = by (test x) none (none_pass test xs)
  where
    by : (b : Bool) → (b || list_any test xs) ≡ false → (list_any test xs ≡ false → filter test xs ≡ []) → (if b then x ∷ filter test xs else filter test xs) ≡ []
    by true e rest = absurd (true≢false e)
    by false e rest = rest e

-- *One that nothing stands against*
module _ (change : RouteChange) where
  -- the one that is first is taken, if it may be, and no other waits
  abbrev goes_on : Acted → Acted
  goes_on b = if may_take b.controller change then takes_each (takes_change b change []) [] else b

  taken_now : (b : Acted) → b.controller.has_met ≡ true → stands_against b.controller change ≡ false → (goes_on b).controller ≡ taken_at_once b.controller change
  taken_now b met none = ap (λ (t : Bool). (if t then takes_each (takes_change b change []) [] else b).controller) may
    where
      may : may_take b.controller change ≡ true
      may = ap (λ (t : Bool). t && not (stands_against b.controller change)) met ∙ ap (λ (t : Bool). not t) none

  alone_taken : (b : Acted) → b.controller.has_met ≡ true → stands_against b.controller change ≡ false → (takes_each b (change ∷ [])).controller ≡ taken_at_once b.controller change
  alone_taken b met none = on_both (λ (begun : Acted). (goes_on begun).controller ≡ taken_at_once b.controller change) b.controller.is_begun b
      (fold takes_join_back fresh (changed_joins b.controller change)) (taken_now b met none)
      (subst (λ (joins : List Join). (goes_on (fold takes_join_back fresh joins)).controller ≡ taken_at_once b.controller change)
      (sym (none_pass (is_changed b.controller.table change) (joins_of b.controller) none)) (taken_now fresh met none))
    where
      fresh : Acted
      fresh = record b { controller = record b.controller { is_begun = true } }

  at_once : (a : Acted) → a.controller.has_met ≡ true → a.controller.waiting ≡ [] → stands_against a.controller change ≡ false → (change_comes a change).controller ≡ taken_at_once a.controller change
  at_once a met none_waits none =
      ap (λ (t : Bool). (if t then takes_each waits (a.controller.waiting ++ change ∷ []) else waits).controller) met
      ∙ ap (λ (waiting : List RouteChange). (takes_each waits (waiting ++ change ∷ [])).controller) none_waits
      ∙ alone_taken waits met none
    where
      waits : Acted
      waits = record a { controller = record a.controller { waiting = a.controller.waiting ++ change ∷ [] } }

-- *One that waits*
not_taken : (c : Controller) (change : RouteChange) → may_take c change ≡ false → c.has_met ≡ true → stands_against c change ≡ true
not_taken c change may met = by (stands_against c change) (ap (λ (t : Bool). t && not (stands_against c change)) (sym met) ∙ may)
  where
    by : (b : Bool) → not b ≡ false → b ≡ true
    by true e = refl
    by false e = absurd (true≢false e)

each_held : (changes : List RouteChange) (a : Acted) → a.controller.waiting ≡ changes → IsHeldUp (takes_each a changes).controller (takes_each a changes).controller.waiting
each_held [] a is = subst (IsHeldUp a.controller) (sym is) tt
each_held (change ∷ later) a is =
    let begun : Acted = begins_change a change in
    on_each (λ (b : Acted). IsHeldUp b.controller b.controller.waiting) (may_take begun.controller change) (takes_each (takes_change begun change later) later) begun
    (λ may. each_held later (takes_change begun change later) refl)
    (λ may. subst (IsHeldUp begun.controller) (sym (begun_waits a change ∙ is)) (not_taken begun.controller change may))

unmet : (c : Controller) (waiting : List RouteChange) → c.has_met ≡ false → IsHeldUp c waiting
unmet c [] e = tt
unmet c (change ∷ later) e = λ met. absurd (true≢false (sym met ∙ e))

held_up : (a : Acted) (change : RouteChange) → IsHeldUp (change_comes a change).controller (change_comes a change).controller.waiting
held_up a change =
    let waits : Acted = record a { controller = record a.controller { waiting = a.controller.waiting ++ change ∷ [] } } in
    on_each (λ (b : Acted). IsHeldUp b.controller b.controller.waiting) a.controller.has_met (takes_each waits waits.controller.waiting) waits
    (λ met. each_held waits.controller.waiting waits refl) (λ none. unmet waits.controller waits.controller.waiting none)

pub is_brought : (a : Acted) (change : RouteChange) → IsBrought change a.controller (change_comes a change).controller
is_brought a change = record { at_once = at_once change a; held_up = held_up a change }
