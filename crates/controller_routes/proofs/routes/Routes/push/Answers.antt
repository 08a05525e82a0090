use Rattle.std.proofs.Common.{◌≡◌, ◌+◌, ◌<◌, ◌^◌, ◌∷◌, ◌++◌, [], List, None, fold, length, subst, sym, arith, length-append}
use Rattle.ipv4_forward.specs.Change.{change_fault, changed}
use Rattle.ipv4_forward.specs.declared.change.RouteChange.{RouteChange}
use Rattle.controller_routes.specs.Routes.{AreSound, Routes}
use Rattle.controller_routes.proofs.Taking.{takes_more}
use Rattle.controller_routes.proofs.routes.Routes.push.Goals as goal

pushed : (old : Routes) (change : RouteChange) (waiting : List RouteChange) → AreSound old → change_fault (fold changed old.table old.waiting) change ≡ None → old.changes + length old.waiting + 1 < 2 ^ 32 → waiting ≡ old.waiting ++ change ∷ [] → AreSound (record old { waiting = waiting })
pushed old change waiting sound taken count is = rw is (record {
  takes = takes_more old.table old.waiting change sound.takes taken;
  counted = omega (arith, count, length-append old.waiting (change ∷ []));
})

pub invariant_of-self-2 : goal.invariant_of-self-2
invariant_of-self-2 c =
    pushed (record { table = c.self.inside.table; waiting = c.self.inside.waiting.items; is_begun = c.self.inside.is_begun; changes = c.self.inside.changes }) c.args.change.now _ c.self.invariant
    (subst (λ (x : Routes). change_fault (fold changed x.table x.waiting) c.args.change.now ≡ None) (sym c.self.view_is) c.requires.taken)
    (subst (λ (x : Routes). x.changes + length x.waiting + 1 < 2 ^ 32) (sym c.self.view_is) c.requires.count) c.in_ok-push_back.ensures.items
