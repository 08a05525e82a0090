-- what a tick of a port asks leads no input away, and where a grant's lifetime ends that is lent, its join is taken back

use Rattle.std.proofs.Common.{◌≡◌, ◌≢◌, ℕ, true, false, List, [], ◌∷◌, ◌++◌, Option, None, Some, refl, sym, ◌∙◌, ap, subst, arith, if◌then◌else◌, inl, inr, map, fold}
use Rattle.std.specs.Prelude.{◌⊎◌, ◌==◌, ◌-◌, is_some}
use Rattle.std.proofs.lemmas.Bool.Decides.{nat_tests}
use Rattle.law_controller.specs.world_model.Words.{End, ticked, at, Desk, Action, TakeBack, Setup, label_end, Grant, GrantState, Idle, ByController, ByInput, Leaving, grant_label, Session, Work, with_grants, with_grant, expires, ages_in, ages_found, ages, ticks_session}
use Rattle.law_controller.specs.ordered_lists.Ordered.{Every}
use Rattle.law_controller.specs.world_model.port_model.Port.{with_action}
use Rattle.law_controller.specs.world_model.port_model.Adjacency.{steps}
use Rattle.law_controller.specs.world_model.port_model.Ticks.{ticks}
use Rattle.law_controller.proofs.law_port_facts.Keyed.{on_both, by_eq, every_more}
use Rattle.law_lifetimes.specs.Expiry.{is_reset_answer}
use Rattle.law_lifetimes.proofs.Calm.{IsTame, Calm, steps_calm, rest_calm}
use Rattle.law_lifetimes.proofs.Ages.{Among, found_among, still_live, ages_live, ages_other, GoesOn, ticked_on}

module _ (L : List Action → Type 0) (more : (actions : List Action) (action : Action) → IsTame action → L actions → L (actions ++ action ∷ [])) where
  abbrev Asks : Work → Type 0
  Asks w = L w.actions

  now : (w : Work) → Asks w → Calm w.port.grants L more w
  now w h = record { same = refl; asked = h }

  grants_ask : (w : Work) (grants : List Grant) → Asks w → Asks (with_grants w grants)
  grants_ask w grants h = on_both Asks w.halted w (record w { port = record w.port { grants = grants } }) h h

  expires_asks : (setup : Setup) (w : Work) (grant : Grant) (state : GrantState) → Asks w → Asks (expires setup w grant state)
  expires_asks setup w grant (ByInput input) h =
      let gone : Work = with_grant w (record grant { lifetime = 0; state = Leaving input false }) in
      let back : Action = TakeBack input (label_end setup.port grant.label) in
      let k : Asks gone = grants_ask w _ h in
      on_both Asks gone.halted gone (record gone { actions = gone.actions ++ back ∷ [] }) k (more gone.actions back tt k)
  expires_asks setup w grant Idle h = grants_ask w _ h
  expires_asks setup w grant ByController h = grants_ask w _ h
  expires_asks setup w grant (Leaving input owed) h = grants_ask w _ h

  shortened_asks : (setup : Setup) (w : Work) (grant : Grant) (state : GrantState) → Asks w → Asks (if grant.lifetime == 1 then expires setup w grant state else with_grant w (record grant { lifetime = grant.lifetime - 1 }))
  shortened_asks setup w grant state h = on_both Asks (grant.lifetime == 1) (expires setup w grant state) (with_grant w (record grant { lifetime = grant.lifetime - 1 })) (expires_asks setup w grant state h) (grants_ask w _ h)

  ages_in_asks : (setup : Setup) (w : Work) (grant : Grant) (state : GrantState) → Asks w → Asks (ages_in setup w grant state)
  ages_in_asks setup w grant (Leaving input owed) h = h
  ages_in_asks setup w grant Idle h = shortened_asks setup w grant Idle h
  ages_in_asks setup w grant ByController h = shortened_asks setup w grant ByController h
  ages_in_asks setup w grant (ByInput input) h = shortened_asks setup w grant (ByInput input) h

  ages_asks : (setup : Setup) (w : Work) (number : ℕ) → Asks w → Asks (ages setup w number)
  ages_asks setup w number h = by_found (at grant_label number w.port.grants)
    where
      by_found : (o : Option Grant) → Asks (ages_found setup w o)
      by_found None = h
      by_found (Some grant) = ages_in_asks setup w grant grant.state h

  pub each_asks : (setup : Setup) (numbers : List ℕ) (w : Work) → Asks w → Asks (fold (ages setup) w numbers)
  each_asks setup [] w h = h
  each_asks setup (number ∷ numbers) w h = each_asks setup numbers (ages setup w number) (ages_asks setup w number h)

  -- behind the lifetimes
  pub rest_asks : (setup : Setup) (desk : Desk) (w : Work) (s : Session) → Asks (fold (ages setup) w (map grant_label w.port.grants)) → Asks (ticks_session setup desk w (Some s))
  rest_asks setup desk w s h = (let aged : Work = fold (ages setup) w (map grant_label w.port.grants) in (rest_calm aged.port.grants L more setup desk aged (now aged h)).asked)

  session_asks : (setup : Setup) (desk : Desk) (w : Work) (o : Option Session) → Asks w → Asks (ticks_session setup desk w o)
  session_asks setup desk w None h = h
  session_asks setup desk w (Some s) h = rest_asks setup desk w s (each_asks setup (map grant_label w.port.grants) w h)

  pub ticks_asks : (setup : Setup) (desk : Desk) (w : Work) → Asks w → Asks (ticks setup desk w)
  ticks_asks setup desk w h =
      let stepped : Work = steps setup w (ticked w.port.adjacency) in
      session_asks setup desk stepped stepped.port.session (steps_calm w.port.grants L more setup w (ticked w.port.adjacency) (now w h)).asked

-- *It leads no input away*
pub ticks_tame : (setup : Setup) (desk : Desk) (w : Work) → Every IsTame w.actions → Every IsTame (ticks setup desk w).actions
ticks_tame setup desk w h = ticks_asks (λ xs. Every IsTame xs) (λ xs x tame k. every_more IsTame xs x k tame) setup desk w h

-- *An action is among those that were asked*
module _ (action : Action) where
  abbrev pub Asked : List Action → Type 0
  Asked [] = ⊥
  Asked (x ∷ xs) = (x ≡ action) ⊎ Asked xs

  asked_more : (xs : List Action) (x : Action) → Asked xs → Asked (xs ++ x ∷ [])
  asked_more [] x h = absurd h
  asked_more (y ∷ xs) x (inl is) = inl is
  asked_more (y ∷ xs) x (inr rest) = inr (asked_more xs x rest)

  asked_last : (xs : List Action) → Asked (xs ++ action ∷ [])
  asked_last [] = inl refl
  asked_last (y ∷ xs) = inr (asked_last xs)

  acts_asked : (w : Work) → w.halted ≡ false → Asked (with_action w action).actions
  acts_asked w live = subst (λ b. Asked (if b then w else record w { actions = w.actions ++ action ∷ [] }).actions) (sym live) (asked_last w.actions)

-- *A lifetime ends* of a grant that is lent
module _ (setup : Setup) (label : ℕ) (input : End) (grant : Grant) (own : grant.label ≡ label) (lent : grant.state ≡ ByInput input) (last : grant.lifetime ≡ 1) where
  abbrev pub back : Action
  back = TakeBack input (label_end setup.port label)

  one : (n : ℕ) → n ≡ 1 → (n == 1) ≡ true
  one n e = grind (arith, nat_tests)

  ends_asked : (w : Work) → w.halted ≡ false → at grant_label label w.port.grants ≡ Some grant → Asked back (ages setup w label).actions
  ends_asked w live found = subst (λ (o : Option Grant). Asked back (ages_found setup w o).actions) (sym found) (subst (λ (s : GrantState). Asked back (ages_in setup w grant s).actions) (sym lent)
      (subst (λ b. Asked back (if b then expires setup w grant (ByInput input) else with_grant w (record grant { lifetime = grant.lifetime - 1 })).actions) (sym (one grant.lifetime last))
      (subst (λ k. Asked back (with_action (with_grant w (record grant { lifetime = 0; state = Leaving input false })) (TakeBack input (label_end setup.port k))).actions) (sym own)
      (acts_asked back (with_grant w (record grant { lifetime = 0; state = Leaving input false })) (still_live w live _)))))

  each_asked : (numbers : List ℕ) (w : Work) → w.halted ≡ false → at grant_label label w.port.grants ≡ Some grant → Among label numbers → Asked back (fold (ages setup) w numbers).actions
  each_asked [] w live found among = absurd among
  each_asked (number ∷ numbers) w live found among = by_eq number label
      (λ same t. each_asks (Asked back) (λ xs x tame h. asked_more back xs x h) setup numbers (ages setup w number) (subst (λ k. Asked back (ages setup w k).actions) (sym same) (ends_asked w live found)))
      (λ other t. each_asked numbers (ages setup w number) (ages_live setup w number live) (ages_other setup w number label live other ∙ found) (later other among))
    where
      later : number ≢ label → Among label (number ∷ numbers) → Among label numbers
      later other (inl same) = absurd (other same)
      later other (inr rest) = rest

  pub ticks_asked : (desk : Desk) (w : Work) → w.halted ≡ false → is_some w.port.session ≡ true → is_reset_answer (ticked w.port.adjacency).answer ≡ false → at grant_label label w.port.grants ≡ Some grant → Asked back (ticks setup desk w).actions
  ticks_asked desk w live session over found = by_session v.port.session refl
    where
      v : Work
      v = steps setup w (ticked w.port.adjacency)

      on : GoesOn w v
      on = ticked_on setup w live session over

      still : at grant_label label v.port.grants ≡ Some grant
      still = ap (at grant_label label) on.grants ∙ found

      by_session : (o : Option Session) → v.port.session ≡ o → Asked back (ticks_session setup desk v o).actions
      by_session None is = absurd (cc (sym (ap is_some is) ∙ on.session))
      by_session (Some s) is = rest_asks (Asked back) (λ xs x tame h. asked_more back xs x h) setup desk v s
          (each_asked (map grant_label v.port.grants) v on.live still (found_among grant_label label v.port.grants grant still))
