-- a tick that reaches the lifetimes of a port takes one tick of each

use Rattle.std.proofs.Common.{◌≡◌, ◌≢◌, ℕ, suc, ◌≤◌, true, false, List, [], ◌∷◌, ◌++◌, Option, None, Some, refl, sym, ◌∙◌, ap, subst, arith, if◌then◌else◌, inl, inr, map, fold}
use Rattle.std.specs.Prelude.{◌-◌, ◌==◌, ◌⊎◌, nat_eq, is_some}
use Rattle.std.specs.Option.{option_map_or}
use Rattle.std.proofs.lemmas.Bool.Decides.{nat_tests}
use Rattle.law_controller.specs.world_model.Words.{Peer, Answer, Quiet, Send, Open, Said, ticked, ifmp_answer, hello_of, Opened, at, put, without, Desk, Action, Say, Note, TakeBack, Setup, label_end, Grant, GrantState, Idle, ByController, ByInput, Leaving, grant_label, is_leaving, Session, Work, with_grants, with_grant, without_grant, first_session, expires, ages_in, ages_found, ages, ticks_session}
use Rattle.law_controller.specs.world_model.adjacency_table.declared.message.Answer.TheVariants.{Reset}
use Rattle.law_controller.specs.world_model.ifmp_wire.declared.message.Message.TheVariants.{Adjacency}
use Rattle.law_controller.specs.world_model.port_model.Port.{Port, with_action}
use Rattle.law_controller.specs.world_model.port_model.Adjacency.{answers, steps}
use Rattle.law_controller.specs.world_model.port_model.Ticks.{ticks}
use Rattle.law_controller.proofs.law_port_facts.Keyed.{on_both, on_each, by_eq, at_key, at_put_same, at_put_other}
use Rattle.law_controller.proofs.law_port_facts.Found.{acts_port}
use Rattle.law_lifetimes.specs.Expiry.{is_reset_answer}
use Rattle.law_lifetimes.proofs.Calm.{Calm, rest_calm}
use Rattle.law_lifetimes.proofs.Grants.{AnyActions, any_more, calm_now}

-- what is left out isn't found, and the others still are
pub at_without_same : {A : Type 0} (key : A → ℕ) (k : ℕ) (xs : List A) → at key k (without key k xs) ≡ None
at_without_same key k [] = refl
at_without_same key k (x ∷ xs) = on_each (λ ys. at key k ys ≡ None) (nat_eq (key x) k) (without key k xs) (x ∷ without key k xs)
    (λ t. at_without_same key k xs) (λ t. ap (λ b. if b then Some x else at key k (without key k xs)) t ∙ at_without_same key k xs)

pub at_without_other : {A : Type 0} (key : A → ℕ) (m k : ℕ) (xs : List A) → m ≢ k → at key k (without key m xs) ≡ at key k xs
at_without_other key m k [] n = refl
at_without_other {A} key m k (x ∷ xs) n = on_each (λ ys. at key k ys ≡ at key k (x ∷ xs)) (nat_eq (key x) m) (without key m xs) (x ∷ without key m xs)
    (λ t. at_without_other key m k xs n ∙ sym (ap (λ b. if b then Some x else at key k xs) (apart t)))
    (λ t. ap (λ (o : Option A). if nat_eq (key x) k then Some x else o) (at_without_other key m k xs n))
  where
    apart : nat_eq (key x) m ≡ true → nat_eq (key x) k ≡ false
    apart t = grind (arith, nat_tests)

-- *A number is among others*
abbrev pub Among : ℕ → List ℕ → Type 0
Among k [] = ⊥
Among k (m ∷ ms) = (m ≡ k) ⊎ Among k ms

pub found_among : {A : Type 0} (key : A → ℕ) (k : ℕ) (xs : List A) (x : A) → at key k xs ≡ Some x → Among k (map key xs)
found_among key k [] x e = absurd (cc e)
found_among key k (y ∷ xs) x e = elim (nat_eq (key y) k) as (λ t. nat_eq (key y) k ≡ t → (if t then Some y else at key k xs) ≡ Some x → (key y ≡ k) ⊎ Among k (map key xs)) [
  | true ↦ λ t h. inl (grind (arith, nat_tests))
  | false ↦ λ t h. inr (found_among key k xs x h)
] refl e

-- *A port at work* that hasn't asked to be reset
module _ (w : Work) (live : w.halted ≡ false) where
  pub granted : (grants : List Grant) → (with_grants w grants).port.grants ≡ grants
  granted grants = ap (λ b. (if b then w else record w { port = record w.port { grants = grants } }).port.grants) live

  pub still_live : (grants : List Grant) → (with_grants w grants).halted ≡ false
  still_live grants = ap (λ b. (if b then w else record w { port = record w.port { grants = grants } }).halted) live ∙ live

  pub acts_live : (action : Action) → (with_action w action).halted ≡ false
  acts_live action = ap (λ b. (if b then w else record w { actions = w.actions ++ action ∷ [] }).halted) live ∙ live

module _ (setup : Setup) where
  -- it still hasn't
  expires_live : (w : Work) (grant : Grant) (state : GrantState) → w.halted ≡ false → (expires setup w grant state).halted ≡ false
  expires_live w grant (ByInput input) live = (let gone : Grant = record grant { lifetime = 0; state = Leaving input false } in
      acts_live (with_grant w gone) (still_live w live (put grant_label gone w.port.grants)) (TakeBack input (label_end setup.port grant.label)))
  expires_live w grant Idle live = still_live w live (without grant_label grant.label w.port.grants)
  expires_live w grant ByController live = still_live w live (without grant_label grant.label w.port.grants)
  expires_live w grant (Leaving input owed) live = still_live w live (without grant_label grant.label w.port.grants)

  shortened_live : (w : Work) (grant : Grant) (state : GrantState) → w.halted ≡ false → (if grant.lifetime == 1 then expires setup w grant state else with_grant w (record grant { lifetime = grant.lifetime - 1 })).halted ≡ false
  shortened_live w grant state live = on_both (λ (v : Work). v.halted ≡ false) (grant.lifetime == 1) (expires setup w grant state) (with_grant w (record grant { lifetime = grant.lifetime - 1 })) (expires_live w grant state live)
      (still_live w live (put grant_label (record grant { lifetime = grant.lifetime - 1 }) w.port.grants))

  ages_in_live : (w : Work) (grant : Grant) (state : GrantState) → w.halted ≡ false → (ages_in setup w grant state).halted ≡ false
  ages_in_live w grant (Leaving input owed) live = live
  ages_in_live w grant Idle live = shortened_live w grant Idle live
  ages_in_live w grant ByController live = shortened_live w grant ByController live
  ages_in_live w grant (ByInput input) live = shortened_live w grant (ByInput input) live

  pub ages_live : (w : Work) (number : ℕ) → w.halted ≡ false → (ages setup w number).halted ≡ false
  ages_live w number live = by_found (at grant_label number w.port.grants)
    where
      by_found : (o : Option Grant) → (ages_found setup w o).halted ≡ false
      by_found None = live
      by_found (Some grant) = ages_in_live w grant grant.state live

  -- *Another grant's lifetime* leaves this one as it is
  module _ (w : Work) (live : w.halted ≡ false) (label : ℕ) (grant : Grant) (other : grant.label ≢ label) where
    abbrev Same : Work → Type 0
    Same v = at grant_label label v.port.grants ≡ at grant_label label w.port.grants

    put_same : (after : Grant) → after.label ≡ grant.label → Same (with_grant w after)
    put_same after is = ap (at grant_label label) (granted w live (put grant_label after w.port.grants)) ∙ at_put_other grant_label after label w.port.grants (λ e. other (sym is ∙ e))

    without_same : Same (without_grant w grant.label)
    without_same = ap (at grant_label label) (granted w live (without grant_label grant.label w.port.grants)) ∙ at_without_other grant_label grant.label label w.port.grants other

    expires_same : (state : GrantState) → Same (expires setup w grant state)
    expires_same (ByInput input) = (let gone : Grant = record grant { lifetime = 0; state = Leaving input false } in
        ap (λ (p : Port). at grant_label label p.grants) (acts_port (with_grant w gone) (TakeBack input (label_end setup.port grant.label))) ∙ put_same gone refl)
    expires_same Idle = without_same
    expires_same ByController = without_same
    expires_same (Leaving input owed) = without_same

    shortened_same : (state : GrantState) → Same (if grant.lifetime == 1 then expires setup w grant state else with_grant w (record grant { lifetime = grant.lifetime - 1 }))
    shortened_same state = on_both Same (grant.lifetime == 1) (expires setup w grant state) (with_grant w (record grant { lifetime = grant.lifetime - 1 })) (expires_same state) (put_same (record grant { lifetime = grant.lifetime - 1 }) refl)

    ages_in_same : (state : GrantState) → Same (ages_in setup w grant state)
    ages_in_same (Leaving input owed) = refl
    ages_in_same Idle = shortened_same Idle
    ages_in_same ByController = shortened_same ByController
    ages_in_same (ByInput input) = shortened_same (ByInput input)

  pub ages_other : (w : Work) (number label : ℕ) → w.halted ≡ false → number ≢ label → at grant_label label (ages setup w number).port.grants ≡ at grant_label label w.port.grants
  ages_other w number label live other = by_found (at grant_label number w.port.grants) refl
    where
      by_found : (o : Option Grant) → at grant_label number w.port.grants ≡ o → at grant_label label (ages_found setup w o).port.grants ≡ at grant_label label w.port.grants
      by_found None found = refl
      by_found (Some grant) found = ages_in_same w live label grant (λ e. other (sym (at_key grant_label number w.port.grants grant found) ∙ e)) grant.state

  module _ (label : ℕ) where
    -- *What a grant has left* of its lifetime, if it isn't leaving
    abbrev pub AtMost : ℕ → Option Grant → Type 0
    AtMost n o = (grant : Grant) → o ≡ Some grant → is_leaving grant.state ≡ false → grant.lifetime ≤ n

    abbrev pub Left : ℕ → Work → Type 0
    Left n w = AtMost n (at grant_label label w.port.grants)

    some_same : (x y : Grant) → Some x ≡ Some y → x ≡ y
    some_same x y e = cc

    of_none : (n : ℕ) (o : Option Grant) → o ≡ None → AtMost n o
    of_none n o none grant e live = absurd (cc (sym none ∙ e))

    of_leaving : (n : ℕ) (o : Option Grant) (g : Grant) → o ≡ Some g → is_leaving g.state ≡ true → AtMost n o
    of_leaving n o g is leaving grant e live = absurd (cc (sym (ap (λ (x : Grant). is_leaving x.state) (some_same g grant (sym is ∙ e)) ∙ live) ∙ leaving))

    of_short : (n : ℕ) (o : Option Grant) (g : Grant) → o ≡ Some g → g.lifetime ≤ n → AtMost n o
    of_short n o g is short grant e live = subst (λ (x : Grant). x.lifetime ≤ n) (some_same g grant (sym is ∙ e)) short

    module _ (n : ℕ) (w : Work) (live : w.halted ≡ false) (grant : Grant) (found : at grant_label label w.port.grants ≡ Some grant) (lives : is_leaving grant.state ≡ false → grant.lifetime ≤ suc n) where
      own : grant.label ≡ label
      own = at_key grant_label label w.port.grants grant found

      there : at grant_label grant.label w.port.grants ≡ Some grant
      there = subst (λ k. at grant_label k w.port.grants ≡ Some grant) (sym own) found

      put_there : (after : Grant) → after.label ≡ grant.label → at grant_label label (with_grant w after).port.grants ≡ Some after
      put_there after is = ap (at grant_label label) (granted w live (put grant_label after w.port.grants))
          ∙ subst (λ k. at grant_label k (put grant_label after w.port.grants) ≡ Some after) (is ∙ own)
          (at_put_same grant_label after w.port.grants grant (subst (λ k. at grant_label k w.port.grants ≡ Some grant) (sym is) there))

      ended : Left n (without_grant w grant.label)
      ended = of_none n (at grant_label label (without_grant w grant.label).port.grants) (ap (at grant_label label) (granted w live (without grant_label grant.label w.port.grants))
          ∙ subst (λ k. at grant_label k (without grant_label grant.label w.port.grants) ≡ None) own (at_without_same grant_label grant.label w.port.grants))

      expires_left : (state : GrantState) → Left n (expires setup w grant state)
      expires_left (ByInput input) = (let gone : Grant = record grant { lifetime = 0; state = Leaving input false } in
          of_leaving n _ gone (ap (λ (p : Port). at grant_label label p.grants) (acts_port (with_grant w gone) (TakeBack input (label_end setup.port grant.label))) ∙ put_there gone refl) refl)
      expires_left Idle = ended
      expires_left ByController = ended
      expires_left (Leaving input owed) = ended

      shortened_left : (state : GrantState) → is_leaving grant.state ≡ false → Left n (if grant.lifetime == 1 then expires setup w grant state else with_grant w (record grant { lifetime = grant.lifetime - 1 }))
      shortened_left state up = on_both (Left n) (grant.lifetime == 1) (expires setup w grant state) (with_grant w (record grant { lifetime = grant.lifetime - 1 })) (expires_left state)
          (of_short n _ (record grant { lifetime = grant.lifetime - 1 }) (put_there (record grant { lifetime = grant.lifetime - 1 }) refl) (less grant.lifetime (lives up)))
        where
          less : (l : ℕ) → l ≤ suc n → l - 1 ≤ n
          less l h = omega (arith, h)

      ages_in_left : (state : GrantState) → grant.state ≡ state → Left n (ages_in setup w grant state)
      ages_in_left (Leaving input owed) is = of_leaving n (at grant_label label w.port.grants) grant found (ap is_leaving is)
      ages_in_left Idle is = shortened_left Idle (ap is_leaving is)
      ages_in_left ByController is = shortened_left ByController (ap is_leaving is)
      ages_in_left (ByInput input) is = shortened_left (ByInput input) (ap is_leaving is)

    -- its own turn takes one tick of it
    pub ages_own : (n : ℕ) (w : Work) → w.halted ≡ false → Left (suc n) w → Left n (ages setup w label)
    ages_own n w live h = by_found (at grant_label label w.port.grants) refl
      where
        by_found : (o : Option Grant) → at grant_label label w.port.grants ≡ o → Left n (ages_found setup w o)
        by_found None found = of_none n (at grant_label label w.port.grants) found
        by_found (Some grant) found = ages_in_left n w live grant found (h grant found) grant.state refl

    more_left : (n : ℕ) (w : Work) → Left n w → Left (suc n) w
    more_left n w h grant e up = omega (arith, h grant e up)

    -- and any turn keeps what is left
    ages_keeps : (n : ℕ) (w : Work) (number : ℕ) → w.halted ≡ false → Left n w → Left n (ages setup w number)
    ages_keeps n w number live h = by_eq number label (λ same t. subst (λ k. Left n (ages setup w k)) (sym same) (ages_own n w live (more_left n w h)))
        (λ other t. subst (AtMost n) (sym (ages_other w number label live other)) h)

    pub each_keeps : (n : ℕ) (numbers : List ℕ) (w : Work) → w.halted ≡ false → Left n w → Left n (fold (ages setup) w numbers)
    each_keeps n [] w live h = h
    each_keeps n (number ∷ numbers) w live h = each_keeps n numbers (ages setup w number) (ages_live w number live) (ages_keeps n w number live h)

    pub each_ages : (n : ℕ) (numbers : List ℕ) (w : Work) → w.halted ≡ false → Among label numbers → Left (suc n) w → Left n (fold (ages setup) w numbers)
    each_ages n [] w live among h = absurd among
    each_ages n (number ∷ numbers) w live among h = by_eq number label
        (λ same t. each_keeps n numbers (ages setup w number) (ages_live w number live) (subst (λ k. Left n (ages setup w k)) (sym same) (ages_own n w live h)))
        (λ other t. each_ages n numbers (ages setup w number) (ages_live w number live) (later other among) (subst (AtMost (suc n)) (sym (ages_other w number label live other)) h))
      where
        later : number ≢ label → Among label (number ∷ numbers) → Among label numbers
        later other (inl same) = absurd (other same)
        later other (inr rest) = rest

    pub all_age : (n : ℕ) (w : Work) → w.halted ≡ false → Left (suc n) w → Left n (fold (ages setup) w (map grant_label w.port.grants))
    all_age n w live h = by_found (at grant_label label w.port.grants) refl
      where
        by_found : (o : Option Grant) → at grant_label label w.port.grants ≡ o → Left n (fold (ages setup) w (map grant_label w.port.grants))
        by_found None found = each_keeps n (map grant_label w.port.grants) w live (of_none n (at grant_label label w.port.grants) found)
        by_found (Some grant) found = each_ages n (map grant_label w.port.grants) w live (found_among grant_label label w.port.grants grant found) h

-- *The adjacency's tick* comes first: where it doesn't end the adjacency, the port goes on with its session
pub record GoesOn (w v : Work) : Type 0 where
  pub live : v.halted ≡ false
  pub session : is_some v.port.session ≡ true
  pub grants : v.port.grants ≡ w.port.grants

module _ (setup : Setup) (w : Work) (live : w.halted ≡ false) (session : is_some w.port.session ≡ true) where
  acted_on : (v : Work) (action : Action) → v.halted ≡ false → is_some v.port.session ≡ true → v.port.grants ≡ w.port.grants → GoesOn w (with_action v action)
  acted_on v action up s g = record {
    live = acts_live v up action;
    session = ap (λ (p : Port). is_some p.session) (acts_port v action) ∙ s;
    grants = ap (λ (p : Port). p.grants) (acts_port v action) ∙ g;
  }

  answers_on : (v : Work) (next : ℕ) (answer : Answer (Said Peer) Peer) → v.halted ≡ false → is_some v.port.session ≡ true → v.port.grants ≡ w.port.grants → is_reset_answer answer ≡ false → GoesOn w (answers setup v (ifmp_answer next answer))
  answers_on v next Quiet up s g over = record { live = up; session = s; grants = g }
  answers_on v next (Send m) up s g over = acted_on v (Say (Adjacency (hello_of next m))) up s g
  answers_on v next (Open None k) up s g over = acted_on (record v { port = record v.port { session = Some (first_session setup) } }) (Note (Opened setup.node setup.port)) up refl g
  answers_on v next (Open (Some m) k) up s g over =
      let greeted : Work = with_action v (Say (Adjacency (hello_of next m))) in
      acted_on (record greeted { port = record greeted.port { session = Some (first_session setup) } }) (Note (Opened setup.node setup.port)) (acts_live v up (Say (Adjacency (hello_of next m)))) refl
      (ap (λ (p : Port). p.grants) (acts_port v (Say (Adjacency (hello_of next m)))) ∙ g)
  answers_on v next Reset up s g over = absurd (cc over)

  pub ticked_on : is_reset_answer (ticked w.port.adjacency).answer ≡ false → GoesOn w (steps setup w (ticked w.port.adjacency))
  ticked_on over = answers_on (record w { port = record w.port { adjacency = (ticked w.port.adjacency).side } }) (option_map_or (λ (s : Session). s.expected) w.port.session 1) (ticked w.port.adjacency).answer live session refl over

-- *The whole tick* of a port whose lifetimes it reaches
pub ticks_left : (setup : Setup) (desk : Desk) (label n : ℕ) (w : Work) → w.halted ≡ false → is_some w.port.session ≡ true → is_reset_answer (ticked w.port.adjacency).answer ≡ false
    → Left setup label (suc n) w → Left setup label n (ticks setup desk w)
ticks_left setup desk label n w live session over h = by_session v.port.session refl
  where
    v : Work
    v = steps setup w (ticked w.port.adjacency)

    on : GoesOn w v
    on = ticked_on setup w live session over

    by_session : (o : Option Session) → v.port.session ≡ o → Left setup label n (ticks_session setup desk v o)
    by_session None is = absurd (cc (sym (ap is_some is) ∙ on.session))
    by_session (Some s) is =
        let aged : Work = fold (ages setup) v (map grant_label v.port.grants) in
        let rest : Calm aged.port.grants AnyActions any_more (ticks_session setup desk v (Some s)) = rest_calm aged.port.grants AnyActions any_more setup desk aged (calm_now aged) in
        subst (λ (gs : List Grant). AtMost setup label n (at grant_label label gs)) (sym rest.same)
        (all_age setup label n v on.live (subst (λ (gs : List Grant). AtMost setup label (suc n) (at grant_label label gs)) (sym on.grants) h))
