-- A tick of a grant's lifetime

use Rattle.std.proofs.Common.{◌≡◌, ℕ, ◌-◌, Bool, true, false, List, [], ◌∷◌, ◌++◌, refl, sym, ap, ◌∙◌, Some, if◌then◌else◌, arith, ◌⊎◌, inl, inr}
use Rattle.std.specs.Prelude.{not, nat_lt, ◌&&◌, ◌==◌}
use Rattle.std.proofs.lemmas.Bool.Decides.{nat_tests}
use Rattle.net_types.specs.declared.channel.End.{End}
use Rattle.keyed_lists.specs.Keyed.{at}
use Rattle.port_model.specs.declared.action.Action.{Action}
use Rattle.port_model.specs.declared.action.Action.TheVariants.{TakeBack}
use Rattle.port_model.specs.Setup.{Setup, label_end}
use Rattle.port_model.specs.Grants.{Grant, GrantState, Idle, ByController, ByInput, Leaving, grant_label, is_leaving}
use Rattle.port_model.specs.Port.{Port, Work}
use Rattle.port_model.specs.Ticks.{ages, ages_found, ages_in}
use Rattle.grant_table.specs.Table.{aged, runs_out}
use Rattle.port_state.specs.Parts.{with_grant, with_grants, without_grant}
use Rattle.port_saying.specs.Rules.{begun}
use Rattle.port_saying.proofs.Keys.{put_found, put_twice, without_put}

-- a grant that has some left
none_taken : (grant : Grant) (b : Bool) → nat_lt 0 grant.lifetime ≡ b → (if b then record grant { lifetime = grant.lifetime - 1 } else grant) ≡ record grant { lifetime = grant.lifetime - 1 }
none_taken grant true e = refl
none_taken grant false e =
    let none : grant.lifetime ≡ 0 = grind (arith, nat_tests, e) in
    let same : grant.lifetime ≡ grant.lifetime - 1 = omega arith in
    ap (λ (n : ℕ). record grant { lifetime = n }) same

-- one that runs out
none_left : (grant : Grant) → (grant.lifetime == 1) ≡ true → (if nat_lt 0 grant.lifetime then record grant { lifetime = grant.lifetime - 1 } else grant) ≡ record grant { lifetime = 0 }
none_left grant e =
    let one : grant.lifetime ≡ 1 = grind (arith, nat_tests, e) in
    let none : grant.lifetime - 1 ≡ 0 = omega arith in
    none_taken grant (nat_lt 0 grant.lifetime) refl ∙ ap (λ (n : ℕ). record grant { lifetime = n }) none

module _ (setup : Setup) (port : Port) (actions : List Action) (n : ℕ) where
  abbrev work : Work
  work = begun port actions n

  -- some is left, or it is leaving
  keeps : (grant : Grant) (state : GrantState) → grant.state ≡ state → at grant_label grant.label port.grants ≡ Some grant → (not (is_leaving state) && grant.lifetime == 1) ≡ false
      → ages_in setup work grant state ≡ begun (with_grant port (if not (is_leaving state) && nat_lt 0 grant.lifetime then record grant { lifetime = grant.lifetime - 1 } else grant)) actions n
  keeps grant Idle is found h = rw (h, none_taken grant (nat_lt 0 grant.lifetime) refl) refl
  keeps grant ByController is found h = rw (h, none_taken grant (nat_lt 0 grant.lifetime) refl) refl
  keeps grant (ByInput input) is found h = rw (h, none_taken grant (nat_lt 0 grant.lifetime) refl) refl
  keeps grant (Leaving input owed) is found h = ap (λ (gs : List Grant). begun (with_grants port gs) actions n) (sym (put_found grant_label grant port.grants found))

  pub ages_keeps : (grant : Grant) → at grant_label grant.label port.grants ≡ Some grant → runs_out grant ≡ false
      → ages setup work grant.label ≡ begun (with_grant port (aged grant)) actions n
  ages_keeps grant found h = ap (ages_found setup work) found ∙ keeps grant grant.state refl found h

  -- none is left: it ends
  pub ages_ends : (grant : Grant) → at grant_label grant.label port.grants ≡ Some grant → runs_out grant ≡ true → (grant.state ≡ Idle) ⊎ (grant.state ≡ ByController)
      → ages setup work grant.label ≡ begun (without_grant (with_grant port (aged grant)) grant.label) actions n
  ages_ends grant found h state = ap (ages_found setup work) found ∙ (by grant.state state (ended grant.state state h) ∙ ap (λ (gs : List Grant). begun (with_grants port gs) actions n) (sym (without_put grant_label (aged grant) grant.label port.grants (label_same grant))))
    where
      label_same : (g : Grant) → (aged g).label ≡ g.label
      label_same g = by_test (not (is_leaving g.state) && nat_lt 0 g.lifetime)
        where
          by_test : (b : Bool) → (if b then record g { lifetime = g.lifetime - 1 } else g).label ≡ g.label
          by_test true = refl
          by_test false = refl

      ended : (s : GrantState) → (s ≡ Idle) ⊎ (s ≡ ByController) → (not (is_leaving s) && grant.lifetime == 1) ≡ true → (grant.lifetime == 1) ≡ true
      ended Idle is h = h
      ended ByController is h = h
      ended (ByInput input) is h = h
      ended (Leaving input owed) is h = absurd (cc h)

      by : (s : GrantState) → (s ≡ Idle) ⊎ (s ≡ ByController) → (grant.lifetime == 1) ≡ true → ages_in setup work grant s ≡ begun (without_grant port grant.label) actions n
      by Idle is h = rw h refl
      by ByController is h = rw h refl
      by (ByInput input) is h = elim is [ inl e ↦ absurd (cc e) | inr e ↦ absurd (cc e) ]
      by (Leaving input owed) is h = elim is [ inl e ↦ absurd (cc e) | inr e ↦ absurd (cc e) ]

  -- or its join is taken back
  pub ages_leaves : (grant : Grant) (input : End) → at grant_label grant.label port.grants ≡ Some grant → runs_out grant ≡ true → grant.state ≡ ByInput input
      → ages setup work grant.label ≡ begun (with_grant (with_grant port (aged grant)) (record (aged grant) { state = Leaving input false })) (actions ++ TakeBack input (label_end setup.port grant.label) ∷ []) n
  ages_leaves grant input found h state = ap (ages_found setup work) found ∙ ap (ages_in setup work grant) state ∙ taken (rw state at h)
    where
      by_state : (s : GrantState) → s ≡ ByInput input → (grant.lifetime == 1) ≡ true
          → (if not (is_leaving s) && nat_lt 0 grant.lifetime then record grant { lifetime = grant.lifetime - 1 } else grant) ≡ record grant { lifetime = 0 }
      by_state Idle e one = absurd (cc e)
      by_state ByController e one = absurd (cc e)
      by_state (ByInput other) e one = none_left grant one
      by_state (Leaving other owed) e one = absurd (cc e)

      aged_is : (grant.lifetime == 1) ≡ true → aged grant ≡ record grant { lifetime = 0 }
      aged_is one = by_state grant.state state one

      taken : (grant.lifetime == 1) ≡ true → ages_in setup work grant (ByInput input)
          ≡ begun (with_grant (with_grant port (aged grant)) (record (aged grant) { state = Leaving input false })) (actions ++ TakeBack input (label_end setup.port grant.label) ∷ []) n
      taken one = rw (one, aged_is one)
          (ap (λ (gs : List Grant). begun (with_grants port gs) (actions ++ TakeBack input (label_end setup.port grant.label) ∷ []) n)
          (sym (put_twice grant_label (record grant { lifetime = 0 }) (record grant { lifetime = 0; state = Leaving input false }) port.grants refl)))

-- the label of a grant that has aged
pub aged_label : (g : Grant) → (aged g).label ≡ g.label
aged_label g = by (not (is_leaving g.state) && nat_lt 0 g.lifetime)
  where
    by : (b : Bool) → (if b then record g { lifetime = g.lifetime - 1 } else g).label ≡ g.label
    by true = refl
    by false = refl
