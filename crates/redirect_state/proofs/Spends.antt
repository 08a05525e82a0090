-- A grant whose lifetime runs out at a tick, as it is read behind it

use Rattle.std.proofs.Common.{◌≡◌, ℕ, zero, suc, ◌+◌, ◌-◌, ◌<◌, Bool, true, false, List, [], ◌∷◌, ◌++◌, length, refl, sym, ap, ◌∙◌, subst, Option, None, Some, option_map, IfSome, slice_get, if◌then◌else◌, ◌⊎◌, inl, inr, arith}
use Rattle.std.specs.Prelude.{not, nat_lt, ◌&&◌, ◌==◌}
use Rattle.net_types.specs.declared.channel.End.{End}
use Rattle.keyed_lists.specs.Keyed.{at, put}
use Rattle.grant_table.specs.Table.{AreApart, aged, kind_of, runs_out, view_of}
use Rattle.grant_table.specs.declared.table.GrantView.{GrantView}
use Rattle.grant_table.specs.declared.table.GrantState.TheVariants as states
use Rattle.port_model.specs.declared.action.Action.{Action}
use Rattle.port_model.specs.Setup.{Setup}
use Rattle.port_model.specs.Grants.{Grant, GrantState, Idle, ByController, ByInput, Leaving, grant_label, lent_input, is_leaving}
use Rattle.port_model.specs.Port.{Port}
use Rattle.port_model.specs.Ticks.{ages}
use Rattle.port_state.specs.Parts.{with_grant, without_grant}
use Rattle.port_saying.specs.Rules.{begun}
use Rattle.port_saying.proofs.Keys.{at_put}
use Rattle.port_hearing.specs.Joins.{taken_back}
use Rattle.redirect_state.specs.Rules.{IsOver}
use Rattle.redirect_state.proofs.Ages.{aged_label, ages_ends, ages_leaves}
use Rattle.redirect_state.proofs.Places.{over_ended, over_put, over_twice}

pub at_place : {A : Type 0} (xs : List A) (i : ℕ) → i < length xs → (x : A) × (slice_get xs i ≡ Some x)
at_place [] i inside = absurd (omega arith)
at_place (x ∷ xs) zero inside = (x, refl)
at_place (x ∷ xs) (suc i) inside = at_place xs i (omega arith)

pub not_out : (b : Bool) (label : ℕ) → None ≡ (if b then Some label else None) → b ≡ false
not_out true label e = absurd (cc e)
not_out false label e = refl

out_of : (b : Bool) (label vci : ℕ) → Some vci ≡ (if b then Some label else None) → (b ≡ true) × (label ≡ vci)
out_of true label vci e = (refl, (cc e))
out_of false label vci e = absurd (cc e)

aged_state : (g : Grant) → (aged g).state ≡ g.state
aged_state g = by (not (is_leaving g.state) && nat_lt 0 g.lifetime)
  where
    by : (b : Bool) → (if b then record g { lifetime = g.lifetime - 1 } else g).state ≡ g.state
    by true = refl
    by false = refl

-- *Some is left*
pub over_aged : (port next : Port) (place : ℕ) → AreApart port.grants → place < length port.grants
    → IfSome (slice_get port.grants place) (λ grant. next ≡ with_grant port (aged grant)) → IsOver port.grants next.grants place (place + 1)
over_aged port next place apart inside changed =
    let there = at_place port.grants place inside in
    let is : next ≡ with_grant port (aged there.0) = rw there.1 at changed in
    subst (λ (p : Port). IsOver port.grants p.grants place (place + 1)) (sym is) (over_put port.grants place there.0 (aged there.0) apart there.1 (aged_label there.0))

-- *None is left*
pub record IsSpent (port next : Port) (place vci : ℕ) (g : Grant) : Type 0 where
  pub is : slice_get port.grants place ≡ Some g
  pub out : runs_out g ≡ true
  pub label : g.label ≡ vci
  pub came : next ≡ with_grant port (aged g)
  pub here : at grant_label g.label port.grants ≡ Some g
  pub found : at grant_label vci next.grants ≡ Some (aged g)

pub spent_at : (port next : Port) (place vci : ℕ) (g : Grant) → slice_get port.grants place ≡ Some g
    → IfSome (slice_get port.grants place) (λ grant. next ≡ with_grant port (aged grant))
    → IfSome (slice_get port.grants place) (λ grant. Some vci ≡ (if runs_out grant then Some grant.label else None))
    → IfSome (slice_get port.grants place) (λ grant. at grant_label grant.label port.grants ≡ Some grant) → IsSpent port next place vci g
spent_at port next place vci g is changed told found =
    let one = out_of (runs_out g) g.label vci (rw is at told) in
    let there : next ≡ with_grant port (aged g) = rw is at changed in
    let here : at grant_label g.label port.grants ≡ Some g = rw is at found in
    let key : (aged g).label ≡ vci = aged_label g ∙ one.1 in
    record {
      is = is;
      out = one.0;
      label = one.1;
      came = there;
      here = here;
      found = ap (λ (p : Port). at grant_label vci p.grants) there
          ∙ subst (λ (k : ℕ). at grant_label k (put grant_label (aged g) port.grants) ≡ Some (aged g)) key
          (at_put grant_label (aged g) g port.grants (ap (λ (k : ℕ). at grant_label k port.grants) (aged_label g) ∙ here));
    }

pub spent : (port next : Port) (place vci : ℕ) → place < length port.grants
    → IfSome (slice_get port.grants place) (λ grant. next ≡ with_grant port (aged grant))
    → IfSome (slice_get port.grants place) (λ grant. Some vci ≡ (if runs_out grant then Some grant.label else None))
    → IfSome (slice_get port.grants place) (λ grant. at grant_label grant.label port.grants ≡ Some grant) → (g : Grant) × IsSpent port next place vci g
spent port next place vci inside changed told found =
    let there = at_place port.grants place inside in
    (there.0, spent_at port next place vci there.0 there.1 changed told found)

module _ (port next : Port) (place vci : ℕ) (g : Grant) (s : IsSpent port next place vci g) where
  -- it is read behind the tick
  pub never_none : None ≡ option_map view_of (at grant_label vci next.grants) → ⊥
  never_none e = let clash : None ≡ Some (view_of (aged g)) = rw s.found at e in absurd (cc clash)

  module _ (shown : GrantView) (viewed : Some shown ≡ option_map view_of (at grant_label vci next.grants)) where
    shown_is : shown ≡ view_of (aged g)
    shown_is = let one : Some shown ≡ Some (view_of (aged g)) = rw s.found at viewed in cc one

    kind_is : shown.state ≡ kind_of g.state
    kind_is = ap (λ (v : GrantView). v.state) shown_is ∙ ap kind_of (aged_state g)

    -- it isn't leaving
    pub never_leaving : shown.state ≡ states.Leaving → ⊥
    never_leaving e = by g.state (sym kind_is ∙ e) s.out
      where
        by : (state : GrantState) → kind_of state ≡ states.Leaving → (not (is_leaving state) && g.lifetime == 1) ≡ true → ⊥
        by Idle e o = absurd (cc e)
        by ByController e o = absurd (cc e)
        by (ByInput input) e o = absurd (cc e)
        by (Leaving input owed) e o = absurd (cc o)

    free_is : (shown.state ≡ states.Idle) ⊎ (shown.state ≡ states.ByController) → (g.state ≡ Idle) ⊎ (g.state ≡ ByController)
    free_is free = by g.state (rw kind_is at free)
      where
        by : (state : GrantState) → (kind_of state ≡ states.Idle) ⊎ (kind_of state ≡ states.ByController) → (state ≡ Idle) ⊎ (state ≡ ByController)
        by Idle e = inl refl
        by ByController e = inr refl
        by (ByInput input) e = elim e [ inl x ↦ absurd (cc x) | inr x ↦ absurd (cc x) ]
        by (Leaving input owed) e = elim e [ inl x ↦ absurd (cc x) | inr x ↦ absurd (cc x) ]

    lent_is : shown.state ≡ states.ByInput → (input : End) × (g.state ≡ ByInput input)
    lent_is lent = by g.state (sym kind_is ∙ lent)
      where
        by : (state : GrantState) → kind_of state ≡ states.ByInput → (input : End) × (state ≡ ByInput input)
        by Idle e = absurd (cc e)
        by ByController e = absurd (cc e)
        by (ByInput input) e = (input, refl)
        by (Leaving input owed) e = absurd (cc e)

    -- one that no input is joined to ends
    pub spent_ends : (setup : Setup) (last : Port) (actions : List Action) (n : ℕ) → (shown.state ≡ states.Idle) ⊎ (shown.state ≡ states.ByController) → last ≡ without_grant next vci
        → ages setup (begun port actions n) g.label ≡ begun last actions n
    spent_ends setup last actions n free gone =
        ages_ends setup port actions n g s.here s.out (free_is free)
        ∙ ap (λ (p : Port). begun (without_grant p g.label) actions n) (sym s.came)
        ∙ ap (λ (l : ℕ). begun (without_grant next l) actions n) s.label
        ∙ ap (λ (p : Port). begun p actions n) (sym gone)

    pub spent_ends_over : (last : Port) → AreApart port.grants → last ≡ without_grant next vci → IsOver port.grants last.grants place place
    spent_ends_over last apart gone =
        subst (λ (p : Port). IsOver port.grants p.grants place place) (sym (gone ∙ ap (without_grant next) (sym s.label) ∙ ap (λ (p : Port). without_grant p g.label) s.came))
        (over_ended port.grants place g (aged g) apart s.is (aged_label g))

    -- the join of one that is lent is taken back
    lent_next : (input : End) (last : Port) → g.state ≡ ByInput input
        → IfSome (at grant_label vci next.grants) (λ grant. IfSome (lent_input grant.state) (λ i. last ≡ with_grant next (record grant { state = Leaving i false })))
        → last ≡ with_grant (with_grant port (aged g)) (record (aged g) { state = Leaving input false })
    lent_next input last lent left =
        let there : IfSome (lent_input (aged g).state) (λ i. last ≡ with_grant next (record (aged g) { state = Leaving i false })) = rw s.found at left in
        let known : last ≡ with_grant next (record (aged g) { state = Leaving input false }) =
        subst (λ (state : GrantState). IfSome (lent_input state) (λ i. last ≡ with_grant next (record (aged g) { state = Leaving i false }))) (aged_state g ∙ lent) there in
        known ∙ ap (λ (p : Port). with_grant p (record (aged g) { state = Leaving input false })) s.came

    pub spent_leaves : (setup : Setup) (last : Port) (actions more : List Action) (n : ℕ) → shown.state ≡ states.ByInput
        → IfSome (at grant_label vci next.grants) (λ grant. IfSome (lent_input grant.state) (λ i. last ≡ with_grant next (record grant { state = Leaving i false })))
        → more ≡ actions ++ taken_back setup.port vci shown.input
        → ages setup (begun port actions n) g.label ≡ begun last more n
    spent_leaves setup last actions more n lent left taken =
        let input = lent_is lent in
        let shown_input : shown.input ≡ Some input.0 = ap (λ (v : GrantView). v.input) shown_is ∙ ap lent_input (aged_state g ∙ input.1) in
        let asked : more ≡ actions ++ taken_back setup.port g.label (Some input.0) = taken ∙ ap (λ (i : Option End). actions ++ taken_back setup.port vci i) shown_input ∙ ap (λ (l : ℕ). actions ++ taken_back setup.port l (Some input.0)) (sym s.label) in
        ages_leaves setup port actions n g input.0 s.here s.out input.1
        ∙ ap (λ (p : Port). begun p (actions ++ taken_back setup.port g.label (Some input.0)) n) (sym (lent_next input.0 last input.1 left))
        ∙ ap (λ (actions : List Action). begun last actions n) (sym asked)

    pub spent_leaves_over : (last : Port) → AreApart port.grants → shown.state ≡ states.ByInput
        → IfSome (at grant_label vci next.grants) (λ grant. IfSome (lent_input grant.state) (λ i. last ≡ with_grant next (record grant { state = Leaving i false })))
        → IsOver port.grants last.grants place (place + 1)
    spent_leaves_over last apart lent left =
        let input = lent_is lent in
        subst (λ (p : Port). IsOver port.grants p.grants place (place + 1)) (sym (lent_next input.0 last input.1 left))
        (over_twice port.grants place g (aged g) (record (aged g) { state = Leaving input.0 false }) apart s.is (aged_label g) (aged_label g))
