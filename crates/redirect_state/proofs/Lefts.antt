-- The grant at a place, as it is read, and what a reset leaves of it

use Rattle.std.proofs.Common.{◌≡◌, ℕ, ◌+◌, true, false, List, [], ◌∷◌, ◌++◌, take, map, refl, sym, ap, ◌∙◌, Option, None, Some, option_map, IfSome, slice_get, is_some, subst, ◌⊎◌, inl, inr, append_assoc}
use Rattle.std.specs.Option.{option_map_or}
use Rattle.port_session.proofs.Keyed.{at_key}
use Rattle.std.proofs.lemmas.List.{append-nil}
use Rattle.keyed_lists.specs.Keyed.{at, without}
use Rattle.grant_table.specs.Table.{AreApart, kind_of, view_of}
use Rattle.grant_table.specs.declared.table.GrantView.{GrantView}
use Rattle.grant_table.specs.declared.table.GrantState.TheVariants as states
use Rattle.port_model.specs.declared.action.Action.{Action}
use Rattle.port_model.specs.declared.action.Action.TheVariants.{CutChain, Note, Withdraw}
use Rattle.link_model.specs.declared.record.Record.TheVariants.{Closed}
use Rattle.port_model.specs.Setup.{Setup, control_end}
use Rattle.port_model.specs.Labels.{Label, label_number}
use Rattle.port_model.specs.Grants.{Grant, GrantState, Idle, ByController, ByInput, Leaving, grant_label, lent_input}
use Rattle.port_model.specs.Port.{Port, Session}
use Rattle.port_model.specs.Resets.{closing, left_of, left_in, withdrawing_in, withdrawing_of}
use Rattle.port_state.specs.Parts.{numbers_of, with_grant, without_grant}
use Rattle.redirect_state.specs.Rules.{IsOver}
use Rattle.redirect_state.proofs.Places.{ends_front, over_put, over_without, stays_front}

-- by its place, and by its label
pub record IsRead (xs : List Grant) (place label : ℕ) (shown : GrantView) (g : Grant) : Type 0 where
  pub is : slice_get xs place ≡ Some g
  pub key : g.label ≡ label
  pub read : view_of g ≡ shown

pub reads : (xs : List Grant) (place label : ℕ) (shown : GrantView) (g : Grant) → Some label ≡ option_map grant_label (slice_get xs place)
    → at grant_label label xs ≡ slice_get xs place → Some shown ≡ option_map view_of (at grant_label label xs) → slice_get xs place ≡ Some g → IsRead xs place label shown g
reads xs place label shown g labelled found viewed is =
    let one : Some label ≡ Some g.label = rw is at labelled in
    let two : Some shown ≡ Some (view_of g) = rw (found ∙ is) at viewed in
    let same : label ≡ g.label = cc one in
    let read : shown ≡ view_of g = cc two in
    record {
      is = is;
      key = sym same;
      read = sym read;
    }

-- one that no input is joined to ends
free_left : (g : Grant) (s : GrantState) → (kind_of s ≡ states.Idle) ⊎ (kind_of s ≡ states.ByController) → left_in g s ≡ []
free_left g Idle is = refl
free_left g ByController is = refl
free_left g (ByInput input) is = elim is [ inl e ↦ absurd (cc e) | inr e ↦ absurd (cc e) ]
free_left g (Leaving input owed) is = elim is [ inl e ↦ absurd (cc e) | inr e ↦ absurd (cc e) ]

module _ (xs : List Grant) (place label : ℕ) (shown : GrantView) (g : Grant) (r : IsRead xs place label shown g) where
  free_here : (shown.state ≡ states.Idle) ⊎ (shown.state ≡ states.ByController) → (kind_of g.state ≡ states.Idle) ⊎ (kind_of g.state ≡ states.ByController)
  free_here free = rw (sym r.read) at free

  pub leaves_none : (shown.state ≡ states.Idle) ⊎ (shown.state ≡ states.ByController) → left_of g ≡ []
  leaves_none free = free_left g g.state (free_here free)

-- one that is lent is to end when its input is released
pub record IsLent (port next : Port) (g left : Grant) : Type 0 where
  pub is : next ≡ with_grant port left
  pub key : left.label ≡ g.label
  pub stays : left_of g ≡ left ∷ []

lent_by : (port next : Port) (g : Grant) (s : GrantState) → g.state ≡ s → (kind_of s ≡ states.ByInput) ⊎ (kind_of s ≡ states.Leaving)
    → IfSome (lent_input s) (λ input. next ≡ with_grant port (record g { state = Leaving input false })) → (left : Grant) × IsLent port next g left
lent_by port next g Idle e is h = elim is [ inl e ↦ absurd (cc e) | inr e ↦ absurd (cc e) ]
lent_by port next g ByController e is h = elim is [ inl e ↦ absurd (cc e) | inr e ↦ absurd (cc e) ]
lent_by port next g (ByInput input) e is h = (record g { state = Leaving input false }, record { is = h; key = refl; stays = ap (left_in g) e })
lent_by port next g (Leaving input owed) e is h = (record g { state = Leaving input false }, record { is = h; key = refl; stays = ap (left_in g) e })

pub lent_left : (port next : Port) (place label : ℕ) (shown : GrantView) (g : Grant) → IsRead port.grants place label shown g → at grant_label label port.grants ≡ slice_get port.grants place
    → (shown.state ≡ states.ByInput) ⊎ (shown.state ≡ states.Leaving)
    → IfSome (at grant_label label port.grants) (λ grant. IfSome (lent_input grant.state) (λ input. next ≡ with_grant port (record grant { state = Leaving input false })))
    → (left : Grant) × IsLent port next g left
lent_left port next place label shown g r found lent h =
    lent_by port next g g.state refl (rw (sym r.read) at lent) (rw (found ∙ r.is) at h)

-- *A session closes*
chains : (labels : List Label) → map (λ (number : ℕ). CutChain number) (map label_number labels) ≡ map (λ (label : Label). CutChain label.number) labels
chains [] = refl
chains (label ∷ labels) = ap (λ (t : List Action). CutChain label.number ∷ t) (chains labels)

pub closes_all : (setup : Setup) (port : Port) (before first last : List Action) → is_some port.session ≡ true → first ≡ before ++ Note (Closed setup.node setup.port) ∷ []
    → first ++ map (λ (number : ℕ). CutChain number) (numbers_of port) ≡ last → last ≡ before ++ closing setup port.session
closes_all setup port before first last held noted done = by port.session held done
  where
    by : (o : Option Session) → is_some o ≡ true → first ++ map (λ (number : ℕ). CutChain number) (map label_number (option_map_or (λ (s : Session). s.labels) o [])) ≡ last → last ≡ before ++ closing setup o
    by None e h = absurd (cc e)
    by (Some s) e h =
        sym h
        ∙ ap (λ (t : List Action). t ++ map (λ (number : ℕ). CutChain number) (map label_number s.labels)) noted
        ∙ append_assoc before (Note (Closed setup.node setup.port) ∷ []) (map (λ (number : ℕ). CutChain number) (map label_number s.labels))
        ∙ ap (λ (t : List Action). before ++ Note (Closed setup.node setup.port) ∷ t) (chains s.labels)

-- *A request is withdrawn* for a branch of a grant that ends
pub withdraws_free : (setup : Setup) (xs : List Grant) (label : ℕ) (shown : GrantView) (P : List Action → Type 0) → Some shown ≡ option_map view_of (at grant_label label xs)
    → (shown.state ≡ states.Idle) ⊎ (shown.state ≡ states.ByController) → P (Withdraw (control_end setup.port label) ∷ [])
    → IfSome (at grant_label label xs) (λ grant. P (withdrawing_of setup grant))
withdraws_free setup xs label shown P viewed free h = by (at grant_label label xs) refl viewed
  where
    in_state : (g : Grant) (s : GrantState) → (kind_of s ≡ states.Idle) ⊎ (kind_of s ≡ states.ByController) → P (Withdraw (control_end setup.port g.label) ∷ []) → P (withdrawing_in setup g.label s)
    in_state g Idle is p = p
    in_state g ByController is p = p
    in_state g (ByInput input) is p = elim is [ inl e ↦ absurd (cc e) | inr e ↦ absurd (cc e) ]
    in_state g (Leaving input owed) is p = elim is [ inl e ↦ absurd (cc e) | inr e ↦ absurd (cc e) ]

    by : (o : Option Grant) → at grant_label label xs ≡ o → Some shown ≡ option_map view_of o → IfSome o (λ grant. P (withdrawing_of setup grant))
    by None found e = tt
    by (Some g) found e =
        let same : shown ≡ view_of g = cc e in
        in_state g g.state (rw same at free) (subst (λ (l : ℕ). P (Withdraw (control_end setup.port l) ∷ [])) (sym (at_key grant_label label xs g found)) h)

-- *The list behind it*
pub left_front : (port next : Port) (place label : ℕ) (shown : GrantView) (g : Grant) → AreApart port.grants → IsRead port.grants place label shown g
    → (left : Grant) × IsLent port next g left → take (place + 1) next.grants ≡ take place port.grants ++ left_of g
left_front port next place label shown g apart r h =
    ap (λ (p : Port). take (place + 1) p.grants) h.1.is
    ∙ stays_front port.grants place g h.0 apart r.is h.1.key
    ∙ ap (λ (t : List Grant). take place port.grants ++ t) (sym h.1.stays)

pub left_over : (port next : Port) (place label : ℕ) (shown : GrantView) (g : Grant) → AreApart port.grants → IsRead port.grants place label shown g
    → (left : Grant) × IsLent port next g left → IsOver port.grants next.grants place (place + 1)
left_over port next place label shown g apart r h =
    subst (λ (p : Port). IsOver port.grants p.grants place (place + 1)) (sym h.1.is) (over_put port.grants place g h.0 apart r.is h.1.key)

pub gone_front : (port next : Port) (place label : ℕ) (shown : GrantView) (g : Grant) → AreApart port.grants → IsRead port.grants place label shown g
    → (shown.state ≡ states.Idle) ⊎ (shown.state ≡ states.ByController) → next ≡ without_grant port label → take place next.grants ≡ take place port.grants ++ left_of g
gone_front port next place label shown g apart r free gone =
    ap (λ (p : Port). take place p.grants) gone
    ∙ ap (λ (l : ℕ). take place (without grant_label l port.grants)) (sym r.key)
    ∙ ends_front port.grants place g apart r.is
    ∙ sym (append-nil (take place port.grants))
    ∙ ap (λ (t : List Grant). take place port.grants ++ t) (sym (leaves_none port.grants place label shown g r free))

pub gone_over : (port next : Port) (place label : ℕ) (shown : GrantView) (g : Grant) → AreApart port.grants → IsRead port.grants place label shown g
    → next ≡ without_grant port label → IsOver port.grants next.grants place place
gone_over port next place label shown g apart r gone =
    subst (λ (p : Port). IsOver port.grants p.grants place place) (sym (gone ∙ ap (without_grant port) (sym r.key))) (over_without port.grants place g apart r.is)
