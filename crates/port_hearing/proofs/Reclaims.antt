-- A label that is recalled and acknowledged, and a grant that is reclaimed

use Rattle.std.proofs.Common.{◌≡◌, ℕ, true, List, ◌++◌, refl, sym, ap, ◌∙◌, Option, None, Some, option_map, IfSome, IsTrue, is_some, ◌⊎◌, inl, inr}
use Rattle.net_types.specs.declared.channel.Channel.{Channel}
use Rattle.keyed_lists.specs.Keyed.{at}
use Rattle.port_model.specs.Desk.{Desk}
use Rattle.port_labels.specs.Book.{acknowledged, is_recalled}
use Rattle.grant_table.specs.Table.{kind_of, view_of}
use Rattle.grant_table.specs.declared.table.GrantView.{GrantView}
use Rattle.grant_table.specs.declared.table.GrantState.TheVariants as states
use Rattle.port_model.specs.declared.action.Action.{Action}
use Rattle.port_model.specs.Setup.{Setup}
use Rattle.port_model.specs.Labels.{Label, LabelState, Wiring, Offered, Recalled, Wired, label_number}
use Rattle.port_model.specs.Grants.{Grant, GrantState, Idle, ByController, ByInput, Leaving, grant_label, lent_input}
use Rattle.port_model.specs.Port.{Port, Session, label_at}
use Rattle.port_model.specs.Saying.{reclaim_ack, says}
use Rattle.port_model.specs.Adjacency.{quits}
use Rattle.port_model.specs.Reclaiming.{acknowledged_in, reclaimed_in}
use Rattle.port_state.proofs.port_session.Keyed.{at_key}
use Rattle.port_state.specs.Parts.{numbers_of, with_grant, with_label, without_grant}
use Rattle.port_saying.specs.Rules.{begun}
use Rattle.port_saying.proofs.Sessions.{in_session, numbers_kept}
use Rattle.port_hearing.specs.Joins.{taken_back}

-- *A label that is held is changed*: the numbers stay
pub changed_numbers : (port next : Port) (found : Option Label) (label : Label) (change : Label → Label) → found ≡ Some label
    → IfSome found (λ l. next ≡ with_label port (change l)) → numbers_of next ≡ numbers_of port
changed_numbers port next None label change e h = absurd (cc e)
changed_numbers port next (Some l) label change e h = ap numbers_of h ∙ numbers_kept port (change l)

-- by what its session is
pub reclaimed_numbers : (port next : Port) (number : ℕ) (label : Label) (change : Label → Session → Label) → label_at port number ≡ Some label
    → IfSome (label_at port number) (λ l. IfSome port.session (λ s. next ≡ with_label port (change l s))) → numbers_of next ≡ numbers_of port
reclaimed_numbers port next number label change found h = by port.session (in_session port number label found) (rw found at h)
  where
    by : (o : Option Session) → is_some o ≡ true → IfSome o (λ s. next ≡ with_label port (change label s)) → numbers_of next ≡ numbers_of port
    by None e h = absurd (cc e)
    by (Some s) e h = ap numbers_of h ∙ numbers_kept port (change label s)

-- *A label is acknowledged*
pub acks_next : (setup : Setup) (desk : Desk) (port next : Port) (actions : List Action) (n number : ℕ) (label other : Label) → label_at port number ≡ Some label
    → label_at port number ≡ Some other → IsTrue (is_recalled other.state)
    → IfSome (label_at port number) (λ l. next ≡ with_label port (record l { state = acknowledged l.state }))
    → acknowledged_in setup desk (begun port actions n) label label.state ≡ quits setup desk (begun next actions n) number
acks_next setup desk port next actions n number label other found also recalled changed =
    let one : Some label ≡ Some other = sym found ∙ also in
    let same : other ≡ label = cc one in
    by label.state (rw same at recalled)
    ∙ ap (λ (p : Port). quits setup desk (begun p actions n) label.number) (sym (rw found at changed))
    ∙ ap (quits setup desk (begun next actions n)) (at_key label_number number _ label found)
  where
    by : (s : LabelState) → IsTrue (is_recalled s) → acknowledged_in setup desk (begun port actions n) label s ≡ quits setup desk (begun (with_label port (record label { state = acknowledged s })) actions n) label.number
    by Wiring h = absurd (cc h)
    by Offered h = absurd (cc h)
    by (Recalled last known) h = refl
    by Wired h = absurd (cc h)

-- *A grant is reclaimed*: one that no input is joined to ends
pub reclaims_free : (setup : Setup) (port next : Port) (actions : List Action) (n : ℕ) (channel : Channel) (label : ℕ) (g : Grant) (shown : GrantView)
    → at grant_label label port.grants ≡ Some g → option_map view_of (at grant_label label port.grants) ≡ Some shown
    → (shown.state ≡ states.Idle) ⊎ (shown.state ≡ states.ByController) → next ≡ without_grant port label
    → reclaimed_in setup (begun port actions n) channel g g.state ≡ says (begun next actions n) (reclaim_ack channel shown.flow)
reclaims_free setup port next actions n channel label g shown found viewed free gone =
    let one : Some (view_of g) ≡ Some shown = rw found at viewed in
    let same : shown ≡ view_of g = cc one in
    by g.state (rw same at free)
    ∙ ap (λ (l : ℕ). says (begun (without_grant port l) actions n) (reclaim_ack channel g.flow)) (at_key grant_label label port.grants g found)
    ∙ ap (λ (p : Port). says (begun p actions n) (reclaim_ack channel g.flow)) (sym gone)
    ∙ ap (λ (v : GrantView). says (begun next actions n) (reclaim_ack channel v.flow)) (sym same)
  where
    by : (s : GrantState) → (kind_of s ≡ states.Idle) ⊎ (kind_of s ≡ states.ByController)
        → reclaimed_in setup (begun port actions n) channel g s ≡ says (begun (without_grant port g.label) actions n) (reclaim_ack channel g.flow)
    by Idle is = refl
    by ByController is = refl
    by (ByInput input) is = elim is [ inl e ↦ absurd (cc e) | inr e ↦ absurd (cc e) ]
    by (Leaving input owed) is = elim is [ inl e ↦ absurd (cc e) | inr e ↦ absurd (cc e) ]

-- the join of one that is lent is taken back
pub reclaims_lent : (setup : Setup) (port next : Port) (actions more : List Action) (n : ℕ) (channel : Channel) (label : ℕ) (g : Grant) (shown : GrantView)
    → at grant_label label port.grants ≡ Some g → option_map view_of (at grant_label label port.grants) ≡ Some shown
    → shown.state ≡ states.ByInput
    → IfSome (at grant_label label port.grants) (λ grant. IfSome (lent_input grant.state) (λ input. next ≡ with_grant port (record grant { state = Leaving input true })))
    → more ≡ actions ++ taken_back setup.port label shown.input
    → reclaimed_in setup (begun port actions n) channel g g.state ≡ begun next more n
reclaims_lent setup port next actions more n channel label g shown found viewed lent left taken =
    let one : Some (view_of g) ≡ Some shown = rw found at viewed in
    let same : shown ≡ view_of g = cc one in
    let key : g.label ≡ label = at_key grant_label label port.grants g found in
    by g.state (rw same at lent) (rw found at left) (taken ∙ rw (same, key) refl)
  where
    by : (s : GrantState) → kind_of s ≡ states.ByInput → IfSome (lent_input s) (λ input. next ≡ with_grant port (record g { state = Leaving input true }))
        → more ≡ actions ++ taken_back setup.port g.label (lent_input s) → reclaimed_in setup (begun port actions n) channel g s ≡ begun next more n
    by Idle is h t = absurd (cc is)
    by ByController is h t = absurd (cc is)
    by (ByInput input) is h t = rw (h, t) refl
    by (Leaving input owed) is h t = absurd (cc is)
