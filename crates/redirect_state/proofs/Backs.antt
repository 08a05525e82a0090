-- A leaving grant ends when its input is released

use Rattle.std.proofs.Common.{◌≡◌, ℕ, true, false, List, refl, sym, ap, ◌∙◌, Some, option_map}
use Rattle.net_types.specs.Label.{label_channel_of}
use Rattle.gsmp_wire.specs.declared.request.Request.{Request}
use Rattle.keyed_lists.specs.Keyed.{at}
use Rattle.grant_table.specs.Table.{can_end, is_owed}
use Rattle.port_model.specs.declared.action.Action.{Action}
use Rattle.port_model.specs.Grants.{Grant, GrantState, Idle, ByController, ByInput, Leaving, grant_label}
use Rattle.port_model.specs.Port.{Port}
use Rattle.port_model.specs.Joins.{given_back, given_back_in}
use Rattle.port_model.specs.Saying.{reclaim_ack, tells}
use Rattle.port_session.proofs.Keyed.{at_key}
use Rattle.port_state.specs.Parts.{without_grant}
use Rattle.port_saying.specs.Rules.{begun}

module _ (port next : Port) (actions : List Action) (n label : ℕ) (g : Grant) (request : Request) (found : at grant_label label port.grants ≡ Some g)
    (leaving : can_end (Some request) g.state ≡ true) (gone : next ≡ without_grant port label) where
  ends_as : next ≡ without_grant port g.label
  ends_as = gone ∙ ap (without_grant port) (sym (at_key grant_label label port.grants g found))

  -- an acknowledgement isn't owed, or is
  pub ends_unowed : option_map (λ grant. is_owed grant.state) (at grant_label label port.grants) ≡ Some false → given_back (begun port actions n) g ≡ begun next actions n
  ends_unowed owed =
      let one : Some (is_owed g.state) ≡ Some false = rw found at owed in
      let none : is_owed g.state ≡ false = cc one in
      by g.state leaving none ∙ ap (λ (p : Port). begun p actions n) (sym ends_as)
    where
      by : (s : GrantState) → can_end (Some request) s ≡ true → is_owed s ≡ false → given_back_in (begun port actions n) g s ≡ begun (without_grant port g.label) actions n
      by Idle r e = absurd (cc r)
      by ByController r e = absurd (cc r)
      by (ByInput input) r e = absurd (cc r)
      by (Leaving input true) r e = absurd (cc e)
      by (Leaving input false) r e = refl

  pub ends_owed : option_map (λ grant. is_owed grant.state) (at grant_label label port.grants) ≡ Some true
      → given_back (begun port actions n) g ≡ tells (begun next actions n) (reclaim_ack (label_channel_of label) g.flow)
  ends_owed owed =
      let one : Some (is_owed g.state) ≡ Some true = rw found at owed in
      let some : is_owed g.state ≡ true = cc one in
      by g.state leaving some
      ∙ ap (λ (p : Port). tells (begun p actions n) (reclaim_ack (label_channel_of g.label) g.flow)) (sym ends_as)
      ∙ ap (λ (l : ℕ). tells (begun next actions n) (reclaim_ack (label_channel_of l) g.flow)) (at_key grant_label label port.grants g found)
    where
      by : (s : GrantState) → can_end (Some request) s ≡ true → is_owed s ≡ true
          → given_back_in (begun port actions n) g s ≡ tells (begun (without_grant port g.label) actions n) (reclaim_ack (label_channel_of g.label) g.flow)
      by Idle r e = absurd (cc r)
      by ByController r e = absurd (cc r)
      by (ByInput input) r e = absurd (cc r)
      by (Leaving input true) r e = refl
      by (Leaving input false) r e = absurd (cc e)
