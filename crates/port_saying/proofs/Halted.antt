-- A port that has asked to be reset does nothing more.

use Rattle.std.proofs.Common.{◌≡◌, ℕ, Bool, true, false, List, refl, ap, ◌∙◌, Option, None, Some, if◌then◌else◌}
use Rattle.std.specs.Prelude.{nat_lt, map, fold}
use Rattle.net_types.specs.declared.channel.End.{End}
use Rattle.port_model.specs.Desk.{Desk}
use Rattle.port_model.specs.declared.action.Action.{Action}
use Rattle.port_model.specs.Setup.{Setup}
use Rattle.port_model.specs.Labels.{Label, LabelState, Wiring, Offered, Recalled, Wired, label_number}
use Rattle.port_model.specs.Grants.{Grant, GrantState, Idle, ByController, ByInput, Leaving, grant_label}
use Rattle.port_model.specs.Port.{Port, Session, Work, label_at, labels_of}
use Rattle.port_model.specs.Saying.{Unnumbered, halts_if_spent, is_spent, last_number, says, tells_in, redirect, reclaim, label_range}
use Rattle.port_model.specs.Adjacency.{quits, quits_found, quits_in, unwires}
use Rattle.port_model.specs.Reclaiming.{recalls, recalls_in, recalls_offered, recalls_outside, reclaims, reclaims_in, unjoins}
use Rattle.port_model.specs.Ticks.{ages, ages_found, ages_in, expires, idles, moves_windows, nudges, one_idler, one_older, refreshes, ticks_found, ticks_in, ticks_label, ticks_next, ticks_session}
use Rattle.port_saying.specs.Rules.{stopped}
use Rattle.port_saying.proofs.Rounds.{round_still}
use Rattle.keyed_lists.specs.Keyed.{at}

pub either : {A : Type 0} (b : Bool) (x y z : A) → x ≡ z → y ≡ z → (if b then x else y) ≡ z
either true x y z p q = p
either false x y z p q = q

module _ (port : Port) (actions : List Action) (n : ℕ) where
  abbrev halt : Work
  halt = stopped port actions n

  told : (message : Unnumbered) (o : Option Session) → tells_in halt message o ≡ halt
  told message None = refl
  told message (Some s) = either (nat_lt s.number last_number) halt halt halt refl refl

  pub says_nothing : (message : Unnumbered) → says halt message ≡ halt
  says_nothing message = ap halts_if_spent (told message port.session) ∙ either (is_spent port.session) halt halt halt refl refl

  pub unwires_nothing : (setup : Setup) (desk : Desk) (number : ℕ) → unwires setup desk halt number ≡ halt
  unwires_nothing setup desk number = either _ halt halt halt refl refl

  quits_none : (setup : Setup) (desk : Desk) (label : Label) (state : LabelState) → quits_in setup desk halt label state ≡ halt
  quits_none setup desk label Wiring = refl
  quits_none setup desk label Offered = refl
  quits_none setup desk label (Recalled last true) = either _ _ halt halt (unwires_nothing setup desk label.number) refl
  quits_none setup desk label (Recalled last false) = refl
  quits_none setup desk label Wired = refl

  quits_nothing_found : (setup : Setup) (desk : Desk) (o : Option Label) → quits_found setup desk halt o ≡ halt
  quits_nothing_found setup desk None = refl
  quits_nothing_found setup desk (Some label) = quits_none setup desk label label.state

  pub quits_nothing : (setup : Setup) (desk : Desk) (number : ℕ) → quits setup desk halt number ≡ halt
  quits_nothing setup desk number = quits_nothing_found setup desk (label_at port number)

  reclaims_none : (label : Label) (o : Option Session) → reclaims_in halt label o ≡ halt
  reclaims_none label None = refl
  reclaims_none label (Some s) = says_nothing (reclaim label)

  pub reclaims_nothing : (label : Label) → reclaims halt label ≡ halt
  reclaims_nothing label = reclaims_none label port.session

  unjoins_nothing : (setup : Setup) (number : ℕ) (join : Option End) → unjoins setup halt number join ≡ halt
  unjoins_nothing setup number None = refl
  unjoins_nothing setup number (Some output) = refl

  pub recalls_nothing : (setup : Setup) (label : Label) → recalls setup halt label ≡ halt
  recalls_nothing setup label = ap (λ w. unjoins setup w label.number label.join) (reclaims_nothing label) ∙ unjoins_nothing setup label.number label.join

  recalls_none : (setup : Setup) (label : Label) (state : LabelState) → recalls_in setup halt label state ≡ halt
  recalls_none setup label Wiring = refl
  recalls_none setup label Offered = recalls_nothing setup label
  recalls_none setup label (Recalled last acknowledged) = refl
  recalls_none setup label Wired = refl

  offered_nothing : (setup : Setup) (o : Option Label) → recalls_offered setup halt o ≡ halt
  offered_nothing setup None = refl
  offered_nothing setup (Some label) = recalls_none setup label label.state

  pub outside_nothing : (setup : Setup) (number : ℕ) → recalls_outside setup halt number ≡ halt
  outside_nothing setup number = either _ _ halt halt (offered_nothing setup (label_at port number)) refl

  refreshes_nothing : (setup : Setup) (label : Label) → refreshes setup halt label ≡ halt
  refreshes_nothing setup label = either _ _ halt halt (says_nothing (redirect setup (record label { ticks = 0 }))) refl

  idles_nothing : (setup : Setup) (label : Label) → idles setup halt label ≡ halt
  idles_nothing setup label = either _ _ _ halt (refreshes_nothing setup (one_older label)) (recalls_nothing setup label)

  ticks_none : (setup : Setup) (desk : Desk) (label : Label) (state : LabelState) → ticks_in setup desk halt label state ≡ halt
  ticks_none setup desk label Wiring = refl
  ticks_none setup desk label Offered = either _ _ _ halt (idles_nothing setup (one_idler label)) (refreshes_nothing setup (one_older label))
  ticks_none setup desk label (Recalled last true) = refl
  ticks_none setup desk label (Recalled last false) = reclaims_nothing label
  ticks_none setup desk label Wired = either _ halt _ halt refl (unwires_nothing setup desk label.number)

  ticks_nothing_found : (setup : Setup) (desk : Desk) (o : Option Label) → ticks_found setup desk halt o ≡ halt
  ticks_nothing_found setup desk None = refl
  ticks_nothing_found setup desk (Some label) = ticks_none setup desk label label.state

  pub ticks_nothing : (setup : Setup) (desk : Desk) (number : ℕ) → ticks_label setup desk halt number ≡ halt
  ticks_nothing setup desk number = ticks_nothing_found setup desk (label_at port number)

  expires_nothing : (setup : Setup) (grant : Grant) (state : GrantState) → expires setup halt grant state ≡ halt
  expires_nothing setup grant Idle = refl
  expires_nothing setup grant ByController = refl
  expires_nothing setup grant (ByInput input) = refl
  expires_nothing setup grant (Leaving input owed) = refl

  ages_none : (setup : Setup) (grant : Grant) (state : GrantState) → ages_in setup halt grant state ≡ halt
  ages_none setup grant Idle = either _ _ halt halt (expires_nothing setup grant Idle) refl
  ages_none setup grant ByController = either _ _ halt halt (expires_nothing setup grant ByController) refl
  ages_none setup grant (ByInput input) = either _ _ halt halt (expires_nothing setup grant (ByInput input)) refl
  ages_none setup grant (Leaving input owed) = refl

  ages_nothing_found : (setup : Setup) (o : Option Grant) → ages_found setup halt o ≡ halt
  ages_nothing_found setup None = refl
  ages_nothing_found setup (Some grant) = ages_none setup grant grant.state

  pub ages_nothing : (setup : Setup) (label : ℕ) → ages setup halt label ≡ halt
  ages_nothing setup label = ages_nothing_found setup (at grant_label label port.grants)

  pub nudges_nothing : (setup : Setup) → nudges setup halt ≡ halt
  nudges_nothing setup = either _ _ halt halt (says_nothing (label_range setup)) refl

  -- the rest of a tick
  pub moves_nothing : (setup : Setup) (w : Work) → w ≡ halt → moves_windows setup (nudges setup w) ≡ halt
  moves_nothing setup w is = ap (λ v. moves_windows setup (nudges setup v)) is ∙ ap (moves_windows setup) (nudges_nothing setup)

  labels_nothing : (setup : Setup) (desk : Desk) (w : Work) → w ≡ halt
      → moves_windows setup (nudges setup (fold (ticks_label setup desk) w (map label_number (labels_of w.port)))) ≡ halt
  labels_nothing setup desk w is =
      ap (λ v. moves_windows setup (nudges setup (fold (ticks_label setup desk) v (map label_number (labels_of v.port))))) is
      ∙ moves_nothing setup (fold (ticks_label setup desk) halt (map label_number (labels_of port)))
      (round_still (ticks_label setup desk) halt (ticks_nothing setup desk) (map label_number (labels_of port)))

  rest_nothing : (setup : Setup) (desk : Desk) (o : Option Session) → ticks_session setup desk halt o ≡ halt
  rest_nothing setup desk None = refl
  rest_nothing setup desk (Some s) =
      labels_nothing setup desk (fold (ages setup) halt (map grant_label port.grants))
      (round_still (ages setup) halt (ages_nothing setup) (map grant_label port.grants))

  pub ticks_next_nothing : (setup : Setup) (desk : Desk) → ticks_next setup desk halt ≡ halt
  ticks_next_nothing setup desk = rest_nothing setup desk port.session
