-- what joins, releases and resets are to a port keeps what holds of it

use Rattle.std.proofs.Common.{◌≡◌, ◌≢◌, ℕ, ◌≤◌, Bool, true, false, List, [], ◌∷◌, ◌++◌, length, Option, None, Some, refl, sym, ◌∙◌, ap, subst, arith, length-append, inl, inr}
use Rattle.std.specs.Prelude.{map, flat_map, is_some}
use Rattle.port_model.specs.Words.{End, Clearing, is_estab, knows_peer, label_channel_of, at, Setup, Label, Wiring, Offered, Grant, GrantState, Idle, ByController, ByInput, Leaving, grant_label, is_leaving, Session, Work, without_grant, label_at, reclaim_ack, joins_label, parted, lent, given_back_in, given_back, next_side, closing, left_in, left_of, taking_back_in, taking_back, withdrawing, resets, restarts, withdrawing_in, withdrawing_of}
use Rattle.ordered_lists.specs.Ordered.{Every, InOrder}
use Rattle.ordered_lists.proofs.Every.{every_join}
use Rattle.port_model.specs.declared.action.Action.TheVariants.{CutChain}
use Rattle.port_model.specs.Grants.{lent_input}
use Rattle.port_model.specs.Port.{Port}
use Rattle.port_model.specs.Joins.{joined, ended}
use Rattle.port_model.specs.Resets.{cleared}
use Rattle.law_port_facts.specs.Port.{setup_port, IsLabelEnd, IsLabel, IsGrant, IsApart, owes_nothing, GrantOwesNothing, IsPort, empties_port, IsAction, IsWork}
use Rattle.law_port_facts.proofs.Kept.{own_end, tells_kept, label_kept, found_label, grant_kept, gone_grant_kept, found_grant, found_owes, leaves}

-- *A port that begins anew* has no session and no grants
pub begun_kept : (setups : List Setup) (setup : Setup) (instances redirects : ℕ)
    → IsPort setups setup (record { adjacency = next_side setup instances; session = None; grants = []; redirects = redirects })
begun_kept setups setup instances redirects = record {
  side = record { peer = refl; silence = omega arith };
  session = refl;
  labels = tt;
  ascend = tt;
  grants = tt;
  apart = tt;
  few = omega arith;
  closed = λ e. tt;
  cleared = λ e. inl refl;
}

module _ (setups : List Setup) (setup : Setup) (linked : at setup_port setup.port.0 setups ≡ Some setup) where
  -- *A join is entered at its label*, and goes
  joins_label_kept : (w : Work) (join : Option End) (number : ℕ) (o : Option Label) → ((output : End) → join ≡ Some output → IsLabelEnd setups output)
      → ((label : Label) → o ≡ Some label → label.state ≡ Wiring → join ≡ None) → label_at w.port number ≡ o
      → IsWork setups setup w → IsWork setups setup (joins_label w join o)
  joins_label_kept w join number None ends wired found h = h
  joins_label_kept w join number (Some label) ends wired found h =
      let was : IsLabel setups setup label = found_label setups setup linked w number label found h in
      label_kept setups setup linked w (record label { join = join }) (record { in_range = was.in_range; output = ends; unjoined = λ e. wired label refl e }) h

  pub parted_kept : (w : Work) (number : ℕ) → IsWork setups setup w → IsWork setups setup (parted w number)
  parted_kept w number h = joins_label_kept w None number (label_at w.port number) (λ output e. absurd (cc e)) (λ label e is. refl) refl h

  pub joined_kept : (w : Work) (number : ℕ) (output : End) → IsLabelEnd setups output → ((label : Label) → label_at w.port number ≡ Some label → label.state ≡ Offered)
      → IsWork setups setup w → IsWork setups setup (joined w number output)
  joined_kept w number output end offered h = joins_label_kept w (Some output) number (label_at w.port number)
      (λ out e. (let same : output ≡ out = cc in subst (IsLabelEnd setups) same end))
      (λ label e is. absurd (cc (sym (offered label e) ∙ is))) refl h

  -- *A grant is lent*, and given back
  pub lent_kept : (w : Work) (grant : Grant) (input : End) → at grant_label grant.label w.port.grants ≡ Some grant → grant.state ≡ ByController → IsLabelEnd setups input
      → IsWork setups setup w → IsWork setups setup (lent w grant input)
  lent_kept w grant input found is end h =
      let was : IsGrant setups setup grant = found_grant setups setup linked w grant.label grant found h in
      grant_kept setups setup linked w (record grant { state = ByInput input })
      (record { in_range = was.in_range; input = λ given e. (let same : input ≡ given = cc in subst (IsLabelEnd setups) same end); lives = λ e. was.lives (ap is_leaving is) })
      (λ e. absurd (cc (sym (leaves setups setup linked grant.state (found_owes setups setup linked w grant.label grant found e h)) ∙ ap is_leaving is))) h

  ended_kept : (w : Work) (grant : Grant) (owed : Bool) → IsWork setups setup w → IsWork setups setup (ended w grant owed)
  ended_kept w grant true h = tells_kept setups setup linked (without_grant w grant.label) (reclaim_ack (label_channel_of grant.label) grant.flow) (gone_grant_kept setups setup linked w grant.label h)
  ended_kept w grant false h = gone_grant_kept setups setup linked w grant.label h

  given_back_in_kept : (w : Work) (grant : Grant) (state : GrantState) → at grant_label grant.label w.port.grants ≡ Some grant → grant.state ≡ state
      → IsWork setups setup w → IsWork setups setup (given_back_in w grant state)
  given_back_in_kept w grant Idle found is h = h
  given_back_in_kept w grant ByController found is h = h
  given_back_in_kept w grant (ByInput input) found is h =
      let was : IsGrant setups setup grant = found_grant setups setup linked w grant.label grant found h in
      grant_kept setups setup linked w (record grant { state = ByController })
      (record { in_range = was.in_range; input = λ given e. absurd (cc e); lives = λ e. was.lives (ap is_leaving is) })
      (λ e. absurd (cc (sym (leaves setups setup linked grant.state (found_owes setups setup linked w grant.label grant found e h)) ∙ ap is_leaving is))) h
  given_back_in_kept w grant (Leaving input owed) found is h = ended_kept w grant owed h

  pub given_back_kept : (w : Work) (grant : Grant) → at grant_label grant.label w.port.grants ≡ Some grant → IsWork setups setup w → IsWork setups setup (given_back w grant)
  given_back_kept w grant found h = given_back_in_kept w grant grant.state found refl h

  -- *Resets*
  closing_kept : (o : Option Session) → Every (IsAction setups) (closing setup o)
  closing_kept None = tt
  closing_kept (Some s) = (tt, cuts s.labels)
    where
      cuts : (labels : List Label) → Every (IsAction setups) (map (λ (label : Label). CutChain label.number) labels)
      cuts [] = tt
      cuts (label ∷ labels) = (tt, cuts labels)

  withdrawing_in_kept : (label : ℕ) (state : GrantState) → Every (IsAction setups) (withdrawing_in setup label state)
  withdrawing_in_kept label Idle = (tt, tt)
  withdrawing_in_kept label ByController = (tt, tt)
  withdrawing_in_kept label (ByInput input) = tt
  withdrawing_in_kept label (Leaving input owed) = tt

  withdrawing_kept : (grants : List Grant) → Every (IsAction setups) (withdrawing setup grants)
  withdrawing_kept [] = tt
  withdrawing_kept (grant ∷ grants) = every_join (IsAction setups) (withdrawing_of setup grant) (withdrawing setup grants) (withdrawing_in_kept grant.label grant.state) (withdrawing_kept grants)

  taking_in_kept : (grant : Grant) (state : GrantState) → grant.state ≡ state → IsGrant setups setup grant → Every (IsAction setups) (taking_back_in setup grant state)
  taking_in_kept grant Idle is fits = tt
  taking_in_kept grant ByController is fits = tt
  taking_in_kept grant (ByInput input) is fits = ((fits.input input (ap lent_input is), own_end setups setup linked grant.label fits.in_range), tt)
  taking_in_kept grant (Leaving input owed) is fits = tt

  taking_kept : (grants : List Grant) → Every (IsGrant setups setup) grants → Every (IsAction setups) (flat_map (taking_back setup) grants)
  taking_kept [] h = tt
  taking_kept (grant ∷ grants) h = every_join (IsAction setups) (taking_back setup grant) (flat_map (taking_back setup) grants) (taking_in_kept grant grant.state refl h.0) (taking_kept grants h.1)

  -- what is left of the grants
  left_in_each : (P : Grant → Type 0) (grant : Grant) (state : GrantState) → ((input : End) → lent_input state ≡ Some input → P (record grant { state = Leaving input false })) → Every P (left_in grant state)
  left_in_each P grant Idle keeps = tt
  left_in_each P grant ByController keeps = tt
  left_in_each P grant (ByInput input) keeps = (keeps input refl, tt)
  left_in_each P grant (Leaving input owed) keeps = (keeps input refl, tt)

  left_each : (Q P : Grant → Type 0) (grants : List Grant) → Every Q grants → ((grant : Grant) → Q grant → (input : End) → lent_input grant.state ≡ Some input → P (record grant { state = Leaving input false }))
      → Every P (flat_map left_of grants)
  left_each Q P [] h keeps = tt
  left_each Q P (grant ∷ grants) h keeps = every_join P (left_of grant) (flat_map left_of grants) (left_in_each P grant grant.state (keeps grant h.0)) (left_each Q P grants h.1 keeps)

  left_in_apart : (grant : Grant) (state : GrantState) (rest : List Grant) → Every (λ (y : Grant). grant.label ≢ y.label) rest → InOrder IsApart rest → InOrder IsApart (left_in grant state ++ rest)
  left_in_apart grant Idle rest h k = k
  left_in_apart grant ByController rest h k = k
  left_in_apart grant (ByInput input) rest h k = (h, k)
  left_in_apart grant (Leaving input owed) rest h k = (h, k)

  left_apart : (grants : List Grant) → InOrder IsApart grants → InOrder IsApart (flat_map left_of grants)
  left_apart [] h = tt
  left_apart (grant ∷ grants) h = left_in_apart grant grant.state (flat_map left_of grants)
      (left_each (λ (y : Grant). grant.label ≢ y.label) (λ (y : Grant). grant.label ≢ y.label) grants h.0 (λ y apart input e. apart)) (left_apart grants h.1)

  left_in_few : (grant : Grant) (state : GrantState) → length (left_in grant state) ≤ 1
  left_in_few grant Idle = omega arith
  left_in_few grant ByController = omega arith
  left_in_few grant (ByInput input) = omega arith
  left_in_few grant (Leaving input owed) = omega arith

  pub left_few : (grants : List Grant) → length (flat_map left_of grants) ≤ length grants
  left_few [] = omega arith
  left_few (grant ∷ grants) = omega (arith, length-append (left_of grant) (flat_map left_of grants), left_in_few grant grant.state, left_few grants)

  pub resets_kept : (w : Work) → IsWork setups setup w → IsWork setups setup (resets setup w)
  resets_kept w h =
      let after : Port = record w.port { adjacency = next_side setup w.instances; session = None; grants = flat_map left_of w.port.grants } in
      let port : IsPort setups setup after = record {
        side = record { peer = refl; silence = omega arith };
        session = refl;
        labels = tt;
        ascend = tt;
        grants = left_each (IsGrant setups setup) (IsGrant setups setup) w.port.grants h.port.grants (λ grant fits input is. record {
          in_range = fits.in_range;
          input = λ given e. (let same : input ≡ given = cc in fits.input given (is ∙ ap Some same));
          lives = λ e. absurd (cc e);
        });
        apart = left_apart w.port.grants h.port.apart;
        few = omega (arith, left_few w.port.grants, h.port.few);
        closed = λ e. left_each (IsGrant setups setup) GrantOwesNothing w.port.grants h.port.grants (λ grant fits input is. owes_nothing input);
        cleared = λ e. inl refl;
      } in
      record {
        port = port;
        actions = every_join (IsAction setups) w.actions _ h.actions (every_join (IsAction setups) (closing setup w.port.session) _ (closing_kept w.port.session)
            (every_join (IsAction setups) (withdrawing setup w.port.grants) _ (withdrawing_kept w.port.grants) (every_join (IsAction setups) (flat_map (taking_back setup) w.port.grants) _ (taking_kept w.port.grants h.port.grants)
            ((empties_port setup.port (ap is_some linked), tt), tt))));
      }

  pub restarts_kept : (w : Work) → IsWork setups setup w → IsWork setups setup (restarts setup w)
  restarts_kept w h = record {
    port = begun_kept setups setup w.instances w.port.redirects;
    actions = every_join (IsAction setups) w.actions (closing setup w.port.session) h.actions (closing_kept w.port.session);
  }

  -- one in Clearing without a grant is cleared
  pub cleared_kept : (port : Port) → port.adjacency.state ≡ Clearing → port.grants ≡ [] → IsPort setups setup port → IsPort setups setup (cleared port)
  cleared_kept port clearing none h = record {
    side = record { peer = h.side.peer ∙ ap knows_peer clearing; silence = h.side.silence };
    session = h.session ∙ ap is_estab clearing;
    labels = h.labels;
    ascend = h.ascend;
    grants = h.grants;
    apart = h.apart;
    few = h.few;
    closed = λ e. subst (Every GrantOwesNothing) (sym none) tt;
    cleared = λ e. inr none;
  }
