-- what a port keeps and says fits: the smallest changes of a port at work

use Rattle.std.proofs.Common.{◌≡◌, ℕ, ◌<◌, ◌+◌, true, List, [], ◌∷◌, ◌++◌, Option, None, Some, arith, fold}
use Rattle.std.specs.Prelude.{◌^◌, nat_lt}
use Rattle.std.specs.Option.{option_map, option_map_or}
use Rattle.std.proofs.lemmas.Bool.Decides.{nat_tests}
use Rattle.law_port_facts.specs.port_model.Words.{Channel, Instance, Peer, label_channel_of, Side, FlowId, FitsFields, FitsMessage, at, put, without, Setup, Label, label_number, Grant, grant_label, Session, Work, halts, with_session, with_label, without_label, with_grants, with_grant, without_grant, labels_of, Unnumbered, last_number, spent_number, own_instance, is_spent, tells_in, tells, halts_if_spent, redirect, reclaim, reclaim_ack, label_range, error}
use Rattle.law_port_facts.specs.ordered_lists.Ordered.{Every}
use Rattle.law_port_facts.proofs.Keyed.{on_both, on_each, at_every, put_every, without_every, every_more}
use Rattle.law_port_facts.specs.port_model.declared.action.Action.{Action}
use Rattle.law_port_facts.specs.port_model.declared.action.Action.TheVariants.{Say, Reset}
use Rattle.law_port_facts.specs.port_model.Port.{with_action}
use Rattle.law_port_facts.specs.port_model.Saying.{peer_instance, says}
use Rattle.law_port_widths.specs.Widths.{FitsStored, FitsLabel, FitsGrant, FitsAction, FitsWork, FitsSetup}

abbrev pub Small : ℕ → Type 0
Small n = n < 2 ^ 32

pub acts_fit : (w : Work) (action : Action) → FitsAction action → FitsWork w → FitsWork (with_action w action)
acts_fit w action may h = on_both FitsWork w.halted w (record w { actions = w.actions ++ action ∷ [] }) h (record { port = h.port; said = every_more FitsAction w.actions action h.said may })

pub halts_fit : (w : Work) → FitsWork w → FitsWork (halts w)
halts_fit w h = (let k : FitsWork (with_action w Reset) = acts_fit w Reset tt h in record { port = k.port; said = k.said })

-- a session is another
pub session_fits : (w : Work) (change : Session → Session)
    → ((s : Session) → Small s.expected → Every FitsLabel s.labels → Small (change s).expected × Every FitsLabel (change s).labels) → FitsWork w → FitsWork (with_session w change)
session_fits w change keeps h = on_both FitsWork w.halted w (record w { port = record w.port { session = option_map change w.port.session } }) h
    (record {
      port = record { own = h.port.own; stored = h.port.stored; expected = (held w.port.session h.port.expected h.port.labels).0; labels = (held w.port.session h.port.expected h.port.labels).1; grants = h.port.grants };
      said = h.said;
    })
  where
    held : (o : Option Session) → Small (option_map_or (λ (s : Session). s.expected) o 1) → Every FitsLabel (option_map_or (λ (s : Session). s.labels) o [])
        → Small (option_map_or (λ (s : Session). s.expected) (option_map change o) 1) × Every FitsLabel (option_map_or (λ (s : Session). s.labels) (option_map change o) [])
    held None e l = (e, l)
    held (Some s) e l = keeps s e l

pub label_fits : (w : Work) (label : Label) → FitsLabel label → FitsWork w → FitsWork (with_label w label)
label_fits w label fits h = session_fits w (λ s. record s { labels = put label_number label s.labels }) (λ s e l. (e, put_every label_number FitsLabel label s.labels fits l)) h

pub no_label_fits : (w : Work) (number : ℕ) → FitsWork w → FitsWork (without_label w number)
no_label_fits w number h = session_fits w (λ s. record s { labels = without label_number number s.labels }) (λ s e l. (e, without_every label_number FitsLabel number s.labels l)) h

pub grants_fit : (w : Work) (gs : List Grant) → Every FitsGrant gs → FitsWork w → FitsWork (with_grants w gs)
grants_fit w gs all h = on_both FitsWork w.halted w (record w { port = record w.port { grants = gs } }) h
    (record { port = record { own = h.port.own; stored = h.port.stored; expected = h.port.expected; labels = h.port.labels; grants = all }; said = h.said })

pub grant_fits : (w : Work) (grant : Grant) → FitsGrant grant → FitsWork w → FitsWork (with_grant w grant)
grant_fits w grant fits h = grants_fit w (put grant_label grant w.port.grants) (put_every grant_label FitsGrant grant w.port.grants fits h.port.grants) h

pub no_grant_fits : (w : Work) (label : ℕ) → FitsWork w → FitsWork (without_grant w label)
no_grant_fits w label h = grants_fit w (without grant_label label w.port.grants) (without_every grant_label FitsGrant label w.port.grants h.port.grants) h

pub found_label : (w : Work) (number : ℕ) (label : Label) → at label_number number (labels_of w.port) ≡ Some label → FitsWork w → FitsLabel label
found_label w number label found h = at_every label_number FitsLabel number (labels_of w.port) label h.port.labels found

pub found_grant : (w : Work) (label : ℕ) (grant : Grant) → at grant_label label w.port.grants ≡ Some grant → FitsWork w → FitsGrant grant
found_grant w label grant found h = at_every grant_label FitsGrant label w.port.grants grant h.port.grants found

-- *What is said*: whatever numbers of 32 bits it has
abbrev pub FitsSaid : Unnumbered → Type 0
FitsSaid message = (own peer : Instance) (n : ℕ) → Small own.0 → Small peer.0 → Small n → FitsMessage (message own peer n)

peer_fits : (side : Side Peer) → FitsStored side.stored → Small (peer_instance side).0
peer_fits side h = by side.stored h
  where
    by : (o : Option Peer) → FitsStored o → Small (option_map_or (λ (p : Peer). p.instance) o (record { 0 = 0 })).0
    by None k = omega arith
    by (Some p) k = k.0

below : (n : ℕ) → nat_lt n last_number ≡ true → Small n
below n e = grind (arith, nat_tests)

pub tells_fit : (w : Work) (message : Unnumbered) → FitsSaid message → FitsWork w → FitsWork (tells w message)
tells_fit w message may h = told w.port.session
  where
    told : (o : Option Session) → FitsWork (tells_in w message o)
    told None = h
    told (Some s) =
        let next : Work = with_session w (λ session. record session { number = s.number + 1 }) in
        let said : Action = Say (message (own_instance w.port.adjacency) (peer_instance w.port.adjacency) s.number) in
        on_each FitsWork (nat_lt s.number last_number) (with_action next said) (with_session w (λ session. record session { number = spent_number }))
        (λ t. acts_fit next said (may (own_instance w.port.adjacency) (peer_instance w.port.adjacency) s.number h.port.own.0 (peer_fits w.port.adjacency h.port.stored) (below s.number t))
        (session_fits w (λ session. record session { number = s.number + 1 }) (λ z e l. (e, l)) h))
        (λ t. session_fits w (λ session. record session { number = spent_number }) (λ z e l. (e, l)) h)

pub closes_fit : (w : Work) → FitsWork w → FitsWork (halts_if_spent w)
closes_fit w h = on_both FitsWork (is_spent w.port.session) (halts w) w (halts_fit w h) h

pub says_fit : (w : Work) (message : Unnumbered) → FitsSaid message → FitsWork w → FitsWork (says w message)
says_fit w message may h = closes_fit (tells w message) (tells_fit w message may h)

-- *The messages*
vci_fits : (number : ℕ) → (label_channel_of number).vci < 2 ^ 16
vci_fits number = omega arith

pub redirect_fits : (setup : Setup) (label : Label) → FitsSetup setup → FitsLabel label → FitsSaid (redirect setup label)
redirect_fits setup label s fits own peer n a b c = ((a, b, c), s.lifetime, vci_fits label.number, fits)

pub reclaim_fits : (label : Label) → FitsLabel label → FitsSaid (reclaim label)
reclaim_fits label fits own peer n a b c = ((a, b, c), vci_fits label.number, fits)

pub ack_fits : (channel : Channel) (flow : FlowId) → channel.vci < 2 ^ 16 → FitsFields flow → FitsSaid (reclaim_ack channel flow)
ack_fits channel flow vci fits own peer n a b c = ((a, b, c), vci, fits)

pub label_ack_fits : (number : ℕ) (flow : FlowId) → FitsFields flow → FitsSaid (reclaim_ack (label_channel_of number) flow)
label_ack_fits number flow fits = ack_fits (label_channel_of number) flow (vci_fits number) fits

pub range_fits : (setup : Setup) → FitsSaid (label_range setup)
range_fits setup own peer n a b c = ((a, b, c), vci_fits setup.least, vci_fits setup.greatest)

pub error_fits : (code : ℕ) (channel : Channel) → code < 2 ^ 8 → channel.vci < 2 ^ 16 → FitsSaid (error code channel)
error_fits code channel few vci own peer n a b c = ((a, b, c), few, vci)

-- *A fold*
pub fold_fits : {A : Type 0} (f : Work → A → Work) → ((v : Work) (x : A) → FitsWork v → FitsWork (f v x)) → (xs : List A) (w : Work) → FitsWork w → FitsWork (fold f w xs)
fold_fits f each [] w h = h
fold_fits f each (x ∷ xs) w h = fold_fits f each xs (f w x) (each w x h)
